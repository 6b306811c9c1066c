-- 001's Theta-tree (2.5.2) of any size: a complete binary tree whose m leaves are the nodes m to 2m - 1. Node v has the children 2v and
-- 2v + 1, and 1 is the root. Job j's leaf is m + σ j, where σ gives the places by earliest start. Each node holds the total duration
-- (`sums`) and the completion (`ends`) of the jobs below it that are in the tree.
use Rattle.std.specs.Prelude.{ℕ, zero, suc, ◌+◌, ◌*◌, ◌/◌, ◌≤◌, ◌<◌, ◌≡◌, true, cond, List, leb, ltb, ℤ, pos, negsuc, ◌+ℤ◌, length, get_or}
use Rattle.std.proofs.Math.Option.{Option, none, some}
use Rattle.std.specs.Int.Signed.{mag, lt_z}
use Rattle.joblist.specs.Limits.{most_time}
use Rattle.lists.specs.Lists.{◌!◌}
use Rattle.lists.specs.Tests.{both, pick}
use Rattle.lists.specs.Sets.{Set}

-- the levels below the root of the code's tree: 2 ^ depth leaves, one for each job that a list may have
abbrev pub depth : ℕ
depth = 8

-- the completion that node v holds
abbrev pub end_of : List ℤ → ℕ → ℤ
end_of ends v = get_or ends v (pos 0)

-- how far below 0 an empty node's completion lies
abbrev pub far : ℕ
far = 1000000000000

-- that completion
abbrev pub empty : ℤ
empty = negsuc 999999999999

-- a set's completion as a node holds it
abbrev pub signed : Option ℕ → ℤ
signed none = empty
signed (some b) = pos b

-- 2.22: the later of the right completion and the left one with the right total after it
abbrev pub joined : ℤ → ℤ → ℕ → ℤ
joined left right total = cond (lt_z (left +ℤ pos total) right) right (left +ℤ pos total)

-- node v is what its children say (2.20 and 2.22)
pub record Joins (sums : List ℕ) (ends : List ℤ) (v : ℕ) : Type 0 where
  pub sum_is : sums ! v ≡ sums ! (2 * v) + sums ! (2 * v + 1)
  pub end_is : end_of ends v ≡ joined (end_of ends (2 * v)) (end_of ends (2 * v + 1)) (sums ! (2 * v + 1))

-- every inner node is
abbrev pub AllJoin : ℕ → List ℕ → List ℤ → Type 0
AllJoin m sums ends = (v : ℕ) → 1 ≤ v → v < m → Joins sums ends v

-- each job has a leaf of its own, by rising earliest start from left to right (2.21)
pub record Places (n m : ℕ) (e : List ℕ) (σ : ℕ → ℕ) : Type 0 where
  pub into : (j : ℕ) → j < n → σ j < m
  pub apart : (i j : ℕ) → i < n → j < n → σ i ≡ σ j → i ≡ j
  pub rising : (i j : ℕ) → i < n → j < n → σ i ≤ σ j → e ! i ≤ e ! j

-- the tree holds the jobs of the set O
pub record HoldsSet (n m : ℕ) (e p : List ℕ) (σ : ℕ → ℕ) (O : Set) (sums : List ℕ) (ends : List ℤ) : Type 0 where
  pub joins : AllJoin m sums ends
  pub full_sum : (j : ℕ) → j < n → O j ≡ true → sums ! (m + σ j) ≡ p ! j
  pub full_end : (j : ℕ) → j < n → O j ≡ true → end_of ends (m + σ j) ≡ pos (e ! j + p ! j)
  pub bare_sum : (x : ℕ) → x < m → ((j : ℕ) → j < n → O j ≡ true → σ j ≡ x → ⊥) → sums ! (m + x) ≡ 0
  pub bare_end : (x : ℕ) → x < m → ((j : ℕ) → j < n → O j ≡ true → σ j ≡ x → ⊥) → end_of ends (m + x) ≡ empty

-- the jobs of O whose places are the s from a: the leaves below a node
abbrev pub at_leaves : (ℕ → ℕ) → Set → ℕ → ℕ → Set
at_leaves σ O a s j = both (O j) (both (leb a (σ j)) (ltb (σ j) (a + s)))

-- the jobs of O whose places are a and those after it
abbrev pub onward : (ℕ → ℕ) → Set → ℕ → Set
onward σ O a j = both (O j) (leb a (σ j))

-- where the descent from node v ends, h levels down: right where the right completion with the tail t after it exceeds b, else left
-- with the right total in the tail
unfoldable pub descent : List ℕ → List ℤ → ℕ → ℕ → ℕ → ℕ → ℕ
descent sums ends b zero v t = v
descent sums ends b (suc h) v t =
    let right = lt_z (pos b) (end_of ends (2 * v + 1) +ℤ pos t) in
    descent sums ends b h (pick right (2 * v + 1) (2 * v)) (pick right t (t + sums ! (2 * v + 1)))

-- what keeps the numbers in range: the lists' lengths, and a bound at each node that its children's bounds give
pub record Ranged (m : ℕ) (sums : List ℕ) (ends : List ℤ) : Type 0 where
  pub sums_long : length sums ≡ 2 * m
  pub ends_long : length ends ≡ 2 * m
  pub weight : (v : ℕ) → sums ! v * v ≤ 2 * most_time * m
  pub near : (v : ℕ) → mag (end_of ends v) ≤ far + sums ! v

-- the numbers of all nodes, as the code holds them
pub record Nodes : Type 0 where
  pub sums : List ℕ
  pub ends : List ℤ

-- a tree in range whose nodes join
pub record Sound (m : ℕ) (sums : List ℕ) (ends : List ℤ) : Type 0 where
  pub ranged : Ranged m sums ends
  pub joins : AllJoin m sums ends

-- node i has been changed: every inner node but its parent is what its children say
pub record Touched (m : ℕ) (sums : List ℕ) (ends : List ℤ) (i : ℕ) : Type 0 where
  pub from : 1 ≤ i
  pub below : i < 2 * m
  pub ranged : Ranged m sums ends
  pub joins : (v : ℕ) → 1 ≤ v → v < m → (1 < i → v ≡ i / 2 → ⊥) → Joins sums ends v

-- the tree after a change of leaves: every inner node is what its children say, and nothing else has changed
pub record Climbed (m : ℕ) (sums : List ℕ) (ends : List ℤ) (sums' : List ℕ) (ends' : List ℤ) : Type 0 where
  pub ranged : Ranged m sums' ends'
  pub joins : AllJoin m sums' ends'
  pub sums_kept : (v : ℕ) → (1 ≤ v → v < m → ⊥) → sums' ! v ≡ sums ! v
  pub ends_kept : (v : ℕ) → (1 ≤ v → v < m → ⊥) → end_of ends' v ≡ end_of ends v
