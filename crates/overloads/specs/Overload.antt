-- One job at a time (01; 02, Item 3): when a set of jobs is overloaded, and the pair a, b that the overload check answers. A job whose window is too
-- short is an overloaded set by itself; then a may exceed b.
-- Job k of the n jobs has earliest start `W.e ! k`, latest end `W.l ! k` and duration `p ! k`.
use Rattle.std.specs.Prelude.{ℕ, ◌+◌, ◌≤◌, ◌<◌, ◌≡◌, Bool, true, false, List, [], ◌∷◌, leb, ltb}
use Rattle.answers.specs.Said.{Said, Word, said}
use Rattle.lists.specs.Lists.{◌!◌}
use Rattle.lists.specs.Tests.{both, some?}
use Rattle.lists.specs.Sets.{Set, total_of, LeastOf, GreatestOf, above, most, fewest}
use Rattle.narrowing.specs.Windows.{Win}

-- the set's least e plus its total p exceeds its greatest l (001, rule OL); such a set has a member
pub record Overloaded (n : ℕ) (p : List ℕ) (W : Win) (T : Set) : Type 0 where
  pub from : ℕ
  pub least : LeastOf n W.e T from
  pub upto : ℕ
  pub greatest : GreatestOf n W.l T upto
  pub over : upto < from + total_of n p T

-- no non-empty set of jobs is overloaded
abbrev pub NoneOverloaded : ℕ → List ℕ → Win → Type 0
NoneOverloaded n p W = (T : Set) → Overloaded n p W T → ⊥

-- the jobs with l ≤ b, and of these the ones with e ≥ a
abbrev pub by : Win → ℕ → Set
by W b k = leb (W.l ! k) b

abbrev pub window : Win → ℕ → ℕ → Set
window W a b = above W.e (by W b) a

-- a is some job's e, b some job's l, and the jobs between them, of which there are some, last longer than b - a
pub record OverloadedPair (n : ℕ) (p : List ℕ) (W : Win) (a b : ℕ) : Type 0 where
  pub start : (i : ℕ) × (i < n) × (W.e ! i ≡ a)
  pub stop : (i : ℕ) × (i < n) × (W.l ! i ≡ b)
  pub some : (i : ℕ) × (i < n) × (window W a b i ≡ true)
  pub over : b < a + total_of n p (window W a b)

-- 01's answer: b the least latest end, and for it a the greatest earliest start, of such a pair
pub record FirstPair (n : ℕ) (p : List ℕ) (W : Win) (a b : ℕ) : Type 0 where
  pub pair : OverloadedPair n p W a b
  pub least : (a' b' : ℕ) → OverloadedPair n p W a' b' → b ≤ b'
  pub greatest : (a' : ℕ) → OverloadedPair n p W a' b → a' ≤ a

-- ---- the same, computed

-- some jobs lie between a and b, and they last longer than b - a
unfoldable pub pair? : ℕ → List ℕ → Win → ℕ → ℕ → Bool
unfolding some? total_of
pair? n p W a b = both (some? (window W a b) n) (ltb b (a + total_of n p (window W a b)))

-- the jobs whose latest end is such a b; for b, those whose earliest start is such an a
unfoldable pub stops : ℕ → List ℕ → Win → Set
unfolding some? pair?
stops n p W k = some? (λ i. pair? n p W (W.e ! i) (W.l ! k)) n

unfoldable pub starts : ℕ → List ℕ → Win → ℕ → Set
unfolding pair?
starts n p W b i = pair? n p W (W.e ! i) b

-- what the check finds: nothing, or a and b
pub data Finding : Type 0 where
  nothing : Finding
  pair : ℕ → ℕ → Finding

-- a and b where the test passes
abbrev pub finding_if : Bool → ℕ → ℕ → Finding
finding_if true a b = Finding.pair a b
finding_if false a b = nothing

-- b the least of the stops' latest ends, and a the greatest of the starts' earliest starts for it
unfoldable pub overload : ℕ → List ℕ → Win → Finding
unfolding some? stops starts most fewest
overload n p W =
    let b = fewest (stops n p W) (λ k. W.l ! k) (most (λ k. true) (λ k. W.l ! k) 0 n) n in
    let a = most (starts n p W b) (λ k. W.e ! k) 0 n in
    finding_if (some? (stops n p W) n) a b

-- a finding is right: the pair is 01's, and where nothing is found there is no pair
abbrev pub Finds : ℕ → List ℕ → Win → Finding → Type 0
Finds n p W nothing = (a b : ℕ) → OverloadedPair n p W a b → ⊥
Finds n p W (Finding.pair a b) = FirstPair n p W a b

-- a finding in the paper's words
abbrev pub found_said : Finding → Said
found_said nothing = said Word.none []
found_said (Finding.pair a b) = said Word.overload (a ∷ b ∷ [])
