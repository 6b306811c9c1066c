-- A member put into a set, over the number of words: the words stay words and as many, and nobody else becomes a member.
use Prim.Native.Nat.{ℕ, ◌*◌, ◌/◌, ◌%◌, ◌^◌, ◌≤◌, ◌<◌}
use mathlib.Core.Path.{◌≡◌}
use mathlib.Core.Bool.{true}
use mathlib.Core.List.{List}
use native.Mathlib.Omega.{arith}
use native.Mathlib.Decide.{dec_lt, ℕ_discrete}
use borrow.Author.Tests.{eq-eqb}
use lib.Bits.{bit_or, or_lt}
use lib.ListN.{length, length-set}
use lib.Pow.{pow-lt}
use lib.Seq.{get_or-set_same, get_or-set_other, set_out}
use Rattle.lists.specs.Lists.{◌!◌}
use Rattle.lists.proofs.Lists.{set_any}
use Rattle.members.specs.Members.{has, inserted, AreWords}
use Rattle.members.proofs.Bits.{or_same, or_other}

pub inserted_length : (ws : List ℕ) (k : ℕ) → length (inserted ws k) ≡ length ws
unfolding inserted
inserted_length ws k = length-set ws (k / 32) (bit_or (ws ! (k / 32)) (2 ^ (k % 32)))

pub inserted_words : (ws : List ℕ) (k : ℕ) → AreWords ws → AreWords (inserted ws k)
unfolding inserted
inserted_words ws k h q =
    let bit : 2 ^ (k % 32) < 2 ^ 32 = pow-lt {i = k % 32} {j = 32} (omega arith) in
    set_any (λ x. x < 2 ^ 32) ws (k / 32) (bit_or (ws ! (k / 32)) (2 ^ (k % 32))) q (λ e. or_lt 32 (ws ! (k / 32)) (2 ^ (k % 32)) (h (k / 32)) bit) (h q)

-- beyond the words nothing is put in
pub inserted_past : (ws : List ℕ) (k : ℕ) → 32 * length ws ≤ k → inserted ws k ≡ ws
unfolding inserted
inserted_past ws k h = set_out ws (k / 32) (bit_or (ws ! (k / 32)) (2 ^ (k % 32))) (omega arith)

pub inserted_same : (ws : List ℕ) (k : ℕ) → k < 32 * length ws → has (inserted ws k) k ≡ true
unfolding inserted has
inserted_same ws k h =
    let x = ws ! (k / 32) in
    rw (get_or-set_same ws (k / 32) (bit_or x (2 ^ (k % 32))) 0 (omega arith)) (eq-eqb _ 1 (or_same x (k % 32)))

pub inserted_other : (ws : List ℕ) (k i : ℕ) → (i ≡ k → ⊥) → has (inserted ws k) i ≡ has ws i
unfolding inserted has
inserted_other ws k i ne =
    let x = ws ! (k / 32) in
    let y = bit_or x (2 ^ (k % 32)) in
    elim (ℕ_discrete (i / 32) (k / 32)) [
      | no d ↦ rw (get_or-set_other ws (k / 32) (i / 32) y 0 d)
      | yes e ↦
          elim (dec_lt k (32 * length ws)) [
            | yes h ↦ rw (e, get_or-set_same ws (k / 32) y 0 (omega arith), or_other x (k % 32) (i % 32) (λ q. ne (omega arith)))
            | no h ↦ rw (set_out ws (k / 32) y (omega arith))
          ]
    ]
