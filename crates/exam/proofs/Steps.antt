-- The test of code 22 as the code makes it: the moved job's own test, then every member's.
use Prim.Native.Nat.{ℕ, zero, suc, ◌+◌, ◌*◌, ◌≤◌}
use native.Mathlib.Omega.{arith}
use native.Mathlib.Numerals.{add-one}
use native.Mathlib.Decide.{dec_lt}
use mathlib.Core.Path.{◌≡◌, refl, sym, ap, ◌∙◌}
use mathlib.Core.Bool.{Bool, true, false, not, ◌&&◌}
use mathlib.Core.List.{List}
use lib.Dec.{leb, eqb}
use lib.ListN.{length, get_or-eq_default}
use borrow.Author.Tests.{lt-ltb, le-ltb}
use Rattle.std.specs.List.{list_all, range_with_len}
use Rattle.lists.specs.Lists.{◌!◌}
use Rattle.lists.specs.Tests.{both, where?, every}
use Rattle.members.specs.Members.{has}
use Rattle.journal.specs.Journal.{set_of_record, job_of}
use Rattle.codes.specs.Codes.{takes_part, partners}
use Rattle.exam.specs.Lent.{jobs_in}

-- beyond the list there is neither a duration nor a demand
own_part : (p r : List ℕ) (j : ℕ) → takes_part (jobs_in (length p) p r 0) j ≡ both (leb 1 (p ! j)) (leb 1 (r ! j))
unfolding takes_part
own_part p r j =
    elim (dec_lt j (length p)) [
      | yes h ↦ rw (lt-ltb j (length p) h)
      | no h ↦ let z : length p ≤ j = omega arith in rw (le-ltb j (length p) z, get_or-eq_default p 0 {n = j} z)
    ]

-- what is asked of a member k
abbrev pub partner_at : List ℕ → List ℕ → ℕ → ℕ → Bool
partner_at p r j k = both (takes_part (jobs_in (length p) p r 0) k) (not (eqb k j))

pub partners_is : (p r x s : List ℕ) → s ≡ set_of_record x
    → partners (jobs_in (length p) p r 0) x
    ≡ both (takes_part (jobs_in (length p) p r 0) (job_of x)) (every (λ k. where? (has s k) (partner_at p r (job_of x) k)) (32 * length s))
unfolding partners
partners_is p r x s is = rw (is, own_part p r (job_of x))

-- ---- the numbers below m in a row, as a range gives them: the test passes at each

every_step : (f : ℕ → Bool) (a : ℕ) → every f (a + 1) ≡ both (f a) (every f a)
unfolding every
every_step f a = rw add-one

both_last : (y : Bool) → y ≡ both y true
both_last true = refl
both_last false = refl

both_turned : (x y l : Bool) → both (both x y) l ≡ both y (x && l)
both_turned true true l = refl
both_turned true false l = refl
both_turned false true l = refl
both_turned false false l = refl

every_from : (f : ℕ → Bool) (a n : ℕ) → every f (a + n) ≡ both (every f a) (list_all f (range_with_len a n))
every_from f a zero = let e : a + 0 ≡ a = omega arith in ap (every f) e ∙ both_last (every f a)
every_from f a (suc n) =
    let e : a + suc n ≡ a + 1 + n = omega arith in
    ap (every f) e
    ∙ every_from f (a + 1) n
    ∙ ap (λ (x : Bool). both x (list_all f (range_with_len (a + 1) n))) (every_step f a)
    ∙ both_turned (f a) (every f a) (list_all f (range_with_len (a + 1) n))

pub all_every : (f : ℕ → Bool) (m : ℕ) → list_all f (range_with_len 0 m) ≡ every f m
unfolding every
all_every f m = let e : m ≡ 0 + m = omega arith in sym (ap (every f) e ∙ every_from f 0 m)
