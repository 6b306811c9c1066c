-- The tests as the code makes them: Ok where one passes, else its refusal; those of three lists, and those of four by way of the three.
use Prim.Native.Nat.{ℕ, zero, suc, ◌<◌}
use native.Mathlib.Omega.{arith}
use native.Mathlib.Decide.{dec_le}
use mathlib.Core.Path.{◌≡◌, refl, ap, ◌∙◌}
use mathlib.Core.Bool.{Bool, true, false}
use mathlib.Core.List.{List, [], ◌∷◌, ◌++◌}
use lib.ListN.{length}
use lib.Dec.{eqb, leb}
use borrow.Author.Tests.{le-leb, lt-leb, eq-eqb}
use Rattle.std.specs.Prelude.{Result, Ok, Err}
use Rattle.std.specs.List.{list_all}
use Rattle.lists.specs.Tests.{both, unless, failed_or}
use Rattle.narrowing.specs.Windows.{Win}
use Rattle.answers.specs.Said.{number_of, refusal_number}
use Rattle.answers.specs.declared.reasons.Refusal.{Refusal}
use Rattle.joblist.specs.Limits.{Column, demand_column, jobs, most_jobs, most_time, most_demand, three_lists, two_lists, four_lists, supply}
use Rattle.joblist.specs.GoodList.{sized, at_most, within, refusal}
use Rattle.screen.specs.Passing.{passing}

-- ---- one test

pub failed : (b : Bool) (x r : Refusal) → Err r ≡ passing b x → b ≡ false
failed true x r e = absurd (cc)
failed false x r e = refl

pub passed : (b : Bool) (x : Refusal) (u : Unit) → Ok u ≡ passing b x → b ≡ true
passed true x u e = refl
passed false x u e = absurd (cc)

-- the number at the exit of a test that fails, and at the last test
pub exit_number : (b : Bool) (x r e : Refusal) (R : Result Unit Refusal) → R ≡ Err e → e ≡ r → Err r ≡ passing b x → refusal_number R ≡ number_of x
exit_number true x r e R p q h = absurd (cc)
exit_number false x r e R p q h = let k : e ≡ x = cc in rw (p, k)

pub last_number : (b : Bool) (x : Refusal) → refusal_number (passing b x) ≡ unless b (number_of x) 0
last_number true x = refl
last_number false x = refl

-- no refusal has the number 0
pub number_not_0 : (r : Refusal) → number_of r ≡ 0 → ⊥
number_not_0 r e = omega (arith, positive r)
  where
    positive : (r : Refusal) → 0 < number_of r
    positive Refusal.Lengths = omega arith
    positive Refusal.Jobs = omega arith
    positive Refusal.Limit = omega arith
    positive Refusal.Room = omega arith
    positive Refusal.Claimed = omega arith
    positive Refusal.Ragged = omega arith
    positive Refusal.NoClash = omega arith
    positive Refusal.NoNumber = omega arith
    positive Refusal.AboveLimit = omega arith
    positive Refusal.Pairs = omega arith
    positive Refusal.Cycle = omega arith
    positive Refusal.Horizon = omega arith
    positive Refusal.Headings = omega arith
    positive Refusal.Buffer = omega arith
    positive Refusal.Resource = omega arith
    positive Refusal.Lists = omega arith

-- so that what comes after it is not asked
pub stays : (n x : ℕ) → (n ≡ 0 → ⊥) → failed_or n x ≡ n
stays zero x d = absurd (d refl)
stays (suc n) x d = refl

-- test 3 of a list, number by number
pub all-at_most : (m : ℕ) (xs : List ℕ) → list_all (λ x. leb x m) xs ≡ at_most m xs
unfolding at_most
all-at_most m [] = refl
all-at_most m (x ∷ xs) =
    elim (dec_le x m) [ yes h ↦ rw (le-leb x m h) (all-at_most m xs) | no h ↦ rw (lt-leb x m (omega arith)) ]

-- ---- the tests of three and of four lists

both_swap : (a b c : Bool) → both a (both b c) ≡ both b (both a c)
both_swap true b c = refl
both_swap false true c = refl
both_swap false false c = refl

both_end : (a : Bool) → both a true ≡ a
both_end true = refl
both_end false = refl

-- one column at the end is tested first
sized_last : (n : ℕ) (cs : List Column) (c : Column) → sized n (cs ++ c ∷ []) ≡ both (eqb (length c.list) n) (sized n cs)
unfolding sized
sized_last n [] c = refl
sized_last n (d ∷ cs) c =
    ap (both (eqb (length d.list) n)) (sized_last n cs c) ∙ both_swap (eqb (length d.list) n) (eqb (length c.list) n) (sized n cs)

within_last : (cs : List Column) (c : Column) → within (cs ++ c ∷ []) ≡ both (at_most c.most c.list) (within cs)
unfolding within
within_last [] c = refl
within_last (d ∷ cs) c =
    ap (both (at_most d.most d.list)) (within_last cs c) ∙ both_swap (at_most d.most d.list) (at_most c.most c.list) (within cs)

-- a number alone, as a list of one
pub alone : (m x : ℕ) → at_most m (x ∷ []) ≡ leb x m
unfolding at_most
alone m x = both_end (leb x m)

within_supply : (cap : ℕ) → within (supply cap) ≡ leb cap most_demand
unfolding within
within_supply cap = both_end _ ∙ alone most_demand cap

-- test 1 of the three lists: the earliest starts are as long as themselves
sized_three : (W : Win) (p : List ℕ) → sized (jobs W) (three_lists W p) ≡ both (eqb (length W.l) (jobs W)) (eqb (length p) (jobs W))
unfolding sized
sized_three W p = rw (eq-eqb (jobs W) (jobs W) refl) (ap (both (eqb (length W.l) (jobs W))) (both_end (eqb (length p) (jobs W))))

within_three : (W : Win) (p : List ℕ) → within (three_lists W p) ≡ both (at_most most_time W.e) (both (at_most most_time W.l) (at_most most_time p))
unfolding within
within_three W p = ap (λ (b : Bool). both (at_most most_time W.e) (both (at_most most_time W.l) b)) (both_end (at_most most_time p))

-- the three lists: nothing stands beside them
three_is : (W : Win) (p : List ℕ) → refusal (jobs W) (three_lists W p) []
    ≡ unless (sized (jobs W) (three_lists W p)) 1 (unless (leb (jobs W) most_jobs) 2 (unless (within (three_lists W p)) 3 0))
unfolding refusal
three_is W p = rw (both_end (within (three_lists W p)))

pub of_three : (W : Win) (p : List ℕ) → refusal (jobs W) (three_lists W p) []
    ≡ unless (both (eqb (length W.l) (jobs W)) (eqb (length p) (jobs W))) 1
    (unless (leb (jobs W) most_jobs) 2
    (unless (both (at_most most_time W.e) (both (at_most most_time W.l) (at_most most_time p))) 3 0))
of_three W p = rw (three_is W p, sized_three W p, within_three W p)

-- test 1 of the demands, n; tests 1 to 3 of the three lists, s, f and w; and test 3 of the demands, d, and of the capacity, c
first_of_four : (n s f w d c : Bool)
    → unless (both n s) 1 (unless f 2 (unless (both (both d w) c) 3 0)) ≡ unless n 1 (failed_or (unless s 1 (unless f 2 (unless w 3 0))) (unless (both d c) 3 0))
first_of_four false s f w d c = refl
first_of_four true false f w d c = refl
first_of_four true true false w d c = refl
first_of_four true true true true true c = refl
first_of_four true true true true false c = refl
first_of_four true true true false true c = refl
first_of_four true true true false false c = refl

-- the four lists with the capacity
module _ (W : Win) (p r : List ℕ) (cap : ℕ) where
  abbrev three : ℕ
  three = refusal (jobs W) (three_lists W p) []

  abbrev four : ℕ
  four = refusal (jobs W) (four_lists W p r) (supply cap)

  of_four : four
      ≡ unless (both (eqb (length r) (jobs W)) (sized (jobs W) (three_lists W p))) 1
      (unless (leb (jobs W) most_jobs) 2
      (unless (both (both (at_most most_demand r) (within (three_lists W p))) (leb cap most_demand)) 3 0))
  unfolding refusal
  of_four = rw (sized_last (jobs W) (three_lists W p) (demand_column r), within_last (three_lists W p) (demand_column r), within_supply cap)

  pub by_three : four ≡ unless (eqb (length r) (jobs W)) 1 (failed_or three (unless (both (at_most most_demand r) (leb cap most_demand)) 3 0))
  by_three =
      rw (of_four, three_is W p)
      (first_of_four (eqb (length r) (jobs W)) (sized (jobs W) (three_lists W p)) (leb (jobs W) most_jobs) (within (three_lists W p)) (at_most most_demand r) (leb cap most_demand))

-- the two lists with the capacity
pub of_two : (p r : List ℕ) (cap : ℕ) → refusal (length p) (two_lists p r) (supply cap)
    ≡ unless (eqb (length r) (length p)) 1
    (unless (leb (length p) most_jobs) 2
    (unless (both (at_most most_time p) (both (at_most most_demand r) (leb cap most_demand))) 3 0))
unfolding refusal sized within
of_two p r cap =
    rw (
      eq-eqb (length p) (length p) refl,
      both_end (eqb (length r) (length p)),
      both_end (at_most most_demand r),
      within_supply cap,
      both_group (at_most most_time p) (at_most most_demand r) (leb cap most_demand),
    )
  where
    both_group : (a b c : Bool) → both (both a b) c ≡ both a (both b c)
    both_group true b c = refl
    both_group false b c = refl
