-- The refusal's number is k exactly when the answer table says so (`refusal_exactly`); so it is 0 exactly for a good list (`good`, `refused_none`).
-- Each of the three tests is joined to its fact, and to the fault that can be named where it fails; the number follows from the three.
use Prim.Native.Nat.{ℕ, zero, suc, ◌≤◌, ◌<◌}
use native.Mathlib.Omega.{arith}
use mathlib.Core.Path.{◌≡◌, refl, subst}
use mathlib.Core.Bool.{Bool, true, false}
use mathlib.Core.List.{List, [], ◌∷◌, ◌++◌}
use mathlib.Core.Logic.{◌⊎◌, inl, inr, ◌↔◌}
use lib.ListN.{length}
use lib.Dec.{leb}
use Rattle.lists.specs.Lists.{◌!◌, Every}
use Rattle.lists.specs.Tests.{both, unless}
use Rattle.lists.proofs.Judged.{Judged, fact_passes, fault_fails, judged_as, judged_true, judged_both, judged_leb, judged_eqb}
use Rattle.joblist.specs.Limits.{Column, most_jobs}
use Rattle.joblist.specs.GoodList.{Sized, Within, Above, Any, GoodList, Given, sized, at_most, within, refusal}

-- ---- the three tests and their facts

pub sized_judged : (n : ℕ) (cs : List Column) → Judged (Every (Sized n) cs) (Any (λ c. Sized n c → ⊥) cs) (sized n cs)
unfolding sized
sized_judged n [] = judged_true
sized_judged n (c ∷ cs) = judged_both (judged_eqb (length c.list) n) (sized_judged n cs)

few_judged : (n : ℕ) → Judged (n ≤ most_jobs) (most_jobs < n) (leb n most_jobs)
few_judged n = judged_leb n most_jobs

most_judged : (m : ℕ) (xs : List ℕ) → Judged ((k : ℕ) → xs ! k ≤ m) ((k : ℕ) × (m < xs ! k)) (at_most m xs)
unfolding at_most
most_judged m [] = judged_as judged_true (λ f k. omega arith) (λ f. absurd f) (λ f g. omega arith)
most_judged m (x ∷ xs) = judged_as (judged_both (judged_leb x m) (most_judged m xs)) fact fault (λ f g. omega (arith, f g.0))
  where
    fact : (x ≤ m) × ((k : ℕ) → xs ! k ≤ m) → (k : ℕ) → (x ∷ xs) ! k ≤ m
    fact f zero = f.0
    fact f (suc k) = f.1 k

    fault : (m < x) ⊎ ((k : ℕ) × (m < xs ! k)) → (k : ℕ) × (m < (x ∷ xs) ! k)
    fault (inl g) = (0, g)
    fault (inr g) = (suc g.0, g.1)

within_judged : (cs : List Column) → Judged (Every Within cs) (Any Above cs) (within cs)
unfolding within
within_judged [] = judged_true
within_judged (c ∷ cs) = judged_both (most_judged c.most c.list) (within_judged cs)

any_append : (P : Column → Type 0) (cs ds : List Column) → Any P cs ⊎ Any P ds → Any P (cs ++ ds)
any_append P [] ds (inl a) = absurd a
any_append P [] ds (inr a) = a
any_append P (c ∷ cs) ds (inl (inl a)) = inl a
any_append P (c ∷ cs) ds (inl (inr a)) = inr (any_append P cs ds (inl a))
any_append P (c ∷ cs) ds (inr a) = inr (any_append P cs ds (inr a))

none_above : (cs ds : List Column) → Every Within cs → Every Within ds → Any Above (cs ++ ds) → ⊥
none_above [] ds f g a = (within_judged ds).apart g a
none_above (c ∷ cs) ds f g (inl a) = (most_judged c.most c.list).apart f.0 a
none_above (c ∷ cs) ds f g (inr a) = none_above cs ds f.1 g a

pub limits_judged : (cs ds : List Column) → Judged (Every Within cs × Every Within ds) (Any Above (cs ++ ds)) (both (within cs) (within ds))
limits_judged cs ds =
    judged_as (judged_both (within_judged cs) (within_judged ds)) (λ f. f) (any_append Above cs ds) (λ f g. none_above cs ds f.0 f.1 g)

-- ---- the number

unless_most : (b : Bool) (k x m : ℕ) → k ≤ m → x ≤ m → unless b k x ≤ m
unless_most true k x m a b = b
unless_most false k x m a b = a

module _ (n : ℕ) (cs ds : List Column) where
  -- what the number says is so
  refusal_says : Given (refusal n cs ds) n cs ds
  unfolding refusal
  refusal_says = go (sized n cs) refl (leb n most_jobs) refl (both (within cs) (within ds)) refl
    where
      go : (s : Bool) → sized n cs ≡ s → (f : Bool) → leb n most_jobs ≡ f → (w : Bool) → both (within cs) (within ds) ≡ w
          → Given (unless s 1 (unless f 2 (unless w 3 0))) n cs ds
      go false s f f' w w' = (sized_judged n cs).failed s
      go true s false f w w' = ((sized_judged n cs).passed s, (few_judged n).failed f)
      go true s true f false w = ((sized_judged n cs).passed s, (few_judged n).passed f, (limits_judged cs ds).failed w)
      go true s true f true w =
          let m = (limits_judged cs ds).passed w in
          record { sized = (sized_judged n cs).passed s; few = (few_judged n).passed f; within = m.0; beside = m.1 }

  -- no other number's row is so
  said_refusal : (k : ℕ) → Given k n cs ds → refusal n cs ds ≡ k
  unfolding refusal
  said_refusal zero g =
      rw (
        fact_passes (sized_judged n cs) g.sized,
        fact_passes (few_judged n) g.few,
        fact_passes (limits_judged cs ds) (g.within, g.beside),
      )
  said_refusal (suc zero) g = rw (fault_fails (sized_judged n cs) g)
  said_refusal (suc (suc zero)) g = rw (fact_passes (sized_judged n cs) g.0, fault_fails (few_judged n) g.1)
  said_refusal (suc (suc (suc zero))) g =
      rw (
        fact_passes (sized_judged n cs) g.0,
        fact_passes (few_judged n) g.1,
        fault_fails (limits_judged cs ds) g.2,
      )
  said_refusal (suc (suc (suc (suc k)))) g = absurd g

  -- number k is given exactly when the answer table says so
  pub refusal_exactly : (k : ℕ) → (refusal n cs ds ≡ k) ↔ Given k n cs ds
  refusal_exactly k = (λ h. subst (λ (i : ℕ). Given i n cs ds) h refusal_says, said_refusal k)

  pub good : refusal n cs ds ≡ 0 → GoodList n cs ds
  good = (refusal_exactly 0).0

  pub refused_none : GoodList n cs ds → refusal n cs ds ≡ 0
  refused_none = (refusal_exactly 0).1

  pub refusal_most : refusal n cs ds ≤ 3
  unfolding refusal
  refusal_most =
      unless_most (sized n cs) 1 _ 3 (omega arith)
      (unless_most (leb n most_jobs) 2 _ 3 (omega arith) (unless_most (both (within cs) (within ds)) 3 0 3 (omega arith) (omega arith)))
