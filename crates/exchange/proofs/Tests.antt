-- The tests in facts: a call meets one of them alone, and what holds where none fails.
use Prim.Native.Nat.{ℕ, ◌≤◌, ◌<◌}
use native.Mathlib.Omega.{arith}
use mathlib.Core.Path.{◌≡◌, refl, sym, ◌∙◌, subst}
use mathlib.Core.List.{List}
use mathlib.Core.Logic.{◌⊎◌, inl, inr, ⊎_elim}
use lib.ListN.{length}
use Rattle.joblist.specs.Limits.{most_time}
use Rattle.chains.specs.Paths.{Cycle}
use Rattle.texts.specs.Tokens.{Token}
use Rattle.texts.specs.Readings.{Read, bad, good}
use Rattle.projects.specs.Projects.{Project}
use Rattle.exchange.specs.Calls.{Lent, TextCall, Order}
use Rattle.exchange.specs.Tests.{Fitting, Misfit, ListsFit, TooLong, Unless, None, Tested, Met, Refusal}

-- ---- one number alone

-- a set of numbers with no two in it
abbrev pub Alone : (ℕ → Type 0) → Type 0
Alone P = (c d : ℕ) → P c → P d → c ≡ d

pub unless_alone : (k : ℕ) (Fact Fault : Type 0) (Next : ℕ → Type 0) → (Fact → Fault → ⊥) → Alone Next → Alone (Unless k Fact Fault Next)
unless_alone k Fact Fault Next f g c d (inl p) (inl q) = p.1 ∙ sym q.1
unless_alone k Fact Fault Next f g c d (inl p) (inr q) = absurd (f q.0 p.0)
unless_alone k Fact Fault Next f g c d (inr p) (inl q) = absurd (f p.0 q.0)
unless_alone k Fact Fault Next f g c d (inr p) (inr q) = g c d p.1 q.1

pub none_alone : Alone None
none_alone c d p q = p ∙ sym q

fits_apart : (n m e l d q j s : ℕ) → Fitting n m e l d q j s → Misfit n m e l d q j s → ⊥
fits_apart n m e l d q j s f (inl g) = g f.est
fits_apart n m e l d q j s f (inr (inl g)) = g f.lct
fits_apart n m e l d q j s f (inr (inr (inl g))) = g f.dur
fits_apart n m e l d q j s f (inr (inr (inr (inl g)))) = g f.dem
fits_apart n m e l d q j s f (inr (inr (inr (inr (inl g))))) = omega (arith, f.jobs)
fits_apart n m e l d q j s f (inr (inr (inr (inr (inr g))))) = omega (arith, f.successors)

tested_alone : (x : Project) (resource horizon : ℕ) (L : Lent) → Alone (Tested x resource horizon L)
tested_alone x resource horizon L =
    unless_alone _ _ _ _ (λ f g. omega arith)
    (unless_alone _ _ _ _ (fits_apart _ _ _ _ _ _ _ _)
    (unless_alone _ _ _ _ (λ f g. f g)
    (unless_alone _ _ _ _ (λ f g. f g) none_alone)))

met_alone : (r : Read Project) (resource horizon : ℕ) (L : Lent) → Alone (Met r resource horizon L)
met_alone (bad d) resource horizon L = λ a b p q. p ∙ sym q
met_alone (good x rest) resource horizon L = tested_alone x resource horizon L

pub refusal_one : (c : TextCall) (j k : ℕ) → Refusal c j → Refusal c k → j ≡ k
refusal_one c =
    unless_alone 31 (c.horizon ≤ most_time) (most_time < c.horizon) (Met c.text c.resource c.horizon c.lent) (λ f g. omega arith)
    (met_alone c.text c.resource c.horizon c.lent)

-- ---- one test

module _ {k c : ℕ} {Fact Fault N : Type 0} (t : (Fault × (c ≡ k)) ⊎ (Fact × N)) where
  -- the number is another: the fact holds, and the number comes from what is next
  pub past : (c ≡ k → ⊥) → Fact × N
  past f = ⊎_elim (λ p. absurd (f p.1)) (λ p. p) t

  -- what is next does not give the number: the fault is there
  pub at_fault : (N → ⊥) → Fault
  at_fault f = ⊎_elim (λ p. p.0) (λ p. absurd (f p.1)) t

-- ---- a text that says x

-- what the tests have let through
pub record Passed (x : Project) (resource horizon : ℕ) (L : Lent) : Type 0 where
  pub chosen : resource < length x.capacities
  pub fits : ListsFit x L
  pub acyclic : Cycle (Order x) → ⊥
  pub short : TooLong x horizon → ⊥

pub tested_none : (x : Project) (resource horizon : ℕ) (L : Lent) → Tested x resource horizon L 0 → Passed x resource horizon L
tested_none x resource horizon L t =
    let a = past t (λ z. omega (arith, z)) in
    let b = past a.1 (λ z. omega (arith, z)) in
    let d = past b.1 (λ z. omega (arith, z)) in
    record { chosen = a.0; fits = b.0; acyclic = d.0; short = (past d.1 (λ z. omega (arith, z))).0 }

pub none_tested : (x : Project) (resource horizon : ℕ) (L : Lent) → Passed x resource horizon L → Tested x resource horizon L 0
none_tested x resource horizon L p = inr (p.chosen, inr (p.fits, inr (p.acyclic, inr (p.short, refl))))

module _ (c : TextCall) (x : Project) (rest : List Token) (e : c.text ≡ good x rest) where
  -- in a call whose text says x, the tests are those of x
  pub refusal_of_lem : (k : ℕ) → c.horizon ≤ most_time → Tested x c.resource c.horizon c.lent k → Refusal c k
  refusal_of_lem k near t = inr (near, subst (λ (r : Read Project). Met r c.resource c.horizon c.lent k) (sym e) t)

  pub refusal_none : Refusal c 0 → (c.horizon ≤ most_time) × Passed x c.resource c.horizon c.lent
  refusal_none (inl p) = absurd (omega (arith, p.1))
  refusal_none (inr p) = (p.0, tested_none x c.resource c.horizon c.lent (subst (λ (r : Read Project). Met r c.resource c.horizon c.lent 0) e p.1))
