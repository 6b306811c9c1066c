-- A test with the fact that it stands for and the fault that can be named where it fails.
use Prim.Native.Nat.{ℕ, zero, suc, ◌≤◌, ◌<◌}
use native.Mathlib.Omega.{arith}
use mathlib.Core.Path.{◌≡◌, refl, sym}
use mathlib.Core.Bool.{Bool, true, false, not}
use mathlib.Core.Logic.{◌⊎◌, inl, inr}
use lib.Dec.{eqb, leb, ltb}
use borrow.Author.Tests.{eqb-true, eqb-false, leb-true, leb-false, ltb-true, ltb-false}
use Rattle.lists.specs.Tests.{both, every, where?}
use Rattle.lists.proofs.Tests.{both_true, every_at}

-- the test b passes where the fact holds and fails where the fault is there; they are never both there
pub record Judged (Fact Fault : Type 0) (b : Bool) : Type 0 where
  pub passed : b ≡ true → Fact
  pub failed : b ≡ false → Fault
  pub apart : Fact → Fault → ⊥

module _ {Fact Fault : Type 0} {b : Bool} (j : Judged Fact Fault b) where
  pub fact_passes : Fact → b ≡ true
  fact_passes f = go b refl
    where
      go : (a : Bool) → b ≡ a → b ≡ true
      go true h = h
      go false h = absurd (j.apart f (j.failed h))

  pub fault_fails : Fault → b ≡ false
  fault_fails f = go b refl
    where
      go : (a : Bool) → b ≡ a → b ≡ false
      go false h = h
      go true h = absurd (j.apart (j.passed h) f)

  -- the same test, its fact and its fault in other words
  pub judged_as : {A N : Type 0} → (Fact → A) → (Fault → N) → (A → N → ⊥) → Judged A N b
  judged_as f g h = record { passed = λ q. f (j.passed q); failed = λ q. g (j.failed q); apart = h }

never : {A : Type 0} → true ≡ false → A
never h = let z : ◌≡◌ {A = ℕ} 0 1 = cc in absurd (omega arith)

pub judged_true : Judged (Unit {0}) ⊥ true
judged_true = record { passed = λ h. tt; failed = λ h. never h; apart = λ f g. g }

pub judged_both : {A N B M : Type 0} {a b : Bool} → Judged A N a → Judged B M b → Judged (A × B) (N ⊎ M) (both a b)
judged_both {A} {N} {B} {M} {a} {b} i j = record {
  passed = λ h. let q = both_true a b h in (i.passed q.0, j.passed q.1);
  failed = λ h. fault a refl h;
  apart = λ f g. neither f g;
}
  where
    fault : (c : Bool) → a ≡ c → both c b ≡ false → N ⊎ M
    fault true e h = inr (j.failed h)
    fault false e h = inl (i.failed e)

    neither : A × B → N ⊎ M → ⊥
    neither f (inl g) = i.apart f.0 g
    neither f (inr g) = j.apart f.1 g

pub judged_leb : (a b : ℕ) → Judged (a ≤ b) (b < a) (leb a b)
judged_leb a b = record { passed = leb-true a b; failed = leb-false a b; apart = λ f g. omega arith }

pub judged_eqb : (a b : ℕ) → Judged (a ≡ b) (a ≡ b → ⊥) (eqb a b)
judged_eqb a b = record { passed = eqb-true a b; failed = eqb-false a b; apart = λ f g. g f }

-- where a test fails below m, a place at which it fails
pub every_failed : (f : ℕ → Bool) (m : ℕ) → every f m ≡ false → (k : ℕ) × (k < m) × (f k ≡ false)
unfolding every
every_failed f zero h = never h
every_failed f (suc m) h = go (f m) refl h (λ q. every_failed f m q)
  where
    go : (b : Bool) → f m ≡ b → both b (every f m) ≡ false → (every f m ≡ false → (k : ℕ) × (k < m) × (f k ≡ false))
        → (k : ℕ) × (k < suc m) × (f k ≡ false)
    go false e q r = (m, omega arith, e)
    go true e q r = let x = r q in (x.0, omega (arith, x.1), x.2)

-- a test at each number below m
pub judged_every : (A N : ℕ → Type 0) (f : ℕ → Bool) → ((k : ℕ) → Judged (A k) (N k) (f k)) → (m : ℕ)
    → Judged ((k : ℕ) → k < m → A k) ((k : ℕ) × (k < m) × N k) (every f m)
judged_every A N f j m = record {
  passed = λ h k b. (j k).passed (every_at f m h k b);
  failed = λ h. let x = every_failed f m h in (x.0, x.1, (j x.0).failed x.2);
  apart = λ a g. (j g.0).apart (a g.0 g.1) g.2;
}

pub judged_ltb : (a b : ℕ) → Judged (a < b) (b ≤ a) (ltb a b)
judged_ltb a b = record { passed = ltb-true a b; failed = ltb-false a b; apart = λ f g. omega arith }

pub judged_not : {A N : Type 0} {b : Bool} → Judged A N b → Judged N A (not b)
judged_not {A} {N} {b} j = record { passed = λ h. j.failed (off b h); failed = λ h. j.passed (on b h); apart = λ f g. j.apart g f }
  where
    off : (c : Bool) → not c ≡ true → c ≡ false
    off true h = sym h
    off false h = refl

    on : (c : Bool) → not c ≡ false → c ≡ true
    on true h = refl
    on false h = sym h

-- asked only where a passes
pub judged_where : {A N : Type 0} (a : Bool) {b : Bool} → Judged A N b → Judged (a ≡ true → A) ((a ≡ true) × N) (where? a b)
judged_where true j = record { passed = λ h e. j.passed h; failed = λ h. (refl, j.failed h); apart = λ f g. j.apart (f refl) g.1 }
judged_where false j = record { passed = λ h e. never (sym e); failed = λ h. never h; apart = λ f g. never (sym g.0) }
