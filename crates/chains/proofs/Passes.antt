-- A pass over the pairs: values stay lengths of chains and never fall, and each successor's value reaches its job's value plus duration.
use Prim.Native.Nat.{ℕ, ◌+◌, ◌≤◌, ◌<◌}
use native.Mathlib.Omega.{arith}
use mathlib.Core.Path.{◌≡◌, refl, sym, ◌∙◌, subst}
use mathlib.Core.Bool.{Bool, true, false, cond}
use mathlib.Core.List.{List, [], ◌∷◌}
use mathlib.Core.Logic.{◌⊎◌, inl, inr}
use lib.Dec.{ltb}
use lib.ListN.{set, length, length-set}
use lib.Seq.{get_or-set_same}
use borrow.Author.Tests.{ltb-true, ltb-false}
use Rattle.lists.specs.Lists.{◌!◌}
use Rattle.lists.proofs.Lists.{set_any}
use Rattle.chains.specs.Paths.{Pair, Precedes, Chain}
use Rattle.chains.specs.Passes.{Chained, raise, pass}
use Rattle.chains.proofs.Chains.{chain_on}

-- ---- a raise

module _ (w : ℕ → ℕ) (a b : ℕ) (v : List ℕ) where
  -- it stores a's value with a's duration at b, or nothing
  pub raise_by : (P : List ℕ → Type 0) → (v ! b < v ! a + w a → P (set v b (v ! a + w a))) → (v ! a + w a ≤ v ! b → P v) → P (raise w a b v)
  unfolding raise
  raise_by P f g = go (ltb (v ! b) (v ! a + w a)) refl
    where
      go : (t : Bool) → ltb (v ! b) (v ! a + w a) ≡ t → P (cond t (set v b (v ! a + w a)) v)
      go true e = f (ltb-true (v ! b) (v ! a + w a) e)
      go false e = g (ltb-false (v ! b) (v ! a + w a) e)

  pub raise_kept : v ! a + w a ≤ v ! b → raise w a b v ≡ v
  raise_kept h = raise_by (λ u. u ≡ v) (λ g. absurd (omega arith)) (λ g. refl)

  pub raise_rose : v ! b < v ! a + w a → raise w a b v ≡ set v b (v ! a + w a)
  raise_rose h = raise_by (λ u. u ≡ set v b (v ! a + w a)) (λ g. refl) (λ g. absurd (omega arith))

  raise_length : length (raise w a b v) ≡ length v
  raise_length = raise_by (λ u. length u ≡ length v) (λ h. length-set v b (v ! a + w a)) (λ h. refl)

  raise_grows : (k : ℕ) → v ! k ≤ raise w a b v ! k
  raise_grows k = raise_by (λ u. v ! k ≤ u ! k) (λ h. set_any (λ x. v ! k ≤ x) v b (v ! a + w a) k (λ e. rw e (omega arith)) (omega arith)) (λ h. omega arith)

  raise_meets : b < length v → v ! a + w a ≤ raise w a b v ! b
  raise_meets l = raise_by (λ u. v ! a + w a ≤ u ! b) (λ h. rw (get_or-set_same v b (v ! a + w a) 0 l) (omega arith)) (λ h. h)

  pub raise_chained : (R : ℕ → ℕ → Type 0) → R a b → Chained R w v → Chained R w (raise w a b v)
  raise_chained R r q k =
      raise_by (λ u. Chain R w k (u ! k))
      (λ h. set_any (λ x. Chain R w k x) v b (v ! a + w a) k (λ e. subst (λ y. Chain R w y (v ! a + w a)) (sym e) (chain_on r (q a))) (q k))
      (λ h. q k)

-- ---- a pass

module _ (w : ℕ → ℕ) where
  pub pass_length : (ps : List Pair) (v : List ℕ) → length (pass w ps v) ≡ length v
  unfolding pass
  pass_length [] v = refl
  pass_length (x ∷ ps) v = pass_length ps (raise w x.job x.successor v) ∙ raise_length w x.job x.successor v

  pass_grows : (ps : List Pair) (v : List ℕ) (k : ℕ) → v ! k ≤ pass w ps v ! k
  unfolding pass
  pass_grows [] v k = omega arith
  pass_grows (x ∷ ps) v k = omega (arith, raise_grows w x.job x.successor v k, pass_grows ps (raise w x.job x.successor v) k)

  pub pass_chained : (R : ℕ → ℕ → Type 0) (ps : List Pair) (v : List ℕ) → ((a b : ℕ) → Precedes ps a b → R a b) → Chained R w v → Chained R w (pass w ps v)
  unfolding pass
  pass_chained R [] v i q = q
  pass_chained R (x ∷ ps) v i q =
      pass_chained R ps (raise w x.job x.successor v) (λ a b r. i a b (inr r)) (raise_chained w x.job x.successor v R (i x.job x.successor (inl (refl, refl))) q)

  -- each successor's value is at least its job's of before the pass, with the duration
  pub pass_meets : (ps : List Pair) (v : List ℕ) (a b : ℕ) → Precedes ps a b → b < length v → v ! a + w a ≤ pass w ps v ! b
  unfolding pass
  pass_meets [] v a b r l = absurd r
  pass_meets (x ∷ ps) v a b r l = go r (λ s. pass_meets ps u a b s (rw (raise_length w x.job x.successor v) l))
    where
      u : List ℕ
      u = raise w x.job x.successor v

      go : ((x.job ≡ a) × (x.successor ≡ b)) ⊎ Precedes ps a b → (Precedes ps a b → u ! a + w a ≤ pass w ps u ! b) → v ! a + w a ≤ pass w ps u ! b
      go (inl e) f =
          omega (
            arith,
            subst (λ (y : ℕ). v ! a + w a ≤ raise w y b v ! b) (sym e.0) (raise_meets w a b v l),
            subst (λ (y : ℕ). raise w x.job y v ! b ≤ pass w ps u ! b) e.1 (pass_grows ps u b),
          )
      go (inr s) f = omega (arith, f s, raise_grows w x.job x.successor v a)
