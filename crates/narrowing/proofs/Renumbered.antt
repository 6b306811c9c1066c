-- Demand 3's "listed in another order", once over any rules that do not look at the numbers.
use Prim.Native.Nat.{ℕ, ◌<◌}
use native.Mathlib.Omega.{arith}
use mathlib.Core.Path.{◌≡◌, ap}
use mathlib.Core.List.{List}
use mathlib.Core.Logic.{inl, inr}
use Rattle.lists.specs.Lists.{◌!◌}
use Rattle.lists.specs.Permutations.{Permutes, SameList}
use Rattle.lists.proofs.Lists.{listed, listed_at}
use Rattle.lists.proofs.Permutations.{turned, list_back}
use Rattle.narrowing.specs.Windows.{Win, Long, Inside}
use Rattle.narrowing.specs.Rules.{Family, Either, Some, Stable, Candidate, Largest, NoCandidate}
use Rattle.narrowing.specs.Renumbered.{SameWin, Alike}

unfoldable pub renumbered : ℕ → (ℕ → ℕ) → Win → Win
renumbered n π W = record { e = listed n (λ k. W.e ! π k); l = listed n (λ k. W.l ! π k) }

pub renumbered_same : (n : ℕ) (π : ℕ → ℕ) (W : Win) → SameWin n π W (renumbered n π W)
unfolding renumbered
renumbered_same n π W = record { early = λ k b. listed_at n _ k b; late = λ k b. listed_at n _ k b }

pub win_back : (n : ℕ) (π σ : ℕ → ℕ) → Permutes n π σ → (W U : Win) → SameWin n π W U → SameWin n σ U W
win_back n π σ h W U v =
    record { early = λ k b. cc (v.early (σ k) (h.onto k b), h.back k b); late = λ k b. cc (v.late (σ k) (h.onto k b), h.back k b) }

module _ (n : ℕ) (π σ : ℕ → ℕ) (h : Permutes n π σ) (p q : List ℕ) (d : SameList n π p q) (G H : Family) (a : Alike n π G H) where
  -- a candidate, renumbered, is one of the renumbered jobs
  candidate_same : (W U X : Win) → SameWin n π W U → Candidate n p G W X → Candidate n q H U (renumbered n π X)
  unfolding Stable Long Alike
  candidate_same W U X v f =
      let x = renumbered_same n π X in
      record {
        inside = record {
          early = λ k b. omega (arith, v.early k b, x.early k b, f.inside.early (π k) (h.into k b));
          late = λ k b. omega (arith, v.late k b, x.late k b, f.inside.late (π k) (h.into k b));
        };
        stable = λ j s b c g. f.stable (π j) s b (h.into j c) (a X (renumbered n π X) x j s b c g);
        long = λ k b. omega (arith, f.long (π k) (h.into k b), x.early k b, x.late k b, d k b);
      }

  -- none after renumbering, none before
  pub none_same : (W U : Win) → SameWin n π W U → NoCandidate n q H U → NoCandidate n p G W
  none_same W U v f X i = f (renumbered n π X) (candidate_same W U X v i)

  within : (W U X Y : Win) → SameWin n π W U → Largest n p G W X → Largest n q H U Y → Inside n (renumbered n π X) Y
  within W U X Y v f g = g.holds (renumbered n π X) (candidate_same W U X v f.one)

-- the same jobs listed in another order get the same window for each job
pub largest_same : (n : ℕ) (π σ : ℕ → ℕ) → Permutes n π σ → (p q : List ℕ) → SameList n π p q → (G H : Family) → Alike n π G H → Alike n σ H G
    → (W U X Y : Win) → SameWin n π W U → Largest n p G W X → Largest n q H U Y → SameWin n π X Y
largest_same n π σ h p q d G H a c W U X Y v f g =
    let i = within n π σ h p q d G H a W U X Y v f g in
    let o = within n σ π (turned n π σ h) q p (list_back n π σ h p q d) H G c U W Y X (win_back n π σ h W U v) g f in
    let x = renumbered_same n π X in
    let y = renumbered_same n σ Y in
    record {
      early = λ k b.
          let e : Y.e ! σ (π k) ≡ Y.e ! k = ap (λ (i : ℕ). Y.e ! i) (h.there k b) in
          omega (arith, i.early k b, x.early k b, o.early (π k) (h.into k b), y.early (π k) (h.into k b));
      late = λ k b.
          let e : Y.l ! σ (π k) ≡ Y.l ! k = ap (λ (i : ℕ). Y.l ! i) (h.there k b) in
          omega (arith, i.late k b, x.late k b, o.late (π k) (h.into k b), y.late (π k) (h.into k b));
    }

-- families together; the resources may stand in another order too
pub alike_either : (n : ℕ) (π : ℕ → ℕ) (G H K L : Family) → Alike n π G H → Alike n π K L → Alike n π (Either G K) (Either H L)
unfolding Alike
alike_either n π G H K L f g W U v j s b c (inl a) = inl (f W U v j s b c a)
alike_either n π G H K L f g W U v j s b c (inr a) = inr (g W U v j s b c a)

pub alike_some : (n q : ℕ) (π ρ : ℕ → ℕ) (G H : ℕ → Family) → ((k : ℕ) → k < q → ρ k < q) → ((k : ℕ) → k < q → Alike n π (G (ρ k)) (H k)) → Alike n π (Some q G) (Some q H)
unfolding Alike
alike_some n q π ρ G H r f W U v j s b c a = (ρ a.0, r a.0 a.1, f a.0 a.1 W U v j s b c a.2)
