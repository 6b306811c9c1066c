-- Sure parts as stretches; and the load of the others, which no move of the job's own bounds changes.
use Prim.Native.Nat.{ℕ, ◌+◌, ◌-◌}
use native.Mathlib.Omega.{arith}
use native.Mathlib.Decide.{ℕ_discrete, dec_le}
use mathlib.Core.Path.{◌≡◌, sym, ap, ◌∙◌}
use mathlib.Core.Bool.{Bool, not}
use mathlib.Core.List.{List}
use lib.Dec.{leb, ltb, eqb}
use lib.Seq.{get_or-set_other}
use borrow.Author.Tests.{le-leb, lt-leb, eq-eqb}
use Rattle.lists.specs.Lists.{◌!◌}
use Rattle.lists.specs.Tests.{both, between, only}
use Rattle.lists.proofs.Sums.{total_cong}
use Rattle.narrowing.specs.Windows.{Win, Side, early, late, moved}
use Rattle.timetable.specs.Time.{Jobs, sure, load}

-- a sure part runs from the latest start up to the earliest end
pub sure_between : (p : List ℕ) (W : Win) (k t : ℕ) → sure p W k t ≡ between (W.l ! k - p ! k) (W.e ! k + p ! k) t
unfolding sure
sure_between p W k t = ap (λ (b : Bool). both b (ltb t (W.e ! k + p ! k))) (from_latest (W.l ! k) (p ! k))
  where
    from_latest : (a b : ℕ) → leb a (t + b) ≡ leb (a - b) t
    from_latest a b =
        elim (dec_le a (t + b)) [
          | yes h ↦ le-leb a (t + b) h ∙ sym (le-leb (a - b) t (omega arith))
          | no h ↦ lt-leb a (t + b) (omega arith) ∙ sym (lt-leb (a - b) t (omega arith))
        ]

-- a move of one job leaves the sure parts of the others
sure_apart : (p : List ℕ) (W : Win) (j : ℕ) (s : Side) (b t k : ℕ) → (k ≡ j → ⊥) → sure p (moved W j s b) k t ≡ sure p W k t
unfolding sure
sure_apart p W j early b t k q = rw (get_or-set_other W.e j k b 0 q)
sure_apart p W j late b t k q = rw (get_or-set_other W.l j k b 0 q)

pub load_moved : (J : Jobs) (W : Win) (j : ℕ) (s : Side) (b t : ℕ) → load J (moved W j s b) j t ≡ load J W j t
unfolding load
load_moved J W j s b t =
    total_cong (λ k. only (both (not (eqb k j)) (sure J.p (moved W j s b) k t)) (J.r ! k)) (λ k. only (both (not (eqb k j)) (sure J.p W k t)) (J.r ! k)) J.n
    (λ k h. elim (ℕ_discrete k j) [ yes q ↦ rw (eq-eqb k j q) | no q ↦ ap (λ (z : Bool). only (both (not (eqb k j)) z) (J.r ! k)) (sure_apart J.p W j s b t k q) ])
