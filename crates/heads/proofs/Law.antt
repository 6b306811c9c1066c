-- Detectable precedences are lawful: a move tightens, and on windows inside the same set moves the job again. A bound of 0 closes the window of a job that
-- lasts, as one below zero does.
use Prim.Native.Nat.{ℕ, ◌+◌, ◌≤◌, ◌<◌}
use native.Mathlib.Omega.{arith}
use native.Mathlib.Decide.{dec_lt}
use mathlib.Core.Path.{◌≡◌}
use mathlib.Core.Bool.{true}
use mathlib.Core.List.{List}
use lib.ListN.{set, length, length-set, get_or-eq_default}
use lib.Seq.{get_or-set_same}
use borrow.Author.Tests.{lt-ltb}
use Rattle.lists.specs.Lists.{◌!◌}
use Rattle.lists.proofs.Bounds.{ends_later, begins_sooner}
use Rattle.narrowing.specs.Windows.{Win, Side, early, late, Inside, Tighter, closes, moved}
use Rattle.narrowing.specs.Rules.{Lawful}
use Rattle.heads.specs.Precedences.{ComesFirst, Detects}

-- on windows inside, what came first comes first
first_in : (n : ℕ) (p : List ℕ) (U W : Win) → Inside n U W → (j i : ℕ) → j < n → i < n → ComesFirst p W j i → ComesFirst p U j i
first_in n p U W x j i b c f =
    record { other = f.other; lasts_j = f.lasts_j; lasts_i = f.lasts_i; exceeds = omega (arith, f.exceeds, x.late j b, x.early i c) }

module _ (n : ℕ) (p : List ℕ) where
  detect_again : (U W : Win) (j : ℕ) (s : Side) (b : ℕ) → Inside n U W → j < n → Detects n p W j s b → Tighter U j s b → (c : ℕ) × Detects n p U j s c
  detect_again U W j early b x h a t =
      let d = ends_later n W.e U.e p a.T b x.early a.ends in
      (d.0, record { T = a.T; first = λ k c m. first_in n p U W x k j c h (a.first k c m); ends = d.2; tightens = omega (arith, d.1) })
  detect_again U W j late b x h a t =
      let d = begins_sooner n W.l U.l p a.T b x.late a.begins in
      (d.0, record { T = a.T; last = λ k c m. first_in n p U W x j k h c (a.last k c m); begins = d.2; tightens = omega (arith, d.1) })

  detect_tighter : (W : Win) (j : ℕ) (s : Side) (b : ℕ) → Detects n p W j s b → Tighter W j s b
  detect_tighter W j early b a = a.tightens
  detect_tighter W j late b a = a.tightens

  pub detect_lawful : Lawful n (Detects n p)
  detect_lawful = record { tighter = λ W j s b h a. detect_tighter W j s b a; again = detect_again }

pub below_closes : (p : List ℕ) (W : Win) (i : ℕ) → 1 ≤ p ! i → closes p (moved W i late 0) i ≡ true
below_closes p W i h = lt-ltb _ _ (go (dec_lt i (length W.l)))
  where
    go : Dec (i < length W.l) → set W.l i 0 ! i < W.e ! i + p ! i
    go (yes b) = rw (get_or-set_same W.l i 0 0 b) (omega arith)
    go (no b) =
        let c : length (set W.l i 0) ≤ i = rw length-set (omega arith) in
        rw (get_or-eq_default (set W.l i 0) 0 c) (omega arith)
