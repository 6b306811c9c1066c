-- The tests of sure parts, running jobs, crowded times and a writer's members, and the facts that they stand for.
use Prim.Native.Nat.{ℕ, ◌+◌}
use native.Mathlib.Omega.{arith}
use mathlib.Core.Path.{◌≡◌}
use mathlib.Core.Bool.{true, not}
use mathlib.Core.List.{List}
use lib.Dec.{leb, ltb, eqb}
use borrow.Author.Tests.{leb-true, ltb-true, le-leb, lt-ltb, ne_eqb, eqb-false, not-true}
use Rattle.lists.specs.Lists.{◌!◌}
use Rattle.lists.specs.Tests.{both}
use Rattle.lists.proofs.Tests.{both_true, true_both}
use Rattle.narrowing.specs.Windows.{Win, Side, early, late}
use Rattle.timetable.specs.Time.{Jobs, Runs, runs_at, Sure, sure, load, Crowded, Applies, bound}
use Rattle.timetable.specs.Search.{crowded, Member, member}

module _ (p : List ℕ) (W : Win) (k t : ℕ) where
  pub sure_yes : sure p W k t ≡ true → Sure p W k t
  unfolding sure
  sure_yes h =
      let b = both_true (leb (W.l ! k) (t + p ! k)) (ltb t (W.e ! k + p ! k)) h in
      omega (arith, leb-true, ltb-true)

  pub yes_sure : Sure p W k t → sure p W k t ≡ true
  unfolding sure
  yes_sure h = true_both (leb (W.l ! k) (t + p ! k)) (ltb t (W.e ! k + p ! k)) (omega (arith, le-leb)) (omega (arith, lt-ltb))

module _ (p s : List ℕ) (k t : ℕ) where
  pub runs_yes : runs_at p s k t ≡ true → Runs p s k t
  unfolding runs_at
  runs_yes h =
      let b = both_true (leb (s ! k) t) (ltb t (s ! k + p ! k)) h in
      omega (arith, leb-true, ltb-true)

  pub yes_runs : Runs p s k t → runs_at p s k t ≡ true
  unfolding runs_at
  yes_runs h = true_both (leb (s ! k) t) (ltb t (s ! k + p ! k)) (omega (arith, le-leb)) (omega (arith, lt-ltb))

module _ (J : Jobs) (W : Win) (j t : ℕ) where
  pub crowded_yes : crowded J W j t ≡ true → Crowded J W j t
  unfolding crowded
  crowded_yes h =
      let a = both_true (leb 1 (J.p ! j)) (both (leb 1 (J.r ! j)) (ltb J.cap (load J W j t + J.r ! j))) h in
      let b = both_true (leb 1 (J.r ! j)) (ltb J.cap (load J W j t + J.r ! j)) a.1 in
      omega (arith, leb-true, ltb-true)

  pub yes_crowded : Crowded J W j t → crowded J W j t ≡ true
  unfolding crowded
  yes_crowded h =
      true_both (leb 1 (J.p ! j)) _ (omega (arith, le-leb))
      (true_both (leb 1 (J.r ! j)) (ltb J.cap (load J W j t + J.r ! j)) (omega (arith, le-leb)) (omega (arith, lt-ltb)))

  pub member_yes : (k : ℕ) → member J W j t k ≡ true → Member J W j t k
  unfolding member
  member_yes k h =
      let c = both_true (ltb k J.n) (both (not (eqb k j)) (both (leb 1 (J.r ! k)) (sure J.p W k t))) h in
      let d = both_true (not (eqb k j)) (both (leb 1 (J.r ! k)) (sure J.p W k t)) c.1 in
      let e = both_true (leb 1 (J.r ! k)) (sure J.p W k t) d.1 in
      record {
        listed = ltb-true k J.n c.0;
        other = eqb-false k j (not-true (eqb k j) d.0);
        takes = leb-true 1 (J.r ! k) e.0;
        sure_there = sure_yes J.p W k t e.1;
      }

  pub yes_member : (k : ℕ) → Member J W j t k → member J W j t k ≡ true
  unfolding member
  yes_member k m =
      true_both (ltb k J.n) _ (lt-ltb _ _ m.listed)
      (true_both (not (eqb k j)) _ (rw (ne_eqb k j m.other))
      (true_both (leb 1 (J.r ! k)) (sure J.p W k t) (le-leb _ _ m.takes) (yes_sure J.p W k t m.sure_there)))

-- a rule applies at a crowded time
pub crowded_at : (J : Jobs) (W : Win) (j : ℕ) (s : Side) (t : ℕ) → Applies J W j s (bound s t) → Crowded J W j t
crowded_at J W j early t a = a.crowded
crowded_at J W j late t a = a.crowded
