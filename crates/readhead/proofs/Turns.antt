-- A turn of the sweep's loop: the job at place k of the order goes in, and its latest end is tested where no job of it is next. Then the
-- same over the lists that the code has: what each turn needs and leaves, and what the loop's two ends say.
use Prim.Native.Nat.{ℕ, ◌+◌, ◌-◌, ◌^◌, ◌≤◌, ◌<◌}
use native.Mathlib.Omega.{arith}
use mathlib.Core.Path.{◌≡◌, refl, sym, ap, ◌∙◌}
use mathlib.Core.Bool.{Bool, true, false, not}
use mathlib.Core.List.{List, [], ◌∷◌}
use lib.Dec.{ltb, eqb}
use lib.IntN.{ℤ, pos, ◌+ℤ◌}
use lib.ListN.{length, set}
use lib.Signed.{lt_z}
use borrow.Author.Tests.{ltb-true, lt-ltb, eq-eqb, eqb-true}
use Rattle.answers.specs.Said.{Word, said}
use Rattle.joblist.specs.Limits.{most_jobs}
use Rattle.lists.specs.Lists.{◌!◌}
use Rattle.lists.specs.Tests.{both}
use Rattle.lists.specs.Orders.{rank, Ordered}
use Rattle.lists.specs.Sets.{Set, total_of}
use Rattle.lists.proofs.Orders.{rank_below, rank_apart}
use Rattle.lists.proofs.Tests.{both_true}
use Rattle.lists.proofs.Sets.{clash}
use Rattle.narrowing.specs.Windows.{Win, win}
use Rattle.overloads.specs.Overload.{Finding, nothing, overload, found_said, FirstPair}
use Rattle.overloads.proofs.Pairs.{overload_is}
use Rattle.theta.specs.Theta.{far, end_of, Climbed, depth, descent}
use Rattle.theta.proofs.Nodes.{total_most}
use Rattle.readhead.specs.Sweep.{tied, due, Sorted, Entered, LeafTaken}
use Rattle.readhead.proofs.Sweeps.{entered, Going, going_end, going_same, going_short, going_found}

module _ (n m : ℕ) (p : List ℕ) (W : Win) (o : List ℕ) (k : ℕ) (sums : List ℕ) (ends : List ℤ) (sums' : List ℕ) (ends' : List ℤ) (few : n ≤ m)
    (order : Ordered W.l n o) (G : Going n m p W k sums ends) (lt : k < n)
    (C : Climbed m (set sums (m + rank W.e n (o ! k)) (p ! (o ! k))) (set ends (m + rank W.e n (o ! k)) (pos (W.e ! (o ! k) + p ! (o ! k)))) sums' ends')
    (small : total_of n p (entered n W (k + 1)) < far) (d : ℕ) (size : m ≡ 2 ^ d) where
  -- no job of its latest end is next
  not_tied : tied n W.l o (k + 1) (W.l ! (o ! k)) ≡ false → (i : ℕ) → i < n → rank W.l n i ≡ k + 1 → W.l ! i ≡ W.l ! (o ! k) → ⊥
  not_tied h i c r f =
      let b : k + 1 < n = omega (arith, rank_below W.l n i c) in
      let e : o ! (k + 1) ≡ i = rank_apart W.l n (o ! (k + 1)) i (order.into (k + 1) b) c (order.placed (k + 1) b ∙ sym r) in
      clash (tied n W.l o (k + 1) (W.l ! (o ! k))) (rw (lt-ltb (k + 1) n b, e) (eq-eqb (W.l ! i) (W.l ! (o ! k)) f)) h

  pub going_on : due n W.l o (k + 1) (W.l ! (o ! k)) (end_of ends' 1) ≡ false → Going n m p W (k + 1) sums' ends'
  going_on h = go (tied n W.l o (k + 1) (W.l ! (o ! k))) refl h
    where
      go : (t : Bool) → tied n W.l o (k + 1) (W.l ! (o ! k)) ≡ t → both (not t) (lt_z (pos (W.l ! (o ! k))) (end_of ends' 1 +ℤ pos 0)) ≡ false → Going n m p W (k + 1) sums' ends'
      go true e f =
          let q = both_true (ltb (k + 1) n) (eqb (W.l ! (o ! (k + 1))) (W.l ! (o ! k))) e in
          let b : k + 1 < n = ltb-true (k + 1) n q.0 in
          going_same n m p W k sums ends sums' ends' few G (o ! k) (order.into k lt) (order.placed k lt) C
          (o ! (k + 1)) (order.into (k + 1) b) (order.placed (k + 1) b) (eqb-true _ _ q.1)
      go false e f = going_short n m p W k sums ends sums' ends' few G (o ! k) (order.into k lt) (order.placed k lt) C (not_tied e) small d size f

  pub going_found_at : (s : List ℕ) → Ordered W.e n s → due n W.l o (k + 1) (W.l ! (o ! k)) (end_of ends' 1) ≡ true
      → (x : ℕ) × (descent sums' ends' (W.l ! (o ! k)) d 1 0 ≡ m + x) × (x < n) × (s ! x < n) × FirstPair n p W (W.e ! (s ! x)) (W.l ! (o ! k))
  going_found_at s by_start h = go (tied n W.l o (k + 1) (W.l ! (o ! k))) refl h
    where
      go : (t : Bool) → tied n W.l o (k + 1) (W.l ! (o ! k)) ≡ t → both (not t) (lt_z (pos (W.l ! (o ! k))) (end_of ends' 1 +ℤ pos 0)) ≡ true
          → (x : ℕ) × (descent sums' ends' (W.l ! (o ! k)) d 1 0 ≡ m + x) × (x < n) × (s ! x < n) × FirstPair n p W (W.e ! (s ! x)) (W.l ! (o ! k))
      go true e f = clash false f refl
      go false e f =
          let r = going_found n m p W k sums ends sums' ends' few G (o ! k) (order.into k lt) (order.placed k lt) C (not_tied e) small d size f in
          (r.0, r.1, r.2, by_start.into r.0 r.2, r.3 (s ! r.0) (by_start.into r.0 r.2) (by_start.placed r.0 r.2))

-- ---- over the lists that the code has

-- the state after k jobs
abbrev pub Turning : List ℕ → List ℕ → List ℕ → List ℕ → List ℤ → ℕ → Type 0
Turning est lct dur sums ends k = Going (length est) most_jobs dur (win est lct) k sums ends

module _ (est lct dur place starts stops : List ℕ) (S : Sorted est lct dur place starts stops) where
  small : (T : Set) → total_of (length est) dur T < far
  small T = omega (arith, total_most (length est) dur T S.good.few S.good.within.1.1.0)

  module _ (k : ℕ) (sums : List ℕ) (ends : List ℤ) (sums' : List ℕ) (ends' : List ℤ) (T : Turning est lct dur sums ends k) (lt : k < length est)
      (E : Entered est dur (stops ! k) sums ends sums' ends') (r : Bool)
      (told : r ≡ due (length lct) lct stops (k + 1) (lct ! (stops ! k)) (end_of ends' 1)) where
    abbrev b : ℕ
    b = lct ! (stops ! k)

    -- what the test has told of the root
    due_is : (t : Bool) → r ≡ t → due (length est) lct stops (k + 1) b (end_of ends' 1) ≡ t
    due_is t h = rw S.good.sized.1.0 at (sym told ∙ h)

    pub turn_on : r ≡ false → Turning est lct dur sums' ends' (k + 1)
    turn_on h =
        going_on (length est) most_jobs dur (win est lct) stops k sums ends sums' ends' S.good.few S.by_stop T lt E (small _) depth refl (due_is false h)

    module _ (h : r ≡ true) where
      abbrev v : ℕ
      v = descent sums' ends' b depth 1 0

      -- the job at the place where the descent ends starts at the pair's a
      reached : (x : ℕ) × (v ≡ most_jobs + x) × (x < length est) × (starts ! x < length est) × FirstPair (length est) dur (win est lct) (est ! (starts ! x)) b
      reached =
          going_found_at (length est) most_jobs dur (win est lct) stops k sums ends sums' ends' S.good.few S.by_stop T lt E (small _) depth refl
          starts S.by_start (due_is true h)

      place_is : v - most_jobs ≡ reached.0
      place_is = omega (arith, reached.1)

      pub turn_reached : LeafTaken est starts v
      turn_reached = record { leaf = omega (arith, reached.1); place = omega (arith, place_is, reached.2, S.good.few); job = rw place_is reached.3 }

      pub turn_found : said Word.overload (est ! (starts ! (v - most_jobs)) ∷ b ∷ []) ≡ found_said (overload (length est) dur (win est lct))
      turn_found = rw place_is (ap found_said (overload_is (length est) dur (win est lct) (Finding.pair (est ! (starts ! reached.0)) b) reached.4))

  pub turn_none : (k : ℕ) (sums : List ℕ) (ends : List ℤ) → Turning est lct dur sums ends k → length est ≤ k → said Word.none [] ≡ found_said (overload (length est) dur (win est lct))
  turn_none k sums ends T h =
      ap found_said (overload_is (length est) dur (win est lct) nothing (going_end (length est) most_jobs dur (win est lct) k sums ends T h))
