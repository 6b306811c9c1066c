-- The jobs go into the tree by rising latest end. After k of them the tree holds those of place below k, and every pair's b has a job yet to
-- come with a latest end of at most b. All jobs of one latest end b are in: then the tree's root tells whether b has a pair, and the descent
-- ends at the greatest a.
use Prim.Native.Nat.{ℕ, ◌+◌, ◌*◌, ◌^◌, ◌≤◌, ◌<◌}
use native.Mathlib.Omega.{arith}
use native.Mathlib.Decide.{ℕ_discrete, dec_lt, dec_le}
use mathlib.Core.Path.{◌≡◌, refl, sym, ◌∙◌}
use mathlib.Core.Bool.{true, false}
use mathlib.Core.List.{List}
use mathlib.Core.Logic.{◌⊎◌, inl, inr}
use lib.Dec.{ltb}
use lib.IntN.{ℤ, pos, ◌+ℤ◌}
use lib.ListN.{set, replicate}
use lib.Signed.{lt_z}
use borrow.Author.Tests.{leb-true, le-leb, ltb-true, lt-ltb}
use Rattle.lists.specs.Lists.{◌!◌}
use Rattle.lists.specs.Orders.{rank}
use Rattle.lists.specs.Sets.{Set, Sub, total_of}
use Rattle.lists.proofs.Orders.{rank_below, rank_apart, rank_rising, rank_onto}
use Rattle.lists.proofs.Tests.{by_contra}
use Rattle.narrowing.specs.Windows.{Win}
use Rattle.overloads.specs.Overload.{by, OverloadedPair, FirstPair}
use Rattle.theta.specs.Theta.{far, end_of, empty, Places, HoldsSet, Ranged, Climbed, descent}
use Rattle.theta.proofs.Ranges.{start_ranged}
use Rattle.theta.proofs.Climbs.{holds_more, start_holds}
use Rattle.readhead.proofs.PairPlaces.{short_none, last_pair, last_greatest}
use Rattle.theta.proofs.Descents.{Last, root_over, root_short}

-- places by earliest start are places of a tree with leaves enough
pub rank_places : (n m : ℕ) (e : List ℕ) → n ≤ m → Places n m e (rank e n)
rank_places n m e h =
    record { into = λ j b. omega (arith, rank_below e n j b); apart = rank_apart e n; rising = rank_rising e n }

-- ---- the sweep

-- the first k jobs by latest end
abbrev pub entered : ℕ → Win → ℕ → Set
entered n W k j = ltb (rank W.l n j) k

pub record Going (n m : ℕ) (p : List ℕ) (W : Win) (k : ℕ) (sums : List ℕ) (ends : List ℤ) : Type 0 where
  pub upto : k ≤ n
  pub ranged : Ranged m sums ends
  pub holds : HoldsSet n m W.e p (rank W.e n) (entered n W k) sums ends
  pub later : (a b : ℕ) → OverloadedPair n p W a b → (j : ℕ) × (j < n) × (W.l ! j ≤ b) × (k ≤ rank W.l n j)

pub going_start : (n m : ℕ) (p : List ℕ) (W : Win) → Going n m p W 0 (replicate (2 * m) 0) (replicate (2 * m) empty)
going_start n m p W =
    record {
      upto = omega arith;
      ranged = start_ranged m;
      holds = start_holds m n W.e p (rank W.e n) (entered n W 0) (λ k b t. absurd (omega (arith, ltb-true (rank W.l n k) 0 t)));
      later = λ a b q. (q.stop.0, q.stop.1, omega (arith, q.stop.2), omega arith);
    }

pub going_end : (n m : ℕ) (p : List ℕ) (W : Win) (k : ℕ) (sums : List ℕ) (ends : List ℤ) → Going n m p W k sums ends → n ≤ k → (a b : ℕ) → OverloadedPair n p W a b → ⊥
going_end n m p W k sums ends G h a b q = let j = G.later a b q in omega (arith, j.3, rank_below W.l n j.0 j.1)

-- job j, the next by latest end, is put in
module _ (n m : ℕ) (p : List ℕ) (W : Win) (k : ℕ) (sums : List ℕ) (ends : List ℤ) (sums' : List ℕ) (ends' : List ℤ) (few : n ≤ m)
    (G : Going n m p W k sums ends) (j : ℕ) (b : j < n) (is : rank W.l n j ≡ k)
    (C : Climbed m (set sums (m + rank W.e n j) (p ! j)) (set ends (m + rank W.e n j) (pos (W.e ! j + p ! j))) sums' ends') where
  pub entered_holds : HoldsSet n m W.e p (rank W.e n) (entered n W (k + 1)) sums' ends'
  entered_holds =
      holds_more n m W.e p (rank W.e n) (entered n W k) (entered n W (k + 1)) sums ends sums' ends' j (rank_places n m W.e few) G.ranged G.holds b
      (λ i c t.
      let q : rank W.l n i < k + 1 = ltb-true (rank W.l n i) (k + 1) t in
      elim (ℕ_discrete i j) [
        | yes r ↦ inl r
        | no r ↦ elim (ℕ_discrete (rank W.l n i) k) [
          | yes s ↦ inl (rank_apart W.l n i j c b (omega arith))
          | no s ↦ inr (lt-ltb (rank W.l n i) k (omega arith))
        ]
      ])
      (λ i c t. let q : rank W.l n i < k = ltb-true (rank W.l n i) k t in lt-ltb (rank W.l n i) (k + 1) (omega arith))
      (lt-ltb (rank W.l n j) (k + 1) (omega arith))
      C

  -- jobs that are in end no later than j
  entered_by : Sub n (entered n W (k + 1)) (by W (W.l ! j))
  entered_by i c t = let q : rank W.l n i < k + 1 = ltb-true (rank W.l n i) (k + 1) t in le-leb _ _ (rank_rising W.l n i j c b (omega arith))

  next_upto : k + 1 ≤ n
  next_upto = omega (arith, rank_below W.l n j b)

  -- what a pair waits for, once j is in: another job that ends no later, or j's own latest end
  waits : (a c : ℕ) → OverloadedPair n p W a c → ((i : ℕ) × (i < n) × (W.l ! i ≤ c) × (k + 1 ≤ rank W.l n i)) ⊎ (W.l ! j ≤ c)
  waits a c q =
      let i = G.later a c q in
      elim (dec_le (k + 1) (rank W.l n i.0)) [
        | yes h ↦ inl (i.0, i.1, i.2, h)
        | no h ↦ inr (let f : i.0 ≡ j = rank_apart W.l n i.0 j i.1 b (omega (arith, i.3)) in rw f at i.2)
      ]

  -- the next job has the same latest end: nothing is tested yet
  pub going_same : (i : ℕ) → i < n → rank W.l n i ≡ k + 1 → W.l ! i ≡ W.l ! j → Going n m p W (k + 1) sums' ends'
  going_same i c r f =
      record {
        upto = next_upto;
        ranged = C.ranged;
        holds = entered_holds;
        later = λ a d q. elim (waits a d q) [ inl w ↦ w | inr w ↦ (i, c, omega arith, omega arith) ];
      }

  -- no job, or one of another latest end, is next: all jobs that end by j's latest end are in
  module _ (last : (i : ℕ) → i < n → rank W.l n i ≡ k + 1 → W.l ! i ≡ W.l ! j → ⊥) where
    all_in : Sub n (by W (W.l ! j)) (entered n W (k + 1))
    all_in i c t =
        let h : W.l ! i ≤ W.l ! j = leb-true _ _ t in
        elim (dec_lt (rank W.l n i) (k + 1)) [
          | yes r ↦ lt-ltb (rank W.l n i) (k + 1) r
          | no r ↦
              let x = rank_onto W.l n (k + 1) (omega (arith, rank_below W.l n i c)) in
              absurd (last x.0 x.1 x.2
              (omega (arith, rank_rising W.l n x.0 i x.1 c (omega (arith, x.2)), rank_rising W.l n j x.0 b x.1 (omega (arith, x.2)))))
        ]

    module _ (small : total_of n p (entered n W (k + 1)) < far) (d : ℕ) (size : m ≡ 2 ^ d) where
      places : Places n m W.e (rank W.e n)
      places = rank_places n m W.e few

      -- the root does not exceed j's latest end: no pair has it
      pub going_short : lt_z (pos (W.l ! j)) (end_of ends' 1 +ℤ pos 0) ≡ false → Going n m p W (k + 1) sums' ends'
      going_short f =
          record {
            upto = next_upto;
            ranged = C.ranged;
            holds = entered_holds;
            later = λ a c q. elim (waits a c q) [ inl w ↦ w | inr w ↦ after a c q w (ℕ_discrete c (W.l ! j)) ];
          }
        where
          after : (a c : ℕ) → OverloadedPair n p W a c → W.l ! j ≤ c → Dec (c ≡ W.l ! j) → (i : ℕ) × (i < n) × (W.l ! i ≤ c) × (k + 1 ≤ rank W.l n i)
          after a c q w (yes g) =
              absurd (short_none n p W (rank W.e n) (entered n W (k + 1)) (W.l ! j) all_in (rank_rising W.e n)
              (root_short n m W.e p (rank W.e n) (entered n W (k + 1)) sums' ends' places entered_holds small (W.l ! j) d size f) a (rw g at q))
          after a c q w (no g) =
              let i = q.stop in
              (i.0, i.1, omega (arith, i.2), by_contra (k + 1) (rank W.l n i.0) (λ r. omega (arith, i.2, rank_rising W.l n i.0 j i.1 b (omega arith))))

      -- it does: the descent ends at the pair's job
      pub going_found : lt_z (pos (W.l ! j)) (end_of ends' 1 +ℤ pos 0) ≡ true
          → (x : ℕ) × (descent sums' ends' (W.l ! j) d 1 0 ≡ m + x) × (x < n) × ((i : ℕ) → i < n → rank W.e n i ≡ x → FirstPair n p W (W.e ! i) (W.l ! j))
      going_found f =
          let r = root_over n m W.e p (rank W.e n) (entered n W (k + 1)) sums' ends' places entered_holds small (W.l ! j) d size f in (
            r.0,
            r.1,
            omega (arith, rank_below W.e n r.3.0 r.3.1.below, r.3.1.place),
            λ i c g.
                let same : r.3.0 ≡ i = rank_apart W.e n r.3.0 i r.3.1.below c (r.3.1.place ∙ sym g) in
                rw same at (first r.0 r.3.0 r.3.1),
          )
        where
          first : (x i : ℕ) → Last n W.e p (rank W.e n) (entered n W (k + 1)) (W.l ! j) x i → FirstPair n p W (W.e ! i) (W.l ! j)
          first x i L =
              record {
                pair = last_pair n p W (rank W.e n) (entered n W (k + 1)) (W.l ! j) all_in (rank_rising W.e n) x i L entered_by j b refl;
                least = λ a c q. let w = G.later a c q in omega (arith, w.2, rank_rising W.l n j w.0 b w.1 (omega (arith, w.3)));
                greatest = last_greatest n p W (rank W.e n) (entered n W (k + 1)) (W.l ! j) all_in (rank_rising W.e n) x i L;
              }
