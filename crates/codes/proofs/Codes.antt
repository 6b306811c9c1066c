-- Each code's test with its fact and its fault; a code is given exactly when 01 says so and no code before it is.
use Prim.Native.Nat.{ℕ, ◌+◌, ◌*◌, ◌≤◌, ◌<◌}
use native.Mathlib.Omega.{arith}
use mathlib.Core.Path.{◌≡◌, refl}
use mathlib.Core.Bool.{Bool, true, not}
use mathlib.Core.List.{List}
use mathlib.Core.Logic.{◌⊎◌, inl, inr, ◌↔◌}
use lib.ListN.{length}
use lib.Dec.{leb, eqb}
use Rattle.lists.specs.Lists.{◌!◌}
use Rattle.lists.specs.Tests.{both, where?, every}
use Rattle.lists.specs.Spares.{without, amount, Spare, spare}
use Rattle.lists.proofs.Judged.{Judged, judged_as, judged_both, judged_leb, judged_eqb, judged_every, judged_ltb, judged_not, judged_where}
use Rattle.lists.proofs.Spares.{judged_spare}
use Rattle.lists.proofs.Chains.{unless_exactly}
use Rattle.narrowing.specs.Windows.{Win, Side, early, late}
use Rattle.members.specs.Members.{ones_of}
use Rattle.members.proofs.Sets.{has_within}
use Rattle.joblist.specs.Limits.{most_time}
use Rattle.journal.specs.Journal.{side_word, count_word, set_of_record, job_of, time_of, is_member}
use Rattle.timetable.specs.Time.{Jobs, Sure, sure}
use Rattle.timetable.specs.Reason.{named, Lean}
use Rattle.codes.specs.Codes.{Coded, in_range, takes_part, partners, own_true, stated_true, tightens, lean, code}
use Rattle.codes.specs.Facts.{side, InRange, TakesPart, Partners, OwnTrue, StatedTrue, Tightens, Passes, GoodRecord}
use Rattle.codes.specs.Faults.{OutOfRange, Idle, BadPartner, OwnFalse, Untrue, Idles, HasSpare, OnlySpare}

-- ---- the tests of the codes

module _ (J : Jobs) (W : Win) (x : List ℕ) where
  -- a test of each member: the bits beyond the set's words are none
  judged_members : (A N : ℕ → Type 0) (f : ℕ → Bool) → ((k : ℕ) → Judged (A k) (N k) (f k))
      → Judged ((k : ℕ) → is_member x k ≡ true → A k) ((k : ℕ) × (is_member x k ≡ true) × N k) (every (λ k. where? (is_member x k) (f k)) (32 * length (set_of_record x)))
  judged_members A N f j =
      judged_as
      (judged_every (λ k. is_member x k ≡ true → A k) (λ k. (is_member x k ≡ true) × N k) (λ k. where? (is_member x k) (f k)) (λ k. judged_where (is_member x k) (j k)) (32 * length (set_of_record x)))
      (λ g k m. g k (has_within (set_of_record x) k m) m)
      (λ q. (q.0, q.2.0, q.2.1))
      (λ g q. (j q.0).apart (g q.0 q.1) q.2)

  pub range_judged : Judged (InRange J x) (OutOfRange J x) (in_range J x)
  unfolding in_range
  range_judged =
      judged_as (judged_both (judged_ltb (job_of x) J.n) (judged_both (judged_leb (x ! side_word) 1) (judged_leb (time_of x) most_time)))
      (λ f. record { job = f.0; side = f.1.0; time = f.1.1 }) (λ f. f) apart
    where
      apart : InRange J x → OutOfRange J x → ⊥
      apart f (inl q) = omega (arith, f.job)
      apart f (inr (inl q)) = omega (arith, f.side)
      apart f (inr (inr q)) = omega (arith, f.time)

  -- a duration and a demand
  busy_judged : (k : ℕ) → Judged ((1 ≤ J.p ! k) × (1 ≤ J.r ! k)) (Idle J k) (both (leb 1 (J.p ! k)) (leb 1 (J.r ! k)))
  busy_judged k = judged_as (judged_both (judged_leb 1 (J.p ! k)) (judged_leb 1 (J.r ! k))) (λ f. f) idle apart
    where
      idle : (J.p ! k < 1) ⊎ (J.r ! k < 1) → Idle J k
      idle (inl q) = inl (omega arith)
      idle (inr q) = inr (omega arith)

      apart : (1 ≤ J.p ! k) × (1 ≤ J.r ! k) → Idle J k → ⊥
      apart f (inl q) = omega (arith, f.0)
      apart f (inr q) = omega (arith, f.1)

  member_judged : (k : ℕ) → Judged (TakesPart J k × (k ≡ job_of x → ⊥)) ((J.n ≤ k) ⊎ (Idle J k ⊎ (k ≡ job_of x))) (both (takes_part J k) (not (eqb k (job_of x))))
  unfolding takes_part
  member_judged k =
      judged_as (judged_both (judged_both (judged_ltb k J.n) (busy_judged k)) (judged_not (judged_eqb k (job_of x))))
      (λ f. (record { listed = f.0.0; lasts = f.0.1.0; takes = f.0.1.1 }, f.1)) fault apart
    where
      fault : ((J.n ≤ k) ⊎ Idle J k) ⊎ (k ≡ job_of x) → (J.n ≤ k) ⊎ (Idle J k ⊎ (k ≡ job_of x))
      fault (inl (inl q)) = inl q
      fault (inl (inr q)) = inr (inl q)
      fault (inr q) = inr (inr q)

      apart : TakesPart J k × (k ≡ job_of x → ⊥) → (J.n ≤ k) ⊎ (Idle J k ⊎ (k ≡ job_of x)) → ⊥
      apart f (inl q) = omega (arith, f.0.listed)
      apart f (inr (inl q)) = (busy_judged k).apart (f.0.lasts, f.0.takes) q
      apart f (inr (inr q)) = f.1 q

  pub partners_judged : Judged (Partners J x) (BadPartner J x) (partners J x)
  unfolding partners
  partners_judged =
      judged_as (judged_both (busy_judged (job_of x)) members)
      (λ f. record { lasts = f.0.0; takes = f.0.1; members = f.1 }) (λ f. f) apart
    where
      members : Judged ((k : ℕ) → is_member x k ≡ true → TakesPart J k × (k ≡ job_of x → ⊥)) ((k : ℕ) × (is_member x k ≡ true) × ((J.n ≤ k) ⊎ (Idle J k ⊎ (k ≡ job_of x))))
          (every (λ k. where? (is_member x k) (both (takes_part J k) (not (eqb k (job_of x))))) (32 * length (set_of_record x)))
      members = judged_members (λ k. TakesPart J k × (k ≡ job_of x → ⊥)) (λ k. (J.n ≤ k) ⊎ (Idle J k ⊎ (k ≡ job_of x))) (λ k. both (takes_part J k) (not (eqb k (job_of x)))) member_judged

      apart : Partners J x → BadPartner J x → ⊥
      apart f (inl q) = (busy_judged (job_of x)).apart (f.lasts, f.takes) q
      apart f (inr q) = members.apart f.members q

  own_judged : (s : Side) → Judged (OwnTrue J.p W (job_of x) s (time_of x)) (OwnFalse J.p W (job_of x) s (time_of x)) (own_true J.p W (job_of x) s (time_of x))
  own_judged early = judged_ltb (time_of x) (W.e ! job_of x + J.p ! job_of x)
  own_judged late = judged_leb (W.l ! job_of x) (time_of x + J.p ! job_of x)

  sure_judged : (k : ℕ) → Judged (Sure J.p W k (time_of x)) ((time_of x + J.p ! k < W.l ! k) ⊎ (W.e ! k + J.p ! k ≤ time_of x)) (sure J.p W k (time_of x))
  unfolding sure
  sure_judged k =
      judged_as (judged_both (judged_leb (W.l ! k) (time_of x + J.p ! k)) (judged_ltb (time_of x) (W.e ! k + J.p ! k)))
      (λ f. record { from = f.0; to = f.1 }) (λ f. f) apart
    where
      apart : Sure J.p W k (time_of x) → (time_of x + J.p ! k < W.l ! k) ⊎ (W.e ! k + J.p ! k ≤ time_of x) → ⊥
      apart f (inl q) = omega (arith, f.from)
      apart f (inr q) = omega (arith, f.to)

  stated_judged : Judged (StatedTrue J W x) (Untrue J W x) (stated_true J W x)
  unfolding stated_true
  stated_judged =
      judged_as (judged_both (own_judged (side x)) members) (λ f. record { own = f.0; members = f.1 }) (λ f. f) apart
    where
      members : Judged ((k : ℕ) → is_member x k ≡ true → Sure J.p W k (time_of x))
          ((k : ℕ) × (is_member x k ≡ true) × ((time_of x + J.p ! k < W.l ! k) ⊎ (W.e ! k + J.p ! k ≤ time_of x)))
          (every (λ k. where? (is_member x k) (sure J.p W k (time_of x))) (32 * length (set_of_record x)))
      members =
          judged_members (λ k. Sure J.p W k (time_of x)) (λ k. (time_of x + J.p ! k < W.l ! k) ⊎ (W.e ! k + J.p ! k ≤ time_of x))
          (λ k. sure J.p W k (time_of x)) sure_judged

      apart : StatedTrue J W x → Untrue J W x → ⊥
      apart f (inl q) = (own_judged (side x)).apart f.own q
      apart f (inr q) = members.apart f.members q

  tightens_judged : (s : Side) → Judged (Tightens W (job_of x) s (time_of x)) (Idles W (job_of x) s (time_of x)) (tightens W (job_of x) s (time_of x))
  tightens_judged early = judged_leb (W.e ! job_of x) (time_of x)
  tightens_judged late = judged_ltb (time_of x) (W.l ! job_of x)

  -- the bits beyond the set's words are none
  lean_judged : Judged (Lean J x) (HasSpare J x) (lean J x)
  unfolding lean
  lean_judged =
      let own = J.r ! job_of x in
      let spare_at = judged_spare J.n J.r own J.cap (is_member x) in
      judged_as
      (judged_every (λ k. is_member x k ≡ true → amount J.n J.r own (without (is_member x) k) ≤ J.cap) (Spare J.n J.r own J.cap (is_member x))
      (λ k. not (spare J.n J.r own J.cap (is_member x) k)) spare_at (32 * length (set_of_record x)))
      (λ g k m. g k (has_within (set_of_record x) k m) m) (λ q. (q.0, q.2)) (λ g q. (spare_at q.0).apart (g q.0) q.1)

  -- ---- the code

  pub code_exactly : (k : ℕ) → (code J W x ≡ k) ↔ Coded J W x k
  unfolding code
  code_exactly k =
      unless_exactly range_judged 21 _ k
      (unless_exactly partners_judged 22 _ k
      (unless_exactly (judged_eqb (x ! count_word) (ones_of (set_of_record x))) 23 _ k
      (unless_exactly (judged_ltb J.cap (named J x)) 24 _ k
      (unless_exactly stated_judged 25 _ k
      (unless_exactly (tightens_judged (side x)) 26 _ k
      (unless_exactly lean_judged 27 0 k ((λ h. h), (λ h. h))))))))

  -- any other number than 21 to 26 is given where these pass: 27 for a spare member, 0 for none
  abbrev Behind : ℕ → Type 0
  Behind k = Passes J W x × ((HasSpare J x × (27 ≡ k)) ⊎ (Lean J x × (0 ≡ k)))

  behind : (k : ℕ) → (21 ≤ k → k ≤ 26 → ⊥) → Coded J W x k → Behind k
  behind k f (inl q) = absurd (f (omega (arith, q.1)) (omega (arith, q.1)))
  behind k f (inr (r, inl q)) = absurd (f (omega (arith, q.1)) (omega (arith, q.1)))
  behind k f (inr (r, inr (a, inl q))) = absurd (f (omega (arith, q.1)) (omega (arith, q.1)))
  behind k f (inr (r, inr (a, inr (b, inl q)))) = absurd (f (omega (arith, q.1)) (omega (arith, q.1)))
  behind k f (inr (r, inr (a, inr (b, inr (c, inl q))))) = absurd (f (omega (arith, q.1)) (omega (arith, q.1)))
  behind k f (inr (r, inr (a, inr (b, inr (c, inr (d, inl q)))))) = absurd (f (omega (arith, q.1)) (omega (arith, q.1)))
  behind k f (inr (r, inr (a, inr (b, inr (c, inr (d, inr (e, z))))))) =
      (record { in_range = r; partners = a; counted = b; exceeds = c; stated = d; tightens = e }, z)

  coded : (k : ℕ) → Behind k → Coded J W x k
  coded k (g, z) = inr (g.in_range, inr (g.partners, inr (g.counted, inr (g.exceeds, inr (g.stated, inr (g.tightens, z))))))

  -- 0 is a good record
  pub good_record : code J W x ≡ 0 → GoodRecord J W x
  good_record h = go (behind 0 (λ a b. omega arith) ((code_exactly 0).0 h))
    where
      go : Behind 0 → GoodRecord J W x
      go (g, inl q) = absurd (omega (arith, q.1))
      go (g, inr q) = record { passes = g; lean = q.0 }

  pub record_good : GoodRecord J W x → code J W x ≡ 0
  record_good g = (code_exactly 0).1 (coded 0 (g.passes, inr (g.lean, refl)))

  -- 27 is a spare member in a record that is good else
  pub spare_exactly : Coded J W x 27 ↔ OnlySpare J W x
  spare_exactly = (λ h. go (behind 27 (λ a b. omega arith) h), λ s. coded 27 (s.passes, inl (s.spare, refl)))
    where
      go : Behind 27 → OnlySpare J W x
      go (g, inl q) = record { passes = g; spare = q.0 }
      go (g, inr q) = absurd (omega (arith, q.1))
