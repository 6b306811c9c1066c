-- A record that passes codes 21 to 26 is a rule's move, implies its own change from the facts that it names, and these hold of all starts in the windows
-- reached; whether a member is spare plays no part.
use Prim.Native.Nat.{ℕ, ◌+◌, ◌≤◌, ◌<◌}
use native.Mathlib.Omega.{arith}
use native.Mathlib.Decide.{dec_lt, dec_le}
use mathlib.Core.Path.{◌≡◌, refl}
use mathlib.Core.Bool.{Bool, true, not}
use mathlib.Core.List.{List}
use lib.Dec.{eqb}
use borrow.Author.Tests.{eq-eqb, ne_eqb}
use Rattle.lists.specs.Lists.{◌!◌}
use Rattle.lists.specs.Tests.{both, either, only}
use Rattle.lists.specs.Sets.{total_of}
use Rattle.lists.proofs.Tests.{only_le, true_both, either_left, either_right}
use Rattle.lists.proofs.Sums.{total_le, total_others}
use Rattle.lists.proofs.Sets.{total_of_sub}
use Rattle.narrowing.specs.Windows.{Win, Side, early, late}
use Rattle.narrowing.specs.Rules.{Step}
use Rattle.narrowing.proofs.Steps.{step_move}
use Rattle.journal.specs.Journal.{job_of, time_of, is_member}
use Rattle.timetable.specs.Time.{Jobs, Runs, runs_at, drawn_by, load, Crowded, Applies, bound}
use Rattle.timetable.specs.Search.{member}
use Rattle.timetable.specs.Reason.{OwnFact, Stated, named_drawn, Changed, Implied, StartsWithin}
use Rattle.timetable.specs.Table.{Call, jobs_of, asks}
use Rattle.timetable.proofs.Facts.{yes_runs, yes_member}
use Rattle.timetable.proofs.Law.{lawful}
use Rattle.timetable.proofs.Exact.{exact}
use Rattle.timetable.proofs.Lean.{members_load}
use Rattle.codes.specs.Facts.{side, OwnTrue, Tightens, Passes, GoodRecord}
use Rattle.codes.proofs.Codes.{code_exactly, good_record, record_good}
use Rattle.verdicts.specs.Promise.{Judges}
use Rattle.checks.specs.Replay.{changed, ReasonedOn, trial}

module _ (J : Jobs) (W : Win) (x : List ℕ) (g : Passes J W x) where
  -- ---- a rule's move

  -- its members are some of 01's, so that their demands are part of the others' load
  members_within : total_of J.n J.r (is_member x) ≤ load J W (job_of x) (time_of x)
  members_within =
      omega (
        arith,
        members_load J W (job_of x) (time_of x),
        total_of_sub J.n J.r (is_member x) (member J W (job_of x) (time_of x))
            (λ k b h.
            let q = g.partners.members k h in
            yes_member J W (job_of x) (time_of x) k (record { listed = b; other = q.1; takes = q.0.takes; sure_there = g.stated.members k h })),
      )

  crowded_there : Crowded J W (job_of x) (time_of x)
  crowded_there = record { lasts = g.partners.lasts; takes = g.partners.takes; over = omega (arith, g.exceeds, members_within) }

  by_side : (s : Side) → OwnTrue J.p W (job_of x) s (time_of x) → Tightens W (job_of x) s (time_of x) → Applies J W (job_of x) s (bound s (time_of x))
  by_side early a b = record { from = b; to = a; crowded = crowded_there }
  by_side late a b = record { from = a; to = b; crowded = crowded_there }

  pub record_applies : Applies J W (job_of x) (side x) (bound (side x) (time_of x))
  record_applies = by_side (side x) g.stated.own g.tightens

  pub record_step : Step J.n J.p (Applies J) W (changed W x)
  unfolding changed
  record_step = step_move J.n J.p (Applies J) (lawful J) W (job_of x) (side x) (bound (side x) (time_of x)) g.in_range.job record_applies

  -- ---- what the record says follows from its facts alone

  module _ (s : List ℕ) (members : (k : ℕ) → k < J.n → is_member x k ≡ true → (time_of x < s ! k + J.p ! k) × (s ! k ≤ time_of x)) where
    abbrev counts : ℕ → Bool
    counts k = both (either (is_member x k) (eqb k (job_of x))) (runs_at J.p s k (time_of x))

    -- the members and the moved job, all running, draw more than the capacity
    over_named : runs_at J.p s (job_of x) (time_of x) ≡ true → J.cap < named_drawn J s (is_member x) (job_of x) (time_of x)
    unfolding named_drawn drawn_by total_of
    over_named h =
        let a = total_others counts (λ k. J.r ! k) (job_of x) J.n g.in_range.job in
        let own : counts (job_of x) ≡ true = true_both _ _ (either_right (is_member x (job_of x)) _ (eq-eqb (job_of x) (job_of x) refl)) h in
        let e : only (counts (job_of x)) (J.r ! job_of x) ≡ J.r ! job_of x = rw own in
        let b =
        total_le (λ k. only (is_member x k) (J.r ! k)) (λ k. only (both (not (eqb k (job_of x))) (counts k)) (J.r ! k)) J.n
        (λ k c.
        only_le (is_member x k) (both (not (eqb k (job_of x))) (counts k)) (J.r ! k)
        (λ q.
        true_both (not (eqb k (job_of x))) (counts k) (rw (ne_eqb k (job_of x) (g.partners.members k q).1))
        (true_both _ _ (either_left (is_member x k) _ q) (let m = members k c q in yes_runs J.p s k (time_of x) (record { from = m.1; to = m.0 }))))) in
        omega (arith, a, e, b, g.exceeds)

  pub implies : Implied J (is_member x) (job_of x) (side x) (time_of x)
  implies s f d = by (side x) f.own
    where
      runs_not : Runs J.p s (job_of x) (time_of x) → ⊥
      runs_not q = omega (arith, over_named s f.members (yes_runs J.p s (job_of x) (time_of x) q))

      by : (v : Side) → OwnFact J.p s (job_of x) v (time_of x) → Changed J.p s (job_of x) v (time_of x)
      by early o = elim (dec_lt (time_of x) (s ! job_of x)) [ yes b ↦ b | no b ↦ absurd (runs_not (record { from = omega arith; to = o })) ]
      by late o = elim (dec_le (s ! job_of x + J.p ! job_of x) (time_of x)) [ yes b ↦ b | no b ↦ absurd (runs_not (record { from = o; to = omega arith })) ]

  -- ---- and the facts hold of all starts within the windows

  pub true_there : (s : List ℕ) → StartsWithin J.n J.p W s → Stated J.n J.p s (is_member x) (job_of x) (side x) (time_of x)
  true_there s w =
      record {
        members = λ k b h. let q = g.stated.members k h in (omega (arith, q.to, w.from k b), omega (arith, q.from, w.to k b));
        own = by (side x) g.stated.own;
      }
    where
      by : (v : Side) → OwnTrue J.p W (job_of x) v (time_of x) → OwnFact J.p s (job_of x) v (time_of x)
      by early o = omega (arith, w.from (job_of x) g.in_range.job)
      by late o = omega (arith, w.to (job_of x) g.in_range.job)

-- so it is reasoned
pub reasoned : (J : Jobs) (W : Win) (x : List ℕ) → GoodRecord J W x → ReasonedOn J W x
reasoned J W x t =
    let g = t.passes in
    record {
      implies = implies J W x g;
      true_there = true_there J W x g;
      lean = record { counted = g.counted; other = λ h. (g.partners.members _ h).1 refl; exceeds = g.exceeds; lean = t.lean };
    }

-- what is asked of the test and the change of a record
pub judging : (c : Call) → Judges (trial (jobs_of c)) (asks c)
judging c =
    let J = jobs_of c in
    record {
      codes = code_exactly J;
      goods = λ W x. (good_record J W x, record_good J W x);
      listed = λ W x g. g.passes.in_range.job;
      step = λ W x g. record_step J W x g.passes;
      reasons = reasoned J;
      sound = (exact J).sound;
    }
