-- The answer table keeps narrowing's promise, over any rules: demands 2 and 3 hold of what it leaves.
use Prim.Native.Nat.{ℕ, zero, suc, ◌+◌, ◌≤◌, ◌<◌}
use native.Mathlib.Omega.{arith}
use native.Mathlib.Decide.{dec_le}
use mathlib.Core.Path.{◌≡◌, refl}
use mathlib.Core.List.{List}
use mathlib.Core.Logic.{◌⊎◌, inl, inr}
use Rattle.lists.specs.Lists.{◌!◌}
use Rattle.narrowing.specs.Windows.{Win, Side, Long, slack}
use Rattle.narrowing.specs.Rules.{Stable}
use Rattle.narrowing.specs.Schedules.{Fixed}
use Rattle.narrowing.specs.Run.{Out, settled, clash, short, needed}
use Rattle.narrowing.proofs.Steps.{largest_step}
use Rattle.narrowing.proofs.Schedules.{step_schedule, none_schedule, fixed_settled, fixed_clash}
use Rattle.narrowing.proofs.Next.{stable_or}
use Rattle.narrowing.proofs.Runs.{run_good, never_short}
use Rattle.narrowing.proofs.Runs as runs
use Rattle.narrowing.proofs.Room.{short_below, below_short}
use Rattle.answers.specs.Said.{Word}
use Rattle.answers.proofs.Same.{not_said}
use Rattle.journal.specs.Journal.{WholeRecords}
use Rattle.promises.specs.Ask.{Ask, Grounds, job_count, lasts, Good, refusal_of}
use Rattle.promises.specs.Table.{ended, ran, tabled, narrowed}
use Rattle.promises.specs.Promise.{LargestIn, NoneIn, AllFixed, HasRoom, needs, Room, Kept, Narrowest, Narrows}
use Rattle.promises.proofs.Calls.{admitted_call, call_admitted, whole}
use Rattle.promises.proofs.Reasons.{reasons_by}
use Rattle.promises.proofs.Rows.{exactly}

-- where every job is fixed nothing is slack
no_slack : (p : List ℕ) (W : Win) (m n : ℕ) → m ≤ n → ((k : ℕ) → k < n → W.l ! k ≡ W.e ! k + p ! k) → slack p W m ≡ 0
unfolding slack
no_slack p W zero n b f = refl
no_slack p W (suc m) n b f = omega (arith, no_slack p W m n (omega arith) f, f m b)

module _ (A : Ask) (x : Grounds A) where
  means : runs.Good (job_count A) (lasts A) A.rules A.win (ran A)
  means = run_good A.search A.rules x.searches x.lawful A.room A.win

  module _ (g : Good A) where
    room_not : Room A → ran A ≡ short → ⊥
    unfolding needs
    room_not h e = omega (arith, h.1, short_below A.search A.rules x.searches x.lawful A.win (whole A g) A.room e)

    pub slack_room : HasRoom A (suc (slack (lasts A) A.win (job_count A))) → Room A
    unfolding needs
    slack_room h =
        elim (dec_le (needed A.search A.win) A.room) [
          | yes b ↦ (h.0, b)
          | no b ↦
              absurd (never_short A.search A.rules x.searches x.lawful A.room A.win (whole A g) h.1
              (below_short A.search A.rules x.searches x.lawful A.win (whole A g) A.room (omega arith)))
        ]

    -- ---- where every job is fixed

    module _ (f : AllFixed A) where
      fixed_is : Fixed (job_count A) (lasts A) A.win.e A.win
      fixed_is = record { early = λ k b. refl; late = f }

      fixed_long : Long (job_count A) (lasts A) A.win
      unfolding Long
      fixed_long k b = omega (arith, f k b)

      fixed_room : HasRoom A 1 → Room A
      fixed_room h = slack_room (h.0, omega (arith, h.1, no_slack (lasts A) A.win (job_count A) (job_count A) (omega arith) f))

      none_broken : NoneIn A → A.broken A.win.e
      none_broken h = go (stable_or A.search A.rules x.searches A.win fixed_long)
        where
          go : Stable (job_count A) A.rules A.win ⊎ ((j : ℕ) × (s : Side) × (b : ℕ) × (j < job_count A) × A.rules A.win j s b) → A.broken A.win.e
          go (inl q) =
              absurd (fixed_clash (job_count A) (lasts A) A.rules A.fits x.exact A.win f h (x.exact.full A.win.e A.win fixed_is q))
          go (inr y) = (x.broken A.win.e A.win fixed_is).0 y

      settled_not_broken : (U : Win) → LargestIn A U → A.broken A.win.e → ⊥
      unfolding Stable
      settled_not_broken U h o =
          let y = (x.broken A.win.e A.win fixed_is).1 o in
          let s = fixed_settled (job_count A) (lasts A) A.rules A.fits x.exact A.win f U h in
          x.exact.sound A.win.e A.win fixed_is s y.0 y.1 y.2 y.3 y.4

    -- ---- the run's rows

    kept_run : (o : Out) → ran A ≡ o → runs.Good (job_count A) (lasts A) A.rules A.win o → Kept A (ended A o)
    unfolding ended
    kept_run (settled U ms) e h =
        record {
          schedules = λ s y.
              step_schedule (job_count A) (lasts A) A.rules A.fits x.exact.sound A.win U (largest_step (job_count A) (lasts A) A.rules A.win U h) s y;
          none = λ z. absurd (not_said Word.settled Word.clash (λ q. omega arith) z);
          fixed = λ g f b. (λ z. absurd (not_said Word.settled Word.clash (λ q. omega arith) z), λ o. absurd (settled_not_broken f U h o));
        }
    kept_run (clash j ms) e h =
        record {
          schedules = λ s y. y;
          none = λ z s y. none_schedule (job_count A) (lasts A) A.rules A.fits x.exact.sound A.win h s y;
          fixed = λ g f b. (λ z. none_broken f h, λ o. refl);
        }
    kept_run short e h =
        record {
          schedules = λ s y. y;
          none = λ z. absurd (not_said Word.refused Word.clash (λ q. omega arith) z);
          fixed = λ g f b. absurd (room_not (fixed_room f b) e);
        }

    narrowest_run : (o : Out) → ran A ≡ o → runs.Good (job_count A) (lasts A) A.rules A.win o → Narrowest A (ended A o)
    unfolding ended
    narrowest_run (settled U ms) e h =
        record {
          decided = λ r. inl refl;
          settled = λ z. h;
          clash = λ r. (λ z. absurd (not_said Word.settled Word.clash (λ q. omega arith) z), λ y. absurd (y U h.one));
          exists = λ r. (λ z. (U, h.one), λ y. refl);
          free = λ b. (inl refl, (λ z. (U, h.one), λ y. refl), (λ z. absurd (not_said Word.settled Word.clash (λ q. omega arith) z), λ y. absurd (y U h.one)));
        }
    narrowest_run (clash j ms) e h =
        record {
          decided = λ r. inr refl;
          settled = λ z. absurd (not_said Word.clash Word.settled (λ q. omega arith) z);
          clash = λ r. (λ z. h, λ y. refl);
          exists = λ r. (λ z. absurd (not_said Word.clash Word.settled (λ q. omega arith) z), λ y. absurd (h y.0 y.1));
          free = λ b. (inr refl, (λ z. absurd (not_said Word.clash Word.settled (λ q. omega arith) z), λ y. absurd (h y.0 y.1)), (λ z. h, λ y. refl));
        }
    narrowest_run short e h =
        record {
          decided = λ r. absurd (room_not r e);
          settled = λ z. absurd (not_said Word.refused Word.settled (λ q. omega arith) z);
          clash = λ r. absurd (room_not r e);
          exists = λ r. absurd (room_not r e);
          free = λ b. absurd (room_not (slack_room b) e);
        }

  -- ---- the whole table

  narrows_by : (k : ℕ) → refusal_of A ≡ k → Kept A (tabled A k) × (Good A → Narrowest A (tabled A k))
  unfolding tabled
  narrows_by zero e = let g = (admitted_call A e).0 in (kept_run g (ran A) refl means, λ h. narrowest_run g (ran A) refl means)
  narrows_by (suc k) e = (
    record {
      schedules = λ s y. y;
      none = λ z. absurd (not_said Word.refused Word.clash (λ q. omega arith) z);
      fixed = λ g f r. absurd (no_room g r.0);
    },
    λ g.
        record {
          decided = λ r. absurd (no_room g r.0);
          settled = λ z. absurd (not_said Word.refused Word.settled (λ q. omega arith) z);
          clash = λ r. absurd (no_room g r.0);
          exists = λ r. absurd (no_room g r.0);
          free = λ r. absurd (no_room g r.0);
        },
  )
    where
      -- a good list is turned away only where its log is ragged, which has no room
      no_room : Good A → WholeRecords A.log → ⊥
      no_room g w = omega (arith, call_admitted A (g, w))

  pub narrows : Narrows A (narrowed A)
  unfolding narrowed
  narrows =
      let h = narrows_by (refusal_of A) refl in
      record { answered = refl; exactly = exactly A x (narrowed A) refl h.1; kept = h.0; largest = h.1; reasons = reasons_by A x (refusal_of A) refl }
