-- Last year's fault: a settled log that is not empty, replayed from the windows it left and not from the submitted ones, is rejected at place 0
-- with code 26: its first change tightens nothing any more.
use Prim.Native.Nat.{ℕ, suc}
use native.Mathlib.Omega.{arith}
use mathlib.Core.Path.{◌≡◌, refl, sym, ap, subst, ◌∙◌}
use mathlib.Core.List.{List, [], ◌∷◌, map}
use mathlib.Core.Logic.{inl, inr}
use lib.ListN.{length}
use Rattle.narrowing.specs.Windows.{Win, Side, early, late, Inside, Respects}
use Rattle.narrowing.specs.Search.{Move, move}
use Rattle.narrowing.specs.Rounds.{Chosen}
use Rattle.narrowing.proofs.Moves.{side_number, long_around}
use Rattle.narrowing.proofs.Steps.{stable_respects}
use Rattle.answers.specs.Said.{Word, said}
use Rattle.journal.specs.Journal.{job_of, time_of, record_at, logged}
use Rattle.journal.proofs.Records.{logged_record}
use Rattle.timetable.specs.Time.{Jobs, Applies, bound}
use Rattle.timetable.specs.Search.{search, lean_member, naming, entry}
use Rattle.timetable.specs.Table.{Call, call, jobs_of, After}
use Rattle.timetable.specs.Promise.{Narrows}
use Rattle.timetable.proofs.Entries.{entries_are, entries_count}
use Rattle.timetable.proofs.Law.{lawful}
use Rattle.timetable.proofs.Again.{same_jobs, good_again, long_again, word, left_whole, left_room}
use Rattle.codes.specs.Codes.{Coded}
use Rattle.codes.specs.Facts.{side, OwnTrue, StatedTrue, Passes, GoodRecord}
use Rattle.codes.specs.Faults.{Idles}
use Rattle.checks.specs.Replay.{rejected, Checked, finds}
use Rattle.verdicts.specs.Fate as fate
use Rattle.checks.specs.Fate.{nth}
use Rattle.checks.specs.Promise.{Checks}
use Rattle.checks.proofs.Taken.{entry_good}
use Rattle.checks.proofs.Rows.{fate_answers}

-- a record that passed on W, on windows U inside W that respect its change: its facts are still true, and it tightens nothing
module _ (J : Jobs) (W U : Win) (i : Inside J.n U W) (x : List ℕ) (g : Passes J W x) where
  stated_inside : StatedTrue J U x
  stated_inside =
      record {
        own = by (side x) g.stated.own;
        members = λ k h.
            let q = g.stated.members k h in
            let b = (g.partners.members k h).0.listed in
            record { from = omega (arith, q.from, i.late k b); to = omega (arith, q.to, i.early k b) };
      }
    where
      by : (s : Side) → OwnTrue J.p W (job_of x) s (time_of x) → OwnTrue J.p U (job_of x) s (time_of x)
      by early o = omega (arith, i.early (job_of x) g.in_range.job)
      by late o = omega (arith, i.late (job_of x) g.in_range.job)

  idles : (s : Side) → Respects U (job_of x) s (bound s (time_of x)) → Idles U (job_of x) s (time_of x)
  idles early r = r
  idles late r = r

  spent : Respects U (job_of x) (side x) (bound (side x) (time_of x)) → Coded J U x 26
  spent r = inr (g.in_range, inr (g.partners, inr (g.counted, inr (g.exceeds, inr (stated_inside, inl (idles (side x) r, refl))))))

module _ (c : Call) (a : After) (h : Narrows c a) (n : ℕ) (e : a.says ≡ said Word.settled (suc n ∷ [])) where
  abbrev J : Jobs
  J = jobs_of c

  -- the call with the windows and the log that were left
  abbrev pub again : Call
  again = call a.win c.p c.r c.cap a.log

  first_spent : (ms : List Move) → length ms ≡ suc n → a.log ≡ logged (map (entry J) ms) c.log → Chosen (search J) (Applies J) c.win 0 early ms
      → Coded (jobs_of again) a.win (nth again 0) 26
  first_spent [] m l x = absurd (omega arith)
  first_spent (y ∷ ys) m l x =
      let r = (h.exactly.settled (suc n)).0 e in
      let g = r.0 in
      let big = (h.largest g).settled (word c a h (suc n) e a.log) in
      let long = long_around J.n J.p a.win c.win big.one.inside big.one.long in
      let ch = x.0 in
      let first : nth again 0 ≡ entry J y =
      ap (λ (w : List ℕ). record_at w 0) l
      ∙ logged_record (map (entry J) (y ∷ ys)) c.log (entries_are lean_member J (y ∷ ys)) (omega (arith, entries_count lean_member J ys, r.1.1, r.2)) 0 (omega arith) in
      let made : y ≡ move c.win y.job y.side y.choice = ap (λ (w : Win). record { job = y.job; side = y.side; choice = y.choice; before = w }) ch.before in
      let good : GoodRecord J c.win (entry J y) =
      subst (λ (z : Move). GoodRecord J c.win (entry J z)) (sym made)
      (entry_good J c.win (omega (arith, g.few)) long y.job y.side y.choice ch.listed (g.within.1.0 y.job) ch.applies) in
      let kept : Respects a.win y.job y.side (bound y.side y.choice) =
      stable_respects J.n J.p (Applies J) (lawful J) a.win c.win y.job y.side (bound y.side y.choice) big.one.inside big.one.stable ch.listed ch.applies in
      subst (λ (w : List ℕ). Coded (jobs_of again) a.win w 26) (sym first)
      (subst (λ (I : Jobs). Coded I a.win (entry J y) 26) (sym (same_jobs c a h (suc n) e a.log))
      (spent J c.win a.win big.one.inside (entry J y) good.passes (respects_entry y kept)))
    where
      respects_entry : (y : Move) → Respects a.win y.job y.side (bound y.side y.choice)
          → Respects a.win (job_of (entry J y)) (side (entry J y)) (bound (side (entry J y)) (time_of (entry J y)))
      respects_entry y r = unfold naming in (rw (side_number y.side) r)

  pub left_rejected : (b : Checked) → Checks again (suc n) b → b ≡ finds (said Word.rejected (0 ∷ 26 ∷ [])) a.win
  unfolding fate.reached
  left_rejected b k =
      let r = (h.exactly.settled (suc n)).0 e in
      let l = (h.reasons.settled (suc n) e).logs in
      fate_answers again (suc n) b k (rejected 0 26)
      ((good_again c a h (suc n) e a.log, left_whole c a h (suc n) e), omega (arith, left_room c a h (suc n) e, r.1.1, r.2))
      (omega arith, inr (record { long = long_again c a h (suc n) e a.log; held = λ i q. absurd (omega arith) }, first_spent l.moves l.many l.log l.chosen, λ z. omega arith))
