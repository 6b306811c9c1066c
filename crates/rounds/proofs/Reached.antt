-- The state of the work: what the windows, the log, the place and the count reached have to do with the call. Each law is one answer of a turn.
use Prim.Native.Nat.{ℕ, ◌+◌, ◌≤◌, ◌<◌}
use native.Mathlib.Omega.{arith}
use mathlib.Core.Path.{◌≡◌, refl, sym, ap, subst, ◌∙◌}
use mathlib.Core.Bool.{true, false}
use mathlib.Core.List.{List, [], ◌∷◌, ◌++◌, map}
use mathlib.Core.Option.{Option, none, some}
use lib.ListN.{length}
use Rattle.narrowing.specs.Windows.{Win, closes}
use Rattle.narrowing.specs.Search.{Search, Move, move}
use Rattle.narrowing.specs.Run.{Out, settled, clash, short}
use Rattle.answers.specs.declared.Answer.{Answer}
use Rattle.joblist.specs.Limits.{jobs}
use Rattle.journal.specs.Journal.{room_of, logged}
use Rattle.journal.proofs.Records.{room_length, logged_none, rewritten_length}
use Rattle.timetable.specs.Time.{Jobs}
use Rattle.timetable.specs.Search.{best, search, lean_member, entry}
use Rattle.timetable.specs.Table.{Call, call, jobs_of, Workable}
use Rattle.timetable.proofs.Moves.{best_applies, workable_after}
use Rattle.windows.specs.Sides.{side_is}
use Rattle.places.specs.declared.Place.{Place}
use Rattle.turns.specs.declared.Turn.{Turn}
use Rattle.places.specs.Places.{place, first_place, onward_of}
use Rattle.turns.specs.Moves.{Moves, TurnSays}
use Rattle.rounds.specs.Work.{EndsAs, outcome, Works}
use Rattle.places.proofs.Under.{Under, under_start, under_end, under_rest, under_short, under_more, under_closed, under_on}
use Rattle.timetable.proofs.Entries.{entry_length}
use Rattle.rounds.proofs.Written.{entry_more}

-- the call c on other windows and another log
abbrev pub on : Call → Win → List ℕ → Call
on c W log = call W c.p c.r c.cap log

pub record Reached (c : Call) (W : Win) (log : List ℕ) (at : Place) (count : ℕ) : Type 0 where
  pub workable : Workable (on c W log)
  pub log_size : length log ≡ length c.log
  pub ms : List Move
  pub under : Under (search (jobs_of c)) (room_of c.log) c.win W at ms count
  pub log_is : log ≡ logged (map (entry (jobs_of c)) ms) c.log

pub reached_start : (c : Call) → Workable c → Reached c c.win c.log first_place 0
reached_start c w =
    record {
      workable = w;
      log_size = refl;
      ms = [];
      under = under_start (search (jobs_of c)) (room_of c.log) c.win w.long;
      log_is = sym (logged_none c.log);
    }

leaves_as : (c : Call) (o : Out) (a : Answer) (W : Win) (log : List ℕ) → outcome c ≡ o → EndsAs c o a W log → Works c a W log
leaves_as c o a W log e h = subst (λ (x : Out). EndsAs c x a W log) (sym e) h

module _ (c : Call) (W : Win) (log : List ℕ) (at : Place) (count : ℕ) (S : Reached c W log at count) where
  abbrev R : Search
  R = search (jobs_of c)

  pub size : jobs W ≡ jobs c.win
  size = S.under.lengths.early

  same_jobs : jobs_of (on c W log) ≡ jobs_of c
  same_jobs = ap (λ (n : ℕ). record { n = n; p = c.p; r = c.r; cap = c.cap }) size

  same_room : room_of log ≡ room_of c.log
  same_room = room_length c.log log S.log_size

  best_same : (x : Option ℕ) → best (jobs_of (on c W log)) W at.job (side_is at.side) ≡ x → best (jobs_of c) W at.job (side_is at.side) ≡ x
  best_same x h = subst (λ (J : Jobs). best J W at.job (side_is at.side) ≡ x) same_jobs h

  -- no job is left
  pub reached_end : jobs c.win ≤ at.job → Works c (Answer.Settled count) W log
  unfolding outcome
  reached_end b =
      leaves_as c (settled W S.ms) _ W log (under_end R (room_of c.log) c.win W at S.ms count S.under b)
      (ap Answer.Settled (sym S.under.counted), refl, S.log_is)

  module _ (b : at.job < jobs c.win) (W' : Win) (log' : List ℕ) where
    -- the place rests
    pub reached_rest : TurnSays (on c W log) at count W' log' Turn.Rests → Reached c W' log' (onward_of at (jobs c.win)) count
    reached_rest h =
        rw (h.1, h.2)
        record {
          workable = S.workable;
          log_size = S.log_size;
          ms = S.ms;
          under = under_rest R (room_of c.log) c.win W at S.ms count S.under b (best_same none h.0);
          log_is = S.log_is;
        }

    -- there is no room
    pub reached_full : TurnSays (on c W log) at count W' log' Turn.Full → Works c (Answer.Refused 5) W' log'
    unfolding outcome
    reached_full h =
        leaves_as c short _ W' log'
        (under_short R (room_of c.log) c.win W at S.ms count S.under b h.0 (best_same (some h.0) h.1) (omega (arith, same_room, h.2)))
        refl

    module _ (t : ℕ) (m : Moves (on c W log) at count t W' log') where
      abbrev one : Move
      one = move W at.job (side_is at.side) t

      pub moves_room : count < room_of c.log
      moves_room = omega (arith, same_room, m.room)

      pub moves_few : count < length c.log
      unfolding room_of
      moves_few = omega (arith, moves_room)

      log_more : log' ≡ logged (map (entry (jobs_of c)) (S.ms ++ one ∷ [])) c.log
      log_more =
          m.record_is ∙ rw (same_jobs, ← S.under.counted, S.log_is) (entry_more (jobs_of c) S.ms one c.log (omega (arith, moves_room, S.under.counted)))

      found_same : best (jobs_of c) W at.job (side_is at.side) ≡ some t
      found_same = best_same (some t) m.found

      -- the move closes the window
      closed_at : closes c.p W' at.job ≡ true → Works c (Answer.Clash (count + 1) at.job) W' log'
      unfolding outcome
      closed_at e =
          leaves_as c (clash at.job (S.ms ++ one ∷ [])) _ W' log'
          (under_closed R (room_of c.log) c.win W at S.ms count S.under b t found_same moves_room W' m.windows e)
          (ap (λ (k : ℕ). Answer.Clash k at.job) (sym (under_more R (room_of c.log) c.win W at S.ms count S.under b t found_same)), log_more)

      -- it does not
      moved_at : closes c.p W' at.job ≡ false → Reached c W' log' (place at.job at.side true) (count + 1)
      moved_at e =
          let a = best_applies (on c W log) S.workable at.job (side_is at.side) (omega (arith, size)) t m.found in
          record {
            workable = subst (λ (U : Win). Workable (on c U log')) (sym m.windows)
                (workable_after W c.p c.r c.cap log S.workable at.job (side_is at.side) t (omega (arith, size)) a (subst (λ (U : Win). closes c.p U at.job ≡ false) m.windows e) log');
            log_size = ap length m.record_is ∙ rewritten_length log count (entry (jobs_of (on c W log)) one) m.room (entry_length lean_member (jobs_of (on c W log)) one) ∙ S.log_size;
            ms = S.ms ++ one ∷ [];
            under = under_on R (room_of c.log) c.win W at S.ms count S.under b t found_same moves_room W' m.windows e;
            log_is = log_more;
          }

    pub reached_closed : TurnSays (on c W log) at count W' log' Turn.Closed → Works c (Answer.Clash (count + 1) at.job) W' log'
    reached_closed h = closed_at h.0 h.1 h.2

    pub reached_moved : (old : ℕ) → TurnSays (on c W log) at count W' log' (Turn.Moved old) → Reached c W' log' (place at.job at.side true) (count + 1)
    reached_moved old h = moved_at h.0 h.1 h.2
