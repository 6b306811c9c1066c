-- Last year's fault, over time-tabling's contract: the settled windows, narrowed again, settle with no record; nothing moves, and the log is
-- left alone: any log that is not ragged, and so the one that was left.
use Prim.Native.Nat.{ℕ}
use native.Mathlib.Omega.{arith}
use mathlib.Core.Path.{◌≡◌, refl, sym, ap, subst, ◌∙◌}
use mathlib.Core.List.{List, [], ◌∷◌, map}
use lib.ListN.{length}
use Rattle.narrowing.specs.Windows.{Long}
use Rattle.narrowing.specs.Rules.{Stable}
use Rattle.answers.specs.Said.{Word, said}
use Rattle.journal.specs.Journal.{WholeRecords, room_of}
use Rattle.journal.proofs.Records.{room_length, whole_length, logged_length}
use Rattle.promises.specs.Plain.{task_of}
use Rattle.promises.specs.Reordered.{Anew}
use Rattle.promises.proofs.Again as general
use Rattle.timetable.specs.Time.{Jobs, Applies}
use Rattle.timetable.specs.Search.{lean_member, entry}
use Rattle.timetable.specs.Table.{Call, call, jobs_of, asks, Good, After, leaves}
use Rattle.timetable.specs.Promise.{Narrows}
use Rattle.timetable.proofs.Entries.{entries_are, entries_count}
use Rattle.timetable.proofs.Meaning.{grounds, by_rules}

module _ (c : Call) (a : After) (h : Narrows c a) (n : ℕ) (e : a.says ≡ said Word.settled (n ∷ [])) (log : List ℕ) where
  abbrev pub next : Call
  next = call a.win c.p c.r c.cap log

  pub same_jobs : jobs_of next ≡ jobs_of c
  same_jobs = ap (λ (m : ℕ). record { n = m; p = c.p; r = c.r; cap = c.cap }) (h.reasons.settled n e).led.lengths.early

  pub word : a.says.word ≡ Word.settled
  word = general.word (asks c) a (by_rules c a h) n e

  anew : Anew (task_of (asks c)) a.win (task_of (asks next))
  anew =
      record {
        windows = refl;
        count = (h.reasons.settled n e).led.lengths.early;
        durations = refl;
        lists = refl;
        numbers = refl;
        stable = λ q. subst (λ (I : Jobs). Stable I.n (Applies I) a.win) (sym same_jobs) q;
      }

  -- the windows left are those of a good list
  pub good_again : Good next
  good_again = general.good_again (asks c) a (by_rules c a h) n e (asks next) anew

  -- and each is long enough
  pub long_again : Long (jobs_of next).n c.p a.win
  long_again = general.long_again (asks c) a (by_rules c a h) n e (asks next) anew

  -- with any log that is not ragged
  pub settled_again : WholeRecords log → (b : After) → Narrows next b → b ≡ leaves (said Word.settled (0 ∷ [])) a.win log
  settled_again w b k = general.settled_again (asks c) a (by_rules c a h) n e (asks next) anew (grounds next) w b (by_rules next b k)

-- ---- with the log that was left, which is as long as the one lent

module _ (c : Call) (a : After) (h : Narrows c a) (n : ℕ) (e : a.says ≡ said Word.settled (n ∷ [])) where
  left_length : length a.log ≡ length c.log
  left_length =
      let r = (h.exactly.settled n).0 e in
      let l = (h.reasons.settled n e).logs in
      ap length l.log
      ∙ logged_length (map (entry (jobs_of c)) l.moves) c.log (entries_are lean_member (jobs_of c) l.moves)
      (omega (arith, entries_count lean_member (jobs_of c) l.moves, l.many, r.1.1, r.2))

  pub left_whole : WholeRecords a.log
  left_whole = whole_length c.log a.log left_length ((h.exactly.settled n).0 e).1.0

  pub left_room : room_of a.log ≡ room_of c.log
  left_room = room_length c.log a.log left_length

  pub settled_after : (b : After) → Narrows (next c a h n e a.log) b → b ≡ leaves (said Word.settled (0 ∷ [])) a.win a.log
  settled_after = settled_again c a h n e a.log left_whole
