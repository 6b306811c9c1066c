-- Wrong readings of 'room in the log' in demands 2 and 3, each refuted by the field that names the room: that fixed jobs may be refused with room for a single
-- record, and that a ragged log has the room of its whole records (document 02, Item 10).
use Prim.Native.Nat.{zero, suc, ◌≤◌}
use native.Mathlib.Omega.{arith}
use mathlib.Core.Path.{◌≡◌, refl, ap}
use mathlib.Core.Logic.{◌⊎◌, inr}
use lib.ListN.{replicate}
use Rattle.answers.specs.Said.{Word}
use Rattle.answers.proofs.Same.{not_refused}
use Rattle.journal.specs.Journal.{record_words, room_of}
use Rattle.promises.specs.Promise as promise
use Rattle.timetable.specs.Time.{Overdrawn, drawn}
use Rattle.timetable.specs.Search.{best}
use Rattle.timetable.specs.Table.{Call, jobs_of, Good, refusal_of, After}
use Rattle.timetable.specs.Promise.{AllFixed, needs, Exactly, Kept}
use Rattle.timetable.proofs.Calls.{admitted_call}
use Rattle.worked.specs.Rows.{with}
use Rattle.worked.specs.Checks.{case_four}
use Rattle.worked.proofs.RaggedShutOut.{torn, on, seven}

-- ---- case 4, two fixed jobs on one time, with room for one record: it has to be a clash (`fixed`)

abbrev case4 : Call
case4 = with 1 case_four (replicate record_words 9)

good4 : Good case4
unfolding refusal_of
good4 = (admitted_call case4 refl).0

fixed4 : AllFixed case4
fixed4 zero b = refl
fixed4 (suc zero) b = refl
fixed4 (suc (suc k)) b = absurd (omega arith)

overdrawn4 : Overdrawn (jobs_of case4) case4.win.e
unfolding drawn Rattle.lists.specs.Sums.total
overdrawn4 = (0, omega arith)

pub refusing_the_overdrawn : (a : After) → Kept case4 a → a.says.word ≡ Word.refused → ⊥
unfolding room_of
refusing_the_overdrawn a h = not_refused a.says.word (inr ((h.fixed good4 fixed4 ((1, refl), omega arith)).1 overdrawn4))

-- ---- a ragged log whose whole records are enough for the work: what demand 3 says of room cannot hold of it

pub room_whatever_the_remainder : (a : After) → Exactly (on torn) a
    → (needs (on torn) ≤ room_of torn → (a.says.word ≡ Word.settled) ⊎ (a.says.word ≡ Word.clash)) → ⊥
unfolding promise.needs best room_of
room_whatever_the_remainder a x h = not_refused a.says.word (h (omega arith)) (ap (λ (y : After). y.says.word) (seven a x))
