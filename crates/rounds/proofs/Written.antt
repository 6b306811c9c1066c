-- The records of the moves in the log: one more record is written behind those that are there.
use Prim.Native.Nat.{ℕ, ◌<◌}
use native.Mathlib.Omega.{arith}
use mathlib.Core.Path.{◌≡◌, refl, sym, ap}
use mathlib.Core.List.{List, [], ◌∷◌, ◌++◌, map}
use lib.ListN.{length}
use Rattle.narrowing.specs.Search.{Move}
use Rattle.journal.specs.Journal.{room_of, logged, rewritten}
use Rattle.journal.proofs.Records.{logged_more}
use Rattle.timetable.specs.Time.{Jobs}
use Rattle.timetable.specs.Search.{lean_member, entry}
use Rattle.timetable.proofs.Entries.{entry_length, entries_are, entries_count}

entries-more : (J : Jobs) (ms : List Move) (m : Move) → map (entry J) (ms ++ m ∷ []) ≡ map (entry J) ms ++ entry J m ∷ []
entries-more J [] m = refl
entries-more J (x ∷ ms) m = ap (λ (rs : List (List ℕ)). entry J x ∷ rs) (entries-more J ms m)

-- one more record
pub entry_more : (J : Jobs) (ms : List Move) (m : Move) (log : List ℕ) → length ms < room_of log
    → rewritten (logged (map (entry J) ms) log) (length ms) (entry J m) ≡ logged (map (entry J) (ms ++ m ∷ [])) log
entry_more J ms m log h =
    let rs = map (entry J) ms in
    let n = entries_count lean_member J ms in
    rw (entries-more J ms m, ← n)
    (sym (logged_more rs log (entries_are lean_member J ms) (omega arith) (entry J m) (entry_length lean_member J m) (omega arith)))
