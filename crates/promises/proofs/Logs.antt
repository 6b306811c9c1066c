-- The records of moves in a log: what holds of the record of each chosen move holds of each record of the log.
use Prim.Native.Nat.{ℕ, zero, suc, ◌≤◌, ◌<◌}
use native.Mathlib.Omega.{arith}
use mathlib.Core.Path.{◌≡◌, refl, sym, ap, subst}
use mathlib.Core.List.{List, [], ◌∷◌, map}
use lib.ListN.{length, get_or}
use Rattle.narrowing.specs.Windows.{Win, Side}
use Rattle.narrowing.specs.Rules.{Family}
use Rattle.narrowing.specs.Search.{Search, Move, after}
use Rattle.narrowing.specs.Rounds.{Choice, Chosen}
use Rattle.journal.specs.Journal.{record_words, AreRecords, room_of, record_at, logged}
use Rattle.journal.proofs.Records.{logged_record}

module _ (entry : Move → List ℕ) where
  pub entries_count : (ms : List Move) → length (map entry ms) ≡ length ms
  entries_count [] = refl
  entries_count (m ∷ ms) = ap suc (entries_count ms)

  module _ (words : (m : Move) → length (entry m) ≡ record_words) where
    pub entries_are : (ms : List Move) → AreRecords (map entry ms)
    entries_are [] = tt
    entries_are (m ∷ ms) = (words m, entries_are ms)

    module _ (R : Search) (G : Family) (fine : List ℕ → Type 0)
        (each : (W : Win) (j : ℕ) (s : Side) (m : Move) → Choice R G W j s m → fine (entry m)) where
      entries_fine : (W : Win) (j : ℕ) (s : Side) (ms : List Move) → Chosen R G W j s ms → (i : ℕ) → i < length ms → fine (get_or (map entry ms) i [])
      entries_fine W j s [] x i b = absurd (omega arith)
      entries_fine W j s (m ∷ ms) x zero b = each W j s m x.0
      entries_fine W j s (m ∷ ms) x (suc i) b = entries_fine (after R W m.job m.side m.choice) m.job m.side ms x.1 i (omega arith)

      pub logged_fine : (W : Win) (j : ℕ) (s : Side) (ms : List Move) → Chosen R G W j s ms → (log : List ℕ) → length ms ≤ room_of log → (i : ℕ) → i < length ms
          → fine (record_at (logged (map entry ms) log) i)
      logged_fine W j s ms x log fits i b =
          let n = entries_count ms in
          subst fine (sym (logged_record (map entry ms) log (entries_are ms) (omega arith) i (omega arith))) (entries_fine W j s ms x i b)
