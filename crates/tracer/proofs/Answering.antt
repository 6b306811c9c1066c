-- From the checker's answer to the call's: each of them is a row of the table, and the promise goes with the row.
use Prim.Native.Nat.{ℕ, zero, suc, ◌≤◌, ◌<◌}
use native.Mathlib.Omega.{arith}
use mathlib.Core.Path.{◌≡◌, refl, sym, ◌∙◌}
use mathlib.Core.List.{[], ◌∷◌}
use mathlib.Core.Logic.{inl, inr}
use Rattle.answers.specs.Said.{Word, said}
use Rattle.joblist.specs.Limits.{most_jobs}
use Rattle.journal.specs.Journal.{room_of}
use Rattle.promises.specs.Ask.{Admitted}
use Rattle.promises.proofs.Calls.{away_exactly, admitted_not_away}
use Rattle.timetable.specs.Table.{Call, asks, refusal_of}
use Rattle.checks.specs.Replay.{checked}
use Rattle.checks.specs.Promise.{RefusedRow}
use Rattle.checks.proofs.Meaning.{checks}
use Rattle.conflicts.specs.Table.{Blamed, unmarked, marking}
use Rattle.conflicts.specs.Promise.{ClashOf, Blames}
use Rattle.conflicts.proofs.Shut.{shut_in}
use Rattle.conflicts.proofs.Rows.{refused_row, clash_row, no_clash_row}
use Rattle.conflicts.proofs.Meaning.{blames}

module _ (c : Call) (count : ℕ) (a : Blamed) where
  -- a test before the checker's fails
  pub on_tested : (k : ℕ) → (k ≡ 0 → ⊥) → k ≡ refusal_of c → a ≡ unmarked k → Blames c count a
  unfolding refusal_of
  on_tested zero f e h = absurd (f refl)
  on_tested (suc k) f e h = blames c count a (h ∙ sym (refused_row c count (suc k) (inl ((away_exactly (asks c) (suc k)).0 (omega arith, sym e)))))

  -- past those tests the checker turns away only a claim of more records than there are
  pub on_refused : Admitted (asks c) → (k : ℕ) → said Word.refused (k ∷ []) ≡ (checked c count).says → a ≡ unmarked 6 → Blames c count a
  on_refused g k e h = blames c count a (h ∙ sym (refused_row c count 6 (six (((checks c count).exactly.refused k).0 (sym e)))))
    where
      six : RefusedRow c count k → RefusedRow c count 6
      six (inl t) = absurd (admitted_not_away (asks c) g k t)
      six (inr r) = inr (refl, r.1, r.2)

  pub on_holds : (n : ℕ) → said Word.holds (n ∷ []) ≡ (checked c count).says → a ≡ unmarked 8 → Blames c count a
  on_holds n e h = let f = ((checks c count).exactly.holds n).0 (sym e) in blames c count a (h ∙ sym (no_clash_row c count (f.0, inl f.2)))

  pub on_rejected : (i k : ℕ) → said Word.rejected (i ∷ k ∷ []) ≡ (checked c count).says → a ≡ unmarked 8 → Blames c count a
  on_rejected i k e h =
      let f = ((checks c count).exactly.rejected i k).0 (sym e) in
      blames c count a (h ∙ sym (no_clash_row c count (f.0, inr (i, k, f.1))))

  pub on_clash : (j : ℕ) → ClashOf c count j → a ≡ marking c.log count j → Blames c count a
  on_clash j x h = blames c count a (h ∙ sym (clash_row c count j x))

-- a clash that the checker finds is one of a job of the list, and its records are there
pub found_clash : (c : Call) (count n j : ℕ) → said Word.clash (n ∷ j ∷ []) ≡ (checked c count).says → ClashOf c count j
found_clash c count n j e = let f = ((checks c count).exactly.clash n j).0 (sym e) in (f.0, f.2)

pub clash_there : (c : Call) (count j : ℕ) → ClashOf c count j → (count ≤ room_of c.log) × (j < most_jobs)
clash_there c count j x = (x.0.1, omega (arith, shut_in c count j x.1, x.0.0.0.few))
