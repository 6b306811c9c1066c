-- The marks of records: they only grow on the way back, a record whose moved job is marked has its members marked, and a job is marked exactly if it is
-- traced. And the marks of a log as a member set.
use Prim.Native.Nat.{ℕ, zero, suc, ◌+◌, ◌≤◌, ◌<◌}
use native.Mathlib.Omega.{arith}
use native.Mathlib.Decide.{dec_lt}
use mathlib.Core.Path.{◌≡◌, refl, sym, ◌∙◌}
use mathlib.Core.Bool.{true, false}
use mathlib.Core.List.{List, [], ◌∷◌}
use mathlib.Core.Logic.{◌⊎◌, inl, inr, ◌↔◌}
use lib.ListN.{length, length-drop}
use borrow.Author.Tests.{eq-eqb, ne_eqb, eqb-true}
use Rattle.lists.specs.Tests.{both}
use Rattle.lists.proofs.Tests.{both_true, true_both, both_false, either_left, either_right, either_true}
use Rattle.members.specs.Members.{set_words, has, setOf}
use Rattle.members.proofs.Sets.{set_of_length, has_set_of, has_past}
use Rattle.joblist.specs.Limits.{most_jobs}
use Rattle.journal.specs.Journal.{head_words, room_of, records, AreRecords, job_of, is_member, set_of_record}
use Rattle.journal.proofs.Records.{record_length}
use Rattle.conflicts.specs.Marks.{marked_by, Traced}
use Rattle.conflicts.specs.Table.{marks_of}

-- ---- one more record in front

module _ (j : ℕ) (x : List ℕ) (xs : List (List ℕ)) (k : ℕ) where
  pub marked_more : marked_by j xs k ≡ true → marked_by j (x ∷ xs) k ≡ true
  unfolding marked_by
  marked_more h = either_left (marked_by j xs k) _ h

  pub marked_members : marked_by j xs (job_of x) ≡ true → is_member x k ≡ true → marked_by j (x ∷ xs) k ≡ true
  unfolding marked_by
  marked_members e h = either_right (marked_by j xs k) _ (true_both (marked_by j xs (job_of x)) (is_member x k) e h)

  pub marked_cases : marked_by j (x ∷ xs) k ≡ true → (marked_by j xs k ≡ true) ⊎ ((marked_by j xs (job_of x) ≡ true) × (is_member x k ≡ true))
  unfolding marked_by
  marked_cases h =
      elim (either_true (marked_by j xs k) (both (marked_by j xs (job_of x)) (is_member x k)) h) [
        | inl a ↦ inl a
        | inr a ↦ inr (both_true (marked_by j xs (job_of x)) (is_member x k) a)
      ]

-- the job of the clash is always marked
pub marked_own : (j : ℕ) (xs : List (List ℕ)) → marked_by j xs j ≡ true
unfolding marked_by
marked_own j [] = eq-eqb j j refl
marked_own j (x ∷ xs) = marked_more j x xs j (marked_own j xs)

-- with no record nobody else is
pub marked_alone : (j k : ℕ) → (marked_by j [] k ≡ true) ↔ (k ≡ j)
unfolding marked_by
marked_alone j k = (eqb-true k j, λ e. eq-eqb k j e)

-- the closing record's are its job and its members
pub marked_closing : (x : List ℕ) (k : ℕ) → (marked_by (job_of x) (x ∷ []) k ≡ true) ↔ ((k ≡ job_of x) ⊎ (is_member x k ≡ true))
marked_closing x k = (λ h. there (marked_cases (job_of x) x [] k h), back)
  where
    there : (marked_by (job_of x) [] k ≡ true) ⊎ ((marked_by (job_of x) [] (job_of x) ≡ true) × (is_member x k ≡ true)) → (k ≡ job_of x) ⊎ (is_member x k ≡ true)
    there (inl h) = inl ((marked_alone (job_of x) k).0 h)
    there (inr h) = inr h.1

    back : (k ≡ job_of x) ⊎ (is_member x k ≡ true) → marked_by (job_of x) (x ∷ []) k ≡ true
    back (inl e) = marked_more (job_of x) x [] k ((marked_alone (job_of x) k).1 e)
    back (inr h) = marked_members (job_of x) x [] k (marked_own (job_of x) []) h

-- ---- marked exactly if traced

traced_marked : (j : ℕ) (xs : List (List ℕ)) (k : ℕ) → Traced j xs k → marked_by j xs k ≡ true
traced_marked j xs k (Traced.own) = marked_own j xs
traced_marked j (x ∷ xs) k (Traced.behind t) = marked_more j x xs k (traced_marked j xs k t)
traced_marked j (x ∷ xs) k (Traced.through t h) = marked_members j x xs k (traced_marked j xs (job_of x) t) h

marked_is_traced : (j : ℕ) (xs : List (List ℕ)) (k : ℕ) → marked_by j xs k ≡ true → Traced j xs k
marked_is_traced j [] k h = let e : k ≡ j = (marked_alone j k).0 h in rw e Traced.own
marked_is_traced j (x ∷ xs) k h =
    elim (marked_cases j x xs k h) [ inl a ↦ Traced.behind (marked_is_traced j xs k a) | inr a ↦ Traced.through (marked_is_traced j xs (job_of x) a.0) a.1 ]

pub marked_traced : (j : ℕ) (xs : List (List ℕ)) (k : ℕ) → (marked_by j xs k ≡ true) ↔ Traced j xs k
marked_traced j xs k = (marked_is_traced j xs k, traced_marked j xs k)

-- ---- as a member set

-- no number beyond the words is marked
marked_past : (j : ℕ) (xs : List (List ℕ)) (k : ℕ) → AreRecords xs → j < most_jobs → most_jobs ≤ k → marked_by j xs k ≡ false
unfolding marked_by
marked_past j [] k r low h = ne_eqb k j (λ e. omega arith)
marked_past j (x ∷ xs) k r low h =
    let long : length (set_of_record x) ≡ set_words = length-drop head_words x ∙ rw r.0 in
    rw (marked_past j xs k r.1 low h, has_past (set_of_record x) k (omega arith)) (both_false (marked_by j xs (job_of x)))

pub records_are : (log : List ℕ) (m i : ℕ) → i + m ≤ room_of log → AreRecords (records log i m)
unfolding records
records_are log zero i b = tt
records_are log (suc m) i b = (record_length log i (omega arith), records_are log m (suc i) (omega arith))

-- the set tells of any number whether it is marked
pub set_tells : (j : ℕ) (xs : List (List ℕ)) → AreRecords xs → j < most_jobs → (k : ℕ) → has (setOf set_words (marked_by j xs)) k ≡ marked_by j xs k
set_tells j xs r low k =
    elim (dec_lt k most_jobs) [
      | yes c ↦ has_set_of set_words (marked_by j xs) k c
      | no c ↦ has_past (setOf set_words (marked_by j xs)) k (omega (arith, set_of_length set_words (marked_by j xs))) ∙ sym (marked_past j xs k r low (omega arith))
    ]

pub marks_tell : (log : List ℕ) (count j : ℕ) → count ≤ room_of log → j < most_jobs → (k : ℕ) → has (marks_of log count j) k ≡ marked_by j (records log 0 count) k
unfolding marks_of
marks_tell log count j b low k = set_tells j (records log 0 count) (records_are log count 0 (omega arith)) low k
