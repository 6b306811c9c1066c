-- One record of the walk back: from the member set of the marks behind it to that of the marks with it.
use Prim.Native.Nat.{ℕ, suc, ◌+◌, ◌*◌, ◌-◌, ◌≤◌, ◌<◌}
use native.Mathlib.Omega.{arith}
use native.Mathlib.Decide.{ℕ_discrete, dec_lt}
use mathlib.Core.Path.{◌≡◌, refl, sym, ◌∙◌}
use mathlib.Core.Bool.{Bool, true, false}
use mathlib.Core.List.{List}
use lib.Seq.{get_or-drop, get_or-take}
use lib.ListN.{length, drop, replicate, length-replicate, get_or-eq_default}
use lib.Dec.{eqb}
use borrow.Author.Tests.{eq-eqb, ne_eqb}
use Rattle.lists.specs.Tests.{both, either}
use Rattle.lists.specs.Sets.{Set}
use Rattle.members.specs.Members.{set_words, has, setOf, inserted, joined, AreWords}
use Rattle.members.proofs.Sets.{set_of_cong, set_of_unique}
use Rattle.members.proofs.Inserted.{inserted_length, inserted_words, inserted_same, inserted_other}
use Rattle.members.proofs.Joined.{joined_set}
use Rattle.members.proofs.Writing.{zeros_words, zeros_has}
use Rattle.joblist.specs.Limits.{most_jobs}
use Rattle.journal.specs.Journal.{head_words, record_words, room_of, record_at, records, job_of, is_member, set_of_record}
use Rattle.journal.proofs.Records.{record_in, record_out, record_length}
use Rattle.conflicts.specs.Marks.{marked_by}
use Rattle.conflicts.specs.Table.{marks_of}
use Rattle.conflicts.proofs.Marks.{records_are, set_tells}

-- one job put into no words
alone_set : (j : ℕ) → j < most_jobs → inserted (replicate set_words 0) j ≡ setOf set_words (λ k. eqb k j)
alone_set j b =
    let z : List ℕ = replicate set_words 0 in
    let long : length z ≡ set_words = length-replicate {A = ℕ} set_words 0 in
    set_of_unique set_words (λ k. eqb k j) (inserted z j) (inserted_length z j ∙ long) (inserted_words z j (zeros_words set_words))
    (λ k c.
    elim (ℕ_discrete k j) [
      | yes e ↦ rw e (inserted_same z j (omega (arith, long)) ∙ sym (eq-eqb j j refl))
      | no ne ↦ inserted_other z j k ne ∙ zeros_has set_words k ∙ sym (ne_eqb k j ne)
    ])

either_no : (a : Bool) → either a false ≡ a
either_no true = refl
either_no false = refl

-- a record's member words are words
pub member_words : (x : List ℕ) → AreWords x → AreWords (set_of_record x)
member_words x h q = rw (get_or-drop head_words x q 0) (h (head_words + q))

-- a record's words are the log's, and behind its end there is none
pub record_fits : (log : List ℕ) (k : ℕ) → AreWords log → AreWords (record_at log k)
record_fits log k h q =
    elim (dec_lt k (room_of log)) [
      | no n ↦ rw (record_out log k (omega arith)) (omega arith)
      | yes b ↦
          elim (dec_lt q record_words) [
            | yes c ↦
                rw (
                  record_in log k b,
                  get_or-take record_words (drop (record_words * k) log) q 0 c,
                  get_or-drop (record_words * k) log q 0,
                )
                (h (record_words * k + q))
            | no n ↦ let long : length (record_at log k) ≤ q = omega (arith, record_length log k b) in rw (get_or-eq_default (record_at log k) 0 {n = q} long) (omega arith)
          ]
    ]

-- whom the records from place i on mark
abbrev pub behind : List ℕ → ℕ → ℕ → ℕ → Set
behind log count j i = marked_by j (records log i (count - i))

module _ (log : List ℕ) (count j : ℕ) (room : count ≤ room_of log) (low : j < most_jobs) where
  -- before any record
  pub walk_first : inserted (replicate set_words 0) j ≡ setOf set_words (behind log count j count)
  unfolding marked_by records
  walk_first = let e : count - count ≡ 0 = omega arith in rw e (alone_set j low)

  -- after all
  pub walk_last : (left : ℕ) → left ≤ 0 → setOf set_words (behind log count j left) ≡ marks_of log count j
  unfolding marks_of
  walk_last left b =
      let z : left ≡ 0 = omega arith in
      let e : count - 0 ≡ count = omega arith in
      rw (z, e)

  -- record i, in front of those from n = i + 1 on
  module _ (i n : ℕ) (next : n ≡ i + 1) (inside : n ≤ count) (set : List ℕ) (h : set ≡ setOf set_words (behind log count j n)) where
    abbrev x : List ℕ
    x = record_at log i

    abbrev later : Set
    later = marked_by j (records log (suc i) (count - suc i))

    set_later : set ≡ setOf set_words later
    set_later = let e : n ≡ suc i = omega arith in rw e at h

    behind_is : (k : ℕ) → behind log count j i k ≡ either (later k) (both (later (job_of x)) (is_member x k))
    unfolding marked_by records
    behind_is k = let e : count - i ≡ suc (count - suc i) = omega arith in rw e

    job_marked : (b : Bool) → has set (job_of x) ≡ b → later (job_of x) ≡ b
    job_marked b e =
        sym (set_tells j (records log (suc i) (count - suc i)) (records_are log (count - suc i) (suc i) (omega arith)) low (job_of x))
        ∙ (rw set_later at e)

    -- so the marks with the record are those behind it, and its members where the test passes
    one_more : (b : Bool) → has set (job_of x) ≡ b → setOf set_words (λ k. either (later k) (both b (is_member x k))) ≡ setOf set_words (behind log count j i)
    one_more b e =
        set_of_cong set_words (λ k. either (later k) (both b (is_member x k))) (behind log count j i) (λ k c. rw (behind_is k, job_marked b e))

    pub back_marked : has set (job_of x) ≡ true → AreWords (set_of_record x) → joined set (set_of_record x) ≡ setOf set_words (behind log count j i)
    back_marked t g = rw set_later (joined_set set_words later (set_of_record x) g) ∙ one_more true t

    pub back_passed : has set (job_of x) ≡ false → set ≡ setOf set_words (behind log count j i)
    back_passed t =
        set_later
        ∙ set_of_cong set_words later (λ k. either (later k) (both false (is_member x k))) (λ k b. sym (either_no (later k)))
        ∙ one_more false t
