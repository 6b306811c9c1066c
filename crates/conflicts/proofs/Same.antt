-- Laws over the contract of the call that names jobs: two results are equal, and its field `exactly` alone makes them so; 8 is given exactly where the
-- checker takes the log to no clash of any job; each marked job is one of the list, and they are as many as the list of them alone has jobs.
use Prim.Native.Nat.{ℕ, zero, suc, ◌+◌, ◌-◌, ◌≤◌, ◌<◌}
use native.Mathlib.Omega.{arith}
use mathlib.Core.Path.{◌≡◌, refl, sym, ap, ◌∙◌}
use mathlib.Core.Bool.{Bool, true, false}
use mathlib.Core.List.{List, [], ◌∷◌}
use mathlib.Core.Logic.{◌⊎◌, inl, inr, ◌↔◌}
use Rattle.lists.specs.Tests.{only}
use Rattle.lists.specs.Sums.{total}
use Rattle.lists.specs.Picked.{picked_place}
use Rattle.lists.proofs.Picked.{picked_length}
use Rattle.lists.proofs.Sums.{total_cong}
use Rattle.lists.proofs.Stretches.{total_join}
use Rattle.lists.proofs.Differences.{total_zeros}
use Rattle.answers.specs.declared.Conflict.{Conflict}
use Rattle.answers.specs.Said.{Word, Said, said, says_conflict}
use Rattle.answers.proofs.Same.{not_said, marks_same}
use Rattle.members.specs.Members.{set_words, setOf, has, ones_of, places}
use Rattle.members.proofs.Sets.{set_of_unique, ones_members}
use Rattle.joblist.specs.Limits.{jobs}
use Rattle.journal.specs.Journal.{records, job_of, is_member}
use Rattle.timetable.specs.Table.{Call}
use Rattle.checks.specs.Fate.{nth, Shut}
use Rattle.checks.specs.Promise.{Claimed}
use Rattle.conflicts.specs.Marks.{marked_by}
use Rattle.conflicts.specs.Apart.{only_of}
use Rattle.conflicts.specs.Table.{Blamed, blame, unmarked, marks_of, marking, conflict_of}
use Rattle.conflicts.specs.Promise.{ClashOf, NoClash, RefusedRow, Exactly, Blames}
use Rattle.conflicts.proofs.Marks.{marked_alone, marked_cases, marked_traced}
use Rattle.conflicts.proofs.Rows.{Case, refusing, clashing, without, claimed_cased, cased, refused_row, clash_row, no_clash_row, marked_clash}
use Rattle.conflicts.proofs.Shut.{shut_in, shut_takes}

pub blames_same : (c : Call) (count : ℕ) (a b : Blamed) → Blames c count a → Blames c count b → a ≡ b
blames_same c count a b x y = x.answered ∙ sym y.answered

-- the same of the Rattle values
pub results_same : (c : Call) (count : ℕ) (r q : Conflict) → Blames c count (blame (says_conflict r.answer) r.set)
    → Blames c count (blame (says_conflict q.answer) q.set) → r ≡ q
results_same c count r q x y =
    let h = blames_same c count _ _ x y in
    marks_same r q (ap (λ (a : Blamed). a.says) h) (ap (λ (a : Blamed). a.set) h)

same_blamed : (a b : Blamed) → a.says ≡ b.says → a.set ≡ b.set → a ≡ b
same_blamed a b e f = rw (e, f)

module _ (c : Call) (count : ℕ) where
  -- ---- the facts alone

  marks_given : (a : Blamed) → Exactly c count a → (j : ℕ) → ClashOf c count j → a ≡ marking c.log count j
  unfolding marking marks_of
  marks_given a x j y =
      let M = marked_by j (records c.log 0 count) in
      let set : a.set ≡ setOf set_words M = set_of_unique set_words M a.set x.words.0 x.words.1 (λ k b. told k (has a.set k) refl (M k) refl) in
      same_blamed a (marking c.log count j) ((x.marked _).1 ((j, y), refl) ∙ ap (λ (s : List ℕ). said Word.marked (ones_of s ∷ [])) set) set
    where
      told : (k : ℕ) (b : Bool) → has a.set k ≡ b → (d : Bool) → marked_by j (records c.log 0 count) k ≡ d → b ≡ d
      told k true e d f = sym (sym f ∙ (marked_traced j (records c.log 0 count) k).1 ((x.traced j y k).0 e))
      told k false e true f = sym e ∙ (x.traced j y k).1 ((marked_traced j (records c.log 0 count) k).0 f)
      told k false e false f = refl

  pub facts_answer : (a : Blamed) → Exactly c count a → a ≡ conflict_of c count
  facts_answer a x = go (cased c count)
    where
      bare : (k : ℕ) → a.says ≡ said Word.refused (k ∷ []) → a ≡ unmarked k
      bare k e = same_blamed a (unmarked k) e (x.zeros (ap (λ (z : Said). z.word) e))

      go : Case c count → a ≡ conflict_of c count
      go (refusing k r) = bare k ((x.refused k).1 (inl r)) ∙ sym (refused_row c count k r)
      go (clashing j y) = marks_given a x j y ∙ sym (clash_row c count j y)
      go (without n) = bare 8 ((x.refused 8).1 (inr (refl, n))) ∙ sym (no_clash_row c count n)

  -- a clash of a job is none of no job
  clash_not : (j : ℕ) → ClashOf c count j → NoClash c count → ⊥
  unfolding marking
  clash_not j x n =
      not_said Word.marked Word.refused (λ z. omega arith) (ap (λ (a : Blamed). a.says.word) (sym (clash_row c count j x) ∙ no_clash_row c count n))

  -- 8: the claimed records are there, and they close no job's window
  pub eight_exactly : (a : Blamed) → Exactly c count a → (a.says ≡ said Word.refused (8 ∷ [])) ↔ (Claimed c count × ((j : ℕ) → Shut c count j → ⊥))
  eight_exactly a x = (λ e. there ((x.refused 8).0 e), λ y. (x.refused 8).1 (inr (refl, back y (claimed_cased c count y.0))))
    where
      there : RefusedRow c count 8 → Claimed c count × ((j : ℕ) → Shut c count j → ⊥)
      there (inl (inl (inl (b, t)))) = absurd t
      there (inl (inl (inr t))) = absurd (omega (arith, t.0))
      there (inl (inr t)) = absurd (omega (arith, t.0))
      there (inr (e, n)) = (n.0, λ j s. clash_not j (n.0, s) n)

      back : Claimed c count × ((j : ℕ) → Shut c count j → ⊥) → ((j : ℕ) × ClashOf c count j) ⊎ NoClash c count → NoClash c count
      back y (inl (j, z)) = absurd (y.1 j z.1)
      back y (inr n) = n

  -- ---- the marked jobs are jobs of the list

  module _ (j : ℕ) (x : Shut c count j) where
    marked_listed : (m i : ℕ) → i + m ≡ count → (k : ℕ) → marked_by j (records c.log i m) k ≡ true → k < jobs c.win
    unfolding records
    marked_listed zero i e k h = rw ((marked_alone j k).0 h) (shut_in c count j x)
    marked_listed (suc m) i e k h =
        by (marked_cases j (nth c i) (records c.log (suc i) m) k h) (λ q. marked_listed m (suc i) (omega arith) k q)
      where
        by : (marked_by j (records c.log (suc i) m) k ≡ true) ⊎ ((marked_by j (records c.log (suc i) m) (job_of (nth c i)) ≡ true) × (is_member (nth c i) k ≡ true))
            → (marked_by j (records c.log (suc i) m) k ≡ true → k < jobs c.win) → k < jobs c.win
        by (inl q) f = f q
        by (inr q) f = ((shut_takes c count j x i (omega arith)).passes.partners.members k q.1).0.listed

  module _ (a : Blamed) (x : Exactly c count a) (e : a.says.word ≡ Word.marked) where
    clash : (j : ℕ) × ClashOf c count j
    clash = marked_clash c count a (facts_answer a x) e

    pub all_listed : (k : ℕ) → has a.set k ≡ true → k < jobs c.win
    all_listed k h =
        marked_listed clash.0 clash.1.1 count 0 (omega arith) k
        ((marked_traced clash.0 (records c.log 0 count) k).1 ((x.traced clash.0 clash.1 k).0 h))

    -- as many as the list of them alone has jobs
    pub marked_many : (log : List ℕ) → ones_of a.set ≡ jobs (only_of (has a.set) c log).win
    unfolding picked_place
    marked_many log =
        let n = jobs c.win in
        let one : ℕ → ℕ = λ k. only (has a.set k) 1 in
        let few : n ≤ places a.set = omega (arith, x.words.0, clash.1.0.0.0.few) in
        let all : places a.set ≡ n + (places a.set - n) = omega arith in
        ones_members a.set ∙ ap (total one) all ∙ total_join one n (places a.set - n)
        ∙ omega (
          arith,
          picked_length (has a.set) c.win.e,
          total_cong (λ k. one (n + k)) (λ k. 0) (places a.set - n) (λ k b. past (n + k) (omega arith) (has a.set (n + k)) refl),
          total_zeros (places a.set - n),
        )
      where
        past : (k : ℕ) → jobs c.win ≤ k → (b : Bool) → has a.set k ≡ b → only b 1 ≡ 0
        past k b true h = absurd (omega (arith, all_listed k h))
        past k b false h = refl
