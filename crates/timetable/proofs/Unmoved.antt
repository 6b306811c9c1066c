-- Shorter reasons move nothing else (document 02, Item 7): the answer and the windows are those with every member named, and each record tells the same
-- move by some of its members.
use Prim.Native.Nat.{ℕ, zero, suc, ◌*◌, ◌≤◌}
use native.Mathlib.Omega.{arith}
use native.Mathlib.Decide.{dec_lt}
use mathlib.Core.Path.{◌≡◌, refl, sym, subst, ◌∙◌}
use mathlib.Core.Bool.{true}
use mathlib.Core.List.{List, [], ◌∷◌, map}
use mathlib.Core.Logic.{◌↔◌}
use lib.ListN.{length, get_or}
use Rattle.narrowing.specs.Search.{Move}
use Rattle.narrowing.specs.Run.{Out, settled, clash, short, run}
use Rattle.narrowing.proofs.Runs.{Bounded, run_bounded}
use Rattle.members.specs.Members.{set_words}
use Rattle.members.proofs.Sets.{has_set_of, has_given, has_sub}
use Rattle.journal.specs.Journal.{is_member, room_of, record_at, logged}
use Rattle.journal.proofs.Records.{logged_length, logged_record, logged_beyond}
use Rattle.timetable.specs.Time.{Jobs, Applies}
use Rattle.timetable.specs.Search.{search, Member, member, lean_member, naming, entry}
use Rattle.timetable.specs.Table.{Call, jobs_of, refusal_of, ended, tabled, narrowed_by, narrowed}
use Rattle.timetable.specs.Reasons.{Shortens, Shortened, Unmoved}
use Rattle.timetable.proofs.Calls.{admitted_call, whole}
use Rattle.timetable.proofs.Entries.{entries_are, entries_count}
use Rattle.timetable.proofs.Law.{lawful, searches}
use Rattle.timetable.proofs.Facts.{member_yes, yes_member}
use Rattle.timetable.proofs.Lean.{lean_some}

-- ---- one record

-- where every member is named, 01's members are, and nobody else
pub full_names : (J : Jobs) → J.n ≤ 32 * set_words → (m : Move) (k : ℕ) → (is_member (naming member J m) k ≡ true) ↔ Member J m.before m.job m.choice k
unfolding naming
full_names J few m k =
    let f = member J m.before m.job m.choice in (
      λ h. member_yes J m.before m.job m.choice k (has_given set_words f k h),
      λ x. has_set_of set_words f k (omega (arith, x.listed)) ∙ yes_member J m.before m.job m.choice k x,
    )

same_record : (x : List ℕ) → Shortens x x
same_record x = record { told = refl; members = λ k h. h }

module _ (J : Jobs) where
  entry_shortens : (m : Move) → Shortens (entry J m) (naming member J m)
  unfolding naming
  entry_shortens m =
      record {
        told = refl;
        members = has_sub set_words (lean_member J m.before m.job m.choice) (member J m.before m.job m.choice) (lean_some J m.before m.job m.choice);
      }

  entries_shorten : (ms : List Move) (i : ℕ) → Shortens (get_or (map (entry J) ms) i []) (get_or (map (naming member J) ms) i [])
  entries_shorten [] i = same_record []
  entries_shorten (m ∷ ms) zero = entry_shortens m
  entries_shorten (m ∷ ms) (suc i) = entries_shorten ms i

  -- ---- a log

  logged_shortens : (ms : List Move) (log : List ℕ) → length ms ≤ room_of log → (i : ℕ)
      → Shortens (record_at (logged (map (entry J) ms) log) i) (record_at (logged (map (naming member J) ms) log) i)
  logged_shortens ms log b i =
      let rs = map (entry J) ms in
      let qs = map (naming member J) ms in
      let n = entries_count lean_member J ms in
      let m = entries_count member J ms in
      elim (dec_lt i (length ms)) [
        | yes h ↦
            subst (λ (x : List ℕ). Shortens x (record_at (logged qs log) i)) (sym (logged_record rs log (entries_are lean_member J ms) (omega arith) i (omega arith)))
            (subst (Shortens (get_or rs i [])) (sym (logged_record qs log (entries_are member J ms) (omega arith) i (omega arith))) (entries_shorten ms i))
        | no h ↦
            subst (λ (x : List ℕ). Shortens x (record_at (logged qs log) i)) (sym (logged_beyond rs log (entries_are lean_member J ms) (omega arith) i (omega arith)))
            (subst (Shortens (record_at log i)) (sym (logged_beyond qs log (entries_are member J ms) (omega arith) i (omega arith))) (same_record (record_at log i)))
      ]

  same_size : (ms : List Move) (log : List ℕ) → length ms ≤ room_of log → length (logged (map (entry J) ms) log) ≡ length (logged (map (naming member J) ms) log)
  same_size ms log b =
      let n = entries_count lean_member J ms in
      let m = entries_count member J ms in
      logged_length (map (entry J) ms) log (entries_are lean_member J ms) (omega arith)
      ∙ sym (logged_length (map (naming member J) ms) log (entries_are member J ms) (omega arith))

-- ---- the answer table

module _ (c : Call) where
  abbrev J : Jobs
  J = jobs_of c

  ended_shortened : (o : Out) → Bounded (search J) (room_of c.log) c.win o → Shortened (ended lean_member c o) (ended member c o)
  unfolding ended
  ended_shortened (settled U ms) b = record { says = refl; windows = refl; size = same_size J ms c.log b.1; records = logged_shortens J ms c.log b.1 }
  ended_shortened (clash j ms) b = record { says = refl; windows = refl; size = same_size J ms c.log b.1; records = logged_shortens J ms c.log b.1 }
  ended_shortened short b = record { says = refl; windows = refl; size = refl; records = λ i. same_record _ }

  tabled_shortened : (k : ℕ) → refusal_of c ≡ k → Shortened (tabled lean_member c k) (tabled member c k)
  unfolding tabled
  tabled_shortened zero e =
      ended_shortened (run (search J) (room_of c.log) c.win)
      (run_bounded (search J) (Applies J) (searches J) (lawful J) (room_of c.log) c.win (whole c (admitted_call c e).0))
  tabled_shortened (suc k) e = record { says = refl; windows = refl; size = refl; records = λ i. same_record _ }

  pub unmoved_by : Unmoved c (narrowed c)
  unfolding narrowed_by
  unmoved_by = tabled_shortened (refusal_of c) refl
