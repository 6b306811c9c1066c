-- The writer's members are lean: some of 01's, whose demands with the moved job's exceed the capacity at a crowded time, and none of whom is spare; and so
-- are the records of a log.
use Prim.Native.Nat.{ℕ, ◌*◌, ◌≤◌, ◌<◌}
use native.Mathlib.Omega.{arith}
use mathlib.Core.Path.{◌≡◌, refl, sym, subst}
use mathlib.Core.Bool.{true, false, not}
use mathlib.Core.List.{List, map}
use lib.Dec.{eqb}
use lib.ListN.{length}
use borrow.Author.Tests.{ne_eqb, eqb-false, not-true}
use Rattle.lists.specs.Lists.{◌!◌}
use Rattle.lists.specs.Tests.{both, only}
use Rattle.lists.specs.Sets.{Set, total_of}
use Rattle.lists.specs.Spares.{without, amount, NoneSpare}
use Rattle.lists.proofs.Tests.{both_true, true_both, only_cong}
use Rattle.lists.proofs.Sums.{total_cong}
use Rattle.lists.proofs.Sets.{clash, total_of_sub}
use Rattle.lists.proofs.Spares.{leaned_in, leaned_exceeds, leaned_none_spare}
use Rattle.narrowing.specs.Windows.{Win, Side, early}
use Rattle.narrowing.specs.Search.{Move}
use Rattle.narrowing.specs.Rounds.{Choice, Chosen}
use Rattle.members.specs.Members.{set_words}
use Rattle.members.proofs.Sets.{has_given}
use Rattle.members.proofs.Spares.{words_exceed, words_none_spare}
use Rattle.journal.specs.Journal.{job_of, is_member, room_of, record_at, logged}
use Rattle.promises.proofs.Logs.{logged_fine}
use Rattle.timetable.specs.Time.{Jobs, sure, load, Crowded, Applies}
use Rattle.timetable.specs.Search.{search, Member, member, lean_member, naming, entry}
use Rattle.timetable.specs.Reason.{LeanRecord}
use Rattle.timetable.proofs.Facts.{crowded_at, sure_yes, yes_sure, member_yes, yes_member}
use Rattle.timetable.proofs.Entries.{entry_length}

module _ (J : Jobs) (W : Win) (j t : ℕ) where
  -- the demands of 01's members are the others' load
  pub members_load : total_of J.n J.r (member J W j t) ≡ load J W j t
  unfolding total_of load
  members_load =
      total_cong (λ k. only (member J W j t k) (J.r ! k)) (λ k. only (both (not (eqb k j)) (sure J.p W k t)) (J.r ! k)) J.n
      (λ k c.
      only_cong (member J W j t k) (both (not (eqb k j)) (sure J.p W k t)) (J.r ! k)
      (λ q. let m = member_yes J W j t k q in true_both (not (eqb k j)) (sure J.p W k t) (rw (ne_eqb k j m.other)) (yes_sure J.p W k t m.sure_there))
      (λ q r.
      let d = both_true (not (eqb k j)) (sure J.p W k t) q in
      yes_member J W j t k
      (record { listed = c; other = eqb-false k j (not-true (eqb k j) d.0); takes = omega arith; sure_there = sure_yes J.p W k t d.1 })))

  -- the writer's are some of 01's
  pub lean_some : (k : ℕ) → lean_member J W j t k ≡ true → member J W j t k ≡ true
  unfolding lean_member
  lean_some k h = leaned_in J.n J.r (J.r ! j) J.cap (member J W j t) k h

  pub lean_member_lem : (k : ℕ) → lean_member J W j t k ≡ true → Member J W j t k
  lean_member_lem k h = member_yes J W j t k (lean_some k h)

  lean_exceeds : Crowded J W j t → J.cap < amount J.n J.r (J.r ! j) (lean_member J W j t)
  unfolding lean_member
  lean_exceeds c = leaned_exceeds J.n J.r (J.r ! j) J.cap (member J W j t) (omega (arith, c.over, members_load))

  lean_none_spare : NoneSpare J.n J.r (J.r ! j) J.cap (lean_member J W j t)
  unfolding lean_member
  lean_none_spare = leaned_none_spare J.n J.r (J.r ! j) J.cap (member J W j t) (λ k h. (member_yes J W j t k h).listed)

-- ---- records

-- no part of a lean record's members would do
pub none_fewer : (J : Jobs) (x : List ℕ) → LeanRecord J x → (S : Set) → ((k : ℕ) → S k ≡ true → is_member x k ≡ true) → (k : ℕ) → is_member x k ≡ true → S k ≡ false
    → amount J.n J.r (J.r ! job_of x) S ≤ J.cap
none_fewer J x h S some k m out =
    omega (
      arith,
      h.lean k m,
      total_of_sub J.n J.r S (without (is_member x) k)
          (λ i b q. true_both (not (eqb i k)) (is_member x i) (rw (ne_eqb i k (λ e. clash (S k) (rw e at q) out))) (some i q)),
    )

module _ (J : Jobs) (few : J.n ≤ 32 * set_words) where
  pub entry_lean : (m : Move) → Crowded J m.before m.job m.choice → LeanRecord J (entry J m)
  unfolding naming
  entry_lean m c =
      let named = lean_member J m.before m.job m.choice in
      record {
        counted = refl;
        other = λ h. (lean_member_lem J m.before m.job m.choice m.job (has_given set_words named m.job h)).other refl;
        exceeds = words_exceed set_words J.n J.r (J.r ! m.job) J.cap named few (lean_exceeds J m.before m.job m.choice c);
        lean = words_none_spare set_words J.n J.r (J.r ! m.job) J.cap named few (lean_none_spare J m.before m.job m.choice);
      }

  choice_lean : (W : Win) (j : ℕ) (s : Side) (m : Move) → Choice (search J) (Applies J) W j s m → LeanRecord J (entry J m)
  choice_lean W j s m x =
      entry_lean m (subst (λ (U : Win). Crowded J U m.job m.choice) (sym x.before) (crowded_at J W m.job m.side m.choice x.applies))

  pub logged_lean : (W : Win) (ms : List Move) → Chosen (search J) (Applies J) W 0 early ms → (log : List ℕ) → length ms ≤ room_of log → (i : ℕ) → i < length ms
      → LeanRecord J (record_at (logged (map (entry J) ms) log) i)
  logged_lean W ms = logged_fine (entry J) (entry_length lean_member J) (search J) (Applies J) (LeanRecord J) choice_lean W 0 early ms
