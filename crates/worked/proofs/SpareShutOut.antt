-- The wrong versions of shorter reasons (document 02, Item 7), each refuted on run 52 of the table by the field of the contract that names it, without the
-- help of `answered`. One that drops the highest number first leaves lean records too: the words of the log refuse it (`answered`, and `Logged.log`).
use Prim.Native.Nat.{ℕ, ◌<◌}
use native.Mathlib.Omega.{arith}
use mathlib.Core.Path.{◌≡◌, refl, ap}
use mathlib.Core.List.{List, [], ◌∷◌}
use Rattle.lists.specs.Lists.{◌!◌}
use Rattle.lists.specs.Sets.{total_of}
use Rattle.lists.proofs.Sets.{clash}
use Rattle.answers.specs.Said.{Word, said}
use Rattle.members.specs.Members.{has, ones_of}
use Rattle.journal.specs.Journal.{time_word, is_member, record_at}
use Rattle.timetable.specs.Search.{member, naming}
use Rattle.timetable.specs.Table.{Call, jobs_of, After, narrowed_by}
use Rattle.timetable.specs.Reason.{LeanRecord}
use Rattle.timetable.specs.Reasons.{Reasons, fully_named, Unmoved}
use Rattle.checks.specs.Replay.{Checked}
use Rattle.checks.specs.Promise.{taken, Reasoned}
use Rattle.worked.specs.Rows.{noted, with}
use Rattle.worked.specs.Runs.{lent}
use Rattle.worked.specs.Cases.{crowd}

abbrev run52 : Call
run52 = lent 5 crowd 1

-- ---- what no lean record is

-- all three members: the first is spare
full : LeanRecord (jobs_of run52) (noted 0 0 0 3 14) → ⊥
unfolding total_of has
full h = omega (arith, h.lean 1 refl)

-- one too many dropped: the demands named only reach the capacity
too_few : LeanRecord (jobs_of run52) (noted 0 0 0 1 8) → ⊥
unfolding total_of has
too_few h = omega (arith, h.exceeds)

-- each dropped against the first total: none is left
none_left : LeanRecord (jobs_of run52) (noted 0 0 0 0 0) → ⊥
unfolding total_of has
none_left h = omega (arith, h.exceeds)

-- two members, and the number of all three
miscounted : LeanRecord (jobs_of run52) (noted 0 0 0 3 12) → ⊥
unfolding ones_of
miscounted h = omega (arith, h.counted)

-- ---- so no narrowing leaves it

writes_none : (a : After) → Reasons run52 a → a.says ≡ said Word.settled (1 ∷ []) → (x : List ℕ) → record_at a.log 0 ≡ x → (LeanRecord (jobs_of run52) x → ⊥) → ⊥
writes_none a h e x q f = f (rw q at ((h.settled 1 e).logs.fine 0 (omega arith)))

pub naming_all : (a : After) → Reasons run52 a → a.says ≡ said Word.settled (1 ∷ []) → record_at a.log 0 ≡ noted 0 0 0 3 14 → ⊥
naming_all a h e q = writes_none a h e _ q full

pub dropping_one_too_many : (a : After) → Reasons run52 a → a.says ≡ said Word.settled (1 ∷ []) → record_at a.log 0 ≡ noted 0 0 0 1 8 → ⊥
dropping_one_too_many a h e q = writes_none a h e _ q too_few

pub first_total : (a : After) → Reasons run52 a → a.says ≡ said Word.settled (1 ∷ []) → record_at a.log 0 ≡ noted 0 0 0 0 0 → ⊥
first_total a h e q = writes_none a h e _ q none_left

pub counting_all : (a : After) → Reasons run52 a → a.says ≡ said Word.settled (1 ∷ []) → record_at a.log 0 ≡ noted 0 0 0 3 12 → ⊥
counting_all a h e q = writes_none a h e _ q miscounted

-- ---- nothing else may move

-- with every member named the record has all three
full52 : record_at (fully_named run52).log 0 ≡ noted 0 0 0 3 14
unfolding narrowed_by naming member ones_of record_at
full52 = refl

-- a job that is not one of them
pub naming_a_stranger : (a : After) → Unmoved run52 a → record_at a.log 0 ≡ noted 0 0 0 2 20 → ⊥
unfolding has
naming_a_stranger a h q = clash (is_member (noted 0 0 0 3 14) 4) (rw (q, full52) at (h.records 0).members 4 refl) refl

-- another time
pub moving_elsewhere : (a : After) → Unmoved run52 a → record_at a.log 0 ≡ noted 0 0 1 2 12 → ⊥
moving_elsewhere a h q = let z : ◌≡◌ {A = ℕ} 1 0 = ap (λ (x : List ℕ). x ! time_word) (rw (q, full52) at (h.records 0).told) in omega arith

-- ---- nor may the checker take what is not lean

abbrev full_log : Call
full_log = with 5 crowd (noted 0 0 0 3 14)

not_lean : Reasoned full_log 0 → ⊥
unfolding record_at
not_lean r = full r.lean

pub taking_spare_members : (a : Checked) → ((i : ℕ) → i < taken a.says → Reasoned full_log i) → a.says ≡ said Word.holds (1 ∷ []) → ⊥
taking_spare_members a h e = not_lean (h 0 (rw e (omega arith)))
