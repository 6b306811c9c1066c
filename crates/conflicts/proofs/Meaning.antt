-- The call that names jobs keeps its promise; and what follows from the promise alone: wherever the marked jobs are listed, narrowing ends in a clash and
-- there is no schedule.
use Prim.Native.Nat.{ℕ, suc, ◌≤◌, ◌<◌}
use native.Mathlib.Omega.{arith}
use mathlib.Core.Path.{◌≡◌, refl, ap, ◌∙◌}
use mathlib.Core.List.{List, [], ◌∷◌}
use Rattle.lists.specs.Lists.{◌!◌}
use Rattle.lists.specs.Picked.{picked_place}
use Rattle.narrowing.specs.Windows.{Inside, slack}
use Rattle.narrowing.proofs.Schedules.{none_schedule}
use Rattle.answers.specs.Said.{Word, said}
use Rattle.members.specs.Members.{has}
use Rattle.journal.specs.Journal.{records}
use Rattle.joblist.specs.Limits.{jobs}
use Rattle.timetable.specs.Time.{Applies, Fits}
use Rattle.timetable.specs.Table.{Call, call, jobs_of, Good, After}
use Rattle.timetable.specs.Promise.{Scheduled, NoneIn, HasRoom, Room, Narrows}
use Rattle.timetable.proofs.Exact.{exact}
use Rattle.checks.specs.Replay.{Checked}
use Rattle.checks.proofs.Meaning.{checks}
use Rattle.conflicts.specs.Apart.{Together, only_of, Among}
use Rattle.conflicts.specs.Table.{Blamed, marking, conflict_of}
use Rattle.conflicts.specs.Promise.{ClashOf, Blames}
use Rattle.conflicts.proofs.Marks.{marked_traced}
use Rattle.conflicts.proofs.Among.{marked_none}
use Rattle.conflicts.proofs.Only.{among_fewer, only_good, only_among, starts, only_scheduled}
use Rattle.conflicts.proofs.Rows.{marked_clash, set_has, clash_row, exactly}

-- where there are no stable windows there is no schedule
none_scheduled : (d : Call) → NoneIn d → (s : List ℕ) → Scheduled d d.win s → ⊥
none_scheduled d h s x = none_schedule (jobs d.win) d.p (Applies (jobs_of d)) (Fits (jobs_of d)) (exact (jobs_of d)).sound d.win h s x

module _ (c : Call) (count : ℕ) (a : Blamed) (h : a ≡ conflict_of c count) (e : a.says.word ≡ Word.marked) where
  abbrev clash : (j : ℕ) × ClashOf c count j
  clash = marked_clash c count a h e

  marked_good : Good c
  marked_good = clash.1.0.0.0

  -- a list that the marked jobs are among
  none_there : (d : Call) (π : ℕ → ℕ) → Among (has a.set) c d π → NoneIn d
  none_there d π m =
      let j = clash.0 in
      marked_none c d π count j clash.1.1
      (among_fewer (has a.set) _ c d π (λ k q. (set_has c count a h j clash.1 k).1 ((marked_traced j (records c.log 0 count) k).0 q)) m)

  none_alone : (log : List ℕ) → NoneIn (only_of (has a.set) c log)
  none_alone log = none_there (only_of (has a.set) c log) (picked_place (has a.set)) (only_among (has a.set) c marked_good log)

  not_together : (s : List ℕ) → Together (jobs_of c) (has a.set) c.win s → ⊥
  not_together s x =
      none_scheduled (only_of (has a.set) c []) (none_alone []) (starts (has a.set) c marked_good [] s x) (only_scheduled (has a.set) c marked_good [] s x)

-- a clash log of narrowing's is one that the checker takes to a clash
log_clash : (c : Call) (count : ℕ) (before : List ℕ) (b : After) → Narrows (call c.win c.p c.r c.cap before) b → b.log ≡ c.log
    → (j : ℕ) → b.says ≡ said Word.clash (count ∷ j ∷ []) → ClashOf c count j
log_clash c count before b n e j q =
    let k = checks c count in
    let f = (k.exactly.clash count j).0 (ap (λ (x : Checked). x.says) (k.takes.clash before b n e j q)) in
    (f.0, f.2)

pub blames : (c : Call) (count : ℕ) (a : Blamed) → a ≡ conflict_of c count → Blames c count a
blames c count a h =
    record {
      answered = h;
      exactly = exactly c count a h;
      blamed = not_together c count a h;
      clashes = none_alone c count a h;
      taken = λ before b n e j q. h ∙ clash_row c count j (log_clash c count before b n e j q);
    }

-- ---- from the promise alone

module _ (c : Call) (count : ℕ) (a : Blamed) (x : Blames c count a) (e : a.says.word ≡ Word.marked) where
  -- any list that the marked jobs are among, whatever its others are, clashes by time-tabling and has no schedule
  pub none_elsewhere : (d : Call) (π : ℕ → ℕ) → Among (has a.set) c d π → NoneIn d × ((s : List ℕ) → Scheduled d d.win s → ⊥)
  none_elsewhere d π m = let n = none_there c count a x.answered e d π m in (n, none_scheduled d n)

  -- in the same list neither narrower windows, longer jobs, greater demands nor less supply help
  pub none_tighter : (d : Call) → jobs d.win ≡ jobs c.win → Inside (jobs c.win) d.win c.win
      → ((k : ℕ) → k < jobs c.win → (c.p ! k ≤ d.p ! k) × (c.r ! k ≤ d.r ! k)) → d.cap ≤ c.cap → NoneIn d
  none_tighter d same inside more less =
      (none_elsewhere d (λ k. k)
      (record {
        listed = λ k b t. omega (arith, same);
        apart = λ i k b q s t z. z;
        early = λ k b t. inside.early k b;
        late = λ k b t. inside.late k b;
        lasts = λ k b t. (more k b).0;
        takes = λ k b t. (more k b).1;
        supply = less;
      })).0

  -- and with room for the work narrowing says so
  pub clash_elsewhere : (d : Call) (π : ℕ → ℕ) → Among (has a.set) c d π → Good d → Room d → (b : After) → Narrows d b → b.says.word ≡ Word.clash
  clash_elsewhere d π m g r b n = ((n.largest g).clash r).1 (none_elsewhere d π m).0

  -- the list of the marked jobs alone is good, and narrowing it ends in a clash: with room for the work, or for more records than the sum of l - e - p
  module _ (log : List ℕ) where
    abbrev pub few : Call
    few = only_of (has a.set) c log

    few_good : Good few
    few_good = only_good (has a.set) c (marked_good c count a x.answered e) log

    pub clash_alone : Room few → (b : After) → Narrows few b → b.says.word ≡ Word.clash
    clash_alone r b n = ((n.largest few_good).clash r).1 (x.clashes e log)

    pub clash_alone_free : HasRoom few (suc (slack few.p few.win (jobs few.win))) → (b : After) → Narrows few b → b.says.word ≡ Word.clash
    clash_alone_free r b n = ((n.largest few_good).free r).2.1 (x.clashes e log)

-- narrow, and hand the log of a clash on: its marks are given, never 8
pub named_after_clash : (c : Call) (b : After) → Narrows c b → (n j : ℕ) → b.says ≡ said Word.clash (n ∷ j ∷ []) → (a : Blamed)
    → Blames (call c.win c.p c.r c.cap b.log) n a → a ≡ marking b.log n j
named_after_clash c b x n j e a y = y.taken c.log b x refl j e
