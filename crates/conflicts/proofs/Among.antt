-- Any list that the marked jobs are among clashes by time-tabling, whatever its others are (document 02, Item 14): windows of it that are stable would lie,
-- at the marked jobs' places, inside the windows that the replay reaches, as long as the records ahead still mark the job; and the replay closes a window.
use Prim.Native.Nat.{ℕ, zero, suc, ◌+◌, ◌≤◌, ◌<◌}
use native.Mathlib.Omega.{arith}
use native.Mathlib.Decide.{dec_lt, dec_le}
use mathlib.Core.Path.{◌≡◌, refl, sym, subst}
use mathlib.Core.Bool.{Bool, true, false, not}
use mathlib.Core.List.{List}
use lib.Dec.{eqb}
use borrow.Author.Tests.{ne_eqb}
use Rattle.lists.specs.Lists.{◌!◌}
use Rattle.lists.specs.Tests.{both, only}
use Rattle.lists.specs.Sets.{Set, total_of}
use Rattle.lists.proofs.Tests.{true_both}
use Rattle.lists.proofs.Sums.{total_le, placed_le}
use Rattle.narrowing.specs.Windows.{Win, Side, early, late, Long, Respects}
use Rattle.narrowing.specs.Rules.{Stable}
use Rattle.joblist.specs.Limits.{jobs}
use Rattle.journal.specs.Journal.{records, job_of, time_of, is_member}
use Rattle.timetable.specs.Time.{Jobs, sure, load, Crowded, bound}
use Rattle.timetable.specs.Table.{Call, jobs_of}
use Rattle.timetable.specs.Promise.{StableIn, NoneIn}
use Rattle.timetable.proofs.Facts.{yes_sure}
use Rattle.codes.specs.Facts.{side, OwnTrue}
use Rattle.checks.specs.Replay.{changed}
use Rattle.checks.specs.Fate.{nth, reached, Takes, Shut}
use Rattle.verdicts.specs.Fate as fate
use Rattle.conflicts.specs.Marks.{marked_by}
use Rattle.conflicts.specs.Apart.{Among}
use Rattle.conflicts.proofs.Narrower.{Narrower, moved_narrower}
use Rattle.conflicts.proofs.Marks.{marked_more, marked_members, marked_own}
use Rattle.conflicts.proofs.Shut.{shut_takes}

module _ (c d : Call) (π : ℕ → ℕ) (count j : ℕ) (among : Among (marked_by j (records c.log 0 count)) c d π) (Y : Win) (fine : StableIn d Y) where
  abbrev J : Jobs
  J = jobs_of c

  abbrev K : Jobs
  K = jobs_of d

  -- those whom the records from i on mark, m of them; they are marked at the end
  abbrev ahead : ℕ → ℕ → Set
  ahead i m = marked_by j (records c.log i m)

  one_more : (i m k : ℕ) → ahead (suc i) m k ≡ true → ahead i (suc m) k ≡ true
  unfolding records
  one_more i m k h = marked_more j (nth c i) (records c.log (suc i) m) k h

  its_members : (i m k : ℕ) → ahead (suc i) m (job_of (nth c i)) ≡ true → is_member (nth c i) k ≡ true → ahead i (suc m) k ≡ true
  unfolding records
  its_members i m k e h = marked_members j (nth c i) (records c.log (suc i) m) k e h

  at-end : (i m k : ℕ) → i + m ≡ count → ahead i m k ≡ true → ahead 0 count k ≡ true
  at-end zero m k e h = let z : m ≡ count = omega arith in subst (λ (n : ℕ). ahead 0 n k ≡ true) z h
  at-end (suc i) m k e h = at-end i (suc m) k (omega arith) (one_more i m k h)

  -- ---- one record

  module _ (i m : ℕ) (here : suc i + m ≡ count) (good : Takes c i) (kept : ahead (suc i) m (job_of (nth c i)) ≡ true)
      (so_far : (k : ℕ) → k < J.n → ahead i (suc m) k ≡ true → Narrower Y (π k) (reached c i) k) where
    abbrev x : List ℕ
    x = nth c i

    abbrev own : ℕ
    own = job_of (nth c i)

    own_listed : own < J.n
    own_listed = good.passes.in_range.job

    own_marked : ahead 0 count own ≡ true
    own_marked = at-end (suc i) m own here kept

    member_marked : (k : ℕ) → is_member x k ≡ true → ahead 0 count k ≡ true
    member_marked k h = at-end i (suc m) k (omega arith) (its_members i m k kept h)

    own_there : Narrower Y (π own) (reached c i) own
    own_there = so_far own own_listed (one_more i m own kept)

    -- what a job of d draws at the record's time, beside the moved one
    abbrev beside : ℕ → Bool
    beside q = both (not (eqb q (π own))) (sure K.p Y q (time_of x))

    -- the members' sure parts in Y hold that time
    member_beside : (k : ℕ) → k < J.n → is_member x k ≡ true → beside (π k) ≡ true
    member_beside k b h =
        let s = good.passes.stated.members k h in
        let w = so_far k b (its_members i m k kept h) in
        let p = among.lasts k b (member_marked k h) in
        let ne : π k ≡ π own → ⊥ = λ e. (good.passes.partners.members k h).1 (among.apart k own b own_listed (member_marked k h) own_marked e) in
        true_both (not (eqb (π k) (π own))) (sure K.p Y (π k) (time_of x)) (rw (ne_eqb (π k) (π own) ne))
        (yes_sure K.p Y (π k) (time_of x) (record { from = omega (arith, s.from, w.late, p); to = omega (arith, s.to, w.early, p) }))

    members_load : total_of J.n J.r (is_member x) ≤ load K Y (π own) (time_of x)
    unfolding total_of load
    members_load =
        let f : ℕ → ℕ = λ q. only (beside q) (K.r ! q) in
        omega (
          arith,
          total_le (λ k. only (is_member x k) (J.r ! k)) (λ k. only (is_member x k) (f (π k))) J.n (λ k b. by k b (is_member x k) refl),
          placed_le (is_member x) π J.n K.n
              (λ k b h. among.listed k b (member_marked k h))
              (λ a k b e h g. among.apart a k b e (member_marked a h) (member_marked k g))
              f,
        )
      where
        by : (k : ℕ) → k < J.n → (y : Bool) → is_member x k ≡ y → only y (J.r ! k) ≤ only y (only (beside (π k)) (K.r ! π k))
        by k b true h = rw (member_beside k b h) (among.takes k b (member_marked k h))
        by k b false h = omega arith

    crowded_there : Crowded K Y (π own) (time_of x)
    crowded_there =
        let r = among.takes own own_listed own_marked in
        record {
          lasts = omega (arith, good.passes.partners.lasts, among.lasts own own_listed own_marked);
          takes = omega (arith, good.passes.partners.takes, r);
          over = omega (arith, r, members_load, good.passes.exceeds, among.supply);
        }

    -- so Y, to which no rule applies, respects the record's bound
    respected : (v : Side) → OwnTrue J.p (reached c i) own v (time_of x) → Respects Y (π own) v (bound v (time_of x))
    unfolding Stable
    respected early o =
        elim (dec_lt (time_of x) (Y.e ! π own)) [
          | yes h ↦ h
          | no h ↦
              absurd (fine.stable (π own) early (suc (time_of x)) (among.listed own own_listed own_marked)
              (record { from = omega arith; to = omega (arith, own_there.early, among.lasts own own_listed own_marked); crowded = crowded_there }))
        ]
    respected late o =
        elim (dec_le (Y.l ! π own) (time_of x)) [
          | yes h ↦ h
          | no h ↦
              absurd (fine.stable (π own) late (time_of x) (among.listed own own_listed own_marked)
              (record { from = omega (arith, own_there.late, among.lasts own own_listed own_marked); to = omega arith; crowded = crowded_there }))
        ]

  -- ---- the records one after the other

  abbrev Within : ℕ → Type 0
  Within i = (m : ℕ) → i + m ≡ count → (k : ℕ) → k < J.n → ahead i m k ≡ true → Narrower Y (π k) (reached c i) k

  within-start : Within 0
  unfolding fate.reached
  within-start m e k b h =
      let q = at-end 0 m k e h in
      let i = fine.inside in
      record {
        early = omega (arith, among.early k b q, i.early (π k) (among.listed k b q));
        late = omega (arith, among.late k b q, i.late (π k) (among.listed k b q));
      }

  within_step : (i : ℕ) → Takes c i → Within i → Within (suc i)
  unfolding fate.reached changed
  within_step i good so_far m e k b h =
      moved_narrower Y (reached c i) (π k) (job_of (nth c i)) k (side (nth c i)) (bound (side (nth c i)) (time_of (nth c i)))
      (so_far (suc m) (omega arith) k b (one_more i m k h))
      (λ q. subst (λ (y : ℕ). Respects Y (π y) (side (nth c i)) (bound (side (nth c i)) (time_of (nth c i)))) (sym q)
      (respected i m e good (subst (λ (y : ℕ). ahead (suc i) m y ≡ true) q h) (so_far (suc m) (omega arith)) (side (nth c i)) good.passes.stated.own))

  within : (i : ℕ) → ((h : ℕ) → h < i → Takes c h) → Within i
  within zero t = within-start
  within (suc i) t = within_step i (t i (omega arith)) (within i (λ h q. t h (omega arith)))

-- a log that the checker takes to a clash
pub marked_none : (c d : Call) (π : ℕ → ℕ) (count j : ℕ) → Shut c count j → Among (marked_by j (records c.log 0 count)) c d π → NoneIn d
unfolding Long fate.reached
marked_none c d π zero j x among Y fine =
    let b = x.listed in
    let q = marked_own j (records c.log 0 0) in
    let i = among.listed j b q in
    omega (
      arith,
      among.early j b q,
      among.late j b q,
      among.lasts j b q,
      fine.inside.early (π j) i,
      fine.inside.late (π j) i,
      fine.long (π j) i,
      x.shorter,
    )
marked_none c d π (suc h) j (x, e) among Y fine =
    let own = job_of (nth c h) in
    let b : own < jobs c.win = x.takes.passes.in_range.job in
    let z : suc h + 0 ≡ suc h = omega arith in
    let q : marked_by j (records c.log (suc h) 0) own ≡ true =
    subst (λ (y : ℕ). marked_by j (records c.log (suc h) 0) y ≡ true) e (marked_own j (records c.log (suc h) 0)) in
    let w = within c d π (suc h) j among Y fine (suc h) (shut_takes c (suc h) j (x, e)) 0 z own b q in
    let end = at-end c d π (suc h) j among Y fine (suc h) 0 own z q in
    omega (arith, w.early, w.late, among.lasts own b end, fine.long (π own) (among.listed own b end), x.closed)
