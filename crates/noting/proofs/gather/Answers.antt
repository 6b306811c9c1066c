use Prim.Native.Nat.{ℕ, ◌+◌, ◌*◌, ◌≤◌, ◌<◌}
use native.Mathlib.Omega.{arith}
use mathlib.Core.List.{List}
use mathlib.Core.Path.{sym, ap, ◌∙◌}
use lib.ListN.{length}
use Rattle.lists.specs.Lists.{◌!◌}
use Rattle.narrowing.specs.Windows.{Win, win}
use Rattle.members.specs.Members.{set_words, inserted}
use Rattle.members.proofs.Sets.{set_of_length}
use Rattle.members.proofs.Writing.{below_none}
use Rattle.timetable.specs.Time.{Jobs}
use Rattle.timetable.specs.Table.{jobs_of}
use Rattle.crowding.specs.Asked.{asked}
use Rattle.timetable.proofs.Good.{demands_sized, demand_most}
use Rattle.crowding.proofs.Steps.{load_small, good_cap}
use Rattle.noting.proofs.Named.{still_first, named_yet, gathered_drop, gathered_put, gathered_skip, gathered_all}
use Rattle.noting.proofs.gather.Goals as goal
use Rattle.noting.proofs.gather.Goals.{Start, then-is_member+then-list-rest, then-is_member+else-list-rest, else-is_member}

abbrev theJobs : Start → Jobs
theJobs s = let a = s.args.list in jobs_of (asked a.est.now a.lct.now a.dur.now a.dem.now a.cap)

abbrev theWindows : Start → Win
theWindows s = let a = s.args.list in win a.est.now a.lct.now

pub load_at-requires : goal.load_at-requires
load_at-requires c = (good_cap _ _ _ _ _ c.args.list.good, c.requires.1)

pub bounds-list-job : goal.bounds-list-job
bounds-list-job c = omega (arith, c.requires.0, demands_sized c.args.list.good)

pub overflow_add-left : goal.overflow_add-left
overflow_add-left c =
    let g = c.args.list.good in
    omega (arith, c.load_at.ensures, load_small (good_cap _ _ _ _ _ g) c.args.job c.args.t, demand_most g c.args.job)

pub loop-k-init : goal.loop-k-init
loop-k-init c =
    let a = c.args.list in (
      c.empty-set.ensures ∙ sym (below_none set_words _),
      ap (λ (x : ℕ). x + a.dem.now ! c.args.job) c.load_at.ensures
          ∙ still_first a.est.now a.lct.now a.dur.now a.dem.now a.cap c.args.job c.args.t,
    )

pub overflow_sub-rest : goal.overflow_sub-rest
overflow_sub-rest c =
    let s = (goal.at.overflow_sub-rest c).Start in
    let l = c.loop-k in
    let m = sym c.is_member.ensures in
    omega (arith, l.invariant.1, named_yet (theJobs s) (theWindows s) c.args.job c.args.t (omega (arith, c.args.list.good.few)) l.k (omega arith) (m ∙ c.if-is_member.true))

pub slice_bounds-put-end : goal.slice_bounds-put-end
slice_bounds-put-end c =
    sym (ap length c.loop-k.invariant.0 ∙ set_of_length _ _)

pub loop-k-preserved : goal.loop-k-preserved
loop-k-preserved c =
    let s = (goal.at.loop-k-preserved c).Start in
    let l = c.loop-k in
    let J = theJobs s in
    let W = theWindows s in
    let j = c.args.job in
    let t = c.args.t in
    let b : l.k < J.n = omega arith in
    let few : J.n ≤ 32 * set_words = omega (arith, c.args.list.good.few) in
    let m = sym c.is_member.ensures in
    elim c.if-is_member.branch [
      | then-is_member+then-list-rest w ↦
          let d = gathered_drop J W j t few l.k b (m ∙ w.if-is_member.true) (omega (arith, l.invariant.1, w.if-list-rest.true)) in
          (w.set-is ∙ l.invariant.0 ∙ d.0, omega (arith, w.left-is, l.invariant.1, d.1))
      | then-is_member+else-list-rest w ↦
          let d = gathered_put J W j t few l.k b (m ∙ w.if-is_member.true) (omega (arith, l.invariant.1, w.if-list-rest.false)) in
          (w.set-is ∙ w.put.ensures ∙ ap (λ (x : List ℕ). inserted x l.k) l.invariant.0 ∙ d.0, omega (arith, w.left-is, l.invariant.1, d.1))
      | else-is_member w ↦
          let d = gathered_skip J W j t few l.k b (m ∙ w.if-is_member.false) in
          (w.set-is ∙ l.invariant.0 ∙ d.0, omega (arith, w.left-is, l.invariant.1, d.1))
    ]

pub returns : goal.returns
returns c =
    let l = c.loop-k in
    l.invariant.0 ∙ gathered_all _ _ _ _ l.k (omega arith)
