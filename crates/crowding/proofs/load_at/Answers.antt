use Prim.Native.Nat.{◌+◌}
use native.Mathlib.Omega.{arith}
use mathlib.Core.Path.{◌≡◌, sym, ap, ◌∙◌}
use lib.ListN.{length}
use Rattle.narrowing.specs.Windows.{win}
use Rattle.timetable.specs.Table.{jobs_of}
use Rattle.crowding.specs.Asked.{asked}
use Rattle.crowding.proofs.Steps.{load_below, load_zero, load_with, load_own, load_apart, load_all, load_fits}
use Rattle.crowding.proofs.load_at.Goals as goal
use Rattle.crowding.proofs.load_at.Goals.{then-k-job+then-sure, else-k-job, else-k-job-via-then-k-job+else-sure, else-k-job-via-else-k-job}

pub loop-k-init : goal.loop-k-init
loop-k-init c = sym (load_zero _ _ _ _)

pub overflow_add-sum : goal.overflow_add-sum
overflow_add-sum c =
    let a = c.args in
    let J = jobs_of (asked a.est.now a.lct.now a.dur.now a.dem.now 0) in
    let k = c.loop-k.k in
    omega (
      arith,
      load_with J (win a.est.now a.lct.now) a.job a.t k c.if-k-job.true (sym c.sure.ensures ∙ c.if-sure.true),
      load_fits c.requires.0 a.job a.t (k + 1) (omega arith),
    )

pub loop-k-preserved : goal.loop-k-preserved
loop-k-preserved c =
    let a = c.args in
    let J = jobs_of (asked a.est.now a.lct.now a.dur.now a.dem.now 0) in
    let W = win a.est.now a.lct.now in
    let k = c.loop-k.k in
    elim c.if-k-job.branch [
      | then-k-job+then-sure w ↦ omega (arith, w.sum-is, load_with J W a.job a.t k w.if-k-job.true (sym w.sure.ensures ∙ w.if-sure.true))
      | else-k-job w ↦
          elim w.else-k-job.branch [
            | else-k-job-via-then-k-job+else-sure v ↦ omega (arith, w.sum-is, load_apart J W a.job a.t k v.if-k-job.true (sym v.sure.ensures ∙ v.if-sure.false))
            | else-k-job-via-else-k-job v ↦ omega (arith, w.sum-is, load_own J W a.job a.t k v.if-k-job.false)
          ]
    ]

pub returns : goal.returns
returns c =
    let e : c.loop-k.k ≡ length c.args.est.now = omega arith in
    c.loop-k.invariant ∙ ap (load_below _ _ _ _) e ∙ load_all _ _ _ _
