-- `stated::sure` meets its contract: the window and the duration of job k.
use Rattle.timetable.specs.Time.{sure}
use Rattle.stated.proofs.sure.Goals as goal

pub sure-requires : goal.sure-requires
sure-requires c =
    let h = c in
    (h.requires.0.within.0 h.args.k, h.requires.0.within.1.1.0 h.args.k, h.requires.2)

pub returns : goal.returns
unfolding sure
returns c = c.sure.ensures
