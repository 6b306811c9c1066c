-- `caller::hopeless` tells what it says, from the desk's promise alone and the answer's word. Assumes nothing.
use Rattle.caller.proofs.Telling.{tells_hopeless}
use Rattle.caller.proofs.hopeless.Goals as goal

pub returns : goal.returns
returns c = tells_hopeless _ _ c.conflict-given.result.answer c.conflict-given.result.set _ c.conflict-given.ensures c.marked.ensures
