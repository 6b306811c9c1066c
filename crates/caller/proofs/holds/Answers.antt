-- `caller::holds` tells what it says, from the desk's promise alone and the answer's word. Assumes nothing.
use Rattle.caller.proofs.Telling.{tells_holds}
use Rattle.caller.proofs.holds.Goals as goal

pub returns : goal.returns
returns c = tells_holds _ _ _ c.check_log.result _ c.check_log.ensures c.held.ensures
