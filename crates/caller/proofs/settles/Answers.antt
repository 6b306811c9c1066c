-- `caller::settles` tells what it says, from the desk's promise alone and the answer's word. Assumes nothing.
use Rattle.caller.proofs.Telling.{tells_settles}
use Rattle.caller.proofs.settles.Goals as goal

pub returns : goal.returns
returns c = tells_settles _ _ _ c.narrow.result _ c.narrow.ensures c.settled.ensures
