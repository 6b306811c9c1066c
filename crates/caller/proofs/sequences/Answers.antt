-- `caller::sequences` tells what it says, from the desk's promise alone and the answer's word. Assumes nothing.
use Rattle.caller.proofs.Telling.{tells_sequences}
use Rattle.caller.proofs.sequences.Goals as goal

pub returns : goal.returns
returns c = tells_sequences _ _ _ c.sequence.result _ c.sequence.ensures c.settled.ensures
