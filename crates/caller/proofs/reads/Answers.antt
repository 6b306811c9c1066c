-- `caller::reads` tells what it says, from the desk's promise alone and the answer's word. Assumes nothing.
use Rattle.caller.proofs.Telling.{tells_reads}
use Rattle.caller.proofs.reads.Goals as goal

pub returns : goal.returns
returns c = tells_reads _ _ c.read_patterson.result _ c.read_patterson.ensures c.read.ensures
