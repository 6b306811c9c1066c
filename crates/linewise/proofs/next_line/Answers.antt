-- `linewise::next_line` meets its contract: a line ends at a line feed.
use Rattle.linewise.proofs.next_line.Goals as goal

pub returns : goal.returns
returns c = rw c.behind.ensures
