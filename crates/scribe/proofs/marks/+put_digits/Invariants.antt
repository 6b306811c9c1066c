use Rattle.scribe.proofs.marks.+put_digits.Given as goal

abbrev pub decreases-put_digits : goal.decreases-put_digits
decreases-put_digits g l = l.v
