-- A test made in code.
use Rattle.std.specs.Prelude.{Bool, true, false, Result, Ok, Err}
use Rattle.answers.specs.declared.reasons.Refusal.{Refusal}

-- Ok where the test passes, else the refusal
abbrev pub passing : Bool → Refusal → Result Unit Refusal
passing true r = Ok tt
passing false r = Err r
