-- What is decided of a project text before a lent word is written: the number of the refusal, or that no test fails, and what the lists are filled from.
use Rattle.std.specs.Prelude.{ℕ, ◌≡◌, List, [], length, Result, Ok, Err}
use Rattle.answers.specs.declared.reasons.Refusal as reasons
use Rattle.answers.specs.Said.{number_of}
use Rattle.texts.specs.Readings.{good}
use Rattle.projects.specs.Projects.{Project, pairs_of}
use Rattle.parsing.specs.declared.Shape.{Shape}
use Rattle.parsing.specs.Parsed.{Parsing}
use Rattle.precedence.specs.Chains.{ChainsFound}
use Rattle.exchange.specs.Calls.{Lent, TextCall}
use Rattle.exchange.specs.Tests.{Refusal}
use Rattle.lent.specs.declared.Sizes.{Sizes}
use Rattle.lent.specs.declared.Draft.{Draft}
use Rattle.lent.specs.Parts.{Drafted}
use Rattle.deciding.specs.declared.Decided.{Decided}

-- the lent lists have these lengths
pub record LongAs (L : Lent) (z : Sizes) : Type 0 where
  pub est : length L.est ≡ z.est
  pub lct : length L.lct ≡ z.lct
  pub dur : length L.dur ≡ z.dur
  pub dem : length L.dem ≡ z.dem
  pub jobs : length L.jobs ≡ z.jobs
  pub successors : length L.successors ≡ z.successors

-- the text s of the call is taken: it says x, no test fails, and the arrays hold its durations, its demands and its longest chains
pub record Accepted (c : TextCall) (s : List ℕ) (d : Draft) (z : Shape) : Type 0 where
  pub x : Project
  pub text : c.text ≡ good x []
  pub parsing : Parsing s c.resource d.dur d.dem z x
  pub refusal : Refusal c 0
  pub chains : ChainsFound (pairs_of x) z.n d.dur c.horizon d.heads d.tails

-- by the result: taken, or the first test that fails
abbrev pub DecidedSays : TextCall → List ℕ → Result Decided reasons.Refusal → Type 0
DecidedSays c s (Ok d) = Accepted c s d.draft d.shape × Drafted d.draft
DecidedSays c s (Err r) = Refusal c (number_of r)
