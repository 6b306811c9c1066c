-- `probe::Room::new` meets its contract, by the law on the length of a repeat; to count so many entries would take seconds.
use Prim.Native.Nat.{ℕ}
use mathlib.Core.Path.{sym}
use lib.ListN.{length-replicate}
use Rattle.requests.specs.Sizes.{line_words, text_bytes}
use Rattle.probe.proofs.Room.new.Goals as goal

pub returns-clause-words : goal.returns-clause-words
returns-clause-words c = sym (length-replicate {A = ℕ} line_words 0)

pub returns-clause-text : goal.returns-clause-text
returns-clause-text c = sym (length-replicate {A = ℕ} text_bytes 0)
