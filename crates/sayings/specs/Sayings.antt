-- What is printed of an answer, held to what the answer says: its word, where it is one of documents 01 and 02, and its numbers.
use Rattle.std.specs.Prelude.{ℕ, ◌≡◌, List, [], ◌∷◌}
use Rattle.std.proofs.Math.Option.{Option, none, some}
use Rattle.answers.specs.Said.{Said}
use Rattle.answers.specs.Said as answers
use Rattle.sayings.specs.declared.Saying.{Saying}

-- the answer word that is printed; the programs' own two are none
abbrev pub answer_word : Saying → Option answers.Word
answer_word (Saying.Settled _) = some answers.Word.settled
answer_word (Saying.Clash _ _) = some answers.Word.clash
answer_word (Saying.Refused _) = some answers.Word.refused
answer_word (Saying.Holds _) = some answers.Word.holds
answer_word (Saying.Rejected _ _) = some answers.Word.rejected
answer_word Saying.None = some answers.Word.none
answer_word (Saying.Overload _ _) = some answers.Word.overload
answer_word (Saying.Read _ _) = some answers.Word.read
answer_word (Saying.Written _) = some answers.Word.written
answer_word (Saying.Marked _) = some answers.Word.marked
answer_word Saying.Record = none
answer_word Saying.Unreadable = none

-- the numbers behind the word
abbrev pub numbers_of : Saying → List ℕ
numbers_of (Saying.Settled n) = n ∷ []
numbers_of (Saying.Clash n m) = n ∷ m ∷ []
numbers_of (Saying.Refused n) = n ∷ []
numbers_of (Saying.Holds n) = n ∷ []
numbers_of (Saying.Rejected n m) = n ∷ m ∷ []
numbers_of Saying.None = []
numbers_of (Saying.Overload n m) = n ∷ m ∷ []
numbers_of (Saying.Read n m) = n ∷ m ∷ []
numbers_of (Saying.Written n) = n ∷ []
numbers_of (Saying.Marked n) = n ∷ []
numbers_of Saying.Record = []
numbers_of Saying.Unreadable = []

-- the printed word is the answer's, and so are the numbers
pub record Tells (s : Saying) (a : Said) : Type 0 where
  pub word : answer_word s ≡ some a.word
  pub numbers : numbers_of s ≡ a.numbers
