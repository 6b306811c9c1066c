-- What each answer says in the paper's words: the answer words of documents 01 and 02 and the numbers behind them, one type for all calls; and the number of
-- each refusal and of each code of a bad record.
use Rattle.std.specs.Prelude.{ℕ, List, [], ◌∷◌, Option, Some, None, Result, Ok, Err}
use Rattle.answers.specs.declared.Answer.{Answer}
use Rattle.answers.specs.declared.CheckAnswer.{CheckAnswer}
use Rattle.answers.specs.declared.reasons.Refusal.{Refusal}
use Rattle.answers.specs.declared.reasons.Code.{Code}
use Rattle.answers.specs.declared.Overload.{Overload}
use Rattle.answers.specs.declared.ProjectRead.{ProjectRead}

-- the answer words
pub data Word : Type 0 where
  settled : Word
  clash : Word
  refused : Word
  holds : Word
  rejected : Word
  none : Word
  overload : Word
  read : Word
  written : Word
  marked : Word

-- an answer: its word and its numbers
pub record Said : Type 0 where
  pub word : Word
  pub numbers : List ℕ

abbrev pub said : Word → List ℕ → Said
said w ns = record { word = w; numbers = ns }

-- narrowing's answers
abbrev pub says : Answer → Said
says (Answer.Settled n) = said Word.settled (n ∷ [])
says (Answer.Clash n j) = said Word.clash (n ∷ j ∷ [])
says (Answer.Refused k) = said Word.refused (k ∷ [])

-- the checker's answers
abbrev pub says_check : CheckAnswer → Said
says_check (CheckAnswer.Holds n) = said Word.holds (n ∷ [])
says_check (CheckAnswer.Clash n j) = said Word.clash (n ∷ j ∷ [])
says_check (CheckAnswer.Rejected i c) = said Word.rejected (i ∷ c ∷ [])
says_check (CheckAnswer.Refused k) = said Word.refused (k ∷ [])

-- the number of each refusal
abbrev pub number_of : Refusal → ℕ
number_of Refusal.Lengths = 1
number_of Refusal.Jobs = 2
number_of Refusal.Limit = 3
number_of Refusal.Room = 5
number_of Refusal.Claimed = 6
number_of Refusal.Ragged = 7
number_of Refusal.NoClash = 8
number_of Refusal.NoNumber = 30
number_of Refusal.AboveLimit = 31
number_of Refusal.Pairs = 32
number_of Refusal.Cycle = 33
number_of Refusal.Horizon = 34
number_of Refusal.Headings = 35
number_of Refusal.Buffer = 36
number_of Refusal.Resource = 37
number_of Refusal.Lists = 38

-- the number of the refusal, and 0 where there is none
abbrev pub refusal_number : Result Unit Refusal → ℕ
refusal_number (Ok u) = 0
refusal_number (Err r) = number_of r

-- the number of each code
abbrev pub code_number : Code → ℕ
code_number Code.Closed = 20
code_number Code.Range = 21
code_number Code.Partners = 22
code_number Code.Counted = 23
code_number Code.Exceeds = 24
code_number Code.Stated = 25
code_number Code.Tightens = 26
code_number Code.Lean = 27

-- the number of the code, and 0 where there is none
abbrev pub coded : Result Unit Code → ℕ
coded (Ok u) = 0
coded (Err c) = code_number c

-- a refusal, said
abbrev pub says_refused : Refusal → Said
says_refused r = said Word.refused (number_of r ∷ [])

-- the overload check's answers
abbrev pub says_overload : Result (Option Overload) Refusal → Said
says_overload (Ok None) = said Word.none []
says_overload (Ok (Some pair)) = said Word.overload (pair.a ∷ pair.b ∷ [])
says_overload (Err r) = says_refused r

-- a reader's answers
abbrev pub says_read : Result ProjectRead Refusal → Said
says_read (Ok text) = said Word.read (text.capacity ∷ text.pairs ∷ [])
says_read (Err r) = says_refused r

-- the writer's answers
abbrev pub says_write : Result ℕ Refusal → Said
says_write (Ok bytes) = said Word.written (bytes ∷ [])
says_write (Err r) = says_refused r

-- the answers of the call that names jobs
abbrev pub says_conflict : Result ℕ Refusal → Said
says_conflict (Ok m) = said Word.marked (m ∷ [])
says_conflict (Err r) = says_refused r
