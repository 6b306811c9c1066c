-- A call of the writer (document 02, Item 13) and what it leaves: its tests in facts and in their order, its answer table, and its promise.
use Rattle.std.specs.Prelude.{ℕ, zero, suc, ◌≤◌, ◌<◌, ◌≡◌, List, [], ◌∷◌, ◌++◌, length, drop, take}
use Rattle.lists.specs.Lists.{◌!◌, Every}
use Rattle.answers.specs.Said.{Word, Said, said}
use Rattle.joblist.specs.Limits.{Column, most_time, most_jobs, two_lists, supply}
use Rattle.joblist.specs.GoodList.{Sized, Within, Any, Above, Unequal}
use Rattle.chains.specs.Paths.{Pair, Precedes, Cycle, Longer, weight}
use Rattle.chains.specs.Listed.{paired, Rising, NotRising}
use Rattle.texts.specs.Readings.{good}
use Rattle.projects.specs.Projects.{Project, pairs_of, durations, demands_on}
use Rattle.projects.specs.Patterson.{patterson}
use Rattle.projects.specs.Form.{project_text}
use Rattle.projects.specs.Made.{made}
use Rattle.exchange.specs.Calls.{Lent, TextCall, TextAfter}
use Rattle.exchange.specs.Tests.{Fitting, Unless, None}
use Rattle.exchange.specs.Promise.{Reads}

-- one resource's capacity, durations, demands, jobs and successors of the pairs, and the lent buffer
pub record WriteCall : Type 0 where
  pub cap : ℕ
  pub dur : List ℕ
  pub dem : List ℕ
  pub jobs : List ℕ
  pub successors : List ℕ
  pub buffer : List ℕ

-- the answer, and the buffer
pub record WriteAfter : Type 0 where
  pub says : Said
  pub buffer : List ℕ

-- the pairs in the call's lists
abbrev pub pairs_in : WriteCall → List Pair
pairs_in c = paired c.jobs c.successors

-- the bytes to be written: the project that the lists say, in the form of document 01
abbrev pub text_of : WriteCall → List ℕ
text_of c = project_text (made c.cap c.dur c.dem (pairs_in c))

-- the lists, and the number that stands beside them
abbrev pub write_columns : WriteCall → List Column
write_columns c = two_lists c.dur c.dem

abbrev pub alone : WriteCall → List Column
alone c = supply c.cap

-- behind tests 1 to 3: the pairs' lists differ in length; a pair is out of range or out of order; there is a cycle; the buffer is too short
abbrev pub PairsTested : WriteCall → ℕ → Type 0
PairsTested c =
    Unless 1 (length c.successors ≡ length c.jobs) (length c.successors ≡ length c.jobs → ⊥)
    (Unless 32 (Rising (length c.dur) c.jobs c.successors) (NotRising (length c.dur) c.jobs c.successors)
    (Unless 33 (Cycle (Precedes (pairs_in c)) → ⊥) (Cycle (Precedes (pairs_in c)))
    (Unless 36 (length (text_of c) ≤ length c.buffer) (length c.buffer < length (text_of c)) None)))

-- the number of the first test that fails, and 0 where none does
abbrev pub WriteRefusal : WriteCall → ℕ → Type 0
WriteRefusal c =
    Unless 1 (Every (Sized (length c.dur)) (write_columns c)) (Unequal (length c.dur) (write_columns c))
    (Unless 2 (length c.dur ≤ most_jobs) (most_jobs < length c.dur)
    (Unless 3 (Every Within (write_columns c) × Every Within (alone c)) (Any Above (write_columns c ++ alone c))
    (PairsTested c)))

-- by the number of the refusal: the bytes in front and how many they are said, those beyond as they were; or that number, and the buffer as it was
abbrev pub write_leaves : WriteCall → ℕ → WriteAfter
write_leaves c zero = record { says = said Word.written (length (text_of c) ∷ []); buffer = text_of c ++ drop (length (text_of c)) c.buffer }
write_leaves c (suc k) = record { says = said Word.refused (suc k ∷ []); buffer = c.buffer }

-- the answer table
pub record WriteAnswered (c : WriteCall) (a : WriteAfter) : Type 0 where
  pub number : ℕ
  pub refusal : WriteRefusal c number
  pub leaves : a ≡ write_leaves c number

-- a project that says what the call was given
pub record SaysSame (c : WriteCall) (x : Project) : Type 0 where
  pub capacity : x.capacities ≡ c.cap ∷ []
  pub durations : durations x.rows ≡ c.dur
  pub demands : demands_on 0 x.rows ≡ c.dem
  pub pairs : pairs_of x ≡ pairs_in c

-- the text in front of the buffer, by the number of bytes that is said
abbrev pub text_left : WriteAfter → List ℕ
text_left a = take (a.says.numbers ! 0) a.buffer

-- what a reader of such a text gives back, L being the lists that were lent: the same capacity, durations, demands and pairs
pub record GivenBack (c : WriteCall) (L : Lent) (b : TextAfter) : Type 0 where
  pub says : b.says ≡ said Word.read (c.cap ∷ length c.jobs ∷ [])
  pub dur : b.lent.dur ≡ c.dur
  pub dem : b.lent.dem ≡ c.dem
  pub jobs : b.lent.jobs ≡ c.jobs ++ drop (length c.jobs) L.jobs
  pub successors : b.lent.successors ≡ c.successors ++ drop (length c.jobs) L.successors

-- a call of Item 1's reader on the text that is left, for its one resource
abbrev pub read_again : WriteAfter → ℕ → Lent → TextCall
read_again a horizon L = record { text = patterson (text_left a); resource = 0; horizon = horizon; lent = L }

-- when such a text is read: the horizon is within its limit and no shorter than the longest chain, and the lent lists fit
abbrev pub TakenAgain : WriteCall → ℕ → Lent → Type 0
TakenAgain c horizon L =
    (horizon ≤ most_time)
    × Fitting (length c.dur) (length c.jobs) (length L.est) (length L.lct) (length L.dur) (length L.dem) (length L.jobs) (length L.successors)
    × (Longer (Precedes (pairs_in c)) (length c.dur) (weight c.dur) horizon → ⊥)

-- the contract of the writer; the answer table itself is in facts, and the other fields tie the text to the reader
pub record Writes (c : WriteCall) (a : WriteAfter) : Type 0 where
  pub answered : WriteAnswered c a
  -- what is written is a text of the Patterson layout that says the same
  pub readable : a.says.word ≡ Word.written → (x : Project) × (patterson (text_left a) ≡ good x []) × SaysSame c x
  -- and Item 1's reader, with any horizon that it takes, gives back the same
  pub back : a.says.word ≡ Word.written → (horizon : ℕ) (L : Lent) (b : TextAfter) → Reads (read_again a horizon L) b → b.says.word ≡ Word.read → GivenBack c L b
