-- Log records (document 01, 'Log records'; document 02, Item 10): the layout of a record's words in this one place, the room of a log, whether whole records
-- fill it, and what a log holds.
use Rattle.std.specs.Prelude.{ℕ, zero, suc, ◌+◌, ◌*◌, ◌/◌, ◌%◌, ◌≡◌, Bool, true, false, cond, List, [], ◌∷◌, ◌++◌, length, take, drop, replicate, eqb, ltb}
use Rattle.lists.specs.Lists.{◌!◌, Every}
use Rattle.members.specs.Members.{set_words, has, ones_of}

-- the places of the words before the member set, and their number
abbrev pub job_word : ℕ
job_word = 0

abbrev pub side_word : ℕ
side_word = 1

abbrev pub time_word : ℕ
time_word = 2

abbrev pub count_word : ℕ
count_word = 3

abbrev pub head_words : ℕ
head_words = 4

-- the words of a record: the head, then the member set
abbrev pub record_words : ℕ
record_words = head_words + set_words

-- job, side, time, the number of ones in the member set, the set
abbrev pub in_words : ℕ → ℕ → ℕ → List ℕ → List ℕ
in_words job side time set = job ∷ side ∷ time ∷ ones_of set ∷ set

-- the member set of a record
abbrev pub set_of_record : List ℕ → List ℕ
set_of_record x = drop head_words x

-- a record's job and time; whether k is among its members
abbrev pub job_of : List ℕ → ℕ
job_of x = x ! job_word

abbrev pub time_of : List ℕ → ℕ
time_of x = x ! time_word

abbrev pub is_member : List ℕ → ℕ → Bool
is_member x = has (set_of_record x)

-- the whole records that a log can hold, whatever the remainder
unfoldable pub room_of : List ℕ → ℕ
room_of log = length log / record_words

-- its length is a whole multiple of a record's: there is a number of records that fills it (0, for a log of no words); any other log is ragged
abbrev pub WholeRecords : List ℕ → Type 0
WholeRecords log = (m : ℕ) × (length log ≡ record_words * m)

abbrev pub Ragged : List ℕ → Type 0
Ragged log = WholeRecords log → ⊥

-- the same as a test: no word is left over
unfoldable pub is_whole : List ℕ → Bool
is_whole log = eqb (length log % record_words) 0

abbrev pub part : Bool → List ℕ → List ℕ
part true x = x
part false x = []

-- record k, and no words where the log ends before them
unfoldable pub record_at : List ℕ → ℕ → List ℕ
unfolding room_of
record_at log k = part (ltb k (room_of log)) (take record_words (drop (record_words * k) log))

-- the first so many records of a log
unfoldable pub records : List ℕ → ℕ → ℕ → List (List ℕ)
unfolding record_at
records log k zero = []
records log k (suc m) = record_at log k ∷ records log (suc k) m

-- the words of records one after the other
unfoldable pub flat : List (List ℕ) → List ℕ
flat [] = []
flat (x ∷ xs) = x ++ flat xs

-- each of them has a record's number of words
abbrev pub AreRecords : List (List ℕ) → Type 0
AreRecords rs = Every (λ x. length x ≡ record_words) rs

-- the records first, the rest as before
unfoldable pub logged : List (List ℕ) → List ℕ → List ℕ
unfolding flat
logged rs log = flat rs ++ drop (length (flat rs)) log

-- record k written anew, the rest as before; a log that ends before it stays
unfoldable pub rewritten : List ℕ → ℕ → List ℕ → List ℕ
unfolding room_of
rewritten log k x = cond (ltb k (room_of log)) (take (record_words * k) log ++ x ++ drop (record_words * suc k) log) log

-- every word 0
unfoldable pub cleared : List ℕ → List ℕ
cleared log = replicate (length log) 0
