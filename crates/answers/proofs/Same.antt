-- Two answers that say the same are the same Rattle value: each is read back from what it says. And the words are apart.
use Prim.Native.Nat.{ℕ}
use native.Mathlib.Omega.{arith}
use native.Mathlib.Decide.{ℕ_discrete}
use mathlib.Core.Path.{◌≡◌, refl, sym, ap, ◌∙◌}
use mathlib.Core.Bool.{Bool, cond}
use mathlib.Core.List.{List, [], ◌∷◌}
use mathlib.Core.Logic.{◌⊎◌, inl, inr}
use lib.ListN.{get_or}
use lib.Dec.{eqb}
use Rattle.lists.specs.Lists.{◌!◌}
use Rattle.answers.specs.declared.Answer.{Answer}
use Rattle.answers.specs.declared.CheckAnswer.{CheckAnswer}
use Rattle.std.specs.Prelude.{Option, Some, None, Result, Ok, Err}
use Rattle.answers.specs.declared.reasons.Refusal.{Refusal}
use Rattle.answers.specs.declared.Overload.{Overload}
use Rattle.answers.specs.declared.ProjectRead.{ProjectRead}
use Rattle.answers.specs.declared.Conflict.{Conflict}
use Rattle.answers.specs.Said.{Word, Said, said, says, says_check, says_overload, says_read, says_write, says_conflict, number_of}

-- the words told apart by numbers
abbrev pub told : Word → ℕ
told Word.settled = 0
told Word.clash = 1
told Word.refused = 2
told Word.holds = 3
told Word.rejected = 4
told Word.none = 5
told Word.overload = 6
told Word.read = 7
told Word.written = 8
told Word.marked = 9

pub not_said : (v w : Word) → (told v ≡ told w → ⊥) → v ≡ w → ⊥
not_said v w f e = f (ap (λ (x : Word). told x) e)

pub said_apart : {A : Type 0} (v w : Word) (ns ms : List ℕ) → (told v ≡ told w → ⊥) → said v ns ≡ said w ms → A
said_apart v w ns ms f e = absurd (not_said v w f (ap (λ (x : Said). x.word) e))

-- and read back from them, so that two words are one or they are not
worded : ℕ → Word
worded n =
    get_or
    (Word.settled ∷ Word.clash ∷ Word.refused ∷ Word.holds ∷ Word.rejected ∷ Word.none ∷ Word.overload ∷ Word.read ∷ Word.written ∷ Word.marked ∷ []) n Word.settled

worded_told : (w : Word) → worded (told w) ≡ w
unfolding worded
worded_told Word.settled = refl
worded_told Word.clash = refl
worded_told Word.refused = refl
worded_told Word.holds = refl
worded_told Word.rejected = refl
worded_told Word.none = refl
worded_told Word.overload = refl
worded_told Word.read = refl
worded_told Word.written = refl
worded_told Word.marked = refl

pub word_discrete : (v w : Word) → Dec (v ≡ w)
word_discrete v w =
    elim (ℕ_discrete (told v) (told w)) [ yes e ↦ yes (sym (worded_told v) ∙ ap worded e ∙ worded_told w) | no d ↦ no (not_said v w d) ]

-- settled or clash is no refusal
pub not_refused : (w : Word) → (w ≡ Word.settled) ⊎ (w ≡ Word.clash) → w ≡ Word.refused → ⊥
not_refused w (inl x) e = not_said Word.settled Word.refused (λ z. omega arith) (sym x ∙ e)
not_refused w (inr x) e = not_said Word.clash Word.refused (λ z. omega arith) (sym x ∙ e)

-- what can be read back is the same where what is said is
read_back : {A : Type 0} (say : A → Said) (heard : Said → A) → ((a : A) → heard (say a) ≡ a) → (a b : A) → say a ≡ say b → a ≡ b
read_back say heard back a b h = sym (back a) ∙ ap heard h ∙ back b

-- an answer has the word w
abbrev is : Said → Word → Bool
is s w = eqb (told s.word) (told w)

abbrev heard_of : Said → Answer
heard_of s =
    cond (is s Word.settled) (Answer.Settled (s.numbers ! 0))
    (cond (is s Word.clash) (Answer.Clash (s.numbers ! 0) (s.numbers ! 1)) (Answer.Refused (s.numbers ! 0)))

heard_says : (a : Answer) → heard_of (says a) ≡ a
heard_says (Answer.Settled n) = refl
heard_says (Answer.Clash n j) = refl
heard_says (Answer.Refused k) = refl

pub says_same : (a b : Answer) → says a ≡ says b → a ≡ b
says_same = read_back says heard_of heard_says

abbrev heard_check : Said → CheckAnswer
heard_check s =
    cond (is s Word.holds) (CheckAnswer.Holds (s.numbers ! 0))
    (cond (is s Word.clash) (CheckAnswer.Clash (s.numbers ! 0) (s.numbers ! 1))
    (cond (is s Word.rejected) (CheckAnswer.Rejected (s.numbers ! 0) (s.numbers ! 1)) (CheckAnswer.Refused (s.numbers ! 0))))

heard_check_lem : (a : CheckAnswer) → heard_check (says_check a) ≡ a
heard_check_lem (CheckAnswer.Holds n) = refl
heard_check_lem (CheckAnswer.Clash n j) = refl
heard_check_lem (CheckAnswer.Rejected i c) = refl
heard_check_lem (CheckAnswer.Refused k) = refl

pub check_same : (a b : CheckAnswer) → says_check a ≡ says_check b → a ≡ b
check_same = read_back says_check heard_check heard_check_lem

-- the refusal of a number
abbrev refusal_at : ℕ → Refusal
refusal_at n =
    cond (eqb n 1) Refusal.Lengths
    (cond (eqb n 2) Refusal.Jobs
    (cond (eqb n 3) Refusal.Limit
    (cond (eqb n 5) Refusal.Room
    (cond (eqb n 6) Refusal.Claimed
    (cond (eqb n 7) Refusal.Ragged
    (cond (eqb n 8) Refusal.NoClash
    (cond (eqb n 30) Refusal.NoNumber
    (cond (eqb n 31) Refusal.AboveLimit
    (cond (eqb n 32) Refusal.Pairs
    (cond (eqb n 33) Refusal.Cycle
    (cond (eqb n 34) Refusal.Horizon
    (cond (eqb n 35) Refusal.Headings
    (cond (eqb n 36) Refusal.Buffer
    (cond (eqb n 37) Refusal.Resource Refusal.Lists))))))))))))))

refusal_at_lem : (r : Refusal) → refusal_at (number_of r) ≡ r
refusal_at_lem Refusal.Lengths = refl
refusal_at_lem Refusal.Jobs = refl
refusal_at_lem Refusal.Limit = refl
refusal_at_lem Refusal.Room = refl
refusal_at_lem Refusal.Claimed = refl
refusal_at_lem Refusal.Ragged = refl
refusal_at_lem Refusal.NoClash = refl
refusal_at_lem Refusal.NoNumber = refl
refusal_at_lem Refusal.AboveLimit = refl
refusal_at_lem Refusal.Pairs = refl
refusal_at_lem Refusal.Cycle = refl
refusal_at_lem Refusal.Horizon = refl
refusal_at_lem Refusal.Headings = refl
refusal_at_lem Refusal.Buffer = refl
refusal_at_lem Refusal.Resource = refl
refusal_at_lem Refusal.Lists = refl

-- two refusals of one number are the same
pub refusals_same : (r q : Refusal) → number_of r ≡ number_of q → r ≡ q
refusals_same r q e = sym (refusal_at_lem r) ∙ ap refusal_at e ∙ refusal_at_lem q

-- a result read back: where it has the word w, what stands behind it, else the refusal of its number
abbrev heard_result : {A : Type 0} → Word → (List ℕ → A) → Said → Result A Refusal
heard_result w good s = cond (is s w) (Ok (good s.numbers)) (Err (refusal_at (s.numbers ! 0)))

abbrev heard_overload : Said → Result (Option Overload) Refusal
heard_overload s = cond (is s Word.none) (Ok None) (heard_result Word.overload (λ ns. Some (record { a = ns ! 0; b = ns ! 1 })) s)

heard_overload_lem : (a : Result (Option Overload) Refusal) → heard_overload (says_overload a) ≡ a
heard_overload_lem (Ok None) = refl
heard_overload_lem (Ok (Some pair)) = refl
heard_overload_lem (Err r) = ap Err (refusal_at_lem r)

pub overload_same : (a b : Result (Option Overload) Refusal) → says_overload a ≡ says_overload b → a ≡ b
overload_same = read_back says_overload heard_overload heard_overload_lem

abbrev heard_read : Said → Result ProjectRead Refusal
heard_read = heard_result Word.read (λ ns. record { capacity = ns ! 0; pairs = ns ! 1 })

heard_read_lem : (a : Result ProjectRead Refusal) → heard_read (says_read a) ≡ a
heard_read_lem (Ok text) = refl
heard_read_lem (Err r) = ap Err (refusal_at_lem r)

pub read_same : (a b : Result ProjectRead Refusal) → says_read a ≡ says_read b → a ≡ b
read_same = read_back says_read heard_read heard_read_lem

abbrev heard_write : Said → Result ℕ Refusal
heard_write = heard_result Word.written (λ ns. ns ! 0)

heard_write_lem : (a : Result ℕ Refusal) → heard_write (says_write a) ≡ a
heard_write_lem (Ok bytes) = refl
heard_write_lem (Err r) = ap Err (refusal_at_lem r)

pub write_same : (a b : Result ℕ Refusal) → says_write a ≡ says_write b → a ≡ b
write_same = read_back says_write heard_write heard_write_lem

abbrev heard_conflict : Said → Result ℕ Refusal
heard_conflict = heard_result Word.marked (λ ns. ns ! 0)

heard_conflict_lem : (a : Result ℕ Refusal) → heard_conflict (says_conflict a) ≡ a
heard_conflict_lem (Ok m) = refl
heard_conflict_lem (Err r) = ap Err (refusal_at_lem r)

pub conflict_same : (a b : Result ℕ Refusal) → says_conflict a ≡ says_conflict b → a ≡ b
conflict_same = read_back says_conflict heard_conflict heard_conflict_lem

-- with the set beside it
pub marks_same : (r q : Conflict) → says_conflict r.answer ≡ says_conflict q.answer → r.set ≡ q.set → r ≡ q
marks_same r q e f = let h = conflict_same r.answer q.answer e in rw (h, f)
