-- Two results that meet time-tabling's contract are equal, word for word, and as Rattle values with every word of the three lists; the fields `exactly` and
-- `reasons` alone make them so.
use Prim.Native.Nat.{ℕ}
use mathlib.Core.Path.{◌≡◌}
use mathlib.Core.List.{List}
use Rattle.narrowing.specs.Windows.{win}
use Rattle.answers.specs.declared.Answer.{Answer}
use Rattle.answers.specs.Said.{says}
use Rattle.promises.proofs.Same as general
use Rattle.promises.proofs.Firm as firm
use Rattle.timetable.specs.Table.{Call, asks, After, leaves, narrowed, narrowed_by}
use Rattle.timetable.specs.Reasons.{Reasons}
use Rattle.timetable.specs.Promise.{Exactly, Narrows}
use Rattle.timetable.proofs.Meaning.{grounds, by_rules}

pub narrows_same : (c : Call) (a b : After) → Narrows c a → Narrows c b → a ≡ b
narrows_same c a b f g = general.narrows_same (asks c) a b (by_rules c a f) (by_rules c b g)

pub results_same : (c : Call) (r q : Answer) (e l log e' l' log' : List ℕ) → Narrows c (leaves (says r) (win e l) log) → Narrows c (leaves (says q) (win e' l') log')
    → (r ≡ q) × (e ≡ e') × (l ≡ l') × (log ≡ log')
results_same c r q e l log e' l' log' f g = general.results_same (asks c) r q e l log e' l' log' (by_rules c _ f) (by_rules c _ g)

-- what meets `exactly` and `reasons` is what the answer table says, in every word
pub fields_answer : (c : Call) (a : After) → Exactly c a → Reasons c a → a ≡ narrowed c
unfolding narrowed_by
fields_answer c a e r = firm.fields_answer (asks c) (grounds c) a e r
