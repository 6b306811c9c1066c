-- Two results that meet narrowing's contract are equal, over any rules: word for word, and as Rattle values with every word of the lent lists.
use mathlib.Core.Path.{◌≡◌, sym, ap, ◌∙◌}
use mathlib.Core.List.{List}
use Prim.Native.Nat.{ℕ}
use Rattle.narrowing.specs.Windows.{win}
use Rattle.answers.specs.declared.Answer.{Answer}
use Rattle.answers.specs.Said.{says}
use Rattle.answers.proofs.Same.{says_same}
use Rattle.promises.specs.Ask.{Ask}
use Rattle.promises.specs.Table.{After, leaves}
use Rattle.promises.specs.Promise.{Narrows}

pub narrows_same : (A : Ask) (a b : After) → Narrows A a → Narrows A b → a ≡ b
narrows_same A a b f g = f.answered ∙ sym g.answered

pub results_same : (A : Ask) (r q : Answer) (e l log e' l' log' : List ℕ) → Narrows A (leaves (says r) (win e l) log) → Narrows A (leaves (says q) (win e' l') log')
    → (r ≡ q) × (e ≡ e') × (l ≡ l') × (log ≡ log')
results_same A r q e l log e' l' log' f g =
    let h = narrows_same A _ _ f g in (
      says_same r q (ap (λ (x : After). x.says) h),
      ap (λ (x : After). x.win.e) h,
      ap (λ (x : After). x.win.l) h,
      ap (λ (x : After). x.log) h,
    )
