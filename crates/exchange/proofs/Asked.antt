-- Calls and refusals by name, and the first two tests of a call: the horizon, and what the text meets.
use Prim.Native.Nat.{ℕ, zero, suc, ◌≤◌, ◌<◌}
use mathlib.Core.Path.{◌≡◌, refl, sym, subst}
use mathlib.Core.List.{[], ◌∷◌}
use mathlib.Core.Logic.{inl, inr}
use Rattle.answers.specs.Said.{Word, said}
use Rattle.joblist.specs.Limits.{most_time}
use Rattle.texts.specs.Readings.{Read, bad}
use Rattle.projects.specs.Projects.{Project}
use Rattle.exchange.specs.Calls.{Lent, TextCall, TextAfter}
use Rattle.exchange.specs.Tests.{Met, Refusal}
use Rattle.exchange.specs.Table.{Answered}

-- a call on a text
abbrev pub asked : Read Project → ℕ → ℕ → Lent → TextCall
asked r res h L = record { text = r; resource = res; horizon = h; lent = L }

-- a refusal, every lent word as it was
abbrev pub refused : Lent → ℕ → TextAfter
refused L k = record { says = said Word.refused (k ∷ []); lent = L }

module _ (t : Read Project) (res h : ℕ) (L : Lent) where
  -- the number of the refusal is the answer
  pub answer : (k : ℕ) → Refusal (asked t res h L) (suc k) → Answered (asked t res h L) (refused L (suc k))
  answer k q = record { number = suc k; refusal = q; leaves = refl }

  pub far : most_time < h → Answered (asked t res h L) (refused L 31)
  far b = answer 30 (inl (b, refl))

  module _ (near : h ≤ most_time) where
    pub broken : (d : ℕ) → t ≡ bad d → (d ≡ 0 → ⊥) → Answered (asked t res h L) (refused L d)
    broken zero e f = absurd (f refl)
    broken (suc d) e f = answer d (inr (near, subst (λ (r : Read Project). Met r res h L (suc d)) (sym e) refl))
