-- The last and the first time of a stretch at which a function that is kept lies over a limit.
use Rattle.std.specs.Prelude.{ℕ, ◌<◌, List}
use Rattle.lists.specs.Extremes.{LastWith, FirstWith}
use Rattle.profile.specs.Keeps.{Keeps}
use Rattle.profile.specs.declared.kept.Outline.{Outline}

-- of each function that is kept, x tells the last time from a up to b at which it lies over the limit, if any
abbrev pub LastOver : List ℕ → List ℕ → Outline → ℕ → ℕ → ℕ → ℕ → Type 0
LastOver ts ld k limit a b x = (f : ℕ → ℕ) → Keeps f ts ld k → LastWith (λ t. limit < f t) a b x

-- x tells the first
abbrev pub FirstOver : List ℕ → List ℕ → Outline → ℕ → ℕ → ℕ → ℕ → Type 0
FirstOver ts ld k limit a b x = (f : ℕ → ℕ) → Keeps f ts ld k → FirstWith (λ t. limit < f t) a b x
