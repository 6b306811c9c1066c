-- Lists of numbers read by place, and a fact asked of every element.
use Rattle.std.specs.Prelude.{ℕ, List, [], ◌∷◌, get_or}

infixl 90 ◌!◌
-- the number at place k, and 0 beyond the end
abbrev pub ◌!◌ : List ℕ → ℕ → ℕ
xs ! k = get_or xs k 0

-- P holds of each element
abbrev pub Every : {A : Type 0} → (A → Type 0) → List A → Type 0
Every P [] = Unit {0}
Every P (x ∷ xs) = P x × Every P xs
