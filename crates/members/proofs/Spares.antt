-- Spare members of a set in words, whatever their number: the words exceed a limit, and have no spare member, where the members given do.
use Prim.Native.Nat.{ℕ, ◌*◌, ◌≤◌, ◌<◌}
use native.Mathlib.Omega.{arith}
use mathlib.Core.Path.{◌≡◌}
use mathlib.Core.List.{List}
use Rattle.lists.specs.Sets.{Set}
use Rattle.lists.specs.Spares.{amount, NoneSpare}
use Rattle.lists.proofs.Spares.{exceeds_as, none_spare_as}
use Rattle.members.specs.Members.{has, setOf}
use Rattle.members.proofs.Sets.{has_set_of, has_given}

module _ (w n : ℕ) (r : List ℕ) (own limit : ℕ) (f : Set) (few : n ≤ 32 * w) where
  in_words : (k : ℕ) → k < n → has (setOf w f) k ≡ f k
  in_words k b = has_set_of w f k (omega arith)

  pub words_exceed : limit < amount n r own f → limit < amount n r own (has (setOf w f))
  words_exceed = exceeds_as n r own limit f (has (setOf w f)) in_words

  pub words_none_spare : NoneSpare n r own limit f → NoneSpare n r own limit (has (setOf w f))
  words_none_spare = none_spare_as n r own limit f (has (setOf w f)) in_words (has_given w f)
