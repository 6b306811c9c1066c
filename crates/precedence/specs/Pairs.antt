-- The pairs of a text, met one by one along its rows.
use Rattle.std.specs.Prelude.{ℕ, ◌<◌, ◌≡◌, List, [], ◌∷◌, length, drop, Option, Some, None}
use Rattle.std.proofs.Common.{arith}
use Rattle.chains.specs.Paths.{Pair, pair}
use Rattle.texts.specs.Tokens.{Token, tokens}
use Rattle.texts.specs.Readings.{Read, good}
use Rattle.rowheads.specs.declared.Table.{Table}
use Rattle.walking.specs.declared.Walk.{Walk}
use Rattle.walking.specs.Walk.{Fit, Further}
use Rattle.walking.specs.Comes.{comes}
use Rattle.passes.specs.Rounds.{Drawn}
use Rattle.precedence.specs.declared.text_pairs.TextPairs.{TextPairs}

-- the next pair and the walk behind it, or none
abbrev pub PullSays : ℕ → Table → List ℕ → Walk → Option (ℕ × ℕ) → Walk → Type 0
PullSays n table s w (Some p) u =
    ((ps : List Pair) (end : List Token) → comes n table s w ≡ good ps end → (rest : List Pair) × (ps ≡ pair p.0 p.1 ∷ rest) × (comes n table s u ≡ good rest end))
    × Fit n u × Further s w u × (p.0 < n) × (p.1 < n)
PullSays n table s w None u = (ps : List Pair) (end : List Token) → comes n table s w ≡ good ps end → ps ≡ []

-- the reading of the pairs still to come, and how many tokens are left
abbrev pub coming : TextPairs → Read (List Pair)
coming s = comes s.n s.table s.text.now s.walk

abbrev pub left : TextPairs → ℕ
left s = length (tokens (drop s.walk.at s.text.now))

-- the next pair of the text, which stays
pub record Pulled (s : TextPairs) (r : Option (ℕ × ℕ)) (t : TextPairs) : Type 0 where
  pub says : PullSays s.n s.table s.text.now s.walk r t.walk
  pub jobs : t.n ≡ s.n
  pub table : t.table ≡ s.table
  pub text : t.text.now ≡ s.text.now

-- here, since a source file's `ghost use` takes from its own crate's specs alone
pub pulled_draws : (s : TextPairs) (r : Option (ℕ × ℕ)) (t : TextPairs) → Pulled s r t → Drawn (coming s) r (coming t)
pulled_draws s (Some p) t h = rw (h.jobs, h.table, h.text) (h.says.0, omega (arith, h.says.3, s.few), omega (arith, h.says.4, s.few))
pulled_draws s None t h = h.says
