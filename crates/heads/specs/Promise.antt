-- What the call of the read head promises (document 02, Items 2 and 3), of the submitted windows, the durations and what it leaves: it is a call of
-- narrowing by rules with numbers and without a log (`promises: Counted`), so the refusals, the answers and demands 2 and 3 are as there. A schedule is one
-- within the windows that lets no two jobs of positive duration overlap; the rules are the two of detectable precedences; starts are broken where two such
-- jobs overlap.
use Rattle.std.specs.Prelude.{ℕ, ◌≡◌, List, [], ◌∷◌}
use Rattle.lists.specs.Lists.{Every}
use Rattle.lists.specs.Sets.{Latest}
use Rattle.lists.specs.Bounds.{Soonest}
use Rattle.narrowing.specs.Windows.{Win, Side, early, late}
use Rattle.narrowing.specs.Search.{Move}
use Rattle.answers.specs.Said.{Word, said}
use Rattle.joblist.specs.Limits.{jobs, three_lists}
use Rattle.joblist.specs.GoodList.{GoodList}
use Rattle.promises.specs.Ask.{Ask}
pub use Rattle.promises.specs.Plain.{Left, left}
use Rattle.promises.specs.Counted.{without_log, left_by, Counts}
use Rattle.heads.specs.Precedences.{Overlap, Apart, Detects}
use Rattle.heads.specs.Search.{firsts, nexts, detect, bound, search}

-- the call as one of narrowing by rules: no list beside windows and durations, no number alone
abbrev pub head_ask : Win → List ℕ → Ask
head_ask W p = without_log W [] [] (search (jobs W) p) (Detects (jobs W) p) (Apart (jobs W) p) (Overlap (jobs W) p)

-- a good list of it
abbrev pub GoodHead : Win → List ℕ → Type 0
GoodHead W p = GoodList (jobs W) (three_lists W p) []

-- what the call answers and leaves
unfoldable pub sequenced : Win → List ℕ → Left
unfolding left_by detect bound
sequenced W p = left_by (head_ask W p)

-- the choice c for job i's side is the greatest value, over the non-empty sets of jobs that come before i, of least e plus total p; on side 1 the least value,
-- over those that i comes before, of greatest l less total p, as a signed number
abbrev pub FarthestChoice : ℕ → List ℕ → Win → ℕ → Side → ℕ → Type 0
FarthestChoice n p W i early c = Latest n W.e p (firsts p W i) c
FarthestChoice n p W i late c = Soonest n W.l p (nexts p W i) c

-- each move so, on the windows before it
abbrev pub Farthest : ℕ → List ℕ → List Move → Type 0
Farthest n p ms = Every (λ m. FarthestChoice n p m.before m.job m.side m.choice) ms

-- the contract
pub record Sequences (W : Win) (p : List ℕ) (a : Left) : Type 0 where
  pub counts : Counts (head_ask W p) a
  pub settled_farthest : (n : ℕ) (e : a.says ≡ said Word.settled (n ∷ [])) → Farthest (jobs W) p (counts.exactly.moves.settled n e).moves
  pub clash_farthest : (n j : ℕ) (e : a.says ≡ said Word.clash (n ∷ j ∷ [])) → Farthest (jobs W) p (counts.exactly.moves.clash n j e).moves
