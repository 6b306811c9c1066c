-- What a turn of the read head's work says: on side 0 of the windows as the code holds them, and at a job's side.
use Rattle.std.specs.Prelude.{ℕ, ◌+◌, ◌≤◌, ◌<◌, ◌≡◌, true, false, List, length, set}
use Rattle.std.proofs.Math.Option.{none, some}
use Rattle.lists.specs.Lists.{◌!◌}
use Rattle.narrowing.specs.Windows.{Win, Side, early, moved, closes}
use Rattle.joblist.specs.Limits.{most_time}
use Rattle.heads.specs.Search.{bound, detect}
use Rattle.mirrors.specs.Back.{told}
use Rattle.ahead.specs.Ready.{Ready}
use Rattle.headturns.specs.declared.Turn.{Turn}
use Rattle.headturns.specs.declared.Turn.TheVariants.{Rests, Moved, Closed}

-- the lists of the work: the windows told from both ends, and the jobs by rising number of each
pub record HeadLists : Type 0 where
  pub starts : List ℕ
  pub ends : List ℕ
  pub fore : List ℕ
  pub rear : List ℕ

abbrev pub head_lists : List ℕ → List ℕ → List ℕ → List ℕ → HeadLists
head_lists starts ends fore rear = record { starts = starts; ends = ends; fore = fore; rear = rear }

abbrev pub windows : HeadLists → Win
windows A = told A.starts A.ends

-- they are ready for a search on either side
pub record Both (n : ℕ) (p : List ℕ) (A : HeadLists) : Type 0 where
  pub ahead : Ready n A.starts A.ends p A.fore
  pub behind : Ready n A.ends A.starts p A.rear

-- a turn on side 0: no rule applies; the job moves to b and keeps room for its p, and the order is kept; or it would have no room left
abbrev pub TurnOn : List ℕ → List ℕ → List ℕ → List ℕ → ℕ → List ℕ → List ℕ → Turn → Type 0
TurnOn starts ends p o j starts' o' Rests = (detect (length starts) p (told starts ends) j early ≡ none) × (starts' ≡ starts) × (o' ≡ o)
TurnOn starts ends p o j starts' o' Moved =
    (b : ℕ) × (detect (length starts) p (told starts ends) j early ≡ some b) × (b + p ! j + ends ! j ≤ most_time) × (starts' ≡ set starts j b) × Ready (length starts) starts' ends p o'
TurnOn starts ends p o j starts' o' Closed =
    (b : ℕ) × (detect (length starts) p (told starts ends) j early ≡ some b) × (most_time < b + p ! j + ends ! j) × (starts' ≡ starts) × (o' ≡ o)

-- the windows after job j's side s is moved by the choice c
abbrev pub then : ℕ → List ℕ → HeadLists → ℕ → Side → ℕ → Win
then n p A j s c = moved (windows A) j s (bound n p s c)

-- a turn at job j's side s; a move that would close the window is not made
abbrev pub TurnSays : ℕ → List ℕ → HeadLists → ℕ → Side → HeadLists → Turn → Type 0
TurnSays n p A j s B Rests = (detect n p (windows A) j s ≡ none) × (B ≡ A)
TurnSays n p A j s B Moved =
    (c : ℕ) × (detect n p (windows A) j s ≡ some c) × (windows B ≡ then n p A j s c) × (closes p (windows B) j ≡ false) × Both n p B
TurnSays n p A j s B Closed = (c : ℕ) × (detect n p (windows A) j s ≡ some c) × (closes p (then n p A j s c) j ≡ true) × (B ≡ A)
