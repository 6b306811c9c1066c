-- What the defined run looks for and writes (document 01, 'Order of work' and 'Log records'): side 0 at the greatest crowded time, side 1 at
-- the least; and the record of a move, which names no member that it can do without (document 02, Item 7).
use Rattle.std.specs.Prelude.{ℕ, ◌+◌, ◌-◌, ◌≤◌, ◌<◌, ◌≡◌, Bool, not, List, ltb, leb, eqb}
use Rattle.std.proofs.Math.Option.{Option}
use Rattle.lists.specs.Lists.{◌!◌}
use Rattle.lists.specs.Tests.{both}
use Rattle.lists.specs.Extremes.{greatest, least}
use Rattle.lists.specs.Sets.{Set}
use Rattle.lists.specs.Spares.{leaned}
use Rattle.narrowing.specs.Windows.{Win, Side, early, late, number}
use Rattle.narrowing.specs.Search.{Search, Move}
use Rattle.members.specs.Members.{set_words, setOf}
use Rattle.journal.specs.Journal.{in_words}
use Rattle.timetable.specs.Time.{Jobs, Sure, sure, load, bound}

-- the test of `Crowded`
unfoldable pub crowded : Jobs → Win → ℕ → ℕ → Bool
unfolding load
crowded J W j t = both (leb 1 (J.p ! j)) (both (leb 1 (J.r ! j)) (ltb J.cap (load J W j t + J.r ! j)))

-- side 0: the greatest crowded t with e ≤ t < e + p; side 1: the least with l - p ≤ t < l, where l is p or more, as in windows that are long enough (below
-- that l - p stops at 0)
unfoldable pub best : Jobs → Win → ℕ → Side → Option ℕ
unfolding crowded greatest least
best J W j early = greatest (crowded J W j) (W.e ! j) (J.p ! j)
best J W j late = least (crowded J W j) (W.l ! j - J.p ! j) (J.p ! j)

abbrev pub search : Jobs → Search
search J = record { n = J.n; p = J.p; best = best J; bound = bound }

-- whom a writer names in a record of job j at time t
abbrev pub Names : Type 0
Names = Jobs → Win → ℕ → ℕ → Set

-- a member as 01 names them: another job of the list with r ≥ 1 whose sure part holds t
pub record Member (J : Jobs) (W : Win) (j t k : ℕ) : Type 0 where
  pub listed : k < J.n
  pub other : k ≡ j → ⊥
  pub takes : 1 ≤ J.r ! k
  pub sure_there : Sure J.p W k t

-- the test of `Member`
unfoldable pub member : Names
unfolding sure
member J W j t k = both (ltb k J.n) (both (not (eqb k j)) (both (leb 1 (J.r ! k)) (sure J.p W k t)))

-- those that the writer names: going through them by rising number, each one without whom the demands named, members' and moved job's together, still
-- exceed the capacity is dropped
unfoldable pub lean_member : Names
unfolding leaned member
lean_member J W j t = leaned J.n J.r (J.r ! j) J.cap (member J W j t)

-- the record of a move: its job, side, time and those named
unfoldable pub naming : Names → Jobs → Move → List ℕ
unfolding setOf
naming M J m = in_words m.job (number m.side) m.choice (setOf set_words (M J m.before m.job m.choice))

-- the writer's
abbrev pub entry : Jobs → Move → List ℕ
entry = naming lean_member
