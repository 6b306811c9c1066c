-- What the defined run looks for (document 02, Item 2): on side 0 the greatest bound that the rule gives, on side 1 the least latest end. A choice of side 0
-- is the new earliest start. A choice of side 1 is the new latest end plus the lead, which is the total p of all jobs: so bounds below zero are told apart.
use Rattle.std.specs.Prelude.{ℕ, ◌+◌, ◌-◌, Bool, true, false, not, List, leb, ltb, eqb}
use Rattle.std.proofs.Math.Option.{Option, none, some}
use Rattle.lists.specs.Lists.{◌!◌}
use Rattle.lists.specs.Tests.{both}
use Rattle.lists.specs.Sets.{Set}
use Rattle.lists.specs.Bounds.{lead, latest, soonest}
use Rattle.narrowing.specs.Windows.{Win, Side, early, late}
use Rattle.narrowing.specs.Search.{Search}

-- the test of `ComesFirst`
unfoldable pub comes_first : List ℕ → Win → ℕ → ℕ → Bool
comes_first p W j i =
    both (not (eqb j i)) (both (leb 1 (p ! j)) (both (leb 1 (p ! i)) (ltb (W.l ! j) (W.e ! i + p ! i + p ! j))))

-- the jobs that come before i, and those that i comes before
abbrev pub firsts : List ℕ → Win → ℕ → Set
firsts p W i k = comes_first p W k i

abbrev pub nexts : List ℕ → Win → ℕ → Set
nexts p W i k = comes_first p W i k

-- the bound that a choice stands for
unfoldable pub bound : ℕ → List ℕ → Side → ℕ → ℕ
unfolding lead
bound n p early c = c
bound n p late c = c - lead n p

-- i's greatest new earliest start, 0 where no job comes first; its least new latest end, plus the lead, and the present one where it comes before no job or no
-- set goes below it
abbrev pub early_bound : ℕ → List ℕ → Win → ℕ → ℕ
early_bound n p W i = latest n W.e p (firsts p W i) 0

abbrev pub late_bound : ℕ → List ℕ → Win → ℕ → ℕ
late_bound n p W i = soonest n W.l p (nexts p W i) (W.l ! i + lead n p)

-- b where the test passes
abbrev pub when : Bool → ℕ → Option ℕ
when true b = some b
when false b = none

-- the choice for a job's side, where it tightens
unfoldable pub detect : ℕ → List ℕ → Win → ℕ → Side → Option ℕ
unfolding latest soonest comes_first
detect n p W i early = let b = early_bound n p W i in when (ltb (W.e ! i) b) b
detect n p W i late = let c = late_bound n p W i in when (ltb c (W.l ! i + lead n p)) c

abbrev pub search : ℕ → List ℕ → Search
search n p = record { n = n; p = p; best = detect n p; bound = bound n p }
