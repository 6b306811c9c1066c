-- Whole calls on small texts: whatever meets the contract of the reader gives these answers and leaves these lists. A text stands in the line above its
-- bytes.
use Prim.Native.Nat.{ℕ, suc}
use native.Mathlib.Omega.{arith}
use mathlib.Core.Path.{◌≡◌, refl}
use mathlib.Core.List.{List, [], ◌∷◌}
use mathlib.Core.Logic.{inl, inr}
use borrow.Author.Tests.{leb-true}
use Rattle.lists.specs.Tests.{every}
use Rattle.answers.specs.Said.{Word, said}
use Rattle.joblist.specs.Limits.{most_time}
use Rattle.chains.specs.Passes.{longest, acyclic?}
use Rattle.texts.specs.Readings.{good}
use Rattle.projects.specs.Projects.{Project, pairs_from, WithinLimits}
use Rattle.projects.specs.Patterson.{patterson}
use Rattle.parsing.proofs.Limits.{patterson_takes}
use Rattle.exchange.specs.Calls.{Lent, TextAfter}
use Rattle.exchange.specs.Tests.{ListsFit}
use Rattle.exchange.specs.Promise.{Reads}
use Rattle.exchange.proofs.Asked.{asked, refused, far, broken}
use Rattle.exchange.proofs.One.{answered_one}
use Rattle.exchange.proofs.Computed.{by_number, by_33, by_34, by_reading}

-- what such a text says is within the limits
limits : (s : List ℕ) (x : Project) → patterson s ≡ good x [] → WithinLimits x
limits s x e = (patterson_takes s [] x e).within

-- three jobs on two resources, 0 before 1 and 2, 1 before 2; the lists of pairs have room for 5 and 4: `3 2\n5 9\n2 1 0 2 2 3\n4 2 7 1 3\n3 1 0 0\n`
abbrev three : List ℕ
three = 51 ∷ 32 ∷ 50 ∷ 10 ∷ 53 ∷ 32 ∷ 57 ∷ 10 ∷ 50 ∷ 32 ∷ 49 ∷ 32 ∷ 48 ∷ 32 ∷ 50 ∷ 32 ∷ 50 ∷ 32 ∷ 51 ∷ 10 ∷ 52 ∷ 32 ∷ 50 ∷ 32 ∷ 55 ∷ 32 ∷ 49 ∷ 32 ∷ 51 ∷ 10 ∷ 51 ∷ 32 ∷ 49 ∷ 32 ∷ 48 ∷ 32 ∷ 48 ∷ 10 ∷ []

abbrev three_says : Project
three_says = record { capacities = 5 ∷ 9 ∷ []; rows = record { duration = 2; demands = 1 ∷ 0 ∷ []; successors = 1 ∷ 2 ∷ [] } ∷ record { duration = 4; demands = 2 ∷ 7 ∷ []; successors = 2 ∷ [] } ∷ record { duration = 3; demands = 1 ∷ 0 ∷ []; successors = [] } ∷ [] }

three_is : patterson three ≡ good three_says []
unfolding patterson
three_is = refl

abbrev three_lent : Lent
three_lent = record { est = 91 ∷ 92 ∷ 93 ∷ []; lct = 94 ∷ 95 ∷ 96 ∷ []; dur = 97 ∷ 98 ∷ 99 ∷ []; dem = 81 ∷ 82 ∷ 83 ∷ []; jobs = 84 ∷ 85 ∷ 86 ∷ 87 ∷ 88 ∷ []; successors = 71 ∷ 72 ∷ 73 ∷ 74 ∷ [] }

three_fits : ListsFit three_says three_lent
unfolding pairs_from
three_fits = record { est = refl; lct = refl; dur = refl; dem = refl; jobs = leb-true _ _ refl; successors = leb-true _ _ refl }

-- the horizon is the longest chain: read, and unused room stays
pub three_read : (a : TextAfter) → Reads (asked (patterson three) 1 9 three_lent) a → a ≡ record { says = said Word.read (9 ∷ 3 ∷ []); lent = record { est = 0 ∷ 2 ∷ 6 ∷ []; lct = 2 ∷ 6 ∷ 9 ∷ []; dur = 2 ∷ 4 ∷ 3 ∷ []; dem = 0 ∷ 7 ∷ 0 ∷ []; jobs = 0 ∷ 0 ∷ 1 ∷ 87 ∷ 88 ∷ []; successors = 1 ∷ 2 ∷ 2 ∷ 74 ∷ [] } }
unfolding longest acyclic? every pairs_from
three_read a r =
    by_reading (patterson three) three_says three_is (limits three three_says three_is) 1 9 three_lent (leb-true _ _ refl) a r (leb-true _ _ refl) three_fits refl refl (2 ∷ 6 ∷ 9 ∷ []) refl refl refl

-- one less: 34, and every list as it was
pub three_long : (a : TextAfter) → Reads (asked (patterson three) 1 8 three_lent) a → a ≡ refused three_lent 34
unfolding longest acyclic? every pairs_from
three_long a r = by_34 (patterson three) three_says three_is (limits three three_says three_is) 1 8 three_lent (leb-true _ _ refl) a r (leb-true _ _ refl) three_fits refl 2 (leb-true _ _ refl) (leb-true _ _ refl)

-- there is no resource 2: 37
pub three_resource : (a : TextAfter) → Reads (asked (patterson three) 2 9 three_lent) a → a ≡ refused three_lent 37
three_resource a r = by_number (patterson three) three_says three_is (limits three three_says three_is) 2 9 three_lent (leb-true _ _ refl) a r 36 (inl (leb-true _ _ refl, refl))

-- the same with room for two successors alone: 38
abbrev tight_lent : Lent
tight_lent = record { est = 91 ∷ 92 ∷ 93 ∷ []; lct = 94 ∷ 95 ∷ 96 ∷ []; dur = 97 ∷ 98 ∷ 99 ∷ []; dem = 81 ∷ 82 ∷ 83 ∷ []; jobs = 84 ∷ 85 ∷ 86 ∷ 87 ∷ 88 ∷ []; successors = 71 ∷ 72 ∷ [] }

pub three_tight : (a : TextAfter) → Reads (asked (patterson three) 1 9 tight_lent) a → a ≡ refused tight_lent 38
unfolding pairs_from
three_tight a r =
    by_number (patterson three) three_says three_is (limits three three_says three_is) 1 9 tight_lent (leb-true _ _ refl) a r 37 (inr (leb-true _ _ refl, inl (inr (inr (inr (inr (inr (leb-true _ _ refl))))), refl)))

-- both: 37
pub resource_first : (a : TextAfter) → Reads (asked (patterson three) 2 9 tight_lent) a → a ≡ refused tight_lent 37
resource_first a r = by_number (patterson three) three_says three_is (limits three three_says three_is) 2 9 tight_lent (leb-true _ _ refl) a r 36 (inl (leb-true _ _ refl, refl))

-- the horizon is looked at before the text
pub far_first : (a : TextAfter) → Reads (asked (patterson []) 0 (suc most_time) three_lent) a → a ≡ refused three_lent 31
far_first a r = answered_one (asked (patterson []) 0 (suc most_time) three_lent) a (refused three_lent 31) r.answered (far (patterson []) 0 (suc most_time) three_lent (leb-true _ _ refl))

-- and the text before the lists
pub text_first : (a : TextAfter) → Reads (asked (patterson []) 0 9 three_lent) a → a ≡ refused three_lent 30
unfolding patterson
text_first a r = answered_one (asked (patterson []) 0 9 three_lent) a (refused three_lent 30) r.answered (broken (patterson []) 0 9 three_lent (leb-true _ _ refl) 30 refl (λ z. omega arith))

-- a job of length 0 that is its own successor: `1 1 5 0 1 1 1`
abbrev alone : List ℕ
alone = 49 ∷ 32 ∷ 49 ∷ 32 ∷ 53 ∷ 32 ∷ 48 ∷ 32 ∷ 49 ∷ 32 ∷ 49 ∷ 32 ∷ 49 ∷ []

abbrev alone_says : Project
alone_says = record { capacities = 5 ∷ []; rows = record { duration = 0; demands = 1 ∷ []; successors = 0 ∷ [] } ∷ [] }

alone_is : patterson alone ≡ good alone_says []
unfolding patterson
alone_is = refl

abbrev alone_lent : Lent
alone_lent = record { est = 91 ∷ []; lct = 92 ∷ []; dur = 93 ∷ []; dem = 94 ∷ []; jobs = 95 ∷ []; successors = 96 ∷ [] }

alone_fits : ListsFit alone_says alone_lent
unfolding pairs_from
alone_fits = record { est = refl; lct = refl; dur = refl; dem = refl; jobs = leb-true _ _ refl; successors = leb-true _ _ refl }

-- 33
pub alone_cycle : (a : TextAfter) → Reads (asked (patterson alone) 0 9 alone_lent) a → a ≡ refused alone_lent 33
unfolding longest acyclic? every pairs_from
alone_cycle a r = by_33 (patterson alone) alone_says alone_is (limits alone alone_says alone_is) 0 9 alone_lent (leb-true _ _ refl) a r (leb-true _ _ refl) alone_fits refl

-- the same with no room for the pair: 38
abbrev bare_lent : Lent
bare_lent = record { est = 91 ∷ []; lct = 92 ∷ []; dur = 93 ∷ []; dem = 94 ∷ []; jobs = []; successors = [] }

pub room_first : (a : TextAfter) → Reads (asked (patterson alone) 0 9 bare_lent) a → a ≡ refused bare_lent 38
unfolding pairs_from
room_first a r =
    by_number (patterson alone) alone_says alone_is (limits alone alone_says alone_is) 0 9 bare_lent (leb-true _ _ refl) a r 37 (inr (leb-true _ _ refl, inl (inr (inr (inr (inr (inl (leb-true _ _ refl))))), refl)))

-- a job of length 3 that is its own successor, and a horizon of 2: 33: `1 1 5 3 1 1 1`
abbrev long_alone : List ℕ
long_alone = 49 ∷ 32 ∷ 49 ∷ 32 ∷ 53 ∷ 32 ∷ 51 ∷ 32 ∷ 49 ∷ 32 ∷ 49 ∷ 32 ∷ 49 ∷ []

abbrev long_says : Project
long_says = record { capacities = 5 ∷ []; rows = record { duration = 3; demands = 1 ∷ []; successors = 0 ∷ [] } ∷ [] }

long_is : patterson long_alone ≡ good long_says []
unfolding patterson
long_is = refl

long_fits : ListsFit long_says alone_lent
unfolding pairs_from
long_fits = record { est = refl; lct = refl; dur = refl; dem = refl; jobs = leb-true _ _ refl; successors = leb-true _ _ refl }

pub cycle_first : (a : TextAfter) → Reads (asked (patterson long_alone) 0 2 alone_lent) a → a ≡ refused alone_lent 33
unfolding longest acyclic? every pairs_from
cycle_first a r = by_33 (patterson long_alone) long_says long_is (limits long_alone long_says long_is) 0 2 alone_lent (leb-true _ _ refl) a r (leb-true _ _ refl) long_fits refl

-- job 3 is reached twice, through 1 and through 2, and there is no cycle: `4 1 5\n1 1 2 2 3\n2 1 1 4\n3 1 1 4\n1 1 0\n`
abbrev reached : List ℕ
reached = 52 ∷ 32 ∷ 49 ∷ 32 ∷ 53 ∷ 10 ∷ 49 ∷ 32 ∷ 49 ∷ 32 ∷ 50 ∷ 32 ∷ 50 ∷ 32 ∷ 51 ∷ 10 ∷ 50 ∷ 32 ∷ 49 ∷ 32 ∷ 49 ∷ 32 ∷ 52 ∷ 10 ∷ 51 ∷ 32 ∷ 49 ∷ 32 ∷ 49 ∷ 32 ∷ 52 ∷ 10 ∷ 49 ∷ 32 ∷ 49 ∷ 32 ∷ 48 ∷ 10 ∷ []

abbrev reached_says : Project
reached_says = record { capacities = 5 ∷ []; rows = record { duration = 1; demands = 1 ∷ []; successors = 1 ∷ 2 ∷ [] } ∷ record { duration = 2; demands = 1 ∷ []; successors = 3 ∷ [] } ∷ record { duration = 3; demands = 1 ∷ []; successors = 3 ∷ [] } ∷ record { duration = 1; demands = 1 ∷ []; successors = [] } ∷ [] }

reached_is : patterson reached ≡ good reached_says []
unfolding patterson
reached_is = refl

abbrev reached_lent : Lent
reached_lent = record { est = 91 ∷ 92 ∷ 93 ∷ 94 ∷ []; lct = 95 ∷ 96 ∷ 97 ∷ 98 ∷ []; dur = 81 ∷ 82 ∷ 83 ∷ 84 ∷ []; dem = 85 ∷ 86 ∷ 87 ∷ 88 ∷ []; jobs = 71 ∷ 72 ∷ 73 ∷ 74 ∷ []; successors = 75 ∷ 76 ∷ 77 ∷ 78 ∷ [] }

reached_fits : ListsFit reached_says reached_lent
unfolding pairs_from
reached_fits = record { est = refl; lct = refl; dur = refl; dem = refl; jobs = leb-true _ _ refl; successors = leb-true _ _ refl }

-- read
pub reached_read : (a : TextAfter) → Reads (asked (patterson reached) 0 7 reached_lent) a → a ≡ record { says = said Word.read (5 ∷ 4 ∷ []); lent = record { est = 0 ∷ 1 ∷ 1 ∷ 4 ∷ []; lct = 3 ∷ 6 ∷ 6 ∷ 7 ∷ []; dur = 1 ∷ 2 ∷ 3 ∷ 1 ∷ []; dem = 1 ∷ 1 ∷ 1 ∷ 1 ∷ []; jobs = 0 ∷ 0 ∷ 1 ∷ 2 ∷ []; successors = 1 ∷ 2 ∷ 3 ∷ 3 ∷ [] } }
unfolding longest acyclic? every pairs_from
reached_read a r =
    by_reading (patterson reached) reached_says reached_is (limits reached reached_says reached_is) 0 7 reached_lent (leb-true _ _ refl) a r (leb-true _ _ refl) reached_fits refl refl (3 ∷ 6 ∷ 6 ∷ 7 ∷ []) refl refl refl

-- no jobs: `0 1 5`
abbrev nobody : List ℕ
nobody = 48 ∷ 32 ∷ 49 ∷ 32 ∷ 53 ∷ []

abbrev nobody_says : Project
nobody_says = record { capacities = 5 ∷ []; rows = [] }

nobody_is : patterson nobody ≡ good nobody_says []
unfolding patterson
nobody_is = refl

abbrev nobody_lent : Lent
nobody_lent = record { est = []; lct = []; dur = []; dem = []; jobs = 91 ∷ []; successors = [] }

nobody_fits : ListsFit nobody_says nobody_lent
unfolding pairs_from
nobody_fits = record { est = refl; lct = refl; dur = refl; dem = refl; jobs = leb-true _ _ refl; successors = leb-true _ _ refl }

-- read, at horizon 0
pub nobody_read : (a : TextAfter) → Reads (asked (patterson nobody) 0 0 nobody_lent) a → a ≡ record { says = said Word.read (5 ∷ 0 ∷ []); lent = record { est = []; lct = []; dur = []; dem = []; jobs = 91 ∷ []; successors = [] } }
unfolding longest acyclic? every pairs_from
nobody_read a r =
    by_reading (patterson nobody) nobody_says nobody_is (limits nobody nobody_says nobody_is) 0 0 nobody_lent (leb-true _ _ refl) a r (leb-true _ _ refl) nobody_fits refl refl ([]) refl refl refl
