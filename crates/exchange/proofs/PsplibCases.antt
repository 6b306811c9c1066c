-- Whole calls of the PSPLIB reader on a small text (`psplib: Cases`): whatever meets its contract gives these answers and leaves these lists.
use Prim.Native.Nat.{suc}
use native.Mathlib.Omega.{arith}
use mathlib.Core.Path.{◌≡◌, refl}
use mathlib.Core.List.{[], ◌∷◌}
use borrow.Author.Tests.{leb-true}
use Rattle.lists.specs.Tests.{every}
use Rattle.answers.specs.Said.{Word, said}
use Rattle.joblist.specs.Limits.{most_time}
use Rattle.chains.specs.Passes.{longest, acyclic?}
use Rattle.projects.specs.Projects.{Project, pairs_from}
use Rattle.psplib.specs.Psplib.{psplib}
use Rattle.psplib.proofs.Limits.{psplib_takes}
use Rattle.psplib.proofs.Cases.{small, two_jobs, lettered, headed_twice, headings_first}
use Rattle.exchange.specs.Calls.{Lent, TextAfter}
use Rattle.exchange.specs.Tests.{ListsFit}
use Rattle.exchange.specs.Promise.{Reads}
use Rattle.exchange.proofs.Asked.{asked, refused, far, broken}
use Rattle.exchange.proofs.One.{answered_one}
use Rattle.exchange.proofs.Computed.{by_34, by_reading}

-- two jobs on one resource, 0 before 1
abbrev two_says : Project
two_says = record { capacities = 5 ∷ []; rows = record { duration = 3; demands = 1 ∷ []; successors = 1 ∷ [] } ∷ record { duration = 4; demands = 2 ∷ []; successors = [] } ∷ [] }

abbrev two_lent : Lent
two_lent = record { est = 91 ∷ 92 ∷ []; lct = 93 ∷ 94 ∷ []; dur = 95 ∷ 96 ∷ []; dem = 97 ∷ 98 ∷ []; jobs = 81 ∷ 82 ∷ []; successors = 83 ∷ [] }

two_fits : ListsFit two_says two_lent
unfolding pairs_from
two_fits = record { est = refl; lct = refl; dur = refl; dem = refl; jobs = leb-true _ _ refl; successors = leb-true _ _ refl }

-- the horizon is the longest chain: read, and unused room stays
pub two_read : (a : TextAfter) → Reads (asked (psplib small) 0 7 two_lent) a → a ≡ record { says = said Word.read (5 ∷ 1 ∷ []); lent = record { est = 0 ∷ 3 ∷ []; lct = 3 ∷ 7 ∷ []; dur = 3 ∷ 4 ∷ []; dem = 1 ∷ 2 ∷ []; jobs = 0 ∷ 82 ∷ []; successors = 1 ∷ [] } }
unfolding longest acyclic? every pairs_from
two_read a r = by_reading (psplib small) two_says two_jobs (psplib_takes small two_says [] two_jobs) 0 7 two_lent (leb-true _ _ refl) a r (leb-true _ _ refl) two_fits refl refl (3 ∷ 7 ∷ []) refl refl refl

-- one less: 34, and every list as it was
pub two_long : (a : TextAfter) → Reads (asked (psplib small) 0 6 two_lent) a → a ≡ refused two_lent 34
unfolding longest acyclic? every pairs_from
two_long a r = by_34 (psplib small) two_says two_jobs (psplib_takes small two_says [] two_jobs) 0 6 two_lent (leb-true _ _ refl) a r (leb-true _ _ refl) two_fits refl 1 (leb-true _ _ refl) (leb-true _ _ refl)

-- no heading at all: the horizon is looked at before that, and the lists behind it
pub far_first : (a : TextAfter) → Reads (asked (psplib []) 0 (suc most_time) two_lent) a → a ≡ refused two_lent 31
far_first a r = answered_one (asked (psplib []) 0 (suc most_time) two_lent) a (refused two_lent 31) r.answered (far (psplib []) 0 (suc most_time) two_lent (leb-true _ _ refl))

pub headings_next : (a : TextAfter) → Reads (asked (psplib []) 0 7 two_lent) a → a ≡ refused two_lent 35
unfolding psplib
headings_next a r = answered_one (asked (psplib []) 0 7 two_lent) a (refused two_lent 35) r.answered (broken (psplib []) 0 7 two_lent (leb-true _ _ refl) 35 refl (λ z. omega arith))

-- a heading twice, and a letter in a count: 35
pub headings_first_met : (a : TextAfter) → Reads (asked (psplib headed_twice) 0 7 two_lent) a → a ≡ refused two_lent 35
headings_first_met a r = answered_one (asked (psplib headed_twice) 0 7 two_lent) a (refused two_lent 35) r.answered (broken (psplib headed_twice) 0 7 two_lent (leb-true _ _ refl) 35 headings_first (λ z. omega arith))

-- the letter alone, and a horizon above its limit: 31
pub far_first_met : (a : TextAfter) → Reads (asked (psplib lettered) 0 (suc most_time) two_lent) a → a ≡ refused two_lent 31
far_first_met a r = answered_one (asked (psplib lettered) 0 (suc most_time) two_lent) a (refused two_lent 31) r.answered (far (psplib lettered) 0 (suc most_time) two_lent (leb-true _ _ refl))
