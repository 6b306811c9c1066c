-- The two tables of jobs, joined: as many jobs, with the pairs of the one and the durations and demands of the other, and within their limits.
use Prim.Native.Nat.{ℕ, suc}
use native.Mathlib.Omega.{arith}
use mathlib.Core.Path.{◌≡◌, refl, ap}
use mathlib.Core.List.{List, [], ◌∷◌, ◌++◌, map}
use lib.ListN.{length}
use Rattle.lists.specs.Lists.{◌!◌, Every}
use Rattle.chains.specs.Paths.{Pair}
use Rattle.projects.specs.Projects.{tagged, pairs_from, durations, demands_on}
use Rattle.projects.specs.Tables.{Need}
use Rattle.rowheads.proofs.Takes.{Limited}
use Rattle.rowheads.proofs.Tables.{linked, needed}
use Rattle.psplib.specs.Psplib.{join}

pub join_long : (sss : List (List ℕ)) (qs : List Need) → length sss ≡ length qs → length (join sss qs) ≡ length sss
unfolding join
join_long [] qs e = refl
join_long (ss ∷ sss) [] e = absurd (omega arith)
join_long (ss ∷ sss) (q ∷ qs) e = let z : length sss ≡ length qs = omega arith in ap suc (join_long sss qs z)

pub join_pairs : (j : ℕ) (sss : List (List ℕ)) (qs : List Need) → length sss ≡ length qs → pairs_from j (join sss qs) ≡ pairs_from j (map linked sss)
unfolding join pairs_from
join_pairs j [] qs e = refl
join_pairs j (ss ∷ sss) [] e = absurd (omega arith)
join_pairs j (ss ∷ sss) (q ∷ qs) e = let z : length sss ≡ length qs = omega arith in ap (λ (ps : List Pair). tagged j ss ++ ps) (join_pairs (suc j) sss qs z)

pub join_durations : (sss : List (List ℕ)) (qs : List Need) → length sss ≡ length qs → durations (join sss qs) ≡ durations (map needed qs)
unfolding join
join_durations [] [] e = refl
join_durations [] (q ∷ qs) e = absurd (omega arith)
join_durations (ss ∷ sss) [] e = absurd (omega arith)
join_durations (ss ∷ sss) (q ∷ qs) e = let z : length sss ≡ length qs = omega arith in ap (λ (ds : List ℕ). q.duration ∷ ds) (join_durations sss qs z)

pub join_demands : (res : ℕ) (sss : List (List ℕ)) (qs : List Need) → length sss ≡ length qs → demands_on res (join sss qs) ≡ demands_on res (map needed qs)
unfolding join
join_demands res [] [] e = refl
join_demands res [] (q ∷ qs) e = absurd (omega arith)
join_demands res (ss ∷ sss) [] e = absurd (omega arith)
join_demands res (ss ∷ sss) (q ∷ qs) e = let z : length sss ≡ length qs = omega arith in ap (λ (ds : List ℕ). q.demands ! res ∷ ds) (join_demands res sss qs z)

pub join_limited : (n : ℕ) (sss : List (List ℕ)) (qs : List Need) → Every (λ ss. Limited n (linked ss)) sss → Every (λ q. Limited n (needed q)) qs → Every (Limited n) (join sss qs)
unfolding join
join_limited n [] qs h k = tt
join_limited n (ss ∷ sss) [] h k = tt
join_limited n (ss ∷ sss) (q ∷ qs) h k = (record { duration = k.0.duration; demands = k.0.demands; successors = h.0.successors }, join_limited n sss qs h.1 k.1)
