-- The call of the read head keeps its promise: it is narrowing by lawful rules, whose search finds one wherever one applies, and the farthest; and they are
-- exact on fixed jobs.
use Prim.Native.Nat.{ℕ, ◌-◌, ◌<◌}
use native.Mathlib.Omega.{arith}
use mathlib.Core.Path.{◌≡◌, sym, subst}
use mathlib.Core.Bool.{true}
use mathlib.Core.List.{List, [], ◌∷◌}
use mathlib.Core.Option.{some}
use Rattle.lists.specs.Bounds.{lead}
use Rattle.narrowing.specs.Windows.{Win, Side, early, late, closes, moved}
use Rattle.narrowing.specs.Search.{Move, after}
use Rattle.narrowing.specs.Rounds.{Chosen}
use Rattle.joblist.specs.Limits.{jobs}
use Rattle.promises.specs.Ask.{Grounds}
use Rattle.promises.specs.Counted.{left_by, Counts}
use Rattle.promises.proofs.Broken.{broken_exactly}
use Rattle.promises.proofs.Counted.{without_log_grounds, without_log_counts}
use Rattle.heads.specs.Precedences.{Overlap, Apart, Detects}
use Rattle.heads.specs.Search.{bound, detect, search}
use Rattle.heads.specs.Promise.{head_ask, Left, sequenced, FarthestChoice, Farthest, Sequences}
use Rattle.heads.proofs.Law.{detect_lawful, below_closes}
use Rattle.heads.proofs.Search.{first_yes, early_latest, late_soonest, detect_searches}
use Rattle.heads.proofs.Exact.{detect_exact, apart_or}

pub grounds : (W : Win) (p : List ℕ) → Grounds (head_ask W p)
grounds W p =
    let n = jobs W in
    without_log_grounds W [] [] (search n p) (Detects n p) (Apart n p) (Overlap n p) (detect_lawful n p) (detect_searches n p) (detect_exact n p)
    (broken_exactly (search n p) (Detects n p) (detect_searches n p) (Apart n p) (Overlap n p) (detect_exact n p) (apart_or n p) (λ s o a. a o))

-- ---- the farthest choice

farthest : (n : ℕ) (p : List ℕ) (W : Win) (i c : ℕ) (s : Side) → detect n p W i s ≡ some c → FarthestChoice n p W i s c
farthest n p W i c early h = (early_latest n p W i c h).1
farthest n p W i c late h = (late_soonest n p W i c h).1

-- of every move
chosen_farthest : (n : ℕ) (p : List ℕ) (W : Win) (j : ℕ) (s : Side) (ms : List Move) → Chosen (search n p) (Detects n p) W j s ms → Farthest n p ms
chosen_farthest n p W j s [] c = tt
chosen_farthest n p W j s (m ∷ ms) c = (
  let h = c.0 in
      farthest n p m.before m.job m.choice m.side (subst (λ (U : Win). detect n p U m.job m.side ≡ some m.choice) (sym h.before) h.chosen),
  chosen_farthest n p (after (search n p) W m.job m.side m.choice) m.job m.side ms c.1,
)

-- a new latest end below zero closes the window
pub below_zero_closes : (n : ℕ) (p : List ℕ) (W : Win) (i c : ℕ) → detect n p W i late ≡ some c → c < lead n p → closes p (moved W i late (bound n p late c)) i ≡ true
unfolding bound
below_zero_closes n p W i c h b =
    let l = (late_soonest n p W i c h).1 in
    let g = l.greatest in
    let z : c - lead n p ≡ 0 = omega arith in
    rw z (below_closes p W i (first_yes p W i g.at (l.sub g.at g.below g.member)).lasts_j)

-- ---- the contract, of whatever meets that of a call without a log

pub sequences_by : (W : Win) (p : List ℕ) (a : Left) → Counts (head_ask W p) a → Sequences W p a
sequences_by W p a h =
    record {
      counts = h;
      settled_farthest = λ n e. chosen_farthest (jobs W) p W 0 early (h.exactly.moves.settled n e).moves (h.exactly.moves.settled n e).chosen;
      clash_farthest = λ n j e. chosen_farthest (jobs W) p W 0 early (h.exactly.moves.clash n j e).moves (h.exactly.moves.clash n j e).chosen;
    }

pub sequences : (W : Win) (p : List ℕ) → Sequences W p (sequenced W p)
unfolding sequenced
sequences W p = sequences_by W p (left_by (head_ask W p)) (without_log_counts W [] [] (search (jobs W) p) (Detects (jobs W) p) (Apart (jobs W) p) (Overlap (jobs W) p) (grounds W p))
