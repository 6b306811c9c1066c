-- The pairs passed over once, job by job: those before a place are of jobs that are written, those behind it of the jobs to come.
use Prim.Native.Nat.{ℕ, zero, suc, ◌+◌, ◌-◌, ◌≤◌, ◌<◌}
use native.Mathlib.Nat.{mul-le-mul}
use native.Mathlib.Numerals.{add-one}
use native.Mathlib.Omega.{arith}
use native.Mathlib.Decide.{dec_lt}
use mathlib.Core.Path.{◌≡◌, refl, sym, ◌∙◌}
use mathlib.Core.List.{List, [], ◌∷◌, ◌++◌, map}
use mathlib.Core.Logic.{inl, inr}
use lib.ListN.{length, drop, drop_of_length-le}
use lib.Seq.{drop-cons}
use Rattle.std.proofs.Common.{slice_range, length-take, length-drop, get_or-take, get_or-drop}
use Rattle.std.proofs.lemmas.List.{drop-take}
use Rattle.lists.specs.Lists.{◌!◌}
use Rattle.chains.specs.Paths.{Pair}
use Rattle.chains.specs.Listed.{InOrder, paired, Rising}
use Rattle.projects.specs.Form.{line_of, job_lines}
use Rattle.projects.specs.Made.{successors_of, rows_from}
use Rattle.scribe.specs.Says.{RunEnds, OwnJobs}
use Rattle.scribe.specs.Writing.{Ready}
use Rattle.scribe.proofs.Pairs.{rising_few}
use Rattle.scribe.proofs.Steps.{stretch_of}

-- jobs below j stand before place i, the others behind it
pub record Passed (js : List ℕ) (j i : ℕ) : Type 0 where
  pub within : i ≤ length js
  pub lower : (k : ℕ) → k < i → js ! k < j
  pub higher : (k : ℕ) → i ≤ k → k < length js → j ≤ js ! k

pub passed_start : (js : List ℕ) → Passed js 0 0
passed_start js = record { within = omega arith; lower = λ k h. absurd (omega arith); higher = λ k h l. omega arith }

-- jobs do not fall
no_fall : (n : ℕ) (js ss : List ℕ) → Rising n js ss → (a m : ℕ) → a + m < length js → js ! a ≤ js ! (a + m)
no_fall n js ss h a zero l = let z : a + 0 ≡ a = omega arith in rw z (omega arith)
no_fall n js ss h a (suc m) l = let z : a + suc m ≡ suc (a + m) = omega arith in let q = no_fall n js ss h a m (omega arith) in rw z (go (h.order (a + m) (omega arith)) q)
  where
    go : InOrder js ss (a + m) → js ! a ≤ js ! (a + m) → js ! a ≤ js ! suc (a + m)
    go (inl b) q = omega arith
    go (inr b) q = omega (arith, b.0)

module _ {durs dems js ss : List ℕ} (g : Ready durs dems js ss) {j i r : ℕ} (p : Passed js j i) (e : RunEnds js j i r) where
  -- behind the run there are higher jobs alone
  above : (k : ℕ) → r ≤ k → k < length js → j < js ! k
  above k h l =
      let z : r + (k - r) ≡ k = omega arith in
      let q : js ! r ≤ js ! k = rw z at (no_fall (length durs) js ss g.rising r (k - r) (omega arith)) in
      elim (dec_lt j (js ! r)) [ yes y ↦ omega arith | no y ↦ absurd (e.stops (omega arith) (omega (arith, p.higher r e.from (omega arith)))) ]

  pub passed_step : Passed js (j + 1) r
  passed_step =
      record {
        within = e.within;
        lower = λ k h. elim (dec_lt k i) [ yes y ↦ omega (arith, p.lower k y) | no y ↦ omega (arith, e.same k (omega arith) h) ];
        higher = λ k h l. omega (arith, above k h l);
      }

  -- the successors of job j stand from place i to place r
  pub within : r ≤ length ss
  within = omega (arith, e.within, g.pairs)

  long : length (slice_range ss i r) ≡ r - i
  long = simp (length-take, length-drop) (omega (arith, within, e.from))

  pub own : OwnJobs (slice_range ss i r)
  own =
      let few = rising_few (length durs) js ss g.rising (sym g.pairs) in
      record {
        few = omega (arith, long, e.within, few, mul-le-mul g.few g.few);
        below = λ k h. let m : k < r - i = omega (arith, long) in rw (get_or-take, get_or-drop) (omega (arith, (g.rising.range (i + k) (omega (arith, long, e.within, e.from))).1, g.few));
      }

  run_is : successors_of j (paired js ss) ≡ slice_range ss i r
  run_is =
      let z : i + (r - i) ≡ r = omega (arith, e.from) in
      stretch_of j js ss i r (sym g.pairs) e.from (λ k h l. p.lower k h) e.same above ∙ rw z at (drop-take i (r - i) ss)

pub jobs_cons : (j d q : ℕ) (ds qs : List ℕ) (ps : List Pair)
    → job_lines (rows_from j (d ∷ ds) (q ∷ qs) ps) ≡ line_of (d ∷ q ∷ length (successors_of j ps) ∷ map suc (successors_of j ps)) ++ job_lines (rows_from (suc j) ds qs ps)
unfolding job_lines rows_from line_of successors_of
jobs_cons j d q ds qs ps = refl

pub jobs_none : (j : ℕ) (qs : List ℕ) (ps : List Pair) → job_lines (rows_from j [] qs ps) ≡ []
unfolding job_lines rows_from
jobs_none j qs ps = refl

-- the lines from job j on: its own, then those from the next one on
pub lines_step : {durs dems js ss : List ℕ} → Ready durs dems js ss → {j i r : ℕ} → Passed js j i → RunEnds js j i r → j < length durs
    → job_lines (rows_from j (drop j durs) (drop j dems) (paired js ss))
    ≡ line_of (durs ! j ∷ dems ! j ∷ length (slice_range ss i r) ∷ map suc (slice_range ss i r)) ++ job_lines (rows_from (j + 1) (drop (j + 1) durs) (drop (j + 1) dems) (paired js ss))
lines_step {durs} {dems} {js} {ss} g {j} {i} {r} p e h =
    rw (add-one j, drop-cons durs j 0 h, drop-cons dems j 0 (omega (arith, g.demands)))
    (jobs_cons j (durs ! j) (dems ! j) (drop (suc j) durs) (drop (suc j) dems) (paired js ss)
    ∙ rw (run_is g p e))

-- none are left
pub lines_end : (durs dems : List ℕ) (ps : List Pair) (j : ℕ) → length durs ≤ j → job_lines (rows_from j (drop j durs) (drop j dems) ps) ≡ []
lines_end durs dems ps j h = rw (drop_of_length-le durs h) (jobs_none j (drop j dems) ps)
