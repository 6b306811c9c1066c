-- The records of the moves that narrowing makes, replayed from the windows where it made them, come to the same end: over any rules whose records
-- are good where their moves are made.
use Prim.Native.Nat.{ℕ, suc, ◌≤◌}
use native.Mathlib.Omega.{arith}
use mathlib.Core.Path.{◌≡◌, refl, ◌∙◌}
use mathlib.Core.Bool.{true, false}
use mathlib.Core.List.{List, [], ◌∷◌, map}
use mathlib.Core.Option.{none, some}
use Rattle.lists.specs.Lists.{◌!◌}
use Rattle.lists.proofs.Lists.{set_any}
use Rattle.narrowing.specs.Windows.{Win, Side, early, late, Long, LowestTooShort, Tighter, moved, closes}
use Rattle.narrowing.specs.Search.{Move, move, after}
use Rattle.narrowing.specs.Run.{Out, settled, clash, short, push, work}
use Rattle.narrowing.proofs.TooShort.{finds_too_short, run_by}
use Rattle.narrowing.proofs.Runs.{work_ind}
use Rattle.joblist.specs.Limits.{most_time}
use Rattle.journal.specs.Journal.{job_of}
use Rattle.promises.specs.Ask.{Ask, Grounds, job_count, lasts, Good}
use Rattle.promises.specs.Table.{ran}
use Rattle.verdicts.specs.Replay.{Trial, holds, clashes, replay, verdict_on}
use Rattle.verdicts.specs.Promise.{Judges, WritesGood}

-- ---- one record

module _ (T : Trial) (p : List ℕ) (W U : Win) (x : List ℕ) (j : ℕ) (good : T.code W x ≡ 0) (to : T.changed W x ≡ U) (job : job_of x ≡ j) where
  replay_on : closes p U j ≡ false → (i : ℕ) (rs : List (List ℕ)) → replay T p W i (x ∷ rs) ≡ replay T p U (suc i) rs
  unfolding replay
  replay_on e i rs = rw (good, to, job, e)

  replay_end : closes p U j ≡ true → (i : ℕ) → replay T p W i (x ∷ []) ≡ clashes j
  unfolding replay
  replay_end e i = rw (good, to, job, e)

replay_none : (T : Trial) (p : List ℕ) (W : Win) (i : ℕ) → replay T p W i [] ≡ holds W
unfolding replay
replay_none T p W i = refl

-- no latest end is above the limit of times
Small : Win → Type 0
Small W = (k : ℕ) → W.l ! k ≤ most_time

small_after : (W : Win) (j : ℕ) (s : Side) (b : ℕ) → Tighter W j s b → Small W → Small (moved W j s b)
unfolding Small
small_after W j early b a h = h
small_after W j late b a h = λ k. set_any (λ (x : ℕ). x ≤ most_time) W.l j b k (λ e. omega (arith, a, h j)) (h k)

module _ (T : Trial) (A : Ask) (y : Judges T A) (z : WritesGood T A) (x : Grounds A) (g : Good A) where
  -- what the replay of an end's records comes to, and the verdict on them
  abbrev Replays : Win → Out → Type 0
  Replays W (settled U ms) = (i : ℕ) → replay T (lasts A) W i (map A.entry ms) ≡ holds U
  Replays W (clash j ms) = (i : ℕ) → replay T (lasts A) W i (map A.entry ms) ≡ clashes j
  Replays W short = Unit {0}

  abbrev pub Ends : Win → Out → Type 0
  Ends W (settled U ms) = verdict_on T (job_count A) (lasts A) W (map A.entry ms) ≡ holds U
  Ends W (clash j ms) = verdict_on T (job_count A) (lasts A) W (map A.entry ms) ≡ clashes j
  Ends W short = Unit {0}

  push_replays : (W U : Win) (m : Move) (o : Out) → ((i : ℕ) (rs : List (List ℕ)) → replay T (lasts A) W i (A.entry m ∷ rs) ≡ replay T (lasts A) U (suc i) rs)
      → Replays U o → Replays W (push m o)
  push_replays W U m (settled X ms) f h = λ i. f i (map A.entry ms) ∙ h (suc i)
  push_replays W U m (clash j ms) f h = λ i. f i (map A.entry ms) ∙ h (suc i)
  push_replays W U m short f h = tt

  long_ends : (W : Win) (o : Out) → Long (job_count A) (lasts A) W → Replays W o → Ends W o
  unfolding verdict_on
  long_ends W (settled U ms) L f = rw (finds_too_short (job_count A) (lasts A) W none L) (f 0)
  long_ends W (clash j ms) L f = rw (finds_too_short (job_count A) (lasts A) W none L) (f 0)
  long_ends W short L f = tt

  too_short_ends : (W : Win) (j : ℕ) → LowestTooShort (job_count A) (lasts A) W j → Ends W (clash j [])
  unfolding verdict_on
  too_short_ends W j s = rw (finds_too_short (job_count A) (lasts A) W (some j) s)

  work_replays : (room : ℕ) (W : Win) → Long (job_count A) (lasts A) W → Small W → Replays W (work A.search room W 0 early)
  unfolding Small
  work_replays room W L h =
      work_ind A.search A.rules x.searches (λ room W j s o. Small W → Replays W o)
      (λ room W j s L q h i. replay_none T (lasts A) W i)
      (λ W j s i v c L a h. tt)
      (λ room W j s i v c L a e h k.
      replay_end T (lasts A) W (after A.search W i v c) (A.entry (move W i v c)) i ((y.goods _ _).1 (z.good g W L h j s i v c a)) (z.to W i v c) (z.job (move W i v c)) e k)
      (λ room W j s i v c o L a e r h.
      push_replays W (after A.search W i v c) (move W i v c) o
      (λ k rs. replay_on T (lasts A) W (after A.search W i v c) (A.entry (move W i v c)) i ((y.goods _ _).1 (z.good g W L h j s i v c a)) (z.to W i v c) (z.job (move W i v c)) e k rs)
      (r (small_after W i v (A.search.bound v c) (x.lawful.tighter W i v (A.search.bound v c) a.listed a.applies) h)))
      room W 0 early L (omega arith) h

  -- how the run ends is what the verdict says
  pub ran_ends : Ends A.win (ran A)
  unfolding Small
  ran_ends =
      run_by A.search A.room A.win (Ends A.win)
      (λ L. long_ends A.win (work A.search A.room A.win 0 early) L (work_replays A.room A.win L g.within.1.0))
      (λ j s. too_short_ends A.win j s)
