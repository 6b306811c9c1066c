-- From the answer table to the base: the lists that were filled are good lists, the pairs in them are those of the text, and every choice of start times
-- that respects the pairs and the horizon lies within the windows.
use Prim.Native.Nat.{ℕ, zero, suc, ◌+◌, ◌≤◌, ◌<◌}
use native.Mathlib.Omega.{arith}
use mathlib.Core.Path.{◌≡◌, refl, sym, ap, ◌∙◌, subst}
use mathlib.Core.List.{List, [], ◌∷◌, map}
use lib.ListN.{length, length-map}
use Rattle.lists.specs.Lists.{◌!◌}
use Rattle.lists.proofs.Lists.{everywhere, front_at}
use Rattle.lists.proofs.Tests.{by_contra}
use Rattle.answers.specs.Said.{Word, Said}
use Rattle.answers.proofs.Same.{not_said}
use Rattle.narrowing.specs.Windows.{Long}
use Rattle.narrowing.specs.Schedules.{Schedule}
use Rattle.joblist.specs.Limits.{jobs, most_time, most_demand, four_lists, supply}
use Rattle.joblist.specs.GoodList.{GoodList}
use Rattle.chains.specs.Paths.{Pair, Below, Cycle, Back}
use Rattle.chains.specs.Passes.{NoneRaises}
use Rattle.chains.proofs.Cycles.{cycle_map}
use Rattle.chains.proofs.Listed.{pair_listed, listed_pair}
use Rattle.chains.proofs.Chains.{stable_most, stable_after, chain_on, chain_starts}
use Rattle.texts.specs.Tokens.{Token}
use Rattle.texts.specs.Readings.{good}
use Rattle.projects.specs.Projects.{Row, Project, pairs_of, demands_on, WithinLimits}
use Rattle.exchange.specs.Calls.{Lent, TextCall, TextAfter, Order, duration_of}
use Rattle.exchange.specs.Tests.{Refusal}
use Rattle.exchange.specs.Table.{Filled, Taken, Leaves, Answered}
use Rattle.exchange.specs.Promise.{windows_in, ListedIn, RespectsPairs, Reads}
use Rattle.exchange.proofs.Tests.{Passed, refusal_none}

-- ---- a text that was read

module _ (x : Project) (resource horizon : ℕ) (L K : Lent) (limits : WithinLimits x) (near : horizon ≤ most_time) (passed : Passed x resource horizon L)
    (f : Filled x resource horizon L K) where
  abbrev w : ℕ → ℕ
  w = duration_of x

  -- earliest starts respect the pairs
  est_stable : NoneRaises (Order x) w K.est
  est_stable a b r =
      let q = limits.range a b r in
      (f.est b q.1).most (K.est ! a + w a) (chain_on r (f.est a q.0).one)

  est_ends : (j : ℕ) → j < length x.rows → K.est ! j + w j ≤ horizon
  est_ends j b = by_contra (K.est ! j + w j) horizon (λ h. passed.short (record { last = j; job = b; before = K.est ! j; chain = (f.est j b).one; over = h }))

  -- a chain after a job, from whatever values that respect the pairs and the horizon
  after_ends : (v : List ℕ) → NoneRaises (Order x) w v → ((j : ℕ) → j < length x.rows → v ! j + w j ≤ horizon)
      → (j : ℕ) → j < length x.rows → v ! j + w j ≤ K.lct ! j
  after_ends v s e j b =
      let m = f.lct j b in
      let c = m.1.one in
      let R : Below (length x.rows) (Back (Order x)) = λ p q r. ((limits.range q p r).1, (limits.range q p r).0) in
      omega (arith, stable_after (Order x) w v s c, e c.from (chain_starts (Back (Order x)) (length x.rows) w R c b), m.2)

  dur_long : length K.dur ≡ length x.rows
  dur_long = ap length f.dur ∙ length-map x.rows (λ (r : Row). r.duration)

  dem_long : length K.dem ≡ length x.rows
  dem_long = ap length f.dem ∙ length-map x.rows (λ (r : Row). r.demands ! resource)

  dur_at : (j : ℕ) → K.dur ! j ≡ w j
  dur_at j = ap (λ (l : List ℕ). l ! j) f.dur

  dem_at : (j : ℕ) → K.dem ! j ≡ demands_on resource x.rows ! j
  dem_at j = ap (λ (l : List ℕ). l ! j) f.dem

  pub filled_long : Long (jobs (windows_in K)) K.dur (windows_in K)
  unfolding Long
  filled_long j b = omega (arith, after_ends K.est est_stable est_ends j (omega (arith, f.est_long)), dur_at j)

  pub filled_good : GoodList (jobs (windows_in K)) (four_lists (windows_in K) K.dur K.dem) (supply (x.capacities ! resource))
  filled_good = record {
    sized = (refl, (f.lct_long ∙ sym f.est_long, (dur_long ∙ sym f.est_long, (dem_long ∙ sym f.est_long, tt))));
    few = omega (arith, f.est_long, limits.few);
    within = (
      everywhere K.est (length x.rows) most_time f.est_long (λ j b. omega (arith, est_ends j b)),
      (
        everywhere K.lct (length x.rows) most_time f.lct_long (λ j b. omega (arith, (f.lct j b).2)),
        ((λ j. omega (arith, dur_at j, limits.durations j)), ((λ j. omega (arith, dem_at j, limits.demands resource j)), tt)),
      ),
    );
    beside = (capped, tt);
  }
    where
      capped : (k : ℕ) → (x.capacities ! resource ∷ []) ! k ≤ most_demand
      capped zero = limits.capacities resource
      capped (suc k) = omega arith

  -- ---- the pairs that are written are those of the text

  jobs_at : (i : ℕ) → i < length (pairs_of x) → K.jobs ! i ≡ map (λ (p : Pair). p.job) (pairs_of x) ! i
  jobs_at i b = ap (λ (l : List ℕ). l ! i) f.jobs ∙ front_at (map (λ (p : Pair). p.job) (pairs_of x)) _ i (omega (arith, length-map (pairs_of x) (λ (p : Pair). p.job)))

  successors_at : (i : ℕ) → i < length (pairs_of x) → K.successors ! i ≡ map (λ (p : Pair). p.successor) (pairs_of x) ! i
  successors_at i b = ap (λ (l : List ℕ). l ! i) f.successors ∙ front_at (map (λ (p : Pair). p.successor) (pairs_of x)) _ i (omega (arith, length-map (pairs_of x) (λ (p : Pair). p.successor)))

  written : (a b : ℕ) → Order x a b → ListedIn K (length (pairs_of x)) a b
  written a b r = let q = pair_listed (pairs_of x) a b r in (q.0, q.1, jobs_at q.0 q.1 ∙ q.2, successors_at q.0 q.1 ∙ q.3)

  of_written : (a b : ℕ) → ListedIn K (length (pairs_of x)) a b → Order x a b
  of_written a b (i, h, p, q) = listed_pair (pairs_of x) a b (i, h, sym (jobs_at i h) ∙ p, sym (successors_at i h) ∙ q)

  pub filled_ordered : Below (length K.dur) (ListedIn K (length (pairs_of x))) × (Cycle (ListedIn K (length (pairs_of x))) → ⊥)
  filled_ordered = (
    (λ a b r. rw dur_long (limits.range a b (of_written a b r))),
    (λ c. passed.acyclic (cycle_map (ListedIn K (length (pairs_of x))) (Order x) of_written c)),
  )

  module _ (s : List ℕ) (t : RespectsPairs K (length (pairs_of x)) horizon s) where
    starts_stable : NoneRaises (Order x) w s
    starts_stable a b r = omega (arith, t.pairs a b (written a b r), dur_at a)

    starts_end : (j : ℕ) → j < length x.rows → s ! j + w j ≤ horizon
    starts_end j b = omega (arith, t.ends j (omega (arith, dur_long)), dur_at j)

    pub filled_kept : Schedule (length K.dur) K.dur (RespectsPairs K (length (pairs_of x)) horizon) (windows_in K) s
    filled_kept = record {
      from = λ j b. stable_most (Order x) w s starts_stable (f.est j (omega (arith, dur_long))).one;
      to = λ j b. omega (arith, after_ends s starts_stable starts_end j (omega (arith, dur_long)), dur_at j);
      fits = t;
    }

-- ---- of any call whose layout keeps to the limits

module _ (c : TextCall) (a : TextAfter) where
  -- an answer that says `read` is of a text that was read
  pub read_taken : Answered c a → a.says.word ≡ Word.read → Taken c a × Refusal c 0
  read_taken r e = go r.number r.refusal r.leaves
    where
      go : (k : ℕ) → Refusal c k → Leaves c a k → Taken c a × Refusal c 0
      go zero t l = (l, t)
      go (suc k) t l = absurd (not_said Word.refused Word.read (λ z. omega arith) (sym (ap (λ (y : TextAfter). y.says.word) l) ∙ e))

module _ (c : TextCall) (limits : (x : Project) (rest : List Token) → c.text ≡ good x rest → WithinLimits x) (a : TextAfter) where
  pub reads_of : Answered c a → Reads c a
  reads_of r = record {
    answered = r;
    good = λ e.
        let t = read_taken c a r e in
        let y = t.0 in
        let n = refusal_none c y.x y.rest y.text t.1 in
        subst (λ (m : ℕ). GoodList (jobs (windows_in a.lent)) (four_lists (windows_in a.lent) a.lent.dur a.lent.dem) (supply m))
        (sym (ap (λ (z : Said). z.numbers ! 0) y.says))
        (filled_good y.x c.resource c.horizon c.lent a.lent (limits y.x y.rest y.text) n.0 n.1 y.filled);
    long = λ e.
        let t = read_taken c a r e in
        let y = t.0 in
        let n = refusal_none c y.x y.rest y.text t.1 in
        filled_long y.x c.resource c.horizon c.lent a.lent (limits y.x y.rest y.text) n.0 n.1 y.filled;
    ordered = λ e.
        let t = read_taken c a r e in
        let y = t.0 in
        let n = refusal_none c y.x y.rest y.text t.1 in
        subst (λ (m : ℕ). Below (length a.lent.dur) (ListedIn a.lent m) × (Cycle (ListedIn a.lent m) → ⊥))
        (sym (ap (λ (z : Said). z.numbers ! 1) y.says))
        (filled_ordered y.x c.resource c.horizon c.lent a.lent (limits y.x y.rest y.text) n.0 n.1 y.filled);
    kept = λ e s.
        let t = read_taken c a r e in
        let y = t.0 in
        let n = refusal_none c y.x y.rest y.text t.1 in
        subst (λ (m : ℕ). RespectsPairs a.lent m c.horizon s → Schedule (length a.lent.dur) a.lent.dur (RespectsPairs a.lent m c.horizon) (windows_in a.lent) s)
        (sym (ap (λ (z : Said). z.numbers ! 1) y.says))
        (filled_kept y.x c.resource c.horizon c.lent a.lent (limits y.x y.rest y.text) n.0 n.1 y.filled s);
  }
