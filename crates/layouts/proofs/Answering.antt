-- From what was decided, and what the lists were filled from, to the contract, for a text of any layout.
use Prim.Native.Nat.{ℕ, zero, suc, ◌≤◌, ◌<◌}
use native.Mathlib.Omega.{arith}
use mathlib.Core.Path.{◌≡◌, refl, sym, ap, ◌∙◌, subst}
use mathlib.Core.List.{List, [], ◌∷◌}
use lib.ListN.{length, take}
use lib.Seq.{get_or-take, length-take-le}
use Rattle.lists.specs.Lists.{◌!◌}
use Rattle.answers.specs.declared.reasons.Refusal as reasons
use Rattle.answers.specs.Said.{Word, said, number_of}
use Rattle.answers.proofs.Same.{not_said}
use Rattle.joblist.specs.Limits.{most_jobs}
use Rattle.screen.proofs.Tests.{number_not_0}
use Rattle.chains.specs.Paths.{Longest, Back, weight}
use Rattle.chains.proofs.Chains.{chain_map}
use Rattle.texts.specs.Readings.{good}
use Rattle.texts.proofs.Readings.{good_same}
use Rattle.projects.specs.Projects.{Project, pairs_of, WithinLimits}
use Rattle.walking.specs.Comes.{rows_at}
use Rattle.precedence.specs.declared.text_pairs.TextPairs.{TextPairs}
use Rattle.precedence.specs.Pairs.{coming}
use Rattle.parsing.specs.declared.Shape.{Shape}
use Rattle.parsing.proofs.Parsing.{parsing_few}
use Rattle.exchange.specs.Calls.{Lent, TextCall, TextAfter, Order, duration_of}
use Rattle.exchange.specs.Tests.{Fitting, ListsFit, Refusal}
use Rattle.exchange.specs.Table.{Filled}
use Rattle.exchange.specs.Promise.{Reads}
use Rattle.exchange.proofs.Tests.{refusal_none}
use Rattle.exchange.proofs.Asked.{refused}
use Rattle.exchange.proofs.Meaning.{reads_of}
use Rattle.lent.specs.declared.Draft.{Draft}
use Rattle.lent.specs.Parts.{Drafted, FilledFrom, Roomy, Wrote}
use Rattle.deciding.specs.Decided.{Accepted}
use Rattle.deciding.proofs.Deciding.{range, duration_at}

longest_weights : (R : ℕ → ℕ → Type 0) (w u : ℕ → ℕ) → ((a b : ℕ) → R a b → w a ≡ u a) → {j L : ℕ} → Longest R w j L → Longest R u j L
longest_weights R w u f l = record {
  one = chain_map R R w u (λ a b r. (r, f a b r)) l.one;
  most = λ M c. l.most M (chain_map R R u w (λ a b r. (r, sym (f a b r))) c);
}

-- a text that is refused: every lent word as it was
refused_with : (c : TextCall) (k : ℕ) → (k ≡ 0 → ⊥) → Refusal c k → Reads c (refused c.lent k)
refused_with c zero f q = absurd (f refl)
refused_with c (suc k) f q =
    let unread : Word.refused ≡ Word.read → ⊥ = not_said Word.refused Word.read (λ z. omega arith) in
    record {
      answered = record { number = suc k; refusal = q; leaves = refl };
      good = λ e. absurd (unread e);
      long = λ e. absurd (unread e);
      ordered = λ e. absurd (unread e);
      kept = λ e. absurd (unread e);
    }

pub refused_reads : (c : TextCall) (r : reasons.Refusal) → Refusal c (number_of r) → Reads c (refused c.lent (number_of r))
refused_reads c r q = refused_with c (number_of r) (number_not_0 r) q

-- a text that is taken
module _ (c : TextCall) (s : List ℕ) (d : Draft) (z : Shape) (a : Accepted c s d z) where
  abbrev L : Lent
  L = c.lent

  abbrev x : Project
  x = a.x

  fits : ListsFit x L
  fits = (refusal_none c x [] a.text a.refusal).1.fits

  pub few : z.n ≤ most_jobs
  few = parsing_few s c.resource d.dur d.dem z x a.parsing

  -- the lists have the lengths that are wanted, and room
  pub fitting : Fitting z.n z.pairs (length L.est) (length L.lct) (length L.dur) (length L.dem) (length L.jobs) (length L.successors)
  fitting = rw (← a.parsing.jobs, ← a.parsing.count) fits

  -- the pairs, read again from where the rows begin
  module _ (q : TextPairs) (e : (q.text.now ≡ s) × (q.n ≡ z.n) × (q.table ≡ z.table) × (q.walk ≡ rows_at z.at)) where
    again : coming q ≡ good (pairs_of x) a.parsing.end
    again = rw (e.0, e.1, e.2, e.3) a.parsing.come

    pub pair_room : Roomy (coming q) L.jobs L.successors
    pair_room = record { ps = pairs_of x; end = a.parsing.end; come = again; jobs = fits.jobs; successors = fits.successors }

  module _ (q : TextPairs) (e : (q.text.now ≡ s) × (q.n ≡ z.n) × (q.table ≡ z.table) × (q.walk ≡ rows_at z.at)) (K : Lent) (drafted : Drafted d)
      (f : FilledFrom d c.horizon L.est L.lct L.dur L.dem K.est K.lct K.dur K.dem) (w : Wrote (coming q) L.jobs L.successors K.jobs K.successors) where
    abbrev weighs : (j : ℕ) → j < z.n → d.dur ! j ≡ duration_of x j
    weighs = duration_at s c.resource d.dur d.dem z x a.parsing

    abbrev jobs_below : (i j : ℕ) → Order x i j → (i < z.n) × (j < z.n)
    jobs_below = range s c.resource d.dur d.dem z x a.parsing

    filled : Filled x c.resource c.horizon L K
    filled =
        let pairs = w.are (pairs_of x) a.parsing.end (again q e) in
        record {
          est_long = ap length f.est ∙ length-take-le (length L.est) d.heads (omega (arith, fitting.est, few, drafted.heads)) ∙ fits.est;
          lct_long = f.lct.long ∙ fits.lct;
          est = λ j b.
              let at : K.est ! j ≡ d.heads ! j = ap (λ (l : List ℕ). l ! j) f.est ∙ get_or-take (length L.est) d.heads j 0 (omega (arith, fits.est)) in
              rw at (longest_weights (Order x) (weight d.dur) (duration_of x) (λ i k q. weighs i (jobs_below i k q).0) (a.chains.before j));
          lct = λ j b. (
            d.tails ! j,
            longest_weights (Back (Order x)) (weight d.dur) (duration_of x) (λ i k q. weighs i (jobs_below k i q).1) (a.chains.after j),
            f.lct.each j (omega (arith, fits.lct)),
          );
          dur = f.dur ∙ ap (λ (m : ℕ). take m d.dur) fitting.dur ∙ sym a.parsing.durs_are;
          dem = f.dem ∙ ap (λ (m : ℕ). take m d.dem) fitting.dem ∙ sym a.parsing.dems_are;
          jobs = pairs.0;
          successors = pairs.1;
        }

    abbrev after : TextAfter
    after = record { says = said Word.read (z.cap ∷ z.pairs ∷ []); lent = K }

    pub taken : Reads c after
    taken =
        reads_of c (λ y rest e. subst WithinLimits (good_same x y [] rest (sym a.text ∙ e)).0 a.parsing.limits) after (record {
          number = 0;
          refusal = a.refusal;
          leaves = record { x = x; rest = []; text = a.text; says = rw (a.parsing.cap, a.parsing.count); filled = filled };
        })
