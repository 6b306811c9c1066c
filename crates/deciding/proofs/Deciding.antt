-- From what the parts say to what is decided, for a text of any layout that was parsed.
use Prim.Native.Nat.{ℕ, ◌≤◌, ◌<◌}
use native.Mathlib.Omega.{arith}
use mathlib.Core.Path.{◌≡◌, refl, sym, ap, ◌∙◌, subst}
use mathlib.Core.Bool.{true, false}
use mathlib.Core.List.{List, []}
use mathlib.Core.Logic.{inl, inr}
use lib.ListN.{length}
use lib.Seq.{get_or-take}
use Rattle.std.specs.Prelude.{Result, Err}
use Rattle.lists.specs.Lists.{◌!◌}
use Rattle.answers.specs.declared.reasons.Refusal as reasons
use Rattle.answers.specs.Said.{number_of}
use Rattle.joblist.specs.Limits.{most_time}
use Rattle.chains.specs.Paths.{Pair, Precedes, Below, Longer, weight}
use Rattle.chains.proofs.Chains.{chain_map}
use Rattle.texts.specs.Tokens.{Token}
use Rattle.texts.specs.Readings.{Read, bad, good}
use Rattle.projects.specs.Projects.{Project, pairs_of}
use Rattle.parsing.specs.Parsed.{Parsing}
use Rattle.parsing.specs.declared.Shape.{Shape}
use Rattle.parsing.proofs.Parsing.{parsing_range}
use Rattle.walking.specs.Comes.{rows_at}
use Rattle.precedence.specs.declared.text_pairs.TextPairs.{TextPairs}
use Rattle.precedence.specs.Pairs.{coming}
use Rattle.precedence.specs.Chains.{ChainsFound, OrderSays}
use Rattle.exchange.specs.Calls.{Lent, Order, duration_of}
use Rattle.exchange.specs.Tests.{ListsFit, Unfit, Met, Refusal, TooLong}
use Rattle.exchange.proofs.Tests.{none_tested, refusal_of_lem}
use Rattle.exchange.proofs.Asked.{asked}
use Rattle.lent.specs.declared.Sizes.{Sizes}
use Rattle.lent.specs.Parts.{RoomSays}
use Rattle.deciding.specs.Decided.{LongAs, Accepted}

-- a horizon above its limit, and a refusal that the text itself meets
module _ (t : Read Project) (res h : ℕ) (L : Lent) where
  pub too_far : most_time < h → Refusal (asked t res h L) 31
  too_far far = inl (far, refl)

  pub text_refused : h ≤ most_time → (k : ℕ) → t ≡ bad k → Refusal (asked t res h L) k
  text_refused near k e = inr (near, subst (λ (r : Read Project). Met r res h L k) (sym e) refl)

-- a text that says x
module _ (s : List ℕ) (res : ℕ) (durs dems : List ℕ) (z : Shape) (x : Project) (p : Parsing s res durs dems z x) where
  pub range : Below z.n (Order x)
  range = parsing_range s res durs dems z x p

  pub duration_at : (j : ℕ) → j < z.n → durs ! j ≡ duration_of x j
  duration_at j b = sym (get_or-take z.n durs j 0 b) ∙ ap (λ (l : List ℕ). l ! j) (sym p.durs_are)

  longer_out : (h : ℕ) → Longer (Order x) z.n (weight durs) h → TooLong x h
  longer_out h l = record {
    last = l.last;
    job = omega (arith, l.job, p.jobs);
    before = l.before;
    chain = chain_map (Order x) (Order x) (weight durs) (duration_of x) (λ a b q. (q, duration_at a (range a b q).0)) l.chain;
    over = omega (arith, l.over, duration_at l.last l.job);
  }

  longer_in : (h : ℕ) → TooLong x h → Longer (Order x) z.n (weight durs) h
  longer_in h l =
      let b : l.last < z.n = omega (arith, l.job, p.jobs) in
      record {
        last = l.last;
        job = b;
        before = l.before;
        chain = chain_map (Order x) (Order x) (duration_of x) (weight durs) (λ a b q. (q, sym (duration_at a (range a b q).0))) l.chain;
        over = omega (arith, l.over, duration_at l.last b);
      }

-- the tests of such a text, in lists of these lengths
module _ (t : Read Project) (res h : ℕ) (L : Lent) (m : Sizes) (long : LongAs L m) (near : h ≤ most_time) (s durs dems : List ℕ) (z : Shape)
    (u : (x : Project) × (t ≡ good x []) × Parsing s res durs dems z x) where
  abbrev x : Project
  x = u.0

  abbrev p : Parsing s res durs dems z u.0
  p = u.2

  -- what is said of the pairs of the text, read from where its rows begin
  pub ordered : (q : TextPairs) → (q.text.now ≡ s) × (q.n ≡ z.n) × (q.table ≡ z.table) × (q.walk ≡ rows_at z.at) → (heads tails : List ℕ) (r : Result Unit reasons.Refusal)
      → ((ps : List Pair) (end : List Token) → coming q ≡ good ps end → Below q.n (Precedes ps) → OrderSays ps q.n durs h heads tails r)
      → OrderSays (pairs_of x) z.n durs h heads tails r
  ordered q e heads tails r o = rw e.1 at (o (pairs_of x) p.end (rw (e.0, e.1, e.2, e.3) p.come) (rw e.1 (range s res durs dems z x p)))

  pub no_resource : z.k ≤ res → Refusal (asked t res h L) 37
  no_resource b = refusal_of_lem (asked t res h L) x [] u.1 37 near (inl (omega (arith, p.resources), refl))

  module _ (chosen : res < z.k) where
    pick : res < length x.capacities
    pick = omega (arith, p.resources)

    pub no_room : RoomSays m z.n z.pairs false → Refusal (asked t res h L) 38
    no_room f =
        let unfit : Unfit x L = rw (p.jobs, p.count, long.est, long.lct, long.dur, long.dem, long.jobs, long.successors) f in
        refusal_of_lem (asked t res h L) x [] u.1 38 near (inr (pick, inl (unfit, refl)))

    module _ (r : RoomSays m z.n z.pairs true) (heads tails : List ℕ) where
      fits : ListsFit x L
      fits = rw (p.jobs, p.count, long.est, long.lct, long.dur, long.dem, long.jobs, long.successors) r

      pub no_order : (c : reasons.Refusal) → OrderSays (pairs_of x) z.n durs h heads tails (Err c) → Refusal (asked t res h L) (number_of c)
      no_order c (inl q) = rw q.0 (refusal_of_lem (asked t res h L) x [] u.1 33 near (inr (pick, inr (fits, inl (q.1, refl)))))
      no_order c (inr q) = rw q.0 (refusal_of_lem (asked t res h L) x [] u.1 34 near (inr (pick, inr (fits, inr (q.1, inl (longer_out s res durs dems z x p h q.2, refl))))))

      pub all_passed : ChainsFound (pairs_of x) z.n durs h heads tails → Accepted (asked t res h L) s (record { heads = heads; tails = tails; dur = durs; dem = dems }) z
      all_passed o =
          let short : TooLong x h → ⊥ = λ l. o.short (longer_in s res durs dems z x p h l) in
          record {
            x = x;
            text = u.1;
            parsing = p;
            refusal = refusal_of_lem (asked t res h L) x [] u.1 0 near (none_tested x res h L (record { chosen = pick; fits = fits; acyclic = o.acyclic; short = short }));
            chains = o;
          }
