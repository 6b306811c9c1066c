-- Answers computed: with the longest chains and the test for a cycle as `chains` computes them, the answer to a call on a given text follows by
-- computation, whatever program meets the contract.
use Prim.Native.Nat.{ℕ, suc, ◌+◌, ◌≤◌, ◌<◌}
use native.Mathlib.Omega.{arith}
use mathlib.Core.Path.{◌≡◌, refl}
use mathlib.Core.Bool.{Bool, true, false}
use mathlib.Core.List.{List, [], ◌∷◌, ◌++◌, map}
use mathlib.Core.Logic.{inl, inr}
use lib.Dec.{eqb, leb}
use lib.ListN.{length, drop}
use borrow.Author.Tests.{eqb-true, leb-true}
use Rattle.lists.specs.Lists.{◌!◌}
use Rattle.lists.specs.Tests.{every}
use Rattle.lists.proofs.Tests.{every_at}
use Rattle.answers.specs.Said.{Word, said}
use Rattle.joblist.specs.Limits.{most_time}
use Rattle.chains.specs.Paths.{Pair, Precedes, Below, Cycle, Longest, Longer, Back, flipped}
use Rattle.chains.specs.Passes.{longest, acyclic?}
use Rattle.chains.proofs.Chains.{chain_map}
use Rattle.chains.proofs.Longest.{longest_chained, longest_is}
use Rattle.chains.proofs.Cycles.{judged_acyclic, cycle_back, cycle_map}
use Rattle.texts.specs.Readings.{Read, good}
use Rattle.projects.specs.Projects.{Project, pairs_of, durations, demands_on, WithinLimits}
use Rattle.chains.proofs.Flipped.{back_of, of_back, below_flipped}
use Rattle.exchange.specs.Calls.{Lent, TextAfter, Order, duration_of}
use Rattle.exchange.specs.Tests.{ListsFit, Tested}
use Rattle.exchange.specs.Promise.{Reads}
use Rattle.exchange.proofs.Tests.{refusal_of_lem, none_tested}
use Rattle.exchange.proofs.Asked.{asked, refused}
use Rattle.exchange.proofs.One.{answered_one}

-- the longest chains before each job, and after it
abbrev pub heads : Project → List ℕ
heads x = longest (duration_of x) (pairs_of x) (length x.rows)

abbrev pub tails : Project → List ℕ
tails x = longest (duration_of x) (flipped true (pairs_of x)) (length x.rows)

-- there is no cycle
abbrev pub calm? : Project → Bool
calm? x = acyclic? (pairs_of x) (length x.rows)

-- no chain is longer than h
abbrev pub short? : Project → ℕ → Bool
short? x h = every (λ j. leb (heads x ! j + duration_of x j) h) (length x.rows)

-- each latest end and the chain after its job make h
abbrev pub ends? : Project → ℕ → List ℕ → Bool
ends? x h lct = every (λ j. eqb (lct ! j + tails x ! j) h) (length x.rows)

module _ (t : Read Project) (x : Project) (e : t ≡ good x []) (limits : WithinLimits x) (res h : ℕ) (L : Lent) (near : h ≤ most_time) (a : TextAfter) (r : Reads (asked t res h L) a) where
  range : Below (length x.rows) (Order x)
  range = limits.range

  -- the number of the first test that fails, where one does
  pub by_number : (k : ℕ) → Tested x res h L (suc k) → a ≡ refused L (suc k)
  by_number k q =
      answered_one (asked t res h L) a (refused L (suc k)) r.answered (record { number = suc k; refusal = refusal_of_lem (asked t res h L) x [] e (suc k) near q; leaves = refl })

  module _ (chosen : res < length x.capacities) (fits : ListsFit x L) where
    pub by_33 : calm? x ≡ false → a ≡ refused L 33
    by_33 q = by_number 32 (inr (chosen, inr (fits, inl ((judged_acyclic (pairs_of x) (length x.rows) range).failed q, refl))))

    module _ (calm : calm? x ≡ true) where
      no_cycle : Cycle (Order x) → ⊥
      no_cycle = (judged_acyclic (pairs_of x) (length x.rows) range).passed calm

      pub by_34 : (j : ℕ) → j < length x.rows → h < heads x ! j + duration_of x j → a ≡ refused L 34
      by_34 j b q =
          by_number 33 (inr (chosen, inr (fits, inr (no_cycle, inl (record { last = j; job = b; before = heads x ! j; chain = longest_chained (duration_of x) (pairs_of x) (length x.rows) range j; over = q }, refl)))))

      head_is : (j : ℕ) → j < length x.rows → Longest (Order x) (duration_of x) j (heads x ! j)
      head_is = longest_is (duration_of x) (pairs_of x) (length x.rows) range no_cycle

      flipped_range : Below (length x.rows) (Precedes (flipped true (pairs_of x)))
      flipped_range = below_flipped true (pairs_of x) (length x.rows) range

      no_flipped : Cycle (Precedes (flipped true (pairs_of x))) → ⊥
      no_flipped c = no_cycle (cycle_back (Order x) (cycle_map (Precedes (flipped true (pairs_of x))) (Back (Order x)) (back_of (pairs_of x)) c))

      tail-is : (j : ℕ) → j < length x.rows → Longest (Back (Order x)) (duration_of x) j (tails x ! j)
      tail-is j b =
          let l = longest_is (duration_of x) (flipped true (pairs_of x)) (length x.rows) flipped_range no_flipped j b in
          record {
            one = chain_map (Precedes (flipped true (pairs_of x))) (Back (Order x)) (duration_of x) (duration_of x) (λ p q d. (back_of (pairs_of x) p q d, refl)) l.one;
            most = λ M c. l.most M (chain_map (Back (Order x)) (Precedes (flipped true (pairs_of x))) (duration_of x) (duration_of x) (λ p q d. (of_back (pairs_of x) p q d, refl)) c);
          }

      -- the text is read, and the lists are those computed
      pub by_reading : short? x h ≡ true → (lct : List ℕ) → length lct ≡ length x.rows → ends? x h lct ≡ true → length (heads x) ≡ length x.rows
          → a ≡ record {
            says = said Word.read (x.capacities ! res ∷ length (pairs_of x) ∷ []);
            lent = record {
              est = heads x;
              lct = lct;
              dur = durations x.rows;
              dem = demands_on res x.rows;
              jobs = map (λ (p : Pair). p.job) (pairs_of x) ++ drop (length (pairs_of x)) L.jobs;
              successors = map (λ (p : Pair). p.successor) (pairs_of x) ++ drop (length (pairs_of x)) L.successors;
            };
          }
      by_reading short lct long ends l =
          answered_one (asked t res h L) a _ r.answered (record {
            number = 0;
            refusal = refusal_of_lem (asked t res h L) x [] e 0 near (none_tested x res h L (record { chosen = chosen; fits = fits; acyclic = no_cycle; short = no_longer }));
            leaves = record {
              x = x;
              rest = [];
              text = e;
              says = refl;
              filled = record {
                est_long = l;
                lct_long = long;
                est = head_is;
                lct = λ j b. (tails x ! j, tail-is j b, eqb-true (lct ! j + tails x ! j) h (every_at (λ i. eqb (lct ! i + tails x ! i) h) (length x.rows) ends j b));
                dur = refl;
                dem = refl;
                jobs = refl;
                successors = refl;
              };
            };
          })
        where
          no_longer : Longer (Order x) (length x.rows) (duration_of x) h → ⊥
          no_longer q =
              omega (
                arith,
                (head_is q.last q.job).most q.before q.chain,
                leb-true (heads x ! q.last + duration_of x q.last) h (every_at (λ i. leb (heads x ! i + duration_of x i) h) (length x.rows) short q.last q.job),
                q.over,
              )
