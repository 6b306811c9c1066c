-- The next pair of a walk.
use Prim.Native.Nat.{ℕ, ◌-◌, ◌≤◌}
use native.Mathlib.Omega.{arith}
use mathlib.Core.Path.{◌≡◌, refl, sym, ap, ◌∙◌}
use mathlib.Core.List.{List, [], ◌∷◌}
use lib.ListN.{drop}
use Rattle.std.specs.Prelude.{Option, Some, None, Ok, Err}
use Rattle.answers.specs.declared.reasons.Refusal.{Refusal}
use Rattle.answers.specs.Said.{number_of}
use Rattle.chains.specs.Paths.{Pair, pair}
use Rattle.texts.specs.Tokens.{Token, tokens}
use Rattle.texts.specs.Readings.{Read, bad, good}
use Rattle.texts.proofs.Readings.{bad_not_good}
use Rattle.walking.specs.declared.Step.TheVariants as steps
use Rattle.walking.specs.Walk.{Seen, see, add_pair, add_row, StepSays}
use Rattle.walking.specs.Comes.{only_pairs}
use Rattle.precedence.specs.declared.text_pairs.TextPairs.{TextPairs}
use Rattle.precedence.specs.Pairs.{PullSays, Pulled, coming, left}

only_row : (d q : ℕ) (r : Read Seen) → only_pairs (add_row d q r) ≡ only_pairs r
only_row d q (bad c) = refl
only_row d q (good x ts) = refl

only_pair : (p : Pair) (r : Read Seen) (ps : List Pair) (end : List Token) → only_pairs (add_pair p r) ≡ good ps end
    → (rest : List Pair) × (ps ≡ p ∷ rest) × (only_pairs r ≡ good rest end)
only_pair p (bad c) ps end e = bad_not_good (bad c) c ps end refl e
only_pair p (good x ts) ps end e = let u : ts ≡ end = cc in (x.pairs, cc, rw u)

-- from s₀ to s there were heads of rows alone
pub record Pulling (s₀ s : TextPairs) : Type 0 where
  pub jobs : s.n ≡ s₀.n
  pub table : s.table ≡ s₀.table
  pub text : s.text.now ≡ s₀.text.now
  pub same : coming s₀ ≡ coming s
  pub later : left s ≤ left s₀

pub pulling_start : (s : TextPairs) → Pulling s s
pulling_start s = record { jobs = refl; table = refl; text = refl; same = refl; later = omega arith }

module _ (s₀ s : TextPairs) (g : Pulling s₀ s) where
  -- what is said of the walk from s on is said from s₀ on
  pulled : (r : Option (ℕ × ℕ)) → PullSays s₀.n s₀.table s₀.text.now s₀.walk r s.walk → Pulled s₀ r s
  pulled r h = record { says = h; jobs = g.jobs; table = g.table; text = g.text }

  pub pulling_done : StepSays s.n s.table 0 s.text.now s.walk (Ok steps.Done) → Pulled s₀ None s
  pulling_done t = pulled None (λ ps end e. let q : good [] (tokens (drop s.walk.at s.text.now)) ≡ good ps end = sym (ap only_pairs t.0) ∙ sym g.same ∙ e in cc)

  pub pulling_stop : (c : Refusal) → StepSays s.n s.table 0 s.text.now s.walk (Err c) → Pulled s₀ None s
  pulling_stop c t = pulled None (λ ps end e. bad_not_good (bad (number_of c)) (number_of c) ps end refl (sym (ap only_pairs t) ∙ sym g.same ∙ e))

  -- t is s with the walk one step on
  module _ (t : TextPairs) (n : t.n ≡ s.n) (table : t.table ≡ s.table) (text : t.text.now ≡ s.text.now) where
    pub pulling_row : (d q : ℕ) → StepSays s.n s.table 0 s.text.now s.walk (Ok (steps.Begun d q t.walk)) → Pulling s₀ t
    pulling_row d q h = record {
      jobs = n ∙ g.jobs;
      table = table ∙ g.table;
      text = text ∙ g.text;
      same = rw (n, table, text) (g.same ∙ ap only_pairs h.0 ∙ only_row d q (see s.n s.table 0 s.text.now t.walk));
      later = rw text (omega (arith, h.2, g.later));
    }

    pub pulling_pair : (v : ℕ) → StepSays s.n s.table 0 s.text.now s.walk (Ok (steps.Successor v t.walk)) → Pulled s₀ (Some (s.walk.next - 1, v)) t
    pulling_pair v h =
        record {
          says =
              rw (← g.jobs, ← g.table, ← g.text) (
                (λ ps end e. only_pair (pair (s.walk.next - 1) v) (see s.n s.table 0 s.text.now t.walk) ps end (sym (ap only_pairs h.0) ∙ sym g.same ∙ rw (g.jobs, g.table, g.text) at e)),
                h.1,
                (let k = rw (← g.text) at g.later in omega (arith, h.2, k)),
                omega (arith, s.fit.begun, s.fit.owned, h.5),
                h.3,
              );
          jobs = n ∙ g.jobs;
          table = table ∙ g.table;
          text = text ∙ g.text;
        }
