-- The round trip (document 02, Item 13), over the answer tables of both calls: Item 1's reader, with any horizon that it takes, gives back the capacity, the
-- durations, the demands and the pairs that the writer was given; and which horizons and lists it takes.
use Prim.Native.Nat.{ℕ, ◌<◌}
use native.Mathlib.Omega.{arith}
use mathlib.Core.Path.{◌≡◌, sym, ap, ◌∙◌}
use mathlib.Core.List.{[]}
use mathlib.Core.Logic.{◌↔◌}
use lib.ListN.{length, length-map}
use Rattle.answers.specs.Said.{Word}
use Rattle.chains.specs.Paths.{Precedes, Cycle}
use Rattle.chains.proofs.Listed.{paired_length, paired_jobs, paired_successors}
use Rattle.texts.specs.Readings.{good}
use Rattle.texts.proofs.Readings.{good_one}
use Rattle.projects.specs.Projects.{Row, Project, pairs_of}
use Rattle.projects.specs.Patterson.{patterson}
use Rattle.exchange.specs.Calls.{Lent, TextAfter}
use Rattle.exchange.specs.Table.{Answered}
use Rattle.exchange.specs.Write.{WriteCall, WriteAfter, SaysSame, text_left, GivenBack, read_again, TakenAgain}
use Rattle.exchange.specs.WriteWhen.{WritePassed}
use Rattle.exchange.proofs.Tests.{none_tested, refusal_of_lem, refusal_none}
use Rattle.exchange.proofs.Meaning.{read_taken}
use Rattle.exchange.proofs.When.{read_exactly}

module _ (c : WriteCall) (a : WriteAfter) (p : WritePassed c) (x : Project) (text : patterson (text_left a) ≡ good x []) (same : SaysSame c x) (horizon : ℕ) (L : Lent) (b : TextAfter)
    (r : Answered (read_again a horizon L) b) where
  count : length (pairs_of x) ≡ length c.jobs
  count = ap length same.pairs ∙ paired_length c.jobs c.successors p.even

  pub given_back : b.says.word ≡ Word.read → GivenBack c L b
  given_back e =
      let t = (read_taken (read_again a horizon L) b r e).0 in
      let q : t.x ≡ x = (good_one (patterson (text_left a)) t.x x t.rest [] t.text text).0 in
      let f = rw q at t.filled in
      record {
        says = t.says ∙ rw (q, same.capacity, count);
        dur = f.dur ∙ same.durations;
        dem = f.dem ∙ same.demands;
        jobs = f.jobs ∙ rw (count, same.pairs, paired_jobs c.jobs c.successors p.even);
        successors = f.successors ∙ rw (count, same.pairs, paired_successors c.jobs c.successors p.even);
      }

  -- ---- when such a text is read

  rows_are : length x.rows ≡ length c.dur
  rows_are = sym (length-map x.rows (λ (y : Row). y.duration)) ∙ ap length same.durations

  pub taken_exactly : (b.says.word ≡ Word.read) ↔ TakenAgain c horizon L
  taken_exactly = (
    (λ e.
        let n = refusal_none (read_again a horizon L) x [] text ((read_exactly (read_again a horizon L) b r).0 e) in
        (n.0, rw (← rows_are, ← count) n.1.fits, rw (← rows_are, ← same.pairs, ← same.durations) n.1.short)),
    (λ q.
        (read_exactly (read_again a horizon L) b r).1
        (refusal_of_lem (read_again a horizon L) x [] text 0 q.0 (none_tested x 0 horizon L (record { chosen = one; fits = rw (rows_are, count) q.1; acyclic = none; short = rw (rows_are, same.pairs, same.durations) q.2 })))),
  )
    where
      one : 0 < length x.capacities
      one = omega (arith, ap length same.capacity)

      none : Cycle (Precedes (pairs_of x)) → ⊥
      none = rw same.pairs p.acyclic
