-- From the answer table to the contract of the writer: the text that it leaves says what it was given, and a reader gives it back (document 02, Item 13).
use Prim.Native.Nat.{ℕ, zero, suc, ◌≤◌, ◌<◌}
use native.Mathlib.Omega.{arith}
use mathlib.Core.Path.{◌≡◌, refl, sym, ap, ◌∙◌}
use mathlib.Core.List.{List, [], ◌∷◌, ◌++◌}
use mathlib.Core.Logic.{inl, inr, ◌↔◌}
use lib.ListN.{length, drop}
use lib.Seq.{take-append_seam}
use Rattle.lists.proofs.Every.{every_from}
use Rattle.answers.specs.Said.{Word, said}
use Rattle.joblist.specs.Limits.{most_time, most_demand}
use Rattle.joblist.specs.GoodList.{GoodList, refusal}
use Rattle.chains.specs.Paths.{Precedes, Cycle}
use Rattle.chains.specs.Listed.{Rising, NotRising}
use Rattle.texts.specs.Readings.{good}
use Rattle.projects.specs.Projects.{Project}
use Rattle.projects.specs.Patterson.{patterson}
use Rattle.projects.specs.Made.{made}
use Rattle.scribe.proofs.Rows.{made_back, pairs_back, durations_back, demands_back}
use Rattle.exchange.specs.Calls.{Lent, TextAfter}
use Rattle.exchange.specs.Promise.{Reads}
use Rattle.exchange.specs.Write.{WriteCall, WriteAfter, pairs_in, text_of, write_columns, alone, PairsTested, WriteRefusal, WriteAnswered, SaysSame, text_left, read_again, TakenAgain, Writes}
use Rattle.exchange.specs.WriteWhen.{WritePassed}
use Rattle.exchange.proofs.WriteTests.{by_lists, good_lists, behind_lists, left_by, written_exactly}
use Rattle.exchange.proofs.WriteWhen.{write_none}
use Rattle.exchange.proofs.RoundTrip.{given_back, taken_exactly}

-- ---- the text that is left says the same

module _ (c : WriteCall) (p : WritePassed c) where
  abbrev said_by : Project
  said_by = made c.cap c.dur c.dem (pairs_in c)

  text_back : patterson (text_of c) ≡ good said_by []
  text_back =
      made_back (length c.dur) c.cap c.dur c.dem c.jobs c.successors p.rising (sym p.even) refl p.lists.sized.1.0 p.lists.few (p.lists.beside.0 0)
      (every_from (λ x. x ≤ most_time) c.dur (λ i h. p.lists.within.0 i)) (every_from (λ x. x ≤ most_demand) c.dem (λ i h. p.lists.within.1.0 i))

  same_said : SaysSame c said_by
  same_said = record {
    capacity = refl;
    durations = durations_back (length c.dur) c.cap c.dur c.dem c.jobs c.successors p.rising (sym p.even) refl p.lists.sized.1.0;
    demands = demands_back (length c.dur) c.cap c.dur c.dem c.jobs c.successors p.rising (sym p.even) refl p.lists.sized.1.0;
    pairs = pairs_back (length c.dur) c.cap c.dur c.dem c.jobs c.successors p.rising (sym p.even) refl p.lists.sized.1.0;
  }

module _ (c : WriteCall) (a : WriteAfter) (r : WriteAnswered c a) (wrote : a.says.word ≡ Word.written) where
  none : WriteRefusal c 0
  none = (written_exactly c a r).0 wrote

  passed : WritePassed c
  passed = (write_none c).0 none

  left_says : patterson (text_left a) ≡ good (said_by c passed) []
  left_says =
      ap patterson (ap (λ (y : WriteAfter). text_left y) (left_by c a r 0 none) ∙ take-append_seam (text_of c) (drop (length (text_of c)) c.buffer))
      ∙ text_back c passed

pub writes_of : (c : WriteCall) (a : WriteAfter) → WriteAnswered c a → Writes c a
writes_of c a r = record {
  answered = r;
  readable = λ e. (said_by c (passed c a r e), left_says c a r e, same_said c (passed c a r e));
  back = λ e horizon L b q. given_back c a (passed c a r e) (said_by c (passed c a r e)) (left_says c a r e) (same_said c (passed c a r e)) horizon L b q.answered;
}

-- over both contracts: when the reader takes such a text
pub round_trip_exactly : (c : WriteCall) (a : WriteAfter) → Writes c a → a.says.word ≡ Word.written → (horizon : ℕ) (L : Lent) (b : TextAfter) → Reads (read_again a horizon L) b
    → (b.says.word ≡ Word.read) ↔ TakenAgain c horizon L
round_trip_exactly c a w e horizon L b q =
    let x = w.readable e in
    taken_exactly c a (passed c a w.answered e) x.0 x.1 x.2 horizon L b q.answered

-- ---- from what the parts say to the contract

module _ (c : WriteCall) where
  -- a refusal, with the buffer as it was
  abbrev Refuses : ℕ → Type 0
  Refuses k = Writes c (record { says = said Word.refused (k ∷ []); buffer = c.buffer })

  refuses : (k : ℕ) → (k ≡ 0 → ⊥) → WriteRefusal c k → Refuses k
  refuses zero f t = absurd (f refl)
  refuses (suc k) f t = writes_of c _ (record { number = suc k; refusal = t; leaves = refl })

  pub lists_refused : (k : ℕ) → (k ≡ 0 → ⊥) → k ≡ refusal (length c.dur) (write_columns c) (alone c) → Refuses k
  lists_refused k f e = refuses k f (by_lists c k f e)

  module _ (k : ℕ) (none : k ≡ 0) (tested : k ≡ refusal (length c.dur) (write_columns c) (alone c)) where
    lists_good : GoodList (length c.dur) (write_columns c) (alone c)
    lists_good = good_lists c (sym none ∙ tested)

    behind : (k : ℕ) → (k ≡ 0 → ⊥) → PairsTested c k → Refuses k
    behind k f t = refuses k f (behind_lists c k lists_good t)

    pub pairs_uneven : (length c.successors ≡ length c.jobs → ⊥) → Refuses 1
    pairs_uneven f = behind 1 (λ z. omega arith) (inl (f, refl))

    module _ (even : length c.successors ≡ length c.jobs) where
      pub not_rising : NotRising (length c.dur) c.jobs c.successors → Refuses 32
      not_rising f = behind 32 (λ z. omega arith) (inr (even, inl (f, refl)))

      module _ (rising : Rising (length c.dur) c.jobs c.successors) where
        pub cyclic : Cycle (Precedes (pairs_in c)) → Refuses 33
        cyclic f = behind 33 (λ z. omega arith) (inr (even, inr (rising, inl (f, refl))))

        module _ (acyclic : Cycle (Precedes (pairs_in c)) → ⊥) (after : List ℕ) where
          pub too_short : length c.buffer < length (text_of c) → after ≡ c.buffer → Writes c (record { says = said Word.refused (36 ∷ []); buffer = after })
          too_short f e = rw e (behind 36 (λ z. omega arith) (inr (even, inr (rising, inr (acyclic, inl (f, refl))))))

          pub wrote : (bytes : ℕ) → length (text_of c) ≤ length c.buffer → bytes ≡ length (text_of c) → after ≡ text_of c ++ drop (length (text_of c)) c.buffer
              → Writes c (record { says = said Word.written (bytes ∷ []); buffer = after })
          wrote bytes room d e =
              writes_of c _ (record {
                number = 0;
                refusal = (write_none c).1 (record { lists = lists_good; even = even; rising = rising; acyclic = acyclic; room = room });
                leaves = rw (d, e);
              })
