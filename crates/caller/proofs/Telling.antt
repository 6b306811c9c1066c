-- What each function tells, from the promise of the call that it made and the word of the answer.
use Prim.Native.Nat.{ℕ}
use native.Mathlib.Omega.{arith}
use mathlib.Core.Path.{◌≡◌, refl, ap}
use mathlib.Core.Bool.{Bool, true}
use mathlib.Core.List.{List, [], ◌∷◌}
use mathlib.Core.Logic.{◌⊎◌, inl, inr, ◌↔◌}
use Rattle.answers.specs.declared.Answer.{Answer}
use Rattle.answers.specs.declared.CheckAnswer.{CheckAnswer}
use Rattle.answers.specs.declared.ProjectRead.{ProjectRead}
use Rattle.answers.specs.declared.reasons.Refusal.{Refusal}
use Rattle.std.specs.Prelude.{Result}
use Rattle.answers.specs.Said.{Word, Said, said, says, says_check, says_read, says_conflict}
use Rattle.desk.specs.Lists.{Win, Set, has}
use Rattle.desk.specs.AnyRules.{needs}
use Rattle.desk.specs.Narrowing.{Call, leaves, Narrows}
use Rattle.desk.specs.Checking.{finds, Checks}
use Rattle.desk.specs.Conflicts.{Among, blame, Blames}
use Rattle.desk.specs.Sequencing.{head_ask, left, Sequences}
use Rattle.desk.specs.Reading.{Lent, TextCall, Reads}
use Rattle.desk.proofs.Conflicts.{all_listed, none_elsewhere}
use Rattle.desk.proofs.Sequencing.{counts_settled, counts_decided}
use Rattle.caller.specs.Told.{ToldSettles, ToldHolds, ToldHopeless, ToldSequences, ToldReads}

pub tells_settles : (c : Call) (U : Win) (log : List ℕ) (a : Answer) (r : Bool) → Narrows c (leaves (says a) U log) → (r ≡ true) ↔ ((says a).word ≡ Word.settled)
    → ToldSettles c U log r
tells_settles c U log a r h e =
    record {
      says = says a;
      narrows = h;
      settled = e;
      free = λ g b. let x = (h.largest g).free b in ((λ z. x.1.0 (e.0 z), λ w. e.1 (x.1.1 w)), λ f. x.2.0 (clashes x.0 f));
    }
  where
    clashes : ((says a).word ≡ Word.settled) ⊎ ((says a).word ≡ Word.clash) → (r ≡ true → ⊥) → (says a).word ≡ Word.clash
    clashes (inl s) f = absurd (f (e.1 s))
    clashes (inr s) f = s

pub tells_holds : (c : Call) (count : ℕ) (U : Win) (a : CheckAnswer) (r : Bool) → Checks c count (finds (says_check a) U) → (r ≡ true) ↔ ((says_check a).word ≡ Word.holds)
    → ToldHolds c count U r
tells_holds c count U a r h e = record { says = says_check a; checks = h; holds = e }

-- the jobs are among those of their own list
own_among : (M : Set) (c : Call) → Among M c c (λ k. k)
own_among M c =
    record {
      listed = λ k b h. b;
      apart = λ i k b d h g e. e;
      early = λ k b h. omega arith;
      late = λ k b h. omega arith;
      lasts = λ k b h. omega arith;
      takes = λ k b h. omega arith;
      supply = omega arith;
    }

pub tells_hopeless : (c : Call) (count : ℕ) (a : Result ℕ Refusal) (set : List ℕ) (r : Bool) → Blames c count (blame (says_conflict a) set)
    → (r ≡ true) ↔ ((says_conflict a).word ≡ Word.marked) → ToldHopeless c count r
tells_hopeless c count a set r h e =
    record {
      says = says_conflict a;
      set = set;
      blames = h;
      marked = e;
      listed = λ z. all_listed c count _ h.exactly (e.0 z);
      none = λ z. (none_elsewhere c count _ h (e.0 z) c (λ k. k) (own_among (has set) c)).1;
    }

pub tells_sequences : (W : Win) (p : List ℕ) (U : Win) (a : Answer) (r : Bool) → Sequences W p (left (says a) U) → (r ≡ true) ↔ ((says a).word ≡ Word.settled)
    → ToldSequences W p U r
tells_sequences W p U a r h e =
    record {
      says = says a;
      sequences = h;
      settled = e;
      free = λ g. (
        (λ z. (U, (counts_settled (head_ask W p) (left (says a) U) h.counts (e.0 z)).1.one), λ x. e.1 (word ((h.counts.exactly.settled (needs (head_ask W p))).1 (g, refl, x)))),
        λ f. h.counts.kept.none (clashes f (counts_decided (head_ask W p) (left (says a) U) h.counts g)),
      );
    }
  where
    word : {x y : Said} → x ≡ y → x.word ≡ y.word
    word q = ap (λ (z : Said). z.word) q

    clashes : (r ≡ true → ⊥)
        → (says a ≡ said Word.settled (needs (head_ask W p) ∷ [])) ⊎ ((j : ℕ) × (says a ≡ said Word.clash (needs (head_ask W p) ∷ j ∷ [])))
        → (says a).word ≡ Word.clash
    clashes f (inl q) = absurd (f (e.1 (word q)))
    clashes f (inr (j, q)) = word q

pub tells_reads : (c : TextCall) (L : Lent) (a : Result ProjectRead Refusal) (r : Bool) → Reads c (record { says = says_read a; lent = L }) → (r ≡ true) ↔ ((says_read a).word ≡ Word.read)
    → ToldReads c L r
tells_reads c L a r h e = record { says = says_read a; reads = h; read = e; long = λ z. h.long (e.0 z) }
