-- Two results of a user's function are equal, with every lent word: by the laws of the desk.
use Prim.Native.Nat.{ℕ}
use mathlib.Core.Path.{◌≡◌, refl, sym, ap, ◌∙◌}
use mathlib.Core.Bool.{Bool, true, false}
use mathlib.Core.List.{List}
use mathlib.Core.Logic.{◌↔◌}
use Rattle.answers.specs.Said.{Word}
use Rattle.desk.specs.Lists.{Win}
use Rattle.desk.specs.Narrowing.{Call, After}
use Rattle.desk.specs.Checking.{Checked}
use Rattle.desk.specs.Conflicts.{Blamed}
use Rattle.desk.specs.Sequencing.{Left}
use Rattle.desk.specs.Reading.{Lent, TextCall, TextAfter}
use Rattle.desk.proofs.Narrowing.{narrows_same}
use Rattle.desk.proofs.Checking.{checks_same}
use Rattle.desk.proofs.Conflicts.{blames_same}
use Rattle.desk.proofs.Sequencing as head
use Rattle.desk.proofs.Reading.{reads_one}
use Rattle.caller.specs.Told.{ToldSettles, ToldHolds, ToldHopeless, ToldSequences, ToldReads}

-- results that are true exactly where the word is w, of one word
same_result : (r q : Bool) (a b w : Word) → a ≡ b → (r ≡ true) ↔ (a ≡ w) → (q ≡ true) ↔ (b ≡ w) → r ≡ q
same_result true true a b w e f g = refl
same_result false false a b w e f g = refl
same_result true false a b w e f g = sym (g.1 (sym e ∙ f.0 refl))
same_result false true a b w e f g = f.1 (e ∙ g.0 refl)

pub settles_same : (c : Call) (U W : Win) (log other : List ℕ) (r q : Bool) → ToldSettles c U log r → ToldSettles c W other q → (r ≡ q) × (U ≡ W) × (log ≡ other)
settles_same c U W log other r q f g =
    let h = narrows_same c _ _ f.narrows g.narrows in (
      same_result r q _ _ Word.settled (ap (λ (x : After). x.says.word) h) f.settled g.settled,
      ap (λ (x : After). x.win) h,
      ap (λ (x : After). x.log) h,
    )

pub holds_same : (c : Call) (count : ℕ) (U W : Win) (r q : Bool) → ToldHolds c count U r → ToldHolds c count W q → (r ≡ q) × (U ≡ W)
holds_same c count U W r q f g =
    let h = checks_same c count _ _ f.checks g.checks in
    (same_result r q _ _ Word.holds (ap (λ (x : Checked). x.says.word) h) f.holds g.holds, ap (λ (x : Checked). x.win) h)

pub hopeless_same : (c : Call) (count : ℕ) (r q : Bool) → ToldHopeless c count r → ToldHopeless c count q → r ≡ q
hopeless_same c count r q f g =
    same_result r q _ _ Word.marked (ap (λ (x : Blamed). x.says.word) (blames_same c count _ _ f.blames g.blames)) f.marked g.marked

pub sequences_same : (W : Win) (p : List ℕ) (U X : Win) (r q : Bool) → ToldSequences W p U r → ToldSequences W p X q → (r ≡ q) × (U ≡ X)
sequences_same W p U X r q f g =
    let h = head.sequences_same W p _ _ f.sequences g.sequences in
    (same_result r q _ _ Word.settled (ap (λ (x : Left). x.says.word) h) f.settled g.settled, ap (λ (x : Left). x.win) h)

pub reads_same : (c : TextCall) (L K : Lent) (r q : Bool) → ToldReads c L r → ToldReads c K q → (r ≡ q) × (L ≡ K)
reads_same c L K r q f g =
    let h = reads_one c _ _ f.reads g.reads in
    (same_result r q _ _ Word.read (ap (λ (x : TextAfter). x.says.word) h) f.read g.read, ap (λ (x : TextAfter). x.lent) h)
