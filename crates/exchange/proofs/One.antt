-- Two answers to one call that meet the contract are equal, and so is every lent word; as Rattle values too.
use Prim.Native.Nat.{ℕ, zero, suc}
use native.Mathlib.Omega.{arith}
use mathlib.Core.Path.{◌≡◌, sym, ap, ◌∙◌, subst}
use mathlib.Core.List.{List, [], ◌∷◌}
use lib.ListN.{length}
use Rattle.lists.specs.Lists.{◌!◌}
use Rattle.lists.proofs.Lists.{same_list}
use Rattle.std.specs.Prelude.{Result}
use Rattle.answers.specs.declared.ProjectRead.{ProjectRead}
use Rattle.answers.specs.declared.reasons.Refusal.{Refusal}
use Rattle.answers.specs.Said.{Word, Said, said, says_read}
use Rattle.answers.proofs.Same.{read_same}
use Rattle.chains.specs.Paths.{Back}
use Rattle.chains.proofs.Chains.{longest_unique}
use Rattle.texts.proofs.Readings.{good_one}
use Rattle.projects.specs.Projects.{Project, pairs_of}
use Rattle.exchange.specs.Calls.{Lent, TextCall, TextAfter, Order, duration_of}
use Rattle.exchange.specs.Table.{Filled, Taken, Leaves, Answered}
use Rattle.exchange.specs.Promise.{Reads}
use Rattle.exchange.proofs.Tests.{refusal_one}

abbrev lists : List ℕ → List ℕ → List ℕ → List ℕ → List ℕ → List ℕ → Lent
lists e l d q j s = record { est = e; lct = l; dur = d; dem = q; jobs = j; successors = s }

-- the lists that a project fills are one
module _ (x : Project) (resource horizon : ℕ) (L A B : Lent) (f : Filled x resource horizon L A) (g : Filled x resource horizon L B) where
  one_est : A.est ≡ B.est
  one_est = same_list (length x.rows) A.est B.est f.est_long g.est_long (λ j b. longest_unique (Order x) (duration_of x) j (A.est ! j) (B.est ! j) (f.est j b) (g.est j b))

  one_lct : A.lct ≡ B.lct
  one_lct =
      same_list (length x.rows) A.lct B.lct f.lct_long g.lct_long (λ j b.
      let p = f.lct j b in
      let q = g.lct j b in
      omega (arith, p.2, q.2, longest_unique (Back (Order x)) (duration_of x) j p.0 q.0 p.1 q.1))

  filled_one : A ≡ B
  filled_one =
      let d : A.dur ≡ B.dur = f.dur ∙ sym g.dur in
      let q : A.dem ≡ B.dem = f.dem ∙ sym g.dem in
      let j : A.jobs ≡ B.jobs = f.jobs ∙ sym g.jobs in
      let k : A.successors ≡ B.successors = f.successors ∙ sym g.successors in
      lent_same A B one_est one_lct d q j k
    where
      lent_same : (A B : Lent) → A.est ≡ B.est → A.lct ≡ B.lct → A.dur ≡ B.dur → A.dem ≡ B.dem → A.jobs ≡ B.jobs → A.successors ≡ B.successors → A ≡ B
      lent_same A B e₁ e₂ e₃ e₄ e₅ e₆ =
          ap (λ (l : List ℕ). lists l A.lct A.dur A.dem A.jobs A.successors) e₁
          ∙ ap (λ (l : List ℕ). lists B.est l A.dur A.dem A.jobs A.successors) e₂
          ∙ ap (λ (l : List ℕ). lists B.est B.lct l A.dem A.jobs A.successors) e₃
          ∙ ap (λ (l : List ℕ). lists B.est B.lct B.dur l A.jobs A.successors) e₄
          ∙ ap (λ (l : List ℕ). lists B.est B.lct B.dur B.dem l A.successors) e₅
          ∙ ap (λ (l : List ℕ). lists B.est B.lct B.dur B.dem B.jobs l) e₆

taken_one : (c : TextCall) (a b : TextAfter) → Taken c a → Taken c b → a ≡ b
taken_one c a b t u =
    let e : u.x ≡ t.x = (good_one c.text u.x t.x u.rest t.rest u.text t.text).0 in
    let s : a.says ≡ b.says = t.says ∙ ap (λ (y : Project). said Word.read (y.capacities ! c.resource ∷ length (pairs_of y) ∷ [])) (sym e) ∙ sym u.says in
    let l : a.lent ≡ b.lent = filled_one t.x c.resource c.horizon c.lent a.lent b.lent t.filled (subst (λ (y : Project). Filled y c.resource c.horizon c.lent b.lent) e u.filled) in
    after_same a b s l
  where
    after_same : (a b : TextAfter) → a.says ≡ b.says → a.lent ≡ b.lent → a ≡ b
    after_same a b p q = ap (λ (s : Said). record { says = s; lent = a.lent }) p ∙ ap (λ (l : Lent). record { says = b.says; lent = l }) q

pub answered_one : (c : TextCall) (a b : TextAfter) → Answered c a → Answered c b → a ≡ b
answered_one c a b p q = go p.number p.leaves (subst (Leaves c b) (sym (refusal_one c p.number q.number p.refusal q.refusal)) q.leaves)
  where
    go : (k : ℕ) → Leaves c a k → Leaves c b k → a ≡ b
    go zero l m = taken_one c a b l m
    go (suc k) l m = l ∙ sym m

pub reads_one : (c : TextCall) (a b : TextAfter) → Reads c a → Reads c b → a ≡ b
reads_one c a b p q = answered_one c a b p.answered q.answered

-- two results and the lists that they leave
pub results_one : (c : TextCall) (r s : Result ProjectRead Refusal) (A B : Lent) → Reads c (record { says = says_read r; lent = A }) → Reads c (record { says = says_read s; lent = B }) → (r ≡ s) × (A ≡ B)
results_one c r s A B p q =
    let e = reads_one c (record { says = says_read r; lent = A }) (record { says = says_read s; lent = B }) p q in
    (read_same r s (ap (λ (y : TextAfter). y.says) e), ap (λ (y : TextAfter). y.lent) e)
