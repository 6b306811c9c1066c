-- A step along the rows says what it has to.
use Prim.Native.Nat.{ℕ, suc, ◌+◌, ◌-◌, ◌≤◌, ◌<◌}
use native.Mathlib.Omega.{arith}
use mathlib.Core.Path.{◌≡◌, refl, ap, ◌∙◌}
use mathlib.Core.List.{List}
use lib.ListN.{drop}
use Rattle.lists.specs.Lists.{◌!◌}
use Rattle.std.specs.Prelude.{Ok, Err}
use Rattle.answers.specs.declared.reasons.Refusal.{Refusal}
use Rattle.answers.specs.Said.{number_of}
use Rattle.joblist.specs.Limits.{most_jobs}
use Rattle.texts.specs.Tokens.{tokens}
use Rattle.texts.specs.Readings.{bad, good}
use Rattle.projects.specs.Projects.{Head, link}
use Rattle.rowheads.specs.Heads.{head_in}
use Rattle.walking.specs.Walk.{seeing, see, Fit, StepSays}
use Rattle.rowheads.specs.declared.Table.{Table}
use Rattle.walking.specs.declared.Walk.{Walk}
use Rattle.walking.specs.declared.Step.TheVariants.{Successor, Begun, Done}
use Rattle.walking.proofs.Seeing.{seeing_pair, seeing_bad, seeing_end, seeing_headless, seeing_row}
use Rattle.rowheads.proofs.Takes.{link_takes, head_in_takes}

module _ (n : ℕ) (table : Table) (res : ℕ) (s : List ℕ) (w : Walk) (f : Fit n w) where
  pub step_successor : (v to : ℕ) → 0 < w.left → link n (tokens (drop w.at s)) ≡ good v (tokens (drop to s))
      → StepSays n table res s w (Ok (Successor v (record { next = w.next; left = w.left - 1; at = to })))
  step_successor v to h e =
      let z : w.left ≡ suc (w.left - 1) = omega arith in
      let t = link_takes n v (tokens (drop w.at s)) (tokens (drop to s)) e in (
        ap (λ (x : ℕ). seeing n table res w.next x (tokens (drop w.at s))) z ∙ seeing_pair n table res w.next (w.left - 1) (tokens (drop w.at s)) v (tokens (drop to s)) e,
        record { begun = f.begun; owned = omega (arith, f.owned) },
        t.0,
        t.1,
        refl,
        omega arith,
      )

  pub step_refused : (c : Refusal) → 0 < w.left → link n (tokens (drop w.at s)) ≡ bad (number_of c) → StepSays n table res s w (Err c)
  step_refused c h e =
      let z : w.left ≡ suc (w.left - 1) = omega arith in
      ap (λ (x : ℕ). seeing n table res w.next x (tokens (drop w.at s))) z ∙ seeing_bad n table res w.next (w.left - 1) (tokens (drop w.at s)) (number_of c) e

  module _ (h : w.left ≤ 0) where
    none_left : see n table res s w ≡ seeing n table res w.next 0 (tokens (drop w.at s))
    none_left = let z : w.left ≡ 0 = omega arith in ap (λ (x : ℕ). seeing n table res w.next x (tokens (drop w.at s))) z

    pub step_done : w.next ≡ n → StepSays n table res s w (Ok Done)
    step_done e = (none_left ∙ seeing_end n table res w.next (tokens (drop w.at s)) (omega arith), e)

    pub step_headless : (c : Refusal) → (w.next ≡ n → ⊥) → head_in table n w.next (tokens (drop w.at s)) ≡ bad (number_of c) → StepSays n table res s w (Err c)
    step_headless c d e = none_left ∙ seeing_headless n table res w.next (tokens (drop w.at s)) (number_of c) (omega (arith, d, f.begun)) e

    pub step_begun : (d q m to : ℕ) (x : Head) → n ≤ most_jobs → (w.next ≡ n → ⊥) → head_in table n w.next (tokens (drop w.at s)) ≡ good x (tokens (drop to s))
        → x.duration ≡ d → x.demands ! res ≡ q → x.count ≡ m → StepSays n table res s w (Ok (Begun d q (record { next = w.next + 1; left = m; at = to })))
    step_begun d q m to x b g e p₁ p₂ p₃ =
        let t = head_in_takes table n w.next (tokens (drop w.at s)) (tokens (drop to s)) x e in
        let less : w.next < n = omega (arith, g, f.begun) in (
          none_left ∙ seeing_row n table res w.next (tokens (drop w.at s)) x (tokens (drop to s)) less e ∙ rw (p₁, p₂, p₃),
          record { begun = omega arith; owned = omega (arith, t.count, p₃) },
          t.fewer,
          omega (arith, t.duration, p₁),
          omega arith,
          refl,
          omega (arith, t.count, p₃),
        )
