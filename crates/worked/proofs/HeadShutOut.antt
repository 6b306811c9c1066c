-- Wrong versions of the read head's call (document 02, Item 2) whose answer or windows are refuted by schedules, that is by demand 2 of the contract alone,
-- without the help of `answered`: so no promise is empty. The lists are runs of the table. `HeadBoundShutOut` has those of bounds, windows and numbers.
use Prim.Native.Nat.{ℕ, zero, suc, ◌+◌, ◌≤◌, ◌<◌}
use native.Mathlib.Omega.{arith}
use mathlib.Core.Path.{◌≡◌, refl, sym, ◌∙◌}
use mathlib.Core.List.{List, [], ◌∷◌}
use Rattle.lists.specs.Lists.{◌!◌}
use Rattle.answers.specs.Said.{Word}
use Rattle.answers.proofs.Same.{not_said}
use Rattle.joblist.specs.GoodList.{refusal}
use Rattle.joblist.proofs.Refusals.{good}
use Rattle.promises.specs.Ask.{Ask, Good}
use Rattle.promises.specs.Promise.{Scheduled, AllFixed}
use Rattle.promises.specs.Counted.{KeptUnder}
use Rattle.heads.specs.Precedences.{Overlap, Apart}
use Rattle.heads.specs.Promise.{head_ask, Left}
use Rattle.worked.specs.Rows.{Job, windows_of, durations_of}
use Rattle.worked.specs.HeadRuns.{head_job}
use Rattle.worked.specs.Sequenced.{touching, overlapping}

abbrev pub asked : List Job → Ask
asked js = head_ask (windows_of js) (durations_of js)

-- demand 2 of it
abbrev KeptOn : List Job → Left → Type 0
KeptOn js a = KeptUnder (asked js) (Unit {0}) a.says a.win

-- ---- settling all: of fixed jobs that overlap it has to be a clash (`Kept.fixed`)

overlapping_good : Good (asked overlapping)
unfolding refusal
overlapping_good = good _ _ _ refl

overlapping_fixed : AllFixed (asked overlapping)
overlapping_fixed zero b = refl
overlapping_fixed (suc zero) b = refl
overlapping_fixed (suc (suc k)) b = absurd (omega arith)

overlap : Overlap 2 (2 ∷ 2 ∷ []) (0 ∷ 1 ∷ [])
overlap =
    record {
      i = 0;
      j = 1;
      listed_i = omega arith;
      listed_j = omega arith;
      two = λ z. omega arith;
      lasts_i = omega arith;
      lasts_j = omega arith;
      before = omega arith;
      after = omega arith;
    }

pub head_settling_all : (a : Left) → KeptOn overlapping a → a.says.word ≡ Word.settled → ⊥
head_settling_all a h e = not_said Word.clash Word.settled (λ z. omega arith) (sym ((h.fixed overlapping_good overlapping_fixed tt).1 overlap) ∙ e)

-- ---- clashing always: fixed jobs that touch are a schedule (`Kept.none`)

touching_apart : Apart 2 (2 ∷ 2 ∷ []) (0 ∷ 2 ∷ [])
touching_apart o = go o.i o.j o.listed_i o.listed_j o.two o.before o.after
  where
    go : (i j : ℕ) → i < 2 → j < 2 → (i ≡ j → ⊥) → (0 ∷ 2 ∷ []) ! i < (0 ∷ 2 ∷ []) ! j + (2 ∷ 2 ∷ []) ! j → (0 ∷ 2 ∷ []) ! j < (0 ∷ 2 ∷ []) ! i + (2 ∷ 2 ∷ []) ! i → ⊥
    go zero zero b c d x y = d refl
    go zero (suc zero) b c d x y = omega (arith, y)
    go (suc zero) zero b c d x y = omega (arith, x)
    go (suc zero) (suc zero) b c d x y = d refl
    go (suc (suc i)) j b c d x y = omega arith
    go zero (suc (suc j)) b c d x y = omega arith
    go (suc zero) (suc (suc j)) b c d x y = omega arith

-- starts of two jobs that do not overlap and lie within the windows
two_scheduled : (x y : Job) (s t : ℕ) → x.e ≤ s → s + x.p ≤ x.l → y.e ≤ t → t + y.p ≤ y.l → Apart 2 (x.p ∷ y.p ∷ []) (s ∷ t ∷ [])
    → Scheduled (asked (x ∷ y ∷ [])) (windows_of (x ∷ y ∷ [])) (s ∷ t ∷ [])
two_scheduled x y s t a b c d f = record { from = from; to = to; fits = f }
  where
    from : (k : ℕ) → k < 2 → (x.e ∷ y.e ∷ []) ! k ≤ (s ∷ t ∷ []) ! k
    from zero h = a
    from (suc zero) h = c
    from (suc (suc k)) h = absurd (omega arith)

    to : (k : ℕ) → k < 2 → (s ∷ t ∷ []) ! k + (x.p ∷ y.p ∷ []) ! k ≤ (x.l ∷ y.l ∷ []) ! k
    to zero h = b
    to (suc zero) h = d
    to (suc (suc k)) h = absurd (omega arith)

pub head_clashing_always : (a : Left) → KeptOn touching a → a.says.word ≡ Word.clash → ⊥
head_clashing_always a h e = h.none e _ (two_scheduled (head_job 0 2 2) (head_job 2 4 2) 0 2 (omega arith) (omega arith) (omega arith) (omega arith) touching_apart)

-- ---- a job of duration 0 that moves, or that is counted: it may lie anywhere in its window beside the other, and that one in its own (`Kept.schedules`)

one_lasts : (q r s t : ℕ) → (1 ≤ q → 1 ≤ r → ⊥) → Apart 2 (q ∷ r ∷ []) (s ∷ t ∷ [])
one_lasts q r s t f o = go o.i o.j o.listed_i o.listed_j o.two o.lasts_i o.lasts_j
  where
    go : (i j : ℕ) → i < 2 → j < 2 → (i ≡ j → ⊥) → 1 ≤ (q ∷ r ∷ []) ! i → 1 ≤ (q ∷ r ∷ []) ! j → ⊥
    go zero zero b c d x y = d refl
    go zero (suc zero) b c d x y = f x y
    go (suc zero) zero b c d x y = f y x
    go (suc zero) (suc zero) b c d x y = d refl
    go (suc (suc i)) j b c d x y = omega arith
    go zero (suc (suc j)) b c d x y = omega arith
    go (suc zero) (suc (suc j)) b c d x y = omega arith

-- of two jobs, of which one has duration 0: any start of the first within its window is left to it
module _ (x y : Job) (a : Left) (h : KeptOn (x ∷ y ∷ []) a) (f : 1 ≤ x.p → 1 ≤ y.p → ⊥) (s : ℕ) (c : x.e ≤ s) (d : s + x.p ≤ x.l) (g : y.e + y.p ≤ y.l) where
  start_left : Scheduled (asked (x ∷ y ∷ [])) a.win (s ∷ y.e ∷ [])
  start_left = h.schedules _ (two_scheduled x y s y.e c d (omega arith) g (one_lasts x.p y.p s y.e f))

  left_early : a.win.e ! 0 ≤ s
  left_early = start_left.from 0 (omega arith)

  left_late : s + x.p ≤ a.win.l ! 0
  left_late = start_left.to 0 (omega arith)

pub moving_duration_0 : (a : Left) → KeptOn (head_job 1 9 0 ∷ head_job 0 4 4 ∷ []) a → 1 < a.win.e ! 0 → ⊥
moving_duration_0 a h b = omega (arith, left_early (head_job 1 9 0) (head_job 0 4 4) a h (λ x y. omega arith) 1 (omega arith) (omega arith) (omega arith))

pub moving_duration_0_late : (a : Left) → KeptOn (head_job 0 3 0 ∷ head_job 0 4 4 ∷ []) a → a.win.l ! 0 < 3 → ⊥
moving_duration_0_late a h b = omega (arith, left_late (head_job 0 3 0) (head_job 0 4 4) a h (λ x y. omega arith) 3 (omega arith) (omega arith) (omega arith))

pub counting_duration_0 : (a : Left) → KeptOn (head_job 0 11 6 ∷ head_job 5 5 0 ∷ []) a → 0 < a.win.e ! 0 → ⊥
counting_duration_0 a h b = omega (arith, left_early (head_job 0 11 6) (head_job 5 5 0) a h (λ x y. omega arith) 0 (omega arith) (omega arith) (omega arith))

pub counting_duration_0_late : (a : Left) → KeptOn (head_job 0 11 6 ∷ head_job 6 6 0 ∷ []) a → a.win.l ! 0 < 11 → ⊥
counting_duration_0_late a h b = omega (arith, left_late (head_job 0 11 6) (head_job 6 6 0) a h (λ x y. omega arith) 5 (omega arith) (omega arith) (omega arith))
