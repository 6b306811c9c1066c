-- Wrong versions of the read head's call (document 02, Item 2) whose answer, bounds, windows or numbers are refuted by the rows of its answers and demand
-- 3, by the field of the farthest bounds, or by what the numbers count, each without the help of `answered`. The lists are runs of the table.
use Prim.Native.Nat.{ℕ, zero, suc, ◌≤◌, ◌<◌}
use native.Mathlib.Omega.{arith}
use mathlib.Core.Path.{◌≡◌, refl, sym, ap, subst, ◌∙◌}
use mathlib.Core.Bool.{true}
use mathlib.Core.List.{List, [], ◌∷◌}
use lib.Dec.{leb, eqb}
use borrow.Author.Tests.{eqb-true}
use Rattle.lists.specs.Lists.{◌!◌}
use Rattle.lists.specs.Tests.{both}
use Rattle.lists.specs.Sets.{Set, total_of}
use Rattle.narrowing.specs.Windows.{Win, Side, early, late, Long}
use Rattle.narrowing.specs.Rules.{Stable, Candidate}
use Rattle.narrowing.specs.Search.{Offered, Move, move}
use Rattle.answers.specs.Said.{Word, Said, said}
use Rattle.joblist.specs.GoodList.{refusal}
use Rattle.joblist.proofs.Refusals.{refusal_exactly}
use Rattle.promises.specs.Promise.{needs}
use Rattle.promises.specs.Plain.{task_of, unnumbered, numberless, Plain}
use Rattle.promises.specs.Counted.{Tally, ExactlyCounts}
use Rattle.promises.proofs.CountedLaws.{word_stays}
use Rattle.heads.specs.Precedences.{ComesFirst, StartsAfter, EndsBefore, Detects}
use Rattle.heads.specs.Search.{bound, detect}
use Rattle.heads.specs.Promise.{Left, sequenced, Farthest}
use Rattle.heads.proofs.Search.{yes_first, detect_searches}
use Rattle.worked.specs.Rows.{Job, windows_of, durations_of, span, spans}
use Rattle.worked.specs.HeadRuns.{head_job, head_clashes}
use Rattle.worked.specs.Sequenced.{crammed, touching, three_first, three_rounds}
use Rattle.worked.proofs.Sequenced.{head_pinned}
use Rattle.worked.proofs.HeadShutOut.{asked}

-- the answer but for its numbers, and the windows
abbrev PlainOn : List Job → Left → Type 0
PlainOn js a = Plain (task_of (asked js)) (numberless a)

abbrev FactsOn : List Job → Left → Type 0
FactsOn js a = ExactlyCounts (asked js) a

-- ---- refusing every list: jobs that touch are a good one (`Plain.refused`)

pub head_refusing_all : (a : Left) → PlainOn touching a → (k : ℕ) → a.says ≡ said Word.refused (k ∷ []) → ⊥
unfolding refusal
head_refusing_all a h k e =
    let x = (h.refused k).0 (ap (λ (y : Said). unnumbered y) e) in
    let z : 0 ≡ k = (refusal_exactly _ _ _ k).1 x.1 in
    omega (arith, x.0)

-- ---- a bound that stops at the first set, and not at the second and third job's (run 173)

abbrev other_two : Set
other_two k = both (leb 1 k) (leb k 2)

best_set : StartsAfter 4 (durations_of three_first) (windows_of three_first) 3 8
unfolding total_of
best_set =
    record {
      T = other_two;
      first = first;
      ends = record { from = 4; least = record { at = 1; below = omega arith; member = refl; is = refl; least = least }; is = refl };
      tightens = omega arith;
    }
  where
    first : (k : ℕ) → k < 4 → other_two k ≡ true → ComesFirst (durations_of three_first) (windows_of three_first) k 3
    first zero b t = let z : ◌≡◌ {A = ℕ} 0 1 = cc in absurd (omega arith)
    first (suc zero) b t = record { other = λ z. omega arith; lasts_j = omega arith; lasts_i = omega arith; exceeds = omega arith }
    first (suc (suc zero)) b t = record { other = λ z. omega arith; lasts_j = omega arith; lasts_i = omega arith; exceeds = omega arith }
    first (suc (suc (suc zero))) b t = let z : ◌≡◌ {A = ℕ} 0 1 = cc in absurd (omega arith)
    first (suc (suc (suc (suc k)))) b t = absurd (omega arith)

    least : (k : ℕ) → k < 4 → other_two k ≡ true → 4 ≤ (windows_of three_first).e ! k
    least zero b t = let z : ◌≡◌ {A = ℕ} 0 1 = cc in absurd (omega arith)
    least (suc zero) b t = omega arith
    least (suc (suc zero)) b t = omega arith
    least (suc (suc (suc zero))) b t = let z : ◌≡◌ {A = ℕ} 0 1 = cc in absurd (omega arith)
    least (suc (suc (suc (suc k)))) b t = absurd (omega arith)

-- by it nothing moves: the windows are not stable (`Plain.settled`)
pub first_set_alone : (a : Left) → PlainOn three_first a → a.says.word ≡ Word.settled → a.win ≡ windows_of three_first → ⊥
unfolding Stable
first_set_alone a h e w = (rw w at (h.settled (word_stays a.says.word a.says.numbers ∙ e)).1).one.stable 3 early 8 (omega arith) best_set

-- or 8 is reached set by set: the first move does not go to the farthest bound (`Sequences.settled_farthest`)
pub set_by_set : (a : Left) (t : Tally (asked three_first) a) (n : ℕ) (e : a.says ≡ said Word.settled (n ∷ []))
    → Farthest 4 (durations_of three_first) (t.settled n e).moves
    → (c : ℕ) (ms : List Move) → (t.settled n e).moves ≡ move (windows_of three_first) 3 early c ∷ ms → c < 8 → ⊥
unfolding best_set
set_by_set a t n e f c ms q b =
    let l = (subst (Farthest 4 (durations_of three_first)) q f).0 in
    omega (arith, l.most other_two 8 (λ k d m. yes_first (durations_of three_first) (windows_of three_first) k 3 (best_set.first k d m)) best_set.ends)

-- ---- a test for overload: three jobs for which there is no time, and no rule that applies (run 102), have to be settled (`Plain.clash`)

crammed_long : Long 3 (durations_of crammed) (windows_of crammed)
unfolding Long
crammed_long zero b = omega arith
crammed_long (suc zero) b = omega arith
crammed_long (suc (suc zero)) b = omega arith
crammed_long (suc (suc (suc k))) b = absurd (omega arith)

crammed_stable : Stable 3 (Detects 3 (durations_of crammed)) (windows_of crammed)
unfolding Stable detect
crammed_stable j s b h = go j s h b
  where
    at : (j : ℕ) (s : Side) → j < 3
        → Offered (Detects 3 (durations_of crammed) (windows_of crammed) j s) (bound 3 (durations_of crammed) s) (detect 3 (durations_of crammed) (windows_of crammed) j s)
    at j s h = (detect_searches 3 (durations_of crammed)).best-is (windows_of crammed) j s crammed_long h

    go : (j : ℕ) (s : Side) → j < 3 → (b : ℕ) → Detects 3 (durations_of crammed) (windows_of crammed) j s b → ⊥
    go zero early h = at 0 early h
    go zero late h = at 0 late h
    go (suc zero) early h = at 1 early h
    go (suc zero) late h = at 1 late h
    go (suc (suc zero)) early h = at 2 early h
    go (suc (suc zero)) late h = at 2 late h
    go (suc (suc (suc j))) s h = absurd (omega arith)

-- the submitted windows are among those looked for
crammed_candidate : Candidate 3 (durations_of crammed) (Detects 3 (durations_of crammed)) (windows_of crammed) (windows_of crammed)
crammed_candidate = record { inside = record { early = λ k b. omega arith; late = λ k b. omega arith }; stable = crammed_stable; long = crammed_long }

pub testing_for_overload : (a : Left) → PlainOn crammed a → a.says.word ≡ Word.clash → ⊥
testing_for_overload a h e = (h.clash (word_stays a.says.word a.says.numbers ∙ e)).1 (windows_of crammed) crammed_candidate

-- ---- windows left that are narrower than the largest: of the same list those submitted have to lie within them (`Plain.settled`)

pub narrower_than_the_largest : (a : Left) → PlainOn crammed a → a.says.word ≡ Word.settled → a.win.l ! 1 < 5 → ⊥
narrower_than_the_largest a h e b = omega (arith, ((h.settled (word_stays a.says.word a.says.numbers ∙ e)).1.holds (windows_of crammed) crammed_candidate).late 1 (omega arith))

-- ---- windows left that are wider: those of two rounds where the work takes three (run 177), the first job does not end by 6 there (`Plain.settled`)

abbrev two_rounds : Win
two_rounds = spans (span 3 7 ∷ span 5 10 ∷ span 1 4 ∷ [])

third_round : EndsBefore 3 (durations_of three_rounds) two_rounds 0 6
unfolding total_of
third_round =
    record {
      T = λ k. eqb k 1;
      last = λ k b t. rw (eqb-true k 1 t) (record { other = λ z. omega arith; lasts_j = omega arith; lasts_i = omega arith; exceeds = omega arith });
      begins = record {
        upto = 10;
        greatest = record { at = 1; below = omega arith; member = refl; is = refl; greatest = λ k b t. rw (eqb-true k 1 t) (omega arith) };
        is = refl;
      };
      tightens = omega arith;
    }

pub two_rounds_of_three : (a : Left) → PlainOn three_rounds a → a.says.word ≡ Word.settled → a.win ≡ two_rounds → ⊥
unfolding Stable
two_rounds_of_three a h e w = (rw w at (h.settled (word_stays a.says.word a.says.numbers ∙ e)).1).one.stable 0 late 6 (omega arith) third_round

-- ---- the numbers (`ExactlyCounts.settled`, `.clash`, `.moves`)

pub counting_a_move_more : (a : Left) → FactsOn three_first a → a.says ≡ said Word.settled (2 ∷ []) → ⊥
unfolding needs detect bound
counting_a_move_more a h e = let z : ◌≡◌ {A = ℕ} 2 1 = ((h.settled 2).0 e).1 in omega arith

-- of two jobs that want the same time the one is named that the work comes to first
pub naming_another_job : (a : Left) → FactsOn (head_job 0 3 2 ∷ head_job 0 3 2 ∷ []) a → a.says ≡ said Word.clash (1 ∷ 1 ∷ []) → ⊥
unfolding sequenced
naming_another_job a h e =
    let d = head_pinned (head_clashes 103 (head_job 0 3 2 ∷ head_job 0 3 2 ∷ []) 1 0) refl a h in
    let z : ◌≡◌ {A = ℕ} 0 1 = ap (λ (x : Said). x.numbers ! 1) (sym (ap (λ (x : Left). x.says) d) ∙ e) in
    omega arith
