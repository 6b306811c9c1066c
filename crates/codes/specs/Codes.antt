-- The tests of codes 21 to 27 in their order (document 01, 'Answer table'; document 02, Item 7), and when a code is given; `Facts` and `Faults` have what
-- each test stands for.
use Rattle.std.specs.Prelude.{ℕ, ◌+◌, ◌≤◌, ◌≡◌, Bool, not, List, ◌⊎◌, ltb, leb, eqb}
use Rattle.lists.specs.Lists.{◌!◌}
use Rattle.lists.specs.Tests.{both, where?, unless, every}
use Rattle.lists.specs.Sets.{total_of}
use Rattle.lists.specs.Spares.{spare}
use Rattle.narrowing.specs.Windows.{Win, Side, early, late}
use Rattle.members.specs.Members.{has, ones_of, places}
use Rattle.joblist.specs.Limits.{most_time}
use Rattle.journal.specs.Journal.{side_word, count_word, set_of_record, job_of, time_of, is_member}
use Rattle.timetable.specs.Time.{Jobs, sure}
use Rattle.timetable.specs.Reason.{named, Counted, Exceeds, Lean}
use Rattle.codes.specs.Facts.{side, InRange, Partners, StatedTrue, Tightens}
use Rattle.codes.specs.Faults.{OutOfRange, BadPartner, Untrue, Idles, HasSpare}

-- 21: job in the list, side at most 1, time at most its limit
unfoldable pub in_range : Jobs → List ℕ → Bool
in_range J x = both (ltb (job_of x) J.n) (both (leb (x ! side_word) 1) (leb (time_of x) most_time))

-- a job in the list, with a duration and a demand
unfoldable pub takes_part : Jobs → ℕ → Bool
takes_part J k = both (ltb k J.n) (both (leb 1 (J.p ! k)) (leb 1 (J.r ! k)))

-- 22: the moved job and every member take part, and the moved job is no member
unfoldable pub partners : Jobs → List ℕ → Bool
unfolding every has takes_part
partners J x =
    both (both (leb 1 (J.p ! job_of x)) (leb 1 (J.r ! job_of x)))
    (every (λ k. where? (is_member x k) (both (takes_part J k) (not (eqb k (job_of x))))) (places (set_of_record x)))

-- the moved job's own fact
abbrev pub own_true : List ℕ → Win → ℕ → Side → ℕ → Bool
own_true p W j early t = ltb t (W.e ! j + p ! j)
own_true p W j late t = leb (W.l ! j) (t + p ! j)

-- 25: the stated facts
unfoldable pub stated_true : Jobs → Win → List ℕ → Bool
unfolding every has sure
stated_true J W x =
    both (own_true J.p W (job_of x) (side x) (time_of x)) (every (λ k. where? (is_member x k) (sure J.p W k (time_of x))) (places (set_of_record x)))

-- 26: the change tightens
abbrev pub tightens : Win → ℕ → Side → ℕ → Bool
tightens W j early t = leb (W.e ! j) t
tightens W j late t = ltb t (W.l ! j)

-- 27: no member is spare
unfoldable pub lean : Jobs → List ℕ → Bool
unfolding every has spare
lean J x = every (λ k. not (spare J.n J.r (J.r ! job_of x) J.cap (is_member x) k)) (places (set_of_record x))

-- the code of the first test that fails, and 0 where none does
unfoldable pub code : Jobs → Win → List ℕ → ℕ
unfolding in_range partners ones_of total_of stated_true lean
code J W x =
    unless (in_range J x) 21
    (unless (partners J x) 22
    (unless (eqb (x ! count_word) (ones_of (set_of_record x))) 23
    (unless (ltb J.cap (named J x)) 24
    (unless (stated_true J W x) 25
    (unless (tightens W (job_of x) (side x) (time_of x)) 26
    (unless (lean J x) 27 0))))))

-- when code k is given: its fault is there and the facts of the codes before it hold; 0 stands for a good record
abbrev pub Coded : Jobs → Win → List ℕ → ℕ → Type 0
Coded J W x k =
    (OutOfRange J x × (21 ≡ k)) ⊎ (InRange J x
    × ((BadPartner J x × (22 ≡ k)) ⊎ (Partners J x
    × (((Counted x → ⊥) × (23 ≡ k)) ⊎ (Counted x
    × (((named J x ≤ J.cap) × (24 ≡ k)) ⊎ (Exceeds J x
    × ((Untrue J W x × (25 ≡ k)) ⊎ (StatedTrue J W x
    × ((Idles W (job_of x) (side x) (time_of x) × (26 ≡ k)) ⊎ (Tightens W (job_of x) (side x) (time_of x)
    × ((HasSpare J x × (27 ≡ k)) ⊎ (Lean J x × (0 ≡ k))))))))))))))
