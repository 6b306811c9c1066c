-- The wrong planners that document 01 names under 'How firm the statements are', and one that does not stop, each refuted by the field of the contract that 01
-- names for it, without the help of `answered`: so no promise is empty. `CheckShutOut` has those of the checker, `overloads` those of the overload check.
use Prim.Native.Nat.{ℕ, zero, suc, ◌+◌, ◌≤◌, ◌<◌}
use native.Mathlib.Omega.{arith}
use mathlib.Core.Path.{◌≡◌, refl, sym, ap, subst, ◌∙◌}
use mathlib.Core.Bool.{Bool, true, false}
use mathlib.Core.List.{List, [], ◌∷◌, ◌++◌}
use mathlib.Core.Option.{some}
use mathlib.Core.Logic.{inl, inr}
use lib.ListN.{length, take, length-append}
use Rattle.lists.specs.Lists.{◌!◌}
use Rattle.lists.specs.Tests.{only}
use Rattle.narrowing.specs.Windows.{Win, Side, early, late, Long, moved}
use Rattle.narrowing.specs.Search.{Move}
use Rattle.narrowing.specs.Run.{reached_by}
use Rattle.narrowing.specs.Led.{Clashed}
use Rattle.narrowing.specs.Rounds.{Chosen}
use Rattle.answers.specs.Said.{Word, said}
use Rattle.journal.specs.Journal.{room_of}
use Rattle.promises.specs.Promise as promise
use Rattle.promises.proofs.Calls.{admitted_not_away}
use Rattle.timetable.specs.Time.{runs_at, drawn, Fits, Early, Applies, bound}
use Rattle.timetable.specs.Search.{crowded, best, search}
use Rattle.timetable.specs.Table.{Call, jobs_of, asks, Good, Admitted, refusal_of, After}
use Rattle.timetable.specs.Reasons.{Reasons}
use Rattle.timetable.specs.Promise.{Scheduled, Room, RefusedRow, Exactly, Kept, Narrowest}
use Rattle.timetable.proofs.Facts.{crowded_yes, runs_yes}
use Rattle.timetable.proofs.Calls.{admitted_call}
use Rattle.worked.specs.Rows.{job}
use Rattle.worked.specs.Runs.{lent}
use Rattle.worked.specs.Checks.{case_two, example}
use Rattle.worked.specs.Ragged.{case_five, case_six}

-- cases 2, 5 and 6 of the runs on the record
abbrev case2 : Call
case2 = lent 5 case_two 1

abbrev case5 : Call
case5 = lent 1 case_five 8

abbrev case6 : Call
case6 = lent 1 case_six 3

-- ---- refusing every list: a refusal is given exactly when its row says so (`exactly`), and case 5 is a good list with room for the work

admitted5 : Admitted case5
unfolding refusal_of
admitted5 = admitted_call case5 refl

room5 : Room case5
unfolding promise.needs best room_of
room5 = (admitted5.1, omega arith)

pub refusing_all : (a : After) → Exactly case5 a → (k : ℕ) → a.says ≡ said Word.refused (k ∷ []) → ⊥
refusing_all a h k e = go ((h.refused k).0 e)
  where
    go : RefusedRow case5 k → ⊥
    go (inl t) = admitted_not_away (asks case5) admitted5 k t
    go (inr (q, g, b)) = omega (arith, room5.1)

-- ---- settling everything with nothing moved: on case 2 a rule still applies

good2 : Good case2
unfolding refusal_of
good2 = (admitted_call case2 refl).0

crowded2 : crowded (jobs_of case2) case2.win 0 4 ≡ true
unfolding crowded
crowded2 = refl

rule2 : Early (jobs_of case2) case2.win 0 4
rule2 = record { from = omega arith; to = omega arith; crowded = crowded_yes (jobs_of case2) case2.win 0 4 crowded2 }

pub settling_all : (a : After) → (Good case2 → Narrowest case2 a) → a.says.word ≡ Word.settled → a.win ≡ case2.win → ⊥
unfolding Rattle.narrowing.specs.Rules.Stable
settling_all a h e w = (rw w at ((h good2).settled e)).one.stable 0 early 5 (omega arith) rule2

-- ---- clashing always: case 5 has a schedule, 0 and 2

fits5 : Fits (jobs_of case5) (0 ∷ 2 ∷ [])
unfolding Fits drawn Rattle.lists.specs.Sums.total
fits5 t = go (runs_at (2 ∷ 2 ∷ []) (0 ∷ 2 ∷ []) 0 t) refl (runs_at (2 ∷ 2 ∷ []) (0 ∷ 2 ∷ []) 1 t) refl
  where
    go : (x : Bool) → runs_at (2 ∷ 2 ∷ []) (0 ∷ 2 ∷ []) 0 t ≡ x → (y : Bool) → runs_at (2 ∷ 2 ∷ []) (0 ∷ 2 ∷ []) 1 t ≡ y → 0 + only x 1 + only y 1 ≤ 1
    go true a true b = absurd (let q = runs_yes (2 ∷ 2 ∷ []) (0 ∷ 2 ∷ []) 0 t a in let r = runs_yes (2 ∷ 2 ∷ []) (0 ∷ 2 ∷ []) 1 t b in omega (arith, q.to, r.from))
    go true a false b = omega arith
    go false a true b = omega arith
    go false a false b = omega arith

schedule5 : Scheduled case5 case5.win (0 ∷ 2 ∷ [])
schedule5 = record { from = from; to = to; fits = fits5 }
  where
    from : (k : ℕ) → k < 2 → case5.win.e ! k ≤ (0 ∷ 2 ∷ []) ! k
    from zero b = omega arith
    from (suc zero) b = omega arith
    from (suc (suc k)) b = absurd (omega arith)

    to : (k : ℕ) → k < 2 → (0 ∷ 2 ∷ []) ! k + case5.p ! k ≤ case5.win.l ! k
    to zero b = omega arith
    to (suc zero) b = omega arith
    to (suc (suc k)) b = absurd (omega arith)

pub clashing_always : (a : After) → Kept case5 a → a.says.word ≡ Word.clash → ⊥
clashing_always a h e = h.none e (0 ∷ 2 ∷ []) schedule5

-- ---- an invented count: on case 6 no single move closes the window, so a log of one record is not what a clash leaves

no_one_move : (j : ℕ) (s : Side) (t : ℕ) → j < 1 → best (jobs_of case6) case6.win j s ≡ some t
    → (moved case6.win j s (bound s t)).l ! 0 < (moved case6.win j s (bound s t)).e ! 0 + 1 → ⊥
unfolding best
no_one_move zero early t b e q = let z : 0 ≡ t = cc in omega arith
no_one_move zero late t b e q = let z : 2 ≡ t = cc in omega arith
no_one_move (suc j) s t b e q = omega arith

pub invented_count : (a : After) → Reasons case6 a → a.says ≡ said Word.clash (1 ∷ 0 ∷ []) → ⊥
invented_count a h e = let r = h.clash 1 0 e in go r.logs.moves r.logs.many r.logs.chosen r.clashed
  where
    go : (ms : List Move) → length ms ≡ 1 → Chosen (search (jobs_of case6)) (Applies (jobs_of case6)) case6.win 0 early ms
        → Clashed (search (jobs_of case6)) case6.win ms 0 → ⊥
    go [] m x q = omega arith
    go (y ∷ []) m x q = no_one_move y.job y.side y.choice x.0.listed x.0.chosen q.1.closed
    go (y ∷ (z ∷ zs)) m x q = omega arith

-- ---- work after the closing record: every window was long enough before a clash's last move, and the first move closes one

abbrev closed : Call
closed = lent 1 (job 0 1 1 2 ∷ job 0 9 1 0 ∷ []) 2

first_closes : (j : ℕ) (s : Side) (t : ℕ) → j < 2 → best (jobs_of closed) closed.win j s ≡ some t → Long 2 closed.p (moved closed.win j s (bound s t)) → ⊥
unfolding best Long
first_closes zero early t b e q = let z : 0 ≡ t = cc in omega (arith, q 0 (omega arith))
first_closes zero late t b e q = let z : 0 ≡ t = cc in omega (arith, q 0 (omega arith))
first_closes (suc zero) early t b e q = let z : ◌≡◌ {A = ℕ} 0 1 = cc in omega arith
first_closes (suc zero) late t b e q = let z : ◌≡◌ {A = ℕ} 0 1 = cc in omega arith
first_closes (suc (suc j)) s t b e q = omega arith

pub going_on : (a : After) → Reasons closed a → a.says ≡ said Word.clash (2 ∷ 0 ∷ []) → ⊥
going_on a h e = let r = h.clash 2 0 e in go r.logs.moves r.logs.many r.logs.chosen r.clashed
  where
    split : (y z : Move) (bs : List Move) (l : Move) → y ∷ z ∷ [] ≡ bs ++ (l ∷ []) → bs ≡ y ∷ []
    split y z [] l q = let w = ap length q in absurd (omega arith)
    split y z (b ∷ []) l q = ap (λ (ms : List Move). take 1 ms) (sym q)
    split y z (b ∷ (c ∷ bs)) l q = let w = ap length q ∙ length-append (b ∷ (c ∷ bs)) (l ∷ []) in absurd (omega arith)

    go : (ms : List Move) → length ms ≡ 2 → Chosen (search (jobs_of closed)) (Applies (jobs_of closed)) closed.win 0 early ms
        → Clashed (search (jobs_of closed)) closed.win ms 0 → ⊥
    go [] m x q = omega arith
    go (y ∷ []) m x q = omega arith
    go (y ∷ (z ∷ [])) m x q =
        first_closes y.job y.side y.choice x.0.listed x.0.chosen
        (subst (λ (ms : List Move). Long 2 closed.p (reached_by (search (jobs_of closed)) closed.win ms)) (split y z q.1.before q.1.last q.1.closing) q.1.held)
    go (y ∷ (z ∷ (w ∷ ws))) m x q = omega arith

-- ---- one record that carries a whole run: of run 23's two bounds one record moves one (`Settles.led`)

abbrev run23 : Call
run23 = lent 2 example 2

pub whole_run : (a : After) → Reasons run23 a → a.says ≡ said Word.settled (1 ∷ []) → a.win.e ! 0 ≡ 5 → a.win.l ! 1 ≡ 5 → ⊥
whole_run a h e p q = let r = h.settled 1 e in go r.logs.moves r.logs.many r.led.led
  where
    one_bound : (j : ℕ) (s : Side) (t : ℕ) → a.win ≡ moved run23.win j s (bound s t) → ⊥
    one_bound j early t w = let z : a.win.l ! 1 ≡ 7 = ap (λ (W : Win). W.l ! 1) w in omega arith
    one_bound j late t w = let z : a.win.e ! 0 ≡ 3 = ap (λ (W : Win). W.e ! 0) w in omega arith

    go : (ms : List Move) → length ms ≡ 1 → a.win ≡ reached_by (search (jobs_of run23)) run23.win ms → ⊥
    go [] m w = omega arith
    go (y ∷ []) m w = one_bound y.job y.side y.choice w
    go (y ∷ (z ∷ zs)) m w = omega arith
