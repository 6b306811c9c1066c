-- What a user does with the words that the desk hands on: a premise of a promise is met for numbers of one's own, and a promised fact becomes an inequality.
use Prim.Native.Nat.{ℕ, suc, ◌+◌, ◌≤◌, ◌<◌}
use native.Mathlib.Omega.{arith}
use mathlib.Core.Path.{◌≡◌, refl}
use mathlib.Core.Bool.{true}
use mathlib.Core.List.{[], ◌∷◌}
use lib.ListN.{replicate}
use Rattle.answers.specs.Said.{Word}
use Rattle.desk.specs.Lists.{◌!◌, win, Side, jobs, record_words, Long, slack, room_of}
use Rattle.desk.specs.Narrowing.{Call, call, Good, HasRoom, After, Narrows, Stable, Applies, jobs_of}
use Rattle.desk.specs.Reading.{Lent, TextCall, windows_in}
use Rattle.caller.specs.Told.{ToldReads}

-- room for one record is enough for a window that just holds its job
pub just_room : HasRoom (call (win (0 ∷ []) (1 ∷ [])) (1 ∷ []) (1 ∷ []) 1 (replicate record_words 0)) (suc (slack (1 ∷ []) (win (0 ∷ []) (1 ∷ [])) 1))
unfolding slack room_of
just_room = ((1, refl), omega arith)

-- every window of a text that was read holds its job
pub window_holds : (c : TextCall) (L : Lent) → ToldReads c L true → (k : ℕ) → k < jobs (windows_in L) → L.est ! k + L.dur ! k ≤ L.lct ! k
unfolding Long
window_holds c L h k b = h.long refl k b

-- no rule applies to the windows of a list that settled
pub no_rule_left : (c : Call) (a : After) → Narrows c a → Good c → a.says.word ≡ Word.settled
    → (j : ℕ) (s : Side) (b : ℕ) → j < jobs c.win → Applies (jobs_of c) a.win j s b → ⊥
unfolding Stable
no_rule_left c a h g e j s b i r = ((h.largest g).settled e).one.stable j s b i r
