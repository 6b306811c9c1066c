-- What a record says (document 01, 'Log records'), of arbitrary start times, with no window mentioned; and that it names no member that it can do without
-- (document 02, Item 7).
use Rattle.std.specs.Prelude.{ℕ, suc, ◌+◌, ◌≤◌, ◌<◌, ◌≡◌, Bool, true, List, eqb}
use Rattle.lists.specs.Lists.{◌!◌}
use Rattle.lists.specs.Tests.{either}
use Rattle.lists.specs.Spares.{amount, NoneSpare}
use Rattle.narrowing.specs.Windows.{Win, Side, early, late}
use Rattle.members.specs.Members.{ones_of}
use Rattle.journal.specs.Journal.{count_word, set_of_record, job_of, is_member}
use Rattle.timetable.specs.Time.{Jobs, drawn_by}

-- the moved job, on side 0, starts no earlier than t - p + 1; on side 1, no later than t
abbrev pub OwnFact : List ℕ → List ℕ → ℕ → Side → ℕ → Type 0
OwnFact p s j early t = t < s ! j + p ! j
OwnFact p s j late t = s ! j ≤ t

-- the stated facts of the starts s: each member of M started no earlier than t - p + 1 and no later than t, and the moved job's own
pub record Stated (n : ℕ) (p s : List ℕ) (M : ℕ → Bool) (j : ℕ) (side : Side) (t : ℕ) : Type 0 where
  pub members : (k : ℕ) → k < n → M k ≡ true → (t < s ! k + p ! k) × (s ! k ≤ t)
  pub own : OwnFact p s j side t

-- the demands of the named jobs, members and moved job, that run at t
unfoldable pub named_drawn : Jobs → List ℕ → (ℕ → Bool) → ℕ → ℕ → ℕ
unfolding drawn_by
named_drawn J s M j t = drawn_by J (λ k. either (M k) (eqb k j)) s t

-- the change: on side 0 the moved job starts no earlier than t + 1, on side 1 it ends by t
abbrev pub Changed : List ℕ → List ℕ → ℕ → Side → ℕ → Type 0
Changed p s j early t = suc t ≤ s ! j
Changed p s j late t = s ! j + p ! j ≤ t

-- from these facts and the capacity at t alone follows the change, for any whole starts
abbrev pub Implied : Jobs → (ℕ → Bool) → ℕ → Side → ℕ → Type 0
Implied J M j side t = (s : List ℕ) → Stated J.n J.p s M j side t → named_drawn J s M j t ≤ J.cap → Changed J.p s j side t

-- starts within the windows W
pub record StartsWithin (n : ℕ) (p : List ℕ) (W : Win) (s : List ℕ) : Type 0 where
  pub from : (k : ℕ) → k < n → W.e ! k ≤ s ! k
  pub to : (k : ℕ) → k < n → s ! k + p ! k ≤ W.l ! k

-- ---- whom a record x names

-- the demands named, members' and moved job's together
abbrev pub named : Jobs → List ℕ → ℕ
named J x = amount J.n J.r (J.r ! job_of x) (is_member x)

-- the fourth word is the number of ones
abbrev pub Counted : List ℕ → Type 0
Counted x = x ! count_word ≡ ones_of (set_of_record x)

-- the demands named exceed the capacity
abbrev pub Exceeds : Jobs → List ℕ → Type 0
Exceeds J x = J.cap < named J x

-- no member is spare: without any one of them the demands named do not exceed the capacity
abbrev pub Lean : Jobs → List ℕ → Type 0
Lean J x = NoneSpare J.n J.r (J.r ! job_of x) J.cap (is_member x)

-- a record that names enough, and no member that it can do without
pub record LeanRecord (J : Jobs) (x : List ℕ) : Type 0 where
  pub counted : Counted x
  pub other : is_member x (job_of x) ≡ true → ⊥
  pub exceeds : Exceeds J x
  pub lean : Lean J x
