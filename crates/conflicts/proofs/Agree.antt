-- Windows that are the same for a job: a record that names such jobs alone is as good on the one as on the other, and what a move leaves of that.
use Prim.Native.Nat.{ℕ, ◌<◌}
use native.Mathlib.Omega.{arith}
use native.Mathlib.Decide.{ℕ_discrete}
use mathlib.Core.Path.{◌≡◌, sym, ◌∙◌}
use mathlib.Core.Bool.{true}
use mathlib.Core.List.{List}
use lib.ListN.{set, length}
use lib.Seq.{get_or-set_same, get_or-set_other}
use Rattle.lists.specs.Lists.{◌!◌}
use Rattle.narrowing.specs.Windows.{Win, Side, early, late, moved}
use Rattle.narrowing.proofs.Moves.{Whole}
use Rattle.journal.specs.Journal.{job_of, time_of, is_member}
use Rattle.timetable.specs.Time.{Jobs}
use Rattle.codes.specs.Facts.{side, OwnTrue, Tightens, GoodRecord}

-- job k has the same window in U as in W
pub record Agree (U W : Win) (k : ℕ) : Type 0 where
  pub early : U.e ! k ≡ W.e ! k
  pub late : U.l ! k ≡ W.l ! k

-- ---- a record

pub good_agree : (J : Jobs) (U W : Win) (x : List ℕ) → Agree U W (job_of x) → ((k : ℕ) → is_member x k ≡ true → Agree U W k) → GoodRecord J W x → GoodRecord J U x
good_agree J U W x a f g =
    let q = g.passes in
    record {
      passes = record {
        in_range = q.in_range;
        partners = q.partners;
        counted = q.counted;
        exceeds = q.exceeds;
        stated = record {
          own = own (side x) q.stated.own;
          members = λ k h. let t = q.stated.members k h in record { from = omega (arith, t.from, (f k h).late); to = omega (arith, t.to, (f k h).early) };
        };
        tightens = tight (side x) q.tightens;
      };
      lean = g.lean;
    }
  where
    own : (v : Side) → OwnTrue J.p W (job_of x) v (time_of x) → OwnTrue J.p U (job_of x) v (time_of x)
    own early o = omega (arith, a.early)
    own late o = omega (arith, a.late)

    tight : (v : Side) → Tightens W (job_of x) v (time_of x) → Tightens U (job_of x) v (time_of x)
    tight early o = omega (arith, a.early)
    tight late o = omega (arith, a.late)

-- ---- a move

set_agree : (xs ys : List ℕ) (j b k : ℕ) → j < length xs → j < length ys → xs ! k ≡ ys ! k → set xs j b ! k ≡ set ys j b ! k
set_agree xs ys j b k x y h =
    elim (ℕ_discrete k j) [
      | yes e ↦ rw e (get_or-set_same xs j b 0 x ∙ sym (get_or-set_same ys j b 0 y))
      | no e ↦ get_or-set_other xs j k b 0 e ∙ h ∙ sym (get_or-set_other ys j k b 0 e)
    ]

-- the same one on both
pub moved_agree : (n : ℕ) (U W : Win) → Whole n U → Whole n W → (j : ℕ) → j < n → (v : Side) (b k : ℕ) → Agree U W k → Agree (moved U j v b) (moved W j v b) k
moved_agree n U W u w j h early b k a =
    record { early = set_agree U.e W.e j b k (omega (arith, u.early)) (omega (arith, w.early)) a.early; late = a.late }
moved_agree n U W u w j h late b k a =
    record { early = a.early; late = set_agree U.l W.l j b k (omega (arith, u.late)) (omega (arith, w.late)) a.late }

-- another job's on W alone
pub other_agree : (U W : Win) (j : ℕ) (v : Side) (b k : ℕ) → (k ≡ j → ⊥) → Agree U W k → Agree U (moved W j v b) k
other_agree U W j early b k e a = record { early = a.early ∙ sym (get_or-set_other W.e j k b 0 e); late = a.late }
other_agree U W j late b k e a = record { early = a.early; late = a.late ∙ sym (get_or-set_other W.l j k b 0 e) }
