-- A log is rejected with code 27 exactly where a record names a spare member, it and all records before it pass every test before that, and no window is
-- closed: of any call and whatever meets the contract's field `exactly`.
use Prim.Native.Nat.{ℕ, ◌<◌}
use native.Mathlib.Omega.{arith}
use mathlib.Core.Path.{◌≡◌}
use mathlib.Core.List.{[], ◌∷◌}
use mathlib.Core.Logic.{inl, inr, ◌↔◌}
use Rattle.answers.specs.Said.{Word, said}
use Rattle.timetable.specs.Table.{Call, jobs_of}
use Rattle.codes.specs.Faults.{OnlySpare}
use Rattle.codes.proofs.Codes.{spare_exactly}
use Rattle.checks.specs.Replay.{Checked, rejected}
use Rattle.checks.specs.Fate.{nth, reached, Open, Fate}
use Rattle.checks.specs.Promise.{Claimed, Exactly}

module _ (c : Call) (count : ℕ) (a : Checked) (h : Exactly c count a) where
  pub spare_rejected : (i : ℕ)
      → (a.says ≡ said Word.rejected (i ∷ 27 ∷ []))
      ↔ (Claimed c count × (i < count) × Open c i × OnlySpare (jobs_of c) (reached c i) (nth c i))
  spare_rejected i = (λ e. there ((h.rejected i 27).0 e), λ x. (h.rejected i 27).1 (x.0, back x))
    where
      there : Claimed c count × Fate c count (rejected i 27) → Claimed c count × (i < count) × Open c i × OnlySpare (jobs_of c) (reached c i) (nth c i)
      there (g, (d, inl (j, s, e))) = absurd (omega (arith, e))
      there (g, (d, inr (o, k, z))) = (g, d, o, (spare_exactly (jobs_of c) (reached c i) (nth c i)).0 k)

      back : Claimed c count × (i < count) × Open c i × OnlySpare (jobs_of c) (reached c i) (nth c i) → Fate c count (rejected i 27)
      back x = (x.1, inr (x.2, (spare_exactly (jobs_of c) (reached c i) (nth c i)).1 x.3, λ z. omega arith))
