-- The search may look at the edges alone (document 02, Item 5): the time that it finds is one of them, and where no rule applies at an edge none applies at
-- all. Where a time is crowded and its neighbour is not, the load of the others has changed between them, so that a sure part ends or begins there.
use Prim.Native.Nat.{ℕ, zero, suc, ◌+◌, ◌-◌, ◌≤◌, ◌<◌}
use native.Mathlib.Omega.{arith}
use native.Mathlib.Decide.{dec_lt, dec_le}
use mathlib.Core.Path.{◌≡◌, refl}
use mathlib.Core.List.{List}
use mathlib.Core.Option.{Option, none, some}
use mathlib.Core.Logic.{inl, inr}
use Rattle.lists.specs.Lists.{◌!◌}
use Rattle.lists.specs.Extremes.{Greatest, Least}
use Rattle.lists.proofs.Sets.{clash, total_of_beyond}
use Rattle.lists.proofs.Extremes.{greatest-one, least-one}
use Rattle.narrowing.specs.Windows.{Win, Side, early, late}
use Rattle.narrowing.specs.Search.{Offered}
use Rattle.timetable.specs.Time.{Jobs, load, Crowded, Applies, bound}
use Rattle.timetable.specs.Search.{Member, member, best}
use Rattle.timetable.specs.Edges.{Edge, PartEdge, Looked, MovesAt}
use Rattle.timetable.proofs.Facts.{member_yes, yes_member}
use Rattle.timetable.proofs.Lean.{members_load}
use Rattle.timetable.proofs.Law.{greatest_crowded, least_crowded, best-is}

-- a job has one edge on a side, so that there are no more to look at than jobs
pub edge_one : (s : Side) (p : List ℕ) (W : Win) (k t u : ℕ) → Edge s p W k t → Edge s p W k u → t ≡ u
edge_one early p W k t u a b = omega arith
edge_one late p W k t u a b = omega arith

module _ (J : Jobs) (W : Win) (j : ℕ) where
  -- with less load at u some member at t is none at u
  leaver : (t u : ℕ) → load J W j u < load J W j t → (k : ℕ) × Member J W j t k × (Member J W j u k → ⊥)
  leaver t u h =
      let y = total_of_beyond J.n J.r (member J W j u) (member J W j t) (omega (arith, members_load J W j t, members_load J W j u)) in
      (y.0, member_yes J W j t y.0 y.1, λ m. clash (member J W j u y.0) (yes_member J W j u y.0 m) y.2)

  less_load : (t u : ℕ) → Crowded J W j t → (Crowded J W j u → ⊥) → load J W j u < load J W j t
  less_load t u c h =
      elim (dec_lt (load J W j u) (load J W j t)) [
        | yes d ↦ d
        | no d ↦ absurd (h (record { lasts = c.lasts; takes = c.takes; over = omega (arith, c.over) }))
      ]

  -- the neighbour of a crowded time is crowded too, or a sure part ends, or begins, at it
  ends : (t : ℕ) → Crowded J W j t → (Crowded J W j (suc t) → ⊥) → PartEdge J W j early t
  ends t c h =
      let y = leaver t (suc t) (less_load t (suc t) c h) in
      let m = y.1 in
      let past : suc t < W.e ! y.0 + J.p ! y.0 → ⊥ =
      λ d. y.2 (record { listed = m.listed; other = m.other; takes = m.takes; sure_there = record { from = omega (arith, m.sure_there.from); to = d } }) in
      record { other = y.0; member = m; edge = elim (dec_lt (suc t) (W.e ! y.0 + J.p ! y.0)) [ yes d ↦ absurd (past d) | no d ↦ omega (arith, m.sure_there.to) ] }

  begins : (u : ℕ) → Crowded J W j (suc u) → (Crowded J W j u → ⊥) → PartEdge J W j late (suc u)
  begins u c h =
      let y = leaver (suc u) u (less_load (suc u) u c h) in
      let m = y.1 in
      let sooner : W.l ! y.0 ≤ u + J.p ! y.0 → ⊥ =
      λ d. y.2 (record { listed = m.listed; other = m.other; takes = m.takes; sure_there = record { from = d; to = omega (arith, m.sure_there.to) } }) in
      record { other = y.0; member = m; edge = elim (dec_le (W.l ! y.0) (u + J.p ! y.0)) [ yes d ↦ absurd (sooner d) | no d ↦ omega (arith, m.sure_there.from) ] }

  -- ---- the time that the rule moves to is an edge

  at_early : (t : ℕ) → MovesAt J W j early t → Looked J W j early t
  at_early t n =
      elim (dec_lt (suc t) (W.e ! j + J.p ! j)) [
        | yes d ↦ inr (ends t n.0.crowded (λ c. absurd (omega (arith, n.1 (suc t) (record { from = omega (arith, n.0.from); to = d; crowded = c })))))
        | no d ↦ inl (omega (arith, n.0.to))
      ]

  -- the stretch of side 1 begins at l - p, so that l has to be p or more
  at_late : J.p ! j ≤ W.l ! j → (t : ℕ) → MovesAt J W j late t → Looked J W j late t
  at_late h zero n = inl (omega (arith, n.0.from))
  at_late h (suc u) n =
      elim (dec_le (W.l ! j) (u + J.p ! j)) [
        | yes d ↦ inr (begins u n.0.crowded (λ c. absurd (omega (arith, n.1 u (record { from = d; to = omega (arith, n.0.to); crowded = c })))))
        | no d ↦ inl (omega (arith, n.0.from))
      ]

  module _ (h : J.p ! j ≤ W.l ! j) where
    pub next_looked : (s : Side) (t : ℕ) → MovesAt J W j s t → Looked J W j s t
    next_looked early t n = at_early t n
    next_looked late t n = at_late h t n

    -- what the search finds is that time, and that time is what it finds
    early_next : (x : Option ℕ) → Greatest (Crowded J W j) (W.e ! j) (J.p ! j) x → (t : ℕ) → x ≡ some t → MovesAt J W j early t
    early_next none g t e = absurd (let z : ◌≡◌ {A = ℕ} 0 1 = cc in omega arith)
    early_next (some u) g t e = go (let q : u ≡ t = cc in q)
      where
        go : u ≡ t → MovesAt J W j early t
        go q =
            rw (← q)
            (record { from = g.0.from; to = g.0.to; crowded = g.0.has }, λ v a. g.1 v (record { from = a.from; to = a.to; has = a.crowded }))

    late_next : (x : Option ℕ) → Least (Crowded J W j) (W.l ! j - J.p ! j) (J.p ! j) x → (t : ℕ) → x ≡ some t → MovesAt J W j late t
    late_next none g t e = absurd (let z : ◌≡◌ {A = ℕ} 0 1 = cc in omega arith)
    late_next (some u) g t e = go (let q : u ≡ t = cc in q)
      where
        go : u ≡ t → MovesAt J W j late t
        go q =
            rw (← q) (
              record { from = omega (arith, g.0.from); to = omega (arith, g.0.to); crowded = g.0.has },
              λ v a. g.1 v (record { from = omega (arith, a.from); to = omega (arith, a.to); has = a.crowded }),
            )

    pub best_next : (s : Side) (t : ℕ) → best J W j s ≡ some t → MovesAt J W j s t
    best_next early t e = early_next (best J W j early) (greatest_crowded J W j) t e
    best_next late t e = late_next (best J W j late) (least_crowded J W j) t e

    pub next_best : (s : Side) (t : ℕ) → MovesAt J W j s t → best J W j s ≡ some t
    next_best early t n =
        greatest-one (Crowded J W j) (W.e ! j) (J.p ! j) (best J W j early) (some t) (greatest_crowded J W j)
        (record { from = n.0.from; to = n.0.to; has = n.0.crowded }, λ u i. n.1 u (record { from = i.from; to = i.to; crowded = i.has }))
    next_best late t n =
        least-one (Crowded J W j) (W.l ! j - J.p ! j) (J.p ! j) (best J W j late) (some t) (least_crowded J W j) (
          record { from = omega (arith, n.0.from); to = omega (arith, n.0.to); has = n.0.crowded },
          λ u i. n.1 u (record { from = omega (arith, i.from); to = omega (arith, i.to); crowded = i.has }),
        )

    -- where a rule applies at no edge, it applies nowhere
    pub edges_enough : (s : Side) → ((t : ℕ) → Looked J W j s t → Applies J W j s (bound s t) → ⊥) → (b : ℕ) → Applies J W j s b → ⊥
    edges_enough s q = go (best J W j s) refl (best-is J W j s h)
      where
        go : (x : Option ℕ) → best J W j s ≡ x → Offered (Applies J W j s) (bound s) x → (b : ℕ) → Applies J W j s b → ⊥
        go none e f = f
        go (some t) e f = absurd (q t (next_looked s t (best_next s t e)) f)
