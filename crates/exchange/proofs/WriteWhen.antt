-- The writer's numbers one by one: each is given exactly when its row of specs/WriteWhen.antt holds, and no other number is given.
use Prim.Native.Nat.{ℕ, ◌≤◌}
use native.Mathlib.Omega.{arith}
use mathlib.Core.Path.{◌≡◌, refl}
use mathlib.Core.Logic.{◌⊎◌, inl, inr, ◌↔◌}
use Rattle.exchange.specs.Write.{WriteCall, PairsTested, WriteRefusal}
use Rattle.exchange.specs.WriteWhen.{ListsPass, Uneven, TooMany, TooGreat, OutOfPlace, CyclicPairs, BufferShort, WritePassed}
use Rattle.exchange.proofs.Tests.{past, at_fault}
use Rattle.exchange.proofs.WriteTests.{behind_lists}

module _ (c : WriteCall) where
  -- a number of the pairs, but for the 1 that the lists give too
  abbrev Behind : ℕ → Type 0
  Behind k = (j : ℕ) → 1 ≤ j → j ≤ 3 → k ≡ j → ⊥

  lists_passed : (k : ℕ) → Behind k → WriteRefusal c k → ListsPass c × PairsTested c k
  lists_passed k f r =
      let s = past r (f 1 (omega arith) (omega arith)) in
      let m = past s.1 (f 2 (omega arith) (omega arith)) in
      let w = past m.1 (f 3 (omega arith) (omega arith)) in
      (record { sized = s.0; few = m.0; within = w.0.0; beside = w.0.1 }, w.1)

  -- the tests of the pairs give 1, numbers from 32 on, and 0
  pairs_give : (k : ℕ) → PairsTested c k → (k ≡ 2 → ⊥) × (k ≡ 3 → ⊥)
  pairs_give k (inl t) = (λ z. omega (arith, t.1), λ z. omega (arith, t.1))
  pairs_give k (inr (e, inl t)) = (λ z. omega (arith, t.1), λ z. omega (arith, t.1))
  pairs_give k (inr (e, inr (o, inl t))) = (λ z. omega (arith, t.1), λ z. omega (arith, t.1))
  pairs_give k (inr (e, inr (o, inr (y, inl t)))) = (λ z. omega (arith, t.1), λ z. omega (arith, t.1))
  pairs_give k (inr (e, inr (o, inr (y, inr (m, t))))) = (λ z. omega (arith, t), λ z. omega (arith, t))

  pub write_1 : WriteRefusal c 1 ↔ Uneven c
  write_1 = (to, from)
    where
      to : WriteRefusal c 1 → Uneven c
      to (inl t) = inl t.0
      to (inr (s, r)) =
          let m = past r (λ z. omega (arith, z)) in
          let w = past m.1 (λ z. omega (arith, z)) in
          let lists : ListsPass c = record { sized = s; few = m.0; within = w.0.0; beside = w.0.1 } in
          inr (lists, at_fault w.1 (λ t. omega (arith, (past (past (past t (λ z. omega (arith, z))).1 (λ z. omega (arith, z))).1 (λ z. omega (arith, z))).1)))

      from : Uneven c → WriteRefusal c 1
      from (inl q) = inl (q, refl)
      from (inr q) = behind_lists c 1 q.0 (inl (q.1, refl))

  pub write-2 : WriteRefusal c 2 ↔ TooMany c
  write-2 = (to, λ q. inr (q.0, inl (q.1, refl)))
    where
      to : WriteRefusal c 2 → TooMany c
      to r =
          let s = past r (λ z. omega (arith, z)) in
          (s.0, at_fault s.1 (λ t. (pairs_give 2 (past t (λ z. omega (arith, z))).1).0 refl))

  pub write_3 : WriteRefusal c 3 ↔ TooGreat c
  write_3 = (to, λ q. inr (q.0, inr (q.1, inl (q.2, refl))))
    where
      to : WriteRefusal c 3 → TooGreat c
      to r =
          let s = past r (λ z. omega (arith, z)) in
          let m = past s.1 (λ z. omega (arith, z)) in
          (s.0, m.0, at_fault m.1 (λ t. (pairs_give 3 t).1 refl))

  pub write_32 : WriteRefusal c 32 ↔ OutOfPlace c
  write_32 = (to, λ q. behind_lists c 32 q.lists (inr (q.even, inl (q.fault, refl))))
    where
      to : WriteRefusal c 32 → OutOfPlace c
      to r =
          let l = lists_passed 32 (λ j f g z. omega (arith, z)) r in
          let e = past l.1 (λ z. omega (arith, z)) in
          record { lists = l.0; even = e.0; fault = at_fault e.1 (λ t. omega (arith, (past (past t (λ z. omega (arith, z))).1 (λ z. omega (arith, z))).1)) }

  pub write_33 : WriteRefusal c 33 ↔ CyclicPairs c
  write_33 = (to, λ q. behind_lists c 33 q.lists (inr (q.even, inr (q.rising, inl (q.cycle, refl)))))
    where
      to : WriteRefusal c 33 → CyclicPairs c
      to r =
          let l = lists_passed 33 (λ j f g z. omega (arith, z)) r in
          let e = past l.1 (λ z. omega (arith, z)) in
          let o = past e.1 (λ z. omega (arith, z)) in
          record { lists = l.0; even = e.0; rising = o.0; cycle = at_fault o.1 (λ t. omega (arith, (past t (λ z. omega (arith, z))).1)) }

  pub write_36 : WriteRefusal c 36 ↔ BufferShort c
  write_36 = (to, λ q. behind_lists c 36 q.lists (inr (q.even, inr (q.rising, inr (q.acyclic, inl (q.short, refl))))))
    where
      to : WriteRefusal c 36 → BufferShort c
      to r =
          let l = lists_passed 36 (λ j f g z. omega (arith, z)) r in
          let e = past l.1 (λ z. omega (arith, z)) in
          let o = past e.1 (λ z. omega (arith, z)) in
          let y = past o.1 (λ z. omega (arith, z)) in
          record { lists = l.0; even = e.0; rising = o.0; acyclic = y.0; short = at_fault y.1 (λ t. omega (arith, t)) }

  pub write_none : WriteRefusal c 0 ↔ WritePassed c
  write_none = (to, λ q. behind_lists c 0 q.lists (inr (q.even, inr (q.rising, inr (q.acyclic, inr (q.room, refl))))))
    where
      to : WriteRefusal c 0 → WritePassed c
      to r =
          let l = lists_passed 0 (λ j f g z. omega (arith, z)) r in
          let e = past l.1 (λ z. omega (arith, z)) in
          let o = past e.1 (λ z. omega (arith, z)) in
          let y = past o.1 (λ z. omega (arith, z)) in
          record { lists = l.0; even = e.0; rising = o.0; acyclic = y.0; room = (past y.1 (λ z. omega (arith, z))).0 }

  -- the numbers that there are
  pub write_numbers : (k : ℕ) → WriteRefusal c k → (k ≡ 0) ⊎ ((k ≡ 1) ⊎ ((k ≡ 2) ⊎ ((k ≡ 3) ⊎ ((k ≡ 32) ⊎ ((k ≡ 33) ⊎ (k ≡ 36))))))
  write_numbers k (inl t) = inr (inl t.1)
  write_numbers k (inr (s, inl t)) = inr (inr (inl t.1))
  write_numbers k (inr (s, inr (f, inl t))) = inr (inr (inr (inl t.1)))
  write_numbers k (inr (s, inr (f, inr (w, inl t)))) = inr (inl t.1)
  write_numbers k (inr (s, inr (f, inr (w, inr (e, inl t))))) = inr (inr (inr (inr (inl t.1))))
  write_numbers k (inr (s, inr (f, inr (w, inr (e, inr (o, inl t)))))) = inr (inr (inr (inr (inr (inl t.1)))))
  write_numbers k (inr (s, inr (f, inr (w, inr (e, inr (o, inr (y, inl t))))))) = inr (inr (inr (inr (inr (inr t.1)))))
  write_numbers k (inr (s, inr (f, inr (w, inr (e, inr (o, inr (y, inr (m, t)))))))) = inl t
