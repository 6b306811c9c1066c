-- Each answer is given exactly when the table says so, in facts, of the contract alone: the words of an answer by the number of the first test that
-- fails, and each number by what specs/When.antt says of it. The text's own 30, 31, 32 and 35 go on in `projects: Exactly`, `psplib: Exactly` and `texts: Exactly`.
use Prim.Native.Nat.{ℕ, zero, suc, ◌≤◌, ◌<◌}
use native.Mathlib.Omega.{arith}
use mathlib.Core.Path.{◌≡◌, refl, sym, ap, ◌∙◌, subst}
use mathlib.Core.List.{[], ◌∷◌}
use mathlib.Core.Logic.{◌⊎◌, inl, inr, ◌↔◌}
use Rattle.lists.specs.Lists.{◌!◌}
use Rattle.answers.specs.Said.{Word, Said, said}
use Rattle.answers.proofs.Same.{not_said, said_apart}
use Rattle.joblist.specs.Limits.{most_time}
use Rattle.texts.specs.Readings.{Read, bad, good}
use Rattle.projects.specs.Projects.{Project}
use Rattle.exchange.specs.Calls.{TextCall, TextAfter}
use Rattle.exchange.specs.Tests.{Tested, Met, Refusal}
use Rattle.exchange.specs.Table.{Leaves, Answered}
use Rattle.exchange.specs.When.{Meets, AboveLimit, Says, NoResource, NoRoom, Cyclic, ChainTooLong, Readable}
use Rattle.exchange.proofs.Tests.{Passed, past, at_fault, tested_none, refusal_one, refusal_of_lem}

-- ---- an answer and the number of the first test that fails

module _ (c : TextCall) (a : TextAfter) (r : Answered c a) where
  numbered : (k : ℕ) → Refusal c k → Leaves c a k
  numbered k t = subst (Leaves c a) (refusal_one c r.number k r.refusal t) r.leaves

  pub refused_exactly : (k : ℕ) → (a.says ≡ said Word.refused (suc k ∷ [])) ↔ Refusal c (suc k)
  refused_exactly k = (to r.number r.refusal r.leaves, λ t. ap (λ (y : TextAfter). y.says) (numbered (suc k) t))
    where
      to : (j : ℕ) → Refusal c j → Leaves c a j → a.says ≡ said Word.refused (suc k ∷ []) → Refusal c (suc k)
      to zero t l e = said_apart Word.read Word.refused _ _ (λ z. omega arith) (sym l.says ∙ e)
      to (suc j) t l e =
          let q : suc j ≡ suc k = ap (λ (y : Said). y.numbers ! 0) (sym (ap (λ (y : TextAfter). y.says) l) ∙ e) in
          subst (Refusal c) q t

  pub read_exactly : (a.says.word ≡ Word.read) ↔ Refusal c 0
  read_exactly = (to r.number r.refusal r.leaves, λ t. ap (λ (y : Said). y.word) (numbered 0 t).says)
    where
      to : (j : ℕ) → Refusal c j → Leaves c a j → a.says.word ≡ Word.read → Refusal c 0
      to zero t l e = t
      to (suc j) t l e = absurd (not_said Word.refused Word.read (λ z. omega arith) (sym (ap (λ (y : TextAfter). y.says.word) l) ∙ e))

-- ---- the numbers in facts

module _ (c : TextCall) where
  -- a refusal is the horizon's, the text's, or a test of what the text says
  parts : (k : ℕ) → Refusal c k → ((most_time < c.horizon) × (k ≡ 31)) ⊎ (Meets c k ⊎ ((s : Says c) × Tested s.x c.resource c.horizon c.lent k))
  parts k (inl p) = inl p
  parts k (inr p) = inr (go c.text refl p.1)
    where
      go : (t : Read Project) → c.text ≡ t → Met t c.resource c.horizon c.lent k → Meets c k ⊎ ((s : Says c) × Tested s.x c.resource c.horizon c.lent k)
      go (bad d) e q = inl (record { near = p.0; text = rw q e })
      go (good x rest) e q = inr (record { near = p.0; x = x; rest = rest; text = e }, q)

  of_text : (k : ℕ) → Meets c k → Refusal c k
  of_text k m = inr (m.near, subst (λ (y : Read Project). Met y c.resource c.horizon c.lent k) (sym m.text) refl)

  of_tested : (k : ℕ) (s : Says c) → Tested s.x c.resource c.horizon c.lent k → Refusal c k
  of_tested k s t = refusal_of_lem c s.x s.rest s.text k s.near t

  -- the tests of a project give numbers from 33 on, 35 left out, and 0
  abbrev OfProject : ℕ → Type 0
  OfProject k = (k ≡ 0) ⊎ ((33 ≤ k) × (k ≡ 35 → ⊥))

  by_test : (x : Project) (k : ℕ) → Tested x c.resource c.horizon c.lent k → OfProject k
  by_test x k (inl p) = inr (omega (arith, p.1), λ e. omega (arith, p.1))
  by_test x k (inr (u, inl p)) = inr (omega (arith, p.1), λ e. omega (arith, p.1))
  by_test x k (inr (u, inr (v, inl p))) = inr (omega (arith, p.1), λ e. omega (arith, p.1))
  by_test x k (inr (u, inr (v, inr (w, inl p)))) = inr (omega (arith, p.1), λ e. omega (arith, p.1))
  by_test x k (inr (u, inr (v, inr (w, inr (y, p))))) = inl p

  -- the text's own numbers but 31
  abbrev TextsOwn : ℕ → Type 0
  TextsOwn k = (k ≡ 30) ⊎ ((k ≡ 32) ⊎ (k ≡ 35))

  text_apart : (k : ℕ) → TextsOwn k → OfProject k → ⊥
  text_apart k (inl e) (inl p) = omega arith
  text_apart k (inr (inl e)) (inl p) = omega arith
  text_apart k (inr (inr e)) (inl p) = omega arith
  text_apart k (inl e) (inr p) = omega (arith, p.0)
  text_apart k (inr (inl e)) (inr p) = omega (arith, p.0)
  text_apart k (inr (inr e)) (inr p) = p.1 e

  not_31 : (k : ℕ) → TextsOwn k → k ≡ 31 → ⊥
  not_31 k (inl e) z = omega arith
  not_31 k (inr (inl e)) z = omega arith
  not_31 k (inr (inr e)) z = omega arith

  -- 30, 32 and 35 are the text's alone
  pub when_text : (k : ℕ) → TextsOwn k → Refusal c k ↔ Meets c k
  when_text k d = (λ r. to (parts k r), of_text k)
    where
      to : ((most_time < c.horizon) × (k ≡ 31)) ⊎ (Meets c k ⊎ ((s : Says c) × Tested s.x c.resource c.horizon c.lent k)) → Meets c k
      to (inl p) = absurd (not_31 k d p.1)
      to (inr (inl m)) = m
      to (inr (inr (s, t))) = absurd (text_apart k d (by_test s.x k t))

  -- 31 is the horizon's too
  pub when_31 : Refusal c 31 ↔ AboveLimit c
  when_31 = (λ r. to (parts 31 r), from)
    where
      nothing : OfProject 31 → ⊥
      nothing (inl p) = omega arith
      nothing (inr p) = omega (arith, p.0)

      to : ((most_time < c.horizon) × (◌≡◌ {A = ℕ} 31 31)) ⊎ (Meets c 31 ⊎ ((s : Says c) × Tested s.x c.resource c.horizon c.lent 31)) → AboveLimit c
      to (inl p) = inl p.0
      to (inr (inl m)) = inr m
      to (inr (inr (s, t))) = absurd (nothing (by_test s.x 31 t))

      from : AboveLimit c → Refusal c 31
      from (inl p) = inl (p, refl)
      from (inr m) = of_text 31 m

  module _ (k : ℕ) (beyond : 32 < k) (other : c.text ≡ bad k → ⊥) where
    -- a refusal beyond 32 that the text does not meet is a test of a project
    behind : Refusal c k → (s : Says c) × Tested s.x c.resource c.horizon c.lent k
    behind r = go (parts k r)
      where
        go : ((most_time < c.horizon) × (k ≡ 31)) ⊎ (Meets c k ⊎ ((s : Says c) × Tested s.x c.resource c.horizon c.lent k))
            → (s : Says c) × Tested s.x c.resource c.horizon c.lent k
        go (inl p) = absurd (omega (arith, p.1))
        go (inr (inl m)) = absurd (other m.text)
        go (inr (inr t)) = t

    pub when_37 : k ≡ 37 → Refusal c k ↔ NoResource c
    when_37 e = (λ r. to (behind r), λ n. of_tested k n.says (inl (n.none, e)))
      where
        to : (s : Says c) × Tested s.x c.resource c.horizon c.lent k → NoResource c
        to (s, t) = record { says = s; none = at_fault t (λ r. omega (arith, (past (past (past r (λ z. omega (arith, z))).1 (λ z. omega (arith, z))).1 (λ z. omega (arith, z))).1)) }

    pub when_38 : k ≡ 38 → Refusal c k ↔ NoRoom c
    when_38 e = (λ r. to (behind r), λ n. of_tested k n.says (inr (n.chosen, inl (n.unfit, e))))
      where
        to : (s : Says c) × Tested s.x c.resource c.horizon c.lent k → NoRoom c
        to (s, t) =
            let u = past t (λ z. omega (arith, z)) in
            record { says = s; chosen = u.0; unfit = at_fault u.1 (λ r. omega (arith, (past (past r (λ z. omega (arith, z))).1 (λ z. omega (arith, z))).1)) }

    pub when_33 : k ≡ 33 → Refusal c k ↔ Cyclic c
    when_33 e = (λ r. to (behind r), λ n. of_tested k n.says (inr (n.chosen, inr (n.fits, inl (n.cycle, e)))))
      where
        to : (s : Says c) × Tested s.x c.resource c.horizon c.lent k → Cyclic c
        to (s, t) =
            let u = past t (λ z. omega (arith, z)) in
            let v = past u.1 (λ z. omega (arith, z)) in
            record { says = s; chosen = u.0; fits = v.0; cycle = at_fault v.1 (λ r. omega (arith, (past r (λ z. omega (arith, z))).1)) }

    pub when_34 : k ≡ 34 → Refusal c k ↔ ChainTooLong c
    when_34 e = (λ r. to (behind r), λ n. of_tested k n.says (inr (n.chosen, inr (n.fits, inr (n.acyclic, inl (n.long, e))))))
      where
        to : (s : Says c) × Tested s.x c.resource c.horizon c.lent k → ChainTooLong c
        to (s, t) =
            let u = past t (λ z. omega (arith, z)) in
            let v = past u.1 (λ z. omega (arith, z)) in
            let w = past v.1 (λ z. omega (arith, z)) in
            record { says = s; chosen = u.0; fits = v.0; acyclic = w.0; long = at_fault w.1 (λ r. omega (arith, r)) }

  -- nothing is refused: the text meets no 0, which is no refusal's number
  pub when_read : (c.text ≡ bad 0 → ⊥) → Refusal c 0 ↔ Readable c
  when_read other = (λ r. to (parts 0 r), λ n. of_tested 0 n.says (inr (n.chosen, inr (n.fits, inr (n.acyclic, inr (n.short, refl))))))
    where
      of : (s : Says c) → Passed s.x c.resource c.horizon c.lent → Readable c
      of s p = record { says = s; chosen = p.chosen; fits = p.fits; acyclic = p.acyclic; short = p.short }

      to : ((most_time < c.horizon) × (◌≡◌ {A = ℕ} 0 31)) ⊎ (Meets c 0 ⊎ ((s : Says c) × Tested s.x c.resource c.horizon c.lent 0)) → Readable c
      to (inl p) = absurd (omega (arith, p.1))
      to (inr (inl m)) = absurd (other m.text)
      to (inr (inr (s, t))) = of s (tested_none s.x c.resource c.horizon c.lent t)
