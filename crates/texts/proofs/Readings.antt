-- Several readings one after the other, and what a reading takes: fewer tokens are left, and each number is within its limit.
use Prim.Native.Nat.{ℕ, zero, suc, ◌≤◌, ◌<◌}
use native.Mathlib.Omega.{arith}
use mathlib.Core.Path.{◌≡◌, refl, ap, subst}
use mathlib.Core.Bool.{Bool, true, false, cond}
use mathlib.Core.List.{List, [], ◌∷◌, ◌++◌, map, append_assoc, append-nil}
use mathlib.Core.Logic.{◌⊎◌, inl, inr}
use lib.Dec.{leb}
use lib.ListN.{length}
use borrow.Author.Tests.{leb-true}
use Rattle.lists.specs.Lists.{◌!◌, Every}
use Rattle.texts.specs.Tokens.{Token, number, other}
use Rattle.texts.specs.Readings.{Read, bad, good, and_then, one, in_turn, numbers_up_to}

-- a refusal is no reading
pub bad_not_good : {A B : Type 0} (r : Read A) (c : ℕ) (a : A) (rest : List Token) → r ≡ bad c → r ≡ good a rest → B
bad_not_good r c a rest p q = let z : ◌≡◌ {A = ℕ} 0 1 = cc in absurd (omega arith)

-- a reading is one reading
pub good_one : {A : Type 0} (r : Read A) (a b : A) (u v : List Token) → r ≡ good a u → r ≡ good b v → (a ≡ b) × (u ≡ v)
good_one r a b u v p q = (cc, cc)

pub good_same : {A : Type 0} (a b : A) (u v : List Token) → good a u ≡ good b v → (a ≡ b) × (u ≡ v)
good_same a b u v e = (cc, cc)

-- what the first of two readings was, where both were good
pub then_good : {A B : Type 0} (r : Read A) (f : A → List Token → Read B) (b : B) (end : List Token) → and_then r f ≡ good b end
    → (a : A) × (rest : List Token) × (r ≡ good a rest) × (f a rest ≡ good b end)
then_good (bad c) f b end e = bad_not_good (bad c) c b end refl e
then_good (good a rest) f b end e = (a, rest, refl, e)

-- and which of them was refused
pub then_bad : {A B : Type 0} (r : Read A) (f : A → List Token → Read B) (c : ℕ) → and_then r f ≡ bad c
    → (r ≡ bad c) ⊎ ((a : A) × (rest : List Token) × (r ≡ good a rest) × (f a rest ≡ bad c))
then_bad (bad d) f c e = inl cc
then_bad (good a rest) f c e = inr (a, rest, refl, e)

-- ---- several readings

-- readings in front of others
abbrev pub ahead : {A : Type 0} → List A → Read (List A) → Read (List A)
ahead ys (bad c) = bad c
ahead ys (good xs ts) = good (ys ++ xs) ts

pub ahead_nil : {A : Type 0} (r : Read (List A)) → ahead [] r ≡ r
ahead_nil (bad c) = refl
ahead_nil (good xs ts) = refl

-- readings that do not look at their number
pub in_turn_any : {A : Type 0} (f : List Token → Read A) (i j m : ℕ) (ts : List Token) → in_turn (λ k. f) i m ts ≡ in_turn (λ k. f) j m ts
unfolding in_turn
in_turn_any f i j zero ts = refl
in_turn_any {A = A} f i j (suc m) ts = go (f ts) (λ rest. in_turn_any f (suc i) (suc j) m rest)
  where
    go : (r : Read A) → ((rest : List Token) → in_turn (λ k. f) (suc i) m rest ≡ in_turn (λ k. f) (suc j) m rest)
        → and_then r (λ a rest. and_then (in_turn (λ k. f) (suc i) m rest) (λ xs end. good (a ∷ xs) end))
        ≡ and_then r (λ a rest. and_then (in_turn (λ k. f) (suc j) m rest) (λ xs end. good (a ∷ xs) end))
    go (bad c) h = refl
    go (good a rest) h = rw (h rest)

module _ {A : Type 0} (f : List Token → Read A) (ys : List A) (m : ℕ) (ts : List Token) where
  pub in_turn_step : (a : A) (rest : List Token) → f ts ≡ good a rest → ahead ys (in_turn (λ k. f) 0 (suc m) ts) ≡ ahead (ys ++ a ∷ []) (in_turn (λ k. f) 0 m rest)
  unfolding in_turn
  in_turn_step a rest e = rw (e, in_turn_any f 1 0 m rest) (go (in_turn (λ k. f) 0 m rest))
    where
      go : (r : Read (List A)) → ahead ys (and_then r (λ xs end. good (a ∷ xs) end)) ≡ ahead (ys ++ a ∷ []) r
      go (bad c) = refl
      go (good xs end) = rw (append_assoc ys (a ∷ []) xs)

  pub in_turn_bad : (c : ℕ) → f ts ≡ bad c → ahead ys (in_turn (λ k. f) 0 (suc m) ts) ≡ bad c
  unfolding in_turn
  in_turn_bad c e = rw e

  pub in_turn_done : ahead ys (in_turn (λ k. f) 0 0 ts) ≡ good ys ts
  unfolding in_turn
  in_turn_done = rw (append-nil ys)

-- ---- readings said otherwise

-- a reading, said by a function of what was read
abbrev pub said : {A B : Type 0} → (A → B) → Read A → Read B
said g (bad c) = bad c
said g (good a ts) = good (g a) ts

-- where each is the other said otherwise, so are several
pub in_turn_said : {A B : Type 0} (g : A → B) (f : ℕ → List Token → Read A) (h : ℕ → List Token → Read B) → ((j : ℕ) (ts : List Token) → h j ts ≡ said g (f j ts))
    → (j m : ℕ) (ts : List Token) → in_turn h j m ts ≡ said (map g) (in_turn f j m ts)
unfolding in_turn
in_turn_said g f h e j zero ts = refl
in_turn_said {A} {B} g f h e j (suc m) ts = rw (e j ts) (go (f j ts) (λ rest. in_turn_said g f h e (suc j) m rest))
  where
    behind : (a : A) (r : Read (List A)) → and_then (said (map g) r) (λ xs end. good (g a ∷ xs) end) ≡ said (map g) (and_then r (λ xs end. good (a ∷ xs) end))
    behind a (bad c) = refl
    behind a (good xs end) = refl

    go : (r : Read A) → ((rest : List Token) → in_turn h (suc j) m rest ≡ said (map g) (in_turn f (suc j) m rest))
        → and_then (said g r) (λ a rest. and_then (in_turn h (suc j) m rest) (λ xs end. good (a ∷ xs) end))
        ≡ said (map g) (and_then r (λ a rest. and_then (in_turn f (suc j) m rest) (λ xs end. good (a ∷ xs) end)))
    go (bad c) k = refl
    go (good a rest) k = rw (k rest) (behind a (in_turn f (suc j) m rest))

pub said_good : {A B : Type 0} (g : A → B) (r : Read A) (b : B) (rest : List Token) → said g r ≡ good b rest → (a : A) × (r ≡ good a rest) × (b ≡ g a)
said_good g (bad c) b rest e = bad_not_good (bad c) c b rest refl e
said_good g (good a ts) b rest e = let u : ts ≡ rest = cc in (a, rw u, cc)

pub said_bad : {A B : Type 0} (g : A → B) (r : Read A) (c : ℕ) → said g r ≡ bad c → r ≡ bad c
said_bad g (bad d) c e = cc
said_bad g (good a ts) c e = bad_not_good (good (g a) ts) c (g a) ts e refl

-- ---- what readings take

pub one_takes : (top code v : ℕ) (ts rest : List Token) → one top code ts ≡ good v rest → (length rest < length ts) × (v ≤ top)
unfolding one
one_takes top code v [] rest e = bad_not_good (bad 30) 30 v rest refl e
one_takes top code v (other ∷ ts) rest e = bad_not_good (bad 30) 30 v rest refl e
one_takes top code v (number x ∷ ts) rest e = go (leb x top) refl e
  where
    go : (t : Bool) → leb x top ≡ t → cond t (good x ts) (bad code) ≡ good v rest → (length rest < suc (length ts)) × (v ≤ top)
    go true d q = let y : x ≡ v = cc in let u : ts ≡ rest = cc in rw (← u, ← y) (omega (arith, leb-true x top d))
    go false d q = bad_not_good (bad code) code v rest refl q

pub one_codes : (top code c : ℕ) (ts : List Token) → one top code ts ≡ bad c → (c ≡ 30) ⊎ (c ≡ code)
unfolding one
one_codes top code c [] e = inl cc
one_codes top code c (other ∷ ts) e = inl cc
one_codes top code c (number x ∷ ts) e = go (leb x top) e
  where
    go : (t : Bool) → cond t (good x ts) (bad code) ≡ bad c → (c ≡ 30) ⊎ (c ≡ code)
    go true q = bad_not_good (good x ts) c x ts q refl
    go false q = inr cc

module _ {A : Type 0} (f : ℕ → List Token → Read A) where
  -- as many as were asked for; what holds of each reading holds of all; no tokens are added
  pub in_turn_takes : (P : A → Type 0) → ((j : ℕ) (ts rest : List Token) (a : A) → f j ts ≡ good a rest → P a × (length rest ≤ length ts))
      → (j m : ℕ) (ts rest : List Token) (xs : List A) → in_turn f j m ts ≡ good xs rest → (length xs ≡ m) × Every P xs × (length rest ≤ length ts)
  unfolding in_turn
  in_turn_takes P h j zero ts rest xs e = let u : [] ≡ xs = cc in let v : ts ≡ rest = cc in rw (← u, ← v) (refl, tt, omega arith)
  in_turn_takes P h j (suc m) ts rest xs e =
      let s = then_good (f j ts) (λ a u. and_then (in_turn f (suc j) m u) (λ ys end. good (a ∷ ys) end)) xs rest e in
      let t = then_good (in_turn f (suc j) m s.1) (λ ys end. good (s.0 ∷ ys) end) xs rest s.3 in
      let q = in_turn_takes P h (suc j) m s.1 t.1 t.0 t.2 in
      let p = h j ts s.1 s.0 s.2 in
      let o = good_same (s.0 ∷ t.0) xs t.1 rest t.3 in
      subst (λ (l : List A). (length l ≡ suc m) × Every P l × (length rest ≤ length ts)) o.0 (ap suc q.0, (p.0, q.1), omega (arith, p.1, q.2, ap length o.1))

  -- what every refusal of a reading is, every refusal of several is
  pub in_turn_codes : (P : ℕ → Type 0) → ((j c : ℕ) (ts : List Token) → f j ts ≡ bad c → P c) → (j m c : ℕ) (ts : List Token) → in_turn f j m ts ≡ bad c → P c
  unfolding in_turn
  in_turn_codes P h j zero c ts e = bad_not_good (good [] ts) c [] ts e refl
  in_turn_codes P h j (suc m) c ts e = go (then_bad (f j ts) (λ a u. and_then (in_turn f (suc j) m u) (λ ys end. good (a ∷ ys) end)) c e) (λ u q. in_turn_codes P h (suc j) m c u q)
    where
      go : (f j ts ≡ bad c) ⊎ ((a : A) × (u : List Token) × (f j ts ≡ good a u) × (and_then (in_turn f (suc j) m u) (λ ys end. good (a ∷ ys) end) ≡ bad c))
          → ((u : List Token) → in_turn f (suc j) m u ≡ bad c → P c) → P c
      go (inl q) k = h j c ts q
      go (inr q) k = rest (then_bad (in_turn f (suc j) m q.1) (λ ys end. good (q.0 ∷ ys) end) c q.3)
        where
          rest : (in_turn f (suc j) m q.1 ≡ bad c) ⊎ ((ys : List A) × (u : List Token) × (in_turn f (suc j) m q.1 ≡ good ys u) × (good (q.0 ∷ ys) u ≡ bad c)) → P c
          rest (inl z) = k q.1 z
          rest (inr z) = bad_not_good (good (q.0 ∷ z.0) z.1) c (q.0 ∷ z.0) z.1 z.3 refl

pub numbers_takes : (top m : ℕ) (ts rest : List Token) (xs : List ℕ) → numbers_up_to top m ts ≡ good xs rest → (length xs ≡ m) × Every (λ x. x ≤ top) xs × (length rest ≤ length ts)
unfolding numbers_up_to
numbers_takes top m ts rest xs e =
    in_turn_takes (λ j. one top 31) (λ x. x ≤ top) (λ j u v a q. let t = one_takes top 31 a u v q in (t.1, omega (arith, t.0))) 0 m ts rest xs e

pub numbers_codes : (top m c : ℕ) (ts : List Token) → numbers_up_to top m ts ≡ bad c → (c ≡ 30) ⊎ (c ≡ 31)
unfolding numbers_up_to
numbers_codes top m c ts e = in_turn_codes (λ j. one top 31) (λ d. (d ≡ 30) ⊎ (d ≡ 31)) (λ j d u q. one_codes top 31 d u q) 0 m c ts e

-- a number of a list of which each is within the limit
pub each_within : (top : ℕ) (xs : List ℕ) → Every (λ x. x ≤ top) xs → (k : ℕ) → xs ! k ≤ top
each_within top [] h k = omega arith
each_within top (x ∷ xs) h zero = h.0
each_within top (x ∷ xs) h (suc k) = each_within top xs h.1 k
