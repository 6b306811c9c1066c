-- When a reading is refused, and with which number, in facts: where no number stands, where one is too large, behind so many readings that were good.
use Prim.Native.Nat.{ℕ, zero, suc, ◌+◌, ◌≤◌, ◌<◌}
use native.Mathlib.Omega.{arith}
use mathlib.Core.Path.{◌≡◌, refl, sym, ap, ◌∙◌, subst}
use mathlib.Core.Bool.{Bool, true, false, cond}
use mathlib.Core.List.{List, [], ◌∷◌}
use mathlib.Core.Logic.{◌⊎◌, inl, inr, ◌↔◌}
use lib.Dec.{leb}
use borrow.Author.Tests.{leb-true, leb-false, le-leb, lt-leb}
use Rattle.texts.specs.Tokens.{Token, number, other}
use Rattle.texts.specs.Readings.{Read, bad, good, and_then, one, in_turn, numbers_up_to, nothing_more}
use Rattle.texts.proofs.Readings.{bad_not_good, good_same, then_good, then_bad}

-- no number stands next: the tokens are at their end, or the next one is anything else
abbrev pub NoNumber : List Token → Type 0
NoNumber ts = (ts ≡ []) ⊎ ((rest : List Token) × (ts ≡ other ∷ rest))

-- the next token is a number of which P holds
abbrev pub NumberThat : (ℕ → Type 0) → List Token → Type 0
NumberThat P ts = (x : ℕ) × (rest : List Token) × (ts ≡ number x ∷ rest) × P x

-- the two ways in which a number up to a limit is refused
abbrev pub OneRefused : ℕ → ℕ → ℕ → List Token → Type 0
OneRefused top code c ts = (NoNumber ts × (c ≡ 30)) ⊎ (NumberThat (λ x. top < x) ts × (c ≡ code))

one_to : (top code c : ℕ) (ts : List Token) → one top code ts ≡ bad c → OneRefused top code c ts
unfolding one
one_to top code c [] e = inl (inl refl, cc)
one_to top code c (other ∷ ts) e = inl (inr (ts, refl), cc)
one_to top code c (number x ∷ ts) e = go (leb x top) refl e
  where
    go : (b : Bool) → leb x top ≡ b → cond b (good x ts) (bad code) ≡ bad c → OneRefused top code c (number x ∷ ts)
    go true h q = bad_not_good (good x ts) c x ts q refl
    go false h q = inr ((x, ts, refl, leb-false x top h), cc)

one_from : (top code c : ℕ) (ts : List Token) → OneRefused top code c ts → one top code ts ≡ bad c
unfolding one
one_from top code c ts (inl (inl e, q)) = rw (e, q)
one_from top code c ts (inl (inr (rest, e), q)) = rw (e, q)
one_from top code c ts (inr ((x, rest, e, h), q)) = rw (e, lt-leb x top h, q)

read_to : (top code : ℕ) (ts : List Token) (v : ℕ) (rest : List Token) → one top code ts ≡ good v rest → (ts ≡ number v ∷ rest) × (v ≤ top)
unfolding one
read_to top code [] v rest e = bad_not_good (bad 30) 30 v rest refl e
read_to top code (other ∷ ts) v rest e = bad_not_good (bad 30) 30 v rest refl e
read_to top code (number x ∷ ts) v rest e = go (leb x top) refl e
  where
    go : (b : Bool) → leb x top ≡ b → cond b (good x ts) (bad code) ≡ good v rest → (number x ∷ ts ≡ number v ∷ rest) × (v ≤ top)
    go true h q = let y : x ≡ v = cc in let u : ts ≡ rest = cc in rw (← y, ← u) (refl, leb-true x top h)
    go false h q = bad_not_good (bad code) code v rest refl q

read_from_lem : (top code : ℕ) (ts : List Token) (v : ℕ) (rest : List Token) → ts ≡ number v ∷ rest → v ≤ top → one top code ts ≡ good v rest
unfolding one
read_from_lem top code ts v rest e h = rw (e, le-leb v top h)

pub one_refused : (top code c : ℕ) (ts : List Token) → (one top code ts ≡ bad c) ↔ OneRefused top code c ts
one_refused top code c ts = (one_to top code c ts, one_from top code c ts)

-- a number that was read stood there, within its limit
pub one_read : (top code : ℕ) (ts : List Token) (v : ℕ) (rest : List Token) → (one top code ts ≡ good v rest) ↔ ((ts ≡ number v ∷ rest) × (v ≤ top))
one_read top code ts v rest = (read_to top code ts v rest, λ q. read_from_lem top code ts v rest q.0 q.1)

-- the first of two readings is refused, or the second behind the first
pub then_refused : {A B : Type 0} (r : Read A) (f : A → List Token → Read B) (c : ℕ)
    → (and_then r f ≡ bad c) ↔ ((r ≡ bad c) ⊎ ((a : A) × (rest : List Token) × (r ≡ good a rest) × (f a rest ≡ bad c)))
then_refused {A} {B} r f c = (then_bad r f c, from r)
  where
    from : (r : Read A) → (r ≡ bad c) ⊎ ((a : A) × (rest : List Token) × (r ≡ good a rest) × (f a rest ≡ bad c)) → and_then r f ≡ bad c
    from r (inl e) = rw e
    from r (inr (a, rest, e, q)) = rw e q

-- of two readings one after the other: the first is refused, in the facts of that, or it is good and the second is
abbrev pub First : {A : Type 0} → Type 0 → Read A → (A → List Token → Type 0) → Type 0
First {A} Refused r Next = Refused ⊎ ((a : A) × (rest : List Token) × (r ≡ good a rest) × Next a rest)

pub first_refused : {A B : Type 0} (r : Read A) (f : A → List Token → Read B) (Refused : Type 0) (Next : A → List Token → Type 0) (c : ℕ)
    → (r ≡ bad c) ↔ Refused → ((a : A) (rest : List Token) → (f a rest ≡ bad c) ↔ Next a rest) → (and_then r f ≡ bad c) ↔ First Refused r Next
first_refused {A} r f Refused Next c g h = (λ e. to ((then_refused r f c).0 e), λ q. (then_refused r f c).1 (from q))
  where
    to : (r ≡ bad c) ⊎ ((a : A) × (rest : List Token) × (r ≡ good a rest) × (f a rest ≡ bad c)) → First Refused r Next
    to (inl e) = inl (g.0 e)
    to (inr (a, rest, e, q)) = inr (a, rest, e, (h a rest).0 q)

    from : First Refused r Next → (r ≡ bad c) ⊎ ((a : A) × (rest : List Token) × (r ≡ good a rest) × (f a rest ≡ bad c))
    from (inl e) = inl (g.1 e)
    from (inr (a, rest, e, q)) = inr (a, rest, e, (h a rest).1 q)

-- the same where both together are the first of another
pub first_within : {A B C : Type 0} (r : Read A) (f : A → List Token → Read B) (g : B → List Token → Read C) (Refused : Type 0) (Next : A → List Token → Type 0) (c : ℕ)
    → (r ≡ bad c) ↔ Refused → ((a : A) (rest : List Token) → (and_then (f a rest) g ≡ bad c) ↔ Next a rest) → (and_then (and_then r f) g ≡ bad c) ↔ First Refused r Next
first_within (bad d) f g Refused Next c = first_refused (bad d) (λ a rest. and_then (f a rest) g) Refused Next c
first_within (good x u) f g Refused Next c = first_refused (good x u) (λ a rest. and_then (f a rest) g) Refused Next c

-- the last of them, behind which nothing is refused
pub last_refused : {A B : Type 0} (r : Read A) (Refused : Type 0) (f : A → List Token → B) (end : A → List Token → List Token) (c : ℕ)
    → (r ≡ bad c) ↔ Refused → (and_then r (λ a rest. good (f a rest) (end a rest)) ≡ bad c) ↔ Refused
last_refused (bad d) Refused f end c g = ((λ e. g.0 cc), (λ q. let z = g.1 q in cc))
last_refused (good a rest) Refused f end c g = ((λ e. bad_not_good (good (f a rest) (end a rest)) c (f a rest) (end a rest) e refl), (λ q. bad_not_good (good a rest) c a rest (g.1 q) refl))

-- text is left over
pub over_refused : {A : Type 0} (a : A) (ts : List Token) (c : ℕ) → (nothing_more a ts ≡ bad c) ↔ ((c ≡ 30) × ((t : Token) × (rest : List Token) × (ts ≡ t ∷ rest)))
over_refused {A} a ts c = (to ts, from ts)
  where
    to : (ts : List Token) → nothing_more a ts ≡ bad c → (c ≡ 30) × ((t : Token) × (rest : List Token) × (ts ≡ t ∷ rest))
    to [] e = bad_not_good (good a []) c a [] e refl
    to (t ∷ ts) e = (cc, (t, ts, refl))

    from : (ts : List Token) → (c ≡ 30) × ((t : Token) × (rest : List Token) × (ts ≡ t ∷ rest)) → nothing_more a ts ≡ bad c
    from ts (q, (t, rest, e)) = rw (e, q)

-- behind i of m readings that were good, the next is refused, in the facts of that
pub record Behind {A : Type 0} (f : ℕ → List Token → Read A) (Refused : ℕ → List Token → Type 0) (j m : ℕ) (ts : List Token) : Type 0 where
  pub i : ℕ
  pub before : i < m
  pub xs : List A
  pub rest : List Token
  pub read : in_turn f j i ts ≡ good xs rest
  pub refused : Refused (j + i) rest

module _ {A : Type 0} (f : ℕ → List Token → Read A) (Refused : ℕ → List Token → Type 0) (c : ℕ) (facts : (j : ℕ) (ts : List Token) → (f j ts ≡ bad c) ↔ Refused j ts) where
  in_turn_to : (j m : ℕ) (ts : List Token) → in_turn f j m ts ≡ bad c → Behind f Refused j m ts
  unfolding in_turn
  in_turn_to j zero ts e = bad_not_good (good [] ts) c [] ts e refl
  in_turn_to j (suc m) ts e = go (then_bad (f j ts) (λ a u. and_then (in_turn f (suc j) m u) (λ ys end. good (a ∷ ys) end)) c e) (λ u q. in_turn_to (suc j) m u q)
    where
      here : f j ts ≡ bad c → Behind f Refused j (suc m) ts
      here q = let z : j + 0 ≡ j = omega arith in record { i = 0; before = omega arith; xs = []; rest = ts; read = refl; refused = rw z ((facts j ts).0 q) }

      later : (a : A) (u : List Token) → f j ts ≡ good a u → Behind f Refused (suc j) m u → Behind f Refused j (suc m) ts
      later a u q b =
          let z : j + suc b.i ≡ suc j + b.i = omega arith in
          record { i = suc b.i; before = omega (arith, b.before); xs = a ∷ b.xs; rest = b.rest; read = rw (q, b.read); refused = rw z b.refused }

      go : (f j ts ≡ bad c) ⊎ ((a : A) × (u : List Token) × (f j ts ≡ good a u) × (and_then (in_turn f (suc j) m u) (λ ys end. good (a ∷ ys) end) ≡ bad c))
          → ((u : List Token) → in_turn f (suc j) m u ≡ bad c → Behind f Refused (suc j) m u) → Behind f Refused j (suc m) ts
      go (inl q) k = here q
      go (inr (a, u, q, p)) k = last (then_bad (in_turn f (suc j) m u) (λ ys end. good (a ∷ ys) end) c p)
        where
          last : (in_turn f (suc j) m u ≡ bad c) ⊎ ((ys : List A) × (v : List Token) × (in_turn f (suc j) m u ≡ good ys v) × (good (a ∷ ys) v ≡ bad c)) → Behind f Refused j (suc m) ts
          last (inl y) = later a u q (k u y)
          last (inr (ys, v, y, w)) = bad_not_good (good (a ∷ ys) v) c (a ∷ ys) v w refl

  in_turn_from : (j m i : ℕ) (ts rest : List Token) (xs : List A) → i < m → in_turn f j i ts ≡ good xs rest → f (j + i) rest ≡ bad c → in_turn f j m ts ≡ bad c
  unfolding in_turn
  in_turn_from j zero i ts rest xs h e q = absurd (omega arith)
  in_turn_from j (suc m) zero ts rest xs h e q =
      let u : ts ≡ rest = (good_same [] xs ts rest e).1 in
      let z : j + 0 ≡ j = omega arith in
      let p : f j ts ≡ bad c = subst (λ (v : List Token). f j v ≡ bad c) (sym u) (subst (λ (k : ℕ). f k rest ≡ bad c) z q) in
      rw p
  in_turn_from j (suc m) (suc i) ts rest xs h e q =
      let s = then_good (f j ts) (λ a u. and_then (in_turn f (suc j) i u) (λ ys end. good (a ∷ ys) end)) xs rest e in
      let t = then_good (in_turn f (suc j) i s.1) (λ ys end. good (s.0 ∷ ys) end) xs rest s.3 in
      let v : t.1 ≡ rest = (good_same (s.0 ∷ t.0) xs t.1 rest t.3).1 in
      let z : j + suc i ≡ suc j + i = omega arith in
      let w = in_turn_from (suc j) m i s.1 rest t.0 (omega arith) (t.2 ∙ ap (good t.0) v) (subst (λ (k : ℕ). f k rest ≡ bad c) z q) in
      rw (s.2, w)

  pub in_turn_refused : (j m : ℕ) (ts : List Token) → (in_turn f j m ts ≡ bad c) ↔ Behind f Refused j m ts
  in_turn_refused j m ts = (in_turn_to j m ts, λ b. in_turn_from j m b.i ts b.rest b.xs b.before b.read ((facts (j + b.i) b.rest).1 b.refused))

-- numbers up to a limit: one of them is missing, is none, or is above it, behind numbers that are not
abbrev pub NumbersRefused : ℕ → ℕ → ℕ → List Token → Type 0
NumbersRefused top m c ts = Behind (λ j. one top 31) (λ j. OneRefused top 31 c) 0 m ts

pub numbers_refused : (top m c : ℕ) (ts : List Token) → (numbers_up_to top m ts ≡ bad c) ↔ NumbersRefused top m c ts
unfolding numbers_up_to
numbers_refused top m c ts = in_turn_refused (λ j. one top 31) (λ j. OneRefused top 31 c) c (λ j u. one_refused top 31 c u) 0 m ts
