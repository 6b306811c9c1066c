-- The pieces walked down and up: of every function that the lists keep, none of the times passed lies over the limit.
use Prim.Native.Nat.{ℕ, zero, suc, ◌+◌, ◌-◌, ◌≤◌, ◌<◌}
use native.Mathlib.Omega.{arith}
use native.Mathlib.Decide.{dec_lt, ℕ_discrete}
use mathlib.Core.Path.{◌≡◌}
use mathlib.Core.List.{List}
use Rattle.lists.specs.Lists.{◌!◌}
use Rattle.lists.specs.Extremes.{LastWith, FirstWith}
use Rattle.profile.specs.Steps.{behind_all, Points, Levels}

module _ (ts ld : List ℕ) (m limit a b : ℕ) where
  -- every function kept is clear of the limit from x up to y
  abbrev Clear : ℕ → ℕ → Type 0
  Clear x y = (f : ℕ → ℕ) → Levels ts ld m f → (t : ℕ) → x ≤ t → t < y → f t ≤ limit

  -- one piece more
  clear_piece : (i : ℕ) → i < m → ld ! i ≤ limit → Clear (ts ! i) (ts ! (i + 1))
  clear_piece i h g f L t p q = omega (arith, L i t h p q)

  clear_join : (x y z : ℕ) → Clear x y → Clear y z → Clear x z
  clear_join x y z A B f L t p q = elim (dec_lt t y) [ yes d ↦ A f L t p d | no d ↦ B f L t (omega arith) q ]

  -- what a search finds of every function kept
  abbrev LastAt : ℕ → Type 0
  LastAt x = (f : ℕ → ℕ) → Levels ts ld m f → LastWith (λ t. limit < f t) a b x

  abbrev FirstAt : ℕ → Type 0
  FirstAt x = (f : ℕ → ℕ) → Levels ts ld m f → FirstWith (λ t. limit < f t) a b x

  -- the walk is at piece i, which lies in the stretch
  pub record At (i : ℕ) : Type 0 where
    pub points : Points ts ld m
    pub apart : a < b
    pub near : b < behind_all
    pub listed : i < m
    pub before : ts ! i < b
    pub ahead : a < ts ! (i + 1)

  -- ---- down from b: the pieces above i are passed
  pub record Down (i : ℕ) : Type 0 where
    pub at : At i
    pub clear : Clear (ts ! (i + 1)) b

  module _ (i : ℕ) (D : Down i) where
    rest : ld ! i ≤ limit → Clear (ts ! i) b
    rest q = clear_join (ts ! i) (ts ! (i + 1)) b (clear_piece i D.at.listed q) D.clear

    pub down_inner : a < ts ! i → 1 ≤ i
    down_inner q = go i q
      where
        go : (k : ℕ) → a < ts ! k → 1 ≤ k
        go zero z = absurd (omega (arith, D.at.points.grid.start))
        go (suc k) z = omega arith

    pub down_step : ld ! i ≤ limit → a < ts ! i → Down (i - 1)
    down_step q r =
        let z = down_inner r in
        let e : i - 1 + 1 ≡ i = omega arith in
        let up : ts ! (i - 1) < ts ! i = rw e at (D.at.points.grid.rises (i - 1) (omega (arith, D.at.listed))) in
        record {
          at = record {
            points = D.at.points;
            apart = D.at.apart;
            near = D.at.near;
            listed = omega (arith, D.at.listed);
            before = omega (arith, D.at.before);
            ahead = rw e r;
          };
          clear = rw e (rest q);
        }

    pub down_none : ld ! i ≤ limit → ts ! i ≤ a → LastAt a
    down_none q r f L =
        record {
          from = omega arith;
          to = omega (arith, D.at.apart);
          has = λ t e k. absurd (omega arith);
          none_behind = λ t x y o. omega (arith, rest q f L t (omega arith) y);
        }

    pub down_found : limit < ld ! i → (x : ℕ) → (ts ! (i + 1) < b → x ≡ ts ! (i + 1)) → (b ≤ ts ! (i + 1) → x ≡ b) → LastAt x
    down_found q x s u f L =
        elim (dec_lt (ts ! (i + 1)) b) [
          | yes d ↦ go (ts ! (i + 1)) (s d) (omega (arith, D.at.ahead)) (D.at.points.grid.rises i D.at.listed) (omega arith) (omega arith) (λ t k l. D.clear f L t k l)
          | no d ↦ go b (u (omega arith)) (omega (arith, D.at.apart)) D.at.before (omega arith) (omega arith) (λ t k l. absurd (omega arith))
        ]
      where
        go : (y : ℕ) → x ≡ y → a ≤ y → ts ! i < y → y ≤ ts ! (i + 1) → y ≤ b → ((t : ℕ) → y ≤ t → t < b → f t ≤ limit) → LastWith (λ t. limit < f t) a b x
        go y e n o k l c =
            rw e
            record {
              from = n;
              to = l;
              has = λ t v w. omega (arith, L i t D.at.listed (omega arith) (omega arith));
              none_behind = λ t v w z. omega (arith, c t v w);
            }

  -- ---- up from a: the pieces below i are passed
  pub record Up (i : ℕ) : Type 0 where
    pub at : At i
    pub clear : Clear a (ts ! i)

  module _ (i : ℕ) (D : Up i) where
    past : ld ! i ≤ limit → Clear a (ts ! (i + 1))
    past q = clear_join a (ts ! i) (ts ! (i + 1)) D.clear (clear_piece i D.at.listed q)

    up_inner : ts ! (i + 1) < b → i + 1 < m
    up_inner q =
        elim (ℕ_discrete (i + 1) m) [
          | yes e ↦ absurd (omega (arith, rw e at q, D.at.points.grid.end, D.at.near))
          | no e ↦ omega (arith, D.at.listed)
        ]

    pub up_step : ld ! i ≤ limit → ts ! (i + 1) < b → Up (i + 1)
    up_step q r =
        record {
          at = record {
            points = D.at.points;
            apart = D.at.apart;
            near = D.at.near;
            listed = up_inner r;
            before = r;
            ahead = omega (arith, D.at.ahead, D.at.points.grid.rises (i + 1) (up_inner r));
          };
          clear = past q;
        }

    pub up_none : ld ! i ≤ limit → b ≤ ts ! (i + 1) → FirstAt b
    up_none q r f L =
        record {
          from = omega (arith, D.at.apart);
          to = omega arith;
          has = λ d. absurd (omega arith);
          none_before = λ t x y o. omega (arith, past q f L t x (omega arith));
        }

    pub up_found : limit < ld ! i → (x : ℕ) → (ts ! i < a → x ≡ a) → (a ≤ ts ! i → x ≡ ts ! i) → FirstAt x
    up_found q x s u f L =
        elim (dec_lt (ts ! i) a) [
          | yes d ↦ go a (s d) (omega arith) (omega arith) D.at.ahead (omega (arith, D.at.apart)) (λ t k l. absurd (omega arith))
          | no d ↦ go (ts ! i) (u (omega arith)) (omega arith) (omega arith) (D.at.points.grid.rises i D.at.listed) (omega (arith, D.at.before)) (λ t k l. D.clear f L t k l)
        ]
      where
        go : (y : ℕ) → x ≡ y → a ≤ y → ts ! i ≤ y → y < ts ! (i + 1) → y ≤ b → ((t : ℕ) → a ≤ t → t < y → f t ≤ limit) → FirstWith (λ t. limit < f t) a b x
        go y e n o k l c =
            rw e record { from = n; to = l; has = λ d. omega (arith, L i y D.at.listed o k); none_before = λ t v w z. omega (arith, c t v w) }
