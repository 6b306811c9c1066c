-- A stretch raised: a point at its two ends, and the levels between them lifted.
use Prim.Native.Nat.{ℕ, zero, suc, ◌+◌, ◌≤◌, ◌<◌}
use native.Mathlib.Omega.{arith}
use native.Mathlib.Numerals.{add-one}
use native.Mathlib.Decide.{dec_lt, dec_le}
use mathlib.Core.Path.{◌≡◌, sym, ◌∙◌}
use mathlib.Core.List.{List}
use lib.ListN.{length}
use Rattle.lists.specs.Lists.{◌!◌}
use Rattle.lists.proofs.Tests.{counts_in, counts_before, counts_behind}
use Rattle.profile.specs.Steps.{behind_all, Grid, Points, Levels, Piece}
use Rattle.profile.specs.Raises.{raised, CutAt, Lifted, Low}
use Rattle.profile.proofs.Pieces.{in_order}

raised_in : (f : ℕ → ℕ) (lo hi r t : ℕ) → lo ≤ t → t < hi → raised f lo hi r t ≡ f t + r
raised_in f lo hi r t a b = omega (arith, counts_in lo hi t r a b)

pub raised_before : (f : ℕ → ℕ) (lo hi r t : ℕ) → t < lo → raised f lo hi r t ≡ f t
raised_before f lo hi r t a = omega (arith, counts_before lo hi t r a)

pub raised_behind : (f : ℕ → ℕ) (lo hi r t : ℕ) → hi ≤ t → raised f lo hi r t ≡ f t
raised_behind f lo hi r t a = omega (arith, counts_behind lo hi t r a)

-- every time before `behind_all` lies in a piece
piece_of : {ts : List ℕ} {m : ℕ} → Grid ts m → (t : ℕ) → t < behind_all → (q : ℕ) × Piece ts m t q
piece_of {ts} {m} P t h = go m (omega arith) (omega (arith, P.end))
  where
    go : (n : ℕ) → n ≤ m → t < ts ! n → (q : ℕ) × Piece ts m t q
    go zero b l = absurd (omega (arith, P.start))
    go (suc n) b l =
        let e : n + 1 ≡ suc n = add-one n in
        elim (dec_le (ts ! n) t) [
          | yes d ↦ (n, record { listed = omega arith; from = d; to = rw e l })
          | no d ↦ go n (omega arith) (omega arith)
        ]

-- a level is a value of the function
pub level_low : {ts ld : List ℕ} {m : ℕ} → Points ts ld m → (f : ℕ → ℕ) → Levels ts ld m f → (b : ℕ) → ((t : ℕ) → f t ≤ b) → Low ld m b
level_low {ts} P f L b h i d = omega (arith, L i (ts ! i) d (omega arith) (P.grid.rises i d), h (ts ! i))

-- n points in us and ls keep each function that the m points in ts and ld kept, raised by r from lo up to hi; it is at most `top` there
pub record Raises (ts ld : List ℕ) (m lo hi r : ℕ) (us ls : List ℕ) (n top : ℕ) : Type 0 where
  pub points : Points us ls n
  pub size : length us ≡ length ts
  pub few : n ≤ m + 2
  pub levels : (f : ℕ → ℕ) → Levels ts ld m f → Levels us ls n (raised f lo hi r)
  pub most : (f : ℕ → ℕ) → Levels us ls n f → (t : ℕ) → lo ≤ t → t < hi → f t ≤ top

module _ {ts ld us ls vs lf : List ℕ} {m lo hi n₁ i n₂ k : ℕ} (C : CutAt ts ld m lo us ls n₁ i) (h : lo < hi) (near : hi < behind_all)
    (D : CutAt us ls n₁ hi vs lf n₂ k)
  where
    -- the first point is still there, before the second
    from_here : vs ! i ≡ lo
    from_here = D.stay i C.listed (omega (arith, C.here)) ∙ C.here

    pub before_to : i < k
    before_to =
        elim (dec_lt i k) [
          | yes d ↦ d
          | no d ↦ absurd (omega (arith, in_order D.points.grid k i (omega arith) i-in, D.here, from_here))
        ]
      where
        i-in : i ≤ n₂
        i-in = omega (arith, C.listed, D.many)

    pub low_all : (b : ℕ) → Low ld m b → Low lf k b
    low_all b B q d = D.low b (C.low b B) q (omega (arith, D.listed))

    module _ {lg : List ℕ} {r top : ℕ} (L : Lifted lf i k r lg top) where
      pub raises : Raises ts ld m lo hi r vs lg n₂ top
      raises =
          record {
            points = record { grid = D.points.grid; beside = L.size ∙ D.points.beside };
            size = D.size ∙ C.size;
            few = omega (arith, C.few, D.few);
            levels = λ f F. lifted f (D.levels f (C.levels f F));
            most = most;
          }
        where
          lifted : (f : ℕ → ℕ) → Levels vs lf n₂ f → Levels vs lg n₂ (raised f lo hi r)
          lifted f F q t b u v =
              elim (dec_lt q i) [
                | yes d ↦
                    L.before q d ∙ F q t b u v
                    ∙ sym (raised_before f lo hi r t (omega (arith, in_order D.points.grid (q + 1) i (omega arith) (omega (arith, before_to, D.listed)), from_here)))
                | no d ↦
                    elim (dec_lt q k) [
                      | yes e ↦
                          omega (
                            arith,
                            L.inside q (omega arith) e,
                            F q t b u v,
                            raised_in f lo hi r t
                                (omega (arith, in_order D.points.grid i q (omega arith) (omega arith), from_here))
                                (omega (arith, in_order D.points.grid (q + 1) k (omega arith) (omega (arith, D.listed)), D.here)),
                          )
                      | no e ↦
                          L.behind q (omega arith) ∙ F q t b u v
                          ∙ sym (raised_behind f lo hi r t (omega (arith, in_order D.points.grid k q (omega arith) (omega arith), D.here)))
                    ]
              ]

          most : (f : ℕ → ℕ) → Levels vs lg n₂ f → (t : ℕ) → lo ≤ t → t < hi → f t ≤ top
          most f F t a b =
              let p = piece_of D.points.grid t (omega arith) in
              let q = p.0 in
              let x = p.1 in
              let first : i ≤ q =
              elim (dec_lt q i) [
                | yes d ↦ absurd (omega (arith, in_order D.points.grid (q + 1) i (omega arith) (omega (arith, before_to, D.listed)), from_here, x.to))
                | no d ↦ omega arith
              ] in
              let last : q < k =
              elim (dec_lt q k) [
                | yes d ↦ d
                | no d ↦ absurd (omega (arith, in_order D.points.grid k q (omega arith) (omega (arith, x.listed)), D.here, x.from))
              ] in
              omega (arith, F q t x.listed x.from x.to, L.most q first last)
