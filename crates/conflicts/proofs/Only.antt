-- The list of some jobs alone: it is good where the whole list is, the jobs are among its own, and starts of theirs by themselves are a schedule of it.
use Prim.Native.Nat.{ℕ, ◌+◌, ◌≤◌, ◌<◌}
use native.Mathlib.Omega.{arith}
use mathlib.Core.Path.{◌≡◌, refl, sym, ap, subst, ◌∙◌}
use mathlib.Core.Bool.{true}
use mathlib.Core.List.{List}
use lib.ListN.{length}
use Rattle.lists.specs.Lists.{◌!◌}
use Rattle.lists.specs.Tests.{both, only}
use Rattle.lists.specs.Sets.{Set, Sub}
use Rattle.lists.specs.Picked.{picked, picked_place}
use Rattle.lists.proofs.Lists.{listed, listed_at, listed_length}
use Rattle.lists.proofs.Tests.{both_true, true_both, only_le, only_both}
use Rattle.lists.proofs.Sums.{total_le, total_cong}
use Rattle.lists.proofs.Picked.{place_most, place_less, place_apart, place-back, place_total, picked_length, picked_at, picked_within}
use Rattle.narrowing.specs.Windows.{Win}
use Rattle.joblist.specs.Limits.{jobs}
use Rattle.timetable.specs.Time.{Jobs, runs_at, drawn_by, drawn, Fits}
use Rattle.timetable.specs.Table.{Call, jobs_of, Good}
use Rattle.timetable.specs.Promise.{Scheduled}
use Rattle.conflicts.specs.Apart.{Together, only_of, Among}

-- fewer jobs stand among others where more do
pub among_fewer : (M O : Set) (c d : Call) (π : ℕ → ℕ) → ((k : ℕ) → O k ≡ true → M k ≡ true) → Among M c d π → Among O c d π
among_fewer M O c d π f h =
    record {
      listed = λ k b e. h.listed k b (f k e);
      apart = λ i k b e x y. h.apart i k b e (f i x) (f k y);
      early = λ k b e. h.early k b (f k e);
      late = λ k b e. h.late k b (f k e);
      lasts = λ k b e. h.lasts k b (f k e);
      takes = λ k b e. h.takes k b (f k e);
      supply = h.supply;
    }

-- and fewer have starts by themselves where more have
pub together_fewer : (J : Jobs) (M O : Set) → Sub J.n O M → (W : Win) (s : List ℕ) → Together J M W s → Together J O W s
unfolding drawn_by
together_fewer J M O f W s x =
    record {
      from = λ k b e. x.from k b (f k b e);
      to = λ k b e. x.to k b (f k b e);
      fits = λ t.
          omega (
            arith,
            total_le (λ k. only (both (O k) (runs_at J.p s k t)) (J.r ! k)) (λ k. only (both (M k) (runs_at J.p s k t)) (J.r ! k)) J.n
                (λ k b.
                only_le (both (O k) (runs_at J.p s k t)) (both (M k) (runs_at J.p s k t)) (J.r ! k)
                (λ q. let y = both_true (O k) (runs_at J.p s k t) q in true_both (M k) (runs_at J.p s k t) (f k b y.0) y.1)),
            x.fits t,
          );
    }

module _ (M : Set) (c : Call) (g : Good c) (log : List ℕ) where
  abbrev n : ℕ
  n = jobs c.win

  abbrev few : Call
  few = only_of M c log

  -- a list of n numbers: how many are picked, and where
  many : (xs : List ℕ) → length xs ≡ n → length (picked M xs) ≡ picked_place M n
  many xs e = picked_length M xs ∙ ap (picked_place M) e

  at : (xs : List ℕ) → length xs ≡ n → (k : ℕ) → k < n → M k ≡ true → picked M xs ! picked_place M k ≡ xs ! k
  at xs e k b t = picked_at M xs k (omega arith) t

  abbrev e_long : length c.win.e ≡ n
  e_long = g.sized.0

  abbrev l_long : length c.win.l ≡ n
  l_long = g.sized.1.0

  abbrev p_long : length c.p ≡ n
  p_long = g.sized.1.1.0

  abbrev r_long : length c.r ≡ n
  r_long = g.sized.1.1.1.0

  pub only_good : Good few
  only_good =
      let same : (xs : List ℕ) → length xs ≡ n → length (picked M xs) ≡ jobs few.win = λ xs e. many xs e ∙ sym (many c.win.e e_long) in
      record {
        sized = (refl, (same c.win.l l_long, (same c.p p_long, (same c.r r_long, tt))));
        few = omega (arith, many c.win.e e_long, place_most M n, g.few);
        within = (
          picked_within M c.win.e _ g.within.0,
          (
            picked_within M c.win.l _ g.within.1.0,
            (
              picked_within M c.p _ g.within.1.1.0,
              (picked_within M c.r _ g.within.1.1.1.0, tt),
            ),
          ),
        );
        beside = g.beside;
      }

  pub only_among : Among M c few (picked_place M)
  only_among =
      record {
        listed = λ k b t. omega (arith, many c.win.e e_long, place_less M k n b t);
        apart = λ i k b q s t e. place_apart M i k s t e;
        early = λ k b t. omega (arith, at c.win.e e_long k b t);
        late = λ k b t. omega (arith, at c.win.l l_long k b t);
        lasts = λ k b t. omega (arith, at c.p p_long k b t);
        takes = λ k b t. omega (arith, at c.r r_long k b t);
        supply = omega arith;
      }

  -- ---- starts

  module _ (s : List ℕ) (x : Together (jobs_of c) M c.win s) where
    abbrev all : List ℕ
    all = listed n (λ k. s ! k)

    all_long : length all ≡ n
    all_long = listed_length n (λ k. s ! k)

    abbrev pub starts : List ℕ
    starts = picked M all

    start_at : (k : ℕ) → k < n → M k ≡ true → starts ! picked_place M k ≡ s ! k
    start_at k b t = at all all_long k b t ∙ listed_at n (λ i. s ! i) k b

    -- each place of the list is that of a job of M
    placed : (P : ℕ → Type 0) → ((k : ℕ) → k < n → M k ≡ true → P (picked_place M k)) → (q : ℕ) → q < jobs few.win → P q
    placed P f q b =
        let y = place-back M n q (omega (arith, many c.win.e e_long)) in
        subst P y.3 (f y.0 y.1 y.2)

    draws : (t k : ℕ) → k < n → M k ≡ true → only (runs_at few.p starts (picked_place M k) t) (few.r ! picked_place M k) ≡ only (runs_at c.p s k t) (c.r ! k)
    unfolding runs_at
    draws t k b h = rw (start_at k b h, at c.p p_long k b h, at c.r r_long k b h)

    drawn_same : (t : ℕ) → drawn (jobs_of few) starts t ≡ drawn_by (jobs_of c) M s t
    unfolding drawn drawn_by
    drawn_same t =
        rw (many c.win.e e_long)
        (place_total M (λ q. only (runs_at few.p starts q t) (few.r ! q)) (λ k. only (runs_at c.p s k t) (c.r ! k)) n (draws t)
        ∙ total_cong (λ k. only (M k) (only (runs_at c.p s k t) (c.r ! k))) (λ k. only (both (M k) (runs_at c.p s k t)) (c.r ! k)) n
        (λ k b. sym (only_both (M k) (runs_at c.p s k t) (c.r ! k))))

    pub only_scheduled : Scheduled few few.win starts
    unfolding Fits
    only_scheduled =
        record {
          from = placed (λ q. few.win.e ! q ≤ starts ! q) (λ k b t. omega (arith, at c.win.e e_long k b t, start_at k b t, x.from k b t));
          to = placed (λ q. starts ! q + few.p ! q ≤ few.win.l ! q)
              (λ k b t. omega (arith, at c.win.l l_long k b t, at c.p p_long k b t, start_at k b t, x.to k b t));
          fits = λ t. omega (arith, drawn_same t, x.fits t);
        }
