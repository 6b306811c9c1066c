-- The pass of the search: which jobs are members, how far it goes, and what its end says.
use Prim.Native.Nat.{ℕ, zero, suc, ◌+◌, ◌*◌, ◌-◌, ◌≤◌, ◌<◌, max}
use native.Mathlib.Omega.{arith}
use mathlib.Core.Path.{◌≡◌, refl, sym, ◌∙◌}
use mathlib.Core.Bool.{Bool, true, false, not}
use mathlib.Core.List.{List}
use mathlib.Core.Option.{Option, none, some}
use lib.Dec.{leb, ltb, eqb}
use lib.ListN.{length, take}
use lib.Seq.{length-take-le}
use borrow.Author.Tests.{le-leb, ltb-true, ltb-false}
use Rattle.lists.specs.Lists.{◌!◌}
use Rattle.lists.specs.Tests.{both, pick}
use Rattle.lists.specs.Extremes.{found_or}
use Rattle.lists.specs.Sets.{Set}
use Rattle.lists.specs.Sweeps.{advanced, sweep}
use Rattle.lists.proofs.Sweeps.{sweep_more, sweep_latest}
use Rattle.narrowing.specs.Windows.{Win, early}
use Rattle.joblist.specs.Limits.{most_time, most_jobs}
use Rattle.heads.specs.Search.{comes_first, firsts, early_bound, when, detect}
use Rattle.heads.proofs.Search.{early_latest, first_yes}
use Rattle.mirrors.specs.Back.{told}
use Rattle.mirrors.proofs.Back.{back_at}
use Rattle.ahead.specs.Ready.{Ready}

-- the job at a place of the order is one of each list
pub listed : {n : ℕ} {starts ends p o : List ℕ} → Ready n starts ends p o → (m : ℕ) → m < n
    → (o ! m < n) × (o ! m < length starts) × (o ! m < length ends) × (o ! m < length p) × (n ≤ most_jobs)
listed r m h =
    let b = r.order.into m h in
    let l = r.lent in
    (b, omega (arith, l.starts_long), omega (arith, l.ends_long), omega (arith, l.p_long), l.few)

-- the order's first n places are as many as the jobs
pub places_all : {n : ℕ} {starts ends p o : List ℕ} → Ready n starts ends p o → length (take n o) ≡ n
places_all r = length-take-le _ _ (omega (arith, r.room, r.lent.few))

-- the test in code, of a job that lasts
pub member_is : (starts ends p : List ℕ) (k i : ℕ) → k < length ends → 1 ≤ p ! i
    → both (not (eqb k i)) (both (leb 1 (p ! k)) (ltb (most_time - ends ! k) (starts ! i + p ! i + p ! k))) ≡ firsts p (told starts ends) i k
unfolding comes_first
member_is starts ends p k i h q = rw (le-leb 1 (p ! i) q, back_at ends k h)

-- one more place: what the test says is whether its job is a member
pub sweep_on : (starts ends p o : List ℕ) (i m done : ℕ) → Ready (length starts) starts ends p o → m < length starts → 1 ≤ p ! i
    → done ≡ sweep starts p (firsts p (told starts ends) i) o m → (member : Bool)
    → member ≡ both (not (eqb (o ! m) i)) (both (leb 1 (p ! (o ! m))) (ltb (most_time - ends ! (o ! m)) (starts ! i + p ! i + p ! (o ! m))))
    → pick member (advanced done (starts ! (o ! m)) (p ! (o ! m))) done ≡ sweep starts p (firsts p (told starts ends) i) o (m + 1)
sweep_on starts ends p o i m done r b q d member t =
    let O = firsts p (told starts ends) i in
    let is : member ≡ O (o ! m) = t ∙ member_is starts ends p (o ! m) i (listed r m b).2 q in
    rw (is, d) (sym (sweep_more starts p O o m))

pub sweep_zero : (e p : List ℕ) (O : Set) (o : List ℕ) → sweep e p O o 0 ≡ 0
unfolding sweep
sweep_zero e p O o = refl

pick_under : (c : Bool) (x y b : ℕ) → x ≤ b → y ≤ b → pick c x y ≤ b
pick_under true x y b h g = h
pick_under false x y b h g = g

-- each place adds a duration at most
pub sweep_under : (e p : List ℕ) (O : Set) (o : List ℕ) → ((k : ℕ) → e ! k ≤ most_time) → ((k : ℕ) → p ! k ≤ most_time) → (m : ℕ) → sweep e p O o m ≤ most_time * (m + 1)
unfolding sweep
sweep_under e p O o f g zero = omega arith
sweep_under e p O o f g (suc m) =
    let i = sweep_under e p O o f g m in
    pick_under (O (o ! m)) _ _ (most_time * (suc m + 1))
    (omega (arith, g (o ! m), pick_under (ltb (sweep e p O o m) (e ! (o ! m))) (e ! (o ! m)) (sweep e p O o m) (most_time * (m + 1)) (omega (arith, f (o ! m))) i))
    (omega arith)

pub bound_is : (starts ends p o : List ℕ) (i m : ℕ) → Ready (length starts) starts ends p o → m ≡ length starts
    → sweep starts p (firsts p (told starts ends) i) o m ≡ early_bound (length starts) p (told starts ends) i
bound_is starts ends p o i m r q = rw q (sym (sweep_latest (length starts) starts p (firsts p (told starts ends) i) o r.order))

-- ---- the job's start after the rule

module _ (n : ℕ) (p : List ℕ) (W : Win) (i : ℕ) where
  -- a job of duration 0 stays
  pub start_stays : p ! i ≡ 0 → W.e ! i ≡ found_or (W.e ! i) (detect n p W i early)
  start_stays h = go (detect n p W i early) refl
    where
      go : (x : Option ℕ) → detect n p W i early ≡ x → W.e ! i ≡ found_or (W.e ! i) x
      go none e = refl
      go (some b) e =
          let l = (early_latest n p W i b e).1 in
          let a = l.ends.least in
          absurd (omega (arith, (first_yes p W a.at i (l.sub a.at a.below a.member)).lasts_i))

  -- another starts at the bound, where that is later
  pub start_is : max (W.e ! i) (early_bound n p W i) ≡ found_or (W.e ! i) (detect n p W i early)
  unfolding detect
  start_is = go (ltb (W.e ! i) (early_bound n p W i)) refl
    where
      go : (c : Bool) → ltb (W.e ! i) (early_bound n p W i) ≡ c → max (W.e ! i) (early_bound n p W i) ≡ found_or (W.e ! i) (when c (early_bound n p W i))
      go true e = omega (arith, ltb-true _ _ e)
      go false e = omega (arith, ltb-false _ _ e)
