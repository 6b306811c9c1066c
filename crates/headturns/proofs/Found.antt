-- What the start that the search gives says: the job rests, or it moves to a later one, which no word is too small for; and the lists after such a move.
use Prim.Native.Nat.{ℕ, ◌+◌, ◌*◌, ◌≤◌}
use native.Mathlib.Omega.{arith}
use mathlib.Core.Path.{◌≡◌, refl, ap, subst, ◌∙◌}
use mathlib.Core.List.{List}
use mathlib.Core.Option.{Option, none, some}
use lib.ListN.{length, set, length-set}
use Rattle.lists.specs.Lists.{◌!◌}
use Rattle.lists.specs.Extremes.{found_or}
use Rattle.lists.specs.Orders.{Ordered}
use Rattle.lists.proofs.Lists.{set_any}
use Rattle.lists.proofs.Sets.{total_of_limit}
use Rattle.narrowing.specs.Windows.{Win, early}
use Rattle.joblist.specs.Limits.{most_time, most_jobs}
use Rattle.heads.specs.Search.{detect}
use Rattle.heads.proofs.Search.{early_latest}
use Rattle.ahead.specs.Ready.{Ready}

module _ (n : ℕ) (p : List ℕ) (W : Win) (j to : ℕ) (h : to ≡ found_or (W.e ! j) (detect n p W j early)) where
  by_search : (x : Option ℕ) → detect n p W j early ≡ x → to ≡ found_or (W.e ! j) x
  by_search x e = h ∙ ap (found_or (W.e ! j)) e

  pub found_none : to ≡ W.e ! j → detect n p W j early ≡ none
  found_none q = go (detect n p W j early) refl
    where
      go : (x : Option ℕ) → detect n p W j early ≡ x → detect n p W j early ≡ none
      go none e = e
      go (some b) e = absurd (omega (arith, by_search (some b) e, (early_latest n p W j b e).0))

  pub found_some : (to ≡ W.e ! j → ⊥) → detect n p W j early ≡ some to
  found_some q = go (detect n p W j early) refl
    where
      go : (x : Option ℕ) → detect n p W j early ≡ x → detect n p W j early ≡ some to
      go none e = absurd (q (by_search none e))
      go (some b) e = let r : b ≡ to = omega (arith, by_search (some b) e) in e ∙ ap (λ (x : ℕ). some x) r

  pub found_later : W.e ! j ≤ to
  found_later = go (detect n p W j early) refl
    where
      go : (x : Option ℕ) → detect n p W j early ≡ x → W.e ! j ≤ to
      go none e = omega (arith, by_search none e)
      go (some b) e = omega (arith, by_search (some b) e, (early_latest n p W j b e).0)

  -- it is an earliest start and a total of n durations at most
  pub found_limit : (most : ℕ) → ((k : ℕ) → W.e ! k ≤ most) → ((k : ℕ) → p ! k ≤ most) → to ≤ most + n * most
  found_limit most f g = go (detect n p W j early) refl
    where
      go : (x : Option ℕ) → detect n p W j early ≡ x → to ≤ most + n * most
      go none e = omega (arith, by_search none e, f j)
      go (some b) e =
          let l = (early_latest n p W j b e).1 in
          omega (arith, by_search (some b) e, l.ends.is, l.ends.least.is, f l.ends.least.at, total_of_limit n p l.T most g)

-- a start raised within the limit, with the order made for it
pub ready_raised : (n : ℕ) (starts ends p o : List ℕ) (j b : ℕ) → Ready n starts ends p o → b ≤ most_time → (starts' o' : List ℕ) → starts' ≡ set starts j b
    → Ordered starts' (length starts') o' → length o' ≡ most_jobs → Ready n starts' ends p o'
ready_raised n starts ends p o j b r h starts' o' e s m =
    let l = r.lent in
    let z : length starts' ≡ n = ap length e ∙ length-set starts j b ∙ l.starts_long in
    record {
      lent = record {
        few = l.few;
        starts_long = z;
        ends_long = l.ends_long;
        p_long = l.p_long;
        starts_most = λ k. rw e (set_any (λ (x : ℕ). x ≤ most_time) starts j b k (λ q. h) (l.starts_most k));
        ends_most = l.ends_most;
        p_most = l.p_most;
      };
      room = m;
      order = subst (λ (i : ℕ). Ordered starts' i o') z s;
    }
