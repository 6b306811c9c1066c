-- A turn on side 0 of the windows is one at side 0, and of the windows told the other way round one at side 1.
use Prim.Native.Nat.{ℕ, ◌+◌, ◌-◌, ◌≤◌, ◌<◌}
use native.Mathlib.Omega.{arith}
use mathlib.Core.Path.{◌≡◌, ap, subst, ◌∙◌}
use mathlib.Core.List.{List}
use mathlib.Core.Option.{Option, none, some}
use lib.ListN.{length, set, length-set}
use lib.Seq.{get_or-set_same}
use borrow.Author.Tests.{lt-ltb, le-ltb}
use Rattle.lists.specs.Lists.{◌!◌}
use Rattle.lists.specs.Bounds.{lead}
use Rattle.lists.proofs.Lists.{set_any}
use Rattle.narrowing.specs.Windows.{Win, win, early, late, moved}
use Rattle.joblist.specs.Limits.{most_time}
use Rattle.heads.specs.Search.{bound, detect}
use Rattle.heads.specs.Mirror.{less_from}
use Rattle.heads.proofs.Search.{early_latest, first_yes}
use Rattle.heads.proofs.Mirror.{mirror_detect}
use Rattle.mirrors.specs.Back.{counted_back, told}
use Rattle.mirrors.proofs.Back.{back_at, back_length, back_set, mirrored}
use Rattle.ahead.specs.Ready.{LentWindows, Ready}
use Rattle.headturns.specs.declared.Turn.{Turn}
use Rattle.headturns.specs.declared.Turn.TheVariants.{Rests, Moved, Closed}
use Rattle.headturns.specs.Turns.{HeadLists, head_lists, windows, Both, TurnOn, TurnSays}

-- the other side's list keeps its order while an end is raised within the limit
behind_set : (n : ℕ) (starts ends p o : List ℕ) (j b : ℕ) → Ready n ends starts p o → b ≤ most_time → Ready n ends (set starts j b) p o
behind_set n starts ends p o j b r h =
    let l = r.lent in
    record {
      lent = record {
        few = l.few;
        starts_long = l.starts_long;
        ends_long = length-set starts j b ∙ l.ends_long;
        p_long = l.p_long;
        starts_most = l.starts_most;
        ends_most = λ k. set_any (λ (x : ℕ). x ≤ most_time) starts j b k (λ q. h) (l.ends_most k);
        p_most = l.p_most;
      };
      room = r.room;
      order = r.order;
    }

module _ (n : ℕ) (p : List ℕ) (A : HeadLists) (S : Both n p A) (j : ℕ) (h : j < n) where
  abbrev L : LentWindows n A.starts A.ends p
  L = S.ahead.lent

  own_end : counted_back A.ends ! j ≡ most_time - A.ends ! j
  own_end = back_at A.ends j (omega (arith, L.ends_long))

  start_set : (b : ℕ) → set A.starts j b ! j ≡ b
  start_set b = get_or-set_same A.starts j b 0 (omega (arith, L.starts_long))

  -- ---- side 0

  pub turn_early : (starts' fore' : List ℕ) (r : Turn) → TurnOn A.starts A.ends p A.fore j starts' fore' r
      → TurnSays n p A j early (head_lists starts' A.ends fore' A.rear) r
  unfolding bound
  turn_early starts' fore' Rests x = (rw L.starts_long at x.0, rw (x.1, x.2))
  turn_early starts' fore' Moved (b, d, q, e, r) = (
    b,
    rw L.starts_long at d,
    ap (λ (s : List ℕ). told s A.ends) e,
    rw (e, start_set b, own_end) (le-ltb (most_time - A.ends ! j) (b + p ! j) (omega arith)),
    record { ahead = rw L.starts_long at r; behind = rw e (behind_set n A.starts A.ends p A.rear j b S.behind (omega arith)) },
  )
  turn_early starts' fore' Closed (b, d, q, e, f) = (
    b,
    rw L.starts_long at d,
    rw (start_set b, own_end) (lt-ltb (most_time - A.ends ! j) (b + p ! j) (omega (arith, L.ends_most j))),
    rw (e, f),
  )

  -- ---- side 1

  -- the choice of the windows told the other way round, and the bound that it stands for
  late_choice : (x : Option ℕ) → detect (length A.ends) p (told A.ends A.starts) j early ≡ x → detect n p (windows A) j late ≡ less_from (most_time + lead n p) x
  late_choice x d =
      mirror_detect n most_time p (windows A) (told A.ends A.starts)
      (mirrored n A.starts A.ends L.starts_long L.ends_long L.starts_most L.ends_most) j h
      ∙ ap (less_from (most_time + lead n p)) (subst (λ (m : ℕ). detect m p (told A.ends A.starts) j early ≡ x) L.ends_long d)

  late_bound_lem : (b : ℕ) → bound n p late (most_time + lead n p - b) ≡ most_time - b
  unfolding bound
  late_bound_lem b = omega arith

  end_set : (b : ℕ) → set (counted_back A.ends) j (most_time - b) ! j ≡ most_time - b
  end_set b = get_or-set_same (counted_back A.ends) j (most_time - b) 0 (omega (arith, back_length A.ends, L.ends_long))

  -- a job that moves lasts
  lasts : (m b : ℕ) (W : Win) → detect m p W j early ≡ some b → 1 ≤ p ! j
  lasts m b W d =
      let l = (early_latest m p W j b d).1 in
      let a = l.ends.least in
      (first_yes p W a.at j (l.sub a.at a.below a.member)).lasts_i

  pub turn_late : (ends' rear' : List ℕ) (r : Turn) → TurnOn A.ends A.starts p A.rear j ends' rear' r
      → TurnSays n p A j late (head_lists A.starts ends' A.fore rear') r
  turn_late ends' rear' Rests x = (late_choice none x.0, rw (x.1, x.2))
  turn_late ends' rear' Moved (b, d, q, e, r) =
      let w : told A.starts ends' ≡ moved (windows A) j late (bound n p late (most_time + lead n p - b)) =
      rw (e, late_bound_lem b) (ap (λ (l : List ℕ). win A.starts l) (back_set A.ends j b)) in (
        most_time + lead n p - b,
        late_choice (some b) d,
        w,
        rw (e, back_set A.ends j b, end_set b) (le-ltb (most_time - b) (A.starts ! j + p ! j) (omega arith)),
        record { ahead = rw e (behind_set n A.ends A.starts p A.fore j b S.ahead (omega arith)); behind = rw L.ends_long at r },
      )
  turn_late ends' rear' Closed (b, d, q, e, f) = (
    most_time + lead n p - b,
    late_choice (some b) d,
    rw (late_bound_lem b, end_set b) (lt-ltb (most_time - b) (A.starts ! j + p ! j) (omega (arith, lasts (length A.ends) b (told A.ends A.starts) d))),
    rw (e, f),
  )
