-- The members as the writer goes through them by rising number: the test of one job, the set filled so far, and the demands still named.
use Prim.Native.Nat.{ℕ, ◌+◌, ◌*◌, ◌-◌, ◌≤◌, ◌<◌}
use native.Mathlib.Omega.{arith}
use native.Mathlib.Numerals.{add-one}
use mathlib.Core.Path.{◌≡◌, refl}
use mathlib.Core.Bool.{Bool, true, false, not}
use mathlib.Core.List.{List}
use lib.Dec.{leb, ltb, eqb}
use borrow.Author.Tests.{lt-ltb}
use Rattle.lists.specs.Lists.{◌!◌}
use Rattle.lists.specs.Tests.{both}
use Rattle.lists.specs.Spares.{dropped}
use Rattle.lists.proofs.Spares.{amount_left, counts_at, drops_at, keeps_at, skips_at}
use Rattle.narrowing.specs.Windows.{Win, win}
use Rattle.members.specs.Members.{set_words, setOf, inserted}
use Rattle.members.proofs.Writing.{below, below_put, below_skip, below_end}
use Rattle.timetable.specs.Time.{Jobs, sure, load}
use Rattle.timetable.specs.Search.{member, lean_member}
use Rattle.timetable.specs.Table.{jobs_of}
use Rattle.timetable.proofs.Lean.{members_load, lean_member_lem}
use Rattle.crowding.specs.Asked.{asked, load_of}

module _ (J : Jobs) (W : Win) (j t : ℕ) where
  -- of a job of the list
  pub member_at : (k : ℕ) → k < J.n
      → member J W j t k ≡ both (not (eqb k j)) (both (leb 1 (J.r ! k)) (both (leb (W.l ! k) (t + J.p ! k)) (ltb t (W.e ! k + J.p ! k))))
  unfolding member sure
  member_at k b = rw (lt-ltb k J.n b)

  -- the members named below k, as the writer has filled the set; and the demands still named by then
  abbrev pub gathered : ℕ → List ℕ
  gathered k = setOf set_words (below (lean_member J W j t) k)

  abbrev pub still : ℕ → ℕ
  still k = amount_left J.n J.r (J.r ! j) J.cap (member J W j t) k

  module _ (few : J.n ≤ 32 * set_words) (k : ℕ) (b : k < J.n) where
    -- member k's demand is among those still named
    pub named_yet : member J W j t k ≡ true → J.r ! k ≤ still k
    named_yet h = counts_at J.n J.r (J.r ! j) J.cap (member J W j t) k b h

    -- member k is dropped
    pub gathered_drop : member J W j t k ≡ true → J.cap < still k - J.r ! k → (gathered k ≡ gathered (k + 1)) × (still k - J.r ! k ≡ still (k + 1))
    unfolding lean_member
    gathered_drop h q =
        let d = drops_at J.n J.r (J.r ! j) J.cap (member J W j t) k b h q in
        rw add-one (below_skip set_words (lean_member J W j t) k d.1, omega (arith, d.0))

    -- it is named
    pub gathered_put : member J W j t k ≡ true → still k - J.r ! k ≤ J.cap → (inserted (gathered k) k ≡ gathered (k + 1)) × (still k ≡ still (k + 1))
    unfolding lean_member
    gathered_put h q =
        let d = keeps_at J.n J.r (J.r ! j) J.cap (member J W j t) k b h q in
        rw add-one (below_put set_words (lean_member J W j t) k (omega arith) d.1, d.0)

    -- k is no member
    pub gathered_skip : member J W j t k ≡ false → (gathered k ≡ gathered (k + 1)) × (still k ≡ still (k + 1))
    unfolding lean_member
    gathered_skip h =
        let d = skips_at J.n J.r (J.r ! j) J.cap (member J W j t) k b h in
        rw add-one (below_skip set_words (lean_member J W j t) k d.1, d.0)

  lean_past : (k : ℕ) → J.n ≤ k → lean_member J W j t k ≡ false
  lean_past k b = go (lean_member J W j t k) refl
    where
      go : (x : Bool) → lean_member J W j t k ≡ x → lean_member J W j t k ≡ false
      go true e = absurd (omega (arith, (lean_member_lem J W j t k e).listed))
      go false e = e

  pub gathered_all : (k : ℕ) → J.n ≤ k → gathered k ≡ setOf set_words (lean_member J W j t)
  gathered_all k b = below_end set_words (lean_member J W j t) k (λ i h c. lean_past i (omega arith))

-- before any number is gone through they are all named; the capacity has no part in a load
pub still_first : (e l p r : List ℕ) (cap j t : ℕ) → load_of (asked e l p r 0) j t + r ! j ≡ still (jobs_of (asked e l p r cap)) (win e l) j t 0
unfolding dropped load
still_first e l p r cap j t = omega (arith, members_load (jobs_of (asked e l p r cap)) (win e l) j t)
