-- The demands named as the code adds them up, job by job, and the test of code 27, member by member.
use Prim.Native.Nat.{ℕ, zero, suc, ◌+◌, ◌*◌, ◌-◌, ◌≤◌, ◌<◌}
use native.Mathlib.Omega.{arith}
use native.Mathlib.Numerals.{add-one}
use native.Mathlib.Decide.{dec_le}
use mathlib.Core.Path.{◌≡◌, refl, ◌∙◌}
use mathlib.Core.Bool.{Bool, true, false, not}
use mathlib.Core.List.{List, []}
use lib.Dec.{leb, ltb}
use lib.ListN.{length}
use borrow.Author.Tests.{lt-ltb, le-ltb, lt-leb, le-leb}
use Rattle.lists.specs.Lists.{◌!◌}
use Rattle.lists.specs.Tests.{both, where?, only, every}
use Rattle.lists.specs.Sums.{total}
use Rattle.lists.specs.Sets.{total_of}
use Rattle.lists.specs.Spares.{without, amount, spare}
use Rattle.lists.proofs.Sums.{total_suc}
use Rattle.lists.proofs.Sets.{total_of_limit}
use Rattle.lists.proofs.Spares.{without_total}
use Rattle.members.specs.Members.{has}
use Rattle.joblist.specs.Limits.{most_demand}
use Rattle.journal.specs.Journal.{set_of_record, job_of, is_member}
use Rattle.timetable.specs.Reason.{named}
use Rattle.codes.specs.Codes.{lean}
use Rattle.exam.specs.Lent.{jobs_in, Drawn}

-- ---- the demands of the members

abbrev pub share_at : List ℕ → List ℕ → ℕ → ℕ
share_at r s k = only (has s k) (r ! k)

pub draw_more : (r s : List ℕ) (k : ℕ) → total (share_at r s) (k + 1) ≡ total (share_at r s) k + share_at r s k
draw_more r s k = rw add-one (total_suc (share_at r s) k)

-- as the members' total
pub draw_total : (r s : List ℕ) (k : ℕ) → total (share_at r s) k ≡ total_of k r (has s)
unfolding total_of
draw_total r s k = refl

-- so few and so small that a sum fits
pub draw_most : (r s : List ℕ) (k : ℕ) → Drawn r → total (share_at r s) k ≤ k * most_demand
draw_most r s k d = rw (draw_total r s k) (total_of_limit k r (has s) most_demand d.within.0)

-- ---- 27

-- what is asked of bit k of the set s
abbrev pub spare_at : List ℕ → ℕ → ℕ → List ℕ → ℕ → Bool
spare_at r cap j s k = spare (length r) r (r ! j) cap (has s) k

every_same : (f g : ℕ → Bool) (m : ℕ) → ((k : ℕ) → f k ≡ g k) → every f m ≡ every g m
unfolding every
every_same f g zero h = refl
every_same f g (suc m) h = rw (h m, every_same f g m h)

not_above : (c z : ℕ) → not (ltb c z) ≡ leb z c
not_above c z = elim (dec_le z c) [ yes h ↦ rw (le-ltb c z h, le-leb z c h) | no h ↦ let b : c < z = omega arith in rw (lt-ltb c z b, lt-leb z c b) ]

module _ (r : List ℕ) (cap : ℕ) (x s : List ℕ) (is : s ≡ set_of_record x) (inside : (k : ℕ) → is_member x k ≡ true → k < length r) (all : ℕ) (all-is : all ≡ named (jobs_in (length r) [] r 0) x) where
  taken_away : (k : ℕ) → has s k ≡ true → all ≡ amount (length r) r (r ! job_of x) (without (has s) k) + r ! k
  taken_away k h =
      let a : all ≡ amount (length r) r (r ! job_of x) (has s) = rw is all-is in
      omega (arith, a, without_total (length r) r (has s) k (inside k (rw is at h)) h)

  -- a member is in the list, and its demand is among those named
  pub member_named : (k : ℕ) → has s k ≡ true → (k < length r) × (r ! k ≤ all)
  member_named k h = (inside k (rw is at h), omega (arith, taken_away k h))

  -- its demand taken away, those without it are left
  lean_at : (k : ℕ) → not (spare_at r cap (job_of x) s k) ≡ where? (has s k) (leb (all - r ! k) cap)
  unfolding spare
  lean_at k = go (has s k) refl
    where
      go : (b : Bool) → has s k ≡ b → not (both b (ltb cap (amount (length r) r (r ! job_of x) (without (has s) k)))) ≡ where? b (leb (all - r ! k) cap)
      go true e =
          let z : all - r ! k ≡ amount (length r) r (r ! job_of x) (without (has s) k) = omega (arith, taken_away k e) in
          rw z (not_above cap (amount (length r) r (r ! job_of x) (without (has s) k)))
      go false e = refl

  lean_bits : lean (jobs_in (length r) [] r cap) x ≡ every (λ k. not (spare_at r cap (job_of x) s k)) (32 * length s)
  unfolding lean
  lean_bits = rw is

  pub lean_is : lean (jobs_in (length r) [] r cap) x ≡ every (λ k. where? (has s k) (leb (all - r ! k) cap)) (32 * length s)
  lean_is = lean_bits ∙ every_same (λ k. not (spare_at r cap (job_of x) s k)) (λ k. where? (has s k) (leb (all - r ! k) cap)) (32 * length s) lean_at
