-- Laws of dropping spare members, over any set, numbers and limit: what is left still exceeds the limit, is a part of the set, and has no spare member; and
-- how the total falls from number to number.
use Prim.Native.Nat.{ℕ, zero, suc, ◌+◌, ◌-◌, ◌≤◌, ◌<◌, zero-le}
use native.Mathlib.Omega.{arith}
use native.Mathlib.Decide.{ℕ_discrete}
use mathlib.Core.Path.{◌≡◌, refl, sym, ap, ◌∙◌}
use mathlib.Core.Bool.{Bool, true, false, not}
use mathlib.Core.List.{List}
use lib.Dec.{ltb, eqb}
use borrow.Author.Tests.{eq-eqb, ne_eqb, lt-ltb, le-ltb, ltb-true, ltb-false, not-true, not-false}
use Rattle.lists.specs.Lists.{◌!◌}
use Rattle.lists.specs.Tests.{both, only}
use Rattle.lists.specs.Sets.{Set, total_of}
use Rattle.lists.specs.Spares.{without, amount, Spare, NoneSpare, spare, dropped, leaned}
use Rattle.lists.proofs.Judged.{Judged}
use Rattle.lists.proofs.Tests.{both_yes, both_true, true_both}
use Rattle.lists.proofs.Sums.{total_others}
use Rattle.lists.proofs.Sets.{clash, total_of_sub, total_of_cong}

-- ---- tests

-- a number that is dropped is left out; nothing else changes, and nothing where none is dropped
drops : (a c : Bool) → both a (not (both c true)) ≡ both (not c) a
drops true true = refl
drops true false = refl
drops false true = refl
drops false false = refl

keeps : (a c : Bool) → both a (not (both c false)) ≡ a
keeps true true = refl
keeps true false = refl
keeps false true = refl
keeps false false = refl

-- a member's number is the difference that it makes
pub without_total : (n : ℕ) (r : List ℕ) (T : Set) (k : ℕ) → k < n → T k ≡ true → total_of n r (without T k) + r ! k ≡ total_of n r T
unfolding total_of
without_total n r T k b h = let e : only (T k) (r ! k) ≡ r ! k = rw h in omega (arith, e, total_others T (λ i. r ! i) k n b)

-- the test and what it stands for
pub judged_spare : (n : ℕ) (r : List ℕ) (own limit : ℕ) (T : Set) (k : ℕ)
    → Judged (T k ≡ true → amount n r own (without T k) ≤ limit) (Spare n r own limit T k) (not (spare n r own limit T k))
unfolding spare
judged_spare n r own limit T k =
    let x = amount n r own (without T k) in
    record {
      passed = λ h q. ltb-false limit x (not-true (ltb limit x) (rw q at h));
      failed = λ h. let d = both_true (T k) (ltb limit x) (not-false (both (T k) (ltb limit x)) h) in record { member = d.0; still = ltb-true limit x d.1 };
      apart = λ f q. omega (arith, f q.member, q.still);
    }

-- of sets that agree below n
module _ (n : ℕ) (r : List ℕ) (own limit : ℕ) (T S : Set) (same : (k : ℕ) → k < n → S k ≡ T k) where
  pub exceeds_as : limit < amount n r own T → limit < amount n r own S
  exceeds_as h = omega (arith, total_of_cong n r S T same)

  pub none_spare_as : ((k : ℕ) → S k ≡ true → T k ≡ true) → NoneSpare n r own limit T → NoneSpare n r own limit S
  none_spare_as f h k q =
      omega (arith, h k (f k q), total_of_cong n r (without S k) (without T k) (λ i b. ap (both (not (eqb i k))) (same i b)))

module _ (n : ℕ) (r : List ℕ) (own limit : ℕ) (T : Set) where
  abbrev left : ℕ → Set
  left k = dropped n r own limit T k

  -- ---- what is left

  -- the numbers not gone through yet are as they were
  left_later : (k i : ℕ) → k ≤ i → left k i ≡ T i
  unfolding dropped
  left_later zero i h = refl
  left_later (suc k) i h = rw (ne_eqb i k (λ e. omega arith)) (both_yes (left k i) ∙ left_later k i (omega arith))

  -- and those gone through stay as they are
  left_done : (k m i : ℕ) → i < k → k ≤ m → left m i ≡ left k i
  unfolding dropped
  left_done k zero i b h = absurd (omega arith)
  left_done k (suc m) i b h = go (λ c. left_done k m i b c)
    where
      go : (k ≤ m → left m i ≡ left k i) → left (suc m) i ≡ left k i
      go f =
          elim (ℕ_discrete k (suc m)) [
            | yes e ↦ rw e
            | no e ↦ rw (ne_eqb i m (λ q. omega arith)) (both_yes (left m i) ∙ f (omega arith))
          ]

  -- what is left later was left before
  left_within : (k m i : ℕ) → k ≤ m → left m i ≡ true → left k i ≡ true
  unfolding dropped
  left_within k zero i h q = let e : k ≡ 0 = omega arith in rw e q
  left_within k (suc m) i h q = go (λ c. left_within k m i c (both_true (left m i) _ q).0)
    where
      go : (k ≤ m → left k i ≡ true) → left k i ≡ true
      go f = elim (ℕ_discrete k (suc m)) [ yes e ↦ rw e q | no e ↦ f (omega arith) ]

  -- members of the set
  pub leaned_in : (i : ℕ) → leaned n r own limit T i ≡ true → T i ≡ true
  unfolding leaned dropped
  leaned_in i h = left_within 0 n i zero-le h

  -- a number below n is decided when it is gone through
  leaned_at : (k : ℕ) → k < n → leaned n r own limit T k ≡ left (suc k) k
  unfolding leaned
  leaned_at k b = left_done (suc k) n k (omega arith) b

  -- ---- one number

  -- the total left, with what counts beside it
  abbrev pub amount_left : ℕ → ℕ
  amount_left k = amount n r own (left k)

  gone_spare : (k : ℕ) → spare n r own limit (left k) k ≡ true → (amount_left (suc k) ≡ amount n r own (without (left k) k)) × (left (suc k) k ≡ false)
  unfolding dropped
  gone_spare k h = (
    ap (λ (x : ℕ). x + own) (total_of_cong n r (left (suc k)) (without (left k) k) (λ i b. rw h (drops (left k i) (eqb i k)))),
    rw (h, eq-eqb k k refl) (drops (left k k) true),
  )

  gone_kept : (k : ℕ) → spare n r own limit (left k) k ≡ false → (amount_left (suc k) ≡ amount_left k) × (left (suc k) k ≡ T k)
  unfolding dropped
  gone_kept k h = (
    ap (λ (x : ℕ). x + own) (total_of_cong n r (left (suc k)) (left k) (λ i b. rw h (keeps (left k i) (eqb i k)))),
    rw h (keeps (left k k) (eqb k k) ∙ left_later k k (omega arith)),
  )

  -- ---- as a writer goes through them, with what is left so far in a number

  module _ (k : ℕ) (b : k < n) where
    -- a member not gone through yet counts
    pub counts_at : T k ≡ true → r ! k ≤ amount_left k
    counts_at h = omega (arith, without_total n r (left k) k b (left_later k k (omega arith) ∙ h))

    -- without member k the limit is still exceeded: it is dropped, and the number falls
    pub drops_at : T k ≡ true → limit < amount_left k - r ! k → (amount_left k ≡ amount_left (suc k) + r ! k) × (leaned n r own limit T k ≡ false)
    unfolding spare
    drops_at h q =
        let m : left k k ≡ true = left_later k k (omega arith) ∙ h in
        let w = without_total n r (left k) k b m in
        let s = gone_spare k (true_both (left k k) _ m (lt-ltb limit (amount n r own (without (left k) k)) (omega arith))) in
        (omega (arith, s.0), leaned_at k b ∙ s.1)

    -- else it stays
    pub keeps_at : T k ≡ true → amount_left k - r ! k ≤ limit → (amount_left k ≡ amount_left (suc k)) × (leaned n r own limit T k ≡ true)
    unfolding spare
    keeps_at h q =
        let m : left k k ≡ true = left_later k k (omega arith) ∙ h in
        let w = without_total n r (left k) k b m in
        let s = gone_kept k (rw (m, le-ltb limit (amount n r own (without (left k) k)) (omega arith))) in
        (sym s.0, leaned_at k b ∙ s.1 ∙ h)

    -- a number that is no member changes nothing
    pub skips_at : T k ≡ false → (amount_left k ≡ amount_left (suc k)) × (leaned n r own limit T k ≡ false)
    unfolding spare
    skips_at h =
        let s = gone_kept k (rw (left_later k k (omega arith), h)) in
        (sym s.0, leaned_at k b ∙ s.1 ∙ h)

  -- ---- lean

  -- what is left exceeds the limit as T did
  left_exceeds : limit < amount n r own T → (k : ℕ) → limit < amount_left k
  unfolding dropped spare
  left_exceeds h zero = h
  left_exceeds h (suc k) = go (left_exceeds h k) (spare n r own limit (left k) k) refl
    where
      go : limit < amount_left k → (x : Bool) → spare n r own limit (left k) k ≡ x → limit < amount_left (suc k)
      go f true e = let q = ltb-true limit (amount n r own (without (left k) k)) (both_true (left k k) _ e).1 in omega (arith, (gone_spare k e).0, q)
      go f false e = omega (arith, (gone_kept k e).0, f)

  pub leaned_exceeds : limit < amount n r own T → limit < amount n r own (leaned n r own limit T)
  unfolding leaned
  leaned_exceeds h = left_exceeds h n

  -- and none of its members is spare, where T's lie below n
  pub leaned_none_spare : ((k : ℕ) → T k ≡ true → k < n) → NoneSpare n r own limit (leaned n r own limit T)
  unfolding leaned spare
  leaned_none_spare inside k h = go (spare n r own limit (left k) k) refl
    where
      b : k < n
      b = inside k (leaned_in k h)

      here : left k k ≡ true
      here = left_later k k (omega arith) ∙ leaned_in k h

      fewer : total_of n r (without (left n) k) ≤ total_of n r (without (left k) k)
      fewer =
          total_of_sub n r (without (left n) k) (without (left k) k)
          (λ i c q. let d = both_true (not (eqb i k)) (left n i) q in true_both (not (eqb i k)) (left k i) d.0 (left_within k n i (omega (arith, b)) d.1))

      go : (x : Bool) → spare n r own limit (left k) k ≡ x → amount n r own (without (left n) k) ≤ limit
      go true e = clash (left (suc k) k) (sym (leaned_at k b) ∙ h) (gone_spare k e).1
      go false e =
          let q = ltb-false limit (amount n r own (without (left k) k)) (rw here at e) in
          omega (arith, q, fewer)
