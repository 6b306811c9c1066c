-- The decimal digits of a number: one by one, how many they are, and that as a token they are the number.
use Prim.Native.Nat.{ℕ, zero, suc, ◌+◌, ◌-◌, ◌*◌, ◌/◌, ◌%◌, ◌^◌, ◌≤◌, ◌<◌}
use native.Mathlib.Omega.{arith}
use mathlib.Core.Path.{◌≡◌, refl, ap, ◌∙◌}
use mathlib.Core.Bool.{Bool, true, false, cond}
use mathlib.Core.List.{List, [], ◌∷◌, ◌++◌}
use lib.Dec.{ltb}
use lib.ListN.{length, length-append}
use borrow.Author.Tests.{ltb-true, ltb-false, lt-ltb, le-ltb, le-leb, ne_eqb}
use Rattle.lists.specs.Lists.{Every}
use Rattle.scanner.specs.Scan.{held}
use Rattle.texts.specs.Tokens.{blank, digit, number, more, token_from, token}
use Rattle.scanner.proofs.Runs.{Solid, token_append}
use Rattle.projects.specs.Form.{decimal_in, decimal}

-- more room than is needed changes nothing
enough : (m k v : ℕ) → v < m → v < k → decimal_in m v ≡ decimal_in k v
unfolding decimal_in
enough zero k v a b = absurd (omega arith)
enough (suc m) zero v a b = absurd (omega arith)
enough (suc m) (suc k) v a b = go (ltb v 10) refl (λ l. enough m k (v / 10) (omega arith) (omega arith))
  where
    go : (t : Bool) → ltb v 10 ≡ t → (10 ≤ v → decimal_in m (v / 10) ≡ decimal_in k (v / 10))
        → cond t ((48 + v) ∷ []) (decimal_in m (v / 10) ++ ((48 + v % 10) ∷ [])) ≡ cond t ((48 + v) ∷ []) (decimal_in k (v / 10) ++ ((48 + v % 10) ∷ []))
    go true e h = refl
    go false e h = rw (h (ltb-false v 10 e))

-- a number of one digit, and a number of more
pub decimal_one : (v : ℕ) → v < 10 → decimal v ≡ (48 + v) ∷ []
unfolding decimal decimal_in
decimal_one v h = rw (lt-ltb v 10 h)

pub decimal_more : (v : ℕ) → 10 ≤ v → decimal v ≡ decimal (v / 10) ++ ((48 + v % 10) ∷ [])
unfolding decimal decimal_in
decimal_more v h = rw (le-ltb v 10 h, enough v (suc (v / 10)) (v / 10) (omega arith) (omega arith))

-- what holds of every digit, of digits in front and of the numbers of one digit
decimal_induction : (P : ℕ → Type 0) → ((v : ℕ) → v < 10 → P v) → ((v : ℕ) → 10 ≤ v → P (v / 10) → P v) → (m v : ℕ) → v < m → P v
decimal_induction P one more zero v h = absurd (omega arith)
decimal_induction P one more (suc m) v h = go (ltb v 10) refl (λ l. decimal_induction P one more m (v / 10) (omega arith))
  where
    go : (t : Bool) → ltb v 10 ≡ t → (10 ≤ v → P (v / 10)) → P v
    go true e k = one v (ltb-true v 10 e)
    go false e k = more v (ltb-false v 10 e) (k (ltb-false v 10 e))

-- ---- the digits as a token

digit_is : (v : ℕ) → v < 10 → digit (48 + v) ≡ true
unfolding digit
digit_is v h = rw (le-leb 48 (48 + v) (omega arith), le-leb (48 + v) 57 (omega arith))

not_blank : (v : ℕ) → blank (48 + v) ≡ false
unfolding blank
not_blank v = rw (ne_eqb (48 + v) 32 (λ e. omega arith), ne_eqb (48 + v) 9 (λ e. omega arith), ne_eqb (48 + v) 13 (λ e. omega arith), ne_eqb (48 + v) 10 (λ e. omega arith))

-- a number with a digit more
more_digit : (x v : ℕ) → v < 10 → more (number x) (48 + v) ≡ number (x * 10 + v)
more_digit x v h = let s : 48 + v - 48 ≡ v = omega arith in rw (digit_is v h, s)

pub decimal_token : (v : ℕ) → token (decimal v) ≡ number v
unfolding token token_from
decimal_token v = decimal_induction (λ x. token_from (number 0) (decimal x) ≡ number x) one rest (suc v) v (omega arith)
  where
    one : (x : ℕ) → x < 10 → token_from (number 0) (decimal x) ≡ number x
    one x h = rw (decimal_one x h) (more_digit 0 x h ∙ ap number (omega arith))

    rest : (x : ℕ) → 10 ≤ x → token_from (number 0) (decimal (x / 10)) ≡ number (x / 10) → token_from (number 0) (decimal x) ≡ number x
    rest x h q = rw (decimal_more x h, token_append (number 0) (decimal (x / 10)) ((48 + x % 10) ∷ []), q) (more_digit (x / 10) (x % 10) (omega arith) ∙ ap number (omega arith))

every_append : {A : Type 0} (P : A → Type 0) (xs ys : List A) → Every P xs → Every P ys → Every P (xs ++ ys)
every_append P [] ys h k = k
every_append P (x ∷ xs) ys h k = (h.0, every_append P xs ys h.1 k)

pub decimal_solid : (v : ℕ) → Solid (decimal v)
decimal_solid v = decimal_induction (λ x. Solid (decimal x)) (λ x h. rw (decimal_one x h) (not_blank x, tt))
    (λ x h q. rw (decimal_more x h) (every_append (λ b. blank b ≡ false) (decimal (x / 10)) ((48 + x % 10) ∷ []) q (not_blank (x % 10), tt))) (suc v) v (omega arith)

-- ---- how many they are

pub decimal_some : (v : ℕ) → 0 < length (decimal v)
decimal_some v = decimal_induction (λ x. 0 < length (decimal x)) (λ x h. rw (decimal_one x h) (omega arith))
    (λ x h q. rw (decimal_more x h, length-append (decimal (x / 10)) ((48 + x % 10) ∷ [])) (omega arith)) (suc v) v (omega arith)

decimal_few : (k v : ℕ) → v < 10 ^ suc k → length (decimal v) ≤ suc k
decimal_few zero v h = rw (decimal_one v (omega arith)) (omega arith)
decimal_few (suc k) v h = go (ltb v 10) refl (λ l. decimal_few k (v / 10) l)
  where
    go : (t : Bool) → ltb v 10 ≡ t → (v / 10 < 10 ^ suc k → length (decimal (v / 10)) ≤ suc k) → length (decimal v) ≤ suc (suc k)
    go true e q = rw (decimal_one v (ltb-true v 10 e)) (omega arith)
    go false e q = rw (decimal_more v (ltb-false v 10 e), length-append (decimal (v / 10)) ((48 + v % 10) ∷ [])) (omega (arith, q (omega arith)))

-- of a number of 32 bits
pub decimal_32 : (v : ℕ) → v < held → length (decimal v) ≤ 10
decimal_32 v h = decimal_few 9 v (omega arith)
