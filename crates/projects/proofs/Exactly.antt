-- When a text is refused, in facts: a successor, a row of PSPLIB's tables, and a text of the Patterson layout with its opening and its rows, down to the
-- number that is missing, is none or is too large (document 02, Item 1). Numbers and several readings one after the other have theirs in `texts: Exactly`.
use Prim.Native.Nat.{ℕ, ◌+◌, ◌-◌, ◌≤◌, ◌<◌}
use native.Mathlib.Omega.{arith}
use mathlib.Core.Path.{◌≡◌, refl}
use mathlib.Core.Bool.{Bool, true, false, cond}
use mathlib.Core.List.{List, ◌∷◌}
use mathlib.Core.Logic.{◌⊎◌, inl, inr, ◌↔◌}
use lib.Dec.{eqb}
use borrow.Author.Tests.{eqb-true, eq-eqb}
use Rattle.joblist.specs.Limits.{most_time, most_demand, most_jobs, most_resources}
use Rattle.texts.specs.Tokens.{Token, tokens}
use Rattle.texts.specs.Readings.{bad, good, one, exactly, in_turn, numbers_up_to}
use Rattle.texts.proofs.Readings.{bad_not_good}
use Rattle.texts.proofs.Exactly.{NoNumber, NumberThat, OneRefused, one_refused, one_read, then_refused, First, first_refused, first_within, last_refused, over_refused, Behind, in_turn_refused, NumbersRefused, numbers_refused}
use Rattle.texts.proofs.Given.{ExactlyRefused, exactly_refused}
use Rattle.projects.specs.Tables.{numbered, relation, request}
use Rattle.projects.specs.Projects.{link}
use Rattle.projects.specs.Patterson.{row, opening, patterson}

-- ---- a successor: 30 where no number stands, 32 where it is 0 or above n

abbrev pub LinkRefused : ℕ → ℕ → List Token → Type 0
LinkRefused n c ts = (NoNumber ts × (c ≡ 30)) ⊎ (NumberThat (λ x. (x ≡ 0) ⊎ (n < x)) ts × (c ≡ 32))

module _ (n c : ℕ) (ts : List Token) where
  -- behind a number that was read: it was 0
  zero_read : (x : ℕ) (rest : List Token) → one n 32 ts ≡ good x rest → cond (eqb x 0) (bad 32) (good (x - 1) rest) ≡ bad c → LinkRefused n c ts
  zero_read x rest e q = go (eqb x 0) refl q
    where
      go : (b : Bool) → eqb x 0 ≡ b → cond b (bad 32) (good (x - 1) rest) ≡ bad c → LinkRefused n c ts
      go true h p = inr ((x, rest, ((one_read n 32 ts x rest).0 e).0, inl (eqb-true x 0 h)), cc)
      go false h p = bad_not_good (good (x - 1) rest) c (x - 1) rest p refl

  link_to : link n ts ≡ bad c → LinkRefused n c ts
  unfolding link
  link_to e = go ((then_refused (one n 32 ts) (λ x rest. cond (eqb x 0) (bad 32) (good (x - 1) rest)) c).0 e)
    where
      large : OneRefused n 32 c ts → LinkRefused n c ts
      large (inl q) = inl q
      large (inr ((x, rest, p, h), q)) = inr ((x, rest, p, inr h), q)

      go : (one n 32 ts ≡ bad c) ⊎ ((x : ℕ) × (rest : List Token) × (one n 32 ts ≡ good x rest) × (cond (eqb x 0) (bad 32) (good (x - 1) rest) ≡ bad c)) → LinkRefused n c ts
      go (inl q) = large ((one_refused n 32 c ts).0 q)
      go (inr (x, rest, q, p)) = zero_read x rest q p

  link_from : LinkRefused n c ts → link n ts ≡ bad c
  unfolding link
  link_from (inl q) = rw ((one_refused n 32 c ts).1 (inl q))
  link_from (inr ((x, rest, e, inr h), q)) = rw ((one_refused n 32 c ts).1 (inr ((x, rest, e, h), q)))
  link_from (inr ((x, rest, e, inl z), q)) =
      let k : x ≤ n = omega arith in
      rw ((one_read n 32 ts x rest).1 (e, k), eq-eqb x 0 z, q)

  pub link_refused : (link n ts ≡ bad c) ↔ LinkRefused n c ts
  link_refused = (link_to, link_from)

-- m successors: one of them, behind others that are good
abbrev pub LinksRefused : ℕ → ℕ → ℕ → List Token → Type 0
LinksRefused n m c ts = Behind (λ i. link n) (λ i. LinkRefused n c) 0 m ts

pub links_refused : (n m c : ℕ) (ts : List Token) → (in_turn (λ i. link n) 0 m ts ≡ bad c) ↔ LinksRefused n m c ts
links_refused n m c ts = in_turn_refused (λ i. link n) (λ i. LinkRefused n c) c (λ i u. link_refused n c u) 0 m ts

-- ---- the rows of PSPLIB's tables

-- 30 where the job's number, or the 1 behind it, is not that
abbrev pub NumberedRefused : ℕ → ℕ → List Token → Type 0
NumberedRefused j c ts = First (ExactlyRefused (j + 1) c ts) (exactly (j + 1) ts) (λ a rest. ExactlyRefused 1 c rest)

-- then a successor count that is no number, 30, or above the jobs, 31, or a successor
abbrev pub RelationRefused : ℕ → ℕ → ℕ → List Token → Type 0
RelationRefused n c j ts =
    First (NumberedRefused j c ts) (numbered j ts) (λ a t₁.
    First (OneRefused n 31 c t₁) (one n 31 t₁) (λ m t₂.
    LinksRefused n m c t₂))

-- then a duration, or one of the demands on k resources: 30 where it is no number, 31 where it is above its limit
abbrev pub RequestRefused : ℕ → ℕ → ℕ → List Token → Type 0
RequestRefused k c j ts =
    First (NumberedRefused j c ts) (numbered j ts) (λ a t₁.
    First (OneRefused most_time 31 c t₁) (one most_time 31 t₁) (λ d t₂.
    NumbersRefused most_demand k c t₂))

module _ (c : ℕ) where
  pub numbered_refused : (j : ℕ) (ts : List Token) → (numbered j ts ≡ bad c) ↔ NumberedRefused j c ts
  unfolding numbered
  numbered_refused j ts = first_refused (exactly (j + 1) ts) _ _ _ c (exactly_refused (j + 1) c ts) (λ a rest. exactly_refused 1 c rest)

  pub relation_refused : (n j : ℕ) (ts : List Token) → (relation n j ts ≡ bad c) ↔ RelationRefused n c j ts
  unfolding relation
  relation_refused n j ts =
      first_refused (numbered j ts) _ _ _ c (numbered_refused j ts) (λ a t₁.
      first_refused (one n 31 t₁) _ _ _ c (one_refused n 31 c t₁) (λ m t₂.
      links_refused n m c t₂))

  pub request_refused : (k j : ℕ) (ts : List Token) → (request k j ts ≡ bad c) ↔ RequestRefused k c j ts
  unfolding request
  request_refused k j ts =
      first_refused (numbered j ts) _ _ _ c (numbered_refused j ts) (λ a t₁.
      first_refused (one most_time 31 t₁) _ _ _ c (one_refused most_time 31 c t₁) (λ d t₂.
      last_refused (numbers_up_to most_demand k t₂) _ (λ qs t₃. record { duration = d; demands = qs }) (λ qs t₃. t₃) c (numbers_refused most_demand k c t₂)))

-- ---- the Patterson layout

-- job count, resource count, one of the capacities: 30 where it is no number, 31 where it is above its limit
abbrev pub OpeningRefused : ℕ → List Token → Type 0
OpeningRefused c ts =
    First (OneRefused most_jobs 31 c ts) (one most_jobs 31 ts) (λ n t₁.
    First (OneRefused most_resources 31 c t₁) (one most_resources 31 t₁) (λ k t₂.
    NumbersRefused most_demand k c t₂))

-- duration, one of the demands on k resources, successor count: 30 where it is no number, 31 where it is above its limit, which is n for the count; then
-- one of the successors
abbrev pub RowRefused : ℕ → ℕ → ℕ → List Token → Type 0
RowRefused n k c ts =
    First (OneRefused most_time 31 c ts) (one most_time 31 ts) (λ d t₁.
    First (NumbersRefused most_demand k c t₁) (numbers_up_to most_demand k t₁) (λ qs t₂.
    First (OneRefused n 31 c t₂) (one n 31 t₂) (λ m t₃.
    LinksRefused n m c t₃)))

-- the opening, one of the rows behind rows that are good, or text left over: 30
abbrev pub PattersonRefused : ℕ → List Token → Type 0
PattersonRefused c ts =
    First (OpeningRefused c ts) (opening ts) (λ o t₁.
    First (Behind (row o.jobs o.resources) (λ j. RowRefused o.jobs o.resources c) 0 o.jobs t₁) (in_turn (row o.jobs o.resources) 0 o.jobs t₁) (λ rs t₂.
    (c ≡ 30) × ((t : Token) × (rest : List Token) × (t₂ ≡ t ∷ rest))))

module _ (c : ℕ) where
  pub opening_refused : (ts : List Token) → (opening ts ≡ bad c) ↔ OpeningRefused c ts
  unfolding opening
  opening_refused ts =
      first_refused (one most_jobs 31 ts) _ _ _ c (one_refused most_jobs 31 c ts) (λ n t₁.
      first_refused (one most_resources 31 t₁) _ _ _ c (one_refused most_resources 31 c t₁) (λ k t₂.
      last_refused (numbers_up_to most_demand k t₂) _ (λ cs t₃. record { jobs = n; resources = k; capacities = cs }) (λ cs t₃. t₃) c (numbers_refused most_demand k c t₂)))

  pub row_refused : (n k j : ℕ) (ts : List Token) → (row n k j ts ≡ bad c) ↔ RowRefused n k c ts
  unfolding row
  row_refused n k j ts =
      first_within (one most_time 31 ts) _ _ _ _ c (one_refused most_time 31 c ts) (λ d t₁.
      first_within (numbers_up_to most_demand k t₁) _ _ _ _ c (numbers_refused most_demand k c t₁) (λ qs t₂.
      first_within (one n 31 t₂) _ _ _ _ c (one_refused n 31 c t₂) (λ m t₃.
      last_refused (in_turn (λ i. link n) 0 m t₃) _ (λ ss end. record { duration = d; demands = qs; successors = ss }) (λ ss end. end) c (links_refused n m c t₃))))

  pub patterson_refused : (s : List ℕ) → (patterson s ≡ bad c) ↔ PattersonRefused c (tokens s)
  unfolding patterson
  patterson_refused s =
      first_refused (opening (tokens s)) _ _ _ c (opening_refused (tokens s)) (λ o t₁.
      first_refused (in_turn (row o.jobs o.resources) 0 o.jobs t₁) _ _ _ c (in_turn_refused (row o.jobs o.resources) _ c (row_refused o.jobs o.resources) 0 o.jobs t₁) (λ rs t₂.
      over_refused (record { capacities = o.capacities; rows = rs }) t₂ c))
