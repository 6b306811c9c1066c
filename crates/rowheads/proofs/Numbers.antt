-- Several numbers read in turn, one of them picked; a successor; the head of a row, part by part.
use Prim.Native.Nat.{ℕ, zero, suc, ◌+◌, ◌-◌, ◌≤◌, ◌<◌}
use native.Mathlib.Omega.{arith}
use mathlib.Core.Path.{◌≡◌, refl, sym, ◌∙◌}
use mathlib.Core.List.{List, [], ◌∷◌, ◌++◌}
use lib.Dec.{eqb, eqb-zero-suc, eqb-suc-zero, eqb-suc-suc}
use lib.ListN.{length, drop, length-append}
use borrow.Author.Tests.{eq-eqb, ne_eqb}
use Rattle.lists.specs.Lists.{◌!◌}
use Rattle.lists.specs.Tests.{pick}
use Rattle.joblist.specs.Limits.{most_time, most_demand}
use Rattle.texts.specs.Tokens.{Token, tokens}
use Rattle.texts.specs.Readings.{Read, bad, good, and_then, one, exactly, in_turn, numbers_up_to}
use Rattle.texts.proofs.Readings.{ahead, ahead_nil, in_turn_step, in_turn_bad, in_turn_done}
use Rattle.projects.specs.Projects.{Head, link}
use Rattle.projects.specs.Patterson.{head}
use Rattle.projects.specs.Tables.{numbered}
use Rattle.rowheads.specs.Heads.{need_head, with_count, bare, relation_head, request_head, head_in}
use Rattle.rowheads.specs.declared.Table.TheVariants.{Whole, Relations, Requests}

-- the number at a place, with one number more read
pick_step : (ys : List ℕ) (v res : ℕ) → (ys ++ v ∷ []) ! res ≡ pick (eqb (length ys) res) v (ys ! res)
pick_step [] v zero = refl
pick_step [] v (suc res) = rw (eqb-zero-suc res)
pick_step (y ∷ ys) v zero = rw (eqb-suc-zero (length ys))
pick_step (y ∷ ys) v (suc res) = rw (eqb-suc-suc (length ys) res) (pick_step ys v res)

-- i of m numbers read: `ys`, of which `picked` is the one at `res`; the others are those that are read from `to` on
pub record Picking (top m res : ℕ) (t₀ : List Token) (s : List ℕ) (picked to i : ℕ) : Type 0 where
  pub ys : List ℕ
  pub long : length ys ≡ i
  pub chosen : ys ! res ≡ picked
  pub some : i ≤ m
  pub same : numbers_up_to top m t₀ ≡ ahead ys (in_turn (λ k. one top 31) 0 (m - i) (tokens (drop to s)))

module _ (top m res : ℕ) (s : List ℕ) where
  pub picking_start : (at : ℕ) → Picking top m res (tokens (drop at s)) s 0 at 0
  unfolding numbers_up_to
  picking_start at =
      let z : m - 0 ≡ m = omega arith in
      record { ys = []; long = refl; chosen = refl; some = omega arith; same = rw z (sym (ahead_nil (in_turn (λ k. one top 31) 0 m (tokens (drop at s))))) }

  module _ (t₀ : List Token) (picked to i : ℕ) (p : Picking top m res t₀ s picked to i) where
    pub picking_step : (v end new : ℕ) → i < m → one top 31 (tokens (drop to s)) ≡ good v (tokens (drop end s)) → new ≡ pick (eqb i res) v picked
        → Picking top m res t₀ s new end (i + 1)
    picking_step v end new h e q =
        let d : m - i ≡ suc (m - (i + 1)) = omega arith in
        record {
          ys = p.ys ++ v ∷ [];
          long = omega (arith, p.long, length-append p.ys (v ∷ []));
          chosen = pick_step p.ys v res ∙ rw (p.long, p.chosen, q);
          some = omega arith;
          same = p.same ∙ rw d (in_turn_step (one top 31) p.ys (m - (i + 1)) (tokens (drop to s)) v (tokens (drop end s)) e);
        }

    pub picking_bad : (c : ℕ) → i < m → one top 31 (tokens (drop to s)) ≡ bad c → numbers_up_to top m t₀ ≡ bad c
    picking_bad c h e =
        let d : m - i ≡ suc (m - (i + 1)) = omega arith in
        p.same ∙ rw d (in_turn_bad (one top 31) p.ys (m - (i + 1)) (tokens (drop to s)) c e)

    pub picking_end : m ≤ i → (xs : List ℕ) × (numbers_up_to top m t₀ ≡ good xs (tokens (drop to s))) × (xs ! res ≡ picked)
    picking_end h =
        let d : m - i ≡ 0 = omega arith in
        (p.ys, p.same ∙ rw d (in_turn_done (one top 31) p.ys 0 (tokens (drop to s))), p.chosen)

-- ---- a successor

module _ (n : ℕ) (ts : List Token) where
  pub link_good : (v : ℕ) (rest : List Token) → one n 32 ts ≡ good v rest → (v ≡ 0 → ⊥) → link n ts ≡ good (v - 1) rest
  unfolding link
  link_good v rest e h = rw (e, ne_eqb v 0 h)

  pub link_zero : (v : ℕ) (rest : List Token) → one n 32 ts ≡ good v rest → v ≡ 0 → link n ts ≡ bad 32
  unfolding link
  link_zero v rest e h = rw (e, eq-eqb v 0 h)

  pub link_bad : (c : ℕ) → one n 32 ts ≡ bad c → link n ts ≡ bad c
  unfolding link
  link_bad c e = rw e

-- ---- the head of a row, by its table

pub numbered_bad : (j : ℕ) (ts : List Token) (c : ℕ) → exactly (j + 1) ts ≡ bad c → numbered j ts ≡ bad c
unfolding numbered
numbered_bad j ts c e = rw e

pub numbered_next : (j : ℕ) (ts : List Token) (a : ℕ) (rest : List Token) → exactly (j + 1) ts ≡ good a rest → numbered j ts ≡ exactly 1 rest
unfolding numbered
numbered_next j ts a rest e = rw e

pub need_read : (k : ℕ) (ts t₁ t₂ : List Token) (d : ℕ) (qs : List ℕ) → one most_time 31 ts ≡ good d t₁ → numbers_up_to most_demand k t₁ ≡ good qs t₂
    → need_head k ts ≡ good (record { duration = d; demands = qs; count = 0 }) t₂
unfolding need_head
need_read k ts t₁ t₂ d qs e₁ e₂ = rw (e₁, e₂)

pub head_whole : (n k j : ℕ) (ts : List Token) → head_in (Whole k) n j ts ≡ and_then (need_head k ts) (λ h rest. with_count n h rest)
unfolding head_in head need_head with_count
head_whole n k j ts = go (one most_time 31 ts)
  where
    demands : (d : ℕ) (r : Read (List ℕ))
        → and_then r (λ qs t₂. and_then (one n 31 t₂) (λ c t₃. good (record { duration = d; demands = qs; count = c }) t₃))
        ≡ and_then (and_then r (λ qs t₂. good (record { duration = d; demands = qs; count = 0 }) t₂)) (λ (h : Head) rest. with_count n h rest)
    demands d (bad c) = refl
    demands d (good qs t) = refl

    go : (r : Read ℕ)
        → and_then r (λ d t₁. and_then (numbers_up_to most_demand k t₁) (λ qs t₂. and_then (one n 31 t₂) (λ c t₃. good (record { duration = d; demands = qs; count = c }) t₃)))
        ≡ and_then (and_then r (λ d t₁. and_then (numbers_up_to most_demand k t₁) (λ qs t₂. good (record { duration = d; demands = qs; count = 0 }) t₂))) (λ (h : Head) rest. with_count n h rest)
    go (bad c) = refl
    go (good d t) = demands d (numbers_up_to most_demand k t)

pub head_relations : (n j : ℕ) (ts : List Token) → head_in Relations n j ts ≡ and_then (numbered j ts) (λ a rest. with_count n bare rest)
unfolding head_in relation_head
head_relations n j ts = refl

pub head_requests : (n k j : ℕ) (ts : List Token) → head_in (Requests k) n j ts ≡ and_then (numbered j ts) (λ a rest. need_head k rest)
unfolding head_in request_head
head_requests n k j ts = refl
