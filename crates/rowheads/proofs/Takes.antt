-- What the parts of a row take: tokens, and numbers within their limits; and the numbers of their refusals.
use Prim.Native.Nat.{ℕ, ◌+◌, ◌-◌, ◌≤◌, ◌<◌}
use native.Mathlib.Omega.{arith}
use mathlib.Core.Path.{◌≡◌, refl, sym, ap, subst, ◌∙◌}
use mathlib.Core.Bool.{Bool, true, false, cond}
use mathlib.Core.List.{List}
use mathlib.Core.Logic.{◌⊎◌, inl, inr}
use lib.Dec.{eqb}
use lib.ListN.{length}
use borrow.Author.Tests.{eqb-false}
use Rattle.lists.specs.Lists.{Every}
use Rattle.joblist.specs.Limits.{most_time, most_demand}
use Rattle.texts.specs.Tokens.{Token}
use Rattle.texts.specs.Readings.{Read, bad, good, and_then, one, exactly, in_turn, numbers_up_to}
use Rattle.texts.proofs.Readings.{bad_not_good, good_same, then_good, then_bad, one_takes, one_codes, numbers_takes, numbers_codes, in_turn_takes, in_turn_codes}
use Rattle.texts.proofs.Given.{exactly_takes, exactly_refused}
use Rattle.projects.specs.Projects.{Row, Head, headed, link}
use Rattle.projects.specs.Tables.{numbered}
use Rattle.rowheads.specs.Heads.{need_head, with_count, bare, head_in, row_in}
use Rattle.rowheads.specs.declared.Table.{Table}
use Rattle.rowheads.proofs.Numbers.{head_whole, head_relations, head_requests}
use Rattle.rowheads.specs.declared.Table.TheVariants.{Whole, Relations, Requests}

pub link_takes : (n v : ℕ) (ts rest : List Token) → link n ts ≡ good v rest → (length rest < length ts) × (v < n)
unfolding link
link_takes n v ts rest e =
    let s = then_good (one n 32 ts) (λ x u. cond (eqb x 0) (bad 32) (good (x - 1) u)) v rest e in
    let t = one_takes n 32 s.0 ts s.1 s.2 in
    let q = go (eqb s.0 0) s.0 s.1 refl s.3 in
    omega (arith, t.0, t.1, q.0, q.2, ap length q.1)
  where
    go : (b : Bool) (x : ℕ) (u : List Token) → eqb x 0 ≡ b → cond b (bad 32) (good (x - 1) u) ≡ good v rest → (x - 1 ≡ v) × (u ≡ rest) × (0 < x)
    go true x u d q = bad_not_good (bad 32) 32 v rest refl q
    go false x u d q = (cc, cc, omega (arith, eqb-false x 0 d))

pub link_codes : (n c : ℕ) (ts : List Token) → link n ts ≡ bad c → (c ≡ 30) ⊎ (c ≡ 32)
unfolding link
link_codes n c ts e = go (then_bad (one n 32 ts) (λ x u. cond (eqb x 0) (bad 32) (good (x - 1) u)) c e)
  where
    zero_go : (b : Bool) (x : ℕ) (u : List Token) → cond b (bad 32) (good (x - 1) u) ≡ bad c → c ≡ 32
    zero_go true x u q = cc
    zero_go false x u q = bad_not_good (good (x - 1) u) c (x - 1) u q refl

    go : (one n 32 ts ≡ bad c) ⊎ ((x : ℕ) × (u : List Token) × (one n 32 ts ≡ good x u) × (cond (eqb x 0) (bad 32) (good (x - 1) u) ≡ bad c)) → (c ≡ 30) ⊎ (c ≡ 32)
    go (inl q) = one_codes n 32 c ts q
    go (inr q) = inr (zero_go (eqb q.0 0) q.0 q.1 q.3)

-- what is known of a head that was read
pub record HeadTakes (n : ℕ) (ts rest : List Token) (h : Head) : Type 0 where
  pub fewer : length rest < length ts
  pub count : h.count ≤ n
  pub duration : h.duration ≤ most_time
  pub demands : Every (λ x. x ≤ most_demand) h.demands

need_takes : (n k : ℕ) (ts rest : List Token) (h : Head) → need_head k ts ≡ good h rest → HeadTakes n ts rest h
unfolding need_head
need_takes n k ts rest h e =
    let s = then_good (one most_time 31 ts) (λ d v. and_then (numbers_up_to most_demand k v) (λ qs w. good (made d qs) w)) h rest e in
    let r = then_good (numbers_up_to most_demand k s.1) (λ qs w. good (made s.0 qs) w) h rest s.3 in
    let o = good_same (made s.0 r.0) h r.1 rest r.3 in
    let d = one_takes most_time 31 s.0 ts s.1 s.2 in
    let q = numbers_takes most_demand k s.1 r.1 r.0 r.2 in
    subst (HeadTakes n ts rest) o.0 (record { fewer = omega (arith, d.0, q.2, ap length o.1); count = omega arith; duration = d.1; demands = q.1 })
  where
    made : ℕ → List ℕ → Head
    made d qs = record { duration = d; demands = qs; count = 0 }

count_takes : (n : ℕ) (x : Head) (ts rest : List Token) (h : Head) → x.duration ≤ most_time → Every (λ v. v ≤ most_demand) x.demands → with_count n x ts ≡ good h rest → HeadTakes n ts rest h
unfolding with_count
count_takes n x ts rest h p q e =
    let t = then_good (one n 31 ts) (λ c w. good (made c) w) h rest e in
    let o = good_same (made t.0) h t.1 rest t.3 in
    let d = one_takes n 31 t.0 ts t.1 t.2 in
    subst (HeadTakes n ts rest) o.0 (record { fewer = omega (arith, d.0, ap length o.1); count = d.1; duration = p; demands = q })
  where
    made : ℕ → Head
    made c = record { duration = x.duration; demands = x.demands; count = c }

numbered_takes : (j b : ℕ) (ts rest : List Token) → numbered j ts ≡ good b rest → length rest < length ts
unfolding numbered
numbered_takes j b ts rest e =
    let s = then_good (exactly (j + 1) ts) (λ a u. exactly 1 u) b rest e in
    omega (arith, (exactly_takes (j + 1) s.0 ts s.1 s.2).0, (exactly_takes 1 b s.1 rest s.3).0)

-- a head read behind tokens that were taken already
later : (n : ℕ) (ts u rest : List Token) (h : Head) → length u < length ts → HeadTakes n u rest h → HeadTakes n ts rest h
later n ts u rest h l t = record { fewer = omega (arith, l, t.fewer); count = t.count; duration = t.duration; demands = t.demands }

pub head_in_takes : (table : Table) (n j : ℕ) (ts rest : List Token) (h : Head) → head_in table n j ts ≡ good h rest → HeadTakes n ts rest h
head_in_takes (Whole k) n j ts rest h e =
    let s = then_good (need_head k ts) (λ x u. with_count n x u) h rest (sym (head_whole n k j ts) ∙ e) in
    let a = need_takes n k ts s.1 s.0 s.2 in
    later n ts s.1 rest h a.fewer (count_takes n s.0 s.1 rest h a.duration a.demands s.3)
head_in_takes Relations n j ts rest h e =
    let s = then_good (numbered j ts) (λ a u. with_count n bare u) h rest (sym (head_relations n j ts) ∙ e) in
    later n ts s.1 rest h (numbered_takes j s.0 ts s.1 s.2) (count_takes n bare s.1 rest h (omega arith) tt s.3)
head_in_takes (Requests k) n j ts rest h e =
    let s = then_good (numbered j ts) (λ a u. need_head k u) h rest (sym (head_requests n k j ts) ∙ e) in
    later n ts s.1 rest h (numbered_takes j s.0 ts s.1 s.2) (need_takes n k s.1 rest h s.3)

-- 30, 31 or 32
abbrev pub OfText : ℕ → Type 0
OfText c = (c ≡ 30) ⊎ ((c ≡ 31) ⊎ (c ≡ 32))

pub low_code : {c : ℕ} → (c ≡ 30) ⊎ (c ≡ 31) → OfText c
low_code (inl e) = inl e
low_code (inr e) = inr (inl e)

pub some_code : {c : ℕ} → OfText c → c ≡ 0 → ⊥
some_code (inl e) z = omega arith
some_code (inr (inl e)) z = omega arith
some_code (inr (inr e)) z = omega arith

high_code : {c : ℕ} → (c ≡ 30) ⊎ (c ≡ 32) → OfText c
high_code (inl e) = inl e
high_code (inr e) = inr (inr e)

-- a second reading's refusal, or the first one's
pub then_codes : {A B : Type 0} (r : Read A) (f : A → List Token → Read B) (c : ℕ) → (r ≡ bad c → OfText c)
    → ((a : A) (rest : List Token) → r ≡ good a rest → f a rest ≡ bad c → OfText c) → and_then r f ≡ bad c → OfText c
then_codes (bad d) f c h k e = let q : d ≡ c = cc in h (ap bad q)
then_codes (good a rest) f c h k e = k a rest refl e

need_codes : (k c : ℕ) (ts : List Token) → need_head k ts ≡ bad c → OfText c
unfolding need_head
need_codes k c ts =
    then_codes (one most_time 31 ts) _ c (λ q. low_code (one_codes most_time 31 c ts q)) (λ d v p.
    then_codes (numbers_up_to most_demand k v) _ c (λ q. low_code (numbers_codes most_demand k c v q)) (λ qs w p' q. bad_not_good _ c _ w q refl))

count_codes : (n : ℕ) (x : Head) (c : ℕ) (ts : List Token) → with_count n x ts ≡ bad c → OfText c
unfolding with_count
count_codes n x c ts = then_codes (one n 31 ts) _ c (λ q. low_code (one_codes n 31 c ts q)) (λ m w p q. bad_not_good _ c _ w q refl)

numbered_codes : (j c : ℕ) (ts : List Token) → numbered j ts ≡ bad c → OfText c
unfolding numbered
numbered_codes j c ts = then_codes (exactly (j + 1) ts) _ c (λ q. inl ((exactly_refused (j + 1) c ts).0 q).1) (λ a u p q. inl ((exactly_refused 1 c u).0 q).1)

head_in_codes : (table : Table) (n j c : ℕ) (ts : List Token) → head_in table n j ts ≡ bad c → OfText c
head_in_codes (Whole k) n j c ts e = then_codes (need_head k ts) _ c (need_codes k c ts) (λ h u p. count_codes n h c u) (sym (head_whole n k j ts) ∙ e)
head_in_codes Relations n j c ts e = then_codes (numbered j ts) _ c (numbered_codes j c ts) (λ a u p. count_codes n bare c u) (sym (head_relations n j ts) ∙ e)
head_in_codes (Requests k) n j c ts e = then_codes (numbered j ts) _ c (numbered_codes j c ts) (λ a u p. need_codes k c u) (sym (head_requests n k j ts) ∙ e)

pub row_codes : (table : Table) (n j c : ℕ) (ts : List Token) → row_in table n j ts ≡ bad c → OfText c
unfolding row_in headed
row_codes table n j c ts =
    then_codes (head_in table n j ts) _ c (head_in_codes table n j c ts) (λ h u p.
    then_codes (in_turn (λ i. link n) 0 h.count u) _ c
    (in_turn_codes (λ i. link n) OfText (λ i d v q. high_code (link_codes n d v q)) 0 h.count c u)
    (λ ss w p' q. bad_not_good _ c _ w q refl))

-- a row whose numbers are within their limits, for n jobs
pub record Limited (n : ℕ) (r : Row) : Type 0 where
  pub duration : r.duration ≤ most_time
  pub demands : Every (λ x. x ≤ most_demand) r.demands
  pub successors : Every (λ v. v < n) r.successors

pub row_takes : (table : Table) (n j : ℕ) (ts rest : List Token) (r : Row) → row_in table n j ts ≡ good r rest → Limited n r × (length rest ≤ length ts)
unfolding row_in headed
row_takes table n j ts rest r e =
    let s = then_good (head_in table n j ts) (λ h u. and_then (in_turn (λ i. link n) 0 h.count u) (λ ss v. good (made h ss) v)) r rest e in
    let t = then_good (in_turn (λ i. link n) 0 s.0.count s.1) (λ ss v. good (made s.0 ss) v) r rest s.3 in
    let o = good_same (made s.0 t.0) r t.1 rest t.3 in
    let h = head_in_takes table n j ts s.1 s.0 s.2 in
    let q = in_turn_takes (λ i. link n) (λ v. v < n) (λ i u w a p. let y = link_takes n a u w p in (y.1, omega (arith, y.0))) 0 s.0.count s.1 t.1 t.0 t.2 in
    (subst (Limited n) o.0 (record { duration = h.duration; demands = h.demands; successors = q.1 }), omega (arith, h.fewer, q.2, ap length o.1))
  where
    made : Head → List ℕ → Row
    made h ss = record { duration = h.duration; demands = h.demands; successors = ss }
