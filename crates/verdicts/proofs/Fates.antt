-- The replay comes to a verdict exactly where the facts of that verdict hold of the log's records.
use Prim.Native.Nat.{ℕ, zero, suc, ◌+◌, ◌-◌}
use native.Mathlib.Omega.{arith}
use native.Mathlib.Decide.{ℕ_discrete}
use mathlib.Core.Path.{◌≡◌, refl, sym, ap, subst, ◌∙◌}
use mathlib.Core.Bool.{Bool, true, false}
use mathlib.Core.Logic.{inl, inr, ◌↔◌}
use mathlib.Core.Option.{Option, none, some}
use borrow.Author.Tests.{ltb-true, ltb-false, lt-ltb, le-ltb}
use Rattle.lists.specs.Lists.{◌!◌}
use Rattle.narrowing.specs.Windows.{Long, closes, lowest_too_short}
use Rattle.narrowing.proofs.TooShort.{TooShortSays, too_short_is, finds_too_short}
use Rattle.journal.specs.Journal.{job_of, records}
use Rattle.promises.specs.Ask.{Ask, job_count, lasts, TooShort}
use Rattle.verdicts.specs.Replay.{Trial, Verdict, holds, clashes, rejected, closing, replay, verdict_on}
use Rattle.verdicts.specs.Fate.{nth, reached, Takes, Held, Closed, Open, Closing, Shut, Fate}
use Rattle.verdicts.specs.Promise.{Judges}

module _ (T : Trial) (A : Ask) (y : Judges T A) where
  -- the replay from place i, with m records left
  unfoldable from : ℕ → ℕ → Verdict
  unfolding replay records
  from i m = replay T (lasts A) (reached T A i) i (records A.log i m)

  -- the verdict on the first m records
  unfoldable verdict : ℕ → Verdict
  unfolding verdict_on records
  verdict m = verdict_on T (job_count A) (lasts A) A.win (records A.log 0 m)

  open_more : (i : ℕ) → Open T A i → Takes T A i → Held T A i → Open T A (suc i)
  open_more i o t q = record { long = o.long; held = λ h b. elim (ℕ_discrete h i) [ yes e ↦ rw e (t, q) | no e ↦ o.held h (omega arith) ] }

  -- ---- one record

  at_none : (i : ℕ) → from i 0 ≡ holds (reached T A i)
  unfolding from replay records
  at_none i = refl

  at_bad : (i m k : ℕ) → T.code (reached T A i) (nth A i) ≡ suc k → from i (suc m) ≡ rejected i (suc k)
  unfolding from replay records
  at_bad i m k e = rw e

  at_held : (i m : ℕ) → Takes T A i → Held T A i → from i (suc m) ≡ from (suc i) m
  unfolding from replay records reached
  at_held i m t q =
      rw ((y.goods (reached T A i) (nth A i)).1 t, le-ltb ((T.changed (reached T A i) (nth A i)).l ! job_of (nth A i)) ((T.changed (reached T A i) (nth A i)).e ! job_of (nth A i) + lasts A ! job_of (nth A i)) q)

  at_closed : (i m : ℕ) → Takes T A i → Closed T A i → from i (suc m) ≡ closing (suc i) (job_of (nth A i)) (records A.log (suc i) m)
  unfolding from replay reached
  at_closed i m t q =
      rw (
        (y.goods (reached T A i) (nth A i)).1 t,
        lt-ltb ((T.changed (reached T A i) (nth A i)).l ! job_of (nth A i)) ((T.changed (reached T A i) (nth A i)).e ! job_of (nth A i) + lasts A ! job_of (nth A i)) q,
      )

  closing_one : (i j : ℕ) → closing i j (records A.log i 0) ≡ clashes j
  unfolding records
  closing_one i j = refl

  closing_more : (i j m : ℕ) → closing i j (records A.log i (suc m)) ≡ rejected i 20
  unfolding records
  closing_more i j m = refl

  -- ---- the facts give the verdict

  open-from : (i m : ℕ) → Open T A i → from 0 (i + m) ≡ from i m
  open-from zero m o = let e : 0 + m ≡ m = omega arith in ap (from 0) e
  open-from (suc i) m o =
      let e : suc i + m ≡ i + suc m = omega arith in
      ap (from 0) e
      ∙ open-from i (suc m) (record { long = o.long; held = λ h b. o.held h (omega arith) })
      ∙ at_held i m (o.held i (omega arith)).0 (o.held i (omega arith)).1

  closing_from : (h m : ℕ) → Closing T A h → from 0 (h + suc m) ≡ closing (suc h) (job_of (nth A h)) (records A.log (suc h) m)
  closing_from h m x = open-from h (suc m) x.before ∙ at_closed h m x.takes x.closed

  -- where no window is too short the verdict is the replay's, else that of a closed window
  long_verdict : (m : ℕ) → Long (job_count A) (lasts A) A.win → verdict m ≡ from 0 m
  unfolding verdict from reached verdict_on
  long_verdict m L = rw (finds_too_short (job_count A) (lasts A) A.win none L)

  too_short_verdict : (m j : ℕ) → TooShort A j → verdict m ≡ closing 0 j (records A.log 0 m)
  unfolding verdict verdict_on
  too_short_verdict m j s = rw (finds_too_short (job_count A) (lasts A) A.win (some j) s)

  -- a window is closed after i records, and so many are left
  shut_verdict : (i j m : ℕ) → Shut T A i j → verdict (i + m) ≡ closing i j (records A.log i m)
  shut_verdict zero j m x = let e : 0 + m ≡ m = omega arith in rw e (too_short_verdict m j x)
  shut_verdict (suc h) j m x =
      let e : suc h + m ≡ h + suc m = omega arith in
      long_verdict (suc h + m) x.0.before.long ∙ ap (from 0) e ∙ closing_from h m x.0 ∙ rw x.1

  open_verdict : (i m : ℕ) → Open T A i → verdict (i + m) ≡ from i m
  open_verdict i m o = long_verdict (i + m) o.long ∙ open-from i m o

  at_count : (a b : ℕ) → a ≡ b → verdict a ≡ verdict b
  at_count a b e = ap verdict e

  fate_verdict : (count : ℕ) (v : Verdict) → Fate T A count v → verdict count ≡ v
  fate_verdict count (holds U) f = at_count count (count + 0) (omega arith) ∙ open_verdict count 0 f.1 ∙ at_none count ∙ ap holds (sym f.0)
  fate_verdict count (clashes j) x = at_count count (count + 0) (omega arith) ∙ shut_verdict count j 0 x ∙ closing_one count j
  fate_verdict count (rejected i k) (b, inl (j, x, q)) =
      at_count count (i + suc (count - suc i)) (omega arith) ∙ shut_verdict i j (suc (count - suc i)) x ∙ closing_more i j (count - suc i) ∙ rw q
  fate_verdict count (rejected i zero) (b, inr (o, d, n)) = absurd (n refl)
  fate_verdict count (rejected i (suc k)) (b, inr (o, d, n)) =
      at_count count (i + suc (count - suc i)) (omega arith)
      ∙ open_verdict i (suc (count - suc i)) o
      ∙ at_bad i (count - suc i) k ((y.codes (reached T A i) (nth A i) (suc k)).1 d)

  -- ---- and the verdict has its facts

  fate_at : (a b : ℕ) → a ≡ b → (v : Verdict) → Fate T A a v → Fate T A b v
  fate_at a b e v f = subst (λ (n : ℕ). Fate T A n v) e f

  -- a window is closed after i records, and m more are claimed
  shut_fate : (i j m : ℕ) → Shut T A i j → Fate T A (i + m) (closing i j (records A.log i m))
  shut_fate i j zero x =
      let e : i ≡ i + 0 = omega arith in
      rw (closing_one i j) (subst (λ (n : ℕ). Shut T A n j) e x)
  shut_fate i j (suc m) x = rw (closing_more i j m) (omega arith, inl (j, x, refl))

  fate_from : (m i : ℕ) → Open T A i → Fate T A (i + m) (from i m)
  fate_from zero i o =
      let e : i ≡ i + 0 = omega arith in
      fate_at i (i + 0) e (from i 0) (rw (at_none i) (refl, o))
  fate_from (suc m) i o = go (T.code (reached T A i) (nth A i)) refl (λ q. fate_from m (suc i) q)
    where
      by_window : (b : Bool) → closes (lasts A) (reached T A (suc i)) (job_of (nth A i)) ≡ b → Takes T A i → (Open T A (suc i) → Fate T A (suc i + m) (from (suc i) m))
          → Fate T A (i + suc m) (from i (suc m))
      by_window true e t f =
          let q : Closed T A i = ltb-true ((reached T A (suc i)).l ! job_of (nth A i)) _ e in
          let d : suc i + m ≡ i + suc m = omega arith in
          rw (at_closed i m t q)
          (fate_at (suc i + m) (i + suc m) d (closing (suc i) (job_of (nth A i)) (records A.log (suc i) m))
          (shut_fate (suc i) (job_of (nth A i)) m (record { before = o; takes = t; closed = q }, refl)))
      by_window false e t f =
          let q : Held T A i = ltb-false ((reached T A (suc i)).l ! job_of (nth A i)) _ e in
          let d : suc i + m ≡ i + suc m = omega arith in
          rw (at_held i m t q) (fate_at (suc i + m) (i + suc m) d (from (suc i) m) (f (open_more i o t q)))

      go : (k : ℕ) → T.code (reached T A i) (nth A i) ≡ k → (Open T A (suc i) → Fate T A (suc i + m) (from (suc i) m)) → Fate T A (i + suc m) (from i (suc m))
      go zero e f = by_window (closes (lasts A) (reached T A (suc i)) (job_of (nth A i))) refl ((y.goods (reached T A i) (nth A i)).0 e) f
      go (suc k) e f =
          rw (at_bad i m k e)
          (omega arith, inr (o, (y.codes (reached T A i) (nth A i) (suc k)).0 e, λ z. omega arith))

  verdict_fate : (count : ℕ) → Fate T A count (verdict count)
  verdict_fate count = go (lowest_too_short (job_count A) (lasts A) A.win) (too_short_is (job_count A) (lasts A) A.win)
    where
      go : (x : Option ℕ) → TooShortSays (job_count A) (lasts A) A.win x → Fate T A count (verdict count)
      go none L =
          let z : 0 + count ≡ count = omega arith in
          rw (long_verdict count L) (fate_at (0 + count) count z (from 0 count) (fate_from count 0 (record { long = L; held = λ h b. absurd (omega arith) })))
      go (some j) x =
          let z : 0 + count ≡ count = omega arith in
          rw (too_short_verdict count j x) (fate_at (0 + count) count z (closing 0 j (records A.log 0 count)) (shut_fate 0 j count x))

  -- the verdict on the first so many records
  pub fate_exactly : (count : ℕ) (v : Verdict) → (verdict_on T (job_count A) (lasts A) A.win (records A.log 0 count) ≡ v) ↔ Fate T A count v
  unfolding verdict
  fate_exactly count v = (λ e. subst (Fate T A count) e (verdict_fate count), λ f. fate_verdict count v f)
