-- Laws of the log: the room of a log and whether whole records fill it, its records, what was written is read back, one record more, records written anew,
-- cleared logs.
use Prim.Native.Nat.{ℕ, zero, suc, ◌+◌, ◌*◌, ◌-◌, ◌/◌, ◌%◌, ◌≤◌, ◌<◌}
use native.Mathlib.Omega.{arith}
use mathlib.Core.Path.{◌≡◌, refl, sym, ap, ◌∙◌}
use mathlib.Core.List.{List, [], ◌∷◌, ◌++◌, append_assoc, append-nil}
use mathlib.Core.Logic.{◌↔◌}
use lib.ListN.{length, take, drop, get_or, length-append, length-drop}
use lib.Seq.{length-take-le, take_at, drop_at, drop-drop, drop-append-add, take-length, paste, take-paste, drop-paste}
use borrow.Author.Tests.{lt-ltb, le-ltb}
use Rattle.lists.proofs.Judged.{Judged, judged_as, judged_eqb}
use Rattle.members.specs.Members.{set_words}
use Rattle.journal.specs.Journal.{record_words, in_words, room_of, WholeRecords, Ragged, is_whole, record_at, records, flat, AreRecords, logged, rewritten}

-- ---- the room

pub room_words : (log : List ℕ) (k : ℕ) → k < room_of log → record_words * k + record_words ≤ length log
unfolding room_of
room_words log k h = omega arith

-- a log has room for fewer than k records exactly where it is shorter than a record's words for each
pub room_short : (log : List ℕ) (k : ℕ) → (room_of log < k) ↔ (length log < record_words * k)
unfolding room_of
room_short log k = (λ h. omega arith, λ h. omega arith)

pub room_length : (log out : List ℕ) → length out ≡ length log → room_of out ≡ room_of log
unfolding room_of
room_length log out h = rw h

-- ---- whole records

-- the test passes exactly where a number of records fills the log
pub whole_judged : (log : List ℕ) → Judged (WholeRecords log) (Ragged log) (is_whole log)
unfolding is_whole
whole_judged log =
    judged_as (judged_eqb (length log % record_words) 0) (λ h. (length log / record_words, omega arith)) (λ h w. h (omega (arith, w.1))) (λ w h. h w)

-- the records that fill a log are just its room
pub filled_room : (log : List ℕ) (m : ℕ) → length log ≡ record_words * m → m ≡ room_of log
unfolding room_of
filled_room log m e = omega arith

pub whole_length : (log out : List ℕ) → length out ≡ length log → WholeRecords log → WholeRecords out
whole_length log out h w = (w.0, h ∙ w.1)

-- ---- one record

pub record_in : (log : List ℕ) (k : ℕ) → k < room_of log → record_at log k ≡ take record_words (drop (record_words * k) log)
unfolding record_at
record_in log k h = rw (lt-ltb k (room_of log) h)

pub record_out : (log : List ℕ) (k : ℕ) → room_of log ≤ k → record_at log k ≡ []
unfolding record_at
record_out log k h = rw (le-ltb k (room_of log) h)

-- the part of the log between the record's ends
pub record_part : (log : List ℕ) (k : ℕ) → k < room_of log → take (record_words * k + record_words - record_words * k) (drop (record_words * k) log) ≡ record_at log k
record_part log k h =
    let e : record_words * k + record_words - record_words * k ≡ record_words = omega arith in
    rw e (sym (record_in log k h))

pub record_length : (log : List ℕ) (k : ℕ) → k < room_of log → length (record_at log k) ≡ record_words
record_length log k h = rw (record_in log k h) (length-take-le record_words (drop (record_words * k) log) (rw length-drop (omega (arith, room_words log k h))))

-- two parts that the contract of showing a record allows are the same words
pub shown_firm : (log x y : List ℕ) (k : ℕ) → x ≡ record_at log k → y ≡ record_at log k → x ≡ y
shown_firm log x y k f g = f ∙ sym g

pub written_length : (job side time : ℕ) (set : List ℕ) → length set ≡ set_words → length (in_words job side time set) ≡ record_words
written_length job side time set h = rw h

-- ---- a record written anew

pub rewritten_in : (log : List ℕ) (k : ℕ) (x : List ℕ) → k < room_of log
    → rewritten log k x ≡ take (record_words * k) log ++ x ++ drop (record_words * suc k) log
unfolding rewritten
rewritten_in log k x h = rw (lt-ltb k (room_of log) h)

pub rewritten_out : (log : List ℕ) (k : ℕ) (x : List ℕ) → room_of log ≤ k → rewritten log k x ≡ log
unfolding rewritten
rewritten_out log k x h = rw (le-ltb k (room_of log) h)

-- a copy right behind a copy
paste-paste : (l : List ℕ) (at : ℕ) (xs ys : List ℕ) → at + length xs ≤ length l
    → paste (paste l at xs (length xs)) (at + length xs) ys (length ys) ≡ take at l ++ (xs ++ ys) ++ drop (at + length xs + length ys) l
paste-paste l at xs ys h =
    let m = at + length xs in
    let p = paste l at xs (length xs) in
    let a : at ≤ length l = omega arith in
    let front : take m p ≡ take at l ++ xs = take-paste l at xs (length xs) a (omega arith) ∙ ap (λ (z : List ℕ). take at l ++ z) (take-length xs) in
    let back : drop (m + length ys) p ≡ drop (m + length ys) l =
    sym (drop-drop (length ys) m p) ∙ ap (drop (length ys)) (drop-paste l at xs (length xs) a (omega arith)) ∙ drop-drop (length ys) m l in
    ap (λ (z : List ℕ). z ++ take (length ys) ys ++ drop (m + length ys) p) front
    ∙ ap (λ (z : List ℕ). take at l ++ xs ++ z ++ drop (m + length ys) p) (take-length ys)
    ∙ ap (λ (z : List ℕ). take at l ++ xs ++ ys ++ z) back
    ∙ ap (λ (z : List ℕ). z ++ drop (m + length ys) l) (append_assoc (take at l) xs ys)

module _ (log : List ℕ) (k : ℕ) (x : List ℕ) (h : k < room_of log) (e : length x ≡ record_words) where
  front_length : length (take (record_words * k) log) ≡ record_words * k
  front_length = length-take-le (record_words * k) log (omega (arith, room_words log k h))

  pub rewritten_length : length (rewritten log k x) ≡ length log
  rewritten_length = rw (rewritten_in log k x h, length-append, length-append, front_length, e, length-drop) (omega (arith, room_words log k h))

  -- the head first, then the set
  pub rewritten_parts : (head set : List ℕ) → head ++ set ≡ x
      → paste (paste log (record_words * k) head (length head)) (record_words * k + length head) set (length set) ≡ rewritten log k x
  rewritten_parts head set f =
      let n : length head + length set ≡ record_words = sym (length-append head set) ∙ ap length f ∙ e in
      let i : record_words * k + length head + length set ≡ record_words * suc k = omega arith in
      paste-paste log (record_words * k) head set (omega (arith, room_words log k h))
      ∙ rw (f, i) (sym (rewritten_in log k x h))

-- ---- records one after the other

pub flat_append : (rs qs : List (List ℕ)) → flat (rs ++ qs) ≡ flat rs ++ flat qs
unfolding flat
flat_append [] qs = refl
flat_append (x ∷ rs) qs = ap (λ (l : List ℕ). x ++ l) (flat_append rs qs) ∙ sym (append_assoc x (flat rs) (flat qs))

pub flat_one : (x : List ℕ) → flat (x ∷ []) ≡ x
unfolding flat
flat_one x = append-nil x

pub flat_length : (rs : List (List ℕ)) → AreRecords rs → length (flat rs) ≡ record_words * length rs
unfolding flat
flat_length [] e = refl
flat_length (x ∷ rs) e = rw (length-append, e.0, flat_length rs e.1) (omega arith)

-- record k of records, whatever comes after them
flat_at : (rs : List (List ℕ)) (k : ℕ) (ys : List ℕ) → AreRecords rs → k < length rs → take record_words (drop (record_words * k) (flat rs ++ ys)) ≡ get_or rs k []
unfolding flat
flat_at [] k ys e h = absurd (omega arith)
flat_at (x ∷ rs) zero ys e h = rw append_assoc (take_at x (flat rs ++ ys) record_words e.0)
flat_at (x ∷ rs) (suc k) ys e h =
    let i : record_words * suc k ≡ length x + record_words * k = omega (arith, e.0) in
    rw (append_assoc, i, drop-append-add x (flat rs ++ ys) (record_words * k)) (flat_at rs k ys e.1 (omega arith))

-- ---- records first, the rest as before

pub logged_none : (log : List ℕ) → logged [] log ≡ log
unfolding logged flat
logged_none log = refl

module _ (rs : List (List ℕ)) (log : List ℕ) (e : AreRecords rs) (b : length rs ≤ room_of log) where
  fits : record_words * length rs ≤ length log
  unfolding room_of
  fits = omega arith

  -- in words: the records, then what stood behind them
  pub logged_words : logged rs log ≡ flat rs ++ drop (record_words * length rs) log
  unfolding logged
  logged_words = rw (flat_length rs e)

  pub logged_length : length (logged rs log) ≡ length log
  logged_length = rw (logged_words, length-append, length-drop, flat_length rs e) (omega (arith, fits))

  pub logged_room : room_of (logged rs log) ≡ room_of log
  logged_room = room_length log (logged rs log) logged_length

  -- what was written is read back
  pub logged_record : (k : ℕ) → k < length rs → record_at (logged rs log) k ≡ get_or rs k []
  logged_record k h =
      record_in (logged rs log) k (omega (arith, logged_room))
      ∙ rw logged_words (flat_at rs k (drop (record_words * length rs) log) e h)

  -- the words behind the records
  pub logged_rest : drop (record_words * length rs) (logged rs log) ≡ drop (record_words * length rs) log
  logged_rest = rw logged_words (drop_at (flat rs) (drop (record_words * length rs) log) (record_words * length rs) (flat_length rs e))

  behind : (k : ℕ) → length rs ≤ k → drop (record_words * k) (logged rs log) ≡ drop (record_words * k) log
  behind k h =
      let m = record_words * length rs in
      let d = record_words * (k - length rs) in
      let i : record_words * k ≡ m + d = omega arith in
      rw i (sym (drop-drop d m (logged rs log)) ∙ ap (drop d) logged_rest ∙ drop-drop d m log)

  -- the records behind them
  pub logged_beyond : (k : ℕ) → length rs ≤ k → record_at (logged rs log) k ≡ record_at log k
  unfolding record_at
  logged_beyond k h = rw (logged_room, behind k h)

  -- one record more
  pub logged_more : (x : List ℕ) → length x ≡ record_words → length rs < room_of log → logged (rs ++ x ∷ []) log ≡ rewritten (logged rs log) (length rs) x
  unfolding logged
  logged_more x f h =
      let w : flat (rs ++ x ∷ []) ≡ flat rs ++ x = flat_append rs (x ∷ []) ∙ ap (λ (l : List ℕ). flat rs ++ l) (flat_one x) in
      let n : length (flat rs ++ x) ≡ record_words * suc (length rs) = rw (length-append, flat_length rs e, f) (omega arith) in
      let front : take (record_words * length rs) (logged rs log) ≡ flat rs =
      rw logged_words (take_at (flat rs) (drop (record_words * length rs) log) (record_words * length rs) (flat_length rs e)) in
      rw (w, n) (sym (rewritten_in (logged rs log) (length rs) x (omega (arith, logged_room))
      ∙ rw (front, behind (suc (length rs)) (omega arith))))

-- ---- the records of a log as a list

-- records that agree with a list place by place are that list
records_is : (log : List ℕ) (k : ℕ) (rs : List (List ℕ)) → ((i : ℕ) → i < length rs → record_at log (k + i) ≡ get_or rs i []) → records log k (length rs) ≡ rs
unfolding records
records_is log k [] f = refl
records_is log k (x ∷ rs) f =
    let a : record_at log k ≡ x = ap (record_at log) (omega arith) ∙ f 0 (omega arith) in
    rw (a, records_is log (suc k) rs (λ i h. ap (record_at log) (omega arith) ∙ f (suc i) (omega arith)))

-- all that was written is read back
pub logged_records : (rs : List (List ℕ)) (log : List ℕ) → AreRecords rs → length rs ≤ room_of log → records (logged rs log) 0 (length rs) ≡ rs
logged_records rs log e b = records_is (logged rs log) 0 rs (λ i h. ap (record_at (logged rs log)) (omega arith) ∙ logged_record rs log e b i h)

-- ---- every word 0
