-- Bytes put one after the other: room for all of them is room for the first and then for the rest, and both put are all put.
use Prim.Native.Nat.{ℕ, ◌+◌, ◌≤◌}
use native.Mathlib.Omega.{arith}
use mathlib.Core.Path.{◌≡◌, refl, sym, ap, ◌∙◌}
use mathlib.Core.Bool.{Bool, true, false, cond}
use mathlib.Core.List.{List, [], ◌++◌, append_assoc, append-nil}
use lib.ListN.{length, take, drop, length-append, length-drop, take-append-drop}
use lib.Seq.{take_at, drop-append-add, length-take-le, drop-drop}
use Rattle.scribe.specs.Says.{pasted, Put, RoomFor}

-- ---- in a list

-- what is pasted leaves as many bytes as there were
pasted_length : (at : ℕ) (t b : List ℕ) → at + length t ≤ length b → length (pasted at t b) ≡ length b
pasted_length at t b h =
    length-append (take at b) (t ++ drop (at + length t) b)
    ∙ rw (length-append t (drop (at + length t) b), length-drop (at + length t) b, length-take-le at b (omega arith)) (omega arith)

-- pasted behind what was pasted
pasted_twice : (at : ℕ) (t u b : List ℕ) → at + length t ≤ length b → pasted (at + length t) u (pasted at t b) ≡ pasted at (t ++ u) b
pasted_twice at t u b h =
    let f : length (take at b) ≡ at = length-take-le at b (omega arith) in
    let l : length (take at b ++ t) ≡ at + length t = length-append (take at b) t ∙ ap (λ (m : ℕ). m + length t) f in
    let p : pasted at t b ≡ (take at b ++ t) ++ drop (at + length t) b = sym (append_assoc (take at b) t (drop (at + length t) b)) in
    let d : drop (at + length t + length u) ((take at b ++ t) ++ drop (at + length t) b) ≡ drop (at + length t + length u) b =
    ap (λ (m : ℕ). drop (m + length u) ((take at b ++ t) ++ drop (at + length t) b)) (sym l)
    ∙ drop-append-add (take at b ++ t) (drop (at + length t) b) (length u) ∙ drop-drop (length u) (at + length t) b in
    let m : at + length t + length u ≡ at + (length t + length u) = omega arith in
    rw (p, take_at (take at b ++ t) (drop (at + length t) b) (at + length t) l, d, length-append t u)
    (append_assoc (take at b) t (u ++ drop (at + length t + length u) b) ∙ ap (λ (y : List ℕ). take at b ++ y) (sym (append_assoc t u (drop (at + length t + length u) b)) ∙ ap (λ (k : ℕ). (t ++ u) ++ drop k b) m))

-- ---- put one after the other

module _ {dry : Bool} {at : ℕ} (t u : List ℕ) {b : List ℕ} where
  pub room_front : RoomFor dry at (t ++ u) b → RoomFor dry at t b
  room_front h = let l = length-append t u in record { few = omega (arith, h.few); room = λ e. omega (arith, h.room e) }

  module _ {b' : List ℕ} {r : ℕ} where
    pub room_back : RoomFor dry at (t ++ u) b → Put dry at t b b' r → RoomFor dry r u b'
    room_back h p =
        let l = length-append t u in
        record { few = omega (arith, h.few, p.place); room = λ e. omega (arith, h.room e, p.place, same e) }
      where
        same : dry ≡ false → length b' ≡ length b
        same e = let q : b' ≡ pasted at t b = p.bytes ∙ rw e in ap length q ∙ pasted_length at t b (omega (arith, h.room e, length-append t u))

    pub put_then : {b'' : List ℕ} {r' : ℕ} → RoomFor dry at t b → Put dry at t b b' r → Put dry r u b' b'' r' → Put dry at (t ++ u) b b'' r'
    put_then {b''} {r'} h p q = record { place = rw (length-append t u) (omega (arith, p.place, q.place)); bytes = go dry refl }
      where
        go : (d : Bool) → dry ≡ d → b'' ≡ cond d b (pasted at (t ++ u) b)
        go true e = (q.bytes ∙ rw e) ∙ (p.bytes ∙ rw e)
        go false e = (q.bytes ∙ rw (e, p.bytes, e, p.place)) ∙ pasted_twice at t u b (h.room e)

-- room for the same bytes at the same place
pub room_same : {dry : Bool} {at at' : ℕ} {t t' b : List ℕ} → RoomFor dry at t b → at' ≡ at → t' ≡ t → RoomFor dry at' t' b
room_same h p q = rw (p, q) h

-- nothing
put_none : (dry : Bool) (at : ℕ) (b : List ℕ) → Put dry at [] b b at
put_none dry at b = record { place = omega arith; bytes = go dry }
  where
    go : (d : Bool) → b ≡ cond d b (pasted at [] b)
    go true = refl
    go false = let z : at + 0 ≡ at = omega arith in rw z (sym (take-append-drop at b))

-- ---- a text being put: what is left of it

pub record Going (dry : Bool) (start : ℕ) (whole b b' : List ℕ) (at : ℕ) (left : List ℕ) : Type 0 where
  pub front : List ℕ
  pub split : whole ≡ front ++ left
  pub put : Put dry start front b b' at

pub going_start : (dry : Bool) (at : ℕ) (t b : List ℕ) → Going dry at t b b at t
going_start dry at t b = record { front = []; split = refl; put = put_none dry at b }

module _ {dry : Bool} {start : ℕ} {whole b b' : List ℕ} {at : ℕ} {left : List ℕ} where
  module _ (t rest : List ℕ) (e : left ≡ t ++ rest) (h : RoomFor dry start whole b) (g : Going dry start whole b b' at left) where
    all_room : RoomFor dry start (g.front ++ (t ++ rest)) b
    all_room = rw (← e, ← g.split) h

    -- room for what comes next
    pub going_room : RoomFor dry at t b'
    going_room = room_front t rest (room_back g.front (t ++ rest) all_room g.put)

    -- and then that put
    pub going_step : {b'' : List ℕ} {r : ℕ} → Put dry at t b' b'' r → Going dry start whole b b'' r rest
    going_step p =
        record {
          front = g.front ++ t;
          split = g.split ∙ rw e (sym (append_assoc g.front t rest));
          put = put_then g.front t (room_front g.front (t ++ rest) all_room) g.put p;
        }

  pub going_end : left ≡ [] → Going dry start whole b b' at left → Put dry start whole b b' at
  going_end e g = let q : g.front ≡ whole = sym (g.split ∙ rw e (append-nil g.front)) in rw (← q) g.put

-- ---- a text of four parts

pub record Parts (t u v w whole : List ℕ) : Type 0 where
  pub joined : whole ≡ t ++ (u ++ (v ++ w))

module _ {dry : Bool} {at : ℕ} {t u v w whole b : List ℕ} (e : Parts t u v w whole) (h : RoomFor dry at whole b) where
  pub first_room : RoomFor dry at t b
  first_room = going_room t (u ++ (v ++ w)) e.joined h (going_start dry at whole b)

  module _ {b₁ : List ℕ} {r₁ : ℕ} (p₁ : Put dry at t b b₁ r₁) where
    first_going : Going dry at whole b b₁ r₁ (u ++ (v ++ w))
    first_going = going_step t (u ++ (v ++ w)) e.joined h (going_start dry at whole b) p₁

    pub second_room : RoomFor dry r₁ u b₁
    second_room = going_room u (v ++ w) refl h first_going

    module _ {b₂ : List ℕ} {r₂ : ℕ} (p₂ : Put dry r₁ u b₁ b₂ r₂) where
      second_going : Going dry at whole b b₂ r₂ (v ++ w)
      second_going = going_step u (v ++ w) refl h first_going p₂

      pub third_room : RoomFor dry r₂ v b₂
      third_room = going_room v w refl h second_going

      module _ {b₃ : List ℕ} {r₃ : ℕ} (p₃ : Put dry r₂ v b₂ b₃ r₃) where
        third_going : Going dry at whole b b₃ r₃ w
        third_going = going_step v w refl h second_going p₃

        pub fourth_room : RoomFor dry r₃ w b₃
        fourth_room = going_room w [] (sym (append-nil w)) h third_going

        pub all_put : {b₄ : List ℕ} {r₄ : ℕ} → Put dry r₃ w b₃ b₄ r₄ → Put dry at whole b b₄ r₄
        all_put p₄ = going_end refl (going_step w [] (sym (append-nil w)) h third_going p₄)
