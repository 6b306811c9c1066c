-- `logs::write` meets its contract: the head, then the set behind it, are the record's words.
use native.Mathlib.Omega.{arith}
use mathlib.Core.List.{List, [], ◌∷◌}
use mathlib.Core.Path.{◌≡◌, refl, sym, ap, ◌∙◌}
use Prim.Native.Nat.{ℕ, ◌+◌, ◌*◌, ◌≤◌, ◌<◌}
use lib.ListN.{length}
use lib.Seq.{paste}
use borrow.Author.Rules.{rules}
use borrow.Rule.Slice.PartMut.{same_len_mid}
use Rattle.std.proofs.lemmas.Slice.{put_mid-paste}
use Rattle.members.specs.Members.{set_words}
use Rattle.journal.specs.Journal.{record_words, head_words, room_of, in_words}
use Rattle.journal.proofs.Records.{room_words, rewritten_out, rewritten_parts, written_length}
use Rattle.logs.proofs.write.Goals as goal
use Rattle.logs.proofs.write.Goals.{Else-room-k}

room-left : (d : Else-room-k) → d.args.k < room_of d.args.log.now
room-left d = omega (arith, d.room.ensures, d.if-room-k.false)

enough : (d : Else-room-k) → record_words * d.args.k + record_words ≤ length d.args.log.now
enough d = room_words d.args.log.now d.args.k (room-left d)

pub returns-then-room-k : goal.returns-then-room-k
returns-then-room-k c = sym (rewritten_out c.args.log.now c.args.k _ (omega (arith, c.room.ensures, c.if-room-k.true)))

pub overflow_mul-at : goal.overflow_mul-at
overflow_mul-at c = omega (arith, enough (goal.at.overflow_mul-at c).Else-room-k)

pub overflow_add-to : goal.overflow_add-to
overflow_add-to c = omega (arith, enough (goal.at.overflow_add-to c).Else-room-k)

pub returns : goal.returns
returns c =
    let a = c.args in
    let at = record_words * a.k in
    let sized : length a.set ≡ set_words = search rules in
    let head = a.job ∷ a.side ∷ a.time ∷ c.count.result ∷ [] in
    put_mid-paste _ _ _ _ a.set (length a.set) c.copy_from_slice-2.ensures.after (omega arith) refl
    ∙ ap (λ (words : List ℕ). paste words (at + head_words) a.set (length a.set))
    (put_mid-paste _ _ _ _ head (length head) c.copy_from_slice.ensures.after (omega arith) refl)
    ∙ rewritten_parts a.log.now a.k (in_words a.job a.side a.time a.set) (room-left (goal.at.returns c).Else-room-k)
    (written_length a.job a.side a.time a.set sized) head a.set
    (ap (λ (m : ℕ). a.job ∷ a.side ∷ a.time ∷ m ∷ a.set) c.count.ensures)

pub offset_bounds-log-at : goal.offset_bounds-log-at
offset_bounds-log-at c = omega (arith, enough (goal.at.offset_bounds-log-at c).Else-room-k)

pub slice_bounds-copy_from_slice-end : goal.slice_bounds-copy_from_slice-end
slice_bounds-copy_from_slice-end c = omega (arith, enough (goal.at.slice_bounds-copy_from_slice-end c).Else-room-k)

pub slice_bounds-copy_from_slice-end-3 : goal.slice_bounds-copy_from_slice-end-3
slice_bounds-copy_from_slice-end-3 c =
    omega (
      arith,
      enough (goal.at.slice_bounds-copy_from_slice-end-3 c).Else-room-k,
      same_len_mid _ _ c.args.log.now _ c.copy_from_slice.ensures.len,
    )
