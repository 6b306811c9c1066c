-- `scribe::marks::+put_digits` puts a number's decimal digits: those of v / 10, by a call of itself, and then the last. The measure is v.
use native.Mathlib.Omega.{arith}
use mathlib.Core.Path.{ap, ◌∙◌}
use mathlib.Core.List.{[], ◌∷◌}
use Prim.Native.Nat.{ℕ}
use Rattle.projects.specs.Form.{decimal}
use Rattle.scribe.proofs.Decimals.{decimal_one, decimal_more}
use Rattle.scribe.proofs.Puts.{room_same, room_front, room_back, put_then}
use Rattle.scribe.proofs.marks.+put_digits.Goals as goal

pub store-requires : goal.store-requires
store-requires g t c = rw (← decimal_one c.args.v c.if-v-lt10.true) c.requires

pub returns-then-v-lt10 : goal.returns-then-v-lt10
returns-then-v-lt10 g t c = record { put = rw (decimal_one _ c.if-v-lt10.true) c.store.ensures.put; same = c.store.ensures.same }

pub put_digits-requires : goal.put_digits-requires
put_digits-requires g t c =
    λ κs lives. (
      omega (arith, c.decreases, c.if-v-lt10.false),
      (lives, room_same (room_front _ _ (rw (decimal_more c.args.v c.if-v-lt10.false) at c.requires)) (omega arith) (ap decimal (omega arith))),
    )

pub store-requires-else-v-lt10 : goal.store-requires-else-v-lt10
store-requires-else-v-lt10 g t c =
    let d = decimal_more c.args.v c.if-v-lt10.false in
    room_same (room_back _ _ (rw d at c.requires) c.put_digits.ensures.put) (omega arith) (ap (λ (b : ℕ). b ∷ []) (omega arith))

pub returns-else-v-lt10 : goal.returns-else-v-lt10
returns-else-v-lt10 g t c =
    let d = decimal_more c.args.v c.if-v-lt10.false in
    record {
      put = rw d (put_then _ _ (room_front _ _ (rw d at c.requires)) c.put_digits.ensures.put c.store-else-v-lt10.ensures.put);
      same = c.store-else-v-lt10.ensures.same ∙ c.put_digits.ensures.same;
    }
