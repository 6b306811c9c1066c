-- `scribe::marks::put` puts a number's digits and then the byte behind them.
use mathlib.Core.Path.{◌∙◌}
use Rattle.scribe.proofs.Puts.{room_front, room_back, put_then}
use Rattle.scribe.proofs.marks.put.Goals as goal

pub put_digits-requires : goal.put_digits-requires
put_digits-requires g c = room_front _ _ c.requires

pub store-requires : goal.store-requires
store-requires g c = room_back _ _ c.requires c.put_digits.ensures.put

pub returns : goal.returns
returns g c =
    record {
      put = put_then _ _ (room_front _ _ c.requires) c.put_digits.ensures.put c.store.ensures.put;
      same = c.store.ensures.same ∙ c.put_digits.ensures.same;
    }
