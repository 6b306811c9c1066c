-- `readhead::find` meets its contract: the two orders are what the sweep asks.
use Rattle.readhead.proofs.find.Goals as goal

pub sweep-requires : goal.sweep-requires
sweep-requires c =
    let g = c.requires in
    record {
      good = g;
      placed = c.places.ensures.0;
      by_start = c.order-2.ensures.ordered.0;
      by_stop = rw g.sized.1.0 at c.order.ensures.ordered.0;
      starts_long = c.order-2.ensures.ordered.1;
      stops_long = c.order.ensures.ordered.1;
    }
