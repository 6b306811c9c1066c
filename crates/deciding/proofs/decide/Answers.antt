-- `deciding::decide` meets its contract, test by test: the horizon, what the text met, then 37, 38, 33 and 34.
use native.Mathlib.Omega.{arith}
use Rattle.std.specs.Prelude.{Ok, Err}
use Rattle.std.proofs.lemmas.Result.{err_from_is_err_and}
use Rattle.parsing.proofs.Parsing.{parsing_few}
use Rattle.deciding.proofs.Deciding.{ordered, no_order, all_passed}
use Rattle.deciding.proofs.decide.Goals as goal

pub new-pairs-requires : goal.new-pairs-requires
new-pairs-requires g c = let u = c.in_ok-shape.ensures in parsing_few _ _ _ _ _ _ u.2

pub returns-in_err-longest_chains : goal.returns-in_err-longest_chains
returns-in_err-longest_chains g c =
    let p = err_from_is_err_and c.from_residual-in_err-longest_chains.result c.from_residual-in_err-longest_chains.ensures.1 in
    let room = rw c.if-not-roomy.false at c.roomy.ensures in
    rw (p.1, p.2) (λ lent long.
    no_order _ _ _ lent _ long c.if-horizon-gt-MOST_TIME.false _ _ _ _ c.in_ok-shape.ensures (omega (arith, c.if-shape-resource.false)) room c.longest_chains.new.heads c.longest_chains.new.tails _
    (ordered _ _ _ lent _ long c.if-horizon-gt-MOST_TIME.false _ _ _ _ c.in_ok-shape.ensures c.new-pairs.result c.new-pairs.ensures c.longest_chains.new.heads c.longest_chains.new.tails (Err c.in_err-longest_chains.field-0.0) c.in_err-longest_chains.ensures.0))

pub returns : goal.returns
returns g c =
    let room = rw c.if-not-roomy.false at c.roomy.ensures in
    let o = c.in_ok-longest_chains.ensures in
    (λ lent long. (
      all_passed _ _ _ lent _ long c.if-horizon-gt-MOST_TIME.false _ _ _ _ c.in_ok-shape.ensures (omega (arith, c.if-shape-resource.false)) room c.longest_chains.new.heads c.longest_chains.new.tails
          (ordered _ _ _ lent _ long c.if-horizon-gt-MOST_TIME.false _ _ _ _ c.in_ok-shape.ensures c.new-pairs.result c.new-pairs.ensures c.longest_chains.new.heads c.longest_chains.new.tails (Ok tt) o.0),
      record { heads = o.1; tails = o.2; dur = c.in_ok-shape.ensures.2.long_durs; dem = c.in_ok-shape.ensures.2.long_dems },
    ))
