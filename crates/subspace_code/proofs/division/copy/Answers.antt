use Rattle.std.proofs.Common.{arith, rules}
use Rattle.subspace_code.proofs.Slots.{filled_up, counted_slots}
use Rattle.subspace_code.proofs.division.copy.Goals as goal

pub returns : goal.returns
returns g c =
    let held = g.H.Holding.held in
    let coefficients = c.args.coefficients.now in
    filled_up g.F.FiniteField.field held coefficients c.copy_from_slice.new.self c.clear.new.slots c.min-n.result (search rules)
    (omega arith) (omega (arith, c.requires, counted_slots g.F.FiniteField.field held coefficients)) c.clear.ensures
