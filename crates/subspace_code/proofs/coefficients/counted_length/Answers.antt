use Rattle.std.proofs.Common.{rules}
use Rattle.subspace_code.proofs.Slots.{counted_by_last}
use Rattle.subspace_code.proofs.coefficients.counted_length.Goals as goal

pub returns : goal.returns
returns g c = counted_by_last g.met.F.FiniteField.codes g.H.Holding.held c.args.slots.now c.rposition.result c.map_or.result (search rules) (search rules)
