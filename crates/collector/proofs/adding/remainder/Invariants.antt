-- The first k rows are taken from the row, and the later ones lead from `from` on.
use Rattle.collector.proofs.LeadingPlaces.{From}
use Rattle.collector.proofs.Remainders.{Remaining}
use Rattle.collector.proofs.adding.remainder.Given as goal

abbrev pub invariant-loop-pivot : goal.invariant-loop-pivot
invariant-loop-pivot g l =
    let F = g.R.Scalar.FiniteField.field in
    let R = g.R.Row.rows in
    From F R l.rows l.pivot-index l.from × Remaining F R l.rows l.initial.rest l.rest l.pivot-index
