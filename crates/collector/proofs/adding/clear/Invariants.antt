-- The first i rows are cleared at p, and the others are as they were.
use Rattle.std.proofs.Common.{◌≡◌, ◌++◌, map, take, drop}
use Rattle.linear.specs.Rows.{cleared}
use Rattle.collector.proofs.adding.clear.Given as goal

abbrev pub invariant-loop-row : goal.invariant-loop-row
invariant-loop-row g l =
    let L = l.initial.rows in
    l.rows ≡ map (cleared g.R.Scalar.FiniteField.field g.R.Row.rows l.unit l.p) (take l.row-index L) ++ drop l.row-index L
