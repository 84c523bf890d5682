-- The first k rows are checked, and lead before `from`.
use Rattle.collector.proofs.Checks.{Checked}
use Rattle.collector.proofs.window.is_reduced.Given as goal

abbrev pub invariant-loop-k : goal.invariant-loop-k
invariant-loop-k g l = Checked g.R.Scalar.FiniteField.field g.R.Row.rows l.rows l.k l.from
