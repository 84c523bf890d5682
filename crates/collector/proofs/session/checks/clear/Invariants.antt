-- After i turns the first i rows are zero.
use Rattle.std.proofs.Common.{◌≡◌, ◌++◌, drop}
use Rattle.field.proofs.Members.{alphabet}
use Rattle.collector.specs.Regions.{zero_rows}
use Rattle.collector.proofs.session.checks.clear.Given as goal

abbrev pub invariant-loop-row : goal.invariant-loop-row
invariant-loop-row g l =
    l.rows ≡ zero_rows (alphabet g.F.Scalar.FiniteField g.F.FiniteField g.F.SymbolField) l.row-index ++ drop l.row-index l.initial.rows
