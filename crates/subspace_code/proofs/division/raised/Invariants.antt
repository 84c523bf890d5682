-- After i turns the power is x raised i times.
use Rattle.std.proofs.Common.{◌≡◌}
use Rattle.linear.specs.Field.{iterate}
use Rattle.subspace_code.proofs.division.raised.Given as goal

abbrev pub invariant-loop : goal.invariant-loop
invariant-loop g l = l.power ≡ iterate g.F.SymbolField.frobenius l.counter l.initial.power
