-- After i turns the code is q^i, and the first i packets stand at the front.
use Rattle.std.proofs.Common.{◌≡◌, ◌^◌, ◌++◌, drop}
use Rattle.field.proofs.Members.{alphabet}
use Rattle.linearized.specs.Code.{packets}
use Rattle.subspace_code.proofs.encoding.write_packets.Given as goal

abbrev pub invariant-loop-place : goal.invariant-loop-place
invariant-loop-place g l =
    (l.code ≡ g.F.SymbolField.ORDER ^ l.place-index)
    × (l.output ≡ packets (alphabet g.F.Scalar.FiniteField g.F.FiniteField g.F.SymbolField) l.place-index l.message ++ drop l.place-index l.initial.output)
