use Rattle.packet.proofs.HeaderBounds.{headers_bound}
use Rattle.packet.proofs.headers.headers_bound.Goals as goal

pub returns : goal.returns
returns g c = headers_bound (record { scalar_codes = g.met.F.Scalar.FiniteField.codes; codes = g.met.F.FiniteField.codes; extension = g.met.F.SymbolField.extension })
