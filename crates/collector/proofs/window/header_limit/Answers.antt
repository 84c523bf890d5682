use Rattle.std.proofs.Common.{◌^◌, ap, arith}
use Rattle.field.specs.Alphabet.{Lawful}
use Rattle.field.proofs.Members.{alphabet}
use Rattle.field.proofs.Alphabets.{power_limit}
use Rattle.collector.proofs.window.header_limit.Given as given
use Rattle.collector.proofs.window.header_limit.Goals as goal

laws : (g : given.Over) → Lawful (alphabet g.F.Scalar.FiniteField g.F.FiniteField g.F.SymbolField)
laws g = record { scalar_codes = g.met.F.Scalar.FiniteField.codes; codes = g.met.F.FiniteField.codes; extension = g.met.F.SymbolField.extension }

pub pow-requires : goal.pow-requires
pow-requires g c = omega (arith, ap (λ q. q ^ c.args.parameters.now.l) c.ORDER.ensures, power_limit (laws g) c.args.parameters.now.l c.args.parameters.now.within)
