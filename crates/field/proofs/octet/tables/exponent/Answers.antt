-- Assumes nothing.
use Rattle.std.proofs.Common.{ap, ◌∙◌, arith}
use Rattle.binary.specs.Codes.{pow}
use Rattle.binary.specs.Products.{octet_product}
use Rattle.binary.proofs.Tests.{computing}
use Rattle.field.specs.declared.octet.tables.TheConstants.{EXPONENTS}
use Rattle.field.proofs.Tables.{exponents_at, chain}
use Rattle.field.proofs.octet.tables.exponent.Goals as goal

pub returns : goal.returns
unfolding computing chain
returns c = ap (pow octet_product 3) c.entry.ensures ∙ exponents_at EXPONENTS tt c.args.a c.requires (omega arith)
