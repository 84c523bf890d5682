-- Assumes nothing.
use Rattle.std.proofs.Common.{◌∙◌, arith}
use Rattle.binary.proofs.Tests.{computing}
use Rattle.field.specs.declared.octet.tables.TheConstants.{POWERS}
use Rattle.field.proofs.Tables.{powers_at, chain}
use Rattle.field.proofs.octet.tables.power_of_three.Goals as goal

pub returns : goal.returns
unfolding computing chain
returns c = c.entry.ensures ∙ powers_at POWERS tt c.args.i (omega arith)
