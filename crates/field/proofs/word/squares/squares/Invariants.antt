-- Assumes nothing.
use Rattle.std.proofs.Common.{◌≡◌}
use Rattle.binary.specs.Codes.{raise}
use Rattle.binary.specs.Products.{word_product}
use Rattle.field.proofs.word.squares.squares.Given as goal

abbrev pub invariant-loop : goal.invariant-loop
invariant-loop l = l.power ≡ raise word_product l.counter l.a
