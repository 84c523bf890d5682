-- Assumes nothing.
use Rattle.std.proofs.Common.{refl, ap, ◌∙◌}
use Rattle.binary.specs.Codes.{raise, square}
use Rattle.binary.specs.Products.{word_product}
use Rattle.binary.proofs.Steps.{iterate_step}
use Rattle.field.proofs.word.squares.squares.Goals as goal

pub loop-init : goal.loop-init
unfolding raise
loop-init c = refl

pub loop-preserved : goal.loop-preserved
unfolding raise
loop-preserved c =
    c.square-power.ensures ∙ ap (square word_product) c.loop.invariant ∙ iterate_step (square word_product) c.loop.counter c.args.a
