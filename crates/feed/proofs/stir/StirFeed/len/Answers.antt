use Rattle.std.proofs.Common.{sym, ◌∙◌}
use Rattle.feed.specs.Lengths.{stir_length}
use Rattle.feed.proofs.stir.StirFeed.len.Goals as goal

pub returns : goal.returns
returns g c = c.len.ensures ∙ sym (stir_length _ _ _ _)
