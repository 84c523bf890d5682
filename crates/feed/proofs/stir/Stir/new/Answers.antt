use Rattle.feed.proofs.Stirring.{stirred_stirs}
use Rattle.feed.proofs.stir.Stir.new.Goals as goal

pub returns-clause-stirs : goal.returns-clause-stirs
returns-clause-stirs g c = stirred_stirs _ _ _
