use Rattle.feed.proofs.Steps.{join_fresh}
use Rattle.feed.proofs.join.Join.new.Goals as goal

pub returns-clause-list : goal.returns-clause-list
returns-clause-list g c = join_fresh _ _
