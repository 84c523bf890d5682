use Rattle.linearized.proofs.Counts.{counted_bound}
use Rattle.linearized.proofs.counted_least.Goals as goal

pub returns : goal.returns
returns g c = λ G f d. counted_bound G f d
