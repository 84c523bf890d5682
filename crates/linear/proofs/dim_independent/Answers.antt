use Rattle.linear.proofs.Spans.{from_independent}
use Rattle.linear.proofs.Dims.{indep_basis, basis_dim}
use Rattle.linear.proofs.dim_independent.Goals as goal

pub returns : goal.returns
returns g c = λ F R laws L i. basis_dim laws (indep_basis laws (from_independent laws L i))
