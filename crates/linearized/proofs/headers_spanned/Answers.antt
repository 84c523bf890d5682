use Rattle.linearized.proofs.Headers.{headers_spanned, headers_independent}
use Rattle.linearized.proofs.headers_spanned.Goals as goal

pub returns : goal.returns
returns g c = λ A laws ℓ fits. (headers_spanned laws ℓ fits, headers_independent laws ℓ fits)
