use Rattle.linearized.proofs.Messages.{codeword_within}
use Rattle.linearized.proofs.codeword_within.Goals as goal

pub returns : goal.returns
returns g c = λ A laws. codeword_within laws
