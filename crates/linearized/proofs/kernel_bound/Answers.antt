use Rattle.linear.proofs.Spans.{from_independent}
use Rattle.field.proofs.Symbols.{symbol_laws}
use Rattle.linearized.proofs.Kernels.{kernel_bound}
use Rattle.linearized.proofs.kernel_bound.Goals as goal

pub returns : goal.returns
returns g c = λ A laws X f free few roots. kernel_bound laws X f (from_independent (symbol_laws laws) X free) few roots
