use Rattle.std.proofs.Common.{map, rules}
use Rattle.std.proofs.lemmas.Fn.{chained_keeps}
use Rattle.linearized.specs.Coefficients.{Null}
use Rattle.subspace_code.proofs.Slots.{null_none, null_more}
use Rattle.subspace_code.proofs.coefficients.clear.Goals as goal

pub returns : goal.returns
returns g c =
    let G = g.F.FiniteField.field in
    let held = g.H.Holding.held in
    let (last, ran) = c.fill_with.ensures.ran in
    chained_keeps _ (λ slots _. Null G (map held slots)) (λ slots f slot f' null call. null_more G held slots slot null (search rules)) _ _ _ (null_none G held) ran
