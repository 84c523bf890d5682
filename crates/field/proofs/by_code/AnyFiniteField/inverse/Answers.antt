-- Assumes nothing.
use Rattle.std.proofs.Common.{sym, ◌∙◌}
use Rattle.binary.proofs.Lift.{field_by_codes, make_code}
use Rattle.field.specs.Elements.{is_inverse}
use Rattle.field.proofs.by_code.AnyFiniteField.inverse.Goals as goal

pub returns-else-number-eq0 : goal.returns-else-number-eq0
returns-else-number-eq0 g c =
    let C = g.T.ByCode.coded in
    let r = c.reciprocal.result in
    is_inverse (field_by_codes C g.T.ByCode.binary) r c.args.self (C.code r) (sym (make_code C r)) (C.code_less r)
    (λ z. c.if-number-eq0.false (c.number.ensures ∙ z)) c.reciprocal.ensures
