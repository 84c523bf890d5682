use Rattle.std.proofs.Common.{◌≡◌, map, length, None, sym, ◌∙◌, rules}
use lib.ListN.{length-map}
use Rattle.field.proofs.Members.{alphabet}
use Rattle.answer.proofs.Tested.{answered_ok}
use Rattle.subspace_code.specs.Dividing.{divide_refusal}
use Rattle.subspace_code.proofs.Quotients.{counted_same, divided_same}
use Rattle.subspace_code.proofs.division.divide_held.Goals as goal

pub divide_in_place-requires : goal.divide_in_place-requires
divide_in_place-requires g c =
    let short = counted_same g.F.FiniteField.field (map g.H.Holding.held c.copy.new.output) (map g.H.Holding.held c.args.dividend.now) c.copy.ensures in
    search rules

pub returns-clause-answer : goal.returns-clause-answer
returns-clause-answer g c =
    let held = g.H.Holding.held in
    let A = alphabet g.F.Scalar.FiniteField g.F.FiniteField g.F.SymbolField in
    let divided =
    divided_same A (map held c.args.dividend.now) (map held c.copy.new.output) (map held c.args.divisor.now) (map held c.divide_in_place.new.quotient)
    (map held c.divide_in_place.new.remainder) c.copy.ensures c.divide_in_place.ensures in
    let admitted : divide_refusal c.counted_length.result c.counted_length-2.result (length c.args.quotient.now) (length c.args.remainder.now) ≡ None =
    answered_ok _ tt tt (sym c.check.ensures ∙ c.in_ok-check.was) in
    (simp length-map (rw (← c.counted_length.ensures, ← c.counted_length-2.ensures) admitted), divided, search rules, search rules)
