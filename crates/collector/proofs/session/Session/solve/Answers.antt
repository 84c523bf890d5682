use Rattle.std.proofs.Common.{length, refl}
use Rattle.std.proofs.lemmas.Result.{err_from_is_err_and}
use Rattle.field.specs.Alphabet.{Alphabet, Lawful}
use Rattle.field.proofs.Members.{alphabet}
use Rattle.answer.proofs.Causes.{first_left}
use Rattle.collector.specs.Answers.{solve_causes}
use Rattle.collector.specs.Session.{record_of, held, shut_refusals, taken_space}
use Rattle.collector.proofs.Solving.{reduced_dimension, solves}
use Rattle.collector.proofs.session.Session.solve.Given as given
use Rattle.collector.proofs.session.Session.solve.Goals as goal

abbrev A : (g : given.Over) → Alphabet g.row.F-Scalar.Denot g.row.F.Denot
A g = alphabet g.F.Scalar.FiniteField g.F.FiniteField g.F.SymbolField

laws : (g : given.Over) → Lawful (A g)
laws g = record { scalar_codes = g.met.F.Scalar.FiniteField.codes; codes = g.met.F.FiniteField.codes; extension = g.met.F.SymbolField.extension }

pub returns-in_err-dimension : goal.returns-in_err-dimension
returns-in_err-dimension g c =
    let p = err_from_is_err_and c.from_residual.result c.from_residual.ensures.1 in
    let s = c.args.self.now in
    let rows = c.args.rows.now in
    let b = c.args.number in
    let causes = solve_causes (A g) s.k s.l (taken_space (A g) s rows b) (held (record_of s b)) (length c.args.output.now) in
    rw (p.1, p.2) (first_left (shut_refusals (A g) s rows b) causes c.in_err-dimension.field-0.0 c.in_err-dimension.ensures, refl)

pub decode-requires-clause-dimension : goal.decode-requires-clause-dimension
decode-requires-clause-dimension g c = let (ready, was) = c.in_ok-dimension.ensures in reduced_dimension (laws g) ready was c.place-place.ensures

pub returns : goal.returns
returns g c =
    let (ready, was) = c.in_ok-dimension.ensures in
    rw c.ok_or.ensures.value (solves (laws g) ready was c.place-place.ensures c.args.output.now c.decode.new.output c.decode.result c.if-output-self.false c.if-dimension-self.false c.if-self-dimension.false (rw (c.parameters-parameters.ensures.0, c.parameters-parameters.ensures.1) at c.decode.ensures))
