use Rattle.std.proofs.Common.{[], ◌∷◌}
use Rattle.std.proofs.lemmas.Result.{err_from_is_err_and}
use Rattle.field.proofs.Members.{alphabet}
use Rattle.answer.specs.declared.refusal.Refusal.TheVariants.{ListFull}
use Rattle.answer.proofs.Causes.{first_left}
use Rattle.collector.specs.Session.{shut_refusals, Overfull}
use Rattle.collector.proofs.session.Session.admit.Goals as goal

pub returns-in_err-tally : goal.returns-in_err-tally
returns-in_err-tally g c =
    let A = alphabet g.F.Scalar.FiniteField g.F.FiniteField g.F.SymbolField in
    let p = err_from_is_err_and c.from_residual.result c.from_residual.ensures.1 in
    let s = c.args.self.now in
    rw (p.1, p.2) (first_left (shut_refusals A s c.args.rows.now c.args.number) ((Overfull s c.args.number c.args.more, ListFull) ∷ [])
    c.in_err-tally.field-0.0 c.in_err-tally.ensures)
