use Rattle.std.proofs.Common.{◌≡◌, [], ◌∷◌, Some, refl}
use Rattle.std.proofs.lemmas.Result.{err_from_is_err_and}
use Rattle.field.proofs.Members.{alphabet}
use Rattle.answer.specs.declared.Tally.{Tally}
use Rattle.answer.specs.declared.refusal.Refusal.TheVariants.{AlreadyOpen}
use Rattle.answer.proofs.Causes.{first_left}
use Rattle.collector.specs.Session.{record_of, base_refusals}
use Rattle.collector.proofs.session.Session.open.Goals as goal

pub returns-in_err-look : goal.returns-in_err-look
returns-in_err-look g c =
    let A = alphabet g.F.Scalar.FiniteField g.F.FiniteField g.F.SymbolField in
    let p = err_from_is_err_and c.from_residual.result c.from_residual.ensures.1 in
    let s = c.args.self.now in
    let b = c.args.number in
    rw (p.1, p.2) (first_left (base_refusals A s c.args.rows.now b) (((tally : Tally) × (record_of s b ≡ Some tally), AlreadyOpen) ∷ []) c.in_err-look.field-0.0 c.in_err-look.ensures, refl)
