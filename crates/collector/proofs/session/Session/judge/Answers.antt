use Rattle.std.proofs.Common.{◌^◌, ◌≤◌, [], ◌∷◌, rules}
use Rattle.std.proofs.lemmas.Result.{err_from_is_err_and}
use Rattle.field.specs.Alphabet.{Alphabet, Lawful}
use Rattle.field.proofs.Alphabets.{power_grows}
use Rattle.field.proofs.Members.{alphabet}
use Rattle.answer.specs.declared.refusal.Refusal.TheVariants.{Header, Payload, ListFull}
use Rattle.answer.proofs.Causes.{first_left}
use Rattle.collector.specs.Session.{shut_refusals, Overfull}
use Rattle.collector.proofs.session.Session.judge.Given as given
use Rattle.collector.proofs.session.Session.judge.Goals as goal

abbrev A : (g : given.Over) → Alphabet g.row.F-Scalar.Denot g.row.F.Denot
A g = alphabet g.F.Scalar.FiniteField g.F.FiniteField g.F.SymbolField

laws : (g : given.Over) → Lawful (A g)
laws g = record { scalar_codes = g.met.F.Scalar.FiniteField.codes; codes = g.met.F.FiniteField.codes; extension = g.met.F.SymbolField.extension }

pub returns-in_err-tally : goal.returns-in_err-tally
returns-in_err-tally g c =
    let p = err_from_is_err_and c.from_residual.result c.from_residual.ensures.1 in
    let s = c.args.self.now in
    rw (p.1, p.2) (first_left (shut_refusals (A g) s c.args.rows.now c.args.number)
    (((A g).q ^ s.l ≤ c.args.x, Header) ∷ ((A g).q ^ (A g).m ≤ c.args.y, Payload) ∷ (Overfull s c.args.number 1, ListFull) ∷ []) c.in_err-tally.field-0.0 c.in_err-tally.ensures)

pub returns-in_err-header : goal.returns-in_err-header
returns-in_err-header g c =
    let low = power_grows (laws g) c.args.self.now.l (A g).m c.in_ok-tally.ensures.0.allowed.2 in
    let symbols = (laws g).extension.symbol_count in search rules
