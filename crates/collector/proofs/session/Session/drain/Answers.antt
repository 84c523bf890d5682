use Rattle.std.proofs.Common.{[], ◌∷◌, ◌++◌, length, refl, subst, arith}
use Rattle.std.proofs.lemmas.Result.{err_from_is_err_and}
use Rattle.field.specs.Alphabet.{Alphabet, Lawful}
use Rattle.field.proofs.Members.{alphabet}
use Rattle.answer.specs.Refusals.{First}
use Rattle.answer.specs.declared.refusal.Refusal.TheVariants.{ListFull}
use Rattle.collector.specs.Session.{Overfull, shut_refusals}
use Rattle.collector.proofs.Sessions.{open_none, not_overfull}
use Rattle.collector.proofs.Taking.{part_packets, drained_all}
use Rattle.collector.proofs.session.Session.drain.Given as given
use Rattle.collector.proofs.session.Session.drain.Goals as goal

abbrev A : (g : given.Over) → Alphabet g.row.F-Scalar.Denot g.row.F.Denot
A g = alphabet g.F.Scalar.FiniteField g.F.FiniteField g.F.SymbolField

laws : (g : given.Over) → Lawful (A g)
laws g = record { scalar_codes = g.met.F.Scalar.FiniteField.codes; codes = g.met.F.FiniteField.codes; extension = g.met.F.SymbolField.extension }

pub returns-in_err-tally-clause-drains : goal.returns-in_err-tally-clause-drains
returns-in_err-tally-clause-drains g c =
    let p = err_from_is_err_and c.from_residual.result c.from_residual.ensures.1 in
    let s = c.args.self.now in
    let b = c.args.number in
    let e = c.in_err-tally.field-0.0 in
    let why = subst (λ n. First (shut_refusals (A g) s c.args.rows.now b ++ ((Overfull s b n, ListFull) ∷ [])) e) c.len.ensures c.in_err-tally.ensures in
    rw (p.1, p.2) (why, refl, (refl, refl))

pub fill-dimension-requires-clause-window : goal.fill-dimension-requires-clause-window
fill-dimension-requires-clause-window g c =
    let (ready, was, room) = c.in_ok-tally.ensures in rw c.parameters-parameters.ensures.1 (part_packets (laws g) ready was c.place-place.ensures)

pub returns-clause-drains : goal.returns-clause-drains
returns-clause-drains g c =
    let s = c.args.self.now in
    let b = c.args.number in
    let feed = g.D.Feed.list c.args.feed.now in
    let (ready, was, room) = c.in_ok-tally.ensures in
    let same = c.parameters-parameters.ensures.1 in
    let filled = c.fill-dimension.ensures in (
      open_none ready was ((Overfull s b (length feed), ListFull) ∷ []) (not_overfull s b (length feed) was (omega (arith, c.len.ensures)), tt),
      drained_all (laws g) ready was c.place-place.ensures feed c.fill-dimension.result.1 (rw same at filled.window) (rw same at filled.spans) (rw same at filled.gives) filled.empty c.fill-dimension.auto.window,
    )
