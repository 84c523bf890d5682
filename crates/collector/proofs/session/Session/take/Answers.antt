use Rattle.std.proofs.Common.{◌^◌, ◌≤◌, [], ◌∷◌, refl, arith}
use Rattle.std.proofs.lemmas.Result.{err_from_is_err_and}
use Rattle.field.specs.Alphabet.{Alphabet, Lawful}
use Rattle.field.proofs.Members.{alphabet}
use Rattle.answer.specs.declared.refusal.Refusal.TheVariants.{Header, Payload, ListFull}
use Rattle.collector.specs.Session.{Overfull}
use Rattle.collector.proofs.Sessions.{open_none, not_overfull}
use Rattle.collector.proofs.Taking.{part_packets, part_room, taken_one}
use Rattle.collector.proofs.session.Session.take.Given as given
use Rattle.collector.proofs.session.Session.take.Goals as goal

abbrev A : (g : given.Over) → Alphabet g.row.F-Scalar.Denot g.row.F.Denot
A g = alphabet g.F.Scalar.FiniteField g.F.FiniteField g.F.SymbolField

laws : (g : given.Over) → Lawful (A g)
laws g = record { scalar_codes = g.met.F.Scalar.FiniteField.codes; codes = g.met.F.FiniteField.codes; extension = g.met.F.SymbolField.extension }

pub returns-in_err-tally : goal.returns-in_err-tally
returns-in_err-tally g c =
    let p = err_from_is_err_and c.from_residual.result c.from_residual.ensures.1 in rw (p.1, p.2) (c.in_err-tally.ensures, (refl, refl))

pub add_row-added-requires-clause-window : goal.add_row-added-requires-clause-window
add_row-added-requires-clause-window g c =
    let (ready, was, low, high, room, is) = c.in_ok-tally.ensures in (part_packets (laws g) ready was c.place-place.ensures).0

pub add_row-added-requires-clause-room : goal.add_row-added-requires-clause-room
add_row-added-requires-clause-room g c =
    let (ready, was, low, high, room, is) = c.in_ok-tally.ensures in part_room (laws g) ready was c.place-place.ensures c.args.x c.args.y low is

pub returns : goal.returns
returns g c =
    let s = c.args.self.now in
    let b = c.args.number in
    let (ready, was, low, high, room, is) = c.in_ok-tally.ensures in (
      open_none ready was (((A g).q ^ s.l ≤ c.args.x, Header) ∷ ((A g).q ^ (A g).m ≤ c.args.y, Payload) ∷ (Overfull s b 1, ListFull) ∷ [])
          (λ h. omega (arith, h, low), (λ h. omega (arith, h, high), (not_overfull s b 1 was (omega arith), tt))),
      taken_one (laws g) ready was c.place-place.ensures c.args.x c.args.y c.add_row-added.result low is c.add_row-added.ensures.added c.add_row-added.auto.rows,
    )
