use Rattle.std.proofs.Common.{◌≡◌, ◌+◌, ◌≤◌, map, length, set, sym, ap, ◌∙◌, arith, length-take}
use Rattle.linear.specs.Field.{iterate}
use Rattle.field.specs.Alphabet.{Alphabet, Lawful}
use Rattle.field.proofs.Members.{alphabet}
use Rattle.linearized.specs.Polynomials.{at}
use Rattle.subspace_code.proofs.Slots.{at_slot, at_written, at_unwritten, counted_slots}
use Rattle.subspace_code.proofs.Quotients.{quotient_step, taken_whole}
use Rattle.subspace_code.proofs.division.step.Given as given
use Rattle.subspace_code.proofs.division.step.Goals as goal

A : (g : given.Over) → Alphabet g.row.F-Scalar.Denot g.row.F.Denot
A g = alphabet g.F.Scalar.FiniteField g.F.FiniteField g.F.SymbolField

laws : (g : given.Over) → Lawful (A g)
unfolding A
laws g = record { scalar_codes = g.met.F.Scalar.FiniteField.codes; codes = g.met.F.FiniteField.codes; extension = g.met.F.SymbolField.extension }

pub slice_bounds-take_off-end : goal.slice_bounds-take_off-end
slice_bounds-take_off-end g c =
    let long = counted_slots g.F.FiniteField.field g.H.Holding.held c.args.divisor.now in
    simp length-take (omega (arith, c.requires.0.top))

pub returns : goal.returns
unfolding A
returns g c =
    let G = g.F.FiniteField.field in
    let held = g.H.Holding.held in
    let quotient = c.args.quotient.now in
    let remainder = c.args.remainder.now in
    let divisor = c.args.divisor.now in
    let lead = c.args.lead in
    let p = c.args.p in
    let long : lead.place + 1 ≤ length divisor = omega (arith, c.requires.0.top, counted_slots G held divisor) in
    let top : c.load-top.result ≡ at G (map held remainder) (p + lead.place) =
    c.load-top.ensures ∙ sym (at_slot G held remainder (p + lead.place) c.index-remainder-p.result c.requires.1.1 c.index-remainder-p.is) in
    quotient_step (laws g) (map held divisor) (map held quotient) (map held remainder) (map held (set quotient p c.store.result)) (map held c.take_off.new.remainder)
    lead p c.raised-c.result c.requires.0
    (c.raised-c.ensures ∙ ap (iterate g.F.SymbolField.frobenius lead.raises) (c.times.ensures ∙ ap (G.mul lead.inverse) top))
    (at_written G held quotient p c.store.result c.requires.1.0 ∙ c.store.ensures) (at_unwritten G held quotient p c.store.result) (taken_whole (A g) held divisor (lead.place + 1) _ _ _ p long c.take_off.ensures)
