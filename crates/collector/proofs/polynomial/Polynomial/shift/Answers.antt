use Rattle.std.proofs.Common.{◌≡◌, ℕ, ◌+◌, ◌<◌, length, take, sym, ap, ◌∙◌, ap₂, add-one, arith}
use lib.ListN.{length-map}
use Rattle.std.proofs.lemmas.List.{length-take}
use Rattle.field.specs.Alphabet.{Lawful}
use Rattle.field.proofs.Members.{alphabet}
use Rattle.linearized.specs.Polynomials.{at}
use Rattle.linearized.specs.Coefficients.{before}
use Rattle.subspace_code.specs.Holding.{held_code}
use Rattle.collector.specs.Interpolation.{polynomial, shifted}
use Rattle.collector.proofs.HeldPolynomials.{spliced_rest, read_next, write_next, written_places, Holds, held_past, held_length, held_front, shifted_null, shifted_same}
use Rattle.collector.proofs.polynomial.Polynomial.shift.Given as given
use Rattle.collector.proofs.polynomial.Polynomial.shift.Goals as goal
use Rattle.collector.proofs.polynomial.Polynomial.shift.Goals.{After-self}

laws : (g : given.Over) → Lawful (alphabet g.F.Scalar.FiniteField g.F.FiniteField g.F.SymbolField)
laws g = record { scalar_codes = g.met.F.Scalar.FiniteField.codes; codes = g.met.F.FiniteField.codes; extension = g.met.F.SymbolField.extension }

held : (g : given.Over) (c : After-self g) → Holds (alphabet g.F.Scalar.FiniteField g.F.FiniteField g.F.SymbolField) c.self.inside.codes c.self.inside.places c.args.self.now
held g c = record { front = c.self.view_is; zeros = c.self.invariant.1 }

-- there is room for one place more
short : (g : given.Over) (c : After-self g) → c.self.inside.places < 48
short g c = omega (arith, c.requires, held_length (laws g) (held g c) (omega (arith, c.self.told, c.self.invariant)))

pub returns-then-self-eq0-clause-shifted : goal.returns-then-self-eq0-clause-shifted
returns-then-self-eq0-clause-shifted g c n =
    let null : (i : ℕ) → at g.F.FiniteField.field c.args.self.now i ≡ g.F.FiniteField.field.zero =
    λ i. held_past (laws g) (held g (goal.at.returns-then-self-eq0-clause-shifted g c).After-self) i (omega (arith, c.if-self-eq0.true)) in
    null n ∙ sym (shifted_null (laws g) c.args.c c.args.self.now 0 (λ i l. null i) n (omega arith))

pub invariant_of-self : goal.invariant_of-self
invariant_of-self g c =
    let p = c.self.inside.places in
    let codes = c.self.inside.codes in
    let room = short g (goal.at.invariant_of-self g c).After-self in (
      omega (arith, room),
      λ n l. spliced_rest c.loop-slot.slot-items codes (p + 1) n 0 (omega (arith, room, length-take (p + 1) codes, c.self.told)) l ∙ c.self.invariant.1 n (omega arith),
    )

pub loop-slot-preserved : goal.loop-slot-preserved
loop-slot-preserved g c =
    let A = alphabet g.F.Scalar.FiniteField g.F.FiniteField g.F.SymbolField in
    let G = g.F.FiniteField.field in
    let raise = g.F.SymbolField.frobenius in
    let front = take (c.self.inside.places + 1) c.self.inside.codes in
    let f = polynomial A front in
    let h = shifted A c.args.c f in
    let i = c.loop-slot.slot-index in
    let items = c.loop-slot.slot-items in
    let inside : i < length items = omega arith in
    let here : c.load-here.result ≡ at G f i = c.load-here.ensures ∙ read_next A h f items i c.loop-slot.invariant.0 inside in (
      write_next A h f items i c.loop-slot.invariant.0 inside c.store.result (omega (arith, length-map front (held_code g.F.FiniteField)))
          (c.store.ensures ∙ c.plus.ensures ∙ ap₂ G.add (c.raise.ensures ∙ ap raise c.loop-slot.invariant.1) (c.times.ensures ∙ ap (G.mul c.args.c) here)),
      here ∙ ap (before G f) (sym (add-one i)),
    )

pub returns-clause-shifted : goal.returns-clause-shifted
returns-clause-shifted g c n =
    let A = alphabet g.F.Scalar.FiniteField g.F.FiniteField g.F.SymbolField in
    let G = g.F.FiniteField.field in
    let p = c.self.inside.places in
    let codes = c.self.inside.codes in
    let f = polynomial A (take (p + 1) codes) in
    let self-held = held g (goal.at.returns-clause-shifted g c).After-self in
    let same = held_front (laws g) self-held (p + 1) (omega arith) in
    written_places A (shifted A c.args.c f) codes c.loop-slot.slot-items (p + 1) c.loop-slot.slot-index (omega arith)
    (omega (arith, short g (goal.at.returns-clause-shifted g c).After-self, c.self.told)) c.loop-slot.invariant.0 (omega arith)
    (shifted_null (laws g) c.args.c f (p + 1) (λ i l. same i ∙ held_past (laws g) self-held i (omega arith))) n
    ∙ shifted_same (laws g) c.args.c f c.args.self.now same n
