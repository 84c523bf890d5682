use Rattle.std.proofs.Common.{ℕ, ◌<◌, length, take, ap, ◌∙◌, arith}
use lib.ListN.{length-map}
use Rattle.field.proofs.Members.{alphabet}
use Rattle.linearized.specs.Polynomials.{at}
use Rattle.linearized.proofs.Algebra.{neg_zero}
use Rattle.subspace_code.specs.Holding.{held_code}
use Rattle.collector.specs.Interpolation.{polynomial}
use Rattle.collector.proofs.HeldPolynomials.{read_next, write_next, written_places, front_past}
use Rattle.collector.proofs.polynomial.Polynomial.negate.Goals as goal

pub loop-slot-preserved : goal.loop-slot-preserved
loop-slot-preserved g c =
    let A = alphabet g.F.Scalar.FiniteField g.F.FiniteField g.F.SymbolField in
    let G = g.F.FiniteField.field in
    let front = take c.self.inside.places c.self.inside.codes in
    let f = polynomial A front in
    let h : ℕ → g.row.F.Denot = λ n. G.neg (at G f n) in
    let i = c.loop-slot.slot-index in
    let items = c.loop-slot.slot-items in
    let inside : i < length items = omega arith in
    write_next A h f items i c.loop-slot.invariant inside c.store.result (omega (arith, length-map front (held_code g.F.FiniteField)))
    (c.store.ensures ∙ c.negative.ensures ∙ ap G.neg (c.load-here.ensures ∙ read_next A h f items i c.loop-slot.invariant inside))

pub returns : goal.returns
returns g c n =
    let A = alphabet g.F.Scalar.FiniteField g.F.FiniteField g.F.SymbolField in
    let G = g.F.FiniteField.field in
    let p = c.self.inside.places in
    let codes = c.self.inside.codes in
    written_places A (λ n. G.neg (at G (polynomial A (take p codes)) n)) codes c.loop-slot.slot-items p c.loop-slot.slot-index (omega arith) (omega (arith, c.self.told, c.self.invariant))
    c.loop-slot.invariant (omega arith) (λ j l. ap G.neg (front_past A codes p j l) ∙ neg_zero G) n
    ∙ ap (λ f. G.neg (at G f n)) c.self.view_is
