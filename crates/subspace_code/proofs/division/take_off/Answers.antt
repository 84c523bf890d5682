use Rattle.std.proofs.Common.{◌≡◌, ◌+◌, map, set, sym, ap, ◌∙◌, ap₂, arith}
use Rattle.linear.specs.Field.{iterate}
use Rattle.field.specs.Alphabet.{Alphabet}
use Rattle.field.proofs.Members.{alphabet}
use Rattle.linearized.specs.Polynomials.{at}
use Rattle.subspace_code.proofs.Sums.{iterate_more}
use Rattle.subspace_code.proofs.Slots.{at_slot, at_written, at_unwritten}
use Rattle.subspace_code.proofs.Quotients.{taken_more}
use Rattle.subspace_code.proofs.division.take_off.Given as given
use Rattle.subspace_code.proofs.division.take_off.Goals as goal

A : (g : given.Over) → Alphabet g.row.F-Scalar.Denot g.row.F.Denot
A g = alphabet g.F.Scalar.FiniteField g.F.FiniteField g.F.SymbolField

pub loop-i-preserved : goal.loop-i-preserved
unfolding A
loop-i-preserved g c =
    let G = g.F.FiniteField.field in
    let raise = g.F.SymbolField.frobenius in
    let held = g.H.Holding.held in
    let i = c.loop-i.i in
    let p = c.args.p in
    let divisor = c.args.divisor.now in
    let remainder = c.loop-i.remainder in
    let coefficient : at G (map held divisor) i ≡ c.load.result =
    at_slot G held divisor i c.index-divisor-i.result (omega arith) c.index-divisor-i.is ∙ sym c.load.ensures in
    let was : at G (map held remainder) (p + i) ≡ c.load-in-loop-i.result =
    at_slot G held remainder (p + i) c.index-remainder-p.result (omega arith) c.index-remainder-p.is ∙ sym c.load-in-loop-i.ensures in
    let product : c.times-product.result ≡ G.mul (at G (map held divisor) i) (iterate raise i c.args.c) =
    c.times-product.ensures ∙ ap₂ G.mul (sym coefficient) c.loop-i.invariant.0 in
    let here : held c.store.result ≡ G.add (at G (map held remainder) (p + i)) (G.neg (G.mul (at G (map held divisor) i) (iterate raise i c.args.c))) =
    c.store.ensures ∙ c.plus.ensures ∙ ap₂ G.add (sym was) (c.negative.ensures ∙ ap G.neg product) in (
      c.raise-power.ensures ∙ ap raise c.loop-i.invariant.0 ∙ sym (iterate_more raise i c.args.c),
      taken_more (A g) (map held divisor) (map held c.args.remainder.now) c.args.c p (map held remainder)
          (map held (set remainder (p + i) c.store.result)) i c.loop-i.invariant.1 (at_written G held remainder (p + i) c.store.result (omega arith) ∙ here)
          (at_unwritten G held remainder (p + i) c.store.result),
    )
