use Rattle.std.proofs.Common.{replicate, refl, sym, ◌∙◌, subst, arith}
use Rattle.field.specs.Alphabet.{Lawful, symbol_rows}
use Rattle.field.proofs.Members.{alphabet}
use Rattle.collector.specs.Interpolation.{polynomial}
use Rattle.collector.specs.Windows.{Added}
use Rattle.collector.proofs.Measures.{Measuring, measuring_start, measuring_room, measuring_step, measuring_end}
use Rattle.collector.proofs.measuring.measure.Given as given
use Rattle.collector.proofs.measuring.measure.Goals as goal

laws : (g : given.Over) → Lawful (alphabet g.F.Scalar.FiniteField g.F.FiniteField g.F.SymbolField)
laws g = record { scalar_codes = g.met.F.Scalar.FiniteField.codes; codes = g.met.F.FiniteField.codes; extension = g.met.F.SymbolField.extension }

pub loop-packet-init : goal.loop-packet-init
loop-packet-init g c =
    let A = alphabet g.F.Scalar.FiniteField g.F.FiniteField g.F.SymbolField in
    let u = polynomial A c.args.message.now in
    let L = c.args.packets.now in
    (subst (λ z. Measuring A u L 0 0 (replicate 16 z)) (sym (c.new-rows.ensures ∙ c.zero.ensures)) (measuring_start (laws g) u L 16), refl)

pub add_row-dimension-requires : goal.add_row-dimension-requires
add_row-dimension-requires g c =
    let (measuring, long) = c.loop-packet.invariant in
    record { window = measuring.window; room = measuring_room (laws g) _ _ measuring (omega (arith, long, g.met.F.SymbolField.extension.coordinate_limit)) }

pub loop-packet-preserved : goal.loop-packet-preserved
loop-packet-preserved g c =
    let A = alphabet g.F.Scalar.FiniteField g.F.FiniteField g.F.SymbolField in
    let (measuring, long) = c.loop-packet.invariant in
    let sum = c.add_row-dimension in
    let added = subst (λ v. Added g.F.Scalar.FiniteField.field (symbol_rows A) c.loop-packet.dimension v c.loop-packet.rows sum.new.rows sum.result.dimension sum.result.rose) c.residual_row-row.ensures sum.ensures.added in (
      measuring_step (laws g) (polynomial A c.args.message.now) c.args.packets.now c.packet-item.result c.packet-item.is c.loop-packet-test.true measuring added,
      omega (arith, sum.auto.rows),
    )

pub returns : goal.returns
returns g c = measuring_end (laws g) _ c.args.packets.now c.loop-packet-test.false c.loop-packet.invariant.0
