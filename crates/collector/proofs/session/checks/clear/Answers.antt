use Rattle.std.proofs.Common.{set, ap, ◌∙◌, arith}
use Rattle.field.proofs.Members.{alphabet}
use Rattle.packet.specs.Packets.{packet_zero}
use Rattle.subspace_code.proofs.Sums.{fill_more}
use Rattle.collector.proofs.session.checks.clear.Goals as goal

pub loop-row-preserved : goal.loop-row-preserved
loop-row-preserved g c =
    let zero = packet_zero (alphabet g.F.Scalar.FiniteField g.F.FiniteField g.F.SymbolField) in
    let i = c.loop-row.row-index in
    ap (λ p. set c.loop-row.rows i p) c.zero-zero.ensures ∙ ap (λ rows. set rows i zero) c.loop-row.invariant ∙ fill_more zero c.args.rows.now i (omega arith)
