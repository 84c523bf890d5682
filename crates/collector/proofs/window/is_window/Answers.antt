use Rattle.std.proofs.Common.{◌<◌, sym, ◌∙◌, subst}
use borrow.Author.Tests.{both_ways}
use Rattle.linear.specs.Span.{Each}
use Rattle.field.proofs.Members.{alphabet}
use Rattle.packet.specs.Packets.{packet_rows}
use Rattle.collector.proofs.Windows.{window_made, window_parts}
use Rattle.collector.proofs.window.is_window.Goals as goal
use Rattle.collector.proofs.window.is_window.Goals.{then-is_reduced, else-is_reduced}

pub returns-then-all_zero : goal.returns-then-all_zero
returns-then-all_zero g c =
    let A = alphabet g.F.Scalar.FiniteField g.F.FiniteField g.F.SymbolField in
    let L = c.args.packets.now in
    let limit = c.header_limit.ensures in
    elim c.if-is_reduced.branch [
      | then-is_reduced w ↦ (
        λ t. (
          window_made A.scalars (packet_rows A) c.args.dim L _ _ c.in-Some.ensures.cases (c.is_reduced.ensures.0 w.if-is_reduced.true)
              (w.all_zero.ensures.0 (sym w.value-is ∙ c.if-all_zero.true)),
          subst (λ n. Each (λ p. A.code p.x < n) L) limit (c.headers_below.ensures.0 t),
        ),
        λ (x, h). c.headers_below.ensures.1 (subst (λ n. Each (λ p. A.code p.x < n) L) (sym limit) h),
      )
      | else-is_reduced w ↦ absurd (both_ways _ w.if-is_reduced.false (sym w.value-is ∙ c.if-all_zero.true))
    ]

pub returns-else-all_zero : goal.returns-else-all_zero
returns-else-all_zero g c =
    let A = alphabet g.F.Scalar.FiniteField g.F.FiniteField g.F.SymbolField in
    let L = c.args.packets.now in (
      λ t. absurd (both_ways _ c.if-all_zero.false t),
      λ (x, h).
          let parts = window_parts A.scalars (packet_rows A) c.args.dim L _ _ c.in-Some.ensures.cases x in
          elim c.if-is_reduced.branch [
            | then-is_reduced w ↦ w.value-is ∙ w.all_zero.ensures.1 parts.1
            | else-is_reduced w ↦ absurd (both_ways _ w.if-is_reduced.false (c.is_reduced.ensures.1 parts.0))
          ],
    )
