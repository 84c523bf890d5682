use Rattle.std.proofs.Common.{get_or, set, sym, ap, ◌∙◌, arith}
use Rattle.std.proofs.lemmas.List.Edits.{map_over_more}
use Rattle.linear.specs.Rows.{minus, cleared}
use Rattle.collector.proofs.adding.clear.Goals as goal

pub loop-row-preserved : goal.loop-row-preserved
loop-row-preserved g c =
    let F = g.R.Scalar.FiniteField.field in
    let R = g.R.Row.rows in
    let rows = c.loop-row.rows in
    let i = c.loop-row.row-index in
    let row = c.row-item.result in
    let f = cleared F R c.args.unit c.args.p in
    let here = get_or rows i row in
    ap (set rows i) (c.less.ensures ∙ ap (λ s. minus F R here s c.args.unit) c.coordinate.ensures ∙ ap f (sym c.row-item.is))
    ∙ map_over_more f c.args.rows.now rows i row (omega arith) c.loop-row.invariant c.row-item.is
