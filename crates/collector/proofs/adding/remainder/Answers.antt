use Rattle.std.proofs.Common.{◌+◌, sym, ap, ◌∙◌, subst, arith}
use Rattle.std.proofs.lemmas.List.{get_or_read}
use Rattle.linear.specs.Rows.{minus}
use Rattle.collector.proofs.LeadingPlaces.{first_at, from_start, from_inside, from_step}
use Rattle.collector.proofs.Remainders.{Remaining, remaining_start, remaining_step, remaining_end}
use Rattle.collector.proofs.adding.remainder.Goals as goal

pub loop-pivot-init : goal.loop-pivot-init
loop-pivot-init g c =
    (from_start g.R.Scalar.FiniteField.field g.R.Row.rows c.args.rows.now, remaining_start g.met.R.Row.laws c.args.rows.now c.args.row)

pub overflow_add-from : goal.overflow_add-from
overflow_add-from g c =
    let F = g.R.Scalar.FiniteField.field in
    let R = g.R.Row.rows in
    let first = first_at F R c.args.rows.now c.loop-pivot.pivot-index c.pivot-item.result c.loop-pivot-test.true c.pivot-item.is c.leading-p.ensures in
    omega (arith, from_inside F R c.requires c.loop-pivot.invariant.0 c.loop-pivot-test.true first, g.met.R.Row.narrow)

pub loop-pivot-preserved : goal.loop-pivot-preserved
loop-pivot-preserved g c =
    let F = g.R.Scalar.FiniteField.field in
    let R = g.R.Row.rows in
    let L = c.args.rows.now in
    let k = c.loop-pivot.pivot-index in
    let rest = c.loop-pivot.rest in
    let inside = c.loop-pivot-test.true in
    let read = get_or_read L k c.pivot-item.result inside c.pivot-item.is R.none in
    let first = first_at F R L k c.pivot-item.result inside c.pivot-item.is c.leading-p.ensures in
    let is = c.less-rest.ensures ∙ ap (λ s. minus F R rest s c.pivot-item.result) c.coordinate.ensures ∙ ap (minus F R rest (R.coord rest c.leading-p.result)) read in (
      from_step F R c.requires c.loop-pivot.invariant.0 inside first,
      subst (λ v. Remaining F R L c.args.row v (k + 1)) (sym is) (remaining_step g.met.R.Row.laws c.requires c.loop-pivot.invariant.1 c.loop-pivot.invariant.0 inside first),
    )

pub returns : goal.returns
returns g c = remaining_end g.met.R.Row.laws c.loop-pivot-test.false c.loop-pivot.invariant.1
