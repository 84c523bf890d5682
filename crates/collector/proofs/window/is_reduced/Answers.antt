use Rattle.std.proofs.Common.{sym, refl, ap, ◌∙◌, subst, arith}
use borrow.Author.Tests.{both_ways, clash}
use Rattle.std.proofs.lemmas.List.{get_or_read}
use Rattle.linear.specs.Reduced.{Leads}
use Rattle.collector.proofs.LeadingPlaces.{first_at}
use Rattle.collector.proofs.Checks.{checked_start, one_leads, checked_step, checked_end, passes}
use Rattle.collector.proofs.window.is_reduced.Goals as goal
use Rattle.collector.proofs.window.is_reduced.Goals.{then-p-from-via-then-p-from, then-p-from-via-else-p-from+then-not-is_one, then-p-from-via-else-p-from+else-not-is_one+then-not-zero_at}

pub loop-k-init : goal.loop-k-init
loop-k-init g c = checked_start g.met.R.Row.laws c.args.rows.now

pub returns-then-p-from : goal.returns-then-p-from
returns-then-p-from g c =
    let F = g.R.Scalar.FiniteField.field in
    let R = g.R.Row.rows in
    let L = c.args.rows.now in
    let p = c.leading-p.result in
    let inside = c.loop-k-test.true in
    let read = get_or_read L c.loop-k.k c.index-rows-k.result inside c.index-rows-k.is R.none in (
      λ e. absurd (clash e),
      λ red.
          let w = passes g.met.R.Row.laws L c.loop-k.invariant inside (first_at F R L c.loop-k.k c.index-rows-k.result inside c.index-rows-k.is c.leading-p.ensures) red in
          let no_way : ⊥ = elim c.then-p-from.branch [
            | then-p-from-via-then-p-from x ↦ omega (arith, w.low, x.if-p-from.true)
            | then-p-from-via-else-p-from+then-not-is_one x ↦ both_ways _ x.if-not-is_one.true (x.is_one.ensures.1 (x.coordinate.ensures ∙ ap (λ v. R.coord v p) read ∙ w.one))
            | then-p-from-via-else-p-from+else-not-is_one+then-not-zero_at x ↦ both_ways _ x.if-not-zero_at.true (x.zero_at.ensures.1 w.zeros)
          ] in absurd no_way,
    )

pub overflow_add-from : goal.overflow_add-from
overflow_add-from g c =
    let one = sym c.coordinate.ensures ∙ c.is_one.ensures.0 c.if-not-is_one.false in
    let lead = one_leads g.met.R.Row.laws c.args.rows.now c.leading-p.ensures one in
    omega (arith, lead.0, g.met.R.Row.narrow)

pub loop-k-preserved : goal.loop-k-preserved
loop-k-preserved g c =
    let F = g.R.Scalar.FiniteField.field in
    let R = g.R.Row.rows in
    let laws = g.met.R.Row.laws in
    let L = c.args.rows.now in
    let inside = c.loop-k-test.true in
    let read = get_or_read L c.loop-k.k c.index-rows-k.result inside c.index-rows-k.is R.none in
    let one = sym c.coordinate.ensures ∙ c.is_one.ensures.0 c.if-not-is_one.false in
    let lead = subst (λ v. Leads F R v c.leading-p.result) read (one_leads laws L c.leading-p.ensures one) in
    checked_step laws L c.loop-k.invariant inside c.if-p-from.false lead (c.zero_at.ensures.0 c.if-not-zero_at.false)

pub returns : goal.returns
returns g c = (λ t. checked_end g.met.R.Row.laws c.args.rows.now c.loop-k-test.false c.loop-k.invariant, λ red. refl)
