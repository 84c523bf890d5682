use Rattle.std.proofs.Common.{ℕ, ◌<◌, get_or, arith, below_more}
use Rattle.linear.specs.Reduced.{Leads}
use Rattle.collector.proofs.LeadingPlaces.{first_at, leads_at, from_place, from_step, from_later}
use Rattle.collector.proofs.adding.slot.Goals as goal

pub loop-k-preserved : goal.loop-k-preserved
loop-k-preserved g c =
    let F = g.R.Scalar.FiniteField.field in
    let R = g.R.Row.rows in
    let L = c.args.rows.now in
    let k = c.loop-k.k in
    let inside = c.loop-k-test.true in
    let first = first_at F R L k c.index-rows-k.result inside c.index-rows-k.is c.leading-q.ensures in
    let P : ℕ → Type 0 = λ j. (q : ℕ) → Leads F R (get_or L j R.none) q → q < c.args.p in (
      from_step F R c.requires c.loop-k.invariant.0 inside first,
      below_more P k c.loop-k.invariant.1 (λ q ld. omega (arith, leads_at F R c.requires inside ld, from_place F R c.requires c.loop-k.invariant.0 inside first)),
    )

pub returns-then-p-q : goal.returns-then-p-q
returns-then-p-q g c =
    let F = g.R.Scalar.FiniteField.field in
    let R = g.R.Row.rows in
    let inside = c.loop-k-test.true in
    let first = first_at F R c.args.rows.now c.loop-k.k c.index-rows-k.result inside c.index-rows-k.is c.leading-q.ensures in
    record {
      within = omega arith;
      before = λ j q h ld. c.loop-k.invariant.1 j h q ld;
      after = λ j q h l ld. omega (arith, from_later F R c.requires c.loop-k.invariant.0 inside first j q h l ld);
    }
