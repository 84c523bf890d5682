use Rattle.std.proofs.Common.{◌≡◌, ◌<◌, ◌≤◌, ◌++◌, length, drop, sym, ap, ◌∙◌, arith, rules}
use Rattle.std.proofs.lemmas.List.{length-take-le}
use Rattle.linear.specs.Rows.{cleared}
use Rattle.linear.proofs.Fields.{reciprocal_none}
use Rattle.collector.proofs.Inserting.{inserted_front}
use Rattle.collector.proofs.Outcomes.{added_none, added_placed, window_outside, first_none, first_inverse}
use Rattle.collector.proofs.adding.add_row.Goals as goal

pub returns-in_default : goal.returns-in_default
returns-in_default g c =
    let F = g.R.Scalar.FiniteField.field in
    let zero : g.R.Row.rows.coord c.remainder-rest.result c.leading-p.result ≡ F.zero =
    sym c.coordinate.ensures ∙ reciprocal_none F c.coordinate.result (sym c.inverse.ensures ∙ c.in_default.is) in
    record { added = added_none g.met.R.Row.laws c.requires.window c.remainder-rest.ensures (first_none g.met.R.Row.laws c.leading-p.ensures zero) }

pub insert-requires : goal.insert-requires
insert-requires g c =
    let laws = g.met.R.Row.laws in
    let L = c.args.rows.now in
    let first = first_inverse laws c.leading-p.ensures c.coordinate.ensures (sym c.inverse.ensures ∙ c.in-Some.is) in
    let room : c.args.dim < length L = c.requires.room (window_outside laws c.requires.window c.remainder-rest.ensures first) in
    let low : c.slot-at.result ≤ c.args.dim = omega (arith, c.slot-at.ensures.within, length-take-le c.args.dim L c.requires.window.within) in
    search rules

pub returns : goal.returns
returns g c =
    let laws = g.met.R.Row.laws in
    let L = c.args.rows.now in
    let d = c.args.dim in
    let i = c.slot-at.result in
    let u = c.scaled-unit.result in
    let chosen = sym c.inverse.ensures ∙ c.in-Some.is in
    let first = first_inverse laws c.leading-p.ensures c.coordinate.ensures chosen in
    let room = c.requires.room (window_outside laws c.requires.window c.remainder-rest.ensures first) in
    let low : i ≤ d = omega (arith, c.slot-at.ensures.within, length-take-le d L c.requires.window.within) in
    let put = inserted_front (cleared g.R.Scalar.FiniteField.field g.R.Row.rows u c.leading-p.result) L (c.clear.new.rows ++ drop i L) i d u low room (ap (λ M. M ++ drop i L) c.clear.ensures) in
    record {
      added = added_placed laws c.requires.window c.remainder-rest.ensures c.leading-p.ensures c.coordinate.ensures chosen c.scaled-unit.ensures c.slot-at.ensures
          c.requires.room (c.insert.ensures ∙ put);
    }
