-- The first k rows lead before p, and the later ones from `from` on.
use Rattle.std.proofs.Common.{ℕ, ◌<◌, get_or}
use Rattle.linear.specs.Reduced.{Leads}
use Rattle.collector.proofs.LeadingPlaces.{From}
use Rattle.collector.proofs.adding.slot.Given as goal

abbrev pub invariant-loop-k : goal.invariant-loop-k
invariant-loop-k g l =
    let F = g.R.Scalar.FiniteField.field in
    let R = g.R.Row.rows in
    From F R l.rows l.k l.from × ((j : ℕ) → j < l.k → (q : ℕ) → Leads F R (get_or l.rows j R.none) q → q < l.p)
