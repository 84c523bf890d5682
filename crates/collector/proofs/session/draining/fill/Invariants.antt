-- The window is on what was there and on the kept packets drawn so far; no packet is lost between the feed and the counts.
use Rattle.std.proofs.Common.{◌≡◌, length}
use Rattle.field.proofs.Members.{alphabet}
use Rattle.collector.proofs.Draining.{Filling}
use Rattle.collector.proofs.session.draining.fill.Given as goal

abbrev pub invariant-loop-packet : goal.invariant-loop-packet
invariant-loop-packet g l =
    Filling (alphabet g.F.Scalar.FiniteField g.F.FiniteField g.F.SymbolField) l.parameters.l l.initial.window (g.D.Feed.list l.initial.feed) (g.D.Feed.list l.feed) l.window l.risen l.drained
    × (g.D.Feed.lenders l.feed ≡ g.D.Feed.lenders l.initial.feed)

abbrev pub decreases-loop-packet : goal.decreases-loop-packet
decreases-loop-packet g l = length (g.D.Feed.list l.feed)
