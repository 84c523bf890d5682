use Rattle.std.proofs.Common.{◌≡◌, ◌^◌, ◌<◌, ◌≤◌, [], ◌∙◌, subst, arith}
use Rattle.field.specs.Alphabet.{Alphabet, Lawful}
use Rattle.field.proofs.Members.{alphabet}
use Rattle.feed.proofs.Nexts.{gives_some, gives_not_some}
use Rattle.collector.specs.Answers.{DrainAnswer}
use Rattle.collector.proofs.Room.{packet_room}
use Rattle.collector.proofs.Draining.{filling_pass, filling_keep, filling_all, filling_end, filling_few}
use Rattle.collector.proofs.session.draining.fill.Given as given
use Rattle.collector.proofs.session.draining.fill.Goals as goal

abbrev A : (g : given.Over) → Alphabet g.row.F-Scalar.Denot g.row.F.Denot
A g = alphabet g.F.Scalar.FiniteField g.F.FiniteField g.F.SymbolField

laws : (g : given.Over) → Lawful (A g)
laws g = record { scalar_codes = g.met.F.Scalar.FiniteField.codes; codes = g.met.F.FiniteField.codes; extension = g.met.F.SymbolField.extension }

pub overflow_add-drained-else-limit-code : goal.overflow_add-drained-else-limit-code
overflow_add-drained-else-limit-code g c =
    let few = filling_few (laws g) c.args.parameters.now.l c.loop-packet.invariant.0 in
    let short = g.D.Feed.short c.args.feed.now in omega arith

pub loop-packet-preserved-then-limit-code : goal.loop-packet-preserved-then-limit-code
loop-packet-preserved-then-limit-code g c =
    let n = c.in-Some.ensures in
    let list = g.D.Feed.list in
    let high : (A g).q ^ c.args.parameters.now.l ≤ (A g).code c.in-Some.packet.x = omega (arith, c.header_limit-limit.ensures, c.code.ensures) in (
      filling_pass (laws g) c.args.parameters.now.l c.in-Some.packet (gives_some (list c.loop-packet.feed) (list c.next.new.self) c.in-Some.packet n.gives) high c.loop-packet.invariant.0,
      n.same ∙ c.loop-packet.invariant.1,
    )

pub add_row-risen-requires-clause-room : goal.add_row-risen-requires-clause-room
add_row-risen-requires-clause-room g c =
    let low : (A g).code c.in-Some.packet.x < (A g).q ^ c.args.parameters.now.l = omega (arith, c.header_limit-limit.ensures, c.code.ensures) in
    packet_room (laws g) c.args.parameters.now.l c.args.parameters.now.within c.loop-packet.invariant.0.window (omega (arith, c.requires.wide, c.loop-packet.auto.window)) low

pub loop-packet-preserved : goal.loop-packet-preserved
loop-packet-preserved g c =
    let n = c.in-Some.ensures in
    let list = g.D.Feed.list in
    let low : (A g).code c.in-Some.packet.x < (A g).q ^ c.args.parameters.now.l = omega (arith, c.header_limit-limit.ensures, c.code.ensures) in (
      filling_keep (laws g) c.args.parameters.now.l c.in-Some.packet c.args.parameters.now.within (gives_some (list c.loop-packet.feed) (list c.next.new.self) c.in-Some.packet n.gives) low
          c.loop-packet.invariant.0 c.add_row-risen.ensures.added,
      n.same ∙ c.loop-packet.invariant.1,
    )

-- the feed is at its end
ended : (g : given.Over) (c : goal.In_default g) → (g.D.Feed.list c.loop-packet.feed ≡ []) × (g.D.Feed.list c.next.new.self ≡ [])
ended g c = gives_not_some (g.D.Feed.list c.loop-packet.feed) (g.D.Feed.list c.next.new.self) c.next.result c.next.ensures.gives c.in_default.not-Some

pub returns-clause-spans : goal.returns-clause-spans
returns-clause-spans g c = filling_end (laws g) c.args.parameters.now.l c.requires.window.0 c.loop-packet.invariant.0 (ended g c).0

pub returns-clause-gives : goal.returns-clause-gives
returns-clause-gives g c =
    let f = c.loop-packet.invariant.0 in
    subst (λ ps. DrainAnswer (A g) c.args.parameters.now.l ps c.loop-packet.drained) (filling_all (laws g) c.args.parameters.now.l f (ended g c).0) f.gives
