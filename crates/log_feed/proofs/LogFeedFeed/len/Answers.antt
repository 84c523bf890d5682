use Rattle.std.proofs.Common.{length, drop, inl, sym, ap, ◌∙◌, arith, length-drop, rules}
use borrow.Author.Tests.{tests}
use Rattle.std.proofs.lemmas.Iterator.Consumers.{YieldsList-from_filter_map, YieldsList-at, count_from_yields_List}
use Rattle.field.proofs.Members.{alphabet}
use Rattle.portal_log.specs.Views.{left_lines}
use Rattle.portal_log.proofs.Cuts.{length_lines}
use Rattle.portal_log.proofs.Readers.{entries_yielded}
use Rattle.log_feed.specs.Numbered.{with_number}
use Rattle.log_feed.proofs.Within.{fed_within}
use Rattle.log_feed.proofs.LogFeedFeed.len.Goals as goal

-- no more lines than bytes
pub count-requires-clause-fits : goal.count-requires-clause-fits
count-requires-clause-fits g c =
    let lines = c.self.inside.reader.lines in
    let rest = drop lines.place lines.text.now in
    inl (omega (arith, ap (λ r. length (left_lines r.lines)) c.filter_map.ensures.source, length_lines rest, length-drop lines.place lines.text.now, c.self.invariant))

pub returns : goal.returns
returns g c =
    let A = alphabet g.F.Scalar.FiniteField g.F.FiniteField g.F.SymbolField in
    let name = g.F.LogField.FIELD_NAME in
    let feed = c.self.inside in
    rw (← c.self.view_is) (count_from_yields_List c.filter_map.result c.count.result c.count.ensures.ran
    (YieldsList-from_filter_map _ (with_number A name feed.number) (YieldsList-at c.filter_map.ensures.source (entries_yielded A name feed.reader)) c.filter_map.ensures.closure (λ x r q k. search (rules, tests)))
    ∙ sym (ap length (fed_within A name feed.number feed.reader c.self.invariant)))
