use Rattle.std.proofs.Common.{length, sym, ap, subst, arith, rules}
use borrow.Author.Tests.{tests}
use Rattle.field.proofs.Members.{alphabet}
use Rattle.feed.specs.Feeds.{Next}
use Rattle.portal_log.specs.Readers.{left_entries}
use Rattle.log_feed.specs.Numbered.{with_number, numbered, fed}
use Rattle.log_feed.proofs.Finds.{found, first_found}
use Rattle.log_feed.proofs.Within.{fed_within}
use Rattle.log_feed.proofs.LogFeedFeed.next.Goals as goal

pub invariant_of-self : goal.invariant_of-self
invariant_of-self g c =
    let A = alphabet g.F.Scalar.FiniteField g.F.FiniteField g.F.SymbolField in
    let feed = c.self.inside in
    let same = (found A g.F.LogField.FIELD_NAME _ (with_number A g.F.LogField.FIELD_NAME feed.number) _ (λ x r q k. search (rules, tests)) feed.reader c.find_map.new.self c.find_map.result c.find_map.ensures.ran).0 in
    omega (arith, ap length same, c.self.invariant)

pub returns-clause-gives : goal.returns-clause-gives
returns-clause-gives g c =
    let A = alphabet g.F.Scalar.FiniteField g.F.FiniteField g.F.SymbolField in
    let name = g.F.LogField.FIELD_NAME in
    let feed = c.self.inside in
    let left = c.find_map.new.self in
    let same = (found A name _ (with_number A name feed.number) _ (λ x r q k. search (rules, tests)) feed.reader left c.find_map.result c.find_map.ensures.ran).0 in
    let given = first_found A name _ (with_number A name feed.number) _ (λ x r q k. search (rules, tests)) feed.reader left c.find_map.result c.find_map.ensures.ran c.find_map.ensures.runs in
    let before = fed_within A name feed.number feed.reader c.self.invariant in
    let after = fed_within A name feed.number left (omega (arith, ap length same, c.self.invariant)) in
    rw (← c.self.view_is)
    (subst (λ ps. Next ps c.find_map.result (fed A name feed.number left)) (sym before) (subst (Next (numbered A name feed.number (left_entries A name feed.reader)) c.find_map.result) (sym after) given))
