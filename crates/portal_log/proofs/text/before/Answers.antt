use Rattle.std.proofs.Common.{◌≡◌, ◌≢◌, sym, refl, ◌∙◌, rules}
use borrow.Author.Tests.{tests}
use Rattle.std.proofs.lemmas.Iterator.{YieldsList-from_slice, IsFirst-from_position, index_from_first}
use Rattle.portal_log.specs.Text.{before}
use Rattle.portal_log.proofs.Cuts.{before_here, before_more}
use Rattle.portal_log.proofs.text.before.Goals as goal

pub returns-clause-value : goal.returns-clause-value
returns-clause-value c =
    let stop = c.args.stop in
    let first = IsFirst-from_position _ _ _ (λ x. x ≡ stop) (λ x. x ≢ stop) c.position.ensures.ran (YieldsList-from_slice c.args.bytes.now (cc)) (λ x q k. search (rules, tests)) (λ x q k. search (rules, tests)) in
    c.unwrap_or.ensures ∙ sym (index_from_first (before stop) (λ x. x ≡ stop) (λ x. x ≢ stop) refl (before_here stop) (before_more stop) c.args.bytes.now c.position.result first)
