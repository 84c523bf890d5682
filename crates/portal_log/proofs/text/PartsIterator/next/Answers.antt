use Rattle.std.proofs.Common.{◌∷◌, length, sym, ap, ◌∙◌, arith, rules}
use Rattle.std.proofs.iter.Next.{firm}
use Rattle.portal_log.specs.Views.{parts_of}
use Rattle.portal_log.proofs.Cuts.{parts_first}
use Rattle.portal_log.proofs.text.PartsIterator.next.Goals as goal

pub returns : goal.returns
returns c =
    let text = c.in_ok-rest.rest.now in
    let end = c.before-2.result in
    let o = c.get-self.result in
    let cut = parts_first text end o c.before-2.ensures.value c.split_at.result.1.now c.split_at.ensures.back c.get-self.ensures.lookup in
    let steps = ap parts_of c.in_ok-rest.was ∙ cut ∙ ap (λ p. p ∷ parts_of o) (sym c.split_at.ensures.front) in
    record { steps = steps; goes = firm (tt, tt, omega (arith, ap length steps)) (λ h. search rules) }
