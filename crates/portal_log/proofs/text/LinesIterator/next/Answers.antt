use Rattle.std.proofs.Common.{◌≡◌, ℕ, ◌+◌, ◌<◌, ◌≤◌, List, ◌∷◌, length, take, drop, sym, refl, ap, ◌∙◌, subst, arith, rules}
use Rattle.std.proofs.lemmas.List.{take_rest}
use Rattle.std.proofs.iter.Next.{firm}
use Rattle.portal_log.specs.Text.{before, lines}
use Rattle.portal_log.specs.Places.{placed, Stands}
use Rattle.portal_log.proofs.Places.{line_cut, placed_cut, line_stands}
use Rattle.portal_log.proofs.text.LinesIterator.next.Goals as goal

pub returns : goal.returns
returns c =
    let place = c.args.self.now.place in
    let text = c.args.self.now.text.now in
    let end = c.before-2.result in
    let after = length c.split_at.result.0.now + c.min.result in
    let rest = take_rest text place in
    let is = c.before-2.ensures.value ∙ ap (before 10) rest in
    let more : end < length (drop place text) → after ≡ end + 1 = λ lt. omega (arith, ap length rest, c.split_at.ensures.front_len, c.split_at.ensures.back_len, c.min.ensures) in
    let none : length (drop place text) ≤ end → after ≡ end = λ le. omega (arith, ap length rest, c.split_at.ensures.front_len, c.split_at.ensures.back_len, c.min.ensures) in
    let front : c.split_at.result.0.now ≡ take end (drop place text) = c.split_at.ensures.front ∙ ap (take end) rest in
    let gives = line_cut text place end after c.if-place-self.false is more none ∙ ap (λ f. f ∷ lines (drop (place + after) text)) (sym front) in
    record {
      steps = record {
        gives = gives;
        places = placed_cut text place end after c.if-place-self.false is more none
            ∙ ap (λ f. record { place = place; text = f } ∷ placed (place + after) (lines (drop (place + after) text))) (sym front);
        stands = subst (λ (f : List ℕ). Stands text (record { place = place; text = f })) (sym front) (line_stands text place end after c.if-place-self.false is more none);
        same = refl;
        fits = omega arith;
      };
      goes = firm (tt, tt, omega (arith, ap length gives)) (λ h. search rules);
    }
