use Rattle.std.proofs.Common.{◌≡◌, ◌+◌, ◌<◌, ◌^◌, length, Ok, string_bytes, sym, refl, ap, ◌∙◌, inl, arith}
use Rattle.std.specs.Iterator.Adapters.{enumerate_source, enumerate_count}
use Rattle.std.proofs.lemmas.Slice.{pushed}
use Rattle.field.proofs.Members.{alphabet}
use Rattle.portal_log.specs.Views.{left_lines}
use Rattle.sending.specs.Blocks.{printed, blocks_text}
use Rattle.sending.proofs.Sheets.{left_few, printed_more}
use Rattle.sending.proofs.sender.Sender.send_blocks.Goals as goal

pub loop-i-init : goal.loop-i-init
loop-i-init g c =
    let h = c.args.self.now.parameters in
    let it = c.into_iter-i-iterator.result in
    let made = c.into_iter-i-iterator.ensures.into_iter_gives in
    let source = ap enumerate_source made ∙ c.enumerate-i-items.ensures.source in
    let zero : enumerate_count it ≡ 0 = ap enumerate_count made ∙ c.enumerate-i-items.ensures.count in
    let left = left_lines (enumerate_source it) in
    let few : length left < 2 ^ 64 = omega (arith, left_few c.args.lines, ap (λ s. length (left_lines s)) source, c.ranges.lines) in
    let texts = blocks_text (alphabet g.F.Scalar.FiniteField g.F.FiniteField g.F.SymbolField) g.F.LogField.FIELD_NAME h.k h.l in
    ((tt, tt, inl (omega (arith, zero, few))), tt, omega (arith, zero), ap (λ n. printed (string_bytes c.args.text) (texts (n + 2) left)) zero)

pub overflow_add-i : goal.overflow_add-i
overflow_add-i g c =
    let source = ap enumerate_source c.into_iter-i-iterator.ensures.into_iter_gives ∙ c.enumerate-i-items.ensures.source in
    let (gives, i-is, next-is, low) = c.in-Some.ensures.steps in
    omega (arith, i-is, ap length gives.gives, c.loop-i.invariant.2, left_few c.args.lines, ap (λ s. length (left_lines s)) source, c.ranges.lines)

pub loop-i-preserved : goal.loop-i-preserved
loop-i-preserved g c =
    let h = c.args.self.now.parameters in
    let A = alphabet g.F.Scalar.FiniteField g.F.FiniteField g.F.SymbolField in
    let n = enumerate_count c.loop-i.i-iterator + 2 in
    let left = left_lines (enumerate_source c.loop-i.i-iterator) in
    let more = left_lines (enumerate_source c.next.new.self) in
    let text = string_bytes c.loop-i.text in
    let source = ap enumerate_source c.into_iter-i-iterator.ensures.into_iter_gives ∙ c.enumerate-i-items.ensures.source in
    let (gives, i-is, next-is, low) = c.in-Some.ensures.steps in
    let whole : enumerate_count c.next.new.self + length more ≡ length (left_lines (enumerate_source c.into_iter-i-iterator.result)) = omega (arith, next-is, ap length gives.gives, c.loop-i.invariant.2) in
    let few : enumerate_count c.next.new.self + length more < 2 ^ 64 = omega (arith, whole, left_few c.args.lines, ap (λ s. length (left_lines s)) source, c.ranges.lines) in
    let after : enumerate_count c.next.new.self + 2 ≡ n + 1 = omega (arith, next-is) in
    let longer = pushed c.deref.result.now refl c.in_ok-push_str-in-Ok.was c.push_str.ensures.bytes in
    let step = printed_more A g.F.LogField.FIELD_NAME h.k h.l text n left c.in-Some.line.text.now more c.deref.result.now gives.gives (c.in-Ok.ensures ∙ ap Ok (sym c.deref.ensures)) in (
      (tt, tt, inl few),
      tt,
      whole,
      ap (λ i. printed (string_bytes c.push_str.new.self) (blocks_text A g.F.LogField.FIELD_NAME h.k h.l i more)) after
          ∙ ap (λ first. printed first (blocks_text A g.F.LogField.FIELD_NAME h.k h.l (n + 1) more)) longer ∙ step ∙ c.loop-i.invariant.3,
    )
