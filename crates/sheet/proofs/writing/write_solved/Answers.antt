use Rattle.std.proofs.Common.{decimal, ◌∙◌, append_assoc}
use Rattle.std.proofs.lemmas.Result.{on_ok_weaker}
use Rattle.std.proofs.lemmas.List.{take_all}
use Rattle.portal_log.specs.Numbers.{hex}
use Rattle.portal_log.specs.Names.{digits}
use Rattle.sheet.proofs.Lines.{line_map}
use Rattle.sheet.proofs.writing.write_solved.Goals as goal

pub returns : goal.returns
returns g c =
    let message = c.args.message.now in
    let e = line_map (λ x. hex (digits g.F.LogField.FIELD_NAME) (g.F.FiniteField.code x)) (decimal c.args.solved.faults) message in
    let all = take_all c.loop-symbol.symbol-index message c.loop-symbol-test.false in
    on_ok_weaker c.writeln.result (λ w. w ∙ simp (c.loop-symbol.invariant, all, c.in_ok-write.ensures.bytes, e, append_assoc)) c.writeln.ensures.bytes
