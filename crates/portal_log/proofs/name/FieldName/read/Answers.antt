use Rattle.std.proofs.Common.{codes, sym, ap, arith, ltb-false, ltb-true, rules}
use Rattle.std.proofs.lemmas.Slice.Eq.{text_from_reads}
use Rattle.portal_log.specs.Names.{named}
use Rattle.portal_log.proofs.name.FieldName.read.Goals as goal

pub returns-in-nibble : goal.returns-in-nibble
returns-in-nibble c =
    let text_is = text_from_reads c.args.text.now (codes "nibble") (omega (arith, ltb-true, ltb-false)) (search rules) in
    sym (ap named text_is)
