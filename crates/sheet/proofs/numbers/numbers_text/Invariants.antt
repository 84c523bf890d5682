-- The numbers below the next one are done.
use Rattle.std.proofs.Common.{string_bytes}
use Rattle.field.proofs.Members.{alphabet}
use Rattle.sheet.proofs.Progress.{Progress}
use Rattle.sheet.proofs.numbers.numbers_text.Given as goal

abbrev pub invariant-loop-number : goal.invariant-loop-number
invariant-loop-number g l =
    Progress (alphabet g.F.Scalar.FiniteField g.F.FiniteField g.F.SymbolField) g.F.LogField.FIELD_NAME l.initial.session.k l.initial.session.l l.log.bytes.now l.number (record { session = l.session; rows = l.rows })
    (string_bytes l.text) l.taken l.passed
