-- The symbols so far and those of the codes that are left are the whole message.
use Rattle.std.proofs.Common.{◌≡◌, vec_items}
use Rattle.field.proofs.Members.{alphabet}
use Rattle.sending.specs.Blocks.{message_of}
use Rattle.portal_log.specs.Views.{left_parts}
use Rattle.sending.proofs.Answered.{after}
use Rattle.sending.proofs.block.read_message.Given as goal

abbrev pub invariant-loop-code : goal.invariant-loop-code
invariant-loop-code g l =
    let whole = message_of (alphabet g.F.Scalar.FiniteField g.F.FiniteField g.F.SymbolField) g.F.LogField.FIELD_NAME in
    (goal.iterator-loop-code g).can_next l.code-iterator × (goal.iterator-loop-code g).is_finite l.code-iterator
    × (after (vec_items l.message) (whole (left_parts l.code-iterator)) ≡ whole (left_parts l.initial.code-iterator))
