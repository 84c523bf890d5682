-- The text has the symbols so far.
use Rattle.std.proofs.Common.{◌≡◌, ℕ, List, ◌∷◌, ◌++◌, take, string_bytes}
use Rattle.std.specs.List.{flat_map}
use Rattle.portal_log.specs.Text.{comma}
use Rattle.portal_log.specs.Numbers.{hex}
use Rattle.portal_log.specs.Names.{digits}
use Rattle.sheet.proofs.writing.write_solved.Given as goal

abbrev pub part : (g : goal.Over) → g.row.F.Denot → List ℕ
part g x = comma ∷ hex (digits g.F.LogField.FIELD_NAME) (g.F.FiniteField.code x)

abbrev pub invariant-loop-symbol : goal.invariant-loop-symbol
invariant-loop-symbol g l = string_bytes l.text ≡ string_bytes l.initial.text ++ flat_map (part g) (take l.symbol-index l.message)
