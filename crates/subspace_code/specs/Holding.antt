-- How slots hold symbols.
--   held_code    the symbol that a number stands for as a code: zero from the field's size on
-- Assumes nothing.
use Rattle.std.specs.Prelude.{ℕ, cond, nat_lt}
use Rattle.field.specs.declared.FiniteField.{Ghosts as FieldMembers}

abbrev pub held_code : {S : Type 0} → FieldMembers S → ℕ → S
held_code symbols n = cond (nat_lt n symbols.size) (symbols.element n) symbols.field.zero
