-- What values of the code stand for.
--   held   a block's number and its message
-- Assumes nothing.
use Rattle.std.specs.Prelude.{ℕ, List, vec_items}
use Rattle.sending.specs.declared.block.Block.{Block}

abbrev pub held : {S : Type 0} → Block S → ℕ × List S
held b = (b.number, vec_items b.message)
