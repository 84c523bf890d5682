-- After i turns the value so far and what is left give the whole value, and the value so far is below 16^i.
use Rattle.std.proofs.Common.{◌≡◌, ◌^◌, ◌<◌, drop}
use Rattle.portal_log.specs.Numbers.{hex_from, hex_value}
use Rattle.portal_log.proofs.digits.hex_value.Given as goal

abbrev pub invariant-loop-i : goal.invariant-loop-i
invariant-loop-i l = (l.value < 16 ^ l.i) × (hex_from l.value l.i (drop l.i l.part) ≡ hex_value l.part)
