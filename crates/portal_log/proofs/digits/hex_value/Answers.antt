use Rattle.std.proofs.Common.{ℕ, ◌+◌, ◌^◌, ◌<◌, ◌≤◌, arith, Fits-lit}
use native.Mathlib.Nat.{pow-le-pow_right}
use mir.Facts.{Fits-lt}
use Rattle.portal_log.proofs.digits.hex_value.Goals as goal

-- seven digits at most
limit : (i : ℕ) → i < 7 → 16 ^ i ≤ 16 ^ 6
limit i h = let few : i ≤ 6 = omega arith in let some : 0 < 16 = omega arith in pow-le-pow_right some few

pub overflow_mul-value : goal.overflow_mul-value
overflow_mul-value c = Fits-lt {n = 16 ^ 7} (omega (arith, c.loop-i.invariant.0, limit c.loop-i.i (omega arith))) (Fits-lit tt)

pub overflow_add-value : goal.overflow_add-value
overflow_add-value c = Fits-lt {n = 16 ^ 7 + 256} (omega (arith, c.loop-i.invariant.0, limit c.loop-i.i (omega arith))) (Fits-lit tt)
