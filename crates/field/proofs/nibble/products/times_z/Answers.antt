-- Assumes nothing.
use Rattle.std.proofs.Common.{◌≡◌, ℕ, ◌*◌, ◌/◌, ◌%◌, ◌^◌, ◌<◌, arith}
use lib.Bits.{bit_xor, bit_and}
use Rattle.binary.specs.Products.{times_z}
use Rattle.binary.proofs.Maps.{Additive, id_additive, xor_additive, mask_additive, shl_additive, shr_additive, mod_additive, additive_adds, agree}
use Rattle.binary.proofs.Nibbles.{times_z_linear}
use Rattle.binary.proofs.Tests.{computed, computing}
use Rattle.field.proofs.nibble.products.times_z.Goals as goal

shifted : ℕ → ℕ
shifted b = bit_xor (bit_xor (bit_and b 0xffffff * 2 ^ 4 % 2 ^ 32) (b / 2 ^ 24 * 2 ^ 4 % 2 ^ 32)) (b / 2 ^ 24)

shifted_additive : Additive shifted
unfolding shifted
shifted_additive =
    xor_additive (xor_additive (mod_additive 32 (shl_additive 4 (mask_additive 0xffffff id_additive))) (mod_additive 32 (shl_additive 4 (shr_additive 24 id_additive))))
    (shr_additive 24 id_additive)

-- both are linear, and agree at each bit
shifted_is : (b : ℕ) → b < 2 ^ 28 → shifted b ≡ times_z b
unfolding shifted computing
shifted_is = agree 28 shifted times_z (additive_adds shifted_additive 28) times_z_linear.adds (computed _ _ 28 tt)

pub invariant_of-result : goal.invariant_of-result
unfolding shifted
invariant_of-result c = record { ok = omega (arith, shifted_is c.args.b.code c.args.b.ok, times_z_linear.stays c.args.b.code c.args.b.ok) }

pub returns : goal.returns
unfolding shifted
returns c = shifted_is c.args.b.code c.args.b.ok
