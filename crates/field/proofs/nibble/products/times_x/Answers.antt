-- Assumes nothing.
use Rattle.std.proofs.Common.{◌≡◌, ℕ, ◌*◌, ◌/◌, ◌%◌, ◌^◌, ◌<◌, arith}
use lib.Bits.{bit_xor, bit_and}
use Rattle.binary.specs.Products.{scale_x}
use Rattle.binary.proofs.Maps.{Additive, id_additive, xor_additive, mask_additive, shl_additive, shr_additive, mod_additive, additive_adds, agree}
use Rattle.binary.proofs.Nibbles.{scale_x_linear}
use Rattle.binary.proofs.Tests.{computed, computing}
use Rattle.field.proofs.nibble.products.times_x.Goals as goal

shifted : ℕ → ℕ
shifted b = bit_xor (bit_xor (bit_and b 0x7777777 * 2 % 2 ^ 32) (bit_and (b / 2 ^ 3) 0x1111111 * 2 % 2 ^ 32)) (bit_and (b / 2 ^ 3) 0x1111111)

shifted_additive : Additive shifted
unfolding shifted
shifted_additive =
    xor_additive (xor_additive (mod_additive 32 (shl_additive 1 (mask_additive 0x7777777 id_additive))) (mod_additive 32 (shl_additive 1 (mask_additive 0x1111111 (shr_additive 3 id_additive)))))
    (mask_additive 0x1111111 (shr_additive 3 id_additive))

-- both are linear, and agree at each bit
shifted_is : (b : ℕ) → b < 2 ^ 28 → shifted b ≡ scale_x b
unfolding shifted computing
shifted_is = agree 28 shifted scale_x (additive_adds shifted_additive 28) scale_x_linear.adds (computed _ _ 28 tt)

pub invariant_of-result : goal.invariant_of-result
unfolding shifted
invariant_of-result c = record { ok = omega (arith, shifted_is c.args.b.code c.args.b.ok, scale_x_linear.stays c.args.b.code c.args.b.ok) }

pub returns : goal.returns
unfolding shifted
returns c = shifted_is c.args.b.code c.args.b.ok
