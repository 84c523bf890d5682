-- Assumes nothing.
use Rattle.std.proofs.Common.{◌≡◌, ℕ, ◌*◌, ◌/◌, ◌^◌, [], length, get_or, refl, ap, ◌∙◌, ap₂, arith}
use lib.Bits.{bit_xor, and_mask}
use Rattle.binary.specs.Codes.{sum, digit}
use Rattle.binary.proofs.Sums.{sum_step}
use Rattle.field.specs.Images.{image_sum}
use Rattle.field.proofs.images.image.Goals as goal

pub loop-i-init : goal.loop-i-init
unfolding sum
loop-i-init c = refl

pub loop-i-preserved : goal.loop-i-preserved
unfolding digit
loop-i-preserved c =
    ap₂ bit_xor c.loop-i.invariant
    (ap (λ (d : ℕ). get_or (get_or c.args.images.now c.loop-i.i []) d 0) (and_mask (c.args.a / 2 ^ (2 * c.loop-i.i)) 2))
    ∙ sum_step c.loop-i.i (λ i. get_or (get_or c.args.images.now i []) (digit 2 i c.args.a) 0)

pub returns : goal.returns
unfolding image_sum
returns c =
    let all : c.loop-i.i ≡ length c.args.images.now = omega arith in
    c.loop-i.invariant ∙ ap (λ (k : ℕ). sum k (λ i. get_or (get_or c.args.images.now i []) (digit 2 i c.args.a) 0)) all
