-- Assumes nothing.
use Rattle.std.proofs.Common.{◌≡◌, ℕ, ◌^◌, ◌<◌, sym, refl, ap, ◌∙◌, subst, ap₂, arith}
use lib.Bits.{bit_xor}
use Rattle.linear.specs.Field.{iterate}
use Rattle.binary.specs.Codes.{product, times_x}
use Rattle.binary.specs.Products.{modulo}
use Rattle.binary.proofs.Polynomials.{polynomial_ring}
use Rattle.binary.proofs.Steps.{iterate_step, product_none, product_taken, product_left}
use Rattle.field.proofs.polynomials.product.Goals as goal
use Rattle.field.proofs.polynomials.product.Goals.{then-a-i-eq1, else-a-i-eq1}

pub loop-i-init : goal.loop-i-init
loop-i-init c = (c.requires.codes.2, refl, product_none (iterate (times_x c.args.n c.args.tail)) c.args.a c.args.b)

pub loop-i-preserved : goal.loop-i-preserved
loop-i-preserved c =
    let f : ℕ → ℕ = times_x c.args.n c.args.tail in (
      c.times_x-power.ensures.within,
      c.times_x-power.ensures.value ∙ ap f c.loop-i.invariant.1 ∙ iterate_step f c.loop-i.i c.args.b,
      elim c.if-a-i-eq1.branch [
        | then-a-i-eq1 w ↦ w.sum-is ∙ ap₂ bit_xor c.loop-i.invariant.2 c.loop-i.invariant.1 ∙ product_taken (iterate f) c.args.a c.args.b c.loop-i.i w.if-a-i-eq1.true
        | else-a-i-eq1 w ↦ w.sum-is ∙ c.loop-i.invariant.2 ∙ product_left (iterate f) c.args.a c.args.b c.loop-i.i w.if-a-i-eq1.false
      ],
    )

pub returns : goal.returns
unfolding modulo
returns c =
    let all : c.loop-i.i ≡ c.args.n = omega arith in
    let e : c.loop-i.sum ≡ modulo c.args.n c.args.tail c.args.a c.args.b =
    c.loop-i.invariant.2 ∙ ap (λ (k : ℕ). product k (iterate (times_x c.args.n c.args.tail)) c.args.a c.args.b) all in
    record {
      within = subst (λ (r : ℕ). r < 2 ^ c.args.n) (sym e)
          ((polynomial_ring c.args.n c.args.tail c.requires.degree.0 c.requires.codes.0).mul_in c.args.a c.args.b c.requires.codes.1 c.requires.codes.2);
      value = e;
    }
