-- Assumes nothing.
use Rattle.std.proofs.Common.{◌≡◌, ℕ, ◌+◌, ◌-◌, ◌*◌, ◌/◌, ◌%◌, ◌^◌, ◌<◌, ◌≤◌, ◌≢◌, sym, ap, ◌∙◌, subst, ap₂, mod-eq_of_lt, one-mul, arith, pow_mono, shr_lt}
use lib.Bits.{bit_and, bit_xor, and_mask, xor_zero_r}
use Rattle.binary.specs.Codes.{times_x, pick, bit}
use Rattle.binary.proofs.Bases.{times_x_linear}
use Rattle.field.proofs.polynomials.times_x.Goals as goal

module _ (n tail b : ℕ) (le : n ≤ 16) (h : b < 2 ^ n) where
  shifted : bit_and (b * 2 % 2 ^ 32) (1 * 2 ^ n % 2 ^ 32 - 1) ≡ b * 2 % 2 ^ n
  shifted =
      let size : 2 ^ n ≤ 2 ^ 16 = pow_mono le in
      ap₂ (λ (x y : ℕ). bit_and x (y - 1)) (mod-eq_of_lt (omega arith)) (ap (λ (x : ℕ). x % 2 ^ 32) (one-mul (2 ^ n)) ∙ mod-eq_of_lt (omega arith)) ∙ and_mask (b * 2) n

  taken : b / 2 ^ (n - 1) ≡ 1 → bit_xor (bit_and (b * 2 % 2 ^ 32) (1 * 2 ^ n % 2 ^ 32 - 1)) tail ≡ times_x n tail b
  unfolding times_x pick bit
  taken e = ap₂ bit_xor shifted (sym (ap (λ (x : ℕ). pick (x % 2) tail) e))

  left : b / 2 ^ (n - 1) ≡ 0 → bit_and (b * 2 % 2 ^ 32) (1 * 2 ^ n % 2 ^ 32 - 1) ≡ times_x n tail b
  unfolding times_x pick bit
  left e = shifted ∙ sym (ap (λ (x : ℕ). bit_xor (b * 2 % 2 ^ n) (pick (x % 2) tail)) e ∙ xor_zero_r (b * 2 % 2 ^ n))

  top : 0 < n → b / 2 ^ (n - 1) ≢ 1 → b / 2 ^ (n - 1) ≡ 0
  top some q = omega (arith, shr_lt {n = b} 1 (n - 1) (subst (λ (k : ℕ). b < 2 ^ k) (let e : n ≡ 1 + (n - 1) = omega arith in e) h))

  within : (r : ℕ) → tail < 2 ^ n → r ≡ times_x n tail b → r < 2 ^ n
  within r ht e = subst (λ (x : ℕ). x < 2 ^ n) (sym e) ((times_x_linear n tail ht).stays b h)

pub returns-then-b-n-eq1 : goal.returns-then-b-n-eq1
returns-then-b-n-eq1 c =
    let e = taken c.args.n c.args.tail c.args.b c.requires.degree.1 c.requires.codes.1 c.if-b-n-eq1.true in
    record { within = within c.args.n c.args.tail c.args.b c.requires.degree.1 c.requires.codes.1 _ c.requires.codes.0 e; value = e }

pub returns-else-b-n-eq1 : goal.returns-else-b-n-eq1
returns-else-b-n-eq1 c =
    let zero = top c.args.n c.args.tail c.args.b c.requires.degree.1 c.requires.codes.1 c.requires.degree.0 c.if-b-n-eq1.false in
    let e = left c.args.n c.args.tail c.args.b c.requires.degree.1 c.requires.codes.1 zero in
    record { within = within c.args.n c.args.tail c.args.b c.requires.degree.1 c.requires.codes.1 _ c.requires.codes.0 e; value = e }
