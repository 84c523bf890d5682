-- A basis, commuting linear maps T 0, T 1, .. where T i takes 1 to 2 ^ i, makes the n-bit codes a ring.
-- Two kinds of basis: the powers of one map, and the products of powers of two that commute.
-- Assumes nothing.
use mathlib.Core.Path.{◌≡◌, refl, sym, ap, ap₂, ◌∙◌, subst}
use Prim.Native.Nat.{ℕ, zero, suc, ◌-◌, ◌*◌, ◌/◌, ◌%◌, ◌^◌, ◌<◌}
use native.Mathlib.Nat.{pow-suc, mod-lt, div-eq_of_lt, mod-eq_of_lt}
use native.Mathlib.Omega.{arith}
use lib.Bits.{bit_xor, xor_assoc, xor_comm, xor_lt, xor_self, xor_zero_r}
use lib.Pow.{pow_pos, pow-lt}
use Rattle.linear.specs.Field.{iterate}
use Rattle.binary.specs.Codes.{bit, pick, product, times_x}
use Rattle.binary.specs.Binary.{Ring}
use Rattle.binary.proofs.Sums.{pick_sum, pick_less, sum_same, sum_xor, sum_less, bits}
use Rattle.binary.proofs.Maps.{Linear, additive_adds, id_additive, times_x_additive, adds_pick, adds_sum, adds_bits, then_linear, iterate_linear, iterate_swap}

pub record Basis (n : ℕ) (T : ℕ → ℕ → ℕ) : Type 0 where
  pub some : 0 < n
  pub linear : (i : ℕ) → Linear n (T i)
  pub commute : (i j b : ℕ) → b < 2 ^ n → T i (T j b) ≡ T j (T i b)
  pub at_one : (i : ℕ) → i < n → T i 1 ≡ 2 ^ i

part_less : {n : ℕ} {T : ℕ → ℕ → ℕ} → ((i : ℕ) → Linear n (T i)) → (a b : ℕ) → b < 2 ^ n → (i : ℕ) → pick (bit a i) (T i b) < 2 ^ n
part_less {n} {T} linear a b h i = pick_less n (bit a i) (T i b) ((linear i).stays b h)

pub product_less : {n : ℕ} {T : ℕ → ℕ → ℕ} → ((i : ℕ) → Linear n (T i)) → (k a b : ℕ) → b < 2 ^ n → product k T a b < 2 ^ n
unfolding product
product_less {n} {T} linear k a b h = sum_less n k (λ i. pick (bit a i) (T i b)) (λ i l. part_less linear a b h i)

module _ {n : ℕ} {T : ℕ → ℕ → ℕ} (B : Basis n T) where
  mul_linear : (a : ℕ) → Linear n (product n T a)
  unfolding product
  mul_linear a = record {
    stays = product_less B.linear n a;
    adds = λ b c hb hc.
        sum_same n (λ i l. ap (pick (bit a i)) ((B.linear i).adds b c hb hc) ∙ pick_sum (bit a i) (T i b) (T i c))
        ∙ sum_xor n (λ i. pick (bit a i) (T i b)) (λ i. pick (bit a i) (T i c));
  }

  mul_one : (a : ℕ) → a < 2 ^ n → product n T a 1 ≡ a
  unfolding product
  mul_one a h = sum_same n (λ i l. ap (pick (bit a i)) (B.at_one i l)) ∙ sym (bits n a h)

  -- a linear map that commutes with each T i commutes with each product
  past : (f : ℕ → ℕ) → Linear n f → ((i b : ℕ) → b < 2 ^ n → f (T i b) ≡ T i (f b))
      → (a b : ℕ) → b < 2 ^ n → f (product n T a b) ≡ product n T a (f b)
  unfolding product
  past f p c a b h =
      adds_sum n f p.adds n (λ i. pick (bit a i) (T i b)) (λ i l. part_less B.linear a b h i)
      ∙ sum_same n (λ i l. adds_pick n f p.adds (bit a i) (T i b) ∙ ap (pick (bit a i)) (c i b h))

  past_basis : (j a b : ℕ) → b < 2 ^ n → T j (product n T a b) ≡ product n T a (T j b)
  past_basis j = past (T j) (B.linear j) (B.commute j)

  past_product : (a b c : ℕ) → c < 2 ^ n → product n T a (product n T b c) ≡ product n T b (product n T a c)
  past_product a = past (product n T a) (mul_linear a) (λ i b h. sym (past_basis i a b h))

  mul_comm : (a b : ℕ) → a < 2 ^ n → b < 2 ^ n → product n T a b ≡ product n T b a
  unfolding product
  mul_comm a b ha hb =
      adds_bits n (product n T a) (mul_linear a).adds b hb
      ∙ sum_same n (λ i l. ap (pick (bit b i))
      (ap (product n T a) (sym (B.at_one i l)) ∙ sym (past_basis i a 1 (pow-lt B.some)) ∙ ap (T i) (mul_one a ha)))

  pub basis_ring : Ring n (product n T)
  basis_ring = record {
    one_in = pow-lt B.some;
    sum_in = xor_lt n;
    sum_assoc = xor_assoc;
    sum_comm = xor_comm;
    sum_zero = xor_zero_r;
    sum_self = xor_self;
    mul_in = λ a b ha hb. (mul_linear a).stays b hb;
    mul_assoc = λ a b c ha hb hc.
        mul_comm (product n T a b) c ((mul_linear a).stays b hb) hc ∙ past_product c a b hb ∙ ap (product n T a) (mul_comm c b hc hb);
    mul_comm = mul_comm;
    mul_one = mul_one;
    mul_sum = λ a b c ha hb hc. (mul_linear a).adds b c hb hc;
  }

-- ---- the powers of x

pub times_x_linear : (n tail : ℕ) → tail < 2 ^ n → Linear n (times_x n tail)
unfolding times_x
times_x_linear n tail h = record {
  stays = λ a l. xor_lt n (a * 2 % 2 ^ n) (pick (bit a (n - 1)) tail) (mod-lt (a * 2) (pow_pos n)) (pick_less n (bit a (n - 1)) tail h);
  adds = additive_adds (times_x_additive n tail id_additive) n;
}

times_x_power : (n tail i : ℕ) → suc i < n → times_x n tail (2 ^ i) ≡ 2 ^ suc i
unfolding times_x pick bit
times_x_power n tail i h =
    ap₂ (λ (x y : ℕ). bit_xor x (pick (y % 2) tail))
    (mod-eq_of_lt (subst (λ (x : ℕ). x < 2 ^ n) (pow-suc 2 i) (pow-lt h)) ∙ sym (pow-suc 2 i))
    (div-eq_of_lt (pow-lt (omega arith)))
    ∙ xor_zero_r (2 ^ suc i)

x_at_one : (n tail i : ℕ) → i < n → iterate (times_x n tail) i 1 ≡ 2 ^ i
x_at_one n tail zero h = refl
x_at_one n tail (suc i) h = ap (times_x n tail) (x_at_one n tail i (omega arith)) ∙ times_x_power n tail i h

pub x_basis : (n tail : ℕ) → 0 < n → tail < 2 ^ n → Basis n (iterate (times_x n tail))
x_basis n tail p h = record {
  some = p;
  linear = iterate_linear (times_x_linear n tail h);
  commute = λ i j b hb. iterate_swap (times_x n tail) i j b;
  at_one = x_at_one n tail;
}

-- ---- two maps that commute

module _ {n : ℕ} {f g : ℕ → ℕ} (p : Linear n f) (q : Linear n g) (c : (b : ℕ) → b < 2 ^ n → f (g b) ≡ g (f b)) where
  past_one : (j b : ℕ) → b < 2 ^ n → f (iterate g j b) ≡ iterate g j (f b)
  past_one zero b h = refl
  past_one (suc j) b h = c (iterate g j b) ((iterate_linear q j).stays b h) ∙ ap g (past_one j b h)

  past_many : (i j b : ℕ) → b < 2 ^ n → iterate f i (iterate g j b) ≡ iterate g j (iterate f i b)
  past_many zero j b h = refl
  past_many (suc i) j b h = ap f (past_many i j b h) ∙ past_one j (iterate f i b) ((iterate_linear p i).stays b h)

  -- the place i stands for the (i % w)-th power of f after the (i / w)-th of g
  pub two_basis : (w : ℕ) → 0 < n → ((i : ℕ) → i < n → iterate f (i % w) (iterate g (i / w) 1) ≡ 2 ^ i)
      → Basis n (λ i b. iterate f (i % w) (iterate g (i / w) b))
  two_basis w some one = record {
    some = some;
    linear = λ i. then_linear (iterate_linear p (i % w)) (iterate_linear q (i / w));
    commute = λ i j b hb.
        ap (iterate f (i % w)) (sym (past_many (j % w) (i / w) (iterate g (j / w) b) ((iterate_linear q (j / w)).stays b hb)))
        ∙ iterate_swap f (i % w) (j % w) (iterate g (i / w) (iterate g (j / w) b))
        ∙ ap (λ (x : ℕ). iterate f (j % w) (iterate f (i % w) x)) (iterate_swap g (i / w) (j / w) b)
        ∙ ap (iterate f (j % w)) (past_many (i % w) (j / w) (iterate g (i / w) b) ((iterate_linear q (i / w)).stays b hb));
    at_one = one;
  }
