-- Linear maps of n-bit codes: two that agree at the codes 2 ^ i agree everywhere.
-- Assumes nothing.
use mathlib.Core.Path.{◌≡◌, refl, sym, ap, ap₂, ◌∙◌, subst}
use Prim.Native.Nat.{ℕ, zero, suc, ◌+◌, ◌-◌, ◌*◌, ◌/◌, ◌%◌, ◌^◌, ◌≤◌, ◌<◌}
use native.Mathlib.Nat.{le_refl, le_trans, mul-suc, mul-le-mul_left, zero-add, suc-add, add_comm}
use native.Mathlib.Omega.{arith}
use lib.Bits.{bit_xor, bit_and, xor_self, xor_shr, xor_mod}
use lib.Pow.{pow_pos, pow-lt, pow_mono, shl_lt}
use Rattle.linear.specs.Field.{iterate}
use Rattle.binary.specs.Codes.{bit, pick, sum, times_x, digit}
use Rattle.binary.proofs.Sums.{xor_swap, xor_shl, and_xor, digit_xor, digit_scalar, digits, pick_bit_xor, pick_less, sum_same, sum_xor, sum_less, bits}

abbrev pub Adds : ℕ → (ℕ → ℕ) → Type 0
Adds n f = (a b : ℕ) → a < 2 ^ n → b < 2 ^ n → f (bit_xor a b) ≡ bit_xor (f a) (f b)

pub record Linear (n : ℕ) (f : ℕ → ℕ) : Type 0 where
  pub stays : (a : ℕ) → a < 2 ^ n → f a < 2 ^ n
  pub adds : Adds n f

module _ (n : ℕ) (f : ℕ → ℕ) (adds : Adds n f) where
  pub adds_zero : f 0 ≡ 0
  adds_zero = let e : f 0 ≡ bit_xor (f 0) (f 0) = adds 0 0 (pow_pos n) (pow_pos n) in e ∙ xor_self (f 0)

  pub adds_pick : (x v : ℕ) → f (pick x v) ≡ pick x (f v)
  unfolding pick
  adds_pick zero v = adds_zero
  adds_pick (suc x) v = refl

  pub adds_sum : (k : ℕ) (g : ℕ → ℕ) → ((i : ℕ) → i < k → g i < 2 ^ n) → f (sum k g) ≡ sum k (λ i. f (g i))
  unfolding sum
  adds_sum zero g h = adds_zero
  adds_sum (suc k) g h =
      adds (sum k g) (g k) (sum_less n k g (λ i b. h i (omega arith))) (h k (le_refl (suc k)))
      ∙ ap (λ (x : ℕ). bit_xor x (f (g k))) (adds_sum k g (λ i b. h i (omega arith)))

  -- the map is its values at the codes 2 ^ i
  pub adds_bits : (a : ℕ) → a < 2 ^ n → f a ≡ sum n (λ i. pick (bit a i) (f (2 ^ i)))
  adds_bits a h =
      ap f (bits n a h)
      ∙ adds_sum n (λ i. pick (bit a i) (2 ^ i)) (λ i b. pick_less n (bit a i) (2 ^ i) (pow-lt b))
      ∙ sum_same n (λ i b. adds_pick (bit a i) (2 ^ i))

  -- and the sum of its values at the code's digits
  pub adds_digits : (s m a : ℕ) → n ≡ s * m → a < 2 ^ n → f a ≡ sum m (λ i. f (digit s i a * 2 ^ (s * i)))
  adds_digits s m a e h =
      ap f (digits s m a (subst (λ (k : ℕ). a < 2 ^ k) e h)) ∙ adds_sum m (λ i. digit s i a * 2 ^ (s * i)) part_less
    where
      part_less : (i : ℕ) → i < m → digit s i a * 2 ^ (s * i) < 2 ^ n
      part_less i l =
          subst (λ (k : ℕ). digit s i a * 2 ^ (s * i) < 2 ^ k) (sym e)
          (le_trans (shl_lt s (s * i) (digit_scalar s i a)) (pow_mono (subst (λ (k : ℕ). k ≤ s * m) (mul-suc s i ∙ add_comm (s * i) s) (mul-le-mul_left s l))))

pub agree : (n : ℕ) (f g : ℕ → ℕ) → Adds n f → Adds n g → ((i : ℕ) → i < n → f (2 ^ i) ≡ g (2 ^ i))
    → (a : ℕ) → a < 2 ^ n → f a ≡ g a
agree n f g p q e a h =
    adds_bits n f p a h ∙ sum_same n (λ i b. ap (pick (bit a i)) (e i b)) ∙ sym (adds_bits n g q a h)

-- ---- maps that add all numbers, and how the operators make them

pub record Additive (f : ℕ → ℕ) : Type 0 where
  pub sums : (a b : ℕ) → f (bit_xor a b) ≡ bit_xor (f a) (f b)

pub id_additive : Additive (λ a. a)
id_additive = record { sums = λ a b. refl }

pub xor_additive : {f g : ℕ → ℕ} → Additive f → Additive g → Additive (λ a. bit_xor (f a) (g a))
xor_additive {f} {g} p q = record {
  sums = λ a b. ap₂ bit_xor (p.sums a b) (q.sums a b) ∙ xor_swap (f a) (f b) (g a) (g b);
}

pub sum_additive : (k : ℕ) {f : ℕ → ℕ → ℕ} → ((i : ℕ) → Additive (f i)) → Additive (λ a. sum k (λ i. f i a))
sum_additive k {f} p = record {
  sums = λ a b. sum_same k (λ i l. (p i).sums a b) ∙ sum_xor k (λ i. f i a) (λ i. f i b);
}

pub pick_additive : (i v : ℕ) {f : ℕ → ℕ} → Additive f → Additive (λ a. pick (bit (f a) i) v)
pick_additive i v {f} p = record {
  sums = λ a b. ap (λ (x : ℕ). pick (bit x i) v) (p.sums a b) ∙ pick_bit_xor (f a) (f b) i v;
}

pub digit_additive : (s i : ℕ) {f : ℕ → ℕ} → Additive f → Additive (λ a. digit s i (f a))
digit_additive s i {f} p = record { sums = λ a b. ap (digit s i) (p.sums a b) ∙ digit_xor s i (f a) (f b) }

pub shl_additive : (k : ℕ) {f : ℕ → ℕ} → Additive f → Additive (λ a. f a * 2 ^ k)
shl_additive k {f} p = record { sums = λ a b. ap (λ (x : ℕ). x * 2 ^ k) (p.sums a b) ∙ xor_shl k (f a) (f b) }

pub shr_additive : (k : ℕ) {f : ℕ → ℕ} → Additive f → Additive (λ a. f a / 2 ^ k)
shr_additive k {f} p = record { sums = λ a b. ap (λ (x : ℕ). x / 2 ^ k) (p.sums a b) ∙ xor_shr (f a) (f b) k }

pub mod_additive : (k : ℕ) {f : ℕ → ℕ} → Additive f → Additive (λ a. f a % 2 ^ k)
mod_additive k {f} p = record { sums = λ a b. ap (λ (x : ℕ). x % 2 ^ k) (p.sums a b) ∙ xor_mod (f a) (f b) k }

pub mask_additive : (m : ℕ) {f : ℕ → ℕ} → Additive f → Additive (λ a. bit_and (f a) m)
mask_additive m {f} p = record { sums = λ a b. ap (λ (x : ℕ). bit_and x m) (p.sums a b) ∙ and_xor (f a) (f b) m }

pub times_x_additive : (n tail : ℕ) {f : ℕ → ℕ} → Additive f → Additive (λ a. times_x n tail (f a))
unfolding times_x
times_x_additive n tail p = xor_additive (mod_additive n (shl_additive 1 p)) (pick_additive (n - 1) tail p)

pub additive_adds : {f : ℕ → ℕ} → Additive f → (n : ℕ) → Adds n f
additive_adds p n a b ha hb = p.sums a b

-- such a map is linear if it keeps the codes 2 ^ i
pub additive_linear : (n : ℕ) {f : ℕ → ℕ} → Additive f → ((i : ℕ) → i < n → f (2 ^ i) < 2 ^ n) → Linear n f
additive_linear n {f} p h = record {
  stays = λ a l.
      subst (λ (x : ℕ). x < 2 ^ n) (sym (adds_bits n f (additive_adds p n) a l))
      (sum_less n n (λ i. pick (bit a i) (f (2 ^ i))) (λ i b. pick_less n (bit a i) (f (2 ^ i)) (h i b)));
  adds = additive_adds p n;
}

-- ---- one map after another

pub then_linear : {n : ℕ} {f g : ℕ → ℕ} → Linear n f → Linear n g → Linear n (λ a. f (g a))
then_linear {n} {f} {g} p q = record {
  stays = λ a h. p.stays (g a) (q.stays a h);
  adds = λ a b ha hb. ap f (q.adds a b ha hb) ∙ p.adds (g a) (g b) (q.stays a ha) (q.stays b hb);
}

pub iterate_linear : {n : ℕ} {f : ℕ → ℕ} → Linear n f → (k : ℕ) → Linear n (iterate f k)
iterate_linear p zero = record { stays = λ a h. h; adds = λ a b ha hb. refl }
iterate_linear p (suc k) = then_linear p (iterate_linear p k)

pub iterate_add : (f : ℕ → ℕ) (i j a : ℕ) → iterate f i (iterate f j a) ≡ iterate f (i + j) a
iterate_add f zero j a = ap (λ (x : ℕ). iterate f x a) (sym (zero-add j))
iterate_add f (suc i) j a = ap f (iterate_add f i j a) ∙ ap (λ (x : ℕ). iterate f x a) (sym (suc-add i j))

pub iterate_swap : (f : ℕ → ℕ) (i j a : ℕ) → iterate f i (iterate f j a) ≡ iterate f j (iterate f i a)
iterate_swap f i j a = iterate_add f i j a ∙ ap (λ (k : ℕ). iterate f k a) (add_comm i j) ∙ sym (iterate_add f j i a)
