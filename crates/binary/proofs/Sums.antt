-- Digits, bits and sums of codes: a code is the sum of its bits.
-- Assumes nothing.
use mathlib.Core.Path.{◌≡◌, refl, sym, ap, ap₂, ◌∙◌, subst}
use Prim.Native.Nat.{ℕ, zero, suc, ◌+◌, ◌-◌, ◌*◌, ◌/◌, ◌%◌, ◌^◌, ◌≤◌, ◌<◌}
use native.Mathlib.Nat.{mul-zero, mul-suc, le-mul_of_pos_right, pow-zero, pow-suc, pow-le-pow_right, le_trans, div-eq_of_lt, zero-mul, one-mul, mod-eq_of_lt, mod-lt, mod-le, zero-lt-suc, mod-one, div-add-mod', le_refl, add-zero, add-suc, add_comm}
use native.Mathlib.Numerals.{add-one}
use native.Mathlib.Omega.{arith}
use lib.Bits.{bit_xor, bit_and, xor_comm, xor_assoc, xor_self, xor_zero_r, xor_lt, xor_mod, xor_shr, xor_shifted, xor_block, and_shr, and_mod}
use lib.Arith.{bin_ind}
use lib.Pow.{field, mod-mod-pow, shr-shr, pow_pos, pow_mono, pow-add, mod-pow-add, shr_le}
use Rattle.binary.specs.Codes.{bit, pick, sum, digit}

pub xor_swap : (a b c d : ℕ) → bit_xor (bit_xor a b) (bit_xor c d) ≡ bit_xor (bit_xor a c) (bit_xor b d)
xor_swap a b c d =
    xor_assoc a b (bit_xor c d)
    ∙ ap (bit_xor a) (sym (xor_assoc b c d) ∙ ap (λ (x : ℕ). bit_xor x d) (xor_comm b c) ∙ xor_assoc c b d)
    ∙ sym (xor_assoc a c (bit_xor b d))

pub xor_shl : (k a b : ℕ) → bit_xor a b * 2 ^ k ≡ bit_xor (a * 2 ^ k) (b * 2 ^ k)
xor_shl k a b =
    sym (ap₂ bit_xor (sym (add-zero (a * 2 ^ k))) (sym (add-zero (b * 2 ^ k))) ∙ xor_block k a b 0 0 (pow_pos k) (pow_pos k) ∙ add-zero (bit_xor a b * 2 ^ k))

and_xor_bit : (x y z : ℕ) → x < 2 → y < 2 → z < 2 → bit_and (bit_xor x y) z ≡ bit_xor (bit_and x z) (bit_and y z)
and_xor_bit zero y z hx hy hz = refl
and_xor_bit (suc zero) zero z hx hy hz = sym (xor_zero_r (bit_and 1 z))
and_xor_bit (suc zero) (suc zero) z hx hy hz = sym (xor_self (bit_and 1 z))
and_xor_bit (suc zero) (suc (suc y)) z hx hy hz = absurd (omega arith)
and_xor_bit (suc (suc x)) y z hx hy hz = absurd (omega arith)

halves : (x y : ℕ) → x / 2 ≡ y / 2 → x % 2 ≡ y % 2 → x ≡ y
halves x y p q = sym (div-add-mod' x 2) ∙ ap₂ (λ (a b : ℕ). a * 2 + b) p q ∙ div-add-mod' y 2

pub and_xor : (a b m : ℕ) → bit_and (bit_xor a b) m ≡ bit_xor (bit_and a m) (bit_and b m)
and_xor =
    bin_ind (λ (a : ℕ). (b m : ℕ) → bit_and (bit_xor a b) m ≡ bit_xor (bit_and a m) (bit_and b m)) (λ b m. refl)
    (λ a ih b m. halves (bit_and (bit_xor a b) m) (bit_xor (bit_and a m) (bit_and b m))
    (and_shr (bit_xor a b) m 1 ∙ ap (λ (x : ℕ). bit_and x (m / 2)) (xor_shr a b 1) ∙ ih (b / 2) (m / 2)
    ∙ sym (xor_shr (bit_and a m) (bit_and b m) 1 ∙ ap₂ bit_xor (and_shr a m 1) (and_shr b m 1)))
    (and_mod (bit_xor a b) m 1 ∙ ap (λ (x : ℕ). bit_and x (m % 2)) (xor_mod a b 1)
    ∙ and_xor_bit (a % 2) (b % 2) (m % 2) (mod-lt a (zero-lt-suc 1)) (mod-lt b (zero-lt-suc 1)) (mod-lt m (zero-lt-suc 1))
    ∙ sym (xor_mod (bit_and a m) (bit_and b m) 1 ∙ ap₂ bit_xor (and_mod a m 1) (and_mod b m 1))))

pub digit_xor : (s i a b : ℕ) → digit s i (bit_xor a b) ≡ bit_xor (digit s i a) (digit s i b)
unfolding digit
digit_xor s i a b = ap (λ (x : ℕ). x % 2 ^ s) (xor_shr a b (s * i)) ∙ xor_mod (a / 2 ^ (s * i)) (b / 2 ^ (s * i)) s

pub digit_scalar : (s i a : ℕ) → digit s i a < 2 ^ s
unfolding digit
digit_scalar s i a = mod-lt (a / 2 ^ (s * i)) (pow_pos s)

pub pow_pow : (s i : ℕ) → (2 ^ s) ^ i ≡ 2 ^ (s * i)
pow_pow s zero = pow-zero (2 ^ s) ∙ ap (λ (k : ℕ). 2 ^ k) (sym (mul-zero s))
pow_pow s (suc i) =
    pow-suc (2 ^ s) i ∙ ap (λ (x : ℕ). x * 2 ^ s) (pow_pow s i) ∙ sym (pow-add 2 (s * i) s) ∙ ap (λ (k : ℕ). 2 ^ k) (sym (mul-suc s i))

pub digit_is : (s i a : ℕ) → a / (2 ^ s) ^ i % 2 ^ s ≡ digit s i a
unfolding digit
digit_is s i a = ap (λ (x : ℕ). a / x % 2 ^ s) (pow_pow s i)

-- a number of m digits in base q has no more
pub quotient_none : (q m i a : ℕ) → 0 < q → a < q ^ m → m ≤ i → a / q ^ i ≡ 0
quotient_none q m i a p h l = div-eq_of_lt (le_trans h (pow-le-pow_right p l))

pub digit_none : (n s m i a : ℕ) → n ≡ s * m → a < 2 ^ n → m ≤ i → digit s i a ≡ 0
digit_none n s m i a e h l =
    sym (digit_is s i a)
    ∙ ap (λ (x : ℕ). x % 2 ^ s) (quotient_none (2 ^ s) m i a (pow_pos s) (subst (λ (x : ℕ). a < x) (ap (λ (k : ℕ). 2 ^ k) e ∙ sym (pow_pow s m)) h) l)
    ∙ mod-eq_of_lt (pow_pos s)

-- there is a digit
pub digits_some : (n s m : ℕ) → 1 < 2 ^ n → n ≡ s * m → 1 ≤ m
digits_some n s zero one e = absurd (omega (arith, ap (λ (k : ℕ). 2 ^ k) (e ∙ mul-zero s)))
digits_some n s (suc m) one e = omega arith

pub scalars_within : (n s m : ℕ) → 1 < 2 ^ n → n ≡ s * m → 2 ^ s ≤ 2 ^ n
scalars_within n s m one e = pow_mono (subst (λ (k : ℕ). s ≤ k) (sym e) (le-mul_of_pos_right s (digits_some n s m one e)))

pub digit_less : (s i n a : ℕ) → a < 2 ^ n → digit s i a < 2 ^ n
unfolding digit
digit_less s i n a h = omega (arith, mod-le (a / 2 ^ (s * i)) (2 ^ s), shr_le a (s * i))

-- ---- bits

pub bit_less : (a i : ℕ) → bit a i < 2
unfolding bit
bit_less a i = mod-lt (a / 2 ^ i) (zero-lt-suc 1)

pub bit_none : (a i : ℕ) → a < 2 ^ i → bit a i ≡ 0
unfolding bit
bit_none a i h = ap (λ (x : ℕ). x % 2) (div-eq_of_lt h)

-- a digit's bits are the code's
pub bit_digit : (s i j a : ℕ) → j < s → bit (digit s i a) j ≡ bit a (s * i + j)
unfolding bit digit
bit_digit s i j a l =
    ap (λ (k : ℕ). a / 2 ^ (s * i) % 2 ^ k / 2 ^ j % 2) (let e : s ≡ (s - j - 1 + 1) + j = omega arith in e)
    ∙ ap (λ (x : ℕ). x % 2) (field (a / 2 ^ (s * i)) (s - j - 1 + 1) j)
    ∙ mod-mod-pow (a / 2 ^ (s * i) / 2 ^ j) (s - j - 1) 1
    ∙ ap (λ (x : ℕ). x % 2) (shr-shr a (s * i) j)

bit_of_xor : (a b i : ℕ) → bit (bit_xor a b) i ≡ bit_xor (bit a i) (bit b i)
unfolding bit
bit_of_xor a b i = ap (λ (x : ℕ). x % 2) (xor_shr a b i) ∙ xor_mod (a / 2 ^ i) (b / 2 ^ i) 1

pick_xor : (x y v : ℕ) → x < 2 → y < 2 → pick (bit_xor x y) v ≡ bit_xor (pick x v) (pick y v)
unfolding pick
pick_xor zero zero v hx hy = refl
pick_xor zero (suc zero) v hx hy = refl
pick_xor (suc zero) zero v hx hy = sym (xor_zero_r v)
pick_xor (suc zero) (suc zero) v hx hy = sym (xor_self v)
pick_xor zero (suc (suc y)) v hx hy = absurd (omega arith)
pick_xor (suc zero) (suc (suc y)) v hx hy = absurd (omega arith)
pick_xor (suc (suc x)) y v hx hy = absurd (omega arith)

pub pick_bit_xor : (a b i v : ℕ) → pick (bit (bit_xor a b) i) v ≡ bit_xor (pick (bit a i) v) (pick (bit b i) v)
pick_bit_xor a b i v = ap (λ (x : ℕ). pick x v) (bit_of_xor a b i) ∙ pick_xor (bit a i) (bit b i) v (bit_less a i) (bit_less b i)

pub pick_sum : (x u v : ℕ) → pick x (bit_xor u v) ≡ bit_xor (pick x u) (pick x v)
unfolding pick
pick_sum zero u v = refl
pick_sum (suc x) u v = refl

pub pick_less : (n x v : ℕ) → v < 2 ^ n → pick x v < 2 ^ n
unfolding pick
pick_less n zero v h = pow_pos n
pick_less n (suc x) v h = h

pick_times : (x v : ℕ) → x < 2 → x * v ≡ pick x v
unfolding pick
pick_times zero v h = zero-mul v
pick_times (suc zero) v h = one-mul v
pick_times (suc (suc x)) v h = absurd (omega arith)

-- ---- sums

pub sum_same : (k : ℕ) {f g : ℕ → ℕ} → ((i : ℕ) → i < k → f i ≡ g i) → sum k f ≡ sum k g
unfolding sum
sum_same zero h = refl
sum_same (suc k) h = ap₂ bit_xor (sum_same k (λ i l. h i (omega arith))) (h k (le_refl (suc k)))

pub sum_xor : (k : ℕ) (f g : ℕ → ℕ) → sum k (λ i. bit_xor (f i) (g i)) ≡ bit_xor (sum k f) (sum k g)
unfolding sum
sum_xor zero f g = refl
sum_xor (suc k) f g =
    ap (λ (x : ℕ). bit_xor x (bit_xor (f k) (g k))) (sum_xor k f g) ∙ xor_swap (sum k f) (sum k g) (f k) (g k)

pub sum_less : (n k : ℕ) (f : ℕ → ℕ) → ((i : ℕ) → i < k → f i < 2 ^ n) → sum k f < 2 ^ n
unfolding sum
sum_less n zero f h = pow_pos n
sum_less n (suc k) f h = xor_lt n (sum k f) (f k) (sum_less n k f (λ i l. h i (omega arith))) (h k (le_refl (suc k)))

pub sum_split : (k l : ℕ) (f : ℕ → ℕ) → bit_xor (sum k f) (sum l (λ j. f (k + j))) ≡ sum (k + l) f
unfolding sum
sum_split k zero f = xor_zero_r (sum k f) ∙ ap (λ (j : ℕ). sum j f) (sym (add-zero k))
sum_split k (suc l) f =
    sym (xor_assoc (sum k f) (sum l (λ j. f (k + j))) (f (k + l))) ∙ ap (λ (x : ℕ). bit_xor x (f (k + l))) (sum_split k l f)
    ∙ ap (λ (j : ℕ). sum j f) (sym (add-suc k l))

pub sum_zero : (k : ℕ) (f : ℕ → ℕ) → ((i : ℕ) → i < k → f i ≡ 0) → sum k f ≡ 0
unfolding sum
sum_zero zero f h = refl
sum_zero (suc k) f h = ap₂ bit_xor (sum_zero k f (λ i l. h i (omega arith))) (h k (le_refl (suc k)))

pub sum_step : (k : ℕ) (f : ℕ → ℕ) → bit_xor (sum k f) (f k) ≡ sum (k + 1) f
unfolding sum
sum_step k f = ap (λ (j : ℕ). sum j f) (sym (add-one k))

low_digits : (s a k : ℕ) → a % 2 ^ (s * k) ≡ sum k (λ i. digit s i a * 2 ^ (s * i))
unfolding sum digit
low_digits s a zero = ap (λ (x : ℕ). a % 2 ^ x) (mul-zero s) ∙ mod-one a
low_digits s a (suc k) =
    ap (λ (x : ℕ). a % 2 ^ x) (mul-suc s k ∙ add_comm (s * k) s) ∙ mod-pow-add a s (s * k)
    ∙ sym (xor_shifted (digit s k a) (s * k) (a % 2 ^ (s * k)) (mod-lt a (pow_pos (s * k))))
    ∙ xor_comm (digit s k a * 2 ^ (s * k)) (a % 2 ^ (s * k))
    ∙ ap (λ (x : ℕ). bit_xor x (digit s k a * 2 ^ (s * k))) (low_digits s a k)

pub digits : (s m a : ℕ) → a < 2 ^ (s * m) → a ≡ sum m (λ i. digit s i a * 2 ^ (s * i))
digits s m a h = sym (mod-eq_of_lt h) ∙ low_digits s a m

pub bits : (n a : ℕ) → a < 2 ^ n → a ≡ sum n (λ i. pick (bit a i) (2 ^ i))
unfolding digit bit
bits n a h =
    digits 1 n a (subst (λ (k : ℕ). a < 2 ^ k) (sym (one-mul n)) h)
    ∙ sum_same n (λ i l. ap (λ (k : ℕ). a / 2 ^ k % 2 * 2 ^ k) (one-mul i) ∙ pick_times (bit a i) (2 ^ i) (bit_less a i))
