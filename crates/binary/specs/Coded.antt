-- Types whose values stand for codes, and fields that compute by them.
--   Coded X size   each value of X has one code below size, and each such code is a value's; `make` takes a number modulo size
--   coded n        so a structure of a code and the proof that it is below 2 ^ n
--   ByCodes        the field adds by exclusive or of the codes, and multiplies by mul
-- Assumes nothing.
use mathlib.Core.HLevel.{is_prop→PathP}
use Rattle.std.specs.Prelude.{◌≡◌, ℕ, ◌%◌, ◌^◌, ◌<◌}
use Rattle.std.proofs.Common.{sym, ◌∙◌, mod-lt, pow_pos}
use Rattle.std.proofs.Math.Bridge.{le_prop}
use Rattle.std.specs.Int.Bits.{bit_xor}
use Rattle.linear.specs.Field.{Field}

pub record Coded (X : Type 0) (size : ℕ) : Type 0 where
  pub code : X → ℕ
  pub make : ℕ → X
  pub code_less : (x : X) → code x < size
  pub code_make : (a : ℕ) → code (make a) ≡ a % size
  pub same : (x y : X) → code x ≡ code y → x ≡ y

abbrev pub coded : {X : Type 0} (n : ℕ) (code : X → ℕ) (build : (a : ℕ) → a < 2 ^ n → X) (less : (x : X) → code x < 2 ^ n)
    → ((a : ℕ) (h : a < 2 ^ n) → code (build a h) ≡ a) → ((x : X) → build (code x) (less x) ≡ x) → Coded X (2 ^ n)
coded n code build less code-build build-code = record {
  code = code;
  make = λ a. build (a % 2 ^ n) (mod-lt a (pow_pos n));
  code_less = less;
  code_make = λ a. code-build (a % 2 ^ n) (mod-lt a (pow_pos n));
  same = λ x y p. sym (build-code x) ∙ (λ i. build (p i) (is_prop→PathP (λ j. p j < 2 ^ n) (λ j. le_prop) (less x) (less y) i)) ∙ build-code y;
}

pub record ByCodes {X : Type 0} {size : ℕ} (C : Coded X size) (mul : ℕ → ℕ → ℕ) (F : Field X) : Type 0 where
  pub zero_code : C.code F.zero ≡ 0
  pub one_code : C.code F.one ≡ 1
  pub add_code : (x y : X) → C.code (F.add x y) ≡ bit_xor (C.code x) (C.code y)
  pub neg_code : (x : X) → C.code (F.neg x) ≡ C.code x
  pub mul_code : (x y : X) → C.code (F.mul x y) ≡ mul (C.code x) (C.code y)
