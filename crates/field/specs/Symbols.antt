-- Symbols over q scalars, both by their codes: the coordinates of a symbol are the digits of its code in base q.
--   embedding scalars symbols      the symbol that has a scalar's code
--   coordinate scalars symbols q   the scalar whose code is the digit at a place
--   raised symbols mul s           the symbol's power 2 ^ s, under the product mul of codes
-- Assumes nothing.
use Rattle.std.specs.Prelude.{ℕ, ◌/◌, ◌^◌}
use Rattle.binary.specs.Codes.{raise}
use Rattle.binary.specs.Coded.{Coded}

module _ {K S : Type 0} {k l : ℕ} (scalars : Coded K k) (symbols : Coded S l) where
  abbrev pub embedding : K → S
  embedding c = symbols.make (scalars.code c)

  -- `make` takes the quotient's last digit
  abbrev pub coordinate : ℕ → S → ℕ → K
  coordinate q x i = scalars.make (symbols.code x / q ^ i)

abbrev pub raised : {S : Type 0} {l : ℕ} → Coded S l → (ℕ → ℕ → ℕ) → ℕ → S → S
raised symbols mul s x = symbols.make (raise mul s (symbols.code x))
