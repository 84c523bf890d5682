-- Counted lengths and divisions, checked by computing the codes of their coefficients.
use Rattle.std.proofs.Common.{◌≡◌, ℕ, ◌+◌, ◌<◌, ◌≤◌, List, length, sym, ap, ◌∙◌, ap₂, inl, inr, arith, lit≤}
use native.Mathlib.Decide.{dec_lt}
use Rattle.binary.proofs.Lift.{field_by_codes}
use Rattle.binary.proofs.Polynomials.{bits_binary, octets_binary}
use Rattle.binary.proofs.Tests.{computed₂, computing}
use Rattle.field.specs.Alphabet.{Alphabet, Lawful}
use Rattle.field.specs.Alphabets.{octet_alphabet}
use Rattle.field.specs.Bit.{bits}
use Rattle.field.specs.Octet.{octets}
use Rattle.field.proofs.Symbols.{code_same}
use Rattle.field.specs.Elements.{codes}
use Rattle.field.specs.Extensions.{extension}
use Rattle.linearized.specs.Polynomials.{at, counted, composed, Divided}
use Rattle.linearized.proofs.Counts.{counted_length, counted_some}
use Rattle.linearized.proofs.Compositions.{composed_zero}
use Rattle.subspace_code.proofs.Slots.{at_past}

pub octets_lawful : Lawful octet_alphabet
unfolding computing
octets_lawful =
    let bits-by-codes = field_by_codes bits bits_binary in
    let octets-by-codes = field_by_codes octets octets_binary in
    record {
      scalar_codes = codes bits-by-codes;
      codes = codes octets-by-codes;
      extension = extension bits_binary octets_binary bits-by-codes octets-by-codes (computed₂ _ _ 1 1 tt) (lit≤ tt) (lit≤ tt) (lit≤ tt);
    }

module _ {K S : Type 0} {A : Alphabet K S} (laws : Lawful A) where
  open A use {symbols as G, code}

  -- a list whose last coefficient, at e, is not zero
  pub counted_checked : (f : List S) (e : ℕ) → length f ≤ e + 1 → 0 < code (at G f e) → counted G f ≡ e + 1
  counted_checked f e long last =
      let least = counted_some G f e (λ z. let none = ap code z ∙ laws.codes.code_zero in omega arith) in
      omega (arith, counted_length G f)

  pub divided_checked : (D B f R : List S) (bound : ℕ) → counted G R < counted G B → length D ≤ bound → length R ≤ bound → length B + length f ≤ bound + 1 →
      ((n : ℕ) → n < bound → code (at G D n) ≡ code (G.add (composed A B f n) (at G R n))) → Divided A D B f R
  divided_checked D B f R bound shorter dividend remainder product checked = record { shorter = shorter; whole = whole }
    where
      past : (n : ℕ) → bound ≤ n → composed A B f n ≡ G.zero
      past n l = composed_zero laws B f n (λ i j s. elim (dec_lt i (length B)) [
        | yes below ↦ inr (at_past G f j (omega arith))
        | no above ↦ inl (at_past G B i (omega arith))
      ])

      whole : (n : ℕ) → at G D n ≡ G.add (composed A B f n) (at G R n)
      whole n = elim (dec_lt n bound) [
        | yes l ↦ code_same laws _ _ (checked n l)
        | no l ↦ at_past G D n (omega arith) ∙ sym (ap₂ G.add (past n (omega arith)) (at_past G R n (omega arith)) ∙ G.add-zero G.zero)
      ]
