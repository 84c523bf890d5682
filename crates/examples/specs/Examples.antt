-- Worked examples of the definitions, by codes.
--   Product, Raise    the product of two symbols, the raise of one
--   Sent              the packets of a message
--   Quotient          the division of two polynomials
--   Reduces           the reduced form of what packets span
--   Gives, Refuses    what the plain machine's solve answers on a number that holds packets
--   Worked            what the definitions give on the examples
--   WorkedSolving     what the plain machine's solve answers on the examples
-- Assumes nothing.
use Rattle.std.specs.Prelude.{◌≡◌, ℕ, ◌≤◌, List, [], ◌∷◌, ◌++◌, map, length, drop, Ok, Err}
use Rattle.linear.specs.Span.{Span}
use Rattle.linear.specs.Reduced.{ReducedForm}
use Rattle.field.specs.Alphabet.{Alphabet}
use Rattle.field.specs.Alphabets.{octet_alphabet, word_alphabet, nibble_alphabet}
use Rattle.packet.specs.declared.Packet.{Packet}
use Rattle.packet.specs.Packets.{packet_rows}
use Rattle.linearized.specs.Polynomials.{counted, Divided}
use Rattle.linearized.specs.Code.{packets}
use Rattle.answer.specs.declared.refusal.Refusal.{Refusal}
use Rattle.answer.specs.declared.refusal.Refusal.TheVariants.{DimensionLow, DimensionHigh, NoneNear}
use Rattle.answer.specs.declared.Solved.{Solved}
use Rattle.collector.specs.Answers.{packet_of}
use Rattle.collector.specs.Machine.{solved, Machine, Holds, Plain}

module _ {K S : Type 0} (A : Alphabet K S) where
  -- the product of the symbols with codes a and b has code c
  abbrev pub Product : (a b c : ℕ) → Type 0
  Product a b c = A.code (A.symbols.mul (A.element a) (A.element b)) ≡ c

  -- the raise of the symbol with code a has code c
  abbrev pub Raise : (a c : ℕ) → Type 0
  Raise a c = A.code (A.frobenius (A.element a)) ≡ c

  -- the packets of a message, both by codes
  abbrev pub Sent : ℕ → List ℕ → List (ℕ × ℕ) → Type 0
  Sent ℓ message sent = map (λ (p : Packet S). (A.code p.x, A.code p.y)) (packets A ℓ (map A.element message)) ≡ sent

  -- D by B gives f and R, all by codes, of these counted lengths
  pub record Quotient (D B f R : List ℕ) (quotient remainder : ℕ) : Type 0 where
    pub divided : Divided A (map A.element D) (map A.element B) (map A.element f) (map A.element R)
    pub quotient_counted : counted A.symbols (map A.element f) ≡ quotient
    pub remainder_counted : counted A.symbols (map A.element R) ≡ remainder

  -- the packets with these codes
  abbrev pub packets_of : List (ℕ × ℕ) → List (Packet S)
  packets_of codes = map (λ (c : ℕ × ℕ). packet_of A c.0 c.1) codes

  -- the packets span a space with this reduced form
  abbrev pub Reduces : (codes form : List (ℕ × ℕ)) → Type 0
  Reduces codes form = ReducedForm A.scalars (packet_rows A) (Span (packet_rows A) (packets_of codes)) (packets_of form)

  -- solve on number 0, which holds the packets, into k places or more: the message goes to the first k, and the others stay
  abbrev pub Gives : (k ℓ : ℕ) → List (ℕ × ℕ) → List ℕ → Solved → Type 0
  Gives k ℓ codes message answer = (m : Machine S) (output : List S) → Holds m 0 (packets_of codes) → k ≤ length output
      → Plain A k ℓ m (solved 0 output (map A.element message ++ drop k output) (Ok answer)) m

  abbrev pub Refuses : (k ℓ : ℕ) → List (ℕ × ℕ) → Refusal → Type 0
  Refuses k ℓ codes refusal =
      (m : Machine S) (output : List S) → Holds m 0 (packets_of codes) → k ≤ length output → Plain A k ℓ m (solved 0 output output (Err refusal)) m

pub record Worked : Type 0 where
  pub octet_product : Product octet_alphabet 0x57 0x83 0xc1
  pub octet_raise : Raise octet_alphabet 0x80 0x9a
  pub word_product : Product word_alphabet 0x8000 0x0002 0x100b
  pub nibble_product : Product nibble_alphabet 0x1000000 0x0000010 0x0000011
  pub nibble_raise : Raise nibble_alphabet 0x0000010 0x0010100
  pub octet_packets : Sent octet_alphabet 3 (1 ∷ 1 ∷ []) ((1, 0) ∷ (2, 6) ∷ (4, 0x14) ∷ [])
  pub octet_division : Quotient octet_alphabet (0x00 ∷ 0x9a ∷ []) (0x00 ∷ 0x01 ∷ []) (0x80 ∷ []) [] 1 0

pub record WorkedSolving : Type 0 where
  pub nothing_taken : Refuses octet_alphabet 1 3 [] (DimensionLow 0)
  pub one_taken : Gives octet_alphabet 1 3 ((0x01, 0x02) ∷ []) (0x02 ∷ []) (record { dimension = 1; lost = 2; foreign = 0; faults = 2 })
  -- no message of one symbol is near
  pub none_near : Refuses octet_alphabet 1 3 ((0x01, 0x02) ∷ (0x02, 0x05) ∷ []) (NoneNear 2)
  pub one_foreign : Gives octet_alphabet 1 3 ((0x01, 0x02) ∷ (0x02, 0x04) ∷ (0x04, 0x09) ∷ []) (0x02 ∷ []) (record { dimension = 3; lost = 1; foreign = 1; faults = 2 })
  pub two_foreign : Gives octet_alphabet 1 3 ((0x01, 0x02) ∷ (0x02, 0x04) ∷ (0x04, 0x08) ∷ (0x00, 0x01) ∷ (0x00, 0x02) ∷ []) (0x02 ∷ [])
      (record { dimension = 5; lost = 0; foreign = 2; faults = 2 })
  pub two_foreign_form : Reduces octet_alphabet ((0x01, 0x02) ∷ (0x02, 0x04) ∷ (0x04, 0x08) ∷ (0x00, 0x01) ∷ (0x00, 0x02) ∷ [])
      ((0x01, 0x00) ∷ (0x02, 0x04) ∷ (0x04, 0x08) ∷ (0x00, 0x01) ∷ (0x00, 0x02) ∷ [])
  pub three_foreign : Refuses octet_alphabet 1 3 ((0x01, 0x02) ∷ (0x02, 0x04) ∷ (0x04, 0x08) ∷ (0x00, 0x01) ∷ (0x00, 0x02) ∷ (0x00, 0x04) ∷ []) (DimensionHigh 6)
