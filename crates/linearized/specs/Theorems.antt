-- The theorems on linearized polynomials and decoding, for every alphabet that keeps the laws of a symbol field.
--   ValuesLinear              values are linear in the symbol, and those of sums, multiples and compositions
--   CountedLeast           the counted length is the least bound on the places of non-zero coefficients
--   KernelBound            no more coefficients than independent roots: all are zero
--   DivisionStart          the division of D starts with the remainder D and no quotient
--   DivisionCoefficient    the coefficient that cancels the top of the remainder
--   DivisionStepKept           each step keeps what the division keeps
--   DivisionEnd            at place 0 quotient and remainder are found
--   DivisionExists         every division by a polynomial that is not zero comes out
--   DivisionUnique         with one quotient and one remainder
--   InterpolationStart     x alone and y alone start the interpolation
--   InterpolationStep      each packet's step keeps what the interpolation keeps
--   InterpolationNext      every state has a next one
--   InterpolationEnd       after the last packet the pair of smaller degree interpolates
--   InterpolationExists    every span of packets has an interpolating pair
--   HeadersSpanned         the symbols with codes below q^ℓ are the span of b_0 to b_(ℓ − 1), which are independent
--   GraphSpanned           the packets of a message over any headers X span its graph over their span, and are
--                           independent if X is
--   CodewordSpanned        the packets of a block are independent and span its codeword space, of dimension ℓ
--   DistanceShared         the distance from the dimensions of two spaces and of what they share
--   DistanceExists         two spans have a distance
--   DistanceFaults         lost and foreign dimensions together are the distance
--   ResidualRank           what a space shares with a codeword space, and its residuals, have its dimension together
--   SharedMeasured         so the dimension of what they share is r less the rank of the residuals
--   WithinMeasured         a message is within the radius exactly if twice the rank of its residuals, and k, are at most r
--   WithinReach            no message is within the radius if r < k or r + k > 2 ℓ
--   MinimumDistance        codeword spaces of different messages are at distance 2 (ℓ − k + 1) at least
--   CodewordWithin         a codeword space is within the radius of its own message
--   DecodingExact          a message within the radius is the quotient of every interpolating pair, with no remainder
--   DecodingUnique         and the only message within
--   DecodingMeasured       the front of the quotient is within the radius if its residuals say so, and else no message is
-- Assumes nothing.
use Rattle.std.specs.Prelude.{◌≡◌, ℕ, ◌+◌, ◌-◌, ◌*◌, ◌^◌, ◌<◌, ◌≤◌, ◌↔◌, List, map, length, slice_index_or}
use Rattle.std.specs.List.{range_with_len}
use Rattle.linear.specs.Field.{Field, iterate}
use Rattle.linear.specs.Rows.{Rows, RowLaws}
use Rattle.linear.specs.Span.{Each, Span, Spans, Independent, IsDim, Meet}
use Rattle.field.specs.Alphabet.{Alphabet, Lawful, symbol_rows}
use Rattle.packet.specs.declared.Packet.{Packet}
use Rattle.packet.specs.Packets.{packet_zero, packet_rows}
use Rattle.packet.specs.Headers.{HeaderBelow}
use Rattle.linearized.specs.Polynomials.{at, value, counted, Divided}
use Rattle.linearized.specs.Coefficients.{Same, Null, IsSum, IsMultiple, IsNegative, IsComposed}
use Rattle.linearized.specs.Division.{Dividing, DivisionStep}
use Rattle.linearized.specs.Code.{point, packet_at, Codeword, basis, packets, residual}
use Rattle.linearized.specs.Interpolation.{τ, State, Interpolates, IsStart, Next, Interpolating}
use Rattle.linearized.specs.Distance.{Distance, lost, foreign, Within}

pub record ValueLaws {K S : Type 0} (A : Alphabet K S) : Type 0 where
  pub of_symbols : (f : List S) (x y : S) → value A f (A.symbols.add x y) ≡ A.symbols.add (value A f x) (value A f y)
  pub of_scalar : (f : List S) (c : K) (x : S) → value A f (A.symbols.mul (A.embed c) x) ≡ A.symbols.mul (A.embed c) (value A f x)
  pub of_sum : (f g h : List S) → IsSum A.symbols f g h → (x : S) → value A h x ≡ A.symbols.add (value A f x) (value A g x)
  pub of_multiple : (c : S) (f h : List S) → IsMultiple A.symbols c f h → (x : S) → value A h x ≡ A.symbols.mul c (value A f x)
  pub of_composed : (B f h : List S) → IsComposed A B f h → (x : S) → value A h x ≡ value A B (value A f x)
  pub of_same : (f g : List S) → Same A.symbols f g → (x : S) → value A f x ≡ value A g x

abbrev pub ValuesLinear : Type 0 → Type 0 → Type 0
ValuesLinear K S = (A : Alphabet K S) → Lawful A → ValueLaws A

abbrev pub CountedLeast : Type 0 → Type 0
CountedLeast S = (G : Field S) (f : List S) (d : ℕ) → (counted G f ≤ d) ↔ ((n : ℕ) → d ≤ n → at G f n ≡ G.zero)

abbrev pub KernelBound : Type 0 → Type 0 → Type 0
KernelBound K S = (A : Alphabet K S) → Lawful A → (X f : List S) → Independent (symbol_rows A) A.scalars X → counted A.symbols f ≤ length X →
    Each (λ x. value A f x ≡ A.symbols.zero) X → Null A.symbols f

-- p is a place from which on the quotient has no coefficients
abbrev pub DivisionStart : Type 0 → Type 0 → Type 0
DivisionStart K S = (A : Alphabet K S) → Lawful A → (D B f R : List S) (e p : ℕ) → Null A.symbols f → Same A.symbols R D → counted A.symbols D ≤ p + e →
    Dividing A D B f R e p

-- e raises and n more are m raises, once or several times
abbrev pub DivisionCoefficient : Type 0 → Type 0 → Type 0
DivisionCoefficient K S = (A : Alphabet K S) → Lawful A → (e n j : ℕ) → e + n ≡ j * A.m → (b t : S) → ¬ (b ≡ A.symbols.zero) →
    A.symbols.mul b (iterate A.frobenius e (iterate A.frobenius n (A.symbols.mul (A.symbols.inv b) t))) ≡ t

abbrev pub DivisionStepKept : Type 0 → Type 0 → Type 0
DivisionStepKept K S = (A : Alphabet K S) → Lawful A → (D B f R g T : List S) (e p : ℕ) → counted A.symbols B ≡ e + 1 →
    Dividing A D B f R e (p + 1) → DivisionStep A B f R g T e p → Dividing A D B g T e p

abbrev pub DivisionEnd : Type 0 → Type 0 → Type 0
DivisionEnd K S = (A : Alphabet K S) → Lawful A → (D B f R : List S) (e : ℕ) → counted A.symbols B ≡ e + 1 → Dividing A D B f R e 0 → Divided A D B f R

abbrev pub DivisionExists : Type 0 → Type 0 → Type 0
DivisionExists K S = (A : Alphabet K S) → Lawful A → (D B : List S) → 0 < counted A.symbols B → (f : List S) × (R : List S) × Divided A D B f R

abbrev pub DivisionUnique : Type 0 → Type 0 → Type 0
DivisionUnique K S = (A : Alphabet K S) → Lawful A → (D B f R g T : List S) → Divided A D B f R → Divided A D B g T → Same A.symbols f g × Same A.symbols R T

abbrev pub InterpolationStart : Type 0 → Type 0 → Type 0
InterpolationStart K S = (A : Alphabet K S) → Lawful A → (k : ℕ) (L : List (Packet S)) (s : State S) → IsStart A k s → Interpolating A k L 0 s

abbrev pub InterpolationStep : Type 0 → Type 0 → Type 0
InterpolationStep K S = (A : Alphabet K S) → Lawful A → (k : ℕ) (L : List (Packet S)) (n : ℕ) (s t : State S) →
    Interpolating A k L n s → Next A s (slice_index_or L n (packet_zero A)) t → Interpolating A k L (n + 1) t

abbrev pub InterpolationNext : Type 0 → Type 0 → Type 0
InterpolationNext K S = (A : Alphabet K S) → Lawful A → (s : State S) (p : Packet S) → (t : State S) × Next A s p t

abbrev pub InterpolationEnd : Type 0 → Type 0 → Type 0
InterpolationEnd K S = (A : Alphabet K S) → Lawful A → (k : ℕ) (L : List (Packet S)) (s : State S) → Interpolating A k L (length L) s →
    (s.first_degree ≤ s.second_degree → Interpolates A k (τ (length L) k) (Span (packet_rows A) L) s.first.x s.first.y)
    × (s.second_degree < s.first_degree → Interpolates A k (τ (length L) k) (Span (packet_rows A) L) s.second.x s.second.y)

abbrev pub InterpolationExists : Type 0 → Type 0 → Type 0
InterpolationExists K S = (A : Alphabet K S) → Lawful A → (k r : ℕ) (L : List (Packet S)) → 0 < k → IsDim (packet_rows A) (Span (packet_rows A) L) r →
    (Qx : List S) × (Qy : List S) × Interpolates A k (τ r k) (Span (packet_rows A) L) Qx Qy

abbrev pub HeadersSpanned : Type 0 → Type 0 → Type 0
HeadersSpanned K S = (A : Alphabet K S) → Lawful A → (ℓ : ℕ) → ℓ ≤ A.m →
    Spans (symbol_rows A) (map (basis A) (range_with_len 0 ℓ)) (λ x. A.code x < A.q ^ ℓ) × Independent (symbol_rows A) A.scalars (map (basis A) (range_with_len 0 ℓ))

abbrev pub GraphSpanned : Type 0 → Type 0 → Type 0
GraphSpanned K S = (A : Alphabet K S) → Lawful A → (u X : List S) →
    Spans (packet_rows A) (map (packet_at A u) X) (λ p. Span (symbol_rows A) X p.x × (p.y ≡ value A u (point A p.x)))
    × (Independent (symbol_rows A) A.scalars X → Independent (packet_rows A) A.scalars (map (packet_at A u) X))

abbrev pub CodewordSpanned : Type 0 → Type 0 → Type 0
CodewordSpanned K S = (A : Alphabet K S) → Lawful A → (ℓ : ℕ) → ℓ ≤ A.m → (u : List S) →
    Spans (packet_rows A) (packets A ℓ u) (Codeword A ℓ u) × Independent (packet_rows A) A.scalars (packets A ℓ u) × IsDim (packet_rows A) (Codeword A ℓ u) ℓ

-- over every kind of row
abbrev pub DistanceShared : Type 0 → Type 0 → Type 0
DistanceShared K V = (F : Field K) (R : Rows K V) → RowLaws F R → (L M : List V) (a b s d : ℕ) →
    IsDim R (Span R L) a → IsDim R (Span R M) b → IsDim R (Meet R (Span R L) (Span R M)) s → Distance R (Span R L) (Span R M) d ↔ (d + 2 * s ≡ a + b)

abbrev pub DistanceExists : Type 0 → Type 0 → Type 0
DistanceExists K V = (F : Field K) (R : Rows K V) → RowLaws F R → (L M : List V) → (d : ℕ) × Distance R (Span R L) (Span R M) d

abbrev pub DistanceFaults : Type 0 → Type 0 → Type 0
DistanceFaults K S = (A : Alphabet K S) → Lawful A → (ℓ r s d : ℕ) → ℓ ≤ A.m → (L : List (Packet S)) (u : List S) →
    IsDim (packet_rows A) (Span (packet_rows A) L) r → IsDim (packet_rows A) (Meet (packet_rows A) (Span (packet_rows A) L) (Codeword A ℓ u)) s →
    Distance (packet_rows A) (Span (packet_rows A) L) (Codeword A ℓ u) d ↔ (lost ℓ s + foreign r s ≡ d)

abbrev pub ResidualRank : Type 0 → Type 0 → Type 0
ResidualRank K S = (A : Alphabet K S) → Lawful A → (ℓ r s b : ℕ) → ℓ ≤ A.m → (L : List (Packet S)) (u : List S) → Each (HeaderBelow A ℓ) L →
    IsDim (packet_rows A) (Span (packet_rows A) L) r → IsDim (packet_rows A) (Meet (packet_rows A) (Span (packet_rows A) L) (Codeword A ℓ u)) s →
    IsDim (symbol_rows A) (Span (symbol_rows A) (map (residual A u) L)) b → s + b ≡ r

abbrev pub SharedMeasured : Type 0 → Type 0 → Type 0
SharedMeasured K S = (A : Alphabet K S) → Lawful A → (ℓ r b : ℕ) → ℓ ≤ A.m → (L : List (Packet S)) (u : List S) → Each (HeaderBelow A ℓ) L →
    IsDim (packet_rows A) (Span (packet_rows A) L) r → IsDim (symbol_rows A) (Span (symbol_rows A) (map (residual A u) L)) b →
    (b ≤ r) × IsDim (packet_rows A) (Meet (packet_rows A) (Span (packet_rows A) L) (Codeword A ℓ u)) (r - b)

abbrev pub WithinMeasured : Type 0 → Type 0 → Type 0
WithinMeasured K S = (A : Alphabet K S) → Lawful A → (k ℓ r b : ℕ) → ℓ ≤ A.m → (L : List (Packet S)) (u : List S) → Each (HeaderBelow A ℓ) L →
    IsDim (packet_rows A) (Span (packet_rows A) L) r → IsDim (symbol_rows A) (Span (symbol_rows A) (map (residual A u) L)) b → length u ≡ k →
    Within A k ℓ (Span (packet_rows A) L) u ↔ (2 * b + k ≤ r)

abbrev pub WithinReach : Type 0 → Type 0 → Type 0
WithinReach K S = (A : Alphabet K S) → Lawful A → (k ℓ r : ℕ) → ℓ ≤ A.m → (L : List (Packet S)) (u : List S) → IsDim (packet_rows A) (Span (packet_rows A) L) r →
    Within A k ℓ (Span (packet_rows A) L) u → (k ≤ r) × (r + k ≤ 2 * ℓ)

abbrev pub MinimumDistance : Type 0 → Type 0 → Type 0
MinimumDistance K S = (A : Alphabet K S) → Lawful A → (k ℓ d : ℕ) → ℓ ≤ A.m → k ≤ ℓ → (u w : List S) → length u ≡ k → length w ≡ k → ¬ (u ≡ w) →
    Distance (packet_rows A) (Codeword A ℓ u) (Codeword A ℓ w) d → 2 * (ℓ - k + 1) ≤ d

abbrev pub CodewordWithin : Type 0 → Type 0 → Type 0
CodewordWithin K S = (A : Alphabet K S) → Lawful A → (k ℓ : ℕ) → ℓ ≤ A.m → k ≤ ℓ → (u : List S) → length u ≡ k → Within A k ℓ (Codeword A ℓ u) u

abbrev pub DecodingExact : Type 0 → Type 0 → Type 0
DecodingExact K S = (A : Alphabet K S) → Lawful A → (k ℓ r : ℕ) → ℓ ≤ A.m → (L : List (Packet S)) (u Qx Qy : List S) → IsDim (packet_rows A) (Span (packet_rows A) L) r →
    Interpolates A k (τ r k) (Span (packet_rows A) L) Qx Qy → Within A k ℓ (Span (packet_rows A) L) u →
    (0 < counted A.symbols Qy) × ((D f R : List S) → IsNegative A.symbols Qx D → Divided A D Qy f R → Same A.symbols f u × Null A.symbols R)

abbrev pub DecodingUnique : Type 0 → Type 0 → Type 0
DecodingUnique K S = (A : Alphabet K S) → Lawful A → (k ℓ r : ℕ) → ℓ ≤ A.m → (L : List (Packet S)) (u w : List S) → IsDim (packet_rows A) (Span (packet_rows A) L) r →
    Within A k ℓ (Span (packet_rows A) L) u → Within A k ℓ (Span (packet_rows A) L) w → u ≡ w

-- u has the first k coefficients of the quotient f, and its residuals have dimension b
abbrev pub DecodingMeasured : Type 0 → Type 0 → Type 0
DecodingMeasured K S = (A : Alphabet K S) → Lawful A → (k ℓ r b : ℕ) → ℓ ≤ A.m → (L : List (Packet S)) (Qx Qy D f R u : List S) → Each (HeaderBelow A ℓ) L →
    IsDim (packet_rows A) (Span (packet_rows A) L) r → Interpolates A k (τ r k) (Span (packet_rows A) L) Qx Qy → IsNegative A.symbols Qx D → Divided A D Qy f R →
    length u ≡ k → ((n : ℕ) → n < k → at A.symbols u n ≡ at A.symbols f n) → IsDim (symbol_rows A) (Span (symbol_rows A) (map (residual A u) L)) b →
    (2 * b + k ≤ r → Within A k ℓ (Span (packet_rows A) L) u) × ((w : List S) → Within A k ℓ (Span (packet_rows A) L) w → (w ≡ u) × (2 * b + k ≤ r))
