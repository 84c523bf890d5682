-- Interpolation: a pair of polynomials that vanishes on a space of packets, and how one is found packet by packet.
--   Pair            a polynomial in x and one in y
--   pair_value      Qx(x) + Qy(y) at a packet
--   τ               (r + k)/2 rounded up
--   Interpolates    Qx and Qy have few coefficients, are not both zero, and vanish together on the space U
--   State           two pairs, with a weighted degree for each: x counts by its place, y by its place and k − 1 more
--   Raises          P is raise(Q) − a Q, where a v is v raised: it vanishes where Q does, and where Q is v
--   Combines        T is c P − d Q
--   IsStart         the state before the first packet: x alone, and y alone
--   Next            one packet more: of the pairs that do not vanish on it the one of smaller degree is raised, and
--                   the other pair is combined with it, so that both vanish
--   LeadsInX        the degree of a pair is the place of the last coefficient in x, and those in y fall short of it
--   LeadsInY        the same with x and y changed over; the last coefficient in y stands k − 1 places lower
--   Interpolating   both pairs vanish on the first n packets of L, the first leads in x and the second in y, and
--                   the degrees are small
-- Assumes nothing.
use Rattle.std.specs.Prelude.{◌≡◌, ℕ, ◌+◌, ◌-◌, ◌/◌, ◌<◌, ◌≤◌, ◌⊎◌, List, [], ◌∷◌, slice_index_or}
use Rattle.field.specs.Alphabet.{Alphabet}
use Rattle.packet.specs.declared.Packet.{Packet}
use Rattle.packet.specs.Packets.{packet_zero}
use Rattle.linearized.specs.Polynomials.{at, counted, value}
use Rattle.linearized.specs.Coefficients.{Same, Null, before}
use Rattle.linearized.specs.Code.{point}

abbrev pub τ : ℕ → ℕ → ℕ
τ r k = (r + k + 1) / 2

pub record Pair (S : Type 0) : Type 0 where
  pub x : List S
  pub y : List S

pub record State (S : Type 0) : Type 0 where
  pub first : Pair S
  pub second : Pair S
  pub first_degree : ℕ
  pub second_degree : ℕ

module _ {K S : Type 0} (A : Alphabet K S) where
  open A use {symbols as G, frobenius}

  abbrev pub pair_value : Pair S → Packet S → S
  pair_value Q p = G.add (value A Q.x (point A p.x)) (value A Q.y p.y)

  -- t is the bound on Qx
  pub record Interpolates (k t : ℕ) (U : Packet S → Type 0) (Qx Qy : List S) : Type 0 where
    pub few_x : counted G Qx ≤ t
    pub few_y : counted G Qy ≤ t + 1 - k
    pub some : 0 < counted G Qx + counted G Qy
    pub vanish : (p : Packet S) → U p → G.add (value A Qx (point A p.x)) (value A Qy p.y) ≡ G.zero

  pub record Raises (v : S) (Q P : Pair S) : Type 0 where
    pub factor : S
    pub clears : G.mul factor v ≡ frobenius v
    pub in_x : (n : ℕ) → at G P.x n ≡ G.add (frobenius (before G Q.x n)) (G.neg (G.mul factor (at G Q.x n)))
    pub in_y : (n : ℕ) → at G P.y n ≡ G.add (frobenius (before G Q.y n)) (G.neg (G.mul factor (at G Q.y n)))

  pub record Combines (c : S) (P : Pair S) (d : S) (Q T : Pair S) : Type 0 where
    pub in_x : (n : ℕ) → at G T.x n ≡ G.add (G.mul c (at G P.x n)) (G.neg (G.mul d (at G Q.x n)))
    pub in_y : (n : ℕ) → at G T.y n ≡ G.add (G.mul c (at G P.y n)) (G.neg (G.mul d (at G Q.y n)))

  pub record IsStart (k : ℕ) (s : State S) : Type 0 where
    pub first_x : Same G s.first.x (G.one ∷ [])
    pub first_y : Null G s.first.y
    pub second_x : Null G s.second.x
    pub second_y : Same G s.second.y (G.one ∷ [])
    pub first_degree : s.first_degree ≡ 0
    pub second_degree : s.second_degree + 1 ≡ k

  pub data Next (s : State S) (p : Packet S) : State S → Type 0 where
    keep : pair_value s.first p ≡ G.zero → pair_value s.second p ≡ G.zero → Next s p s
    raise_first : {P Q : Pair S} → ¬ (pair_value s.first p ≡ G.zero) →
        (pair_value s.second p ≡ G.zero) ⊎ (s.first_degree ≤ s.second_degree) →
        Raises (pair_value s.first p) s.first P →
        Combines (pair_value s.second p) s.first (pair_value s.first p) s.second Q →
        Next s p (record { first = P; second = Q; first_degree = s.first_degree + 1; second_degree = s.second_degree })
    raise_second : {P Q : Pair S} → ¬ (pair_value s.second p ≡ G.zero) →
        (pair_value s.first p ≡ G.zero) ⊎ (s.second_degree < s.first_degree) →
        Raises (pair_value s.second p) s.second Q →
        Combines (pair_value s.second p) s.first (pair_value s.first p) s.second P →
        Next s p (record { first = P; second = Q; first_degree = s.first_degree; second_degree = s.second_degree + 1 })

  pub record LeadsInX (k : ℕ) (Q : Pair S) (degree : ℕ) : Type 0 where
    pub top : ¬ (at G Q.x degree ≡ G.zero)
    pub few_x : (n : ℕ) → degree < n → at G Q.x n ≡ G.zero
    pub few_y : (n : ℕ) → degree < n + k → at G Q.y n ≡ G.zero

  pub record LeadsInY (k : ℕ) (Q : Pair S) (degree : ℕ) : Type 0 where
    pub place : ℕ
    pub placed : place + k ≡ degree + 1
    pub top : ¬ (at G Q.y place ≡ G.zero)
    pub few_x : (n : ℕ) → degree < n → at G Q.x n ≡ G.zero
    pub few_y : (n : ℕ) → degree + 1 < n + k → at G Q.y n ≡ G.zero

  pub record Interpolating (k : ℕ) (L : List (Packet S)) (n : ℕ) (s : State S) : Type 0 where
    pub first_leads : LeadsInX k s.first s.first_degree
    pub second_leads : LeadsInY k s.second s.second_degree
    pub first_zero : (i : ℕ) → i < n → pair_value s.first (slice_index_or L i (packet_zero A)) ≡ G.zero
    pub second_zero : (i : ℕ) → i < n → pair_value s.second (slice_index_or L i (packet_zero A)) ≡ G.zero
    pub degrees : s.first_degree + s.second_degree + 1 ≤ n + k
