-- Packets as rows keep the laws of rows.
use mathlib.Core.Path.{◌≡◌, sym, ap, ◌∙◌}
use mathlib.Core.Bool.{true, false, cond}
use Prim.Native.Nat.{ℕ, ◌+◌, ◌-◌, ◌<◌}
use native.Mathlib.Nat.{add-sub_cancel_left}
use native.Mathlib.Omega.{arith}
use lib.Dec.{ltb}
use borrow.Author.Tests.{lt-ltb, le-ltb}
use Rattle.linear.specs.Rows.{RowLaws}
use Rattle.field.specs.Alphabet.{Alphabet, Lawful}
use Rattle.field.proofs.Symbols.{symbol_laws}
use Rattle.packet.specs.declared.Packet.{Packet}
use Rattle.packet.specs.Packets.{packet_rows, packet_coord}

module _ {K S : Type 0} (A : Alphabet K S) where
  pub coord_left : (p : Packet S) (i : ℕ) → i < A.m → packet_coord A p i ≡ A.coord p.x i
  coord_left p i h = ap (λ b. cond b (A.coord p.x i) (A.coord p.y (i - A.m))) (lt-ltb i A.m h)

  pub coord_right : (p : Packet S) (i : ℕ) → packet_coord A p (A.m + i) ≡ A.coord p.y i
  coord_right p i =
      ap (λ b. cond b (A.coord p.x (A.m + i)) (A.coord p.y ((A.m + i) - A.m))) (le-ltb (A.m + i) A.m (omega arith))
      ∙ ap (A.coord p.y) (add-sub_cancel_left A.m i)

module _ {K S : Type 0} {A : Alphabet K S} (laws : Lawful A) where
  pub packet_same : (p r : Packet S) → ((i : ℕ) → i < A.m + A.m → packet_coord A p i ≡ packet_coord A r i) → p ≡ r
  packet_same p r e =
      let same = (symbol_laws laws).same in
      let x-is = same p.x r.x (λ i h. sym (coord_left A p i h) ∙ e i (omega arith) ∙ coord_left A r i h) in
      let y-is = same p.y r.y (λ i h. sym (coord_right A p i) ∙ e (A.m + i) (omega arith) ∙ coord_right A r i) in
      λ t. record { x = x-is t; y = y-is t }

  pub packet_laws : RowLaws A.scalars (packet_rows A)
  packet_laws =
      let symbols = symbol_laws laws in
      record {
        coord_none = λ i. elim (ltb i A.m) as (λ b. cond b (A.coord A.symbols.zero i) (A.coord A.symbols.zero (i - A.m)) ≡ A.scalars.zero) [
          | true ↦ symbols.coord_none i
          | false ↦ symbols.coord_none (i - A.m)
        ];
        coord_plus = λ p r i. elim (ltb i A.m) as (λ b.
            cond b (A.coord (A.symbols.add p.x r.x) i) (A.coord (A.symbols.add p.y r.y) (i - A.m))
            ≡ A.scalars.add (cond b (A.coord p.x i) (A.coord p.y (i - A.m))) (cond b (A.coord r.x i) (A.coord r.y (i - A.m)))) [
              | true ↦ symbols.coord_plus p.x r.x i
              | false ↦ symbols.coord_plus p.y r.y (i - A.m)
            ];
        coord_times = λ c p i. elim (ltb i A.m) as (λ b.
            cond b (A.coord (A.symbols.mul (A.embed c) p.x) i) (A.coord (A.symbols.mul (A.embed c) p.y) (i - A.m))
            ≡ A.scalars.mul c (cond b (A.coord p.x i) (A.coord p.y (i - A.m)))) [
              | true ↦ symbols.coord_times c p.x i
              | false ↦ symbols.coord_times c p.y (i - A.m)
            ];
        same = packet_same;
      }
