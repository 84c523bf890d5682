use Rattle.std.proofs.Common.{ℕ, ◌<◌, [], ◌∷◌, map, sym, refl, subst, lit<, lit≤}
use Rattle.binary.specs.Products.{word_product, scale_x, times_z, nibble_product}
use Rattle.binary.proofs.Tests.{computed, computing}
use Rattle.field.specs.Alphabets.{octet_alphabet}
use Rattle.examples.proofs.Checked.{octets_lawful, counted_checked, divided_checked}
use Rattle.examples.proofs.Vectors.{Certificate, reduces, low, high, none, gives}
use Rattle.examples.proofs.worked_examples.Goals as goal

-- the reduced forms of the packets and of their residuals
nothing : {X : Type 0} → Certificate X
nothing = record { places = []; weights = []; rows = [] }

one : Certificate (ℕ × ℕ)
one = record { places = 0 ∷ []; weights = (1 ∷ []) ∷ []; rows = (0x01, 0x02) ∷ [] }

two : Certificate (ℕ × ℕ)
two = record { places = 0 ∷ 1 ∷ []; weights = (1 ∷ 0 ∷ []) ∷ (0 ∷ 1 ∷ []) ∷ []; rows = (0x01, 0x02) ∷ (0x02, 0x05) ∷ [] }

three : Certificate (ℕ × ℕ)
three = record {
  places = 0 ∷ 1 ∷ 2 ∷ [];
  weights = (1 ∷ 0 ∷ 0 ∷ []) ∷ (0 ∷ 1 ∷ 0 ∷ []) ∷ (0 ∷ 0 ∷ 1 ∷ []) ∷ [];
  rows = (0x01, 0x02) ∷ (0x02, 0x04) ∷ (0x04, 0x09) ∷ [];
}

one_residual : Certificate ℕ
one_residual = record { places = 0 ∷ []; weights = (0 ∷ 0 ∷ 1 ∷ []) ∷ []; rows = 0x01 ∷ [] }

five : Certificate (ℕ × ℕ)
five = record {
  places = 0 ∷ 1 ∷ 2 ∷ 8 ∷ 9 ∷ [];
  weights = (1 ∷ 0 ∷ 0 ∷ 0 ∷ 1 ∷ []) ∷ (0 ∷ 1 ∷ 0 ∷ 0 ∷ 0 ∷ []) ∷ (0 ∷ 0 ∷ 1 ∷ 0 ∷ 0 ∷ []) ∷ (0 ∷ 0 ∷ 0 ∷ 1 ∷ 0 ∷ []) ∷ (0 ∷ 0 ∷ 0 ∷ 0 ∷ 1 ∷ []) ∷ [];
  rows = (0x01, 0x00) ∷ (0x02, 0x04) ∷ (0x04, 0x08) ∷ (0x00, 0x01) ∷ (0x00, 0x02) ∷ [];
}

two_residuals : Certificate ℕ
two_residuals = record { places = 0 ∷ 1 ∷ []; weights = (0 ∷ 0 ∷ 0 ∷ 1 ∷ 0 ∷ []) ∷ (0 ∷ 0 ∷ 0 ∷ 0 ∷ 1 ∷ []) ∷ []; rows = 0x01 ∷ 0x02 ∷ [] }

six : Certificate (ℕ × ℕ)
six = record {
  places = 0 ∷ 1 ∷ 2 ∷ 8 ∷ 9 ∷ 10 ∷ [];
  weights = (1 ∷ 0 ∷ 0 ∷ 0 ∷ 1 ∷ 0 ∷ []) ∷ (0 ∷ 1 ∷ 0 ∷ 0 ∷ 0 ∷ 1 ∷ []) ∷ (0 ∷ 0 ∷ 1 ∷ 0 ∷ 0 ∷ 0 ∷ []) ∷ (0 ∷ 0 ∷ 0 ∷ 1 ∷ 0 ∷ 0 ∷ []) ∷ (0 ∷ 0 ∷ 0 ∷ 0 ∷ 1 ∷ 0 ∷ []) ∷ (0 ∷ 0 ∷ 0 ∷ 0 ∷ 0 ∷ 1 ∷ []) ∷ [];
  rows = (0x01, 0x00) ∷ (0x02, 0x00) ∷ (0x04, 0x08) ∷ (0x00, 0x01) ∷ (0x00, 0x02) ∷ (0x00, 0x04) ∷ [];
}

pub returns : goal.returns
unfolding nothing one two three one_residual five two_residuals six computing word_product scale_x times_z nibble_product
returns c =
    let octets = map octet_alphabet.element in
    record {
      worked = record {
        octet_product = refl;
        octet_raise = refl;
        word_product = refl;
        nibble_product = refl;
        nibble_raise = refl;
        octet_packets = refl;
        octet_division = record {
          divided = divided_checked octets_lawful _ _ _ _ 2
              (subst (λ n. 0 < n) (sym (counted_checked octets_lawful (octets (0x00 ∷ 0x01 ∷ [])) 1 (lit≤ tt) (lit< tt))) (lit< tt))
              (lit≤ tt) (lit≤ tt) (lit≤ tt) (computed _ _ 2 tt);
          quotient_counted = counted_checked octets_lawful (octets (0x80 ∷ [])) 0 (lit≤ tt) (lit< tt);
          remainder_counted = refl;
        };
      };
      solving = record {
        nothing_taken = low octets_lawful [] nothing tt 1 3 (lit≤ tt) tt (lit< tt);
        one_taken = gives octets_lawful ((0x01, 0x02) ∷ []) one tt 1 3 (lit≤ tt) tt (0x02 ∷ []) nothing tt refl (lit≤ tt);
        none_near = none octets_lawful ((0x01, 0x02) ∷ (0x02, 0x05) ∷ []) two tt 1 3 (lit≤ tt) tt refl (lit< tt) (lit≤ tt) (lit≤ tt) tt;
        one_foreign = gives octets_lawful ((0x01, 0x02) ∷ (0x02, 0x04) ∷ (0x04, 0x09) ∷ []) three tt 1 3 (lit≤ tt) tt (0x02 ∷ []) one_residual tt refl (lit≤ tt);
        two_foreign = gives octets_lawful ((0x01, 0x02) ∷ (0x02, 0x04) ∷ (0x04, 0x08) ∷ (0x00, 0x01) ∷ (0x00, 0x02) ∷ []) five tt 1 3 (lit≤ tt) tt (0x02 ∷ []) two_residuals tt refl (lit≤ tt);
        two_foreign_form = reduces octets_lawful ((0x01, 0x02) ∷ (0x02, 0x04) ∷ (0x04, 0x08) ∷ (0x00, 0x01) ∷ (0x00, 0x02) ∷ []) five tt;
        three_foreign = high octets_lawful ((0x01, 0x02) ∷ (0x02, 0x04) ∷ (0x04, 0x08) ∷ (0x00, 0x01) ∷ (0x00, 0x02) ∷ (0x00, 0x04) ∷ []) six tt 1 3 (lit≤ tt) tt (lit≤ tt) (lit< tt);
      };
    }
