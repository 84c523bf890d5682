use Rattle.std.proofs.Common.{◌≡◌, ℕ, ◌+◌, ◌-◌, ◌*◌, ◌%◌, ◌<◌, List, map, get_or, Some, sym, refl, ◌∙◌, subst, arith}
use Rattle.linear.specs.Field.{Field, reciprocal}
use Rattle.linearized.specs.Polynomials.{at, counted}
use Rattle.subspace_code.proofs.Slots.{at_slot, counted_slots}
use Rattle.subspace_code.proofs.Quotients.{raises_undo, lead_inverse}
use Rattle.subspace_code.proofs.division.lead_of.Goals as goal

pub offset_bounds-divisor-place : goal.offset_bounds-divisor-place
offset_bounds-divisor-place g c = omega (arith, c.counted_length-place.ensures, counted_slots g.F.FiniteField.field g.H.Holding.held c.args.divisor.now)

pub bounds-divisor-place : goal.bounds-divisor-place
bounds-divisor-place g c =
    omega (arith, c.requires, c.counted_length-place.ensures, counted_slots g.F.FiniteField.field g.H.Holding.held c.args.divisor.now)

-- what the slot at the end of the count, n, holds has an inverse
inverted : {S T : Type 0} (G : Field S) (held : T → S) (slots : List T) (n : ℕ) (slot : T) (x : S) → n ≡ counted G (map held slots) → 0 < counted G (map held slots) →
    slot ≡ get_or slots (n - 1) slot → x ≡ held slot → reciprocal G x ≡ Some (G.inv (at G (map held slots) (n - 1)))
inverted G held slots n slot x count some is loaded =
    lead_inverse G (map held slots) (n - 1) x (omega arith) (loaded ∙ sym (at_slot G held slots (n - 1) slot (omega (arith, counted_slots G held slots)) is))

pub unwrap-inverse-requires : goal.unwrap-inverse-requires
unwrap-inverse-requires g c =
    rw (c.inverse.ensures ∙ inverted g.F.FiniteField.field g.H.Holding.held c.args.divisor.now _ _ _ c.counted_length-place.ensures c.requires c.index-divisor-place.is c.load.ensures) refl

pub returns : goal.returns
returns g c =
    let n = c.counted_length-place.result in
    let found = inverted g.F.FiniteField.field g.H.Holding.held c.args.divisor.now _ _ _ c.counted_length-place.ensures c.requires c.index-divisor-place.is c.load.ensures in
    let both = sym c.unwrap-inverse.ensures ∙ c.inverse.ensures ∙ found in
    record {
      top = omega (arith, c.requires, c.counted_length-place.ensures);
      inverts = cc;
      undoes = subst (λ m. (j : ℕ) × ((n - 1) + (m - (n - 1) % m) % m ≡ j * g.F.SymbolField.DEGREE)) (sym c.DEGREE-m.ensures)
          (raises_undo (n - 1) g.F.SymbolField.DEGREE g.met.F.SymbolField.extension.one_coordinate);
    }
