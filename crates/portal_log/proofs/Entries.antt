-- Lines after the first, by their four parts.
use Rattle.std.proofs.Common.{◌≡◌, ℕ, ◌+◌, cond, eqb, List, [], ◌∷◌, ◌++◌, length, Some, None, codes, Option, sym, refl, ap, ◌∙◌, subst, arith, length-append}
use Rattle.std.specs.Str.{bytes_eq}
use Rattle.std.specs.List.{slice_split, onto_first as std_onto_first, join_with_byte}
use Rattle.std.proofs.lemmas.Bool.{cond_both}
use Rattle.std.proofs.lemmas.List.Splits.{join_with_byte-slice_split}
use Rattle.std.proofs.lemmas.Slice.Eq.{bytes_eq-Decides}
use Rattle.field.specs.Alphabet.{Alphabet}
use Rattle.packet.specs.declared.Packet.{Packet}
use Rattle.portal_log.specs.declared.name.FieldName.{FieldName}
use Rattle.portal_log.specs.Text.{comma, onto_first, parts, four}
use Rattle.portal_log.specs.Places.{Placed, Stands}
use Rattle.portal_log.specs.Entries.{packet_at, erased_at, unreadable_at, EntryStands, packet_of, other_entry, entry_parts, entry}
use Rattle.portal_log.proofs.Places.{stands_front, stands_after}

onto_same : (c : ℕ) (ps : List (List ℕ)) → onto_first c ps ≡ std_onto_first c ps
onto_same c [] = refl
onto_same c (p ∷ ps) = refl

parts_split : (text : List ℕ) → parts text ≡ slice_split (λ b. eqb b comma) text
parts_split [] = refl
parts_split (c ∷ cs) =
    ap (cond (eqb c comma) ([] ∷ parts cs)) (onto_same c (parts cs)) ∙ ap (λ ps. cond (eqb c comma) ([] ∷ ps) (std_onto_first c ps)) (parts_split cs)

-- the parts make up the line
parts_joined : (text : List ℕ) → join_with_byte comma (parts text) ≡ text
parts_joined text = ap (join_with_byte comma) (parts_split text) ∙ join_with_byte-slice_split comma text

four_are : (ps : List (List ℕ)) (p : List ℕ × List ℕ × List ℕ × List ℕ) → Some p ≡ four ps → ps ≡ p.0 ∷ p.1 ∷ p.2 ∷ p.3 ∷ []
four_are [] p e = cc
four_are (a ∷ []) p e = cc
four_are (a ∷ b ∷ []) p e = cc
four_are (a ∷ b ∷ c ∷ []) p e = cc
four_are (a ∷ b ∷ c ∷ d ∷ []) p e = cc
four_are (a ∷ b ∷ c ∷ d ∷ x ∷ ps) p e = cc

-- p are the four parts of a line
pub parts_long : (text : List ℕ) (p : List ℕ × List ℕ × List ℕ × List ℕ) → Some p ≡ four (parts text) → length text ≡ length p.0 + length p.1 + length p.2 + length p.3 + 3
parts_long text p is =
    let whole = sym (parts_joined text) ∙ ap (join_with_byte comma) (four_are (parts text) p is) in
    omega (arith, simp length-append at (ap length whole))

-- where a line stands in a log, its parts do
module _ {K S : Type 0} (A : Alphabet K S) (name : FieldName) (log : List ℕ) (at : Placed) (h : Stands log at) where
  packet_stands : (o : Option (ℕ × Packet S)) (number header payload : Placed) → EntryStands log (packet_at number header payload) →
      EntryStands log (elim o [ None ↦ unreadable_at at | Some p ↦ packet_at number header payload ])
  packet_stands None number header payload all = h
  packet_stands (Some p) number header payload all = all

  other_stands : EntryStands log (other_entry A name at)
  other_stands =
      cond_both (bytes_eq at.text (codes "E,,,")) (erased_at at.place) (unreadable_at at) (EntryStands log)
      (λ t. subst (λ (text : List ℕ). Stands log (record { place = at.place; text = text })) ((bytes_eq-Decides at.text (codes "E,,,")).0 t) h) (λ _. h)

  parts_stand : (a b c d : List ℕ) → parts at.text ≡ a ∷ b ∷ c ∷ d ∷ [] → EntryStands log (entry_parts A name at (a ∷ b ∷ c ∷ d ∷ []))
  parts_stand a b c d e =
      let place = at.place in
      let whole : at.text ≡ a ++ comma ∷ (b ++ comma ∷ (c ++ comma ∷ d)) = sym (parts_joined at.text) ∙ ap (join_with_byte comma) e in
      let first = stands_after log place a comma _ (subst (λ (text : List ℕ). Stands log (record { place = place; text = text })) whole h) in
      let second = stands_after log _ b comma _ first in
      let third = stands_after log _ c comma _ second in
      cond_both (bytes_eq a (codes "P")) _ (other_entry A name at) (EntryStands log)
      (λ _. packet_stands (packet_of A name b c d) _ _ _ (stands_front log _ b _ first, stands_front log _ c _ second, third)) (λ _. other_stands)

  pub entry_stands : EntryStands log (entry A name at)
  entry_stands = go (parts at.text) refl
    where
      go : (ps : List (List ℕ)) → parts at.text ≡ ps → EntryStands log (entry_parts A name at ps)
      go [] e = h
      go (a ∷ []) e = h
      go (a ∷ b ∷ []) e = h
      go (a ∷ b ∷ c ∷ []) e = h
      go (a ∷ b ∷ c ∷ d ∷ []) e = parts_stand a b c d e
      go (a ∷ b ∷ c ∷ d ∷ x ∷ ps) e = h
