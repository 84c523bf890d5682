-- Sheets, read and printed one line after another.
use Rattle.std.proofs.Common.{◌≡◌, ℕ, ◌+◌, ◌≤◌, List, ◌∷◌, ◌++◌, length, drop, Ok, Err, Result, sym, refl, ap, ◌∙◌, append_assoc, arith, length-drop}
use Rattle.std.specs.List.{flat_map}
use Rattle.std.specs.Result.{result_map_both}
use Rattle.field.specs.Alphabet.{Alphabet}
use Rattle.answer.specs.declared.refusal.Refusal.{Refusal}
use Rattle.portal_log.specs.declared.name.FieldName.{FieldName}
use Rattle.portal_log.specs.declared.text.Lines.{Lines}
use Rattle.portal_log.specs.Text.{parts}
use Rattle.portal_log.specs.Views.{left_lines}
use Rattle.portal_log.proofs.Cuts.{length_lines}
use Rattle.sending.specs.Outcomes.{and_then, onto}
use Rattle.sending.specs.Blocks.{printed, block_of, block_text, blocks_text}

-- no more lines are left than bytes
pub left_few : (s : Lines) → length (left_lines s) ≤ length s.text.now
left_few s = omega (arith, length_lines (drop s.place s.text.now), length-drop s.place s.text.now)

printed_onto : (first t : List ℕ) (rest : Result (List (List ℕ)) (Refusal × ℕ)) → printed (first ++ t) rest ≡ printed first (onto (Ok t) rest)
printed_onto first t (Ok texts) = append_assoc first t (flat_map (λ s. s) texts)
printed_onto first t (Err at) = refl

module _ {K S : Type 0} (A : Alphabet K S) (name : FieldName) (k ℓ : ℕ) where
  -- the answer to line n
  answer : ℕ → Result (List ℕ) Refusal → Result (List ℕ) (Refusal × ℕ)
  answer n r = result_map_both (λ t. t) (λ refusal. (refusal, n)) r

  -- `first` is printed so far, and `left` are the lines from n on
  module _ (first : List ℕ) (n : ℕ) (left : List (List ℕ)) where
    pub printed_more : (text : List ℕ) (more : List (List ℕ)) (t : List ℕ) → left ≡ text ∷ more → and_then (block_of A name (parts text)) (block_text A name k ℓ) ≡ Ok t →
        printed (first ++ t) (blocks_text A name k ℓ (n + 1) more) ≡ printed first (blocks_text A name k ℓ n left)
    unfolding answer
    printed_more text more t is at =
        let rest = blocks_text A name k ℓ (n + 1) more in
        printed_onto first t rest ∙ ap (λ r. printed first (onto (answer n r) rest)) (sym at) ∙ ap (λ texts. printed first (blocks_text A name k ℓ n texts)) (sym is)
