-- How many packets of one number a log has.
--   numbered_length   no more than entries
--   entries_length    no more entries than bytes
--   fed_short         what a feed has still to come is within a feed's limit
-- Assumes nothing.
use Rattle.std.specs.Prelude.{ℕ, suc, ◌≤◌, List, [], ◌∷◌, length, drop, Some, None, Option, nat_lt}
use Rattle.std.proofs.Common.{◌∙◌, arith, length-drop}
use Rattle.std.specs.List.{cons_option}
use Rattle.std.proofs.lemmas.List.{length-map}
use Rattle.std.proofs.lemmas.Bool.{cond_both, ltb-false}
use Rattle.field.specs.Alphabet.{Alphabet}
use Rattle.packet.specs.declared.Packet.{Packet}
use Rattle.feed.specs.Feeds.{feed_limit}
use Rattle.portal_log.specs.declared.name.FieldName.{FieldName}
use Rattle.portal_log.specs.declared.reader.Reader.{Reader}
use Rattle.portal_log.specs.Entries.{log_limit, Entry, entry}
use Rattle.portal_log.specs.Views.{left_lines, placed_lines}
use Rattle.portal_log.specs.Readers.{left_entries}
use Rattle.portal_log.proofs.Cuts.{length_lines}
use Rattle.portal_log.proofs.Places.{length_placed}
use Rattle.log_feed.specs.Numbered.{with_number, numbered, fed}

length_cons : {X : Type 0} (o : Option X) (xs : List X) → length (cons_option o xs) ≤ suc (length xs)
length_cons None xs = omega arith
length_cons (Some x) xs = omega arith

module _ {K S : Type 0} (A : Alphabet K S) (name : FieldName) where
  pub numbered_length : (n : ℕ) (entries : List Entry) → length (numbered A name n entries) ≤ length entries
  numbered_length n [] = omega arith
  numbered_length n (e ∷ es) = omega (arith, length_cons (with_number A name n e) (numbered A name n es), numbered_length n es)

  pub entries_length : (r : Reader S) → length (left_entries A name r) ≤ length r.lines.text.now
  entries_length r =
      let text = r.lines.text.now in
      let many = length-map (placed_lines r.lines) (entry A name) ∙ length_placed r.lines.place (left_lines r.lines) in
      omega (arith, many, length_lines (drop r.lines.place text), length-drop r.lines.place text)

  pub fed_short : (n : ℕ) (r : Reader S) → length (fed A name n r) ≤ feed_limit
  fed_short n r =
      cond_both (nat_lt log_limit (length r.lines.text.now)) [] (numbered A name n (left_entries A name r)) (λ (ps : List (Packet S)). length ps ≤ feed_limit) (λ _. omega arith)
      (λ t. omega (arith, ltb-false _ _ t, numbered_length n (left_entries A name r), entries_length r))
