-- Lines and parts at their places.
use Rattle.std.proofs.Common.{◌≡◌, ℕ, suc, ◌+◌, ◌<◌, ◌≤◌, List, [], ◌∷◌, ◌++◌, length, take, drop, sym, refl, ap, ◌∙◌, ⊎_elim, append_assoc, arith, length-append, length-drop}
use Rattle.std.proofs.lemmas.List.{drop_all, drop_at, drop-drop, drop-take, take_at, take-take, length-take-le}
use Rattle.std.proofs.lemmas.Bool.{cases_lt}
use Rattle.portal_log.specs.Text.{lf, before, lines}
use Rattle.portal_log.specs.Places.{placed, Stands}
use Rattle.portal_log.proofs.Cuts.{lines_cut, before_within}

pub length_placed : (place : ℕ) (texts : List (List ℕ)) → length (placed place texts) ≡ length texts
length_placed place [] = refl
length_placed place (text ∷ texts) = ap suc (length_placed (place + length text + 1) texts)

-- the line at `place`, of `end` bytes; the next begins `after` bytes on
module _ (text : List ℕ) (place end after : ℕ) (inside : place < length text) (is : end ≡ before lf (drop place text))
    (more : end < length (drop place text) → after ≡ end + 1) (none : length (drop place text) ≤ end → after ≡ end) where
  within : end ≤ length (drop place text)
  within = omega (arith, is, before_within lf (drop place text))

  pub line_cut : lines (drop place text) ≡ take end (drop place text) ∷ lines (drop (place + after) text)
  line_cut =
      let some : 0 < length (drop place text) = simp length-drop (omega arith) in
      lines_cut (drop place text) end after some is more none ∙ ap (λ rest. take end (drop place text) ∷ lines rest) (drop-drop after place text)

  rest_placed : placed (place + length (take end (drop place text)) + 1) (lines (drop (place + after) text)) ≡ placed (place + after) (lines (drop (place + after) text))
  rest_placed =
      let long = length-take-le end (drop place text) within in
      ⊎_elim
      (λ lt. ap (λ n. placed n (lines (drop (place + after) text))) (let e : place + length (take end (drop place text)) + 1 ≡ place + after = omega (arith, long, more lt) in e))
      (λ le.
      let past : length text ≤ place + after = omega (arith, none le, le, length-drop place text) in
      let nothing = ap lines (drop_all (place + after) text past) in
      ap (placed _) nothing ∙ sym (ap (placed _) nothing))
      (cases_lt end (length (drop place text)))

  pub placed_cut : placed place (lines (drop place text)) ≡ record { place = place; text = take end (drop place text) } ∷ placed (place + after) (lines (drop (place + after) text))
  placed_cut = ap (placed place) line_cut ∙ ap (λ ps. record { place = place; text = take end (drop place text) } ∷ ps) rest_placed

  pub line_stands : Stands text (record { place = place; text = take end (drop place text) })
  line_stands =
      let long = length-take-le end (drop place text) within in
      record { within = omega (arith, long, within, length-drop place text); bytes = ap (λ n. take n (drop place text)) (sym long) }

-- a text that stands at a place: its front, and what comes after a byte
module _ (whole : List ℕ) (place : ℕ) (front : List ℕ) where
  pub stands_front : (rest : List ℕ) → Stands whole (record { place = place; text = front ++ rest }) → Stands whole (record { place = place; text = front })
  stands_front rest h =
      let long = length-append front rest in
      record {
        within = omega (arith, h.within, long);
        bytes = sym (take_at front rest (length front) refl) ∙ ap (take (length front)) h.bytes ∙ take-take (length front) (length (front ++ rest)) (drop place whole) (omega (arith, long));
      }

  pub stands_after : (b : ℕ) (rest : List ℕ) → Stands whole (record { place = place; text = front ++ b ∷ rest }) → Stands whole (record { place = place + length front + 1; text = rest })
  stands_after b rest h =
      let long = length-append front (b ∷ rest) in
      let n = length front + 1 in
      let cut : drop n (front ++ b ∷ rest) ≡ rest = ap (drop n) (sym (append_assoc front (b ∷ []) rest)) ∙ drop_at (front ++ b ∷ []) rest n (simp length-append) in
      let many : length (front ++ b ∷ rest) ≡ n + length rest = omega (arith, long) in
      let on : place + n ≡ place + length front + 1 = omega arith in
      record {
        within = omega (arith, h.within, long);
        bytes = sym cut ∙ ap (drop n) h.bytes ∙ ap (λ k. drop n (take k (drop place whole))) many ∙ drop-take n (length rest) (drop place whole)
            ∙ ap (take (length rest)) (drop-drop n place whole ∙ ap (λ k. drop k whole) on);
      }
