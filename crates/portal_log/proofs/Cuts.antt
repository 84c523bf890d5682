-- A text cut at the first byte of a kind: bytes before it, and the pieces.
use Rattle.std.proofs.Common.{◌≡◌, ℕ, suc, ◌+◌, ◌<◌, ◌≤◌, Bool, true, false, cond, eqb, List, [], ◌∷◌, length, take, drop, sym, refl, ap, ◌∙◌, ap₂, ⊎_elim, arith, add-one, Some, None, Option, length-drop}
use Rattle.std.proofs.lemmas.List.{take_all, drop_all, take_rest, drop-drop}
use Rattle.std.proofs.lemmas.Bool.{cases_lt, cond-true, cond-false, cond_both, eq-eqb, ne_eqb}
use Rattle.std.specs.Borrow.{Bor}
use Rattle.std.specs.Slice.{IsGetRangeResult}
use Rattle.portal_log.specs.Views.{parts_of}
use Rattle.portal_log.specs.Text.{lf, comma, before, onto_first, pieces, lines, parts}

pub before_here : (b c : ℕ) (cs : List ℕ) → c ≡ b → before b (c ∷ cs) ≡ 0
before_here b c cs e = cond-true _ 0 _ (eq-eqb _ b e)

pub before_more : (b c : ℕ) (cs : List ℕ) → (c ≡ b → ⊥) → before b (c ∷ cs) ≡ before b cs + 1
before_more b c cs e = cond-false _ 0 _ (ne_eqb _ b e) ∙ sym (add-one (before b cs))

pub before_within : (b : ℕ) (text : List ℕ) → before b text ≤ length text
before_within b [] = omega arith
before_within b (c ∷ cs) =
    let rest = before_within b cs in
    cond_both (eqb c b) 0 (suc (before b cs)) (λ n. n ≤ suc (length cs)) (λ _. omega arith) (λ _. omega arith)

module _ (b : ℕ) (last : List (List ℕ)) where
  -- cut at the first b
  pub pieces_cut : (text : List ℕ) → before b text < length text →
      pieces b last text ≡ take (before b text) text ∷ pieces b last (drop (before b text + 1) text)
  pieces_cut [] h = absurd (omega arith)
  pieces_cut (c ∷ cs) h = go (eqb c b) (pieces_cut cs) h
    where
      go : (t : Bool) → (before b cs < length cs → pieces b last cs ≡ take (before b cs) cs ∷ pieces b last (drop (before b cs + 1) cs)) →
          cond t 0 (suc (before b cs)) < suc (length cs) →
          cond t ([] ∷ pieces b last cs) (onto_first c (pieces b last cs))
          ≡ take (cond t 0 (suc (before b cs))) (c ∷ cs) ∷ pieces b last (drop (cond t 0 (suc (before b cs)) + 1) (c ∷ cs))
      go true rest h = refl
      go false rest h =
          ap (onto_first c) (rest (omega arith))
          ∙ ap (λ n. (c ∷ take (before b cs) cs) ∷ pieces b last (drop n (c ∷ cs))) (let e : suc (before b cs + 1) ≡ suc (before b cs) + 1 = omega arith in e)

  -- no b in c ∷ cs, where that is known of cs
  alone : (c : ℕ) (cs : List ℕ) (t : Bool) → (length cs ≤ before b cs → onto_first c (pieces b last cs) ≡ (c ∷ cs) ∷ []) →
      suc (length cs) ≤ cond t 0 (suc (before b cs)) → cond t ([] ∷ pieces b last cs) (onto_first c (pieces b last cs)) ≡ (c ∷ cs) ∷ []
  alone c cs true rest h = absurd (omega arith)
  alone c cs false rest h = rest (omega arith)

  -- no b, and at least one byte
  pub pieces_whole : ((c : ℕ) → onto_first c last ≡ (c ∷ []) ∷ []) → (c : ℕ) (cs : List ℕ) → length (c ∷ cs) ≤ before b (c ∷ cs) → pieces b last (c ∷ cs) ≡ (c ∷ cs) ∷ []
  pieces_whole single c [] = alone c [] (eqb c b) (λ _. single c)
  pieces_whole single c (d ∷ ds) = alone c (d ∷ ds) (eqb c b) (λ h. ap (onto_first c) (pieces_whole single d ds h))

length_onto_first : (c : ℕ) (ps : List (List ℕ)) → length (onto_first c ps) ≤ suc (length ps)
length_onto_first c [] = omega arith
length_onto_first c (p ∷ ps) = omega arith

-- no more lines than bytes
pub length_lines : (text : List ℕ) → length (lines text) ≤ length text
length_lines [] = omega arith
length_lines (c ∷ cs) =
    let rest = length_lines cs in
    cond_both (eqb c lf) ([] ∷ lines cs) (onto_first c (lines cs)) (λ ps. length ps ≤ suc (length cs)) (λ _. omega arith) (λ _. omega (arith, length_onto_first c (lines cs)))

-- the first line, and the lines after its LF, if it has one
pub lines_cut : (text : List ℕ) (end after : ℕ) → 0 < length text → end ≡ before lf text →
    (end < length text → after ≡ end + 1) → (length text ≤ end → after ≡ end) → lines text ≡ take end text ∷ lines (drop after text)
lines_cut [] end after h is more none = absurd (omega arith)
lines_cut (c ∷ cs) end after h is more none =
    ⊎_elim
    (λ lt. pieces_cut lf [] (c ∷ cs) (omega (arith, is, lt)) ∙ ap₂ (λ e a. take e (c ∷ cs) ∷ lines (drop a (c ∷ cs))) (sym is) (ap (λ n. n + 1) (sym is) ∙ sym (more lt)))
    (λ le.
    pieces_whole lf [] (λ _. refl) c cs (omega (arith, is, le))
    ∙ ap₂ (λ front rest. front ∷ lines rest) (sym (take_all end (c ∷ cs) le)) (sym (drop_all after (c ∷ cs) (omega (arith, none le)))))
    (cases_lt end (length (c ∷ cs)))

-- the first part, and those after its comma, if it has one; `back` begins with that comma
pub parts_first : (text : List ℕ) (end : ℕ) (o : Option (Bor (List ℕ))) → end ≡ before comma text → (back : List ℕ) → back ≡ drop end text → IsGetRangeResult back 1 (length back) o →
    parts text ≡ take end text ∷ parts_of o
parts_first text end (Some rest) is back e h =
    let long = ap length e ∙ length-drop end text in
    let after : rest.now ≡ drop (end + 1) text = h.0.2 ∙ take_rest back 1 ∙ ap (drop 1) e ∙ drop-drop 1 end text in
    pieces_cut comma ([] ∷ []) text (omega (arith, is, h.0.0, long))
    ∙ ap (λ n. take n text ∷ parts (drop (n + 1) text)) (sym is) ∙ ap (λ more. take end text ∷ parts more) (sym after)
parts_first text end None is back e h = whole text end is (⊎_elim (λ lt. omega (arith, ap length e ∙ length-drop end text)) (λ lt. absurd (omega arith)) h.0)
  where
    whole : (text : List ℕ) (end : ℕ) → end ≡ before comma text → length text ≤ end → parts text ≡ take end text ∷ []
    whole [] end is h = ap (λ n. take n [] ∷ []) (sym is)
    whole (c ∷ cs) end is h = pieces_whole comma ([] ∷ []) (λ _. refl) c cs (omega (arith, is, h)) ∙ ap (λ front. front ∷ []) (sym (take_all end (c ∷ cs) h))
