-- Coefficients in slots: what a slot read or written tells of the list of symbols that the slots hold.
use Rattle.std.proofs.Common.{◌≡◌, ℕ, zero, suc, ◌+◌, ◌-◌, ◌<◌, ◌≤◌, List, [], ◌∷◌, ◌++◌, map, length, get_or, take, set, None, Some, Option, sym, refl, ap, subst, ◌∙◌, arith, length-take}
use native.Mathlib.Decide.{dec_lt}
use lib.ListN.{length-map, get_or-eq_default}
use Rattle.std.proofs.lemmas.List.{get_or-map, get_or-set_same, get_or-set_other, map-set, map-append, get_or_append_left, get_or-append_right, get_or-take, take-map}
use Rattle.std.specs.Option.{MatchOption}
use Rattle.linear.specs.Field.{Field}
use Rattle.field.specs.Laws.{Codes}
use Rattle.linearized.specs.Polynomials.{at, counted}
use Rattle.linearized.specs.Coefficients.{Same, Null}
use Rattle.linearized.proofs.Counts.{counted_past, counted_least, counted_length, counted_some}

pub code_zero_only : {S : Type 0} {G : Field S} {size : ℕ} {code : S → ℕ} {element : ℕ → S} → Codes G size code element →
    (x : S) → code x ≡ 0 → x ≡ G.zero
code_zero_only {G = G} {element = element} laws x e =
    sym (laws.element_code x) ∙ ap element (e ∙ sym laws.code_zero) ∙ laws.element_code G.zero

-- the count is where zeros begin
pub counted_from : {S : Type 0} (G : Field S) (f : List S) (n : ℕ) → ((k : ℕ) → n ≤ k → at G f k ≡ G.zero) →
    (0 < n → ¬ (at G f (n - 1) ≡ G.zero)) → n ≡ counted G f
counted_from G f n past top =
    let most = counted_least G f n past in
    elim (dec_lt 0 n) [ yes l ↦ omega (arith, counted_some G f (n - 1) (top l)) | no l ↦ omega arith ]

pub at_past : {S : Type 0} (G : Field S) (f : List S) (i : ℕ) → length f ≤ i → at G f i ≡ G.zero
at_past G f i l = get_or-eq_default f G.zero l

module _ {S T : Type 0} (G : Field S) (held : T → S) (slots : List T) where
  pub at_slot : (i : ℕ) (slot : T) → i < length slots → slot ≡ get_or slots i slot → at G (map held slots) i ≡ held slot
  at_slot i slot l e = get_or-map held slots i slot G.zero l ∙ ap held (sym e)

  pub at_written : (i : ℕ) (slot : T) → i < length slots → at G (map held (set slots i slot)) i ≡ held slot
  at_written i slot l = ap (λ f. at G f i) (map-set held slots i slot) ∙ get_or-set_same (map held slots) i (held slot) G.zero (rw length-map l)

  pub at_unwritten : (i : ℕ) (slot : T) (n : ℕ) → ¬ (n ≡ i) → at G (map held (set slots i slot)) n ≡ at G (map held slots) n
  at_unwritten i slot n h = ap (λ f. at G f n) (map-set held slots i slot) ∙ get_or-set_other (map held slots) i n (held slot) G.zero h

  pub at_past_slots : (i : ℕ) → length slots ≤ i → at G (map held slots) i ≡ G.zero
  at_past_slots i l = at_past G (map held slots) i (rw length-map l)

  pub counted_slots : counted G (map held slots) ≤ length slots
  counted_slots = omega (arith, counted_length G (map held slots), length-map slots held)

module _ {S T : Type 0} (G : Field S) (held : T → S) where
  pub null_none : Null G (map held [])
  null_none k = refl

  -- one zero more
  pub null_more : (slots : List T) (slot : T) → Null G (map held slots) → held slot ≡ G.zero → Null G (map held (slots ++ slot ∷ []))
  null_more [] slot null is zero = is
  null_more [] slot null is (suc k) = refl
  null_more (first ∷ slots) slot null is zero = null 0
  null_more (first ∷ slots) slot null is (suc k) = null_more slots slot (λ n. null (suc n)) is k

  at_front : (front rest : List T) (k : ℕ) → k < length front → at G (map held (front ++ rest)) k ≡ at G (map held front) k
  at_front front rest k l =
      ap (λ f. at G f k) (map-append held front rest) ∙ get_or_append_left (map held front) (map held rest) G.zero k (rw length-map l)

  at_rest : (front rest : List T) (n k : ℕ) → length front ≡ n → n ≤ k → at G (map held (front ++ rest)) k ≡ at G (map held rest) (k - n)
  at_rest front rest n k e l =
      ap (λ f. at G f k) (map-append held front rest) ∙ get_or-append_right (map held front) (map held rest) n k G.zero (length-map front held ∙ e) l

  pub at_taken : (slots : List T) (n k : ℕ) → k < n → at G (map held (take n slots)) k ≡ at G (map held slots) k
  at_taken slots n k l = ap (λ f. at G f k) (sym (take-map held n slots)) ∙ get_or-take n (map held slots) k G.zero l

  -- the first n slots, and zeros after them
  pub filled_up : (slots front rest : List T) (n : ℕ) → front ≡ take n slots → n ≤ length slots → counted G (map held slots) ≤ n →
      Null G (map held rest) → Same G (map held (front ++ rest)) (map held slots)
  filled_up slots front rest n is long count null k =
      let many : length front ≡ n = ap length is ∙ simp length-take (omega arith) in
      elim (dec_lt k n) [
        | yes l ↦
            at_front front rest k (omega arith)
            ∙ ap (λ f. at G (map held f) k) is ∙ at_taken slots n k l
        | no l ↦ at_rest front rest n k many (omega arith) ∙ null (k - n) ∙ sym (counted_past G (map held slots) k (omega arith))
      ]

module _ {S T : Type 0} {G : Field S} {size : ℕ} {code : S → ℕ} {element : ℕ → S} (laws : Codes G size code element) (held : T → S) where
  zero_slots : (slots : List T) (n : ℕ) → ((k : ℕ) (slot : T) → n ≤ k → k < length slots → code (held (get_or slots k slot)) ≡ 0)
      → (k : ℕ) → n ≤ k → at G (map held slots) k ≡ G.zero
  zero_slots [] n none k l = refl
  zero_slots (first ∷ slots) n none k l = elim (dec_lt k (length (first ∷ slots))) [
    | yes inside ↦ code_zero_only laws _ (ap code (get_or-map held (first ∷ slots) k first G.zero inside) ∙ none k first l inside)
    | no past ↦ at_past_slots G held (first ∷ slots) k (omega arith)
  ]

  some_slot : (slots : List T) (i : ℕ) → i < length slots → ((slot : T) → ¬ (code (held (get_or slots i slot)) ≡ 0)) → ¬ (at G (map held slots) i ≡ G.zero)
  some_slot [] i inside some is = omega arith
  some_slot (first ∷ slots) i inside some is =
      some first (ap code (sym (get_or-map held (first ∷ slots) i first G.zero inside) ∙ is) ∙ laws.code_zero)

  -- the last slot whose code is not zero, where there is one, ends the count
  pub counted_by_last : (slots : List T) (found : Option ℕ) (n : ℕ)
      → MatchOption found ((k : ℕ) (slot : T) → k < length slots → code (held (get_or slots k slot)) ≡ 0)
      (λ i. (i < length slots) × ((slot : T) → ¬ (code (held (get_or slots i slot)) ≡ 0)) × ((k : ℕ) (slot : T) → i < k → k < length slots → code (held (get_or slots k slot)) ≡ 0))
      → MatchOption found (n ≡ 0) (λ i. n ≡ i + 1) → n ≡ counted G (map held slots)
  counted_by_last slots None n none is =
      counted_from G (map held slots) n (λ k l. zero_slots slots 0 (λ j slot m. none j slot) k (omega arith)) (λ l z. omega arith)
  counted_by_last slots (Some i) n (inside, some, none) is =
      counted_from G (map held slots) n (λ k l. zero_slots slots (i + 1) (λ j slot m. none j slot (omega arith)) k (omega arith))
      (λ l z. let e : n - 1 ≡ i = omega arith in some_slot slots i inside some (subst (λ j. at G (map held slots) j ≡ G.zero) e z))
