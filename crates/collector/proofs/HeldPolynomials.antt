-- Polynomials held as codes: places that a loop has read and written, and the coefficients that stand there after.
use Rattle.std.proofs.Common.{◌≡◌, ℕ, zero as 0ₙ, suc, ◌+◌, ◌-◌, ◌<◌, ◌≤◌, true, false, cond, ltb, ◌⊎◌, List, ◌∷◌, ◌++◌, map, length, get_or, take, drop, set, replicate, sym, refl, ap, ◌∙◌, ap₂, inl, inr, zero-add, arith}
use native.Mathlib.Decide.{dec_lt}
use lib.ListN.{length-map}
use Rattle.std.specs.List.{range_with_len}
use Rattle.std.proofs.lemmas.List.{map-set, get_or-map, take-map, get_or-take, length-take, take-append-le, take_all, get_or_append_left, get_or-append_right, get_or-drop}
use Rattle.std.proofs.lemmas.List.FromFn.{length-map-range_with_len, get_or-map-range_with_len}
use Rattle.linear.proofs.Fields.{mul-zero, zero-mul}
use Rattle.field.specs.Alphabet.{Alphabet, Lawful}
use Rattle.linearized.specs.Polynomials.{at}
use Rattle.linearized.specs.Coefficients.{before}
use Rattle.linearized.proofs.Frobenius.{frobenius_zero}
use Rattle.subspace_code.specs.Holding.{held_code}
use Rattle.collector.specs.Interpolation.{members, polynomial, mixed, shifted}
use Rattle.subspace_code.proofs.Sums.{front_more}
use Rattle.subspace_code.proofs.Slots.{at_past_slots}

-- a list with h 0, h 1, .., h (n - 1) at its first n places
abbrev pub written : {X : Type 0} → (ℕ → X) → ℕ → List X → List X
written h n xs = map h (range_with_len 0 n) ++ drop n xs

-- what stands after a new front
pub spliced_rest : {X : Type 0} (front xs : List X) (n i : ℕ) (d : X) → length front ≡ n → n ≤ i → get_or (front ++ drop n xs) i d ≡ get_or xs i d
spliced_rest front xs n i d long l =
    let back : n + (i - n) ≡ i = omega arith in
    get_or-append_right front _ n i d long l ∙ get_or-drop n xs (i - n) d ∙ ap (λ j. get_or xs j d) back

module _ {X : Type 0} (h : ℕ → X) (n : ℕ) (xs : List X) where
  written_front : (i : ℕ) (d : X) → i < n → get_or (written h n xs) i d ≡ h i
  written_front i d l =
      get_or_append_left (map h (range_with_len 0 n)) _ d i (omega (arith, length-map-range_with_len h 0 n)) ∙ get_or-map-range_with_len h 0 n i i d l (zero-add i)

  written_rest : (i : ℕ) (d : X) → n ≤ i → get_or (written h n xs) i d ≡ get_or xs i d
  written_rest i d l = spliced_rest (map h (range_with_len 0 n)) xs n i d (length-map-range_with_len h 0 n) l

  -- h stands everywhere, if it stood at the later places already
  written_all : (d : X) → ((i : ℕ) → n ≤ i → get_or xs i d ≡ h i) → (i : ℕ) → get_or (written h n xs) i d ≡ h i
  written_all d rest i = elim (dec_lt i n) [ yes l ↦ written_front i d l | no l ↦ written_rest i d (omega arith) ∙ rest i (omega arith) ]

-- zeros, also after one code
pub zeros_at : (n i : ℕ) → ◌≡◌ {A = ℕ} (get_or (replicate n 0) i 0) 0
zeros_at 0ₙ i = refl
zeros_at (suc n) 0ₙ = refl
zeros_at (suc n) (suc i) = zeros_at n i

pub zeros_after : (code n i : ℕ) → 1 ≤ i → ◌≡◌ {A = ℕ} (get_or (code ∷ replicate n 0) i 0) 0
zeros_after code n 0ₙ l = absurd (omega arith)
zeros_after code n (suc i) l = zeros_at n i

module _ {K S : Type 0} (A : Alphabet K S) where
  open A use {symbols as G}

  pub polynomial_at : (codes : List ℕ) (i : ℕ) → i < length codes → at G (polynomial A codes) i ≡ held_code (members A) (get_or codes i 0)
  polynomial_at codes i l = get_or-map (held_code (members A)) codes i 0 G.zero l

  -- a front has the coefficients of the whole
  pub front_at : (codes : List ℕ) (n i : ℕ) → i < n → at G (polynomial A (take n codes)) i ≡ at G (polynomial A codes) i
  front_at codes n i l = ap (λ p. at G p i) (sym (take-map (held_code (members A)) n codes)) ∙ get_or-take n (polynomial A codes) i G.zero l

  pub front_past : (codes : List ℕ) (n i : ℕ) → n ≤ i → at G (polynomial A (take n codes)) i ≡ G.zero
  front_past codes n i l = at_past_slots G (held_code (members A)) (take n codes) i (omega (arith, length-take n codes))

  -- the places before i are written, and place i is read and written
  module _ (h : ℕ → S) (f : List S) (codes : List ℕ) (i : ℕ) (before-i : polynomial A codes ≡ written h i f) (l : i < length codes) where
    pub read_next : held_code (members A) (get_or codes i 0) ≡ at G f i
    read_next = sym (polynomial_at codes i l) ∙ ap (λ p. at G p i) before-i ∙ written_rest h i f i G.zero (omega arith)

    pub write_next : (r : ℕ) → i < length f → held_code (members A) r ≡ h i → polynomial A (set codes i r) ≡ written h (i + 1) f
    write_next r inside is =
        map-set (held_code (members A)) codes i r ∙ ap₂ (λ p s. set p i s) before-i is ∙ front_more h f i G.zero inside

  -- the first n places are written, and h is zero after them
  pub written_places : (h : ℕ → S) (codes items : List ℕ) (n i : ℕ) → length items ≡ length (take n codes) → n ≤ length codes →
      polynomial A items ≡ written h i (polynomial A (take n codes)) → length (take n codes) ≤ i → ((j : ℕ) → n ≤ j → h j ≡ G.zero) →
      (j : ℕ) → at G (polynomial A (take n (items ++ drop n codes))) j ≡ h j
  written_places h codes items n i long inside is all none j =
      ap (λ c. at G (polynomial A c) j) (take-append-le n items (drop n codes) (omega (arith, long, length-take n codes)) ∙ take_all n items (omega (arith, long, length-take n codes)))
      ∙ ap (λ p. at G p j) is ∙ written_all h i (polynomial A (take n codes)) G.zero (λ k l.
      let past : n ≤ k = omega (arith, length-take n codes) in
      front_past codes n k past ∙ sym (none k past)) j

-- f is held by the first p codes, and the later codes are 0
pub record Holds {K S : Type 0} (A : Alphabet K S) (codes : List ℕ) (p : ℕ) (f : List S) : Type 0 where
  pub front : polynomial A (take p codes) ≡ f
  pub zeros : (n : ℕ) → p ≤ n → get_or codes n 0 ≡ 0

module _ {K S : Type 0} {A : Alphabet K S} (laws : Lawful A) where
  open A use {symbols as G, frobenius}
  open G use {zero, add, mul}

  held_zero : held_code (members A) 0 ≡ zero
  held_zero =
      let none : A.element 0 ≡ zero = ap A.element (sym laws.codes.code_zero) ∙ laws.codes.element_code zero in
      elim (ltb 0 A.size) as (λ b. cond b (A.element 0) zero ≡ zero) [ true ↦ none | false ↦ refl ]

  module _ {codes : List ℕ} {p : ℕ} {f : List S} (held : Holds A codes p f) where
    pub held_past : (n : ℕ) → p ≤ n → at G f n ≡ zero
    held_past n l = ap (λ g. at G g n) (sym held.front) ∙ front_past A codes p n l

    pub held_length : p ≤ length codes → length f ≡ p
    held_length l = omega (arith, ap length held.front, length-map (take p codes) (held_code (members A)), length-take p codes)

    pub held_whole : (n : ℕ) → at G (polynomial A codes) n ≡ at G f n
    held_whole n = elim (dec_lt n p) [
      | yes l ↦ sym (front_at A codes p n l) ∙ ap (λ g. at G g n) held.front
      | no l ↦ later (dec_lt n (length codes)) (omega arith) ∙ sym (held_past n (omega arith))
    ]
      where
        later : Dec (n < length codes) → p ≤ n → at G (polynomial A codes) n ≡ zero
        later (yes i) l = polynomial_at A codes n i ∙ ap (held_code (members A)) (held.zeros n l) ∙ held_zero
        later (no i) l = at_past_slots G (held_code (members A)) codes n (omega arith)

    -- a front of p places or more has the coefficients of f
    pub held_front : (m : ℕ) → p ≤ m → (n : ℕ) → at G (polynomial A (take m codes)) n ≡ at G f n
    held_front m far n = elim (dec_lt n m) [
      | yes l ↦ front_at A codes m n l ∙ held_whole n
      | no l ↦ front_past A codes m n (omega arith) ∙ sym (held_past n (omega arith))
    ]

  -- a f + b g and raise(f) + c f by the coefficients of f and g
  pub mixed_null : (a : S) (f : List S) (b : S) (g : List S) (n : ℕ) → at G f n ≡ zero → (b ≡ zero) ⊎ (at G g n ≡ zero) → mixed A a f b g n ≡ zero
  mixed_null a f b g n none other = ap₂ add (ap (mul a) none ∙ mul-zero G a) (right other) ∙ G.add-zero zero
    where
      right : (b ≡ zero) ⊎ (at G g n ≡ zero) → mul b (at G g n) ≡ zero
      right (inl z) = ap (λ s. mul s (at G g n)) z ∙ zero-mul G _
      right (inr z) = ap (mul b) z ∙ mul-zero G b

  pub shifted_null : (c : S) (f : List S) (n : ℕ) → ((i : ℕ) → n ≤ i + 1 → at G f i ≡ zero) → (i : ℕ) → n ≤ i → shifted A c f i ≡ zero
  shifted_null c f n few i l = ap₂ add (ap frobenius (earlier i l) ∙ frobenius_zero laws) (ap (mul c) (few i (omega arith)) ∙ mul-zero G c) ∙ G.add-zero zero
    where
      earlier : (i : ℕ) → n ≤ i → before G f i ≡ zero
      earlier 0ₙ l = refl
      earlier (suc i) l = few i (omega arith)

  pub shifted_same : (c : S) (f g : List S) → ((n : ℕ) → at G f n ≡ at G g n) → (n : ℕ) → shifted A c f n ≡ shifted A c g n
  shifted_same c f g same n = ap₂ (λ x y. add (frobenius x) (mul c y)) (earlier n) (same n)
    where
      earlier : (n : ℕ) → before G f n ≡ before G g n
      earlier 0ₙ = refl
      earlier (suc n) = same n
