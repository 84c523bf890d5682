-- A row put among others, over the one after them.
use Rattle.std.proofs.Common.{◌≡◌, ℕ, ◌+◌, ◌-◌, ◌<◌, ◌≤◌, List, [], ◌∷◌, ◌++◌, map, length, take, drop, set, sym, ap, ◌∙◌, ap₂, append_assoc, arith, length-drop}
use lib.ListN.{length-map}
use Rattle.std.specs.List.{insert}
use borrow.Rule.Slice.PartMut.{put_mid}
use Rattle.std.proofs.lemmas.List.{take-set-le, drop-set-lt, drop-set-add, take_more_set, take_at, drop_at, take-take, drop-drop, drop-take, length-take-le, length_push}

-- a row put among the first n, by what stands before and after it
insert_front : {X : Type 0} (xs : List X) (at n : ℕ) (x : X) → at ≤ n → insert (take n xs) at x ≡ take at xs ++ (x ∷ take (n - at) (drop at xs))
insert_front {X} xs at n x low =
    let past : drop at (take n xs) ≡ take (n - at) (drop at xs) = ap (λ m. drop at (take m xs)) (let s : n ≡ at + (n - at) = omega arith in s) ∙ drop-take at (n - at) xs in
    ap₂ {C = List X} (λ a b. a ++ (x ∷ b)) (take-take at n xs low) past

module _ {X : Type 0} (xs : List X) (at n : ℕ) (x : X) (low : at ≤ n) (high : n < length xs) where
  -- the part from `at` on, with x at its end
  part_is : take ((n + 1) - at) (drop at (set xs n x)) ≡ take (n - at) (drop at xs) ++ (x ∷ [])
  part_is =
      let m = n - at in
      let e : at + m ≡ n = omega arith in
      let more : (n + 1) - at ≡ m + 1 = omega arith in
      ap (λ k. take k (drop at (set xs n x))) more ∙ ap (λ k. take (m + 1) (drop at (set xs k x))) (sym e) ∙ ap (take (m + 1)) (drop-set-add at xs m x)
      ∙ take_more_set (drop at xs) m x (omega (arith, length-drop at xs))

  turned : (ys : List X) → let part = take ((n + 1) - at) (drop at (set xs n x)) in ys ≡ drop (length part - 1) part ++ take (length part - 1) part → ys ≡ x ∷ take (n - at) (drop at xs)
  turned ys e =
      let front = take (n - at) (drop at xs) in
      let long : length front ≡ n - at = length-take-le (n - at) (drop at xs) (omega (arith, length-drop at xs)) in
      let last : (n - at) ≡ length (front ++ (x ∷ [])) - 1 = omega (arith, length_push front x) in
      e ∙ ap (λ p. drop (length p - 1) p ++ take (length p - 1) p) part_is ∙ ap (λ k. drop k (front ++ (x ∷ [])) ++ take k (front ++ (x ∷ []))) (sym last)
      ∙ ap₂ {C = List X} (λ a b. a ++ b) (drop_at front (x ∷ []) (n - at) long) (take_at front (x ∷ []) (n - at) long)

  pub inserted_is : (ys : List X) → let part = take ((n + 1) - at) (drop at (set xs n x)) in ys ≡ drop (length part - 1) part ++ take (length part - 1) part
      → put_mid at ((n + 1) - at) (set xs n x) ys ≡ insert (take n xs) at x ++ drop (n + 1) xs
  inserted_is ys e =
      let past : drop ((n + 1) - at) (drop at (set xs n x)) ≡ drop (n + 1) xs =
      drop-drop ((n + 1) - at) at (set xs n x) ∙ ap (λ k. drop k (set xs n x)) (let s : at + ((n + 1) - at) ≡ n + 1 = omega arith in s) ∙ drop-set-lt (n + 1) xs n x (omega arith) in
      ap₂ {C = List X} (λ a b. a ++ b) (take-set-le at xs n x low) (ap₂ {C = List X} (λ a b. a ++ b) (turned ys e) past) ∙ sym (append_assoc (take at xs) (x ∷ take (n - at) (drop at xs)) (drop (n + 1) xs))
      ∙ ap (λ front. front ++ drop (n + 1) xs) (sym (insert_front xs at n x low))

-- y put at place i of the first d, where the first i of the list were changed by f before
pub inserted_front : {Y : Type 0} (f : Y → Y) (L C : List Y) (i d : ℕ) (y : Y) → i ≤ d → d < length L → C ≡ map f (take i L) ++ drop i L
    → insert (take d C) i y ++ drop (d + 1) C ≡ (map f (take i (take d L)) ++ (y ∷ drop i (take d L))) ++ drop (d + 1) L
inserted_front {Y} f L C i d y low high e =
    let front = map f (take i L) in
    let many : length front ≡ i = length-map (take i L) f ∙ length-take-le i L (omega arith) in
    let first : take i C ≡ map f (take i (take d L)) = ap (take i) e ∙ take_at front (drop i L) i many ∙ ap (map f) (sym (take-take i d L low)) in
    let rest : drop i C ≡ drop i L = ap (drop i) e ∙ drop_at front (drop i L) i many in
    let moved : take (d - i) (drop i C) ≡ drop i (take d L) =
    ap (take (d - i)) rest ∙ sym (drop-take i (d - i) L) ∙ ap (λ n. drop i (take n L)) (let s : i + (d - i) ≡ d = omega arith in s) in
    let from : i + ((d + 1) - i) ≡ d + 1 = omega arith in
    let past : drop (d + 1) C ≡ drop (d + 1) L =
    ap (λ n. drop n C) (sym from) ∙ sym (drop-drop ((d + 1) - i) i C) ∙ ap (drop ((d + 1) - i)) rest ∙ drop-drop ((d + 1) - i) i L ∙ ap (λ n. drop n L) from in
    ap (λ front. front ++ drop (d + 1) C) (insert_front C i d y low) ∙ ap₂ {C = List Y} (λ a b. a ++ b) (ap₂ {C = List Y} (λ a b. a ++ (y ∷ b)) first moved) past
