-- One step more of an iteration and a written front, as loops take it.
use Rattle.std.proofs.Common.{◌≡◌, ℕ, ◌+◌, ◌<◌, List, [], ◌∷◌, ◌++◌, map, length, get_or, drop, set, replicate, sym, ap, ◌∙◌, append_assoc, zero-add, add-one}
use lib.ListN.{length-replicate}
use Rattle.std.specs.List.{range_with_len}
use Rattle.std.proofs.lemmas.List.{set_at, drop_more, replicate_more}
use Rattle.std.proofs.lemmas.List.FromFn.{length-map-range_with_len, map-range_with_len_more}
use Rattle.linear.specs.Field.{iterate}

pub iterate_more : {X : Type 0} (f : X → X) (n : ℕ) (x : X) → iterate f (n + 1) x ≡ f (iterate f n x)
iterate_more f n x = ap (λ k. iterate f k x) (add-one n)

-- f written to place n after the n places before it
pub front_more : {X : Type 0} (f : ℕ → X) (xs : List X) (n : ℕ) (d : X) → n < length xs →
    set (map f (range_with_len 0 n) ++ drop n xs) n (f n) ≡ map f (range_with_len 0 (n + 1)) ++ drop (n + 1) xs
front_more f xs n d h =
    let front = map f (range_with_len 0 n) in
    ap (λ ys. set (front ++ ys) n (f n)) (drop_more xs n d h)
    ∙ set_at front (get_or xs n d) (drop (n + 1) xs) (f n) n (length-map-range_with_len f 0 n) ∙ sym (append_assoc front (f n ∷ []) (drop (n + 1) xs))
    ∙ ap (λ ys. ys ++ drop (n + 1) xs) (sym (map-range_with_len_more f 0 n n (zero-add n)))

-- the same with one value
pub fill_more : {X : Type 0} (x : X) (xs : List X) (n : ℕ) → n < length xs → set (replicate n x ++ drop n xs) n x ≡ replicate (n + 1) x ++ drop (n + 1) xs
fill_more x xs n h =
    ap (λ ys. set (replicate n x ++ ys) n x) (drop_more xs n x h) ∙ set_at (replicate n x) (get_or xs n x) (drop (n + 1) xs) x n (length-replicate n x)
    ∙ sym (append_assoc (replicate n x) (x ∷ []) (drop (n + 1) xs)) ∙ ap (λ ys. ys ++ drop (n + 1) xs) (replicate_more n x)
