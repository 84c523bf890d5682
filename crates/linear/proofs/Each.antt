-- What holds of each element of a list.
use Rattle.std.proofs.Common.{◌≡◌, ℕ, zero, suc, ◌+◌, ◌<◌, ◌≤◌, List, [], ◌∷◌, ◌++◌, length, get_or, take, drop, set, sym, subst, arith}
use Rattle.std.proofs.lemmas.List.{take_more, take_all}
use Rattle.linear.specs.Span.{Each}

module _ {X : Type 0} (P : X → Type 0) where
  pub each_at : (d : X) (xs : List X) → Each P xs → (i : ℕ) → i < length xs → P (get_or xs i d)
  each_at d [] e i h = absurd (omega arith)
  each_at d (x ∷ xs) (p, e) zero h = p
  each_at d (x ∷ xs) (p, e) (suc i) h = each_at d xs e i (omega arith)

  pub each_every : (xs : List X) → ((x : X) → P x) → Each P xs
  each_every [] f = tt
  each_every (x ∷ xs) f = (f x, each_every xs f)

  pub each_from : (d : X) (xs : List X) → ((i : ℕ) → i < length xs → P (get_or xs i d)) → Each P xs
  each_from d [] f = tt
  each_from d (x ∷ xs) f = (f zero (omega arith), each_from d xs (λ i h. f (suc i) (omega arith)))

  pub each_set : (xs : List X) (i : ℕ) (x : X) → Each P xs → P x → Each P (set xs i x)
  each_set [] i x e p = tt
  each_set (y ∷ xs) zero x (q, e) p = (p, e)
  each_set (y ∷ xs) (suc i) x (q, e) p = (q, each_set xs i x e p)

  pub each_take : (n : ℕ) (xs : List X) → Each P xs → Each P (take n xs)
  each_take zero xs e = tt
  each_take (suc n) [] e = tt
  each_take (suc n) (x ∷ xs) (p, e) = (p, each_take n xs e)

  pub each_drop : (n : ℕ) (xs : List X) → Each P xs → Each P (drop n xs)
  each_drop zero xs e = e
  each_drop (suc n) [] e = tt
  each_drop (suc n) (x ∷ xs) (p, e) = each_drop n xs e

  pub each_append : (xs ys : List X) → Each P xs → Each P ys → Each P (xs ++ ys)
  each_append [] ys e f = f
  each_append (x ∷ xs) ys (p, e) f = (p, each_append xs ys e f)

  pub each_push : (xs : List X) (x : X) → Each P xs → P x → Each P (xs ++ (x ∷ []))
  each_push xs x e p = each_append xs (x ∷ []) e (p, tt)

pub each_map : {X : Type 0} (P Q : X → Type 0) (xs : List X) → ((x : X) → P x → Q x) → Each P xs → Each Q xs
each_map P Q [] f e = tt
each_map P Q (x ∷ xs) f (p, e) = (f x p, each_map P Q xs f e)
