-- Lines of parts, written part by part.
use Rattle.std.proofs.Common.{◌≡◌, ℕ, List, [], ◌∷◌, ◌++◌, map, sym, refl, ap, ◌∙◌, append_assoc}
use Rattle.std.specs.List.{flat_map}
use Rattle.portal_log.specs.Text.{lf, comma, line}

-- a first part and the parts of some values
pub line_map : {X : Type 0} (h : X → List ℕ) (p : List ℕ) (xs : List X) → line (p ∷ map h xs) ≡ p ++ (flat_map (λ x. comma ∷ h x) xs ++ lf ∷ [])
line_map h p [] = refl
line_map h p (x ∷ xs) =
    ap (λ (l : List ℕ). p ++ comma ∷ l) (line_map h (h x) xs) ∙ ap (λ (l : List ℕ). p ++ comma ∷ l) (sym (append_assoc (h x) (flat_map (λ x. comma ∷ h x) xs) (lf ∷ [])))
