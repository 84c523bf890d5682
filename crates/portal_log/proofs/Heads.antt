-- First lines as they are written.
use Rattle.std.proofs.Common.{◌≡◌, ℕ, List, [], ◌∷◌, ◌++◌, sym, refl, ap, ◌∙◌, append_assoc, codes}
use Rattle.std.specs.Prelude.{decimal}
use Rattle.std.specs.List.{join_with_byte}
use Rattle.portal_log.specs.declared.head.Head.{Head}
use Rattle.portal_log.specs.Text.{lf, comma, line}
use Rattle.portal_log.specs.Names.{spelled}
use Rattle.portal_log.specs.Heads.{head_text, head_line}

line_joined : (ps : List (List ℕ)) → line ps ≡ join_with_byte comma ps ++ lf ∷ []
line_joined [] = refl
line_joined (p ∷ []) = refl
line_joined (p ∷ q ∷ ps) = ap (λ rest. p ++ comma ∷ rest) (line_joined (q ∷ ps)) ∙ sym (append_assoc p _ (lf ∷ []))

pub head_ended : (head : Head) → head_line head ≡ head_text head ++ lf ∷ []
head_ended head = line_joined (codes "L" ∷ spelled head.name ∷ decimal head.l ∷ decimal head.k ∷ [])
