-- What a call of `next` tells of the lists before and after, and how to show what it gave.
use Rattle.std.proofs.Common.{◌≡◌, List, [], ◌∷◌, Some, None, Option, sym, refl, subst}
use Rattle.feed.specs.Feeds.{Next}

module _ {P : Type 0} where
  pub gives_some : (ps rs : List P) (p : P) → Next ps (Some p) rs → ps ≡ p ∷ rs
  gives_some [] rs p n = let e = n.0 in cc
  gives_some (q ∷ qs) rs p n = let e = n.0 in let f = n.1 in cc

  pub gives_none : (ps rs : List P) → Next ps None rs → (ps ≡ []) × (rs ≡ [])
  gives_none [] rs n = (refl, n.1)
  gives_none (q ∷ qs) rs n = let e = n.0 in cc

  pub gives_not_some : (ps rs : List P) (r : Option P) → Next ps r rs → ((p : P) → r ≡ Some p → ⊥) → (ps ≡ []) × (rs ≡ [])
  gives_not_some [] rs r n no-packet = (refl, n.1)
  gives_not_some (q ∷ qs) rs r n no-packet = absurd (no-packet q n.0)

  pub some_given : (ps rs : List P) (p : P) → ps ≡ p ∷ rs → Next ps (Some p) rs
  some_given ps rs p e = subst (λ (l : List P). Next l (Some p) rs) (sym e) (refl, refl)

  pub none_given : (ps rs : List P) → ps ≡ [] → rs ≡ [] → Next ps None rs
  none_given ps rs e f = subst (λ (l : List P). Next l None rs) (sym e) (refl, f)
