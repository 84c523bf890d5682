-- Lists of causes: equivalent causes refuse alike; causes one after the other.
use Rattle.std.proofs.Common.{◌⊎◌, ◌↔◌, [], ◌∷◌, ◌++◌, inl, inr, ⊎_elim}
use Rattle.answer.specs.declared.refusal.Refusal.{Refusal}
use Rattle.answer.specs.Refusals.{Causes, First, NoCause}

-- the same refusals for equivalent causes
pub data Alike : Causes → Causes → Type 1 where
  alike_none : Alike [] []
  alike_more : {P Q : Type 0} {e : Refusal} {cs ds : Causes} → (P ↔ Q) → Alike cs ds → Alike ((P, e) ∷ cs) ((Q, e) ∷ ds)

pub same_cause : {P : Type 0} → P ↔ P
same_cause = (λ p. p, λ p. p)

pub first_alike : {cs ds : Causes} (e : Refusal) → Alike cs ds → First cs e → First ds e
first_alike e alike_none f = f
first_alike e (alike_more a rest) (inl (p, q)) = inl (a.0 p, q)
first_alike e (alike_more a rest) (inr (n, f)) = inr (λ p. n (a.1 p), first_alike e rest f)

pub none_alike : {cs ds : Causes} → Alike cs ds → NoCause cs → NoCause ds
none_alike alike_none n = n
none_alike (alike_more a rest) (n, ns) = (λ p. n (a.1 p), none_alike rest ns)

pub first_parts : (cs ds : Causes) (e : Refusal) → First (cs ++ ds) e → First cs e ⊎ (NoCause cs × First ds e)
first_parts [] ds e f = inr (tt, f)
first_parts (c ∷ cs) ds e (inl p) = inl (inl p)
first_parts (c ∷ cs) ds e (inr (n, f)) = ⊎_elim (λ g. inl (inr (n, g))) (λ g. inr ((n, g.0), g.1)) (first_parts cs ds e f)

pub first_left : (cs ds : Causes) (e : Refusal) → First cs e → First (cs ++ ds) e
first_left [] ds e f = absurd f
first_left (c ∷ cs) ds e (inl p) = inl p
first_left (c ∷ cs) ds e (inr (n, f)) = inr (n, first_left cs ds e f)

pub first_right : (cs ds : Causes) (e : Refusal) → NoCause cs → First ds e → First (cs ++ ds) e
first_right [] ds e n f = f
first_right (c ∷ cs) ds e (n, ns) f = inr (n, first_right cs ds e ns f)

pub none_parts : (cs ds : Causes) → NoCause (cs ++ ds) → NoCause cs × NoCause ds
none_parts [] ds n = (tt, n)
none_parts (c ∷ cs) ds (n, ns) = let (x, y) = none_parts cs ds ns in ((n, x), y)

pub none_join : (cs ds : Causes) → NoCause cs → NoCause ds → NoCause (cs ++ ds)
none_join [] ds n k = k
none_join (c ∷ cs) ds (n, ns) k = (n, none_join cs ds ns k)
