-- Reduced forms and dimensions, checked by computing the codes of coordinates.
--   same?      two rows have equal coordinates
--   within?    each row of L is the combination of M with the weights given for it
--   stairs?    the rows lead at these places, which rise from m on, and each is zero at the places after its own
use Rattle.std.proofs.Common.{◌≡◌, ℕ, suc, Bool, true, false, T, eqb, ltb, leb, List, [], ◌∷◌, map, length, eqb→eq, ltb→lt, leb→le}
use Rattle.linear.specs.Field.{Field}
use Rattle.linear.specs.Rows.{Rows, RowLaws}
use Rattle.linear.specs.Span.{combination, Span, IsDim}
use Rattle.linear.specs.Reduced.{Leads, ReducedForm}
use Rattle.linear.proofs.Spans.{Within, within_nil, within_cons, within_same, from_span}
use Rattle.linear.proofs.Stairs.{ZeroAt, Stairs, stairs_nil, stairs_cons}
use Rattle.linear.proofs.Numbered.{to_reduced}
use Rattle.linear.proofs.Forms.{reduced_dim}
use Rattle.binary.proofs.Tests.{both, both_left, both_right, below, computed}

module _ {K V : Type 0} (F : Field K) (R : Rows K V) (code : K → ℕ) where
  abbrev pub same? : V → V → Bool
  same? u v = below (λ i. eqb (code (R.coord u i)) (code (R.coord v i))) R.width

  abbrev pub within? : List (List K) → List V → List V → Bool
  within? [] [] M = true
  within? [] (v ∷ L) M = false
  within? (cs ∷ weights) [] M = false
  within? (cs ∷ weights) (v ∷ L) M = both (both (eqb (length cs) (length M)) (same? (combination R cs M) v)) (within? weights L M)

  abbrev pub zeros? : V → List ℕ → Bool
  zeros? v [] = true
  zeros? v (p ∷ ps) = both (eqb (code (R.coord v p)) (code F.zero)) (zeros? v ps)

  abbrev pub leads? : V → ℕ → Bool
  leads? v p = both (both (ltb p R.width) (eqb (code (R.coord v p)) (code F.one))) (below (λ i. eqb (code (R.coord v i)) (code F.zero)) p)

  abbrev pub stairs? : ℕ → List ℕ → List V → Bool
  stairs? m [] [] = true
  stairs? m [] (v ∷ L) = false
  stairs? m (p ∷ ps) [] = false
  stairs? m (p ∷ ps) (v ∷ L) = both (both (leb m p) (both (leads? v p) (zeros? v ps))) (stairs? (suc p) ps L)

  -- M is the reduced form of L's span: L's rows have their coordinates at the places as weights, and M's have the weights given
  abbrev pub form? : List ℕ → List (List K) → List V → List V → Bool
  form? places weights L M = both (both (within? (map (λ v. map (R.coord v) places) L) L M) (within? weights M L)) (stairs? 0 places M)

module _ {K V : Type 0} {F : Field K} {R : Rows K V} (laws : RowLaws F R) (code : K → ℕ) (tells : (a b : K) → code a ≡ code b → a ≡ b) where
  same_checked : (u v : V) → T (same? F R code u v) → u ≡ v
  same_checked u v t = laws.same u v (λ i h. tells _ _ (computed _ _ R.width t i h))

  within_checked : (weights : List (List K)) (L M : List V) → T (within? F R code weights L M) → Within R L M
  within_checked [] [] M t = within_nil
  within_checked [] (v ∷ L) M t = absurd t
  within_checked (cs ∷ weights) [] M t = absurd t
  within_checked (cs ∷ weights) (v ∷ L) M t =
      let first = both_left _ _ t in
      within_cons (from_span M (cs, eqb→eq _ _ (both_left _ _ first), same_checked _ v (both_right _ _ first))) (within_checked weights L M (both_right _ _ t))

  zeros_checked : (v : V) (ps : List ℕ) → T (zeros? F R code v ps) → ZeroAt F R v ps
  zeros_checked v [] t = tt
  zeros_checked v (p ∷ ps) t = (tells _ _ (eqb→eq _ _ (both_left _ _ t)), zeros_checked v ps (both_right _ _ t))

  leads_checked : (v : V) (p : ℕ) → T (leads? F R code v p) → Leads F R v p
  leads_checked v p t =
      let first = both_left _ _ t in
      (ltb→lt _ _ (both_left _ _ first), tells _ _ (eqb→eq _ _ (both_right _ _ first)), λ i h. tells _ _ (computed _ _ p (both_right _ _ t) i h))

  stairs_checked : (m : ℕ) (ps : List ℕ) (L : List V) → T (stairs? F R code m ps L) → Stairs F R m ps L
  stairs_checked m [] [] t = stairs_nil
  stairs_checked m [] (v ∷ L) t = absurd t
  stairs_checked m (p ∷ ps) [] t = absurd t
  stairs_checked m (p ∷ ps) (v ∷ L) t =
      let first = both_left _ _ t in
      let row = both_right _ _ first in
      stairs_cons (leb→le _ _ (both_left _ _ first)) (leads_checked v p (both_left _ _ row)) (zeros_checked v ps (both_right _ _ row)) (stairs_checked (suc p) ps L (both_right _ _ t))

  module _ (places : List ℕ) (weights : List (List K)) (L M : List V) (t : T (form? F R code places weights L M)) where
    pub form_checked : ReducedForm F R (Span R L) M
    form_checked =
        let spans = both_left _ _ t in (
          to_reduced (stairs_checked 0 places M (both_right _ _ t)),
          within_same laws (within_checked weights M L (both_right _ _ spans)) (within_checked _ L M (both_left _ _ spans)),
        )

    pub dim_checked : IsDim R (Span R L) (length M)
    dim_checked = reduced_dim laws form_checked
