-- The kernel bound: with no more coefficients than independent roots, all coefficients are zero.
use Rattle.std.proofs.Common.{◌≡◌, ℕ, zero as 0ₙ, suc, ◌≤◌, List, [], ◌∷◌, ◌++◌, map, length, take, sym, refl, ap, ◌∙◌, subst, ap₂, arith, length-append, length-take}
use lib.ListN.{length-map}
use Rattle.linear.specs.Field.{Field}
use Rattle.linear.specs.Span.{Each}
use Rattle.linear.specs.Maps.{Linear}
use Rattle.linear.proofs.Fields.{zero-add, add_left_comm, mul_left_comm, add_mul, zero-mul}
use Rattle.linear.proofs.Spans.{InSpan, span_nil, span_cons, Within, within_cons, Indep, indep_cons, span_zero, span_head, span_trans, within_left, within_right, tight_indep}
use Rattle.linear.proofs.Maps.{image_indep}
use Rattle.field.specs.Alphabet.{Alphabet, Lawful, symbol_rows}
use Rattle.field.proofs.Symbols.{symbol_laws}
use Rattle.linearized.specs.Polynomials.{at, counted, value}
use Rattle.linearized.specs.Coefficients.{Same, Null}
use Rattle.linearized.proofs.Algebra.{add_swap, neg_sum, neg_add_cancel, mul_neg, mul_cancel, mul_inv_mul, zero_product, difference_zero}
use Rattle.linearized.proofs.Frobenius.{ratio, ratio_clears, frobenius_mul, frobenius_neg, frobenius_embed, frobenius_not_zero}
use Rattle.linearized.proofs.Polynomials.{eval, value_eval}
use Rattle.linearized.proofs.Values.{eval_zero, value_same}
use Rattle.linearized.proofs.Counts.{counted_past}

module _ {S : Type 0} (G : Field S) where
  open G use {zero, add, neg}

  pub each_null : (f : List S) → Each (λ c. c ≡ zero) f → Null G f
  each_null [] h n = refl
  each_null (a ∷ f) (z, h) 0ₙ = z
  each_null (a ∷ f) (z, h) (suc n) = each_null f h n

  -- what stands past the count may be cut off
  pub take_same : (d : ℕ) (f : List S) → ((n : ℕ) → d ≤ n → at G f n ≡ zero) → Same G f (take d f)
  take_same 0ₙ f h n = h n (omega arith)
  take_same (suc d) [] h n = refl
  take_same (suc d) (a ∷ f) h 0ₙ = refl
  take_same (suc d) (a ∷ f) h (suc n) = take_same d f (λ i l. h (suc i) (omega arith)) n

  regroup : (p q w e : S) → add p (add e q) ≡ add (add (add q (neg w)) e) (add p w)
  regroup p q w e =
      let moved : add p (add e q) ≡ add q (add e p) = simp (add_left_comm G, G.add_comm) in
      let back : add e (add p w) ≡ add w (add e p) = simp (add_left_comm G, G.add_comm) in
      moved ∙ ap (add q) (sym (neg_add_cancel G w (add e p)) ∙ ap (add (neg w)) (sym back)) ∙ simp G.add_assoc

module _ {K S : Type 0} (A : Alphabet K S) where
  open A use {symbols as G, frobenius}
  open G use {add, neg, mul}

  -- raise(x) − a x
  abbrev pub defect : S → S → S
  defect a x = add (frobenius x) (neg (mul a x))

  -- u ∷ f by raise(x) − a x: the quotient, and the c of the remainder c x
  abbrev pub by_defect : S → S → List S → List S × S
  by_defect a u [] = ([], u)
  by_defect a u (v ∷ f) = ((by_defect (frobenius a) v f).1 ∷ (by_defect (frobenius a) v f).0, add u (mul (by_defect (frobenius a) v f).1 a))

  pub by_defect_length : (a u : S) (f : List S) → length (by_defect a u f).0 ≡ length f
  by_defect_length a u [] = refl
  by_defect_length a u (v ∷ f) = ap suc (by_defect_length (frobenius a) v f)

module _ {K S : Type 0} {A : Alphabet K S} (laws : Lawful A) where
  open A use {symbols as G, frobenius, embed}
  open G use {zero, add, neg, mul, inv}

  pub defect_linear : (a : S) (U : S → Type 0) → Linear (symbol_rows A) (symbol_rows A) U (defect A a)
  defect_linear a U = record {
    sums = λ x y _ _. ap₂ (λ s t. add s (neg t)) (laws.extension.frobenius_add x y) (G.mul_add a x y) ∙ ap (add _) (neg_sum G _ _) ∙ add_swap G _ _ _ _;
    multiples = λ c x _.
        ap₂ (λ s t. add s (neg t)) (frobenius_mul laws (embed c) x ∙ ap (λ z. mul z (frobenius x)) (frobenius_embed laws c)) (mul_left_comm G a (embed c) x)
        ∙ ap (add _) (sym (mul_neg G _ _)) ∙ sym (G.mul_add (embed c) _ _);
  }

  defect_frobenius : (a x : S) → frobenius (defect A a x) ≡ defect A (frobenius a) (frobenius x)
  defect_frobenius a x = laws.extension.frobenius_add _ _ ∙ ap (add (frobenius (frobenius x))) (frobenius_neg laws (mul a x) ∙ ap neg (frobenius_mul laws a x))

  by_defect_eval : (a u : S) (f : List S) (x : S) → eval A (u ∷ f) x ≡ add (eval A (by_defect A a u f).0 (defect A a x)) (mul (by_defect A a u f).1 x)
  by_defect_eval a u [] x = G.add_comm (mul u x) zero
  by_defect_eval a u (v ∷ f) x =
      let g = (by_defect A (frobenius a) v f).0 in
      let c = (by_defect A (frobenius a) v f).1 in
      ap (add (mul u x)) (by_defect_eval (frobenius a) v f (frobenius x) ∙ ap (λ z. add (eval A g z) (mul c (frobenius x))) (sym (defect_frobenius a x)))
      ∙ regroup G (mul u x) (mul c (frobenius x)) (mul c (mul a x)) (eval A g (frobenius (defect A a x)))
      ∙ ap₂ (λ s t. add (add s (eval A g (frobenius (defect A a x)))) t)
      (ap (add (mul c (frobenius x))) (sym (mul_neg G c (mul a x))) ∙ sym (G.mul_add c (frobenius x) (neg (mul a x))))
      (ap (add (mul u x)) (sym (G.mul_assoc c a x)) ∙ sym (add_mul G u (mul c a) x))

  by_defect_zero : (a u : S) (f : List S) → Each (λ c. c ≡ zero) (by_defect A a u f).0 → (by_defect A a u f).1 ≡ zero → Each (λ c. c ≡ zero) (u ∷ f)
  by_defect_zero a u [] zs e = (e, tt)
  by_defect_zero a u (v ∷ f) (c-zero, zs) e =
      (sym (G.add-zero u) ∙ ap (add u) (sym (zero-mul G a) ∙ ap (λ z. mul z a) (sym c-zero)) ∙ e, by_defect_zero (frobenius a) v f zs c-zero)

  -- only the multiples of x are taken to zero
  defect_kernel : (x y : S) → ¬ (x ≡ zero) → defect A (ratio A x) y ≡ zero → InSpan (symbol_rows A) (x ∷ []) y
  defect_kernel x y h e =
      let z = mul (inv x) y in
      let whole : mul x z ≡ y = mul_inv_mul G x y h in
      let same : mul (frobenius x) (frobenius z) ≡ mul (frobenius x) z =
      sym (frobenius_mul laws x z) ∙ ap frobenius whole ∙ difference_zero G _ _ e ∙ G.mul_assoc (frobenius x) (inv x) y in
      let fixed : frobenius z ≡ z = mul_cancel G (frobenius x) (frobenius z) z (frobenius_not_zero laws x h) same in
      let (c, c-is) = (laws.extension.frobenius_fixed z).0 fixed in
      span_cons c zero (sym whole ∙ G.mul_comm x z ∙ ap (λ w. mul w x) (sym c-is) ∙ sym (G.add-zero _)) (span_nil refl)

  -- the quotient has the images for roots
  roots_moved : (a u : S) (f X : List S) → (by_defect A a u f).1 ≡ zero → Each (λ x. eval A (u ∷ f) x ≡ zero) X →
      Each (λ x. eval A (by_defect A a u f).0 x ≡ zero) (map (defect A a) X)
  roots_moved a u f [] z r = tt
  roots_moved a u f (x ∷ X) z (e, r) =
      (sym (G.add-zero _) ∙ ap (add _) (sym (zero-mul G x) ∙ ap (λ w. mul w x) (sym z)) ∙ sym (by_defect_eval a u f x) ∙ e, roots_moved a u f X z r)

  -- the images of the other roots are independent
  images_indep : (x : S) (X : List S) → ¬ (x ≡ zero) → Indep (symbol_rows A) (x ∷ X) → Indep (symbol_rows A) (map (defect A (ratio A x)) X)
  images_indep x X x-not i =
      let rows = symbol_laws laws in
      let B = X ++ (x ∷ []) in
      let turned : Within (symbol_rows A) (x ∷ X) B = within_cons (span_trans rows (within_right rows X (x ∷ [])) (span_head rows x [])) (within_left rows X (x ∷ [])) in
      let free = tight_indep rows B i turned (omega (arith, length-append X (x ∷ []))) in
      image_indep rows rows (defect_linear (ratio A x) (λ _. Unit {0})) B (λ _ _. tt) (x ∷ []) (within_left rows X (x ∷ [])) (λ y _. defect_kernel x y x-not) free

  roots_bound : (d : ℕ) (X f : List S) → length f ≡ d → d ≤ length X → Indep (symbol_rows A) X → Each (λ x. eval A f x ≡ zero) X → Each (λ c. c ≡ zero) f
  roots_bound d X [] ld l i r = tt
  roots_bound 0ₙ X (u ∷ f) ld l i r = absurd (omega arith)
  roots_bound (suc d) [] (u ∷ f) ld l i r = absurd (omega arith)
  roots_bound (suc d) (x ∷ X) (u ∷ f) ld l (indep_cons h i) (e, r) =
      let a = ratio A x in
      let g = (by_defect A a u f).0 in
      let c = (by_defect A a u f).1 in
      let x-not : ¬ (x ≡ zero) = λ z. h (subst (InSpan (symbol_rows A) X) (sym z) (span_zero (symbol_laws laws) X)) in
      let own : eval A g (defect A a x) ≡ zero = ap (eval A g) (ap (λ z. add (frobenius x) (neg z)) (ratio_clears laws x x-not) ∙ G.add_neg _) ∙ eval_zero laws g in
      let c-zero : c ≡ zero = zero_product G x c x-not (G.mul_comm x c ∙ sym (zero-add G _) ∙ ap (λ z. add z (mul c x)) (sym own) ∙ sym (by_defect_eval a u f x) ∙ e) in
      by_defect_zero a u f
      (roots_bound d (map (defect A a) X) g (omega (arith, by_defect_length A a u f)) (omega (arith, length-map X (defect A a)))
      (images_indep x X x-not (indep_cons h i)) (roots_moved a u f X c-zero r)) c-zero

  each_map : {P Q : S → Type 0} → ((x : S) → P x → Q x) → (X : List S) → Each P X → Each Q X
  each_map f [] h = tt
  each_map f (x ∷ X) (h, hs) = (f x h, each_map f X hs)

  pub kernel_bound : (X u : List S) → Indep (symbol_rows A) X → counted G u ≤ length X → Each (λ x. value A u x ≡ zero) X → Null G u
  kernel_bound X u i l roots =
      let d = length X in
      let g = take d u in
      let same : Same G u g = take_same G d u (λ n k. counted_past G u n (omega arith)) in
      let moved = each_map (λ x e. sym (value_eval A g x) ∙ sym (value_same laws u g same x) ∙ e) X roots in
      λ n. same n ∙ each_null G g (roots_bound (length g) X g refl (omega (arith, length-take d u)) i moved) n
