-- Division: long division ends with quotient and remainder, and there is one of each.
use Rattle.std.proofs.Common.{◌≡◌, ℕ, zero as 0ₙ, suc, ◌+◌, ◌-◌, ◌*◌, ◌<◌, ◌≤◌, List, [], ◌∷◌, sym, refl, ap, ◌∙◌, subst, ap₂, inl, inr, add-one, arith}
use native.Mathlib.Decide.{ℕ_discrete, dec_lt}
use Rattle.linear.specs.Field.{Field, iterate}
use Rattle.linear.proofs.Fields.{zero-add}
use Rattle.field.specs.Alphabet.{Alphabet, Lawful}
use Rattle.linearized.specs.Polynomials.{at, counted, composed, Divided}
use Rattle.linearized.specs.Coefficients.{Same, Null, IsSum}
use Rattle.linearized.specs.Division.{Dividing, DivisionStep}
use Rattle.linearized.proofs.Algebra.{neg_zero, mul_inv_mul, zero_product, add_difference, add_left_cancel, difference_zero}
use Rattle.linearized.proofs.Frobenius.{undoing, undoing_adds, frobenius_undone, iterate_frobenius_injective, iterate_frobenius_zero}
use Rattle.linearized.proofs.Polynomials.{sum, at_sum, difference, at_difference, compose, composed_compose}
use Rattle.linearized.proofs.Counts.{counted_past, counted_top, counted_least}
use Rattle.linearized.proofs.Compositions.{composed_zero, composed_single, composed_sum, composed_same}

module _ {S : Type 0} (G : Field S) where
  -- the polynomial with the one coefficient c, at p
  abbrev pub single : ℕ → S → List S
  single 0ₙ c = c ∷ []
  single (suc p) c = G.zero ∷ single p c

  pub at_single : (p : ℕ) (c : S) → at G (single p c) p ≡ c
  at_single 0ₙ c = refl
  at_single (suc p) c = at_single p c

  pub at_single_other : (p : ℕ) (c : S) (n : ℕ) → ¬ (n ≡ p) → at G (single p c) n ≡ G.zero
  at_single_other 0ₙ c 0ₙ h = absurd (h refl)
  at_single_other 0ₙ c (suc n) h = refl
  at_single_other (suc p) c 0ₙ h = refl
  at_single_other (suc p) c (suc n) h = at_single_other p c n (λ e. h (ap suc e))

module _ {K S : Type 0} {A : Alphabet K S} (laws : Lawful A) where
  open A use {symbols as G, m, frobenius}
  open G use {zero, one, add, neg, mul, inv}

  -- the quotient's next coefficient
  pub cancelling : (e n j : ℕ) → e + n ≡ j * m → (b t : S) → ¬ (b ≡ zero) → mul b (iterate frobenius e (iterate frobenius n (mul (inv b) t))) ≡ t
  cancelling e n j around b t h = ap (mul b) (frobenius_undone laws e n j around (mul (inv b) t)) ∙ mul_inv_mul G b t h

  pub dividing_start : (D B f R : List S) (e p : ℕ) → Null G f → Same G R D → counted G D ≤ p + e → Dividing A D B f R e p
  dividing_start D B f R e p null same l = record {
    unfound = λ n _. null n;
    cleared = λ n k. same n ∙ counted_past G D n (omega arith);
    whole = λ n. sym (ap₂ add (composed_zero laws B f n (λ i j _. inr (null j))) (same n) ∙ zero-add G _);
  }

  module _ (D B f R : List S) (e p : ℕ) (top : counted G B ≡ e + 1) (so_far : Dividing A D B f R e (p + 1)) where
    -- the part of B(f) that a coefficient c at p brings
    part_below : (c : S) (n : ℕ) → n < p → composed A B (single G p c) n ≡ zero
    part_below c n l = composed_zero laws B (single G p c) n (λ i j s. inr (at_single_other G p c j (omega arith)))

    part_within : (c : S) (i : ℕ) → composed A B (single G p c) (p + i) ≡ mul (at G B i) (iterate frobenius i c)
    part_within c i =
        composed_single laws B (single G p c) p i (λ k j s ne. inr (at_single_other G p c j (omega arith))) ∙ ap (λ x. mul (at G B i) (iterate frobenius i x)) (at_single G p c)

    part_above : (c : S) (n : ℕ) → p + e < n → composed A B (single G p c) n ≡ zero
    part_above c n l = composed_zero laws B (single G p c) n (λ i j s. elim (ℕ_discrete j p) [
      | yes j-is ↦ inl (counted_past G B i (omega arith))
      | no j-not ↦ inr (at_single_other G p c j j-not)
    ])

    pub taken_off : (c : S) (g T : List S) → mul (at G B e) (iterate frobenius e c) ≡ at G R (p + e) → IsSum G f (single G p c) g →
        ((n : ℕ) → at G T n ≡ add (at G R n) (neg (composed A B (single G p c) n))) → Dividing A D B g T e p
    taken_off c g T cancels sums rest = record {
      unfound = λ n l. sums n ∙ ap₂ add (so_far.unfound n (omega arith)) (at_single_other G p c n (omega arith)) ∙ G.add-zero zero;
      cleared = λ n l. elim (ℕ_discrete n (p + e)) [
        | yes n-is ↦ subst (λ i. at G T i ≡ zero) (sym n-is) (rest (p + e) ∙ ap (λ x. add (at G R (p + e)) (neg x)) (part_within c e ∙ cancels) ∙ G.add_neg _)
        | no n-not ↦ rest n ∙ ap₂ (λ x y. add x (neg y)) (so_far.cleared n (omega arith)) (part_above c n (omega arith)) ∙ G.add_neg zero
      ];
      whole = λ n.
          so_far.whole n ∙ ap (add (composed A B f n)) (sym (ap (add (composed A B (single G p c) n)) (rest n) ∙ add_difference G _ _))
          ∙ sym (G.add_assoc _ _ _) ∙ ap (λ x. add x (at G T n)) (sym (composed_sum laws B f (single G p c) g sums n));
    }

    step_sums : (g T : List S) (step : DivisionStep A B f R g T e p) → IsSum G f (single G p step.coefficient) g
    step_sums g T step n = elim (ℕ_discrete n p) [
      | yes n-is ↦ subst (λ i. at G g i ≡ add (at G f i) (at G (single G p step.coefficient) i)) (sym n-is)
          (step.placed ∙ sym (ap₂ add (so_far.unfound p (omega arith)) (at_single G p step.coefficient) ∙ zero-add G _))
      | no n-not ↦ step.others n n-not ∙ sym (ap (add (at G f n)) (at_single_other G p step.coefficient n n-not) ∙ G.add-zero _)
    ]

    step_rest : (g T : List S) (step : DivisionStep A B f R g T e p) (n : ℕ) → at G T n ≡ add (at G R n) (neg (composed A B (single G p step.coefficient) n))
    step_rest g T step n = elim (dec_lt n p) [
      | yes l ↦ step.low n l ∙ unchanged n (part_below step.coefficient n l)
      | no l ↦ elim (dec_lt (p + e) n) [
        | yes k ↦ step.high n k ∙ unchanged n (part_above step.coefficient n k)
        | no k ↦
            let place : p + (n - p) ≡ n = omega arith in
            subst (λ i. at G T i ≡ add (at G R i) (neg (composed A B (single G p step.coefficient) i))) place
            (step.taken (n - p) (omega arith) ∙ ap (λ x. add (at G R (p + (n - p))) (neg x)) (sym (part_within step.coefficient (n - p))))
      ]
    ]
      where
        unchanged : (n : ℕ) → composed A B (single G p step.coefficient) n ≡ zero → at G R n ≡ add (at G R n) (neg (composed A B (single G p step.coefficient) n))
        unchanged n z = sym (ap (λ x. add (at G R n) x) (ap neg z ∙ neg_zero G) ∙ G.add-zero _)

    pub dividing_step : (g T : List S) → DivisionStep A B f R g T e p → Dividing A D B g T e p
    dividing_step g T step = taken_off step.coefficient g T step.cancels (step_sums g T step) (step_rest g T step)

    -- every division that is not at its end has a step
    pub dividing_next : (g : List S) × (T : List S) × Dividing A D B g T e p
    dividing_next =
        let c = iterate frobenius (undoing A e) (mul (inv (at G B e)) (at G R (p + e))) in
        let part = compose A B (single G p c) in
        let g = sum G f (single G p c) in
        let T = difference G R part in (
          g,
          T,
          taken_off c g T (cancelling e (undoing A e) e (undoing_adds laws e).0 _ _ (counted_top G B e top)) (at_sum G f (single G p c))
              (λ n. at_difference G R part n ∙ ap (λ x. add (at G R n) (neg x)) (sym (composed_compose laws B (single G p c) n))),
        )

  pub dividing_end : (D B f R : List S) (e : ℕ) → counted G B ≡ e + 1 → Dividing A D B f R e 0 → Divided A D B f R
  dividing_end D B f R e top found = record {
    shorter = let l : counted G R ≤ e = counted_least G R e (λ i l. found.cleared i (omega arith)) in omega arith;
    whole = found.whole;
  }

  divided_from : (D B f R : List S) (e p : ℕ) → counted G B ≡ e + 1 → Dividing A D B f R e p → (g : List S) × (T : List S) × Divided A D B g T
  divided_from D B f R e 0ₙ top found = (f, R, dividing_end D B f R e top found)
  divided_from D B f R e (suc p) top so_far = let (g, T, next) = dividing_next D B f R e p top (subst (Dividing A D B f R e) (sym (add-one p)) so_far) in divided_from D B g T e p top next

  pub division : (D B : List S) → 0 < counted G B → (f : List S) × (R : List S) × Divided A D B f R
  division D B l =
      let e = counted G B - 1 in
      divided_from D B [] D e (counted G D) (omega arith) (dividing_start D B [] D e (counted G D) (λ n. refl) (λ n. refl) (omega arith))

  -- B(h) is not shorter than B unless h is zero
  pub composed_short : (B h : List S) (e : ℕ) → counted G B ≡ e + 1 → ((n : ℕ) → e ≤ n → composed A B h n ≡ zero) → Null G h
  composed_short B h e top short = go (counted G h) refl
    where
      go : (n : ℕ) → counted G h ≡ n → Null G h
      go 0ₙ k = λ i. counted_past G h i (omega arith)
      go (suc p) k =
          let last : composed A B h (p + e) ≡ mul (at G B e) (iterate frobenius e (at G h p)) = composed_single laws B h p e (λ i j s ne. elim (dec_lt i e) [
            | yes l ↦ inr (counted_past G h j (omega arith))
            | no l ↦ inl (counted_past G B i (omega arith))
          ]) in
          let gone : iterate frobenius e (at G h p) ≡ iterate frobenius e zero =
          zero_product G _ _ (counted_top G B e top) (sym last ∙ short (p + e) (omega arith)) ∙ sym (iterate_frobenius_zero laws e) in
          absurd (counted_top G h p (k ∙ sym (add-one p)) (iterate_frobenius_injective laws e _ _ gone))

  difference_back : (f g : List S) → IsSum G g (difference G f g) f
  difference_back f g n = sym (ap (add (at G g n)) (at_difference G f g n) ∙ add_difference G _ _)

  pub composed_determines : (B f g : List S) (e : ℕ) → counted G B ≡ e + 1 → ((n : ℕ) → e ≤ n → composed A B f n ≡ composed A B g n) → Same G f g
  composed_determines B f g e top same =
      let null = composed_short B (difference G f g) e top (λ n l.
      add_left_cancel G (composed A B g n) _ _ (sym (composed_sum laws B g (difference G f g) f (difference_back f g) n) ∙ same n l ∙ sym (G.add-zero _))) in
      λ n. difference_zero G _ _ (sym (at_difference G f g n) ∙ null n)

  pub division_unique : (D B f R g T : List S) → Divided A D B f R → Divided A D B g T → Same G f g × Same G R T
  division_unique D B f R g T one_way other_way =
      let e = counted G B - 1 in
      let top : counted G B ≡ e + 1 = omega (arith, one_way.shorter) in
      let high : (h r : List S) → Divided A D B h r → (n : ℕ) → e ≤ n → at G D n ≡ composed A B h n = λ h r d n l.
      d.whole n ∙ ap (add _) (counted_past G r n (omega (arith, d.shorter))) ∙ G.add-zero _ in
      let same = composed_determines B f g e top (λ n l. sym (high f R one_way n l) ∙ high g T other_way n l) in
      (same, λ n. add_left_cancel G (composed A B f n) _ _ (sym (one_way.whole n) ∙ other_way.whole n ∙ ap (λ x. add x (at G T n)) (sym (composed_same laws B f g same n))))
