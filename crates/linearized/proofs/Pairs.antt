-- Pairs of polynomials: values on packets, and the values and coefficients of a raised and of a combined pair.
use Rattle.std.proofs.Common.{◌≡◌, ℕ, zero as 0ₙ, suc, ◌+◌, ◌<◌, ◌⊎◌, List, [], ◌∷◌, length, get_or, sym, refl, ap, ◌∙◌, ap₂, inl, inr, add-one, arith}
use Rattle.linear.specs.Span.{Span, combination}
use Rattle.linear.proofs.Fields.{zero-add, mul-zero, zero-mul}
use Rattle.field.specs.Alphabet.{Alphabet, Lawful}
use Rattle.packet.specs.declared.Packet.{Packet}
use Rattle.packet.specs.Packets.{packet_zero, packet_sum, packet_multiple, packet_rows}
use Rattle.linearized.specs.Polynomials.{at, value}
use Rattle.linearized.specs.Coefficients.{before}
use Rattle.linearized.specs.Interpolation.{Pair, pair_value, Raises, Combines}
use Rattle.linearized.proofs.Algebra.{add_swap, neg_sum, neg_zero, neg_not_zero, zero_product}
use Rattle.linearized.proofs.Frobenius.{frobenius_zero, frobenius_not_zero}
use Rattle.linearized.proofs.Points.{point_add, point_scalar, point_zero}
use Rattle.linearized.proofs.Values.{value_add, value_scalar, value_zero, value_raised, value_combined}

module _ {K S : Type 0} {A : Alphabet K S} (laws : Lawful A) where
  open A use {symbols as G, frobenius, embed}
  open G use {zero, add, neg, mul}

  pub pair_add : (Q : Pair S) (p r : Packet S) → pair_value A Q (packet_sum A p r) ≡ add (pair_value A Q p) (pair_value A Q r)
  pair_add Q p r =
      ap₂ add (ap (value A Q.x) (point_add A p.x r.x) ∙ value_add laws Q.x _ _) (value_add laws Q.y p.y r.y) ∙ add_swap G _ _ _ _

  pub pair_scalar : (Q : Pair S) (c : K) (p : Packet S) → pair_value A Q (packet_multiple A c p) ≡ mul (embed c) (pair_value A Q p)
  pair_scalar Q c p =
      ap₂ add (ap (value A Q.x) (point_scalar A c p.x) ∙ value_scalar laws Q.x c _) (value_scalar laws Q.y c p.y) ∙ sym (G.mul_add (embed c) _ _)

  pub pair_zero : (Q : Pair S) → pair_value A Q (packet_zero A) ≡ zero
  pair_zero Q = ap₂ add (ap (value A Q.x) (point_zero A) ∙ value_zero laws Q.x) (value_zero laws Q.y) ∙ G.add-zero zero

  -- a pair that vanishes on each packet of a list vanishes on the span
  pub pair_span : (Q : Pair S) (L : List (Packet S)) → ((i : ℕ) → i < length L → pair_value A Q (get_or L i (packet_zero A)) ≡ zero) →
      (p : Packet S) → Span (packet_rows A) L p → pair_value A Q p ≡ zero
  pair_span Q L h p (cs, many, e) = ap (pair_value A Q) (sym e) ∙ go cs L h
    where
      go : (cs : List K) (L : List (Packet S)) → ((i : ℕ) → i < length L → pair_value A Q (get_or L i (packet_zero A)) ≡ zero) → pair_value A Q (combination (packet_rows A) cs L) ≡ zero
      go [] L h = pair_zero Q
      go (c ∷ cs) [] h = pair_zero Q
      go (c ∷ cs) (v ∷ L) h =
          pair_add Q (packet_multiple A c v) (combination (packet_rows A) cs L)
          ∙ ap₂ add (pair_scalar Q c v ∙ ap (mul (embed c)) (h 0 (omega arith)) ∙ mul-zero G (embed c)) (go cs L (λ i l. h (suc i) (omega arith))) ∙ G.add-zero zero

  -- values of the two new pairs
  sum_less : (a b c d : S) → add (add a (neg b)) (add c (neg d)) ≡ add (add a c) (neg (add b d))
  sum_less a b c d = add_swap G a (neg b) c (neg d) ∙ ap (add (add a c)) (sym (neg_sum G b d))

  pub raised_value : (v : S) (Q P : Pair S) (r : Raises A v Q P) (p : Packet S) →
      pair_value A P p ≡ add (frobenius (pair_value A Q p)) (neg (mul r.factor (pair_value A Q p)))
  raised_value v Q P r p =
      ap₂ add (value_raised laws r.factor Q.x P.x r.in_x _) (value_raised laws r.factor Q.y P.y r.in_y _)
      ∙ sum_less _ _ _ _ ∙ ap₂ (λ s t. add s (neg t)) (sym (laws.extension.frobenius_add _ _)) (sym (G.mul_add _ _ _))

  pub combined_value : (c : S) (P : Pair S) (d : S) (Q T : Pair S) → Combines A c P d Q T → (p : Packet S) →
      pair_value A T p ≡ add (mul c (pair_value A P p)) (neg (mul d (pair_value A Q p)))
  combined_value c P d Q T r p =
      ap₂ add (value_combined laws c P.x d Q.x T.x r.in_x _) (value_combined laws c P.y d Q.y T.y r.in_y _)
      ∙ sum_less _ _ _ _ ∙ ap₂ (λ s t. add s (neg t)) (sym (G.mul_add _ _ _)) (sym (G.mul_add _ _ _))

  -- the raised pair vanishes where the old one does, and where it is v
  pub raised_zero : (v : S) (Q P : Pair S) → Raises A v Q P → (p : Packet S) → pair_value A Q p ≡ zero → pair_value A P p ≡ zero
  raised_zero v Q P r p z =
      raised_value v Q P r p ∙ ap (λ w. add (frobenius w) (neg (mul r.factor w))) z
      ∙ ap₂ (λ s t. add s (neg t)) (frobenius_zero laws) (mul-zero G _) ∙ G.add_neg zero

  pub raised_own : (Q P : Pair S) (p : Packet S) → Raises A (pair_value A Q p) Q P → pair_value A P p ≡ zero
  raised_own Q P p r = raised_value (pair_value A Q p) Q P r p ∙ ap (λ w. add (frobenius (pair_value A Q p)) (neg w)) r.clears ∙ G.add_neg _

  pub combined_zero : (c : S) (P : Pair S) (d : S) (Q T : Pair S) → Combines A c P d Q T → (p : Packet S) →
      pair_value A P p ≡ zero → pair_value A Q p ≡ zero → pair_value A T p ≡ zero
  combined_zero c P d Q T r p y z =
      combined_value c P d Q T r p ∙ ap₂ (λ s t. add s (neg t)) (ap (mul c) y ∙ mul-zero G c) (ap (mul d) z ∙ mul-zero G d) ∙ G.add_neg zero

  pub combined_own : (P Q T : Pair S) (p : Packet S) → Combines A (pair_value A Q p) P (pair_value A P p) Q T → pair_value A T p ≡ zero
  combined_own P Q T p r = combined_value _ P _ Q T r p ∙ ap (λ w. add w (neg (mul (pair_value A P p) (pair_value A Q p)))) (G.mul_comm _ _) ∙ G.add_neg _

  -- coefficients of raise(f) − a f: one place more than f
  module _ (a : S) (f h : List S) (raised : (n : ℕ) → at G h n ≡ add (frobenius (before G f n)) (neg (mul a (at G f n)))) where
    pub raised_few : (k d : ℕ) → ((n : ℕ) → d < n + k → at G f n ≡ zero) → (n : ℕ) → d + 1 < n + k → at G h n ≡ zero
    raised_few k d few n l =
        raised n ∙ ap₂ (λ s t. add (frobenius s) (neg (mul a t))) (earlier n l) (few n (omega arith))
        ∙ ap₂ (λ s t. add s (neg t)) (frobenius_zero laws) (mul-zero G a) ∙ G.add_neg zero
      where
        earlier : (n : ℕ) → d + 1 < n + k → before G f n ≡ zero
        earlier 0ₙ l = refl
        earlier (suc n) l = few n (omega arith)

    pub raised_top : (n : ℕ) → at G f (n + 1) ≡ zero → ¬ (at G f n ≡ zero) → ¬ (at G h (n + 1) ≡ zero)
    raised_top n z top e =
        frobenius_not_zero laws (at G f n) top
        (ap (λ i. frobenius (before G f i)) (sym (add-one n)) ∙ sym (G.add-zero _) ∙ ap (add _) (sym (ap neg (ap (mul a) z ∙ mul-zero G a) ∙ neg_zero G)) ∙ sym (raised (n + 1)) ∙ e)

  -- coefficients of c f − d g
  module _ (c : S) (f : List S) (d : S) (g h : List S) (combined : (n : ℕ) → at G h n ≡ add (mul c (at G f n)) (neg (mul d (at G g n)))) where
    product_zero : (s t : S) → (s ≡ zero) ⊎ (t ≡ zero) → mul s t ≡ zero
    product_zero s t (inl z) = ap (λ w. mul w t) z ∙ zero-mul G t
    product_zero s t (inr z) = ap (mul s) z ∙ mul-zero G s

    pub combined_few : (n : ℕ) → (c ≡ zero) ⊎ (at G f n ≡ zero) → (d ≡ zero) ⊎ (at G g n ≡ zero) → at G h n ≡ zero
    combined_few n y z = combined n ∙ ap₂ (λ s t. add s (neg t)) (product_zero c _ y) (product_zero d _ z) ∙ G.add_neg zero

    pub combined_left : (n : ℕ) → ¬ (c ≡ zero) → ¬ (at G f n ≡ zero) → (d ≡ zero) ⊎ (at G g n ≡ zero) → ¬ (at G h n ≡ zero)
    combined_left n c-not top z e = top (zero_product G c _ c-not (sym (G.add-zero _) ∙ ap (add _) (sym (ap neg (product_zero d _ z) ∙ neg_zero G)) ∙ sym (combined n) ∙ e))

    pub combined_right : (n : ℕ) → ¬ (d ≡ zero) → (c ≡ zero) ⊎ (at G f n ≡ zero) → ¬ (at G g n ≡ zero) → ¬ (at G h n ≡ zero)
    combined_right n d-not y top e =
        neg_not_zero G (mul d (at G g n)) (λ z. top (zero_product G d _ d-not z))
        (sym (zero-add G _) ∙ ap (λ w. add w (neg (mul d (at G g n)))) (sym (product_zero c _ y)) ∙ sym (combined n) ∙ e)
