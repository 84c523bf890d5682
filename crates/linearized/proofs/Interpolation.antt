-- Interpolation, packet by packet: the start and each step keep what is kept, and the smaller pair interpolates.
use Rattle.std.proofs.Common.{◌≡◌, ℕ, zero as 0ₙ, suc, ◌+◌, ◌-◌, ◌<◌, ◌≤◌, ◌⊎◌, List, [], ◌∷◌, length, get_or, sym, refl, ◌∙◌, subst, inl, inr, add-one, arith, below_more}
use native.Mathlib.Decide.{dec_lt}
use Rattle.linear.specs.Span.{Spans, IsDim}
use Rattle.field.specs.Alphabet.{Alphabet, Lawful}
use Rattle.packet.specs.declared.Packet.{Packet}
use Rattle.packet.specs.Packets.{packet_zero, packet_rows}
use Rattle.linearized.specs.Polynomials.{at}
use Rattle.linearized.specs.Interpolation.{τ, Pair, State, pair_value, Interpolates, Raises, Combines, IsStart, Next, LeadsInX, LeadsInY, Interpolating}
use Rattle.linearized.specs.Interpolation.Next.{keep, raise_first, raise_second}
use Rattle.linearized.proofs.Frobenius.{ratio, ratio_clears}
use Rattle.linearized.proofs.Polynomials.{combined, at_combined, raised, at_raised}
use Rattle.linearized.proofs.Counts.{counted_least, counted_some}
use Rattle.linearized.proofs.Pairs.{pair_span, raised_zero, raised_own, combined_zero, combined_own, raised_few, raised_top, combined_few, combined_left, combined_right}

module _ {K S : Type 0} {A : Alphabet K S} (laws : Lawful A) where
  open A use {symbols as G, frobenius}
  open G use {zero, one, add, neg, mul, inv}

  raised_first : (k : ℕ) (v : S) (Q P : Pair S) (e : ℕ) → Raises A v Q P → LeadsInX A k Q e → LeadsInX A k P (e + 1)
  raised_first k v Q P e r leads = record {
    top = raised_top laws r.factor Q.x P.x r.in_x e (leads.few_x (e + 1) (omega arith)) leads.top;
    few_x = λ n l. raised_few laws r.factor Q.x P.x r.in_x 0 e (λ i j. leads.few_x i (omega arith)) n (omega arith);
    few_y = λ n l. raised_few laws r.factor Q.y P.y r.in_y k e leads.few_y n (omega arith);
  }

  raised_second : (k : ℕ) (v : S) (Q P : Pair S) (e : ℕ) → Raises A v Q P → LeadsInY A k Q e → LeadsInY A k P (e + 1)
  raised_second k v Q P e r leads = record {
    place = leads.place + 1;
    placed = omega (arith, leads.placed);
    top = raised_top laws r.factor Q.y P.y r.in_y leads.place (leads.few_y (leads.place + 1) (omega (arith, leads.placed))) leads.top;
    few_x = λ n l. raised_few laws r.factor Q.x P.x r.in_x 0 e (λ i j. leads.few_x i (omega arith)) n (omega arith);
    few_y = λ n l. raised_few laws r.factor Q.y P.y r.in_y k (e + 1) (λ i j. leads.few_y i (omega arith)) n (omega arith);
  }

  -- zero by the factor, or by the order of the degrees
  abbrev either : {O : Type 0} {c z : S} → (c ≡ zero) ⊎ O → (O → z ≡ zero) → (c ≡ zero) ⊎ (z ≡ zero)
  either (inl c-zero) f = inl c-zero
  either (inr o) f = inr (f o)

  combined_first : (k : ℕ) (c : S) (P : Pair S) (d : S) (Q T : Pair S) (e g : ℕ) → Combines A c P d Q T → ¬ (c ≡ zero) → (d ≡ zero) ⊎ (g < e) →
      LeadsInX A k P e → LeadsInY A k Q g → LeadsInX A k T e
  combined_first k c P d Q T e g r c-not order left right = record {
    top = combined_left laws c P.x d Q.x T.x r.in_x e c-not left.top (either order (right.few_x e));
    few_x = λ n l. combined_few laws c P.x d Q.x T.x r.in_x n (inr (left.few_x n l)) (either order (λ o. right.few_x n (omega arith)));
    few_y = λ n l. combined_few laws c P.y d Q.y T.y r.in_y n (inr (left.few_y n l)) (either order (λ o. right.few_y n (omega arith)));
  }

  combined_second : (k : ℕ) (c : S) (P : Pair S) (d : S) (Q T : Pair S) (e g : ℕ) → Combines A c P d Q T → ¬ (d ≡ zero) → (c ≡ zero) ⊎ (e ≤ g) →
      LeadsInX A k P e → LeadsInY A k Q g → LeadsInY A k T g
  combined_second k c P d Q T e g r d-not order left right = record {
    place = right.place;
    placed = right.placed;
    top = combined_right laws c P.y d Q.y T.y r.in_y right.place d-not (either order (λ o. left.few_y right.place (omega (arith, right.placed)))) right.top;
    few_x = λ n l. combined_few laws c P.x d Q.x T.x r.in_x n (either order (λ o. left.few_x n (omega arith))) (inr (right.few_x n l));
    few_y = λ n l. combined_few laws c P.y d Q.y T.y r.in_y n (either order (λ o. left.few_y n (omega arith))) (inr (right.few_y n l));
  }

  pub interpolating_step : (k : ℕ) (L : List (Packet S)) (n : ℕ) (s t : State S) → Interpolating A k L n s → Next A s (get_or L n (packet_zero A)) t → Interpolating A k L (n + 1) t
  interpolating_step k L n s t kept (keep y z) = record {
    first_leads = kept.first_leads;
    second_leads = kept.second_leads;
    first_zero = below_more (λ i. pair_value A s.first (get_or L i (packet_zero A)) ≡ zero) n kept.first_zero y;
    second_zero = below_more (λ i. pair_value A s.second (get_or L i (packet_zero A)) ≡ zero) n kept.second_zero z;
    degrees = omega (arith, kept.degrees);
  }
  interpolating_step k L n s t kept (raise_first {P} {Q} y order r c) =
      let p = get_or L n (packet_zero A) in
      record {
        first_leads = raised_first k _ s.first P s.first_degree r kept.first_leads;
        second_leads = combined_second k _ s.first _ s.second Q s.first_degree s.second_degree c y order kept.first_leads kept.second_leads;
        first_zero = below_more (λ i. pair_value A P (get_or L i (packet_zero A)) ≡ zero) n (λ i l. raised_zero laws _ s.first P r _ (kept.first_zero i l)) (raised_own laws s.first P p r);
        second_zero = below_more (λ i. pair_value A Q (get_or L i (packet_zero A)) ≡ zero) n
            (λ i l. combined_zero laws _ s.first _ s.second Q c _ (kept.first_zero i l) (kept.second_zero i l)) (combined_own laws s.first s.second Q p c);
        degrees = omega (arith, kept.degrees);
      }
  interpolating_step k L n s t kept (raise_second {P} {Q} z order r c) =
      let p = get_or L n (packet_zero A) in
      record {
        first_leads = combined_first k _ s.first _ s.second P s.first_degree s.second_degree c z order kept.first_leads kept.second_leads;
        second_leads = raised_second k _ s.second Q s.second_degree r kept.second_leads;
        first_zero = below_more (λ i. pair_value A P (get_or L i (packet_zero A)) ≡ zero) n
            (λ i l. combined_zero laws _ s.first _ s.second P c _ (kept.first_zero i l) (kept.second_zero i l)) (combined_own laws s.first s.second P p c);
        second_zero = below_more (λ i. pair_value A Q (get_or L i (packet_zero A)) ≡ zero) n (λ i l. raised_zero laws _ s.second Q r _ (kept.second_zero i l)) (raised_own laws s.second Q p r);
        degrees = omega (arith, kept.degrees);
      }

  pub interpolating_start : (k : ℕ) (L : List (Packet S)) (s : State S) → IsStart A k s → Interpolating A k L 0 s
  interpolating_start k L s start = record {
    first_leads = record {
      top = λ e. G.one_not_zero (sym (start.first_x 0) ∙ subst (λ n. at G s.first.x n ≡ zero) start.first_degree e);
      few_x = λ n l. start.first_x n ∙ later n (omega (arith, start.first_degree));
      few_y = λ n l. start.first_y n;
    };
    second_leads = record {
      place = 0;
      placed = omega (arith, start.second_degree);
      top = λ e. G.one_not_zero (sym (start.second_y 0) ∙ e);
      few_x = λ n l. start.second_x n;
      few_y = λ n l. start.second_y n ∙ later n (omega (arith, start.second_degree));
    };
    first_zero = λ i l. absurd (omega arith);
    second_zero = λ i l. absurd (omega arith);
    degrees = omega (arith, start.first_degree, start.second_degree);
  }
    where
      later : (n : ℕ) → 0 < n → at G (one ∷ []) n ≡ zero
      later 0ₙ l = absurd (omega arith)
      later (suc n) l = refl

  -- lists for what a step asks
  raising : (v : S) (Q : Pair S) → ¬ (v ≡ zero) → (P : Pair S) × Raises A v Q P
  raising v Q v-not =
      let a = ratio A v in
      (record { x = raised A a Q.x; y = raised A a Q.y }, record { factor = a; clears = ratio_clears laws v v-not; in_x = at_raised laws a Q.x; in_y = at_raised laws a Q.y })

  combining : (c : S) (P : Pair S) (d : S) (Q : Pair S) → (T : Pair S) × Combines A c P d Q T
  combining c P d Q =
      (record { x = combined G c P.x d Q.x; y = combined G c P.y d Q.y }, record { in_x = at_combined G c P.x d Q.x; in_y = at_combined G c P.y d Q.y })

  pub next_exists : (s : State S) (p : Packet S) → (t : State S) × Next A s p t
  next_exists s p = choose (G.same? (pair_value A s.first p) zero) (G.same? (pair_value A s.second p) zero) (dec_lt s.second_degree s.first_degree)
    where
      other : (T : Pair S) × Combines A (pair_value A s.second p) s.first (pair_value A s.first p) s.second T
      other = combining (pair_value A s.second p) s.first (pair_value A s.first p) s.second

      first_moves : ¬ (pair_value A s.first p ≡ zero) → (pair_value A s.second p ≡ zero) ⊎ (s.first_degree ≤ s.second_degree) → (t : State S) × Next A s p t
      first_moves y order = let (P, moved) = raising _ s.first y in (_, raise_first y order moved other.1)

      second_moves : ¬ (pair_value A s.second p ≡ zero) → (pair_value A s.first p ≡ zero) ⊎ (s.second_degree < s.first_degree) → (t : State S) × Next A s p t
      second_moves z order = let (Q, moved) = raising _ s.second z in (_, raise_second z order moved other.1)

      choose : Dec (pair_value A s.first p ≡ zero) → Dec (pair_value A s.second p ≡ zero) → Dec (s.second_degree < s.first_degree) → (t : State S) × Next A s p t
      choose (yes y) (yes z) order = (s, keep y z)
      choose (no y) (yes z) order = first_moves y (inl z)
      choose (yes y) (no z) order = second_moves z (inl y)
      choose (no y) (no z) (yes less) = second_moves z (inr less)
      choose (no y) (no z) (no more) = first_moves y (inr (omega arith))

  pub interpolating_exists : (k : ℕ) → 0 < k → (L : List (Packet S)) (n : ℕ) → (s : State S) × Interpolating A k L n s
  interpolating_exists k pos L 0ₙ =
      let s : State S = record { first = record { x = one ∷ []; y = [] }; second = record { x = []; y = one ∷ [] }; first_degree = 0; second_degree = k - 1 } in
      (s, interpolating_start k L s (record { first_x = λ n. refl; first_y = λ n. refl; second_x = λ n. refl; second_y = λ n. refl; first_degree = refl; second_degree = omega arith }))
  interpolating_exists k pos L (suc n) =
      let (s, kept) = interpolating_exists k pos L n in
      let (t, next) = next_exists s (get_or L n (packet_zero A)) in
      (t, subst (λ i. Interpolating A k L i t) (add-one n) (interpolating_step k L n s t kept next))

  -- L spans U, and all its packets are seen
  module _ (k : ℕ) (L : List (Packet S)) {U : Packet S → Type 0} (spans : Spans (packet_rows A) L U) (s : State S) (kept : Interpolating A k L (length L) s) where
    pub first_interpolates : s.first_degree ≤ s.second_degree → Interpolates A k (τ (length L) k) U s.first.x s.first.y
    first_interpolates order = record {
      few_x = counted_least G s.first.x _ (λ n l. kept.first_leads.few_x n (omega (arith, kept.degrees)));
      few_y = counted_least G s.first.y _ (λ n l. kept.first_leads.few_y n (omega (arith, kept.degrees)));
      some = omega (arith, counted_some G s.first.x _ kept.first_leads.top);
      vanish = λ p u. pair_span laws s.first L kept.first_zero p ((spans p).1 u);
    }

    pub second_interpolates : s.second_degree < s.first_degree → Interpolates A k (τ (length L) k) U s.second.x s.second.y
    second_interpolates order = record {
      few_x = counted_least G s.second.x _ (λ n l. kept.second_leads.few_x n (omega (arith, kept.degrees)));
      few_y = counted_least G s.second.y _ (λ n l. kept.second_leads.few_y n (omega (arith, kept.degrees)));
      some = omega (arith, counted_some G s.second.y _ kept.second_leads.top);
      vanish = λ p u. pair_span laws s.second L kept.second_zero p ((spans p).1 u);
    }

  -- every space of packets has an interpolating pair
  pub interpolation : (k r : ℕ) → 0 < k → (U : Packet S → Type 0) → IsDim (packet_rows A) U r → (Qx : List S) × (Qy : List S) × Interpolates A k (τ r k) U Qx Qy
  interpolation k r pos U ((L, spans, many), least) =
      let (s, kept) = interpolating_exists k pos L (length L) in
      let at-r : (Qx Qy : List S) → Interpolates A k (τ (length L) k) U Qx Qy → Interpolates A k (τ r k) U Qx Qy = λ Qx Qy. subst (λ n. Interpolates A k (τ n k) U Qx Qy) many in
      elim (dec_lt s.second_degree s.first_degree) [
        | yes less ↦ (s.second.x, s.second.y, at-r _ _ (second_interpolates k L spans s kept less))
        | no more ↦ (s.first.x, s.first.y, at-r _ _ (first_interpolates k L spans s kept (omega arith)))
      ]
