-- Long division by parts: the divisor's lead, and products taken off the remainder one after the other.
use Rattle.std.proofs.Common.{◌≡◌, ℕ, ◌+◌, ◌-◌, ◌*◌, ◌/◌, ◌%◌, ◌<◌, ◌≤◌, map, length, take, length-take, List, Some, sym, refl, ap, ◌∙◌, subst, add-zero, mod-lt, mul_comm, arith}
use native.Mathlib.Nat.{mod_self, mod-add-mod, add-mod-mod, div-add-mod}
use native.Mathlib.Decide.{ℕ_discrete}
use Rattle.std.proofs.lemmas.Bool.Decides.{nat_tests}
use Rattle.linear.specs.Field.{Field, reciprocal, reciprocal_if, iterate}
use Rattle.field.specs.Alphabet.{Alphabet, Lawful}
use Rattle.linearized.specs.Polynomials.{at, counted, Divided}
use Rattle.linearized.specs.Coefficients.{Same}
use Rattle.linearized.specs.Division.{DivisionStep}
use Rattle.linearized.proofs.Counts.{counted_past, counted_top, counted_least}
use Rattle.linearized.proofs.Division.{cancelling}
use Rattle.subspace_code.proofs.Slots.{at_taken}
use Rattle.subspace_code.specs.declared.division.Lead.{Lead}
use Rattle.answer.specs.declared.refusal.Refusal.{Refusal}
use Rattle.subspace_code.specs.Dividing.{divide_refusal, Leading, TakenOff}

-- e raises and this many more are m raises, once or several times
pub raises_undo : (e m : ℕ) → 0 < m → (j : ℕ) × (e + (m - e % m) % m ≡ j * m)
raises_undo e m pos =
    let n = e + (m - e % m) % m in
    let around : e % m + (m - e % m) ≡ m = omega (arith, mod-lt e pos) in
    let none : n % m ≡ 0 = add-mod-mod e (m - e % m) m ∙ sym (mod-add-mod e m (m - e % m)) ∙ ap (λ k. k % m) around ∙ mod_self m in
    (n / m, sym (div-add-mod n m) ∙ ap (λ r. m * (n / m) + r) none ∙ add-zero (m * (n / m)) ∙ mul_comm m (n / m))

module _ {S : Type 0} (G : Field S) where
  reciprocal_some : (x : S) → ¬ (x ≡ G.zero) → reciprocal G x ≡ Some (G.inv x)
  reciprocal_some x h = go (G.same? x G.zero)
    where
      go : (d : Dec (x ≡ G.zero)) → reciprocal_if G x d ≡ Some (G.inv x)
      go (yes z) = absurd (h z)
      go (no n) = refl

  -- the coefficient at the end of the count has an inverse
  pub lead_inverse : (B : List S) (e : ℕ) (x : S) → counted G B ≡ e + 1 → x ≡ at G B e → reciprocal G x ≡ Some (G.inv (at G B e))
  lead_inverse B e x top is = ap (reciprocal G) is ∙ reciprocal_some (at G B e) (counted_top G B e top)

  pub counted_same : (f g : List S) → Same G f g → counted G f ≤ counted G g
  counted_same f g same = counted_least G f (counted G g) (λ i l. same i ∙ counted_past G g i l)

module _ {K S : Type 0} (A : Alphabet K S) (B R : List S) (c : S) (p : ℕ) where
  open A use {symbols as G, frobenius}

  pub taken_more : (T U : List S) (n : ℕ) → TakenOff A B R T c p n →
      at G U (p + n) ≡ G.add (at G T (p + n)) (G.neg (G.mul (at G B n) (iterate frobenius n c))) →
      ((k : ℕ) → ¬ (k ≡ p + n) → at G U k ≡ at G T k) → TakenOff A B R U c p (n + 1)
  taken_more T U n so_far here others = record {
    low = λ k l. others k (omega arith) ∙ so_far.low k l;
    taken = λ i l. elim (ℕ_discrete i n) [
      | yes i-is ↦
          subst (λ j. at G U (p + j) ≡ G.add (at G R (p + j)) (G.neg (G.mul (at G B j) (iterate frobenius j c)))) (sym i-is)
          (here ∙ ap (λ x. G.add x (G.neg (G.mul (at G B n) (iterate frobenius n c)))) (so_far.high (p + n) (omega arith)))
      | no i-not ↦ others (p + i) (omega arith) ∙ so_far.taken i (omega arith)
    ];
    high = λ k l. others k (omega arith) ∙ so_far.high k (omega arith);
  }

-- the same of a divisor of which the first n slots were used
pub taken_whole : {K S T : Type 0} (A : Alphabet K S) (held : T → S) (divisor : List T) (n : ℕ) (R T' : List S) (c : S) (p : ℕ) → n ≤ length divisor
    → TakenOff A (map held (take n divisor)) R T' c p (length (take n divisor)) → TakenOff A (map held divisor) R T' c p n
taken_whole A held divisor n R T' c p long off =
    let many : length (take n divisor) ≡ n = simp length-take (omega arith) in
    record {
      low = off.low;
      taken = λ i l. rw (at_taken A.symbols held divisor n i l) at (off.taken i (omega arith));
      high = λ k l. off.high k (omega arith);
    }

-- one coefficient of the quotient, with all that it brings taken off
pub quotient_step : {K S : Type 0} {A : Alphabet K S} → Lawful A → (B f R g T : List S) (lead : Lead S) (p : ℕ) (c : S) → Leading A B lead →
    c ≡ iterate A.frobenius lead.raises (A.symbols.mul lead.inverse (at A.symbols R (p + lead.place))) → at A.symbols g p ≡ c →
    ((n : ℕ) → ¬ (n ≡ p) → at A.symbols g n ≡ at A.symbols f n) → TakenOff A B R T c p (lead.place + 1) → DivisionStep A B f R g T lead.place p
quotient_step {A = A} laws B f R g T lead p c leading found placed others off =
    let G = A.symbols in
    let e = lead.place in
    let (j, around) = leading.undoes in
    record {
      coefficient = c;
      cancels = ap (λ x. G.mul (at G B e) (iterate A.frobenius e x))
          (found ∙ ap (λ x. iterate A.frobenius lead.raises (G.mul x (at G R (p + e)))) leading.inverts)
          ∙ cancelling laws e lead.raises j around (at G B e) (at G R (p + e)) (counted_top G B e leading.top);
      placed = placed;
      others = others;
      low = off.low;
      taken = λ i l. off.taken i (omega arith);
      high = λ n l. off.high n (omega arith);
    }

-- the same dividend in other slots
pub divided_same : {K S : Type 0} (A : Alphabet K S) (D E B f R : List S) → Same A.symbols E D → Divided A E B f R → Divided A D B f R
divided_same A D E B f R same divided = record { shorter = divided.shorter; whole = λ n. sym (same n) ∙ divided.whole n }

-- with room in both outputs only a zero divisor is refused
pub refused_zero : (dividend divisor quotient remainder : ℕ) (e : Refusal) → divide_refusal dividend divisor quotient remainder ≡ Some e →
    dividend ≤ quotient → dividend ≤ remainder → divisor ≡ 0
refused_zero dividend divisor quotient remainder e h wide long = grind (arith, nat_tests)
