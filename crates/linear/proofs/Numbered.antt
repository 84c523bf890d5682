-- Reduced lists by the numbers of their rows, as `Reduced` has them, and row by row.
use Rattle.std.proofs.Common.{◌≡◌, ℕ, zero, suc, ◌<◌, ◌≤◌, List, [], ◌∷◌, length, get_or, refl, ap, arith}
use Rattle.linear.specs.Field.{Field}
use Rattle.linear.specs.Rows.{Rows}
use Rattle.linear.specs.Reduced.{Leads, Reduced}
use Rattle.linear.proofs.Each.{each_at, each_from}
use Rattle.linear.proofs.Stairs.{Stairs, stairs_nil, stairs_cons}

module _ {K V : Type 0} {F : Field K} {R : Rows K V} where
  open R use {none, coord}

  pub stairs_many : {m : ℕ} {ps : List ℕ} {L : List V} → Stairs F R m ps L → length ps ≡ length L
  stairs_many stairs_nil = refl
  stairs_many (stairs_cons mp ld za st) = ap suc (stairs_many st)

  stairs_leads : {m : ℕ} {ps : List ℕ} {L : List V} → Stairs F R m ps L → (i : ℕ) → i < length L → (m ≤ get_or ps i 0) × Leads F R (get_or L i none) (get_or ps i 0)
  stairs_leads stairs_nil i h = absurd (omega arith)
  stairs_leads (stairs_cons mp ld za st) zero h = (mp, ld)
  stairs_leads (stairs_cons mp ld za st) (suc i) h = let (l, k) = stairs_leads st i (omega arith) in (omega arith, k)

  stairs_rise : {m : ℕ} {ps : List ℕ} {L : List V} → Stairs F R m ps L → (i j : ℕ) → i < j → j < length L → get_or ps i 0 < get_or ps j 0
  stairs_rise stairs_nil i j h k = absurd (omega arith)
  stairs_rise (stairs_cons mp ld za st) i zero h k = absurd (omega arith)
  stairs_rise (stairs_cons mp ld za st) zero (suc j) h k = (stairs_leads st j (omega arith)).0
  stairs_rise (stairs_cons mp ld za st) (suc i) (suc j) h k = stairs_rise st i j (omega arith) (omega arith)

  stairs_others : {m : ℕ} {ps : List ℕ} {L : List V} → Stairs F R m ps L → (i j : ℕ) → i < length L → j < length L → ¬ (i ≡ j) → coord (get_or L j none) (get_or ps i 0) ≡ F.zero
  stairs_others stairs_nil i j h k ne = absurd (omega arith)
  stairs_others (stairs_cons mp ld za st) zero zero h k ne = absurd (ne refl)
  stairs_others (stairs_cons {p = p} mp ld za st) zero (suc j) h k ne = let (l, lj) = stairs_leads st j (omega arith) in lj.2 p (omega arith)
  stairs_others (stairs_cons {ps = ps} {v = v} mp ld za st) (suc i) zero h k ne = each_at (λ p. coord v p ≡ F.zero) 0 ps za i (omega (arith, stairs_many st))
  stairs_others (stairs_cons mp ld za st) (suc i) (suc j) h k ne = stairs_others st i j (omega arith) (omega arith) (λ e. ne (ap suc e))

  pub to_reduced : {ps : List ℕ} {L : List V} → Stairs F R 0 ps L → Reduced F R L
  to_reduced {ps} st = record { at = ps; many = stairs_many st; leads = λ i h. (stairs_leads st i h).1; rise = stairs_rise st; others = stairs_others st }

  build : (m : ℕ) (ps : List ℕ) (L : List V) → length ps ≡ length L
      → ((i : ℕ) → i < length L → (m ≤ get_or ps i 0) × Leads F R (get_or L i none) (get_or ps i 0))
      → ((i j : ℕ) → i < j → j < length L → get_or ps i 0 < get_or ps j 0)
      → ((i j : ℕ) → i < length L → j < length L → ¬ (i ≡ j) → coord (get_or L j none) (get_or ps i 0) ≡ F.zero) → Stairs F R m ps L
  build m [] [] e l r o = stairs_nil
  build m [] (b ∷ L) e l r o = absurd (omega arith)
  build m (p ∷ ps) [] e l r o = absurd (omega arith)
  build m (p ∷ ps) (b ∷ L) e l r o =
      stairs_cons (l zero (omega arith)).0 (l zero (omega arith)).1
      (each_from (λ p. coord b p ≡ F.zero) 0 ps (λ i h. o (suc i) zero (omega arith) (omega arith) (omega arith)))
      (build (suc p) ps L (omega arith) (λ i h. (r zero (suc i) (omega arith) (omega arith), (l (suc i) (omega arith)).1))
      (λ i j h k. r (suc i) (suc j) (omega arith) (omega arith)) (λ i j h k ne. o (suc i) (suc j) (omega arith) (omega arith) (λ x. ne (omega arith))))

  pub from_reduced : {L : List V} (r : Reduced F R L) → Stairs F R 0 r.at L
  from_reduced {L} r = build 0 r.at L r.many (λ i h. (omega arith, r.leads i h)) r.rise r.others
