-- Subspace distance from dimensions.
use Rattle.std.proofs.Common.{◌≡◌, ℕ, ◌+◌, ◌-◌, ◌*◌, ◌≤◌, ◌↔◌, arith}
use Rattle.linear.specs.Field.{Field}
use Rattle.linear.specs.Rows.{Rows, RowLaws}
use Rattle.linear.specs.Span.{IsDim, Meet}
use Rattle.linear.proofs.Dims.{basis_dim, dim_basis, dim_unique, dim_mono}
use Rattle.linear.proofs.Sums.{sum_basis, dim_sum_meet}
use Rattle.linear.proofs.Parts.{meet_spanned}
use Rattle.linear.proofs.Forms.{dim_exists}
use Rattle.linearized.specs.Distance.{Distance, lost, foreign}

module _ {K V : Type 0} {F : Field K} {R : Rows K V} (laws : RowLaws F R) {U W : V → Type 0} {r ℓ : ℕ} (dim-U : IsDim R U r) (dim-W : IsDim R W ℓ) where
  pub distance_shared : {s d : ℕ} → IsDim R (Meet R U W) s → Distance R U W d ↔ (d + 2 * s ≡ r + ℓ)
  distance_shared {s} {d} dim-meet = (
    λ apart.
        let same : apart.shared ≡ s = dim_unique R (Meet R U W) apart.is_shared dim-meet in
        let all = dim_sum_meet laws dim-U dim-W apart.is_sum apart.is_shared in
        omega (arith, apart.apart),
    λ e.
        let (sum, basis, all) = sum_basis laws (dim_basis laws dim-U) (dim_basis laws dim-W) (dim_basis laws dim-meet) in
        record { sum = sum; is_sum = basis_dim laws basis; shared = s; is_shared = dim-meet; apart = omega arith },
  )

  pub shared_least : {s : ℕ} → IsDim R (Meet R U W) s → (s ≤ r) × (s ≤ ℓ)
  shared_least dim-meet = (dim_mono laws (λ v x. x.0) dim-meet dim-U, dim_mono laws (λ v x. x.1) dim-meet dim-W)

  pub meet_dim : (s : ℕ) × IsDim R (Meet R U W) s
  meet_dim =
      let L = dim-U.0.0 in
      let M = dim-W.0.0 in
      let (N, spans) = meet_spanned laws L M in
      dim_exists laws N (λ v. (
        λ s. let (a, b) = (spans v).0 s in ((dim-U.0.1 v).0 a, (dim-W.0.1 v).0 b),
        λ (a, b). (spans v).1 ((dim-U.0.1 v).1 a, (dim-W.0.1 v).1 b),
      ))

  -- lost and foreign dimensions together are the distance
  pub distance_faults : {s d : ℕ} → IsDim R (Meet R U W) s → Distance R U W d ↔ (lost ℓ s + foreign r s ≡ d)
  distance_faults {s} {d} dim-meet =
      let (a, b) = shared_least dim-meet in
      (λ apart. omega (arith, (distance_shared dim-meet).0 apart), λ e. (distance_shared dim-meet).1 (omega arith))

  pub distance_exists : (d : ℕ) × Distance R U W d
  distance_exists =
      let (s, dim-meet) = meet_dim in
      let (a, b) = shared_least dim-meet in
      (r + ℓ - 2 * s, (distance_shared dim-meet).1 (omega arith))
