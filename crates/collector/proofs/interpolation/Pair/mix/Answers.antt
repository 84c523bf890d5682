use Rattle.std.proofs.Common.{◌≡◌, ℕ, ◌+◌, ◌≤◌, ◌⊎◌, length, ap, inl, inr, arith}
use Rattle.collector.proofs.interpolation.Pair.mix.Goals as goal

pub invariant_of-self : goal.invariant_of-self
invariant_of-self g c =
    let most = c.self.inside.degree + 1 in
    let few : (n : ℕ) → n ≤ c.other.inside.degree + 1 → (c.args.b ≡ g.F.FiniteField.field.zero) ⊎ (n ≤ most) = λ n small.
    elim c.requires [ inl z ↦ inl z | inr l ↦ inr (omega (arith, small, l, ap (λ w. w.degree) c.self.view_is, ap (λ w. w.degree) c.other.view_is)) ] in (
      c.mix.ensures.places most c.self.invariant.0 (few (length c.other.inside.x) c.other.invariant.0),
      c.mix-2.ensures.places most c.self.invariant.1 (few (length c.other.inside.y) c.other.invariant.1),
    )
