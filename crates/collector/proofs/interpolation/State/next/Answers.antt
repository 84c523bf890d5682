use Rattle.std.proofs.Common.{◌≡◌, ◌<◌, ◌⊎◌, true, sym, refl, ◌∙◌, subst, inl, inr}
use mathlib.Core.Bool.{false≢true}
use Rattle.field.proofs.Members.{alphabet}
use Rattle.linearized.specs.Interpolation.Next.{keep}
use Rattle.collector.specs.Interpolation.{FirstMoves}
use Rattle.collector.proofs.Moves.{first_moved, second_moved}
use Rattle.collector.proofs.interpolation.State.next.Goals as goal

pub returns-then-first_moves : goal.returns-then-first_moves
returns-then-first_moves g c =
    let (some, order) = subst (λ s. FirstMoves g.F.FiniteField.field c.value-first.result c.value-second.result s.first_degree s.second_degree true) (sym c.self.view_is) c.if-first_moves.ensures in
    let P = c.raise.new.self in
    let Q = c.mix.new.self in
    rw (← c.self.view_is) (first_moved (alphabet g.F.Scalar.FiniteField g.F.FiniteField g.F.SymbolField)
    (record { first = c.self.inside.first.pair; second = c.self.inside.second.pair; first_degree = c.self.inside.first.degree; second_degree = c.self.inside.second.degree })
    c.args.packet c.value-first.result c.value-second.result c.negative-less.result c.value-first.ensures c.value-second.ensures c.negative-less.ensures
    (record { first = P.pair; second = Q.pair; first_degree = P.degree; second_degree = Q.degree })
    some order c.mix.ensures.mixes c.mix.ensures.degree c.raise.ensures.raises c.raise.ensures.degree)

pub returns-then-not-is_zero : goal.returns-then-not-is_zero
returns-then-not-is_zero g c =
    let P = c.mix-then-not-is_zero.new.self in
    let Q = c.raise-then-not-is_zero.new.self in
    let order : (c.value-first.result ≡ g.F.FiniteField.field.zero) ⊎ (c.self.inside.second.degree < c.self.inside.first.degree) =
    elim c.if-first_moves.ensures [ inl z ↦ inl z | inr (some, less) ↦ inr (subst (λ s. s.second_degree < s.first_degree) (sym c.self.view_is) less) ] in
    rw (← c.self.view_is) (second_moved (alphabet g.F.Scalar.FiniteField g.F.FiniteField g.F.SymbolField)
    (record { first = c.self.inside.first.pair; second = c.self.inside.second.pair; first_degree = c.self.inside.first.degree; second_degree = c.self.inside.second.degree })
    c.args.packet c.value-first.result c.value-second.result c.negative-less.result c.value-first.ensures c.value-second.ensures c.negative-less.ensures
    (record { first = P.pair; second = Q.pair; first_degree = P.degree; second_degree = Q.degree })
    (λ z. false≢true (c.if-not-is_zero.ensures.1 z)) order
    c.mix-then-not-is_zero.ensures.mixes c.mix-then-not-is_zero.ensures.degree c.raise-then-not-is_zero.ensures.raises c.raise-then-not-is_zero.ensures.degree)

pub returns-else-not-is_zero : goal.returns-else-not-is_zero
returns-else-not-is_zero g c =
    let second = c.if-not-is_zero.ensures.0 refl in
    let first : c.value-first.result ≡ g.F.FiniteField.field.zero = elim c.if-first_moves.ensures [ inl z ↦ z | inr (some, less) ↦ absurd (some second) ] in
    rw (← c.self.view_is) (keep (sym c.value-first.ensures ∙ first) (sym c.value-second.ensures ∙ second))
