use Rattle.std.proofs.Common.{◌≡◌, ℕ, ◌<◌, ◌≤◌, ◌⊎◌, length, get_or, take, refl, ap, ◌∙◌, ap₂, sym, inl, inr, arith}
use lib.ListN.{length-map}
use Rattle.std.proofs.lemmas.List.{length-take}
use Rattle.field.specs.Alphabet.{Lawful}
use Rattle.field.proofs.Members.{alphabet}
use Rattle.subspace_code.specs.Holding.{held_code}
use Rattle.collector.specs.Interpolation.{polynomial, mixed}
use Rattle.collector.proofs.HeldPolynomials.{polynomial_at, read_next, write_next, written_places, front_past, Holds, held_past, held_whole, held_front, mixed_null}
use Rattle.collector.proofs.polynomial.Polynomial.mix.Given as given
use Rattle.collector.proofs.polynomial.Polynomial.mix.Goals as goal
use Rattle.collector.proofs.polynomial.Polynomial.mix.Goals.{At-loop-i, then-not-is_zero, else-not-is_zero}

-- the places counted are those of both polynomials, or of this one where b is zero
reached : (g : given.Over) (c : At-loop-i g) → (c.self.inside.places ≤ c.if-not-is_zero.self-inside.places) × (c.if-not-is_zero.self-inside.places ≤ 48)
    × (c.if-not-is_zero.self-inside.codes ≡ c.self.inside.codes) × ((c.args.b ≡ g.F.FiniteField.field.zero) ⊎ (c.other.inside.places ≤ c.if-not-is_zero.self-inside.places))
reached g c = elim c.if-not-is_zero.branch [
  | then-not-is_zero w ↦ let most = ap (λ s. s.places) w.self-inside-is ∙ w.max-self-inside.ensures in
      (omega (arith, most), omega (arith, most, c.self.invariant, c.other.invariant), ap (λ s. s.codes) w.self-inside-is, inr (omega (arith, most)))
  | else-not-is_zero w ↦ let most = ap (λ s. s.places) w.self-inside-is in
      (omega (arith, most), omega (arith, most, c.self.invariant), ap (λ s. s.codes) w.self-inside-is, inl (w.if-not-is_zero.ensures.0 refl))
]

pub loop-i-preserved : goal.loop-i-preserved
loop-i-preserved g c =
    let A = alphabet g.F.Scalar.FiniteField g.F.FiniteField g.F.SymbolField in
    let G = g.F.FiniteField.field in
    let m = c.if-not-is_zero.self-inside.places in
    let front = take m c.if-not-is_zero.self-inside.codes in
    let f = polynomial A front in
    let o = c.other.inside.codes in
    let h = mixed A c.args.a f c.args.b (polynomial A o) in
    let i = c.loop-i.i in
    let items = c.loop-i.slot-items in
    let (far, short, same, other) = reached g (goal.at.loop-i-preserved g c).At-loop-i in
    let inside : i < length items = omega arith in
    let left = c.load-left.ensures ∙ read_next A h f items i c.loop-i.invariant inside in
    let right = c.load-right.ensures ∙ sym (polynomial_at A o i (omega (arith, length-take m c.if-not-is_zero.self-inside.codes, c.other.told, short))) in
    write_next A h f items i c.loop-i.invariant inside c.store.result (omega (arith, length-map front (held_code g.F.FiniteField)))
    (c.store.ensures ∙ c.plus.ensures ∙ ap₂ G.add (c.times.ensures ∙ ap (G.mul c.args.a) left) (c.times-in-loop-i.ensures ∙ ap (G.mul c.args.b) right))

pub returns-clause-mixed : goal.returns-clause-mixed
returns-clause-mixed g c n =
    let A = alphabet g.F.Scalar.FiniteField g.F.FiniteField g.F.SymbolField in
    let G = g.F.FiniteField.field in
    let laws : Lawful A = record { scalar_codes = g.met.F.Scalar.FiniteField.codes; codes = g.met.F.FiniteField.codes; extension = g.met.F.SymbolField.extension } in
    let m = c.if-not-is_zero.self-inside.places in
    let codes = c.if-not-is_zero.self-inside.codes in
    let f = polynomial A (take m codes) in
    let o = c.other.inside.codes in
    let (far, short, same, other) = reached g (goal.at.returns-clause-mixed g c).At-loop-i in
    let left : Holds A codes c.self.inside.places c.args.self.now = record {
      front = ap (λ x. polynomial A (take c.self.inside.places x)) same ∙ c.self.view_is;
      zeros = λ n l. ap (λ x. get_or x n 0) same ∙ c.self.invariant.1 n l;
    } in
    let right : Holds A o c.other.inside.places c.args.other.now = record { front = c.other.view_is; zeros = c.other.invariant.1 } in
    let none : (j : ℕ) → m ≤ j → mixed A c.args.a f c.args.b (polynomial A o) j ≡ G.zero =
    λ j l. mixed_null laws c.args.a f c.args.b (polynomial A o) j (front_past A codes m j l)
    (elim other [ inl z ↦ inl z | inr few ↦ inr (held_whole laws right j ∙ held_past laws right j (omega arith)) ]) in
    written_places A (mixed A c.args.a f c.args.b (polynomial A o)) codes c.loop-i.slot-items m c.loop-i.i (omega arith) (omega (arith, c.self.told, short, ap length same))
    c.loop-i.invariant (omega arith) none n
    ∙ ap₂ (λ x y. G.add (G.mul c.args.a x) (G.mul c.args.b y)) (held_front laws left m far n) (held_whole laws right n)
