use Rattle.std.proofs.Common.{◌≡◌, ℕ, List, sym, ap, ◌∙◌, ap₂}
use Rattle.linear.proofs.Fields.{neg_mul, reciprocal_some}
use Rattle.field.specs.Alphabet.{Lawful}
use Rattle.field.proofs.Members.{alphabet}
use Rattle.linearized.specs.Polynomials.{at}
use Rattle.linearized.specs.Coefficients.{before}
use Rattle.linearized.proofs.Frobenius.{ratio, ratio_clears}
use Rattle.collector.specs.Interpolation.{shifted}
use Rattle.collector.proofs.interpolation.Pair.raise.Goals as goal

pub returns-clause-raises : goal.returns-clause-raises
returns-clause-raises g c =
    let A = alphabet g.F.Scalar.FiniteField g.F.FiniteField g.F.SymbolField in
    let G = g.F.FiniteField.field in
    let raise = g.F.SymbolField.frobenius in
    let laws : Lawful A = record { scalar_codes = g.met.F.Scalar.FiniteField.codes; codes = g.met.F.FiniteField.codes; extension = g.met.F.SymbolField.extension } in
    let a = ratio A c.args.v in
    let less : c.negative-less.result ≡ G.neg a =
    c.negative-less.ensures ∙ ap G.neg (c.times.ensures ∙ ap₂ G.mul c.raise.ensures (reciprocal_some G c.args.v c.unwrap-inverse.result (sym c.inverse.ensures ∙ c.unwrap-inverse.ensures)).1) in
    -- − a f is (− a) f
    let raised : (f : List g.row.F.Denot) (n : ℕ) → shifted A c.negative-less.result f n ≡ G.add (raise (before G f n)) (G.neg (G.mul a (at G f n))) =
    λ f n. ap (λ s. G.add (raise (before G f n)) (G.mul s (at G f n))) less ∙ ap (G.add _) (neg_mul G _ _) in
    rw (← c.self.view_is) (record {
      factor = a;
      clears = ratio_clears laws c.args.v c.requires.some;
      in_x = λ n. c.shift.ensures.shifted n ∙ raised c.self.inside.x n;
      in_y = λ n. c.shift-2.ensures.shifted n ∙ raised c.self.inside.y n;
    })
