use Rattle.std.proofs.Common.{◌≡◌, ◌++◌, length, drop, set, sym, refl, ap, ◌∙◌, ap₂, arith}
use lib.ListN.{length-map}
use Rattle.std.proofs.lemmas.List.FromFn.{fill_by_all}
use Rattle.field.proofs.Members.{alphabet}
use Rattle.linearized.specs.Polynomials.{at}
use Rattle.subspace_code.specs.Holding.{held_code}
use Rattle.collector.specs.Interpolation.{polynomial}
use Rattle.subspace_code.proofs.Sums.{front_more}
use Rattle.collector.proofs.HeldPolynomials.{written, polynomial_at}
use Rattle.collector.proofs.decoding.write.Goals as goal

pub loop-i-preserved : goal.loop-i-preserved
loop-i-preserved g c =
    let A = alphabet g.F.Scalar.FiniteField g.F.FiniteField g.F.SymbolField in
    let G = g.F.FiniteField.field in
    let i = c.loop-i.i in
    ap₂ (λ xs x. set xs i x) c.loop-i.invariant (c.load.ensures ∙ sym (polynomial_at A c.args.codes.now i (omega arith)))
    ∙ front_more (at G (polynomial A c.args.codes.now)) c.args.output.now i G.zero (omega arith)

pub returns : goal.returns
returns g c =
    let A = alphabet g.F.Scalar.FiniteField g.F.FiniteField g.F.SymbolField in
    let G = g.F.FiniteField.field in
    let codes = c.args.codes.now in
    let all : c.loop-i.i ≡ length codes = omega arith in
    c.loop-i.invariant ∙ ap (λ n. written (at G (polynomial A codes)) n c.args.output.now) all
    ∙ ap (λ p. p ++ drop (length codes) c.args.output.now)
    (sym (fill_by_all (at G (polynomial A codes)) (polynomial A codes) (length codes) G.zero (length-map codes (held_code g.F.FiniteField)) (λ k l. refl)))
