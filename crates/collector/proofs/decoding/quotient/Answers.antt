use Rattle.std.proofs.Common.{◌≡◌, ℕ, ◌≤◌, List, length, replicate, Some, None, Ok, Err, Result, sym, ap, subst, subst₂, arith, rules}
use lib.ListN.{length-map}
use Rattle.std.specs.Result.{result_ok}
use Rattle.linear.specs.Span.{Span}
use Rattle.field.specs.Alphabet.{Alphabet}
use Rattle.field.proofs.Members.{alphabet}
use Rattle.packet.specs.Packets.{packet_rows}
use Rattle.linearized.specs.Polynomials.{counted, Divided}
use Rattle.linearized.specs.Interpolation.{τ, Interpolates}
use Rattle.linearized.proofs.Counts.{counted_length}
use Rattle.answer.specs.declared.refusal.Refusal.{Refusal}
use Rattle.subspace_code.specs.Dividing.{divide_refusal, DivideAnswer}
use Rattle.subspace_code.proofs.Quotients.{refused_zero}
use Rattle.subspace_code.specs.Holding.{held_code}
use Rattle.collector.specs.Interpolation.{polynomial}
use Rattle.collector.proofs.decoding.quotient.Given as given
use Rattle.collector.proofs.decoding.quotient.Goals as goal
use Rattle.collector.proofs.decoding.quotient.Goals.{After-divide_held}

-- what a division leaves where it is answered, and why it is refused where it is not
module _ {K S : Type 0} (A : Alphabet K S) (D B f R g T : List S) where
  answered_some : (r : Result (ℕ × ℕ) Refusal) (n : ℕ × ℕ) → Some n ≡ result_ok r → DivideAnswer A D B f R g T r → Divided A D B g T
  answered_some (Ok (m, n)) _ is answer = answer.1
  answered_some (Err e) _ is answer = search rules

  answered_none : (r : Result (ℕ × ℕ) Refusal) → None ≡ result_ok r → DivideAnswer A D B f R g T r → (e : Refusal) × (divide_refusal (counted A.symbols D) (counted A.symbols B) (length f) (length R) ≡ Some e)
  answered_none (Ok (m, n)) is answer = search rules
  answered_none (Err e) is answer = (e, answer.0)

-- the pair that is found, and what the division answers for it
found : (g : given.Over) (c : After-divide_held g) →
    let A = alphabet g.F.Scalar.FiniteField g.F.FiniteField g.F.SymbolField in
    Interpolates A c.args.parameters.now.k (τ (length c.args.packets.now) c.args.parameters.now.k) (Span (packet_rows A) c.args.packets.now) c.x.inside.x c.x.inside.y
    × DivideAnswer A c.negate.new.self c.x.inside.y (polynomial A (replicate 48 0)) (polynomial A (replicate 48 0)) (polynomial A c.divide_held.new.quotient) (polynomial A c.divide_held.new.remainder) c.divide_held.result
found g c =
    let A = alphabet g.F.Scalar.FiniteField g.F.FiniteField g.F.SymbolField in (
      subst (λ w. Interpolates A c.args.parameters.now.k (τ (length c.args.packets.now) c.args.parameters.now.k) (Span (packet_rows A) c.args.packets.now) w.pair.x w.pair.y) (sym c.x.view_is) c.interpolate.ensures,
      subst₂ (λ D B. DivideAnswer A D B (polynomial A (replicate 48 0)) (polynomial A (replicate 48 0)) (polynomial A c.divide_held.new.quotient) (polynomial A c.divide_held.new.remainder) c.divide_held.result)
          c.codes.ensures.codes c.codes-2.ensures.codes c.divide_held.ensures.answer,
    )

pub returns-in_err-ok : goal.returns-in_err-ok
returns-in_err-ok g c =
    let A = alphabet g.F.Scalar.FiniteField g.F.FiniteField g.F.SymbolField in
    let G = g.F.FiniteField.field in
    let none = polynomial A (replicate 48 0) in
    let D = c.negate.new.self in
    let Qy = c.x.inside.y in
    let (pair, answer) = found g (goal.at.returns-in_err-ok g c).After-divide_held in
    let (e, refused) = answered_none A D Qy none none _ _ c.divide_held.result c.in_err-ok.ensures.value answer in
    let few : counted G D ≤ 48 = omega (arith, counted_length G D, ap length c.codes.ensures.codes, length-map c.codes.result.now (held_code g.F.FiniteField), c.codes.ensures.few) in
    rw c.from_residual.ensures (c.x.inside.x, Qy, pair, refused_zero (counted G D) (counted G Qy) 48 48 e refused few few)

pub returns : goal.returns
returns g c =
    let A = alphabet g.F.Scalar.FiniteField g.F.FiniteField g.F.SymbolField in
    let none = polynomial A (replicate 48 0) in
    let (pair, answer) = found g (goal.at.returns g c).After-divide_held in (
      c.divide_held.auto.quotient,
      record {
        Qx = c.x.inside.x;
        Qy = c.x.inside.y;
        interpolates = pair;
        D = c.negate.new.self;
        negative = c.negate.ensures;
        R = polynomial A c.divide_held.new.remainder;
        divided = answered_some A c.negate.new.self c.x.inside.y none none _ _ c.divide_held.result c.in_ok-ok.field-0 c.in_ok-ok.ensures.value answer;
      },
    )
