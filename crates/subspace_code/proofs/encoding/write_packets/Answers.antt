use Rattle.std.proofs.Common.{◌≡◌, ℕ, ◌+◌, ◌*◌, ◌^◌, ◌<◌, Some, set, sym, refl, ap, ◌∙◌, subst, arith, Fits-lit}
use mir.Facts.{Fits-lt}
use Rattle.std.proofs.lemmas.List.{map-id}
use Rattle.field.specs.Laws.{of_code}
use Rattle.field.specs.Alphabet.{Alphabet, Lawful}
use Rattle.field.proofs.Members.{alphabet}
use Rattle.field.proofs.Alphabets.{of_code_some, of_code_is, basis_in, power_limit, power_step}
use Rattle.packet.specs.declared.Packet.{Packet}
use Rattle.linearized.specs.Code.{packet_at, basis}
use Rattle.linearized.specs.Polynomials.{value}
use Rattle.subspace_code.proofs.Sums.{front_more}
use Rattle.subspace_code.proofs.encoding.write_packets.Given as given
use Rattle.subspace_code.proofs.encoding.write_packets.Goals as goal

A : (g : given.Over) → Alphabet g.row.F-Scalar.Denot g.row.F.Denot
A g = alphabet g.F.Scalar.FiniteField g.F.FiniteField g.F.SymbolField

laws : (g : given.Over) → Lawful (A g)
unfolding A
laws g = record { scalar_codes = g.met.F.Scalar.FiniteField.codes; codes = g.met.F.FiniteField.codes; extension = g.met.F.SymbolField.extension }

-- the turn's code is that of a symbol
some : {K S : Type 0} {A : Alphabet K S} → Lawful A → (i code : ℕ) → i < A.m → code ≡ A.q ^ i → of_code A.size A.element code ≡ Some (A.element code)
some {A = A} laws i code lt e = of_code_some A.size A.element code (subst (λ n. n < A.size) (sym e) (basis_in laws i lt))

pub unwrap-x-requires : goal.unwrap-x-requires
unfolding A
unwrap-x-requires g c =
    let e = some (laws g) c.loop-place.place-index c.loop-place.code (omega arith) c.loop-place.invariant.0 in
    rw (c.from_code.ensures ∙ e) refl

-- one code more
next_code : (g : given.Over) (i code q : ℕ) → code ≡ g.F.SymbolField.ORDER ^ i → q ≡ g.F.SymbolField.ORDER → code * q ≡ g.F.SymbolField.ORDER ^ (i + 1)
next_code g i code q e f = ap (λ n. n * q) e ∙ ap (λ n. g.F.SymbolField.ORDER ^ i * n) f ∙ sym (power_step g.F.SymbolField.ORDER i)

pub overflow_mul-code : goal.overflow_mul-code
unfolding A
overflow_mul-code g c =
    let step = next_code g c.loop-place.place-index c.loop-place.code c.ORDER-q.result c.loop-place.invariant.0 c.ORDER-q.ensures in
    Fits-lt {n = 2 ^ 28 + 1} (omega (arith, step, power_limit (laws g) (c.loop-place.place-index + 1) (omega arith))) (Fits-lit tt)

pub loop-place-preserved : goal.loop-place-preserved
unfolding A
loop-place-preserved g c =
    let u = c.args.message.now in
    let i = c.loop-place.place-index in
    let known = of_code_is g.F.FiniteField.size g.F.FiniteField.element c.loop-place.code c.unwrap-x.result (sym c.from_code.ensures ∙ c.unwrap-x.ensures) in
    let at : c.unwrap-x.result ≡ basis (A g) i = known.1 ∙ ap g.F.FiniteField.element c.loop-place.invariant.0 in
    let packet : Packet g.row.F.Denot = record { x = c.unwrap-x.result; y = c.evaluate-y.result } in
    let sent : packet ≡ packet_at (A g) u (basis (A g) i) =
    (λ t. record { x = c.unwrap-x.result; y = (c.evaluate-y.ensures ∙ ap (λ v. value (A g) v c.unwrap-x.result) (map-id u)) t }) ∙ ap (packet_at (A g) u) at in (
      next_code g i c.loop-place.code c.ORDER-q.result c.loop-place.invariant.0 c.ORDER-q.ensures,
      ap (λ ps. set ps i packet) c.loop-place.invariant.1 ∙ ap (set _ i) sent
          ∙ front_more (λ j. packet_at (A g) u (basis (A g) j)) c.args.output.now i packet (omega arith),
    )
