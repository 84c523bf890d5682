use Rattle.std.proofs.Common.{◌≡◌, ◌≤◌, length, take, drop, sym, ap, ◌∙◌, subst, arith, rules, length-take}
use Rattle.std.proofs.lemmas.List.{take_at}
use Rattle.std.proofs.lemmas.List.FromFn.{length-map-range_with_len}
use Rattle.linear.specs.Span.{Each}
use Rattle.field.specs.Alphabet.{Alphabet, Lawful}
use Rattle.field.proofs.Members.{alphabet}
use Rattle.linearized.specs.Code.{Codeword, packet_at, basis, packets}
use Rattle.subspace_code.proofs.Codewords.{packets_codewords}
use Rattle.subspace_code.proofs.encoding.encode.Given as given
use Rattle.subspace_code.proofs.encoding.encode.Goals as goal

A : (g : given.Over) → Alphabet g.row.F-Scalar.Denot g.row.F.Denot
A g = alphabet g.F.Scalar.FiniteField g.F.FiniteField g.F.SymbolField

laws : (g : given.Over) → Lawful (A g)
unfolding A
laws g = record { scalar_codes = g.met.F.Scalar.FiniteField.codes; codes = g.met.F.FiniteField.codes; extension = g.met.F.SymbolField.extension }

pub returns-clause-codewords : goal.returns-clause-codewords
unfolding A
returns-clause-codewords g c _ =
    let ℓ = c.args.l in
    let u = c.args.message.now in
    let small : ℓ ≤ g.F.SymbolField.DEGREE = search rules in
    let room : ℓ ≤ length c.args.output.now = search rules in
    let many : length (take ℓ c.args.output.now) ≡ ℓ = simp length-take (omega arith) in
    let sent : c.write_packets.new.output ≡ packets (A g) ℓ u = c.write_packets.ensures ∙ ap (λ n. packets (A g) n u) many in
    let front =
    take_at c.write_packets.new.output (drop ℓ c.args.output.now) ℓ (ap length sent ∙ length-map-range_with_len (λ i. packet_at (A g) u (basis (A g) i)) 0 ℓ) in
    subst (Each (Codeword (A g) ℓ u)) (sym (front ∙ sent)) (packets_codewords (A g) (laws g) ℓ u small)
