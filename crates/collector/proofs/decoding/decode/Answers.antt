use Rattle.std.proofs.Common.{◌≡◌, ℕ, ◌-◌, ◌≤◌, List, ◌++◌, length, take, drop, refl, ap, ◌∙◌, arith, length-take, Fits-lit}
use lib.ListN.{length-map}
use mir.Facts.{Fits-lt}
use Rattle.field.specs.Alphabet.{Lawful}
use Rattle.field.proofs.Members.{alphabet}
use Rattle.subspace_code.specs.Holding.{held_code}
use Rattle.collector.specs.Interpolation.{polynomial}
use Rattle.collector.proofs.HeldPolynomials.{front_at}
use Rattle.collector.proofs.Candidates.{no_quotient, measured_shared, measured_found, measured_none}
use Rattle.collector.proofs.decoding.decode.Given as given
use Rattle.collector.proofs.decoding.decode.Goals as goal
use Rattle.collector.proofs.decoding.decode.Goals.{After-measure-foreign}

laws : (g : given.Over) → Lawful (alphabet g.F.Scalar.FiniteField g.F.FiniteField g.F.SymbolField)
laws g = record { scalar_codes = g.met.F.Scalar.FiniteField.codes; codes = g.met.F.FiniteField.codes; extension = g.met.F.SymbolField.extension }

-- the message that the first codes hold
abbrev message : (g : given.Over) → ℕ → List ℕ → List g.row.F.Denot
message g k codes = polynomial (alphabet g.F.Scalar.FiniteField g.F.FiniteField g.F.SymbolField) (take k codes)

message_long : (g : given.Over) (k : ℕ) (codes : List ℕ) → k ≤ length codes → length (message g k codes) ≡ k
message_long g k codes l = omega (arith, length-map (take k codes) (held_code g.F.FiniteField), length-take k codes)

pub returns-in_err-codes : goal.returns-in_err-codes
returns-in_err-codes g c =
    rw c.from_residual.ensures (no_quotient (laws g) c.args.parameters.now.k c.args.parameters.now.l c.args.parameters.now.within c.args.packets.now c.requires.headers c.requires.dimension c.in_err-codes.ensures, refl)

-- the message's measure is at most the dimension, and what is shared at most ℓ
shared : (g : given.Over) (c : After-measure-foreign g) → (c.measure-foreign.result ≤ length c.args.packets.now) × (length c.args.packets.now - c.measure-foreign.result ≤ c.args.parameters.now.l)
shared g c =
    measured_shared (laws g) c.args.parameters.now.k c.args.parameters.now.l c.args.parameters.now.within c.args.packets.now c.requires.headers c.requires.dimension (message g c.args.parameters.now.k c.in_ok-codes.codes) c.measure-foreign.result
    c.measure-foreign.ensures

pub overflow_mul-foreign : goal.overflow_mul-foreign
overflow_mul-foreign g c =
    Fits-lt {n = 100} (omega (arith, (laws g).extension.coordinate_limit, shared g (goal.at.overflow_mul-foreign g c).After-measure-foreign)) (Fits-lit tt)

pub overflow_add-foreign : goal.overflow_add-foreign
overflow_add-foreign g c =
    Fits-lt {n = 100} (omega (arith, (laws g).extension.coordinate_limit, shared g (goal.at.overflow_add-foreign g c).After-measure-foreign)) (Fits-lit tt)

pub returns-then-r-foreign : goal.returns-then-r-foreign
returns-then-r-foreign g c =
    let A = alphabet g.F.Scalar.FiniteField g.F.FiniteField g.F.SymbolField in
    let k = c.args.parameters.now.k in
    let codes = c.in_ok-codes.codes in
    let (room, candidate) = c.in_ok-codes.ensures in
    let long = message_long g k codes (omega (arith, room, (laws g).extension.coordinate_limit)) in (
      measured_none (laws g) k c.args.parameters.now.l c.args.parameters.now.within c.args.packets.now c.requires.headers c.requires.dimension (message g k codes) c.measure-foreign.result c.measure-foreign.ensures
          (polynomial A codes) candidate long (λ n l. front_at A codes k n (omega arith)) c.if-r-foreign.true,
      refl,
    )

pub overflow_sub-lost : goal.overflow_sub-lost
overflow_sub-lost g c = (shared g (goal.at.overflow_sub-lost g c).After-measure-foreign).1

pub returns : goal.returns
returns g c =
    let k = c.args.parameters.now.k in
    let codes = c.in_ok-codes.codes in
    let (room, candidate) = c.in_ok-codes.ensures in
    let long = message_long g k codes (omega (arith, room, (laws g).extension.coordinate_limit)) in
    let taken : length (take k codes) ≡ k = omega (arith, room, length-take k codes, (laws g).extension.coordinate_limit) in
    measured_found (laws g) k c.args.parameters.now.l c.args.parameters.now.within c.args.packets.now c.requires.headers c.requires.dimension (message g k codes) c.measure-foreign.result c.measure-foreign.ensures
    long c.if-r-foreign.false c.args.output.now _ (c.write.ensures ∙ ap (λ n. message g k codes ++ drop n c.args.output.now) taken)
