use Rattle.std.proofs.Common.{◌≡◌, ◌+◌, ◌-◌, refl, subst, arith}
use Rattle.field.specs.Alphabet.{Alphabet, Lawful}
use Rattle.field.proofs.Members.{alphabet}
use Rattle.linearized.specs.Division.{Dividing}
use Rattle.linearized.proofs.Division.{dividing_start, dividing_step, dividing_end}
use Rattle.subspace_code.proofs.Slots.{counted_slots}
use Rattle.subspace_code.proofs.division.divide_in_place.Given as given
use Rattle.subspace_code.proofs.division.divide_in_place.Goals as goal

A : (g : given.Over) → Alphabet g.row.F-Scalar.Denot g.row.F.Denot
A g = alphabet g.F.Scalar.FiniteField g.F.FiniteField g.F.SymbolField

laws : (g : given.Over) → Lawful (A g)
unfolding A
laws g = record { scalar_codes = g.met.F.Scalar.FiniteField.codes; codes = g.met.F.FiniteField.codes; extension = g.met.F.SymbolField.extension }

pub loop-p-init : goal.loop-p-init
unfolding A
loop-p-init g c =
    dividing_start (laws g) _ _ _ _ _ _ c.clear.ensures (λ n. refl) (omega (arith, c.counted_length.ensures, c.saturating_sub-places.ensures))

pub step-requires : goal.step-requires
step-requires g c =
    let fits = counted_slots g.F.FiniteField.field g.H.Holding.held c.args.remainder.now in
    let room = c.requires.1 in
    (c.lead_of-lead.ensures, (omega arith, omega arith))

pub loop-p-preserved : goal.loop-p-preserved
unfolding A
loop-p-preserved g c =
    let place : c.loop-p.p ≡ (c.loop-p.p - 1) + 1 = omega arith in
    dividing_step (laws g) _ _ _ _ _ _ c.lead_of-lead.ensures.top (subst (Dividing (A g) _ _ _ _ _) place c.loop-p.invariant) _ _ c.step.ensures

pub returns : goal.returns
unfolding A
returns g c =
    let over : c.loop-p.p ≡ 0 = omega arith in
    dividing_end (laws g) _ _ _ _ _ c.lead_of-lead.ensures.top (subst (Dividing (A g) _ _ _ _ _) over c.loop-p.invariant)
