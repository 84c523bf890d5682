-- The rows of a number as decoding gets them, and what its answer says of the number's space.
use Rattle.std.proofs.Common.{◌≡◌, ℕ, ◌+◌, ◌-◌, ◌*◌, ◌≤◌, List, length, take, drop, Some, None, Option, sym, ap, ◌∙◌, subst, inl, inr, arith}
use Rattle.std.specs.Option.{ok_or}
use Rattle.std.specs.declared.ops.Range.{Range}
use Rattle.std.proofs.lemmas.List.{length-take-le}
use Rattle.linear.specs.Span.{Span, IsDim}
use Rattle.linear.proofs.Dims.{spans_self}
use Rattle.linear.proofs.Forms.{reduced_dim}
use Rattle.field.specs.Alphabet.{Alphabet, Lawful}
use Rattle.packet.specs.declared.Packet.{Packet}
use Rattle.packet.specs.Packets.{packet_rows}
use Rattle.packet.proofs.Packets.{packet_laws}
use Rattle.answer.specs.declared.Solved.{Solved}
use Rattle.answer.specs.declared.Tally.{Tally}
use Rattle.answer.specs.declared.refusal.Refusal.TheVariants.{NoneNear}
use Rattle.collector.specs.declared.session.Session.{Session}
use Rattle.collector.specs.Answers.{solve_causes}
use Rattle.collector.specs.Decoding.{Decodes}
use Rattle.collector.specs.Regions.{width, Place}
use Rattle.collector.specs.Session.{record_of, held, rows_of, taken_space, Ready, Solves}
use Rattle.collector.proofs.Regions.{part_is}
use Rattle.collector.proofs.Sessions.{open_none, open_first}

module _ {K S : Type 0} {A : Alphabet K S} (laws : Lawful A) {s : Session} {rows : List (Packet S)} {b : ℕ} (ready : Ready A s rows b)
    {tally : Tally} (was : record_of s b ≡ Some tally) {range : Range ℕ} (place : Place (width A s.l) b range) where
  -- the reduced rows of the window `rows[place]`
  abbrev reduced : List (Packet S)
  reduced = take (tally.dimension - 0) (take (range.end - range.start) (drop range.start rows))

  reduced_is : reduced ≡ take (held (record_of s b)) (rows_of A s rows b)
  reduced_is =
      let all : tally.dimension - 0 ≡ tally.dimension = omega arith in
      ap (take (tally.dimension - 0)) (part_is place rows) ∙ ap (λ n. take n (rows_of A s rows b)) (all ∙ ap held (sym was))

  pub reduced_dimension : IsDim (packet_rows A) (Span (packet_rows A) reduced) (length reduced)
  reduced_dimension =
      subst (λ L. IsDim (packet_rows A) (Span (packet_rows A) L) (length L)) (sym reduced_is)
      (reduced_dim (packet_laws laws) (ready.sound.0.reduced, spans_self (packet_rows A) (take (held (record_of s b)) (rows_of A s rows b))))

  -- what decoding gives of them it gives of the number's space
  space_decodes : (output written : List S) (answer : Option Solved) → Decodes A s.k s.l (Span (packet_rows A) reduced) (length reduced) output written answer
      → Decodes A s.k s.l (taken_space A s rows b) (held (record_of s b)) output written answer
  space_decodes output written answer gives =
      subst (λ r. Decodes A s.k s.l (taken_space A s rows b) r output written answer) (length-take-le (held (record_of s b)) (rows_of A s rows b) ready.sound.0.within)
      (subst (λ L. Decodes A s.k s.l (Span (packet_rows A) L) (length L) output written answer) reduced_is gives)

  -- and the call answers it
  pub solves : (output written : List S) (answer : Option Solved) → s.k ≤ length output → s.k ≤ tally.dimension → tally.dimension + s.k ≤ 2 * s.l
      → Decodes A s.k s.l (Span (packet_rows A) reduced) (length reduced) output written answer → Solves A s rows b output (ok_or answer (NoneNear tally.dimension)) written
  solves output written answer room low high gives = go answer (space_decodes output written answer gives)
    where
      is : held (record_of s b) ≡ tally.dimension
      is = ap held was

      go : (answer : Option Solved) → Decodes A s.k s.l (taken_space A s rows b) (held (record_of s b)) output written answer
          → Solves A s rows b output (ok_or answer (NoneNear tally.dimension)) written
      go None (nowhere, same) = (
        open_first ready was (solve_causes A s.k s.l (taken_space A s rows b) (held (record_of s b)) (length output)) (NoneNear tally.dimension)
            (inr (λ h. omega (arith, is), inr (λ h. omega (arith, is), inr (λ h. omega (arith, is), inl (nowhere, ap NoneNear (sym is)))))),
        same,
      )
      go (Some a) gives = (
        open_none ready was (solve_causes A s.k s.l (taken_space A s rows b) (held (record_of s b)) (length output))
            (λ h. omega (arith, is), (λ h. omega (arith, is), (λ h. omega (arith, is), (λ f. f gives.message gives.within, tt)))),
        gives,
      )
