use Rattle.std.proofs.Common.{◌≡◌, ℕ, ◌<◌, ◌≤◌, Bool, true, false, cond, length, sym, refl, subst, arith, rules}
use Rattle.std.proofs.lemmas.List.{get_or_read}
use Rattle.std.proofs.lemmas.List.Sorted.{answers_always}
use Rattle.std.specs.Ordering.{nat_cmp, is_lt, on, ord_min}
use Rattle.linear.specs.Span.{Span}
use Rattle.field.specs.Alphabet.{Lawful}
use Rattle.field.proofs.Members.{alphabet}
use Rattle.packet.specs.Packets.{packet_zero, packet_rows}
use Rattle.linearized.specs.Interpolation.{τ, State, Interpolates, Interpolating, Next}
use Rattle.linearized.proofs.Interpolation.{interpolating_start, interpolating_step, first_interpolates, second_interpolates}
use Rattle.collector.proofs.interpolation.interpolate.Given as given
use Rattle.collector.proofs.interpolation.interpolate.Goals as goal

laws : (g : given.Over) → Lawful (alphabet g.F.Scalar.FiniteField g.F.FiniteField g.F.SymbolField)
laws g = record { scalar_codes = g.met.F.Scalar.FiniteField.codes; codes = g.met.F.FiniteField.codes; extension = g.met.F.SymbolField.extension }

pub loop-packet-init : goal.loop-packet-init
loop-packet-init g c = interpolating_start (laws g) c.args.parameters.now.k c.args.packets.now _ c.start-state.ensures

pub loop-packet-preserved : goal.loop-packet-preserved
loop-packet-preserved g c =
    let A = alphabet g.F.Scalar.FiniteField g.F.FiniteField g.F.SymbolField in
    let L = c.args.packets.now in
    let i = c.loop-packet.packet-index in
    let read = get_or_read L i c.packet-item.result c.loop-packet-test.true c.packet-item.is (packet_zero A) in
    interpolating_step (laws g) c.args.parameters.now.k L i c.loop-packet.state c.next.new.self c.loop-packet.invariant (subst (λ p. Next A c.loop-packet.state p c.next.new.self) read c.next.ensures)

-- the smaller by a key, and the first where they are equal
smaller : {X : Type 0} (key : X → ℕ) (P : X → Type 0) (a b : X) → (key a ≤ key b → P a) → (key b < key a → P b) → P (ord_min (on key nat_cmp) a b)
smaller key P a b first second = go (is_lt (nat_cmp (key b) (key a))) refl
  where
    go : (less : Bool) → is_lt (nat_cmp (key b) (key a)) ≡ less → P (cond less b a)
    go true e = second (search rules)
    go false e = first (search rules)

pub returns : goal.returns
returns g c =
    let A = alphabet g.F.Scalar.FiniteField g.F.FiniteField g.F.SymbolField in
    let L = c.args.packets.now in
    let s : State g.row.F.Denot = record {
      first = c.state.inside.first.pair;
      second = c.state.inside.second.pair;
      first_degree = c.state.inside.first.degree;
      second_degree = c.state.inside.second.degree;
    } in
    let kept : Interpolating A c.args.parameters.now.k L (length L) s =
    subst (λ s. Interpolating A c.args.parameters.now.k L (length L) s) (sym c.state.view_is) (subst (λ n. Interpolating A c.args.parameters.now.k L n c.loop-packet.state) (omega arith) c.loop-packet.invariant) in
    rw (c.min_by_key.ensures (λ p. p.degree) (answers_always _ _ _ (λ f a r h called. search rules)))
    (smaller (λ p. p.degree) (λ p. Interpolates A c.args.parameters.now.k (τ (length L) c.args.parameters.now.k) (Span (packet_rows A) L) p.pair.x p.pair.y) c.state.inside.first c.state.inside.second
    (first_interpolates (laws g) c.args.parameters.now.k L (λ p. (λ s. s, λ s. s)) s kept) (second_interpolates (laws g) c.args.parameters.now.k L (λ p. (λ s. s, λ s. s)) s kept))
