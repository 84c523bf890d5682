use Rattle.std.proofs.Common.{◌≡◌, subst₂, arith, rules}
use Rattle.std.proofs.lemmas.Result.{err_from_is_err_and}
use Rattle.field.proofs.Members.{alphabet}
use Rattle.collector.specs.Windows.{PacketWindow}
use Rattle.collector.specs.Session.{record_of, held}
use Rattle.collector.proofs.Regions.{part_is}
use Rattle.collector.proofs.Sessions.{sized_base}
use Rattle.collector.proofs.session.Session.look.Goals as goal

pub returns-in_err-sized : goal.returns-in_err-sized
returns-in_err-sized g c =
    let A = alphabet g.F.Scalar.FiniteField g.F.FiniteField g.F.SymbolField in
    let p = err_from_is_err_and c.from_residual.result c.from_residual.ensures.1 in
    rw (p.1, p.2) (sized_base A c.args.self.now c.args.rows.now c.args.number c.in_err-sized.field-0.0 c.in_err-sized.ensures)

pub returns : goal.returns
returns g c =
    let A = alphabet g.F.Scalar.FiniteField g.F.FiniteField g.F.SymbolField in
    let s = c.args.self.now in
    let b = c.args.number in
    let record_is : record_of s b ≡ c.in_ok-record.field-0.now = search rules in
    let dimension_is : c.map_or-dimension.result ≡ held (record_of s b) = search rules in (
      record {
        allowed = c.in_ok-sized.ensures.0;
        room = omega (arith, c.in_ok-sized.ensures);
        below = search rules;
        sound = subst₂ (PacketWindow A s.l) dimension_is (part_is c.place-place.ensures c.args.rows.now) (rw c.parameters.ensures.1 at (c.is_window.ensures.0 c.if-not-is_window.false));
      },
      record_is,
    )
