use Rattle.std.proofs.Common.{◌≡◌, length, arith, ltb-false, ltb-true}
use Rattle.portal_log.specs.Views.{texts}
use Rattle.portal_log.proofs.Entries.{parts_long}
use Rattle.portal_log.proofs.line.read_line.Goals as goal

pub packet_at-requires : goal.packet_at-requires
packet_at-requires g c =
    let p = c.in-Some-P-default-default-default in
    let one : length p.field-0-0.now ≡ 1 = omega (arith, ltb-true, ltb-false) in
    omega (arith, parts_long c.args.line.text.now (texts (p.field-0-0, p.number, p.header, p.payload)) p.ensures)
