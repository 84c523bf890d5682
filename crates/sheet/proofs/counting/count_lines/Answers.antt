use Rattle.std.proofs.Common.{◌≡◌, ℕ, ◌≤◌, List, length, ap, arith, Fits-lit}
use mir.Facts.{Fits-lt}
use Rattle.field.proofs.Members.{alphabet}
use Rattle.portal_log.specs.declared.reader.Reader.{Reader}
use Rattle.portal_log.specs.declared.text.Lines.{Lines}
use Rattle.portal_log.specs.Entries.{log_limit}
use Rattle.log_feed.specs.Lengths.{entries_length}
use Rattle.sheet.specs.Sheets.{erased, unreadable}
use Rattle.sheet.proofs.Counts.{counted_few}
use Rattle.sheet.proofs.counting.count_lines.Invariants.{entries}
use Rattle.sheet.proofs.counting.count_lines.Given as given
use Rattle.sheet.proofs.counting.count_lines.Goals as goal

-- a short log has few lines
few : (g : given.Over) (r : Reader g.row.F.Denot) (l : Lines) (log : List ℕ) → r.lines ≡ l → l.text.now ≡ log → length log ≤ log_limit → length (entries g r) ≤ log_limit
few g r l log e f h =
    let A = alphabet g.F.Scalar.FiniteField g.F.FiniteField g.F.SymbolField in
    omega (arith, entries_length A g.F.LogField.FIELD_NAME r, ap (λ (l : Lines). length l.text.now) e, ap length f)

pub overflow_add-erased : goal.overflow_add-erased
overflow_add-erased g c =
    let start = ap (λ r. erased (entries g r)) c.into_iter-line-iterator.ensures.into_iter_gives in
    Fits-lt {n = 65538} (omega (arith, c.loop-line.invariant.2, start, counted_few (entries g c.of-reader.result), few g c.of-reader.result c.open.result.1 c.args.log.now.bytes.now c.of-reader.ensures c.open.ensures.text c.args.log.now.short)) (Fits-lit tt)

pub overflow_add-unreadable : goal.overflow_add-unreadable
overflow_add-unreadable g c =
    let start = ap (λ r. unreadable (entries g r)) c.into_iter-line-iterator.ensures.into_iter_gives in
    Fits-lt {n = 65538} (omega (arith, c.loop-line.invariant.3, start, counted_few (entries g c.of-reader.result), few g c.of-reader.result c.open.result.1 c.args.log.now.bytes.now c.of-reader.ensures c.open.ensures.text c.args.log.now.short)) (Fits-lit tt)
