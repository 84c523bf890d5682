-- Erased slots and unreadable lines, counted line by line.
use Rattle.std.proofs.Common.{◌+◌, ◌≤◌, List, [], ◌∷◌, length, arith}
use Rattle.portal_log.specs.Entries.{Entry, packet_at, erased_at, unreadable_at}
use Rattle.sheet.specs.Sheets.{erased, unreadable}

pub counted_few : (es : List Entry) → erased es + unreadable es ≤ length es
counted_few [] = omega arith
counted_few (packet_at number header payload ∷ es) = omega (arith, counted_few es)
counted_few (erased_at place ∷ es) = omega (arith, counted_few es)
counted_few (unreadable_at text ∷ es) = omega (arith, counted_few es)
