use Rattle.std.proofs.Common.{◌∷◌, map, sym, ap, ◌∙◌, subst}
use Rattle.field.proofs.Members.{alphabet}
use Rattle.portal_log.specs.Entries.{Entry, EntryStands, entry}
use Rattle.portal_log.specs.Views.{part_of, placed_lines}
use Rattle.portal_log.proofs.Entries.{entry_stands}
use Rattle.portal_log.proofs.reader.ReaderIterator.next.Goals as goal

pub returns-clause-steps : goal.returns-clause-steps
returns-clause-steps g c =
    let A = alphabet g.F.Scalar.FiniteField g.F.FiniteField g.F.SymbolField in
    let name = g.F.LogField.FIELD_NAME in
    let step = c.in_ok-line.ensures.steps in
    let line = part_of c.in_ok-line.line in
    let more = map (entry A name) (placed_lines c.next.new.self) in
    record {
      gives = ap (map (entry A name)) step.places ∙ ap (λ (e : Entry). e ∷ more) (sym c.read_line.ensures);
      stands = subst (EntryStands c.args.self.now.lines.text.now) (sym c.read_line.ensures) (entry_stands A name _ line step.stands);
      same = step.same;
    }
