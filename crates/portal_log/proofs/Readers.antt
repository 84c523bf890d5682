-- What a chain over a reader gives.
use Rattle.std.proofs.Common.{length, ap}
use Rattle.std.proofs.lemmas.Iterator.{YieldsList}
use Rattle.std.proofs.lemmas.Iterator.Consumers.{YieldsList-from_shown}
use Rattle.field.specs.Alphabet.{Alphabet}
use Rattle.portal_log.specs.declared.name.FieldName.{FieldName}
use Rattle.portal_log.specs.declared.reader.Reader.{Reader}
use Rattle.portal_log.specs.Views.{shown}
use Rattle.portal_log.specs.Readers.{left_entries, GivesEntry}

pub entries_yielded : {K S : Type 0} (A : Alphabet K S) (name : FieldName) (s : Reader S) → YieldsList (GivesEntry A name) shown s (left_entries A name s)
entries_yielded A name = YieldsList-from_shown (GivesEntry A name) shown (left_entries A name) (λ s t h. ap length h.gives.0) (λ s x t h. h.gives)
