-- What is still to come of a log within its limit.
use Rattle.std.proofs.Common.{◌≡◌, ℕ, ◌≤◌, length}
use Rattle.std.proofs.lemmas.Bool.{cond-false, le-ltb}
use Rattle.field.specs.Alphabet.{Alphabet}
use Rattle.portal_log.specs.declared.name.FieldName.{FieldName}
use Rattle.portal_log.specs.declared.reader.Reader.{Reader}
use Rattle.portal_log.specs.Entries.{log_limit}
use Rattle.portal_log.specs.Readers.{left_entries}
use Rattle.log_feed.specs.Numbered.{numbered, fed}

pub fed_within : {K S : Type 0} (A : Alphabet K S) (name : FieldName) (n : ℕ) (r : Reader S) → length r.lines.text.now ≤ log_limit → fed A name n r ≡ numbered A name n (left_entries A name r)
fed_within A name n r h = cond-false _ _ _ (le-ltb log_limit (length r.lines.text.now) h)
