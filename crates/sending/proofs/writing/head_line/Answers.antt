use Rattle.std.proofs.Common.{rules}
use Rattle.portal_log.proofs.Heads.{head_ended}
use Rattle.sending.proofs.writing.head_line.Goals as goal

pub returns : goal.returns
returns c = rw (head_ended c.args.head) (search rules)
