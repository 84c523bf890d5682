-- What is written so far and the digits below `place` are the whole code.
use Rattle.std.proofs.Common.{◌≡◌, ℕ, List, ◌++◌}
use Rattle.std.specs.Fmt.{IsPlainFormatter, HasWritten}
use Rattle.portal_log.specs.Numbers.{hex}
use Rattle.portal_log.proofs.code.CodeDisplay.fmt.Given as goal

abbrev pub invariant-loop-place : goal.invariant-loop-place
invariant-loop-place g l =
    (front : List ℕ) × (front ++ hex l.place l.code ≡ hex l.initial.place l.code) × (IsPlainFormatter l.initial.f → HasWritten g.W.Write.write_str_gives l.initial.f front l.f)
