-- Answers that are gathered one by one.
use Rattle.std.proofs.Common.{List, ◌++◌, Ok, Err, Result}

module _ {X E : Type 0} where
  -- the values xs, and then those of the others
  abbrev pub after : List X → Result (List X) E → Result (List X) E
  after xs (Ok ys) = Ok (xs ++ ys)
  after xs (Err e) = Err e
