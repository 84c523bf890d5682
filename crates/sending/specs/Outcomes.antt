-- Outcomes: values or refusals, one after another.
--   and_then   f of a value; a refusal stays
--   onto       a value before the values of others
--   all        the values of all, or the first refusal
--   Answers    what a call gives that may also run out of memory: `view` of its value is the answer's
-- Assumes nothing.
use Rattle.std.specs.Prelude.{◌≡◌, List, [], ◌∷◌, Ok, Err, Result}
use Rattle.answer.specs.declared.refusal.Refusal.{Refusal}
use Rattle.sending.specs.declared.fault.Fault.{Fault}
use Rattle.sending.specs.declared.fault.Fault.TheVariants.{Refused, Memory}

abbrev pub and_then : {X Y E : Type 0} → Result X E → (X → Result Y E) → Result Y E
and_then (Ok x) f = f x
and_then (Err e) f = Err e

abbrev pub onto : {X E : Type 0} → Result X E → Result (List X) E → Result (List X) E
onto (Err e) rest = Err e
onto (Ok x) (Err e) = Err e
onto (Ok x) (Ok xs) = Ok (x ∷ xs)

abbrev pub all : {X E : Type 0} → List (Result X E) → Result (List X) E
all [] = Ok []
all (r ∷ rs) = onto r (all rs)

abbrev pub Answers : {X Y : Type 0} → (X → Y) → Result X Fault → Result Y Refusal → Type 0
Answers view (Ok x) answer = answer ≡ Ok (view x)
Answers view (Err (Refused refusal)) answer = answer ≡ Err refusal
Answers view (Err Memory) answer = Unit {0}
