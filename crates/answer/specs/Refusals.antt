-- Refusals: why a call gives no answer.
--   number        the number of each refusal
--   first_cause   of the causes in their order, the refusal of the first that applies, where causes are tests
--   answered      a call's answer: refused, or done with what it gives
--   Causes        causes in the order in which they are judged, each with its refusal, where causes are facts
--   First         a cause applies, none before it does, and this is its refusal
--   NoCause       no cause applies
-- Assumes nothing.
use Rattle.std.specs.Prelude.{◌≡◌, ℕ, Bool, cond, ◌⊎◌, List, [], ◌∷◌, Some, None, Ok, Err, Option, Result}
use Rattle.answer.specs.declared.refusal.Refusal.{Refusal}
use Rattle.answer.specs.declared.refusal.Refusal.TheVariants.{Parameters, Rows, BlockNumber, AlreadyOpen, NotOpen, Header, Payload, ListFull, OutputShort, DimensionLow, DimensionHigh, NoneNear, MessageLength, LogLong, LineShape, DivisorZero}

abbrev pub number : Refusal → ℕ
number Parameters = 1
number Rows = 2
number BlockNumber = 3
number AlreadyOpen = 4
number NotOpen = 5
number Header = 6
number Payload = 7
number ListFull = 8
number OutputShort = 9
number (DimensionLow r) = 10
number (DimensionHigh r) = 11
number (NoneNear r) = 12
number MessageLength = 13
number LogLong = 14
number LineShape = 15
number DivisorZero = 16

abbrev pub first_cause : List (Bool × Refusal) → Option Refusal
first_cause [] = None
first_cause (cause ∷ causes) = cond cause.0 (Some cause.1) (first_cause causes)

abbrev pub answered : {A : Type 0} → Option Refusal → A → Result A Refusal
answered None a = Ok a
answered (Some refusal) a = Err refusal

abbrev pub Causes : Type 1
Causes = List (Type 0 × Refusal)

abbrev pub First : Causes → Refusal → Type 0
First [] e = ⊥
First (cause ∷ causes) e = (cause.0 × (e ≡ cause.1)) ⊎ ((¬ cause.0) × First causes e)

abbrev pub NoCause : Causes → Type 0
NoCause [] = Unit {0}
NoCause (cause ∷ causes) = (¬ cause.0) × NoCause causes
