-- Feeds: what a feed means, and what one call of `next` does.
--   feed_limit   no feed has more packets to come than this
--   Next         `next` gives the first of the list and removes it; of an empty list it gives none
-- Assumes nothing.
use Rattle.std.specs.Prelude.{◌≡◌, ℕ, List, [], ◌∷◌, Some, None, Option}

abbrev pub feed_limit : ℕ
feed_limit = 1000000

-- the list before, what was given, the list after
abbrev pub Next : {P : Type 0} → List P → Option P → List P → Type 0
Next [] r after = (r ≡ None) × (after ≡ [])
Next (p ∷ ps) r after = (r ≡ Some p) × (after ≡ ps)
