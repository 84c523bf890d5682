-- What the feeds of this crate have still to come. Of a layer, `below` is the list of what lies below it.
--   held_from   the packets held, from a place on
--   gap_list    gapped, while the gap is ahead
--   join_list   both lists, as far as the limit goes beyond what was given out
--   stir_list   stirred, after the last packet given out
-- Each is a function X-from of the parts that change with a call.
-- Assumes nothing.
use Rattle.std.specs.Prelude.{ℕ, ◌-◌, List, ◌++◌, take, drop, Some, None, Option}
use Rattle.field.specs.Alphabet.{Alphabet}
use Rattle.packet.specs.declared.Packet.{Packet}
use Rattle.feed.specs.Feeds.{feed_limit}
use Rattle.feed.specs.Layers.{held, gapped, stirred, stirred_after}
use Rattle.feed.specs.declared.gap.Gap.{Gap}
use Rattle.feed.specs.declared.join.Join.{Join}
use Rattle.feed.specs.declared.stir.Stir.{Stir}

module _ {P : Type 0} where
  abbrev pub held_from : ℕ → List P → List P
  held_from at ps = drop at (held ps)

  abbrev pub gap_from : Option ℕ → List P → List P
  gap_from None ps = ps
  gap_from (Some n) ps = gapped n ps

  unfoldable pub join_from : ℕ → List P → List P → List P
  join_from given ps rs = take (feed_limit - given) (ps ++ rs)

abbrev pub stir_from : {K S : Type 0} → Alphabet K S → K → Option (Packet S) → List (Packet S) → List (Packet S)
stir_from A c None ps = stirred A c ps
stir_from A c (Some o) ps = stirred_after A c o ps

abbrev pub gap_list : {P D : Type 0} → (D → List P) → Gap D → List P
gap_list below s = gap_from s.place (below s.lower)

abbrev pub join_list : {P C D : Type 0} → (C → List P) → (D → List P) → Join C D → List P
join_list first second s = join_from s.given (first s.first) (second s.second)

abbrev pub stir_list : {K S D : Type 0} → Alphabet K S → (D → List (Packet S)) → Stir S D K → List (Packet S)
stir_list A below s = stir_from A s.scalar s.last (below s.lower)
