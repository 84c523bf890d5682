-- The held feed and the layers, as functions of the lists below them.
--   held      the lent packets; of more than the limit, the first
--   gapped    all but the packet at place n, counted from 0
--   joined    one list, then another, up to the limit in all
--   mixed     p + c·o
--   stirred   p_1, p_2 … made o_1 = p_1, o_j = p_j + c·o_{j−1}
--   Stirs     the same said place by place
-- Assumes nothing.
use Rattle.std.specs.Prelude.{◌≡◌, ℕ, suc, ◌+◌, ◌<◌, List, [], ◌∷◌, ◌++◌, length, take, drop, slice_index_or}
use Rattle.field.specs.Alphabet.{Alphabet}
use Rattle.packet.specs.declared.Packet.{Packet}
use Rattle.packet.specs.Packets.{packet_zero, packet_sum, packet_multiple}
use Rattle.feed.specs.Feeds.{feed_limit}

module _ {P : Type 0} where
  unfoldable pub held : List P → List P
  held ps = take feed_limit ps

  abbrev pub gapped : ℕ → List P → List P
  gapped n ps = take n ps ++ drop (suc n) ps

  unfoldable pub joined : List P → List P → List P
  joined ps rs = take feed_limit (ps ++ rs)

module _ {K S : Type 0} (A : Alphabet K S) (c : K) where
  abbrev pub mixed : Packet S → Packet S → Packet S
  mixed p o = packet_sum A p (packet_multiple A c o)

  -- what comes after o
  unfoldable pub stirred_after : Packet S → List (Packet S) → List (Packet S)
  stirred_after o [] = []
  stirred_after o (p ∷ ps) = mixed p o ∷ stirred_after (mixed p o) ps

  unfoldable pub stirred : List (Packet S) → List (Packet S)
  stirred [] = []
  stirred (p ∷ ps) = p ∷ stirred_after p ps

  abbrev at : List (Packet S) → ℕ → Packet S
  at ps i = slice_index_or ps i (packet_zero A)

  pub record Stirs (ps os : List (Packet S)) : Type 0 where
    pub long : length os ≡ length ps
    pub first : at os 0 ≡ at ps 0
    pub later : (j : ℕ) → j + 1 < length ps → at os (j + 1) ≡ mixed (at ps (j + 1)) (at os j)
