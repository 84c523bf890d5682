-- One call of `next` on a ladder.
use Rattle.std.proofs.Common.{ℕ, suc, Some, None, refl}
use Rattle.field.specs.Alphabet.{Alphabet}
use Rattle.packet.specs.declared.Packet.{Packet}
use Rattle.packet.specs.Packets.{packet_sum}
use Rattle.feed.specs.Feeds.{Next}
use Rattle.bench_feed.specs.Ladders.{ladder}

module _ {K S : Type 0} (A : Alphabet K S) (p s : Packet S) where
  pub ladder_ends : Next (ladder A 0 p s) None (ladder A 0 p s)
  unfolding ladder
  ladder_ends = (refl, refl)

  pub ladder_gives : (n : ℕ) → Next (ladder A (suc n) p s) (Some p) (ladder A n (packet_sum A p s) s)
  unfolding ladder
  ladder_gives n = (refl, refl)
