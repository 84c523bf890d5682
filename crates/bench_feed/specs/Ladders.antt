-- Ladders: packets at equal steps.
--   ladder          n packets: p, p + s, p + 2s …
--   ladder_length   there are n
--   ladder_short    within a feed's limit, if n is
-- Assumes nothing.
use Rattle.std.specs.Prelude.{◌≡◌, ℕ, zero, suc, ◌≤◌, List, [], ◌∷◌, length}
use Rattle.std.proofs.Math.Path.{refl, ap}
use Rattle.std.proofs.Common.{sym, subst}
use Rattle.field.specs.Alphabet.{Alphabet}
use Rattle.packet.specs.declared.Packet.{Packet}
use Rattle.packet.specs.Packets.{packet_sum}
use Rattle.feed.specs.Feeds.{feed_limit}

module _ {K S : Type 0} (A : Alphabet K S) where
  unfoldable pub ladder : ℕ → Packet S → Packet S → List (Packet S)
  ladder zero p s = []
  ladder (suc n) p s = p ∷ ladder n (packet_sum A p s) s

  pub ladder_length : (n : ℕ) (p s : Packet S) → length (ladder n p s) ≡ n
  unfolding ladder
  ladder_length zero p s = refl
  ladder_length (suc n) p s = ap suc (ladder_length n (packet_sum A p s) s)

  pub ladder_short : (n : ℕ) (p s : Packet S) → n ≤ feed_limit → length (ladder n p s) ≤ feed_limit
  ladder_short n p s h = subst (λ (k : ℕ). k ≤ feed_limit) (sym (ladder_length n p s)) h
