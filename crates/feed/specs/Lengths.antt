-- The lengths of the lists of this crate's feeds, and that none passes the limit.
--   held_length, gap_length, join_length, stir_length   how many packets there are
--   held_short, gap_short, join_short, stir_short       within the limit
-- Assumes nothing.
use Rattle.std.specs.Prelude.{◌≡◌, ℕ, suc, ◌+◌, ◌-◌, ◌≤◌, min, List, [], ◌∷◌, length, Some, None, Option}
use Rattle.std.proofs.Math.Path.{refl, ap}
use Rattle.std.proofs.Common.{arith, length-take, length-drop, length-append}
use Rattle.field.specs.Alphabet.{Alphabet}
use Rattle.packet.specs.declared.Packet.{Packet}
use Rattle.feed.specs.Feeds.{feed_limit}
use Rattle.feed.specs.Layers.{held, gapped, mixed, stirred, stirred_after}
use Rattle.feed.specs.Lists.{held_from, gap_from, join_from, stir_from}

module _ {P : Type 0} where
  pub held_length : (at : ℕ) (ps : List P) → length (held_from at ps) ≡ min feed_limit (length ps) - at
  unfolding held
  held_length at ps = simp (length-drop, length-take)

  pub held_short : (at : ℕ) (ps : List P) → length (held_from at ps) ≤ feed_limit
  held_short at ps = let e = held_length at ps in omega arith

  pub gap_length : (n : ℕ) (ps : List P) → length (gapped n ps) ≡ min n (length ps) + (length ps - suc n)
  gap_length n ps = simp (length-append, length-take, length-drop)

  pub gap_short : (place : Option ℕ) (ps : List P) → length ps ≤ feed_limit → length (gap_from place ps) ≤ feed_limit
  gap_short None ps h = h
  gap_short (Some n) ps h = let e = gap_length n ps in omega arith

  pub join_length : (given : ℕ) (ps rs : List P) → length (join_from given ps rs) ≡ min (feed_limit - given) (length ps + length rs)
  unfolding join_from
  join_length given ps rs = simp (length-take, length-append)

  pub join_short : (given : ℕ) (ps rs : List P) → length (join_from given ps rs) ≤ feed_limit
  join_short given ps rs = let e = join_length given ps rs in omega arith

module _ {K S : Type 0} (A : Alphabet K S) (c : K) where
  after_length : (o : Packet S) (ps : List (Packet S)) → length (stirred_after A c o ps) ≡ length ps
  unfolding stirred_after
  after_length o [] = refl
  after_length o (p ∷ ps) = ap suc (after_length (mixed A c p o) ps)

  stirred_length : (ps : List (Packet S)) → length (stirred A c ps) ≡ length ps
  unfolding stirred
  stirred_length [] = refl
  stirred_length (p ∷ ps) = ap suc (after_length p ps)

  pub stir_length : (last : Option (Packet S)) (ps : List (Packet S)) → length (stir_from A c last ps) ≡ length ps
  stir_length None ps = stirred_length ps
  stir_length (Some o) ps = after_length o ps

  pub stir_short : (last : Option (Packet S)) (ps : List (Packet S)) → length ps ≤ feed_limit → length (stir_from A c last ps) ≤ feed_limit
  stir_short last ps h = let e = stir_length last ps in omega arith
