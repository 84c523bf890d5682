-- A fresh join, and one call of `next` on a held feed, and on a join or a stir from the calls on what lies below.
use Rattle.std.proofs.Common.{◌≡◌, ℕ, zero, suc, ◌+◌, ◌-◌, ◌<◌, ◌≤◌, List, [], ◌∷◌, ◌++◌, length, min, take, Some, None, Option, sym, refl, ap, subst, ◌∙◌, take_all, arith}
use Rattle.std.proofs.lemmas.List.{nil_from_length, take_min}
use Rattle.std.specs.Option.{MatchOption}
use Rattle.field.specs.Alphabet.{Alphabet}
use Rattle.packet.specs.declared.Packet.{Packet}
use Rattle.feed.specs.Feeds.{feed_limit, Next}
use Rattle.feed.specs.Layers.{held, joined, mixed, stirred, stirred_after}
use Rattle.feed.specs.Lists.{stir_from, join_from}
use Rattle.feed.specs.Lengths.{held_short}
use Rattle.feed.proofs.Nexts.{gives_some, gives_none, some_given, none_given}

module _ {P : Type 0} where
  pub held_whole : (ps : List P) → length ps ≤ feed_limit → held ps ≡ ps
  unfolding held
  held_whole ps h = take_all feed_limit ps h

  -- cut at the limit before or not
  pub held_cut : (ps : List P) (n : ℕ) → n ≡ min (length ps) feed_limit → held (take n ps) ≡ held ps
  unfolding held
  held_cut ps n e =
      let many : n ≡ min feed_limit (length ps) = omega arith in
      let cut : take n ps ≡ take feed_limit ps = ap (λ k. take k ps) many ∙ take_min feed_limit ps in
      ap (take feed_limit) cut ∙ held_whole (held ps) (held_short 0 ps)

  pub held_ends : (ps : List P) → length ps ≡ 0 → Next (held ps) None (held ps)
  held_ends ps e = let none = held_whole ps (omega arith) ∙ nil_from_length ps e in none_given _ _ none none

  pub held_gives : (ps rest : List P) (p : P) → length ps ≤ feed_limit → ps ≡ p ∷ rest → Next (held ps) (Some p) (held rest)
  held_gives ps rest p h e =
      let room : length rest ≤ feed_limit = omega (arith, ap length e) in
      some_given _ _ _ (held_whole ps h ∙ e ∙ ap (λ (l : List P). p ∷ l) (sym (held_whole rest room)))

  take_gives : (n : ℕ) (ps rs : List P) (r : Option P) → Next ps r rs → Next (take (suc n) ps) r (take n rs)
  take_gives zero [] rs r m = (m.0, refl)
  take_gives (suc n) [] rs r m = (m.0, ap (take (suc n)) m.1)
  take_gives n (p ∷ ps) rs r m = (m.0, ap (take n) m.1)

  first_gives : (ps qs rs : List P) (p : P) → Next ps (Some p) qs → Next (ps ++ rs) (Some p) (qs ++ rs)
  first_gives ps qs rs p n = some_given _ _ _ (ap (λ (l : List P). l ++ rs) (gives_some ps qs p n))

  second_gives : (ps qs rs ss : List P) (r : Option P) → Next ps None qs → Next rs r ss → Next (ps ++ rs) r (qs ++ ss)
  second_gives ps qs rs ss r n m =
      let e = gives_none ps qs n in
      subst (λ (l : List P). Next (l ++ rs) r (qs ++ ss)) (sym e.0) (subst (λ (l : List P). Next rs r (l ++ ss)) (sym e.1) m)

  within_limit : (given : ℕ) (ps rs : List P) (r : Option P) → given < feed_limit → Next ps r rs → Next (take (feed_limit - given) ps) r (take (feed_limit - (given + 1)) rs)
  within_limit given ps rs r h n = let e : feed_limit - given ≡ suc (feed_limit - (given + 1)) = omega arith in rw e (take_gives (feed_limit - (given + 1)) ps rs r n)

  pub join_fresh : (ps rs : List P) → join_from 0 ps rs ≡ joined ps rs
  unfolding join_from joined
  join_fresh ps rs = refl

  pub join_full : (given : ℕ) (ps rs : List P) → feed_limit ≤ given → Next (join_from given ps rs) None (join_from given ps rs)
  unfolding join_from
  join_full given ps rs h = let e : feed_limit - given ≡ 0 = omega arith in rw e (refl, refl)

  pub join_first : (given : ℕ) (ps qs rs : List P) (p : P) → given < feed_limit → Next ps (Some p) qs → Next (join_from given ps rs) (Some p) (join_from (given + 1) qs rs)
  unfolding join_from
  join_first given ps qs rs p h n = within_limit given _ _ _ h (first_gives ps qs rs p n)

  pub join_second : (given : ℕ) (ps qs rs ss : List P) (r : Option P) → given < feed_limit → Next ps None qs → Next rs r ss → Next (join_from given ps rs) r (join_from (given + 1) qs ss)
  unfolding join_from
  join_second given ps qs rs ss r h n m = within_limit given _ _ _ h (second_gives ps qs rs ss r n m)

module _ {K S : Type 0} (A : Alphabet K S) (c : K) where
  pub stir_ends : (last : Option (Packet S)) (ps qs : List (Packet S)) → Next ps None qs → Next (stir_from A c last ps) None (stir_from A c last qs)
  unfolding stirred stirred_after
  stir_ends None ps qs n = let e = gives_none ps qs n in none_given _ _ (ap (stirred A c) e.0) (ap (stirred A c) e.1)
  stir_ends (Some o) ps qs n = let e = gives_none ps qs n in none_given _ _ (ap (stirred_after A c o) e.0) (ap (stirred_after A c o) e.1)

  -- what is given out is the packet below, mixed with the one given out before, if there is one
  pub stir_gives : (last : Option (Packet S)) (ps qs : List (Packet S)) (p given : Packet S) → Next ps (Some p) qs →
      MatchOption last (given ≡ p) (λ o. given ≡ mixed A c p o) → Next (stir_from A c last ps) (Some given) (stirred_after A c given qs)
  unfolding stirred stirred_after
  stir_gives None ps qs p given n is = rw is (some_given _ _ _ (ap (stirred A c) (gives_some ps qs p n)))
  stir_gives (Some o) ps qs p given n is = rw is (some_given _ _ _ (ap (stirred_after A c o) (gives_some ps qs p n)))
