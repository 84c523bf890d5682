-- What is stirred, place by place, and when nothing is.
use Rattle.std.proofs.Common.{◌≡◌, ℕ, zero, suc, ◌+◌, ◌<◌, List, [], ◌∷◌, length, get_or, None, Option, sym, refl, ap, ◌∙◌, le_of_suc-le-suc, not-suc-le-zero, add-one, arith}
use Rattle.std.proofs.lemmas.List.{nil_from_length}
use Rattle.field.specs.Alphabet.{Alphabet}
use Rattle.packet.specs.declared.Packet.{Packet}
use Rattle.packet.specs.Packets.{packet_zero}
use Rattle.feed.specs.Layers.{mixed, stirred, stirred_after, Stirs}
use Rattle.feed.specs.Lists.{stir_from}
use Rattle.feed.specs.Lengths.{stir_length}

module _ {K S : Type 0} (A : Alphabet K S) (c : K) where
  -- each packet is mixed with the one before it, o before the first
  after_at : (o : Packet S) (ps : List (Packet S)) (j : ℕ) (d : Packet S) → j < length ps → get_or (stirred_after A c o ps) j d ≡ mixed A c (get_or ps j d) (get_or (o ∷ stirred_after A c o ps) j d)
  unfolding stirred_after
  after_at o [] j d h = absurd (not-suc-le-zero h)
  after_at o (p ∷ ps) zero d h = refl
  after_at o (p ∷ ps) (suc j) d h = after_at (mixed A c p o) ps j d (le_of_suc-le-suc h)

  stirred_first : (ps : List (Packet S)) (d : Packet S) → get_or (stirred A c ps) 0 d ≡ get_or ps 0 d
  unfolding stirred
  stirred_first [] d = refl
  stirred_first (p ∷ ps) d = refl

  stirred_later : (ps : List (Packet S)) (j : ℕ) (d : Packet S) → j + 1 < length ps → get_or (stirred A c ps) (j + 1) d ≡ mixed A c (get_or ps (j + 1) d) (get_or (stirred A c ps) j d)
  unfolding stirred
  stirred_later [] j d h = absurd (not-suc-le-zero h)
  stirred_later (p ∷ ps) j d h = rw (add-one j) (after_at p ps j d (omega arith))

  pub stirred_stirs : (ps : List (Packet S)) → Stirs A c ps (stirred A c ps)
  stirred_stirs ps =
      record {
        long = stir_length A c None ps;
        first = stirred_first ps (packet_zero A);
        later = λ j h. stirred_later ps j (packet_zero A) h;
      }

  -- where nothing is left of the layer, nothing is left below
  pub stir_empty : (last : Option (Packet S)) (ps : List (Packet S)) → stir_from A c last ps ≡ [] → ps ≡ []
  stir_empty last ps e = nil_from_length ps (sym (stir_length A c last ps) ∙ ap length e)
