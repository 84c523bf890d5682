-- Hex digits: numbers written digit by digit.
use Rattle.std.proofs.Common.{◌≡◌, ℕ, zero as 0ₙ, suc, ◌+◌, ◌*◌, ◌/◌, ◌%◌, ◌^◌, ◌<◌, ltb, List, [], ◌∷◌, ◌++◌, sym, refl, ap, ◌∙◌, append_assoc, pow-suc, arith, pow-add}
use Rattle.std.proofs.lemmas.Bool.{cond_both}
use Rattle.portal_log.specs.Numbers.{glyph, hex}

-- a hex digit is four bits
pub power_hex : (n : ℕ) → 2 ^ (4 * n) ≡ 16 ^ n
power_hex 0ₙ = refl
power_hex (suc n) =
    let four : 4 * suc n ≡ 4 * n + 4 = omega arith in
    ap (λ k. 2 ^ k) four ∙ pow-add 2 (4 * n) 4 ∙ ap (λ k. k * 16) (power_hex n) ∙ sym (pow-suc 16 n)

pub glyph_ascii : (d : ℕ) → d < 16 → glyph d < 128
glyph_ascii d h = cond_both (ltb d 10) (48 + d) (55 + d) (λ c. c < 128) (λ _. omega arith) (λ _. omega arith)

-- one digit more after what is written
pub hex_push : (front whole : List ℕ) (n rest v c : ℕ) → n ≡ suc rest → front ++ hex n v ≡ whole → c ≡ glyph (v / 2 ^ (4 * rest) % 16) → (front ++ c ∷ []) ++ hex rest v ≡ whole
hex_push front whole n rest v c more e is =
    append_assoc front (c ∷ []) (hex rest v) ∙ ap (λ b. front ++ b ∷ hex rest v) (is ∙ ap (λ p. glyph (v / p % 16)) (power_hex rest))
    ∙ ap (λ k. front ++ hex k v) (sym more) ∙ e
