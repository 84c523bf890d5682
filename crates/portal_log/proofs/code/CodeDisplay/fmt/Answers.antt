use Rattle.std.proofs.Common.{◌-◌, ◌*◌, ◌/◌, ◌%◌, ◌^◌, ◌<◌, [], ◌∷◌, ◌++◌, is_ok, sym, refl, ap, subst, mod-lt, arith}
use Rattle.std.proofs.Output.{writes_in_calls_nil, has_written_append, has_written_of_eq}
use Rattle.std.proofs.lemmas.Str.{encode_ascii}
use Rattle.portal_log.proofs.Hex.{hex_push, glyph_ascii}
use Rattle.portal_log.proofs.code.CodeDisplay.fmt.Goals as goal

pub loop-place-init : goal.loop-place-init
loop-place-init g c = ([], refl, λ plain. record { wrote = writes_in_calls_nil g.W.Write.write_str_gives _; plain = plain })

pub loop-place-preserved : goal.loop-place-preserved
loop-place-preserved g c =
    let took = g.W.Write.write_str_gives in
    let inv = c.loop-place.invariant in
    let byte = c.hex_char.result in
    let low : c.code-code.result / 2 ^ (4 * (c.loop-place.place - 1)) % 16 < 16 = mod-lt _ (omega arith) in
    let ascii = encode_ascii byte (subst (λ n. n < 128) (sym c.hex_char.ensures) (glyph_ascii _ low)) in (
      inv.0 ++ byte ∷ [],
      hex_push inv.0 _ c.loop-place.place (c.loop-place.place - 1) c.code-code.result byte (omega arith) inv.1 c.hex_char.ensures,
      λ plain.
          let so_far = inv.2 plain in
          let one = c.write_char.ensures.writes so_far.plain (ap is_ok c.in_ok-write_char.was) in
          has_written_append took _ inv.0 _ (byte ∷ []) _ so_far (has_written_of_eq took _ _ (byte ∷ []) _ ascii one),
    )
