-- Assumes nothing.
use Rattle.std.proofs.Common.{◌≡◌, ℕ, ◌^◌, ◌<◌, sym, refl, ◌∙◌, subst, arith}
use Rattle.binary.specs.Codes.{raise}
use Rattle.binary.specs.Products.{word_product}
use Rattle.binary.proofs.Polynomials.{words_binary}
use Rattle.binary.proofs.Powers.{raise_linear}
use Rattle.binary.proofs.Tests.{computing}
use Rattle.field.proofs.LinearMaps.{image_is}
use Rattle.field.proofs.word.squares.square.Goals as goal

squared : (c : goal.After-image) → c.image.result ≡ raise word_product 1 c.args.a
unfolding computing
squared c = c.image.ensures ∙ image_is 16 8 (raise word_product 1) (raise_linear words_binary.ring 1).adds refl c.args.a (omega arith) _ refl tt

pub overflow_cast-result : goal.overflow_cast-result
overflow_cast-result c = record { fits = subst (λ (x : ℕ). x < 2 ^ 16) (sym (squared c)) (words_binary.raise_in c.args.a (omega arith)) }

pub returns : goal.returns
returns c = squared c
