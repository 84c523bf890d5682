-- Assumes nothing.
use Rattle.std.proofs.Common.{◌≡◌, ℕ, ◌*◌, ◌/◌, ◌^◌, ◌<◌, sym, ap, ap₂, ◌∙◌, subst, pow_pos}
use Rattle.binary.proofs.Sums.{pow_pow, quotient_none}
use Rattle.field.specs.Symbols.{coordinate}
use Rattle.field.proofs.coordinates.digit.Given.{Over}
use Rattle.field.proofs.coordinates.digit.Goals.{After-of, After-of-else-i-m}
use Rattle.field.proofs.coordinates.digit.Goals as goal

some : (g : Over) (c : After-of g) → c.of.result ≡ coordinate g.K.ByCode.coded g.S.ByCode.coded (2 ^ g.K.ByCode.BITS) c.args.symbol c.args.i
some g c =
    c.of.ensures
    ∙ ap₂ (λ (a s : ℕ). g.K.ByCode.coded.make (a / 2 ^ (s * c.args.i))) c.number.ensures c.BITS.ensures
    ∙ ap (λ (k : ℕ). g.K.ByCode.coded.make (g.S.ByCode.coded.code c.args.symbol / k)) (sym (pow_pow g.K.ByCode.BITS c.args.i))

none : (g : Over) (c : After-of-else-i-m g) → c.of-else-i-m.result ≡ coordinate g.K.ByCode.coded g.S.ByCode.coded (2 ^ g.K.ByCode.BITS) c.args.symbol c.args.i
none g c =
    let q = 2 ^ g.K.ByCode.BITS in
    let a = g.S.ByCode.coded.code c.args.symbol in
    let less : a < q ^ c.args.m =
    subst (λ (k : ℕ). a < k) (ap (λ (n : ℕ). 2 ^ n) c.requires ∙ sym (pow_pow g.K.ByCode.BITS c.args.m)) (g.S.ByCode.coded.code_less c.args.symbol) in
    c.of-else-i-m.ensures ∙ sym (ap g.K.ByCode.coded.make (quotient_none q c.args.m c.args.i a (pow_pos g.K.ByCode.BITS) less c.if-i-m.false))

pub returns-then-i-m-clause-value : goal.returns-then-i-m-clause-value
returns-then-i-m-clause-value g c = some g c

pub returns-then-i-m-clause-digit : goal.returns-then-i-m-clause-digit
returns-then-i-m-clause-digit g c = ap g.K.ByCode.coded.code (some g c) ∙ g.K.ByCode.coded.code_make _

pub returns-else-i-m-clause-value : goal.returns-else-i-m-clause-value
returns-else-i-m-clause-value g c = none g c

pub returns-else-i-m-clause-digit : goal.returns-else-i-m-clause-digit
returns-else-i-m-clause-digit g c = ap g.K.ByCode.coded.code (none g c) ∙ g.K.ByCode.coded.code_make _
