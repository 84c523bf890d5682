use Rattle.std.proofs.Common.{◌≡◌, ℕ, ◌<◌, ◌≤◌, Option, Some, None, sym, subst, arith, rules}
use borrow.Author.Tests.{tests}
use Rattle.std.specs.Option.{MatchOption, unwrap_or}
use Rattle.std.proofs.lemmas.Iterator.{first_from_Range}
use Rattle.linear.specs.Field.{Field}
use Rattle.linear.specs.Rows.{Rows}
use Rattle.collector.specs.Places.{FirstFrom}
use Rattle.collector.proofs.adding.leading.Goals as goal

-- the place found, or the width
first_found : {K V : Type 0} (F : Field K) (R : Rows K V) (v : V) (a w : ℕ) → w ≡ R.width → a ≤ R.width → (o : Option ℕ)
    → MatchOption o ((k : ℕ) → a ≤ k → k < w → R.coord v k ≡ F.zero)
    (λ i. (a ≤ i) × (i < w) × ¬ (R.coord v i ≡ F.zero) × ((k : ℕ) → a ≤ k → k < i → R.coord v k ≡ F.zero))
    → FirstFrom F R v a (unwrap_or o w)
first_found F R v a w e h None none = record { low = omega arith; high = omega arith; before = none; some = λ l. absurd (omega arith) }
first_found F R v a w e h (Some i) (low, high, some, before) = record { low = low; high = omega arith; before = before; some = λ l. some }

pub returns : goal.returns
returns g c =
    let F = g.R.Scalar.FiniteField.field in
    let R = g.R.Row.rows in
    let v = c.args.row in
    let found = first_from_Range _ _ _ c.find.result (λ i. ¬ (R.coord v i ≡ F.zero)) (λ i. R.coord v i ≡ F.zero) c.find.ensures.ran (λ i q k. search (rules, tests)) (λ i q k. search (rules, tests)) in
    subst (FirstFrom F R v c.args.from) (sym c.unwrap_or.ensures) (first_found F R v c.args.from c.width-width.result c.width-width.ensures c.requires c.find.result found)
