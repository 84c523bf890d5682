use Rattle.std.proofs.Common.{◌≡◌, [], rules}
use Rattle.std.proofs.lemmas.Result.{IfOk-weaker}
use Rattle.feed.proofs.Stirring.{stir_empty}
use Rattle.bench_feed.proofs.tests.stir_out.Goals as goal

pub returns : goal.returns
returns g c =
    let s = c.take_all.new.feed in
    IfOk-weaker c.take_all.result _ _ (λ v e. let h : g.D.Feed.list s.lower.now ≡ [] = stir_empty _ s.scalar s.last (g.D.Feed.list s.lower.now) e in search rules) c.take_all.ensures.empty
