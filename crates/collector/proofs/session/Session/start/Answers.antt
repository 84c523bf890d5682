use Rattle.std.proofs.Common.{◌*◌, ◌≤◌, ◌++◌, length, drop, sym, refl, ap, ◌∙◌, subst, arith}
use Rattle.std.proofs.lemmas.Result.{err_from_is_err_and}
use Rattle.field.specs.Alphabet.{Alphabet, Lawful}
use Rattle.field.proofs.Members.{alphabet}
use Rattle.collector.specs.declared.session.Session.{Session}
use Rattle.collector.specs.Laws.{Exact}
use Rattle.collector.specs.Regions.{width, zero_rows}
use Rattle.collector.proofs.Sessions.{cleared_front}
use Rattle.collector.proofs.Runs.{fresh_faithful, ok_same}
use Rattle.collector.proofs.Orders.{orderless}
use Rattle.collector.proofs.Exactness.{exact}
use Rattle.collector.proofs.session.Session.start.Given as given
use Rattle.collector.proofs.session.Session.start.Goals as goal

abbrev A : (g : given.Over) → Alphabet g.row.F-Scalar.Denot g.row.F.Denot
A g = alphabet g.F.Scalar.FiniteField g.F.FiniteField g.F.SymbolField

laws : (g : given.Over) → Lawful (A g)
laws g = record { scalar_codes = g.met.F.Scalar.FiniteField.codes; codes = g.met.F.FiniteField.codes; extension = g.met.F.SymbolField.extension }

pub returns-in_err-count-clause-started : goal.returns-in_err-count-clause-started
returns-in_err-count-clause-started g c =
    let p = err_from_is_err_and c.from_residual.result c.from_residual.ensures.1 in rw (p.1, p.2) (c.in_err-count.ensures, refl)

pub returns : goal.returns
returns g c =
    let rows = c.args.rows.now in
    let (allowed, is, long) = c.in_ok-count.ensures in
    let room : 8 * width (A g) c.args.l ≤ length rows = omega (arith, is, long) in
    let zeroed = cleared_front (A g) c.in_ok-count.count rows c.clear.new.rows long c.clear.ensures ∙ ap (λ n. zero_rows (A g) n ++ drop n rows) is in
    record {
      started = ((λ n. n allowed, (λ h. omega (arith, h, room), tt)), refl, refl, refl, zeroed);
      faithful = λ s e. fresh_faithful (A g) (laws g) c.args.k c.args.l rows s _ allowed room (sym (ok_same e)) zeroed;
      orderless = λ s e. orderless (A g) (laws g) _ (fresh_faithful (A g) (laws g) c.args.k c.args.l rows s _ allowed room (sym (ok_same e)) zeroed);
      exact = λ s e. subst (λ (s : Session). Exact (A g) s.k s.l) (ok_same e) (exact (laws g) c.args.k c.args.l allowed);
    }
