use Rattle.std.proofs.Common.{◌≡◌, ℕ, ◌<◌, ◌≤◌, List, length, Some, None, Ok, Result, refl, ap, ◌∙◌, subst, arith, rules}
use Rattle.std.specs.Result.{result_map_both}
use Rattle.field.specs.Alphabet.{Alphabet, Lawful}
use Rattle.field.proofs.Members.{alphabet}
use Rattle.packet.specs.declared.Packet.{Packet}
use Rattle.answer.specs.declared.refusal.Refusal.{Refusal}
use Rattle.answer.specs.declared.Drained.{Drained}
use Rattle.answer.specs.Refusals.{answered}
use Rattle.portal_log.specs.declared.head.Head.{Head}
use Rattle.portal_log.specs.Text.{lines}
use Rattle.portal_log.specs.Heads.{first_head}
use Rattle.portal_log.specs.Entries.{log_limit}
use Rattle.collector.specs.Machine.{opened}
use Rattle.collector.specs.Runs.{State, Step}
use Rattle.log_feed.specs.Numbered.{feed_refusal, log_packets, fed}
use Rattle.log_feed.specs.Lengths.{fed_short}
use Rattle.sheet.specs.Outcomes.{Outcome, passed, NumberDone}
use Rattle.sheet.proofs.Starts.{unrefused_is_ok}
use Rattle.sheet.proofs.Calls.{open_not_refused, number_done, all_counted, counted_taken, counted_passed}
use Rattle.sheet.proofs.numbers.collect_number.Given as given
use Rattle.sheet.proofs.numbers.collect_number.Goals as goal

A : (g : given.Over) → Alphabet g.row.F-Scalar.Denot g.row.F.Denot
A g = alphabet g.F.Scalar.FiniteField g.F.FiniteField g.F.SymbolField

laws : (g : given.Over) → Lawful (A g)
unfolding A
laws g = record { scalar_codes = g.met.F.Scalar.FiniteField.codes; codes = g.met.F.FiniteField.codes; extension = g.met.F.SymbolField.extension }

pub unwrap-requires : goal.unwrap-requires
unfolding A
unwrap-requires g c =
    let before : State g.row.F.Denot = record { session = c.args.session.now; rows = c.args.rows.now } in
    let after : State g.row.F.Denot = record { session = c.open.new.self; rows = c.args.rows.now } in
    let s = c.requires.stands in
    unrefused_is_ok c.open.result (λ e is.
    open_not_refused (laws g) s.k s.ℓ s.later before after s.machine c.args.number e s.represents c.requires.below s.is_shut
    (subst (λ r. Step (A g) before (opened c.args.number r) after) is (c.open.ensures, refl)))

ok_same : {X : Type 0} {x y : X} → ◌≡◌ {A = Result X Refusal} (Ok x) (Ok y) → x ≡ y
ok_same e = cc

-- a number of a log that can be read has a feed
fed_number : (h : Head) (b : ℕ) (log : List ℕ) → b < 8 → length log ≤ log_limit → first_head (lines log) ≡ Some h → feed_refusal h.name b log ≡ None
fed_number h b log below short first = search rules

pub returns : goal.returns
unfolding A
returns g c =
    let name = g.F.LogField.FIELD_NAME in
    let b = c.args.number in
    let log = c.args.log.now in
    let packets = log_packets (A g) name b log.bytes.now in
    let feed = c.unwrap-feed.result in
    let drained = c.drain-drained.result in
    let before : State g.row.F.Denot = record { session = c.args.session.now; rows = c.args.rows.now } in
    let opens : State g.row.F.Denot = record { session = c.open.new.self; rows = c.args.rows.now } in
    let drains : State g.row.F.Denot = record { session = c.drain-drained.new.self; rows = c.drain-drained.new.rows } in
    let o : Outcome g.row.F.Denot = record { drain = drained; output = c.args.message.now; written = c.solve-solved.new.output; solve = c.solve-solved.result } in
    let given : Ok (fed (A g) name feed.number feed.reader) ≡ answered (feed_refusal name b log.bytes.now) packets =
    subst (λ r. result_map_both (λ s. fed (A g) name s.number s.reader) (λ e. e) r ≡ answered (feed_refusal name b log.bytes.now) packets) c.unwrap-feed.ensures c.new.ensures in
    let is : fed (A g) name feed.number feed.reader ≡ packets = ok_same (given ∙ ap (λ e. answered e packets) (fed_number _ b log.bytes.now c.requires.below log.short log.first)) in
    let rest = fed (A g) name c.drain-drained.new.feed.number c.drain-drained.new.feed.reader in
    let opening = subst (λ r. Step (A g) before (opened b r) opens) c.unwrap.ensures (c.open.ensures, refl) in
    let many = all_counted (A g) opens drains b (fed (A g) name feed.number feed.reader) rest drained c.drain-drained.ensures.drains in
    let kept = ap (λ (d : Drained). d.kept) c.unwrap_or-counted.ensures ∙ counted_taken c.len-many.result drained in
    let over = ap (λ (d : Drained). d.passed) c.unwrap_or-counted.ensures ∙ counted_passed c.len-many.result drained ∙ ap (λ n. passed n drained) c.len-many.ensures in
    record {
      done = λ k ℓ later m r shut. subst (λ (l : List (Packet g.row.F.Denot)). NumberDone (A g) k ℓ later m b l o drains) is
          (number_done (laws g) k ℓ later before opens drains drains m b (fed (A g) name feed.number feed.reader) rest
          drained c.args.message.now c.solve-solved.new.output c.solve-solved.result r opening c.drain-drained.ensures.drains (c.solve-solved.ensures, refl));
      taken = kept;
      passed = over ∙ ap (λ (l : List (Packet g.row.F.Denot)). passed (length l) drained) is;
      few = omega (arith, kept, over, many, fed_short (A g) name feed.number feed.reader);
    }
