use Rattle.std.proofs.Common.{◌*◌, ◌≤◌, ◌≡◌, ◌+◌, [], length, sym, ◌∙◌, subst, arith}
use Rattle.field.specs.Alphabet.{Alphabet}
use Rattle.field.proofs.Members.{alphabet}
use Rattle.collector.specs.Session.{Started}
use Rattle.collector.specs.Runs.{State}
use Rattle.sheet.specs.Outcomes.{Outcome}
use Rattle.sheet.proofs.Progress.{Progress, progress_start, progress_more}
use Rattle.sheet.proofs.Starts.{unrefused_is_ok, start_not_refused}
use Rattle.sheet.proofs.numbers.numbers_text.Given as given
use Rattle.sheet.proofs.numbers.numbers_text.Goals as goal

A : (g : given.Over) → Alphabet g.row.F-Scalar.Denot g.row.F.Denot
A g = alphabet g.F.Scalar.FiniteField g.F.FiniteField g.F.SymbolField

pub unwrap-session-requires : goal.unwrap-session-requires
unfolding A
unwrap-session-requires g c =
    let h = c.args.log.now.parameters in
    let room : 8 * (h.l + g.F.SymbolField.DEGREE) ≤ length c.deref_mut.result.now = omega (arith, c.deref_mut.ensures.len, c.in_ok-rows.ensures.len, c.DEGREE.ensures) in
    unrefused_is_ok c.start.result (λ e is.
    start_not_refused (A g) h.k h.l c.deref_mut.result.now e (h.some, h.ordered, h.within) room
    (subst (λ r. Started (A g) h.k h.l c.deref_mut.result.now r c.start.new.rows) is c.start.ensures.started).0)

pub loop-number-init : goal.loop-number-init
unfolding A
loop-number-init g c =
    let s = c.unwrap-session.result in
    let log = c.args.log.now.bytes.now in
    let begun : State g.row.F.Denot = record { session = s; rows = c.start.new.rows } in
    subst (λ t. Progress (A g) g.F.LogField.FIELD_NAME s.k s.l log 0 begun t 0 0) (sym c.new-text.ensures.bytes)
    (progress_start (A g) g.F.LogField.FIELD_NAME s.k s.l log _ begun (c.start.ensures.faithful s c.unwrap-session.ensures [] tt))

pub loop-number-preserved : goal.loop-number-preserved
unfolding A
loop-number-preserved g c =
    let s = c.unwrap-session.result in
    let name = g.F.LogField.FIELD_NAME in
    let log = c.args.log.now.bytes.now in
    let p = c.loop-number.invariant in
    let b = c.loop-number.number in
    let got = c.collect_number-outcome in
    let counted = got.result.counted in
    let h = c.args.log.now.parameters in
    let o : Outcome g.row.F.Denot = record { drain = got.result.drained; output = c.loop-number.message; written = got.new.message; solve = got.result.solved } in
    let long : length c.loop-number.message ≡ s.k = c.loop-number.auto.message ∙ c.deref_mut-2.ensures.len ∙ c.in_ok-message.ensures.len ∙ sym (subst (λ r. Started (A g) h.k h.l c.deref_mut.result.now r c.start.new.rows) c.unwrap-session.ensures c.start.ensures.started).1 in
    let done = got.ensures.done s.k s.l p.later p.machine p.represents (p.shut_on b (omega arith)) in
    subst (λ t. Progress (A g) name s.k s.l log (b + 1) (record { session = got.new.session; rows = got.new.rows }) t (c.loop-number.taken + counted.kept) (c.loop-number.passed + counted.passed))
    (sym c.in_ok-write_number.ensures)
    (progress_more (A g) name s.k s.l log p o counted.kept counted.passed done long got.ensures.taken got.ensures.passed got.ensures.few)
