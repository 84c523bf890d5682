-- The numbers of a log done one after another: the plain machine's run, the lines and the totals grow together.
use Rattle.std.proofs.Common.{◌≡◌, ℕ, ◌+◌, ◌*◌, ◌≤◌, List, [], ◌∷◌, ◌++◌, length, sym, refl, ap, ◌∙◌, subst, append_assoc, append-nil, arith, length-append}
use Rattle.linear.specs.Span.{Each}
use Rattle.linear.proofs.Each.{each_push}
use Rattle.field.specs.Alphabet.{Alphabet}
use Rattle.packet.specs.declared.Packet.{Packet}
use Rattle.feed.specs.Feeds.{feed_limit}
use Rattle.collector.specs.Machine.{shut, Call, Machine}
use Rattle.collector.specs.Runs.{State, Represents}
use Rattle.collector.specs.Laws.{PlainRun}
use Rattle.portal_log.specs.declared.name.FieldName.{FieldName}
use Rattle.log_feed.specs.Numbered.{log_packets}
use Rattle.sheet.specs.Outcomes.{Outcome, taken, passed, number_calls, calls_from, total_taken, total_passed, NumberDone}
use Rattle.sheet.specs.Sheets.{number_line, lines_from}

module _ {K S : Type 0} (A : Alphabet K S) (k ℓ : ℕ) where
  -- one run after another
  plain_join : (l m n : Machine S) (calls others : List (Call S)) → PlainRun A k ℓ l calls m → PlainRun A k ℓ m others n → PlainRun A k ℓ l (calls ++ others) n
  plain_join l m n [] others still run = subst (λ (x : Machine S). PlainRun A k ℓ x others n) (λ i c. still c i) run
  plain_join l m n (call ∷ calls) others (next, plain, rest) run = (next, plain, plain_join next m n calls others rest run)

module _ {S : Type 0} (feeds : ℕ → List (Packet S)) where
  calls_more : (b n : ℕ) (os : List (Outcome S)) (o : Outcome S) → n ≡ b + length os → calls_from feeds b (os ++ o ∷ []) ≡ calls_from feeds b os ++ number_calls n (feeds n) o
  calls_more b n [] o e =
      let here : b ≡ n = omega arith in append-nil (number_calls b (feeds b) o) ∙ ap (λ i. number_calls i (feeds i) o) here
  calls_more b n (x ∷ os) o e =
      ap (λ (cs : List (Call S)). number_calls b (feeds b) x ++ cs) (calls_more (b + 1) n os o (omega arith))
      ∙ sym (append_assoc (number_calls b (feeds b) x) (calls_from feeds (b + 1) os) (number_calls n (feeds n) o))

  passed_more : (b n : ℕ) (os : List (Outcome S)) (o : Outcome S) → n ≡ b + length os → total_passed feeds b (os ++ o ∷ []) ≡ total_passed feeds b os + passed (length (feeds n)) o.drain
  passed_more b n [] o e = let here : b ≡ n = omega arith in let p = ap (λ i. passed (length (feeds i)) o.drain) here in omega arith
  passed_more b n (x ∷ os) o e = omega (arith, passed_more (b + 1) n os o (omega arith))

taken_more : {S : Type 0} (os : List (Outcome S)) (o : Outcome S) → total_taken (os ++ o ∷ []) ≡ total_taken os + taken o.drain
taken_more [] o = omega arith
taken_more (x ∷ os) o = omega (arith, taken_more os o)

module _ {K S : Type 0} (A : Alphabet K S) (name : FieldName) where
  lines_more : (b n : ℕ) (os : List (Outcome S)) (o : Outcome S) → n ≡ b + length os →
      lines_from A name b (os ++ o ∷ []) ≡ lines_from A name b os ++ number_line A name n o.written o.drain o.solve
  lines_more b n [] o e =
      let here : b ≡ n = omega arith in
      append-nil (number_line A name b o.written o.drain o.solve) ∙ ap (λ i. number_line A name i o.written o.drain o.solve) here
  lines_more b n (x ∷ os) o e =
      ap (λ (l : List ℕ). number_line A name b x.written x.drain x.solve ++ l) (lines_more (b + 1) n os o (omega arith))
      ∙ sym (append_assoc (number_line A name b x.written x.drain x.solve) (lines_from A name (b + 1) os) (number_line A name n o.written o.drain o.solve))

  -- the numbers below b are done
  pub record Progress (k ℓ : ℕ) (log : List ℕ) (b : ℕ) (s : State S) (text : List ℕ) (kept over : ℕ) : Type 0 where
    pub outcomes : List (Outcome S)
    pub many : length outcomes ≡ b
    pub places : Each (λ o. length o.output ≡ k) outcomes
    pub later : List (Packet S)
    pub machine : Machine S
    pub runs : PlainRun A k ℓ (λ _. shut) (calls_from (λ b. log_packets A name b log) 0 outcomes) machine
    pub represents : Represents A k ℓ later s machine
    pub shut_on : (c : ℕ) → b ≤ c → machine c ≡ shut
    pub is_text : text ≡ lines_from A name 0 outcomes
    pub is_taken : kept ≡ total_taken outcomes
    pub is_passed : over ≡ total_passed (λ b. log_packets A name b log) 0 outcomes
    pub few : kept + over ≤ b * feed_limit

  module _ (k ℓ : ℕ) (log : List ℕ) where
    pub progress_start : (later : List (Packet S)) (s : State S) → Represents A k ℓ later s (λ _. shut) → Progress k ℓ log 0 s [] 0 0
    progress_start later s r = record {
      outcomes = [];
      many = refl;
      places = tt;
      later = later;
      machine = λ _. shut;
      runs = λ c. refl;
      represents = r;
      shut_on = λ c l. refl;
      is_text = refl;
      is_taken = refl;
      is_passed = refl;
      few = omega arith;
    }

    pub progress_more : {b : ℕ} {s t : State S} {text : List ℕ} {kept over : ℕ} (p : Progress k ℓ log b s text kept over) (o : Outcome S) (more fewer : ℕ)
        → NumberDone A k ℓ p.later p.machine b (log_packets A name b log) o t → length o.output ≡ k → more ≡ taken o.drain
        → fewer ≡ passed (length (log_packets A name b log)) o.drain → more + fewer ≤ feed_limit
        → Progress k ℓ log (b + 1) t (text ++ number_line A name b o.written o.drain o.solve) (kept + more) (over + fewer)
    progress_more {b} {text = text} {kept} {over} p o more fewer done long is-more is-fewer few =
        let feeds : ℕ → List (Packet S) = λ b. log_packets A name b log in
        let os = p.outcomes in
        let at : b ≡ 0 + length os = omega (arith, p.many) in
        record {
          outcomes = os ++ o ∷ [];
          many = omega (arith, p.many, length-append os (o ∷ []));
          places = each_push (λ o. length o.output ≡ k) os o p.places long;
          later = p.later;
          machine = done.next;
          runs = subst (λ (cs : List (Call S)). PlainRun A k ℓ (λ _. shut) cs done.next) (sym (calls_more feeds 0 b os o at))
              (plain_join A k ℓ (λ _. shut) p.machine done.next (calls_from feeds 0 os) (number_calls b (feeds b) o) p.runs done.runs);
          represents = done.represents;
          shut_on = λ c l. done.others c (omega arith) ∙ p.shut_on c (omega arith);
          is_text = ap (λ (l : List ℕ). l ++ number_line A name b o.written o.drain o.solve) p.is_text ∙ sym (lines_more 0 b os o at);
          is_taken = omega (arith, p.is_taken, taken_more os o);
          is_passed = omega (arith, p.is_passed, passed_more feeds 0 b os o at);
          few = omega (arith, p.few);
        }
