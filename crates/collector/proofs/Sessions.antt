-- What a call that is not refused by what all calls share may rely on.
use Rattle.std.proofs.Common.{◌≡◌, ℕ, ◌+◌, ◌-◌, ◌≤◌, List, [], ◌++◌, length, take, drop, Some, sym, ap, ◌∙◌, inl, inr, arith}
use borrow.Rule.Slice.PartMut.{post_of}
use Rattle.std.proofs.lemmas.List.{length-take-le}
use Rattle.std.proofs.lemmas.Option.{none-some}
use Rattle.field.specs.Alphabet.{Alphabet}
use Rattle.packet.specs.declared.Packet.{Packet}
use Rattle.answer.specs.declared.refusal.Refusal.{Refusal}
use Rattle.answer.specs.declared.Tally.{Tally}
use Rattle.collector.specs.declared.session.Session.{Session}
use Rattle.answer.specs.Refusals.{Causes, First, NoCause}
use Rattle.collector.specs.Answers.{list_limit}
use Rattle.collector.specs.Regions.{zero_rows}
use Rattle.collector.specs.Session.{record_of, Overfull, Unsound, base_refusals, shut_refusals, start_refusals, Ready}
use Rattle.answer.proofs.Causes.{first_right}

-- of an open number, only the causes of the call itself count
module _ {K S : Type 0} {A : Alphabet K S} {s : Session} {rows : List (Packet S)} {b : ℕ} (ready : Ready A s rows b) {tally : Tally} (was : record_of s b ≡ Some tally) where
  open_sound : ¬ Unsound A s rows b
  open_sound (inl short) = omega (arith, ready.room)
  open_sound (inr (h, n)) = n ready.sound

  pub open_none : (causes : Causes) → NoCause causes → NoCause (shut_refusals A s rows b ++ causes)
  open_none causes none = (λ n. n ready.allowed, (open_sound, (λ h. omega (arith, ready.below), (λ shut. none-some tally (sym shut ∙ was), none))))

  pub open_first : (causes : Causes) (e : Refusal) → First causes e → First (shut_refusals A s rows b ++ causes) e
  open_first causes e first = first_right (shut_refusals A s rows b) causes e (open_none [] tt) first

-- the first n rows, zeroed as a slice
pub cleared_front : {K S : Type 0} (A : Alphabet K S) (n : ℕ) (rows new : List (Packet S)) → n ≤ length rows → new ≡ zero_rows A (length (take (n - 0) rows))
    → new ++ post_of 0 (n - 0) rows ≡ zero_rows A n ++ drop n rows
cleared_front A n rows new room z =
    let all : n - 0 ≡ n = omega arith in
    ap (λ xs. xs ++ drop (n - 0) rows) (z ∙ ap (zero_rows A) (ap (λ i. length (take i rows)) all ∙ length-take-le n rows room))
    ∙ ap (λ i. zero_rows A n ++ drop i rows) all

-- what refuses a start for its sizes refuses a call
pub sized_base : {K S : Type 0} (A : Alphabet K S) (s : Session) (rows : List (Packet S)) (b : ℕ) (e : Refusal) → First (start_refusals A s.k s.l rows) e → First (base_refusals A s rows b) e
sized_base A s rows b e (inl parameters) = inl parameters
sized_base A s rows b e (inr (n, inl (short, is))) = inr (n, inl (inl short, is))
sized_base A s rows b e (inr (n, inr (o, none))) = absurd none

-- a list with room for k packets more
pub not_overfull : (s : Session) (b k : ℕ) {tally : Tally} → record_of s b ≡ Some tally → tally.taken + k ≤ list_limit → ¬ Overfull s b k
not_overfull s b k {tally} was h (other, e, l) = let same : other ≡ tally = cc in omega (arith, ap (λ (t : Tally). t.taken) same)
