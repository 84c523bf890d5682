-- What `find_map` over a reader finds, with a closure that computes h of a line's entry, and what it leaves.
use Rattle.std.proofs.Common.{◌≡◌, ℕ, ◌+◌, ◌<◌, true, List, [], ◌∷◌, Some, None, Option, IfSome, suc, sym, refl, ap, ◌∙◌, subst}
use Rattle.std.specs.Fn.{Called}
use Rattle.std.specs.List.{FoldsTo, filter_map, cons_option, slice_get}
use Rattle.std.specs.Option.{MatchOption}
use Rattle.std.specs.Iterator.{Yields, FindsMapped}
use Rattle.std.specs.Iterator.Runs.{Run, SomeRun, YieldsRun, AllItemsGive, IsFirstToGive}
use denote.Param.Members.{Mut}
use Rattle.feed.specs.Feeds.{Next}
use Rattle.field.specs.Alphabet.{Alphabet}
use Rattle.portal_log.specs.declared.line.Line.{Line}
use Rattle.portal_log.specs.declared.name.FieldName.{FieldName}
use Rattle.portal_log.specs.declared.reader.Reader.{Reader}
use Rattle.portal_log.specs.Entries.{Entry}
use Rattle.portal_log.specs.Views.{shown}
use Rattle.portal_log.specs.Readers.{left_entries, GivesEntry}

module _ {K S B F : Type 0} (A : Alphabet K S) (name : FieldName) (g : Mut F (Line × Unit {0}) (Option B)) (h : Entry → Option B) (f : F)
    (computes : (x : Line) (r : Option B) (q : F) → Called g f (x, tt) r q → (q ≡ f) × (r ≡ h (shown x))) where
  abbrev left : Reader S → List B
  left s = filter_map h (left_entries A name s)

  -- one line that is read
  taken : (s t : Reader S) (x : Line) (r : Option B) (q : F) → GivesEntry A name s (Some x) t → Called g f (x, tt) r q → left s ≡ cons_option r (left t)
  taken s t x r q given call = ap (filter_map h) given.gives ∙ ap (λ o. cons_option o (left t)) (sym (computes x r q call).1)

  -- lines that give nothing
  passed : (xs : List Line) (p : F) (s t : Reader S) (q : F) → p ≡ f → Yields (GivesEntry A name) s xs t → FoldsTo (λ p x q. Called g p (x, tt) None q) p xs q →
      (q ≡ f) × (t.lines.text.now ≡ s.lines.text.now) × (left s ≡ left t)
  passed [] p s t q is y folds = (sym folds ∙ is, ap (λ (r : Reader S). r.lines.text.now) (sym y), ap left y)
  passed (x ∷ xs) p s t q is y folds =
      let call = subst (λ p. Called g p (x, tt) None folds.0) is folds.1 in
      let rest = passed xs folds.0 y.0 t q (computes x None folds.0 call).0 y.2 folds.2 in
      (rest.0, rest.1 ∙ y.1.same, taken s y.0 x None folds.0 y.1 call ∙ rest.2)

  last : (o : Option Line) (q : F) → q ≡ f → (t u : Reader S) (r : Option B) → GivesEntry A name t o u → MatchOption o (r ≡ None) (λ x. (p : F) × Called g q (x, tt) r p) → left t ≡ cons_option r (left u)
  last None q is t u r given e = ap (filter_map h) (given.gives.0 ∙ sym given.gives.1) ∙ ap (λ o. cons_option o (left u)) (sym e)
  last (Some x) q is t u r given e = taken t u x r e.0 given (subst (λ p. Called g p (x, tt) r e.0) is e.1)

  pub found : (s u : Reader S) (r : Option B) → FindsMapped (GivesEntry A name) g s f r u → (u.lines.text.now ≡ s.lines.text.now) × (left s ≡ cons_option r (left u))
  found s u r c =
      let before = passed c.0 f s c.3.0 c.2 refl c.3.1 c.4 in
      (c.3.2.same ∙ before.1, before.2 ∙ last c.1 c.2 before.0 c.3.0 u r c.3.2 c.5)

  none : (xs : List Line) (s t u : Reader S) → Yields (GivesEntry A name) s xs t → GivesEntry A name t None u → ((k : ℕ) → IfSome (slice_get xs k) (λ x. Called g f (x, tt) None f)) → left s ≡ []
  none [] s t u y end all = ap left y ∙ ap (filter_map h) end.gives.0
  none (x ∷ xs) s t u y end all = taken s y.0 x None f y.1 (all 0) ∙ none xs y.0 t u y.2 end (λ k. all (suc k))

  none_found : (p : Run (GivesEntry A name)) → p.whole ≡ true → AllItemsGive p g f None → left p.from ≡ []
  unfolding YieldsRun
  none_found p whole gives =
      let all = gives (λ a r q k. (computes a.0 r q k).0) in
      let end = p.gave.0.2 whole in
      none p.items p.from p.gave.0.0 end.0 p.gave.0.1 end.1 (λ k. subst (λ o. IfSome o (λ x. Called g f (x, tt) None f)) (p.gave.1 k) (all k))

  pub first_found : (s u : Reader S) (r : Option B) → FindsMapped (GivesEntry A name) g s f r u →
      SomeRun (GivesEntry A name) s (λ p. MatchOption r ((p.whole ≡ true) × AllItemsGive p g f None) (λ y. (i : ℕ) × (i < p.len) × (p.len ≡ i + 1) × IsFirstToGive p g f (Some y) None i)) →
      Next (left s) r (left u)
  first_found s u None ran run =
      let nothing = ap left (sym run.1) ∙ none_found run.0 run.2.0 run.2.1 in
      subst (λ (ps : List B). Next ps None (left u)) (sym nothing) (refl, sym (found s u None ran).1 ∙ nothing)
  first_found s u (Some y) ran run = subst (λ (ps : List B). Next ps (Some y) (left u)) (sym (found s u (Some y) ran).1) (refl, refl)
