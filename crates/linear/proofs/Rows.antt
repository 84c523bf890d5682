-- What the laws of rows give: identities, coordinate by coordinate.
use Rattle.std.proofs.Common.{◌≡◌, ℕ, sym, ap, ◌∙◌}
use Rattle.linear.specs.Field.{Field}
use Rattle.linear.specs.Rows.{Rows, RowLaws, minus}
use Rattle.linear.proofs.Fields as field

module _ {K V : Type 0} {F : Field K} {R : Rows K V} (laws : RowLaws F R) where
  open F use {zero, one, add, neg, mul, inv}
  open R use {none, plus, times, coord}
  open laws use {coord_none, coord_plus, coord_times, same}

  pub plus_none : (v : V) → plus v none ≡ v
  plus_none v = same _ v (λ i h. simp (coord_plus, coord_none, F.add-zero))

  pub none_plus : (v : V) → plus none v ≡ v
  none_plus v = same _ v (λ i h. simp (coord_plus, coord_none, field.zero-add F))

  pub plus_comm : (u v : V) → plus u v ≡ plus v u
  plus_comm u v = same _ _ (λ i h. simp (coord_plus) (F.add_comm _ _))

  pub plus_assoc : (u v w : V) → plus (plus u v) w ≡ plus u (plus v w)
  plus_assoc u v w = same _ _ (λ i h. simp (coord_plus, F.add_assoc))

  pub times_none : (c : K) → times c none ≡ none
  times_none c = same _ none (λ i h. simp (coord_times, coord_none, field.mul-zero F))

  pub zero_times : (v : V) → times zero v ≡ none
  zero_times v = same _ none (λ i h. simp (coord_times, coord_none, field.zero-mul F))

  pub one_times : (v : V) → times one v ≡ v
  one_times v = same _ v (λ i h. simp (coord_times, field.one-mul F))

  pub times_inv : (c : K) (v : V) → ¬ (c ≡ zero) → times c (times (inv c) v) ≡ v
  times_inv c v z = same _ v (λ i h. simp (coord_times) (field.mul_left_comm F _ _ _ ∙ field.inv_mul F _ _ z))

  -- terms c b + w of a combination
  pub term_one : (b : V) → b ≡ plus (times one b) none
  term_one b = sym (one_times b) ∙ sym (plus_none _)

  pub term_skip : (b v : V) → v ≡ plus (times zero b) v
  term_skip b v = sym (none_plus v) ∙ ap (λ w. plus w v) (sym (zero_times b))

  pub term_plus : (c d : K) (b w u : V) → plus (plus (times c b) w) (plus (times d b) u) ≡ plus (times (add c d) b) (plus w u)
  term_plus c d b w u = same _ _ (λ i h. simp (coord_plus, coord_times) (field.term_add F _ _ _ _ _))

  pub term_times : (k c : K) (b w : V) → times k (plus (times c b) w) ≡ plus (times (mul k c) b) (times k w)
  term_times k c b w = same _ _ (λ i h. simp (coord_plus, coord_times) (field.term_mul F _ _ _ _))

  pub term_solve : (c : K) (b w : V) → ¬ (c ≡ zero) → plus (times (inv c) (plus (times c b) w)) (times (neg (inv c)) w) ≡ b
  term_solve c b w z = same _ b (λ i h. simp (coord_plus, coord_times) (field.term_solve F _ _ _ z))

  -- v less c times r
  pub coord_minus : (v : V) (c : K) (r : V) (i : ℕ) → coord (minus F R v c r) i ≡ add (coord v i) (mul (neg c) (coord r i))
  coord_minus v c r i = simp (coord_plus, coord_times)

  pub minus_back : (v : V) (c : K) (r : V) → plus (times c r) (minus F R v c r) ≡ v
  minus_back v c r = same _ v (λ i h. simp (coord_plus, coord_times) (field.minus_back F _ _ _))

  pub minus_sum : (u v : V) → minus F R (plus u v) one u ≡ v
  minus_sum u v = same _ v (λ i h. simp (coord_plus, coord_times) (field.minus_sum F _ _))

  pub minus_self : (v : V) → minus F R v one v ≡ none
  minus_self v = ap (λ u. minus F R u one v) (sym (plus_none v)) ∙ minus_sum v none

  pub term_shift : (c : K) (x y w : V) → plus (times c y) w ≡ plus (times c (minus F R y one x)) (plus w (times c x))
  term_shift c x y w = same _ _ (λ i h. simp (coord_plus, coord_times) (field.term_shift F _ _ _ _))

  -- where r is zero nothing changes
  pub minus_keeps : (v : V) (c : K) (r : V) (i : ℕ) → coord r i ≡ zero → coord (minus F R v c r) i ≡ coord v i
  minus_keeps v c r i z = coord_minus v c r i ∙ simp (z, field.mul-zero F, F.add-zero)

  -- where r is one, what v has there goes
  pub minus_clears : (v r : V) (i : ℕ) → coord r i ≡ one → coord (minus F R v (coord v i) r) i ≡ zero
  minus_clears v r i o = coord_minus v (coord v i) r i ∙ simp (o, F.mul_one, F.add_neg)
