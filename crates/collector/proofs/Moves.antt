-- A step of the interpolation, from the pairs that the code mixes and raises.
use Rattle.std.proofs.Common.{◌≡◌, ℕ, ◌+◌, ◌<◌, ◌≤◌, ◌⊎◌, List, sym, ap, ◌∙◌, subst, ap₂, inl, inr}
use Rattle.linear.proofs.Fields.{neg_mul}
use Rattle.field.specs.Alphabet.{Alphabet}
use Rattle.packet.specs.declared.Packet.{Packet}
use Rattle.linearized.specs.Polynomials.{at}
use Rattle.linearized.specs.Interpolation.{Pair, State, pair_value, Raises, Combines, Next}
use Rattle.linearized.specs.Interpolation.Next.{raise_first, raise_second}
use Rattle.collector.specs.Interpolation.{mixed, Mixes}

module _ {K S : Type 0} (A : Alphabet K S) where
  open A use {symbols as G}
  open G use {zero, add, neg, mul}

  -- c f − d g, with −d the second factor or the first
  less_second : (c d : S) (f g : List S) (n : ℕ) → mixed A c f (neg d) g n ≡ add (mul c (at G f n)) (neg (mul d (at G g n)))
  less_second c d f g n = ap (add _) (neg_mul G d _)

  less_first : (c d : S) (f g : List S) (n : ℕ) → mixed A (neg d) g c f n ≡ add (mul c (at G f n)) (neg (mul d (at G g n)))
  less_first c d f g n = G.add_comm _ _ ∙ less_second c d f g n

  mixed_first : (c d a b : S) (P Q T : Pair S) → a ≡ c → b ≡ neg d → Mixes A a P b Q T → Combines A c P d Q T
  mixed_first c d a b P Q T is-a is_b mixes = record {
    in_x = λ n. mixes.in_x n ∙ ap₂ (λ x y. mixed A x P.x y Q.x n) is-a is_b ∙ less_second c d P.x Q.x n;
    in_y = λ n. mixes.in_y n ∙ ap₂ (λ x y. mixed A x P.y y Q.y n) is-a is_b ∙ less_second c d P.y Q.y n;
  }

  mixed_second : (c d a b : S) (P Q T : Pair S) → a ≡ neg d → b ≡ c → Mixes A a Q b P T → Combines A c P d Q T
  mixed_second c d a b P Q T is-a is_b mixes = record {
    in_x = λ n. mixes.in_x n ∙ ap₂ (λ x y. mixed A x Q.x y P.x n) is-a is_b ∙ less_first c d P.x Q.x n;
    in_y = λ n. mixes.in_y n ∙ ap₂ (λ x y. mixed A x Q.y y P.y n) is-a is_b ∙ less_first c d P.y Q.y n;
  }

  vanishing : {O : Type 0} {v x : S} → v ≡ x → (v ≡ zero) ⊎ O → (x ≡ zero) ⊎ O
  vanishing is (inl z) = inl (sym is ∙ z)
  vanishing is (inr o) = inr o

  -- v and w are the values of the two pairs at p
  module _ (s : State S) (p : Packet S) (v w less : S) (is-v : v ≡ pair_value A s.first p) (is-w : w ≡ pair_value A s.second p) (is-less : less ≡ neg v) (t : State S) where
    abbrev moved : ℕ → ℕ → State S
    moved first_degree second_degree = record { first = t.first; second = t.second; first_degree = first_degree; second_degree = second_degree }

    pub first_moved : ¬ (v ≡ zero) → (w ≡ zero) ⊎ (s.first_degree ≤ s.second_degree) →
        Mixes A less s.second w s.first t.second → t.second_degree ≡ s.second_degree →
        Raises A v s.first t.first → t.first_degree ≡ s.first_degree + 1 → Next A s p t
    first_moved some order mixes same raises more =
        subst (Next A s p) (ap₂ moved (sym more) (sym same))
        (raise_first (λ z. some (is-v ∙ z)) (vanishing is-w order) (subst (λ x. Raises A x s.first t.first) is-v raises)
        (mixed_second _ _ less w s.first s.second t.second (is-less ∙ ap neg is-v) is-w mixes))

    pub second_moved : ¬ (w ≡ zero) → (v ≡ zero) ⊎ (s.second_degree < s.first_degree) →
        Mixes A w s.first less s.second t.first → t.first_degree ≡ s.first_degree →
        Raises A w s.second t.second → t.second_degree ≡ s.second_degree + 1 → Next A s p t
    second_moved some order mixes same raises more =
        subst (Next A s p) (ap₂ moved (sym same) (sym more))
        (raise_second (λ z. some (is-w ∙ z)) (vanishing is-v order) (subst (λ x. Raises A x s.second t.second) is-w raises)
        (mixed_first _ _ w less s.first s.second t.first is-w (is-less ∙ ap neg is-v) mixes))
