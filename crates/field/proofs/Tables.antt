-- Tables of the powers of 03 in the octets and of their exponents, eight entries in a row, each by one computed test of all its entries.
-- Assumes nothing.
use Rattle.std.proofs.Common.{◌≡◌, ℕ, zero, suc, ◌/◌, ◌%◌, ◌<◌, Bool, T, eqb, List, [], ◌∷◌, get_or, sym, refl, ◌∙◌, le_of_suc-le-suc, not-suc-le-zero, arith}
use Rattle.linear.specs.Field.{iterate}
use Rattle.binary.specs.Codes.{pow}
use Rattle.binary.specs.Products.{octet_product}
use Rattle.binary.proofs.Maps.{iterate_swap}
use Rattle.binary.proofs.Powers.{pow_iterate}
use Rattle.binary.proofs.Tests.{below, computed}

abbrev pub read : List (List ℕ) → ℕ → ℕ
read rows i = get_or (get_or rows (i / 8) []) (i % 8) 0

-- k powers of 03 after one another, the first of them a
unfoldable pub chain : ℕ → ℕ → List ℕ
chain zero a = []
chain (suc k) a = a ∷ chain k (octet_product 3 a)

chain_at : (k a i : ℕ) → i < k → get_or (chain k a) i 0 ≡ iterate (octet_product 3) i a
unfolding chain
chain_at zero a i h = absurd (not-suc-le-zero h)
chain_at (suc k) a zero h = refl
chain_at (suc k) a (suc i) h =
    chain_at k (octet_product 3 a) i (le_of_suc-le-suc h) ∙ iterate_swap (octet_product 3) i 1 a

chain_less : (k a i x : ℕ) → get_or (chain k a) i 0 ≡ suc x → i < k
unfolding chain
chain_less zero a i x e = absurd (omega arith)
chain_less (suc k) a zero x e = omega arith
chain_less (suc k) a (suc i) x e = omega (arith, chain_less k (octet_product 3 a) i x e)

power_at : (i : ℕ) → i < 256 → get_or (chain 256 1) i 0 ≡ pow octet_product 3 i
power_at i h = chain_at 256 1 i h ∙ sym (pow_iterate octet_product 3 i)

abbrev pub powers_pass : List ℕ → List (List ℕ) → Bool
powers_pass powers rows = below (λ i. eqb (read rows i) (get_or powers i 0)) 256

pub powers_at : (rows : List (List ℕ)) → T (powers_pass (chain 256 1) rows) → (i : ℕ) → i < 256 → read rows i ≡ pow octet_product 3 i
powers_at rows t i h = computed (read rows) (λ i. get_or (chain 256 1) i 0) 256 t i h ∙ power_at i h

abbrev pub exponents_pass : List ℕ → List (List ℕ) → Bool
exponents_pass powers rows = below (λ a. eqb (get_or powers (read rows (suc a)) 0) (suc a)) 255

pub exponents_at : (rows : List (List ℕ)) → T (exponents_pass (chain 256 1) rows) → (a : ℕ) → 0 < a → a < 256 → pow octet_product 3 (read rows a) ≡ a
exponents_at rows t zero p h = absurd (not-suc-le-zero p)
exponents_at rows t (suc a) p h =
    let e : get_or (chain 256 1) (read rows (suc a)) 0 ≡ suc a = computed (λ a. get_or (chain 256 1) (read rows (suc a)) 0) suc 255 t a (omega arith) in
    sym (power_at (read rows (suc a)) (chain_less 256 1 (read rows (suc a)) a e)) ∙ e
