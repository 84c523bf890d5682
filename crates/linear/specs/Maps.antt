-- Linear maps on a space of rows, with their kernels and images.
--   Linear U f    f takes sums to sums and multiples to multiples, on the rows of U
--   Kernel U f    the rows of U that f takes to zero
--   Image U f     the rows that f takes the rows of U to
-- Assumes nothing.
use Rattle.std.specs.Prelude.{◌≡◌}
use Rattle.linear.specs.Rows.{Rows}

module _ {K V W : Type 0} (R : Rows K V) (S : Rows K W) where
  pub record Linear (U : V → Type 0) (f : V → W) : Type 0 where
    pub sums : (u v : V) → U u → U v → f (R.plus u v) ≡ S.plus (f u) (f v)
    pub multiples : (c : K) (v : V) → U v → f (R.times c v) ≡ S.times c (f v)

  abbrev pub Kernel : (V → Type 0) → (V → W) → V → Type 0
  Kernel U f v = U v × (f v ≡ S.none)

  abbrev pub Image : (V → Type 0) → (V → W) → W → Type 0
  Image U f w = (v : V) × U v × (f v ≡ w)
