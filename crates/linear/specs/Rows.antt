-- Row kinds: rows of a fixed width over a field.
--   Rows K V      what a kind of row offers: its width, zero, sum, scalar multiple, numbered coordinates
--   minus         v less c times w
--   cleared       v less what makes it other than zero at a place where u is one
--   RowLaws F R   sum and multiple go coordinate by coordinate, every coordinate of zero is zero,
--                 and two rows are equal when all coordinates below the width are
-- Assumes nothing.
use Rattle.std.specs.Prelude.{◌≡◌, ℕ, ◌<◌}
use Rattle.linear.specs.Field.{Field}

pub record Rows (K V : Type 0) : Type 0 where
  pub width : ℕ
  pub none : V
  pub plus : V → V → V
  pub times : K → V → V
  pub coord : V → ℕ → K

abbrev pub minus : {K V : Type 0} → Field K → Rows K V → V → K → V → V
minus F R v c w = R.plus v (R.times (F.neg c) w)

abbrev pub cleared : {K V : Type 0} → Field K → Rows K V → V → ℕ → V → V
cleared F R u i v = minus F R v (R.coord v i) u

pub record RowLaws {K V : Type 0} (F : Field K) (R : Rows K V) : Type 0 where
  pub coord_none : (i : ℕ) → R.coord R.none i ≡ F.zero
  pub coord_plus : (u v : V) (i : ℕ) → R.coord (R.plus u v) i ≡ F.add (R.coord u i) (R.coord v i)
  pub coord_times : (c : K) (v : V) (i : ℕ) → R.coord (R.times c v) i ≡ F.mul c (R.coord v i)
  pub same : (u v : V) → ((i : ℕ) → i < R.width → R.coord u i ≡ R.coord v i) → u ≡ v
