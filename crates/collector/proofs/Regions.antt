-- A number's window after a write to one of the windows.
use Rattle.std.proofs.Common.{◌≡◌, ℕ, ◌+◌, ◌-◌, ◌*◌, ◌<◌, ◌≤◌, ◌≢◌, ◌⊎◌, List, ◌++◌, length, take, drop, sym, ap, ◌∙◌, inl, inr, mul-le-mul_right, suc-mul, arith, length-append, length-drop, length-take}
use Rattle.std.specs.declared.ops.Range.{Range}
use borrow.Rule.Slice.PartMut.{put_mid}
use native.Mathlib.Decide.{dec_lt}
use Rattle.std.proofs.lemmas.List.{take_at, drop_at, drop-take, length-take-le, take-append-drop}
use Rattle.std.proofs.lemmas.Slice.{take-put_mid_below, drop-put_mid}
use Rattle.collector.specs.Regions.{window, put_window, Place}

-- the windows of two numbers lie apart
pub windows_apart : (w b c : ℕ) → c ≢ b → (c * w + w ≤ b * w) ⊎ (b * w + w ≤ c * w)
windows_apart w b c ne = go (dec_lt c b)
  where
    after : b < c → b * w + w ≤ c * w
    after h = omega (arith, mul-le-mul_right w h, suc-mul b w)

    go : Dec (c < b) → (c * w + w ≤ b * w) ⊎ (b * w + w ≤ c * w)
    go (yes h) = inl (omega (arith, mul-le-mul_right w h, suc-mul c w))
    go (no h) = inr (after (omega (arith, ne)))

-- and within eight times the width
pub window_within : (w b : ℕ) → b < 8 → b * w + w ≤ 8 * w
window_within w b h = omega (arith, mul-le-mul_right w h, suc-mul b w)

module _ {V : Type 0} (w b : ℕ) (new rows : List V) (long : length new ≡ w) (room : b * w + w ≤ length rows) where
  pub put_length : length (put_window w b new rows) ≡ length rows
  put_length = simp (length-append, length-take, length-drop) (omega arith)

  pub put_own : window w b (put_window w b new rows) ≡ new
  put_own = ap (take w) (drop_at (take (b * w) rows) (new ++ drop w (drop (b * w) rows)) (b * w) (length-take-le (b * w) rows (omega arith))) ∙ take_at new (drop w (drop (b * w) rows)) w long

  -- rows after the window
  pub put_later : (n : ℕ) → b * w + w ≤ n → drop n (put_window w b new rows) ≡ drop n rows
  put_later n h = drop-put_mid (b * w) w rows new n h (omega arith) long

  pub put_other : (c : ℕ) → c ≢ b → window w c (put_window w b new rows) ≡ window w c rows
  put_other c ne = go (windows_apart w b c ne)
    where
      go : (c * w + w ≤ b * w) ⊎ (b * w + w ≤ c * w) → window w c (put_window w b new rows) ≡ window w c rows
      go (inl h) =
          sym (drop-take (c * w) w (put_window w b new rows))
          ∙ ap (drop (c * w)) (take-put_mid_below (b * w) w rows new (c * w + w) h (omega arith)) ∙ drop-take (c * w) w rows
      go (inr h) = ap (take w) (put_later (c * w) h)

-- a window of rows that are all there
pub window_length : {V : Type 0} (w b : ℕ) (rows : List V) → b * w + w ≤ length rows → length (window w b rows) ≡ w
window_length w b rows h = simp (length-take, length-drop) (omega arith)

-- a number's window as the slice of its place has it
module _ {V : Type 0} {w b : ℕ} {range : Range ℕ} (place : Place w b range) (rows : List V) where
  place_long : range.end - range.start ≡ w
  place_long = omega (arith, place.start, place.end)

  pub part_is : take (range.end - range.start) (drop range.start rows) ≡ window w b rows
  part_is = ap (λ n. take n (drop range.start rows)) place_long ∙ ap (λ i. take w (drop i rows)) place.start

  pub put_is : (new : List V) → put_mid range.start (range.end - range.start) rows new ≡ put_window w b new rows
  put_is new = ap (λ n. put_mid range.start n rows new) place_long ∙ ap (λ i. put_mid i w rows new) place.start

-- a window written over itself
pub put_same : {V : Type 0} (w b : ℕ) (rows : List V) → put_window w b (window w b rows) rows ≡ rows
put_same w b rows = ap (λ ys. take (b * w) rows ++ ys) (take-append-drop w (drop (b * w) rows)) ∙ take-append-drop (b * w) rows
