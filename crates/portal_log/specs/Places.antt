-- Texts with their places: how many bytes stand before them.
--   Placed   a text and its place
--   placed   texts one after another from a place on, with one byte between two
--   Stands   the text is what `whole` has at its place
-- Assumes nothing.
use Rattle.std.specs.Prelude.{◌≡◌, ℕ, ◌+◌, ◌≤◌, List, [], ◌∷◌, length, take, drop}

pub record Placed : Type 0 where
  pub place : ℕ
  pub text : List ℕ

abbrev pub placed : ℕ → List (List ℕ) → List Placed
placed place [] = []
placed place (text ∷ texts) = record { place = place; text = text } ∷ placed (place + length text + 1) texts

pub record Stands (whole : List ℕ) (p : Placed) : Type 0 where
  pub within : p.place + length p.text ≤ length whole
  pub bytes : p.text ≡ take (length p.text) (drop p.place whole)
