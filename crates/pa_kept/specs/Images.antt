-- The code of images where they lie.
use Rattle.std.specs.Prelude.{ℕ, List, ◌==◌}
use Rattle.std.specs.List.{list_any}
use Rattle.pa_image.specs.Places.{Mapped, entries, afters, code_areas, word_of}
use Rattle.pa_kept.specs.Kept.{CodeAt}

unfoldable pub code_of : List Mapped → CodeAt
code_of images = record {
  word = word_of (code_areas images);
  is_entry = λ at. list_any (λ x. x == at) (entries images);
  is_after = λ at. list_any (λ x. x == at) (afters images);
}
