-- A text that is written in pieces.
use Rattle.std.specs.Prelude.{◌≡◌, ℕ, List, ◌++◌, Option}
use Rattle.pa_io.specs.Outside.{Grew}

-- a text came onto a page: what is told of a sink grew by some bytes, and these and the page are the page before and the text
pub record Passed (before now : Option (List ℕ)) (old new text : List ℕ) : Type 0 where
  pub done : List ℕ
  pub parts : old ++ text ≡ done ++ new
  pub grew : Grew before now done
