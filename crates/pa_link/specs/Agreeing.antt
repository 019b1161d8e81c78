-- When the numbers that a file's trees get stand for what they stood for in the file.
use Rattle.std.specs.Prelude.{◌≡◌, ℕ, List}
use Rattle.pa_ctype.specs.Types.{TypeTree}
use Rattle.pa_link.specs.declared.numbering.Numbering.{Numbering}
use Rattle.pa_link.specs.Moved.{Move, moved_name, moved_type}
use Rattle.pa_link.specs.Numbering.{name_number, type_number}

-- names and types of the file are `nu` and `mu`, those of the program `np` and `mp`
pub record Agrees (n : Numbering) (mv : Move) (nu np : ℕ → List ℕ) (mu mp : ℕ → TypeTree) : Type 0 where
  pub names : (i : ℕ) → np (name_number n i) ≡ moved_name mv (nu i)
  pub types : (i : ℕ) → mp (type_number n i) ≡ moved_type mv (mu i)
  pub texts : n.texts ≡ mv.texts
