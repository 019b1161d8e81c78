-- How rows spell names: a list of them beside a tree, in order of first sight behind the types of `<stdint.h>`, as `lex` numbers them.
use Rattle.std.specs.Prelude.{ℕ, List, [], ◌++◌, get_or}
use Rattle.pa_lex.specs.Numbering.{stdint_types}
use Rattle.pa_scope.specs.Scope.{Spelling}

abbrev pub names : List (List ℕ) → Spelling
names texts number = get_or (stdint_types ++ texts) number []
