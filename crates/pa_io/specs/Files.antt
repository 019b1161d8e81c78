-- Files by name.
use Rattle.std.specs.Prelude.{ℕ, List, [], Option, Some, None, find, unwrap_or}
use Rattle.std.specs.Option.{option_map}
use Rattle.std.specs.Str.{bytes_eq}
use Rattle.pa_io.specs.declared.files.MemFile.{MemFile}
use Rattle.pa_io.specs.Outside.{Told, Missing, Holds}

-- the bytes of the first file of that name
unfoldable pub file_of : List MemFile → List ℕ → Option (List ℕ)
file_of files name = option_map (λ file. file.bytes) (find (λ file. bytes_eq file.name name) files)

-- what these files tell of a name
abbrev pub told_of : Option (List ℕ) → Told
told_of None = Missing
told_of (Some bytes) = Holds bytes

unfoldable pub tells : List MemFile → List ℕ → Told
tells files name = told_of (file_of files name)

-- what they tell where each name that isn't there is that of the empty file
unfoldable pub tells_all : List MemFile → List ℕ → Told
tells_all files name = Holds (unwrap_or (file_of files name) [])
