-- Images of a size that loading takes.
use Rattle.std.specs.Prelude.{ℕ, ◌≤◌}
use Rattle.pa_macho.specs.Layout.{places_of}
use Rattle.pa_image.specs.declared.image.Image.{Image}
use Rattle.pa_image.specs.Bytes.{header_of}

-- the most bytes of a small image, 16 MiB
abbrev pub small_limit : ℕ
small_limit = 16777216

-- the image's bytes are no more than that
abbrev pub IsSmall : Image → Type 0
IsSmall image = (places_of (header_of image)).end ≤ small_limit
