-- A small image is one whose file is small.
use Rattle.std.proofs.Common.{◌≡◌, ℕ, ◌≤◌, ◌↔◌, List, length, arith}
use Rattle.pa_macho.specs.Layout.{places_of}
use Rattle.pa_macho.proofs.Laws.{header_ends}
use Rattle.pa_image.specs.declared.image.Image.{Image}
use Rattle.pa_image.specs.Bytes.{header_of, IsImage}
use Rattle.pa_image.specs.Small.{small_limit, IsSmall}

pub small_file : (image : Image) (bytes : List ℕ) → IsImage image bytes → IsSmall image ↔ (length bytes ≤ small_limit)
small_file image bytes i =
    let end : length bytes ≡ (places_of (header_of image)).end = header_ends (header_of image) bytes i.header in
    (λ h. omega arith, λ h. omega arith)
