-- The runtime image is windowed.
use Rattle.std.proofs.Common.{◌≡◌, refl}
use Rattle.std.specs.Prelude.{None}
use Rattle.pa_num.specs.Arithmetic.{add64, scaled64, wrap}
use Rattle.pa_a64.specs.Decoding.{encoded, decoded, decoded_among, decoded_by}
use Rattle.pa_a64.specs.Parts.{word, fields}
use Rattle.pa_image.specs.Pal.{pal}
use Rattle.pa_check.specs.Text.{words_from, text_of}
use Rattle.pa_check.specs.Windows.{reach, spots}
use Rattle.pa_check.specs.Slots.{first_no_import, first_unsafe}
use Rattle.pa_check.specs.Windowed.{first_word, first_stub, first_flaw, IsWindowed}

pub pal_windowed : IsWindowed pal
unfolding pal first_flaw first_word first_stub first_no_import first_unsafe words_from text_of spots reach encoded decoded decoded_among decoded_by word fields
pal_windowed = refl
