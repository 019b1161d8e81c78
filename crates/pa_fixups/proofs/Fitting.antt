-- A slot fits where each of its tests holds.
use Rattle.std.proofs.Common.{◌≡◌, ℕ, ◌<◌, ◌^◌, true, List, length, arith}
use Rattle.pa_layout.specs.declared.field.FileField.{FileField}
use Rattle.pa_layout.specs.Fields.{AllFit, all_have_room}
use Rattle.pa_layout.proofs.Laws.{fit_from_room, room_from_fit}
use Rattle.pa_fixups.specs.declared.tables.DataAt.{DataAt}
use Rattle.pa_fixups.specs.Fixups.{ImportsFit, header_of}
use Rattle.pa_fixups.proofs.Whole.{count_small}
use Rattle.pa_fixups.specs.declared.kind.Fix.{Fix}
use Rattle.pa_fixups.specs.declared.bounds.Bounds.{Bounds}
use Rattle.pa_fixups.specs.Slots.{FieldsFit}
use Rattle.pa_fixups.specs.Chain.{may_stand, ordinal_fits, target_fits, FixFits}

pub fix_fits : (bounds : Bounds) (len : ℕ) (fix : Fix) → FieldsFit fix.kind → may_stand bounds len fix.at ≡ true → ordinal_fits bounds fix.kind ≡ true → target_fits bounds fix.kind ≡ true → FixFits bounds len fix
fix_fits bounds len fix f s o t = record { stands = s; fields = f; ordinal = o; target = t }

pub room_fits : (fields : List FileField) → all_have_room fields ≡ true → AllFit fields
room_fits fields e = fit_from_room fields e

pub fits_room : (fields : List FileField) → AllFit fields → all_have_room fields ≡ true
fits_room fields h = room_from_fit fields h

pub count_fits : (at : DataAt) (imports : List (List ℕ)) → ImportsFit at imports → length imports < 2 ^ 32
count_fits at imports f = count_small at (length imports) f.header
