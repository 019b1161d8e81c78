use Rattle.std.proofs.Common.{length, refl, ap, ◌∙◌}
use Rattle.pa_ctype.specs.Nodes.{at, Fits}
use Rattle.pa_ctype.specs.Layouts.{table_of}
use Rattle.pa_ctype.specs.Raised.{followed}
use Rattle.pa_typed.specs.Units.{name_in}
use Rattle.pa_link.specs.declared.numbering.Numbering.{Numbering}
use Rattle.pa_link.proofs.LinkedFiles.{part_is, part_known, structs_by}
use Rattle.pa_link.proofs.LinkedSteps.{longer, lt-le}
use Rattle.pa_link.proofs.linked.linked_file.Goals as goal

pub returns : goal.returns
returns c =
    let u = c.args.unit.now in
    let f = c.args.names.now in
    let old = c.args.types in
    let made = c.in_ok-part_of.field-0 in
    let joined = c.in_ok-types.field-0 in
    let n : Numbering = record { names = c.in_ok-from_slice.field-0; unnamed = f.unnamed; types = joined.numbers; void = c.args.void; texts = c.args.texts } in
    let names_are = c.in_ok-from_slice.ensures ∙ c.as_slice-2.ensures in
    let fits_at : Fits (at u.types.nodes) u.types.nodes = record { by = λ i h. refl } in
    let followed_is = rw c.as_slice.ensures at c.in_ok-types.ensures.structs in
    record {
      part = λ m fits names file are.
          part_is u f n names m file (length old.structs) names_are refl are (c.requires.void.is m (c.in_ok-types.ensures.grows m fits)) c.in_ok-types.ensures.count
          (c.in_ok-types.ensures.types (at u.types.nodes) fits_at m fits) made c.in_ok-part_of.ensures.functions c.in_ok-part_of.ensures.globals c.in_ok-part_of.ensures.declared;
      structs = λ m fits names empty plain.
          followed_is (name_in names) m (at u.types.nodes) fits fits_at
          ∙ ap (followed (table_of (name_in names) m old.structs)) (structs_by names u.names f.plain (at u.types.nodes) u.types.structs empty plain);
      known = λ names file are.
          part_known u n (length names) (length joined.types.nodes) made (rw names_are are.linkage_known) are.unnamed_known c.in_ok-types.ensures.known
          (lt-le c.requires.void.known (longer old.nodes joined.types.nodes c.in_ok-types.ensures.grows))
          c.in_ok-part_of.ensures.functions c.in_ok-part_of.ensures.globals c.in_ok-part_of.ensures.declared;
      grows = c.in_ok-types.ensures.grows;
      names = c.in_ok-types.ensures.names;
    }
