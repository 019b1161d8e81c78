-- The image is legal, small and a program's, and each of its imports is exported.
use Rattle.std.proofs.Common.{◌≡◌, ℕ, ◌∙◌, sym, ap, subst, Some, None}
use Rattle.pa_macho.specs.declared.header.Role.TheVariants.{Main}
use Rattle.pa_image.specs.declared.image.Image.{Image}
use Rattle.pa_image.specs.Small.{IsSmall}
use Rattle.pa_image.specs.Writing.{IsLegal}
use Rattle.pa_image.specs.Pal.{pal}
use Rattle.pa_load.specs.Loaded.{first_missing}
use Rattle.pa_straight_image.specs.Image.{image_of}
use Rattle.pa_straight_image.proofs.Begun.{all_found, is_main}
use Rattle.pa_straight_image.proofs.Legal.{legal, small}
use Rattle.pa_straight_image.proofs.loading.load_program.Goals as goal

pub load-requires-clause-main_legal : goal.load-requires-clause-main_legal
load-requires-clause-main_legal g c = subst IsLegal (sym c.requires.2) (legal c.requires.0 c.requires.1)

pub load-requires-clause-main_small : goal.load-requires-clause-main_small
load-requires-clause-main_small g c = subst IsSmall (sym c.requires.2) (small c.requires.0 c.requires.1)

pub load-requires-clause-program : goal.load-requires-clause-program
load-requires-clause-program g c = subst (λ (x : Image). x.role ≡ Main) (sym c.requires.2) (is_main c.requires.0)

pub unreachable-requires : goal.unreachable-requires
unreachable-requires g c =
    let missing = rw c.in-Err-Refused.field-0-is at c.in-Err-Refused.ensures.missing in
    let none : first_missing c.args.image.now c.in_ok-runtime.runtime ≡ None =
    ap (λ x. first_missing x c.in_ok-runtime.runtime) c.requires.2 ∙ ap (first_missing (image_of c.requires.0)) c.in_ok-runtime.ensures.value ∙ all_found c.requires.0 in
    absurd (let no : Some c.in-Err-Refused.field-0-1 ≡ None = sym missing.1 ∙ none in cc)
