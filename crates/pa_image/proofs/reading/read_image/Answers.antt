use Rattle.std.proofs.Common.{◌≡◌, ◌∙◌}
use Rattle.pa_image.specs.declared.image.Image.{Image}
use Rattle.pa_image.specs.Bytes.{header_of}
use Rattle.pa_image.specs.Reading.{first_flaw}
use Rattle.pa_image.proofs.Header.{known, image_found, parts_moved, behind_header, refused_first}
use Rattle.pa_image.proofs.Whole.{err_flaw, err_only}
use Rattle.pa_image.proofs.reading.read_image.Goals as goal

pub returns-in_err-header-clause-flaw : goal.returns-in_err-header-clause-flaw
returns-in_err-header-clause-flaw c = refused_first c.args.bytes.now c.from_residual.result c.in_err-header.field-0.0 c.from_residual.ensures.1 c.in_err-header.ensures.flaw

pub read_parts-requires : goal.read_parts-requires
read_parts-requires c = record { known = known c.in_ok-header.header c.places.result c.args.bytes.now c.places.ensures.value c.places.ensures.order c.in_ok-header.ensures.found }

pub returns-in_err-image-clause-only : goal.returns-in_err-image-clause-only
returns-in_err-image-clause-only c = λ x i.
    let same : c.in_ok-header.header ≡ header_of x = cc (c.in_ok-header.ensures.only (header_of x) i.header) in
    err_only Image x c.from_residual-in_err-image.result c.in_err-image.field-0.0 x c.from_residual-in_err-image.ensures.1 (c.in_err-image.ensures.only x (parts_moved c.in_ok-header.header c.places.result c.args.bytes.now x c.places.ensures.value same i))

pub returns-in_err-image-clause-flaw : goal.returns-in_err-image-clause-flaw
returns-in_err-image-clause-flaw c =
    err_flaw Image c.from_residual-in_err-image.result c.in_err-image.field-0.0 _ (first_flaw c.args.bytes.now) c.from_residual-in_err-image.ensures.1 c.in_err-image.ensures.flaw
    (λ f e. behind_header c.in_ok-header.header c.places.result c.args.bytes.now c.places.ensures.value c.in_ok-header.ensures.found ∙ e)

pub returns-clause-found : goal.returns-clause-found
returns-clause-found c = image_found c.in_ok-header.header c.places.result c.args.bytes.now c.in_ok-image.image c.places.ensures.value c.places.ensures.order c.in_ok-header.ensures.found c.in_ok-image.ensures.found

pub returns-clause-only : goal.returns-clause-only
returns-clause-only c = λ x i.
    let same : c.in_ok-header.header ≡ header_of x = cc (c.in_ok-header.ensures.only (header_of x) i.header) in
    c.in_ok-image.ensures.only x (parts_moved c.in_ok-header.header c.places.result c.args.bytes.now x c.places.ensures.value same i)

pub returns-clause-flaw : goal.returns-clause-flaw
returns-clause-flaw c = behind_header c.in_ok-header.header c.places.result c.args.bytes.now c.places.ensures.value c.in_ok-header.ensures.found ∙ c.in_ok-image.ensures.flaw
