-- The first check that fails of an image's bytes, and the run of what passes all.
use Rattle.std.proofs.Common.{◌≡◌, ◌∙◌, ℕ, refl, sym, subst, arith, Option, Some, None, Result, Ok, Err, inl, inr}
use Rattle.std.specs.Prelude.{true, IsErrAnd}
use Rattle.pa_pac.specs.Signing.{Code}
use Rattle.pa_object.specs.Run.{Script}
use Rattle.pa_object.specs.Script.{all_fit}
use Rattle.pa_image.specs.declared.image.Image.{Image}
use Rattle.pa_image.specs.Bytes.{IsImage}
use Rattle.pa_image.specs.Pal.{pal}
use Rattle.pa_image.specs.Reading as reading
use Rattle.pa_image.specs.Small.{IsSmall}
use Rattle.pa_image.specs.Writing.{IsLegal}
use Rattle.pa_image.proofs.Laws.{one_image}
use Rattle.pa_check.specs.declared.rule.Flaw as check
use Rattle.pa_check.specs.declared.rule.CheckRule.{CheckRule}
use Rattle.pa_check.specs.declared.rule.Verdict.TheVariants.{Bad}
use Rattle.pa_check.specs.Windowed.{first_flaw, verdict_of}
use Rattle.pa_load.specs.Loaded.{State, IsLoaded, first_missing, loaded}
use Rattle.pa_script.specs.Rules.{first_unfit}
use Rattle.pa_kept.proofs.Begun.{programs}
use Rattle.pa_engine.specs.declared.fault.Rule.TheVariants as rule
use Rattle.pa_engine.specs.declared.fault.Refusal.{Refusal}
use Rattle.pa_engine.specs.declared.fault.EngineFault.{EngineFault}
use Rattle.pa_engine.specs.declared.fault.EngineFault.TheVariants.{Refused, Memory}
use Rattle.pa_engine.specs.declared.reports.Ran.{Ran}
use Rattle.pa_engine.specs.ImageRun.{ImageRun, unread, unwindowed, no_program, unexported, unfit, refusal_of, IsRefused, IsAccepted, state_of, IsLeftBy, run_of, Answers, DoesNotRefuse, IsAnswer}

none_some : {A B : Type 0} {a : A} → None ≡ Some a → B
none_some e = absurd (grind (arith, e))

-- an answer that passes a fault on
pub passed_on : {A : Type 0} (P : Result A EngineFault → Type 0) (result : Result A EngineFault) (fault : EngineFault) → IsErrAnd result (λ x. x ≡ fault) → P (Err fault) → P result
passed_on P (Ok value) fault e p = absurd e
passed_on P (Err told) fault e p = subst (λ z. P (Err z)) (sym e) p

-- a check that fails, of which the first that fails is made
pub first_failed : {A : Type 0} (result : Result A EngineFault) (fault : EngineFault) (part whole : Option Refusal) → IsErrAnd result (λ x. x ≡ fault) → Answers {A = Unit {0}} (Err fault) part → ((r : Refusal) → part ≡ Some r → whole ≡ Some r) → Answers result whole
first_failed {A = A} result fault part whole e h k = passed_on (λ z. Answers z whole) result fault e (go fault h)
  where
    go : (fault : EngineFault) → Answers {A = Unit {0}} (Err fault) part → Answers {A = A} (Err fault) whole
    go Memory h = tt
    go (Refused told) h = k told h

-- ---- the first check that fails

-- the parts of `refusal_of`
pub none_of : (code : Code) (slide : ℕ) (script : Script) (image : Image) → unwindowed (first_flaw image) ≡ None → no_program image.role ≡ None → unexported (first_missing image pal) ≡ None
    → unfit (first_unfit script (loaded code image pal slide).memory) ≡ None → refusal_of code slide script image ≡ None
unfolding refusal_of
none_of code slide script image a b c d = rw (a, b, c, d) refl

pub by_code : (code : Code) (slide : ℕ) (script : Script) (image : Image) (r : Refusal) → unwindowed (first_flaw image) ≡ Some r → refusal_of code slide script image ≡ Some r
unfolding refusal_of
by_code code slide script image r a = rw a refl

pub by_role : (code : Code) (slide : ℕ) (script : Script) (image : Image) (r : Refusal) → unwindowed (first_flaw image) ≡ None → no_program image.role ≡ Some r → refusal_of code slide script image ≡ Some r
unfolding refusal_of
by_role code slide script image r a b = rw (a, b) refl

pub by_import : (code : Code) (slide : ℕ) (script : Script) (image : Image) (r : Refusal) → unwindowed (first_flaw image) ≡ None → no_program image.role ≡ None → unexported (first_missing image pal) ≡ Some r → refusal_of code slide script image ≡ Some r
unfolding refusal_of
by_import code slide script image r a b c = rw (a, b, c) refl

pub by_script : (code : Code) (slide : ℕ) (script : Script) (image : Image) (r : Refusal) → unwindowed (first_flaw image) ≡ None → no_program image.role ≡ None → unexported (first_missing image pal) ≡ None
    → unfit (first_unfit script (loaded code image pal slide).memory) ≡ Some r → refusal_of code slide script image ≡ Some r
unfolding refusal_of
by_script code slide script image r a b c d = rw (a, b, c, d) refl

pub bad_flaw : (flaw : Option check.Flaw) (offset : ℕ) (r : CheckRule) → Bad offset r ≡ verdict_of flaw → unwindowed flaw ≡ Some (record { rule = rule.Code r; file = 1; place = offset })
bad_flaw None offset r e = absurd (grind (arith, e))
bad_flaw (Some flaw) offset r e = grind (arith, e)

no_flaw : (flaw : Option check.Flaw) → unwindowed flaw ≡ None → flaw ≡ None
no_flaw None e = refl
no_flaw (Some flaw) e = none_some (sym e)

windowed_of : (code : Code) (slide : ℕ) (script : Script) (image : Image) → refusal_of code slide script image ≡ None → first_flaw image ≡ None
windowed_of code slide script image e = go (unwindowed (first_flaw image)) refl
  where
    go : (a : Option Refusal) → unwindowed (first_flaw image) ≡ a → first_flaw image ≡ None
    go None q = no_flaw (first_flaw image) q
    go (Some r) q = none_some (sym e ∙ by_code code slide script image r q)

-- ---- answers

-- bytes that stand for no image
pub unread_answer : (r : ImageRun) (fault : EngineFault) → Answers {A = Image} (Err fault) (unread (reading.first_flaw r.bytes)) → ((image : Image) → IsImage image r.bytes → DoesNotRefuse {A = Image} (Err fault)) → IsAnswer r (Err fault)
unread_answer r Memory h only = record { cause = tt; refused = λ refusal x. tt; accepted = λ image x. tt }
unread_answer r (Refused told) h only = record { cause = inl h; refused = refused; accepted = λ image x. only image x.0 }
  where
    refused : (refusal : Refusal) → IsRefused r refusal → told ≡ refusal
    refused refusal (inl e) = grind (arith, sym h ∙ e)
    refused refusal (inr x) = absurd (only x.0 x.1)

-- what is refused is refused with the first check that the image fails
refusal_is : (r : ImageRun) (image : Image) (refusal : Refusal) → IsImage image r.bytes → unread (reading.first_flaw r.bytes) ≡ None → IsRefused r refusal → refusal_of r.code r.slide r.script image ≡ Some refusal
refusal_is r image refusal i f (inl e) = none_some (sym f ∙ e)
refusal_is r image refusal i f (inr x) = subst (λ z. refusal_of r.code r.slide r.script z ≡ Some refusal) (one_image x.0 image r.bytes x.1 i) x.2

accepted_is : (r : ImageRun) (image other : Image) → IsImage image r.bytes → IsAccepted r other → refusal_of r.code r.slide r.script image ≡ None
accepted_is r image other i x = subst (λ z. refusal_of r.code r.slide r.script z ≡ None) (one_image other image r.bytes x.0 i) x.1

-- an image that fails a check
pub unloaded_answer : (r : ImageRun) (image : Image) (fault : EngineFault) → IsImage image r.bytes → unread (reading.first_flaw r.bytes) ≡ None → Answers {A = Ran} (Err fault) (refusal_of r.code r.slide r.script image) → IsAnswer r (Err fault)
unloaded_answer r image Memory i f h = record { cause = tt; refused = λ refusal x. tt; accepted = λ image x. tt }
unloaded_answer r image (Refused told) i f h = record {
  cause = inr (image, i, h);
  refused = λ refusal x. grind (arith, sym h ∙ refusal_is r image refusal i f x);
  accepted = λ other x. none_some (sym (accepted_is r image other i x) ∙ h);
}

pub memory_answer : (r : ImageRun) → IsAnswer r (Err Memory)
memory_answer r = record { cause = tt; refused = λ refusal x. tt; accepted = λ image x. tt }

-- an image that fails none
pub ran_answer : (r : ImageRun) (image : Image) (state : State) (ran : Ran) → IsImage image r.bytes → unread (reading.first_flaw r.bytes) ≡ None → IsLegal image → IsSmall image
    → IsLoaded r.code image pal r.slide state → all_fit r.script state.memory ≡ true → refusal_of r.code r.slide r.script image ≡ None
    → IsLeftBy (run_of r.code r.script r.steps state r.input) ran → IsAnswer r (Ok ran)
ran_answer r image state ran i f legal small l fits h left =
    let e : state ≡ state_of r image = l.state_is in
    let here : IsLoaded r.code image pal r.slide (state_of r image) = subst (λ z. IsLoaded r.code image pal r.slide z) e l in
    record {
      cause = record {
        image = image;
        accepted = (i, h);
        left = subst (λ z. IsLeftBy (run_of r.code r.script r.steps z r.input) ran) e left;
        kept = programs image legal small (windowed_of r.code r.slide r.script image h) r.code r.slide (state_of r image) here r.script (subst (λ (z : State). all_fit r.script z.memory ≡ true) e fits) r.input r.steps;
      };
      refused = λ refusal x. none_some (sym h ∙ refusal_is r image refusal i f x);
      accepted = λ other x. tt;
    }
