-- Operands that are read one by one.
use Rattle.std.proofs.Common.{◌≡◌, List, [], ◌∷◌, ◌++◌, codes, Option, Some, None, refl, ap, sym, ◌∙◌, append_assoc}
use Rattle.std.proofs.lemmas.List.{map-append}
use Rattle.pa_asmline.specs.declared.kind.Kind.{Kind}
use Rattle.pa_asmline.specs.declared.operand.Operand.{Operand as Held}
use Rattle.pa_asmline.specs.Rows.{Text}
use Rattle.pa_asmline.specs.Operands.{Operand}
use Rattle.pa_asmline.specs.Shapes.{shown_operand, shown_operands}
use Rattle.pa_asmline.specs.Reading.{onto, behind, operand, operands, front, back}

pub onto-onto : (xs ys : List Operand) (read : Option (List Operand)) → onto xs (onto ys read) ≡ onto (xs ++ ys) read
onto-onto xs ys None = refl
onto-onto xs ys (Some zs) = ap Some (sym (append_assoc xs ys zs))

pub onto-nothing : (read : Option (List Operand)) → onto [] read ≡ read
onto-nothing None = refl
onto-nothing (Some zs) = refl

pub ruleset onto_steps = (onto-onto, onto-nothing)

pub operands_one : (separator : Text) (kind : Kind) (kinds : List Kind) (text own : Text) (read : Operand) → behind separator text ≡ Some own → operand kind (front 44 own) ≡ Some read → operands separator (kind ∷ kinds) text ≡ onto (read ∷ []) (operands (codes ", ") kinds (back 44 own))
unfolding operands
operands_one separator kind kinds text own read e f = rw (e, f) refl

-- one more operand is read
pub operands_more : (separator : Text) (kind : Kind) (kinds : List Kind) (text own : Text) (before after : List Held) (read : Held) (all : Option (List Operand)) → behind separator text ≡ Some own → operand kind (front 44 own) ≡ Some (shown_operand read) → after ≡ before ++ read ∷ [] → onto (shown_operands before) (operands separator (kind ∷ kinds) text) ≡ all → onto (shown_operands after) (operands (codes ", ") kinds (back 44 own)) ≡ all
operands_more separator kind kinds text own before after read all e f g h =
    ap (λ xs. onto (shown_operands xs) (operands (codes ", ") kinds (back 44 own))) g
    ∙ ap (λ xs. onto xs (operands (codes ", ") kinds (back 44 own))) (map-append shown_operand before (read ∷ []))
    ∙ sym (onto-onto (shown_operands before) (shown_operand read ∷ []) (operands (codes ", ") kinds (back 44 own)))
    ∙ ap (onto (shown_operands before)) (sym (operands_one separator kind kinds text own (shown_operand read) e f)) ∙ h
