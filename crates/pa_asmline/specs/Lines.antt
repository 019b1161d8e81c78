-- What a line says.
use Rattle.std.specs.Prelude.{◌≡◌, ◌⊎◌, Bool, true, false, List, [], ◌∷◌, ◌++◌, codes}
use Rattle.pa_asmline.specs.declared.form.Form.{Form}
use Rattle.pa_asmline.specs.declared.kind.Kind.{Kind}
use Rattle.pa_asmline.specs.Rows.{Text, name, kinds}
use Rattle.pa_asmline.specs.Operands.{Operand, Spells, is_name}

pub data Line : Type 0 where
  -- an empty line or a comment
  Blank : Line
  -- a label; a public one is a mark too
  Label : (public : Bool) (name : Text) → Line
  -- an instruction
  Row : (form : Form) (operands : List Operand) → Line
  -- anything else
  Unknown : Line

-- operands of these kinds, each behind a separator: the first behind this one, the others behind a comma and a space
abbrev pub AreOperands : (separator : Text) → List Kind → List Operand → Text → Type 0
AreOperands separator [] [] text = text ≡ []
AreOperands separator [] (operand ∷ operands) text = ⊥
AreOperands separator (kind ∷ kinds) [] text = ⊥
AreOperands separator (kind ∷ kinds) (operand ∷ operands) text =
    (own rest : Text) × (text ≡ separator ++ (own ++ rest)) × Spells kind operand own × AreOperands (codes ", ") kinds operands rest

-- the name of a row, and behind a space its operands
abbrev pub IsRow : Form → List Operand → Text → Type 0
IsRow form operands text = (rest : Text) × (text ≡ name form ++ rest) × AreOperands (codes " ") (kinds form) operands rest

abbrev pub IsKnown : Line → Text → Type 0
IsKnown Blank text = (text ≡ []) ⊎ ((words : Text) × (text ≡ codes "//" ++ words))
IsKnown (Label false name) text = (is_name name ≡ true) × (text ≡ name ++ codes ":")
IsKnown (Label true name) text = (is_name name ≡ true) × (text ≡ codes ".globl " ++ name)
IsKnown (Row form operands) text = IsRow form operands text
IsKnown Unknown text = ⊥

-- the line of this text says that; where it says nothing it is unknown
abbrev pub IsLine : Line → Text → Type 0
IsLine Unknown text = (line : Line) → IsKnown line text → ⊥
IsLine line text = IsKnown line text

-- a text is one line
pub record IsOne (text : Text) : Type 0 where
  pub some : (line : Line) × IsLine line text
  pub only : (line other : Line) → IsLine line text → IsLine other text → line ≡ other
