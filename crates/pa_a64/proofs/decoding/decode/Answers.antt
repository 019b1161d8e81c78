-- The laws of the table, at this word.
use Rattle.std.proofs.Common.{◌≡◌, ℕ, Option, Some, None, IsNone, IsSome, IfSome, refl, sym, subst, ap, ◌∙◌}
use Rattle.pa_a64.specs.declared.instr.Instr.{Instr}
use Rattle.pa_a64.specs.Decoding.{decoded, decoded_by, encoded, InRange}
use Rattle.pa_a64.specs.Table.{Row}
use Rattle.pa_a64.proofs.RoundTrip.{none_by_row, none_of_rows, encoded-decoded, one_row}
use Rattle.pa_a64.proofs.decoding.decode.Goals as goal
use Rattle.pa_a64.proofs.decoding.decode.Goals.{After-by_part}

is_none : (o : Option Instr) → IsNone o → o ≡ None
is_none None h = refl
is_none (Some i) h = cc

if_some : (o : Option Instr) (w : ℕ) → o ≡ decoded w → IfSome o (λ i. InRange i × (encoded i ≡ w))
if_some None w e = tt
if_some (Some i) w e = encoded-decoded w i (sym e)

same_row : (q r : Row) (w : ℕ) (o p : Option Instr) → decoded_by q w ≡ o → decoded_by r w ≡ p → IsSome o → IsSome p → q ≡ r
same_row q r w (Some i) (Some j) e f g h = one_row q r w i j e f
same_row q r w None p e f g h = cc
same_row q r w (Some i) None e f g h = cc

result : (c : After-by_part) → c.by_part.result ≡ decoded c.args.word
result c = c.by_part.ensures ∙ ap decoded c.from.ensures

pub returns-clause-none : goal.returns-clause-none
returns-clause-none c = (
  λ n r. none_by_row r c.args.word (sym (result c) ∙ is_none c.by_part.result n),
  λ h. subst IsNone (sym (result c ∙ none_of_rows c.args.word h)) refl,
)

pub returns-clause-back : goal.returns-clause-back
returns-clause-back c = if_some c.by_part.result c.args.word (result c)

pub returns-clause-one_row : goal.returns-clause-one_row
returns-clause-one_row c q r g h = same_row q r c.args.word (decoded_by q c.args.word) (decoded_by r c.args.word) refl refl g h
