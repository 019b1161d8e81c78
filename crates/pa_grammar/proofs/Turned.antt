-- One turn of a list whose items stand one behind the other.
use Rattle.std.proofs.Common.{◌≡◌, ◌<◌, List, [], ◌∷◌, ◌++◌, length, map, Option, Bool, true, false, Ok, Err, refl, sym, ◌∙◌, ap, subst}
use Rattle.std.proofs.lemmas.List.{map-append}
use Rattle.pa_lex.specs.declared.token.Punct.TheVariants as p
use Rattle.pa_lex.specs.declared.token.Token.{Token}
use Rattle.pa_tree.specs.Cursors.{Cursor, head}
use Rattle.pa_grammar.specs.Commas.{behind_comma}
use Rattle.pa_grammar.specs.Parser.{Parser, Outcome, Stop, item_step, many}
use Rattle.pa_grammar.proofs.Eats.{Eats, Fewer, eats_left, eats_mark, item_step-shrinks}
use Rattle.pa_grammar.proofs.Iterated.{one_turn}
use Rattle.pa_grammar.proofs.Local.{Local}
use Rattle.pa_grammar.proofs.Meets.{IfRead}

-- what is read leaves fewer tokens
pub eats_is : {A : Type 0} {item : Parser A} → Eats item → (x : A) (c d : Cursor) → item c ≡ Ok (x, d) → length d.ahead < length c.ahead
eats_is e x c d i = subst (λ o. IfRead o (Fewer c)) i ((e.holds c).holds)

pub behind-eats : {A : Type 0} (item : Parser A) → Local item → Eats (behind_comma item)
behind-eats item l = eats_left (eats_mark p.Comma) (λ _. l)

-- From an outcome of the whole list: it goes on so behind one more item, or it stops there, or it ends.
module _ {A B : Type 0} (f : B → A) (more : Option Token → Bool) (item : Parser A) (e : Eats item) (o : Outcome (List A)) where
  shown : (all : List B) (x : B) → map f (all ++ x ∷ []) ≡ map f all ++ f x ∷ []
  shown all x = map-append f all (x ∷ [])

  one_more : (all : List A) (x : A) (c d : Cursor) → more (head c.ahead) ≡ true → item c ≡ Ok (x, d) → many more item all c ≡ many more item (all ++ x ∷ []) d
  one_more all x c d h i = one_turn (item_step more item) (item_step-shrinks more item e) all c ∙ rw h (rw i refl)

  pub list_more : (all every : List B) (x : B) (c d : Cursor) → many more item (map f all) c ≡ o → every ≡ all ++ x ∷ [] → more (head c.ahead) ≡ true → item c ≡ Ok (f x, d) → many more item (map f every) d ≡ o
  list_more all every x c d h k m i = ap (λ l. many more item l d) (ap (map f) k ∙ shown all x) ∙ sym (one_more (map f all) (f x) c d m i) ∙ h

  pub list_stops : (all : List B) (c : Cursor) → many more item (map f all) c ≡ o → more (head c.ahead) ≡ true → (s : Stop) → item c ≡ Err s → o ≡ Err s
  list_stops all c h m s i = sym h ∙ one_turn (item_step more item) (item_step-shrinks more item e) (map f all) c ∙ rw m (rw i refl)

  pub list_ends : (all : List B) (c : Cursor) → many more item (map f all) c ≡ o → more (head c.ahead) ≡ false → o ≡ Ok (map f all, c)
  list_ends all c h m = sym h ∙ one_turn (item_step more item) (item_step-shrinks more item e) (map f all) c ∙ rw m refl
