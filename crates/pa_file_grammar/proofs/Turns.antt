-- One turn of each list, that what is read lengthens nothing, and what follows a first part.
use Rattle.std.proofs.Common.{◌≡◌, ◌≤◌, ◌<◌, ◌-◌, ℕ, zero, suc, ap, arith, List, [], ◌∷◌, ◌++◌, length, Option, Some, None, Ok, Err, true, false, map, refl, ◌∙◌}
use Rattle.std.proofs.lemmas.List.{map-append}
use Rattle.pa_lex.specs.declared.token.Punct.{Punct}
use Rattle.pa_lex.specs.declared.token.Punct.TheVariants as p
use Rattle.pa_lex.specs.declared.token.Token.{Token}
use Rattle.pa_tree.specs.declared.declaration.Initializer.{Initializer}
use Rattle.pa_tree.specs.declared.file.FileItem.{FileItem}
use Rattle.pa_tree.specs.declared.file.Storage.{Storage}
use Rattle.pa_tree.specs.declared.stmt.BlockItem.{BlockItem}
use Rattle.pa_grammar.specs.declared.rule.Naming.TheVariants as naming
use Rattle.pa_tree.specs.Cursors.{Cursor, head, from_of}
use Rattle.pa_tree.specs.Exprs.{SpecsTree, DeclaratorTree}
use Rattle.pa_tree.specs.Files.{behind, behind_all, behind_item}
use Rattle.pa_tree.specs.Stmts.{InitializerTree, InitDeclaratorTree, OfInitDeclarator, BlockItemTree, FileItemTree, FileTree}
use Rattle.pa_grammar.specs.Parser.{Parser, Outcome, and_then, More, goes, iterate, look, mark, sees, item_step, many}
use Rattle.pa_tree.specs.declared.declaration.InitDeclarator.{InitDeclarator}
use Rattle.pa_tree.specs.Views.{initializer_tree, init_declarator_tree, block_item_tree, file_item_tree}
use Rattle.pa_grammar.specs.Reading.{parsers, not_brace}
use Rattle.pa_grammar.proofs.Meets.{IfRead}
use Rattle.pa_grammar.proofs.Iterated.{one_turn}
use Rattle.pa_grammar.proofs.Eats.{Fewer, NoMore, local_no_more, eats_mark, item_step-shrinks}
use Rattle.pa_file_grammar.specs.Reading as reading
use Rattle.pa_file_grammar.proofs.LocalReading.{more-shrinks, initializer-local, declared-shrinks, init_declarator-local, item-eats, stmt-local, stmt-eats, file-shrinks, file_item-eats}

met : {A : Type 0} (o : Outcome A) (Q : A → Cursor → Type 0) (x : A) (e : Cursor) → IfRead o Q → o ≡ Ok (x, e) → Q x e
met o Q x e h q = rw q at h

pub mark_shortens : (x : Punct) (c e : Cursor) (u : Unit {0}) → mark x c ≡ Ok (u, e) → length e.ahead < length c.ahead
mark_shortens x c e u q = met (mark x c) (Fewer c) u e (((eats_mark x).holds c).holds) q

pub initializer_turn : (names : List ℕ) (d : ℕ) (xs : List InitializerTree) (c : Cursor)
    → iterate (reading.more_step names (reading.initializer names d)) xs c ≡ and_then (reading.more_step names (reading.initializer names d) xs c) (goes (iterate (reading.more_step names (reading.initializer names d))))
initializer_turn names d xs c = one_turn (reading.more_step names (reading.initializer names d)) (more-shrinks names (reading.initializer names d) (initializer-local names d)) xs c

pub initializer_keeps : (names : List ℕ) (d : ℕ) (c e : Cursor) (x : InitializerTree) → reading.initializer names d c ≡ Ok (x, e) → length e.ahead ≤ length c.ahead
initializer_keeps names d c e x q = met (reading.initializer names d c) (NoMore c) x e ((local_no_more (initializer-local names d) c).holds) q

pub declared_turn : (storage : Option Storage) (names : List ℕ) (d : ℕ) (xs : List InitDeclaratorTree) (c : Cursor)
    → reading.declared storage d names xs c ≡ and_then (reading.declared_step storage d names xs c) (goes (reading.declared storage d names))
declared_turn storage names d xs c = one_turn (reading.declared_step storage d names) (declared-shrinks storage d names) xs c

pub init_declarator_keeps : (storage : Option Storage) (names : List ℕ) (d : ℕ) (c e : Cursor) (x : InitDeclaratorTree) → reading.init_declarator storage d names c ≡ Ok (x, e) → length e.ahead ≤ length c.ahead
init_declarator_keeps storage names d c e x q = met (reading.init_declarator storage d names c) (NoMore c) x e ((local_no_more (init_declarator-local storage d names) c).holds) q

pub behind_snoc : (storage : Option Storage) (xs : List InitDeclaratorTree) (x : InitDeclaratorTree) (names : List ℕ) → behind_all storage (xs ++ x ∷ []) names ≡ behind_all storage (x ∷ []) (behind_all storage xs names)
behind_snoc storage [] x names = refl
behind_snoc storage (OfInitDeclarator y i a z ∷ xs) x names = behind_snoc storage xs x (behind storage y names)

pub behind_none : (xs : List InitDeclaratorTree) (names : List ℕ) → behind_all None xs names ≡ names
behind_none [] names = refl
behind_none (OfInitDeclarator x i a z ∷ xs) names = behind_none xs names

pub items_turn : (names : List ℕ) (d : ℕ) (xs : List BlockItemTree) (c : Cursor)
    → many not_brace (reading.item names d (reading.stmt names d)) xs c ≡ and_then (item_step not_brace (reading.item names d (reading.stmt names d)) xs c) (goes (many not_brace (reading.item names d (reading.stmt names d))))
items_turn names d xs c = one_turn (item_step not_brace (reading.item names d (reading.stmt names d)))
    (item_step-shrinks not_brace (reading.item names d (reading.stmt names d)) (item-eats names d (reading.stmt names d) (stmt-local names d) (stmt-eats names d))) xs c

pub item_shortens : (names : List ℕ) (d : ℕ) (c e : Cursor) (x : BlockItemTree) → reading.item names d (reading.stmt names d) c ≡ Ok (x, e) → length e.ahead < length c.ahead
item_shortens names d c e x q = met (reading.item names d (reading.stmt names d) c) (Fewer c) x e (((item-eats names d (reading.stmt names d) (stmt-local names d) (stmt-eats names d)).holds c).holds) q

pub file_turn : (d : ℕ) (xs : FileTree) (c : Cursor) → iterate (reading.file_step d) xs c ≡ and_then (reading.file_step d xs c) (goes (iterate (reading.file_step d)))
file_turn d xs c = one_turn (reading.file_step d) (file-shrinks d) xs c

pub file_item_shortens : (d : ℕ) (names : List ℕ) (c e : Cursor) (x : FileItemTree) → reading.file_item d names c ≡ Ok (x, e) → length e.ahead < length c.ahead
file_item_shortens d names c e x q = met (reading.file_item d names c) (Fewer c) x e (((file_item-eats d names).holds c).holds) q

pub names_snoc : (d : ℕ) (xs : FileTree) (x : FileItemTree) (names : List ℕ) → reading.names_behind d (xs ++ x ∷ []) names ≡ behind_item x (reading.names_behind d xs names)
names_snoc d [] x names = refl
names_snoc d (y ∷ xs) x names = names_snoc d xs x (behind_item y names)

-- in a depth that isn't none
pub initializer_deeper : (names : List ℕ) (d : ℕ) (c : Cursor) → 0 < d → reading.initializer names d c ≡ look (reading.initializer_at names (d - 1) (reading.initializer names (d - 1))) c
unfolding reading.initializer
initializer_deeper names d c h = let e : d ≡ suc (d - 1) = omega arith in ap (λ n. reading.initializer names n c) e

pub stmt_deeper : (names : List ℕ) (d : ℕ) (c : Cursor) → 0 < d → reading.stmt names d c ≡ reading.stmt_level names (d - 1) (reading.stmt names (d - 1)) c
unfolding reading.stmt
stmt_deeper names d c h = let e : d ≡ suc (d - 1) = omega arith in ap (λ n. reading.stmt names n c) e

assoc_at : {A B C : Type 0} (o : Outcome A) (f : A → Parser B) (g : B → Parser C) → and_then o (λ a c. and_then (f a c) g) ≡ and_then (and_then o f) g
assoc_at (Ok q) f g = refl
assoc_at (Err s) f g = refl

-- the declarators, and then the rest
pub declared_first : (word : Option Storage) (d : ℕ) (names : List ℕ) (from : ℕ) (x : DeclaratorTree) (g : List InitDeclaratorTree → Parser FileItemTree) (c : Cursor)
    → and_then (reading.finished word d names from x c) (λ i e. and_then (reading.declared word d names (i ∷ []) e) g) ≡ and_then (reading.all_declared word d names from x c) g
declared_first word d names from x g c = assoc_at (reading.finished word d names from x c) (λ i. reading.declared word d names (i ∷ [])) g

look_more : (names : List ℕ) (d : ℕ) (xs : List InitializerTree) (x : InitializerTree) (c m e : Cursor) (u : Unit {0}) → sees p.Comma (head c.ahead) ≡ true → mark p.Comma c ≡ Ok (u, m) → sees p.RightBrace (head m.ahead) ≡ false → reading.initializer names d m ≡ Ok (x, e)
    → reading.more_step names (reading.initializer names d) xs c ≡ Ok (More (xs ++ x ∷ []), e)
look_more names d xs x c m e u comma marked brace read = rw (comma, marked, brace, read) refl

-- behind a comma, and no brace behind it
pub initializer_more : (names : List ℕ) (d : ℕ) (items : List Initializer) (item : Initializer) (c m e : Cursor) (u : Unit {0}) → sees p.Comma (head c.ahead) ≡ true → mark p.Comma c ≡ Ok (u, m) → sees p.RightBrace (head m.ahead) ≡ false
    → reading.initializer names d m ≡ Ok (initializer_tree item, e)
    → iterate (reading.more_step names (reading.initializer names d)) (map initializer_tree items) c ≡ iterate (reading.more_step names (reading.initializer names d)) (map initializer_tree (items ++ item ∷ [])) e
initializer_more names d items item c m e u comma marked brace read =
    initializer_turn names d (map initializer_tree items) c ∙ rw (look_more names d (map initializer_tree items) (initializer_tree item) c m e u comma marked brace read, map-append initializer_tree items (item ∷ [])) refl

declared_once : (word : Option Storage) (d : ℕ) (names : List ℕ) (xs : List InitDeclaratorTree) (x : InitDeclaratorTree) (c m e : Cursor) (u : Unit {0}) → sees p.Comma (head c.ahead) ≡ true → mark p.Comma c ≡ Ok (u, m)
    → reading.init_declarator word d (behind_all word xs names) m ≡ Ok (x, e) → reading.declared_step word d names xs c ≡ Ok (More (xs ++ x ∷ []), e)
declared_once word d names xs x c m e u comma marked read = rw (comma, marked, read) refl

-- behind a comma
pub declared_more : (word : Option Storage) (d : ℕ) (names : List ℕ) (items : List InitDeclarator) (item : InitDeclarator) (c m e : Cursor) (u : Unit {0}) → sees p.Comma (head c.ahead) ≡ true → mark p.Comma c ≡ Ok (u, m)
    → reading.init_declarator word d (behind_all word (map init_declarator_tree items) names) m ≡ Ok (init_declarator_tree item, e)
    → reading.declared word d names (map init_declarator_tree items) c ≡ reading.declared word d names (map init_declarator_tree (items ++ item ∷ [])) e
declared_more word d names items item c m e u comma marked read =
    declared_turn word names d (map init_declarator_tree items) c ∙ rw (declared_once word d names (map init_declarator_tree items) (init_declarator_tree item) c m e u comma marked read, map-append init_declarator_tree items (item ∷ [])) refl

-- the names behind the declarators and one more
pub behind_more : (word : Option Storage) (items : List InitDeclarator) (item : InitDeclarator) (names before behind : List ℕ) → before ≡ behind_all word (map init_declarator_tree items) names
    → behind ≡ behind_all word (init_declarator_tree item ∷ []) before → behind ≡ behind_all word (map init_declarator_tree (items ++ item ∷ [])) names
behind_more word items item names before behind e f =
    f ∙ ap (behind_all word (init_declarator_tree item ∷ [])) e ∙ rw (map-append init_declarator_tree items (item ∷ []), behind_snoc word (map init_declarator_tree items) (init_declarator_tree item) names) refl

item_once : (names : List ℕ) (d : ℕ) (xs : List BlockItemTree) (x : BlockItemTree) (c e : Cursor) → sees p.RightBrace (head c.ahead) ≡ false → reading.item names d (reading.stmt names d) c ≡ Ok (x, e)
    → item_step not_brace (reading.item names d (reading.stmt names d)) xs c ≡ Ok (More (xs ++ x ∷ []), e)
item_once names d xs x c e brace read = rw (brace, read) refl

-- where no brace ends the block
pub item_more : (names : List ℕ) (d : ℕ) (items : List BlockItem) (item : BlockItem) (c e : Cursor) → sees p.RightBrace (head c.ahead) ≡ false → reading.item names d (reading.stmt names d) c ≡ Ok (block_item_tree item, e)
    → many not_brace (reading.item names d (reading.stmt names d)) (map block_item_tree items) c ≡ many not_brace (reading.item names d (reading.stmt names d)) (map block_item_tree (items ++ item ∷ [])) e
item_more names d items item c e brace read =
    items_turn names d (map block_item_tree items) c ∙ rw (item_once names d (map block_item_tree items) (block_item_tree item) c e brace read, map-append block_item_tree items (item ∷ [])) refl

file_once_at : (d : ℕ) (xs : FileTree) (x : FileItemTree) (c e : Cursor) (h : Option Token) → h ≡ head c.ahead → reading.file_item d (reading.names_behind d xs []) c ≡ Ok (x, e) → reading.file_step_at d xs h c ≡ Ok (More (xs ++ x ∷ []), e)
unfolding reading.file_item
file_once_at d xs x c e None q read = let none = rw (← q) at read in cc
file_once_at d xs x c e (Some t) q read = rw read refl

file_once : (d : ℕ) (xs : FileTree) (x : FileItemTree) (c e : Cursor) → reading.file_item d (reading.names_behind d xs []) c ≡ Ok (x, e) → reading.file_step d xs c ≡ Ok (More (xs ++ x ∷ []), e)
file_once d xs x c e read = file_once_at d xs x c e (head c.ahead) refl read

-- one more item of a file
pub file_more : (d : ℕ) (items : List FileItem) (item : FileItem) (c e : Cursor) → reading.file_item d (reading.names_behind d (map file_item_tree items) []) c ≡ Ok (file_item_tree item, e)
    → iterate (reading.file_step d) (map file_item_tree items) c ≡ iterate (reading.file_step d) (map file_item_tree (items ++ item ∷ [])) e
file_more d items item c e read = file_turn d (map file_item_tree items) c ∙ rw (file_once d (map file_item_tree items) (file_item_tree item) c e read, map-append file_item_tree items (item ∷ [])) refl

-- the names behind the items and one more
pub names_more : (d : ℕ) (items : List FileItem) (item : FileItem) (before behind : List ℕ) → before ≡ reading.names_behind d (map file_item_tree items) [] → behind ≡ behind_item (file_item_tree item) before
    → behind ≡ reading.names_behind d (map file_item_tree (items ++ item ∷ [])) []
names_more d items item before behind e f =
    f ∙ ap (behind_item (file_item_tree item)) e ∙ rw (map-append file_item_tree items (item ∷ []), names_snoc d (map file_item_tree items) (file_item_tree item) []) refl

-- a declaration or a definition behind its first declarator
pub external_behind : (names : List ℕ) (d from : ℕ) (word : Option Storage) (s : SpecsTree) (x : DeclaratorTree) (c m n o : Cursor) → reading.stored d c ≡ Ok (word, m) → (parsers names d).specs true m ≡ Ok (s, n)
    → sees p.Semicolon (head n.ahead) ≡ false → (parsers names d).declarator naming.Named n ≡ Ok (x, o) → reading.external d names from c ≡ look (reading.body_at d names word s from (from_of (head n.ahead)) x) o
external_behind names d from word s x c m n o stored specs semicolon declarator = rw (stored, specs, semicolon, declarator) refl

-- an initializer that has no braces, and one that has
pub initializer_value : (names : List ℕ) (d : ℕ) (c : Cursor) → sees p.LeftBrace (head c.ahead) ≡ false → reading.initializer names d c ≡ reading.value names d (from_of (head c.ahead)) c
unfolding reading.initializer
initializer_value names zero c e = rw e refl
initializer_value names (suc d) c e = rw e refl

pub initializer_braced : (names : List ℕ) (d : ℕ) (c : Cursor) → sees p.LeftBrace (head c.ahead) ≡ true → 0 < d → reading.initializer names d c ≡ reading.braced names (d - 1) (reading.initializer names (d - 1)) (from_of (head c.ahead)) c
initializer_braced names d c e h = initializer_deeper names d c h ∙ rw e refl
