-- What the grammar has is read: statements, declarations and files.
use Rattle.std.proofs.Common.{◌≡◌, ◌≢◌, ◌≤◌, ℕ, zero, suc, max, List, [], ◌∷◌, ◌++◌, Option, Some, None, Ok, Bool, true, false, not, ◌&&◌, ◌||◌, refl, sym, ◌∙◌, ap, arith, subst, append_assoc, append-nil, inl, inr}
use Rattle.pa_lex.specs.declared.token.Kind.{Kind}
use Rattle.pa_lex.specs.declared.token.Kind.TheVariants as kind
use Rattle.pa_lex.specs.declared.token.Keyword.{Keyword}
use Rattle.pa_lex.specs.declared.token.Keyword.TheVariants as w
use Rattle.pa_lex.specs.declared.token.Punct.{Punct}
use Rattle.pa_lex.specs.declared.token.Punct.TheVariants as p
use Rattle.pa_lex.specs.declared.token.Token.{Token}
use Rattle.pa_tree.specs.declared.file.Storage.{Storage}
use Rattle.pa_tree.specs.declared.file.Storage.TheVariants as storage
use Rattle.pa_grammar.specs.declared.rule.Naming.TheVariants as naming
use Rattle.pa_tree.specs.Cursors.{Cursor, start, head, begin, from_of, Takes, Lies, Mark, Word}
use Rattle.pa_tree.specs.Exprs.{ExprTree, SpecsTree, DeclaratorTree, Named, Absent, Pointer, Grouped, Array, Function}
use Rattle.pa_tree.specs.Stmts.{InitializerTree, Value, Braced, InitializerTrees, NoInitializers, ConsInitializer, InitDeclaratorTree, OfInitDeclarator, BlockDeclarationTree, OfBlockDeclaration, ForStartTree, Declares, Evaluates, StmtTree, Compound, Expression, If, IfElse, While, DoWhile, For, Switch, Case, Default, Break, Continue, Return, BlockItemTree, DeclarationItem, StatementItem, BlockItemTrees, NoBlockItems, ConsBlockItem, OfDeclaration, OfFunctionDefinition, FileItemTree, Included, Declared, Defined, FileTree}
use Rattle.pa_tree.specs.Heights.{expr_height, specs_height, declarator_height, initializer_height, initializers_height, maybe_initializer_height, init_declarator_height, init_declarators_height, block_declaration_height, option_expr_height, for_start_height, stmt_height, block_item_height, block_items_height, file_item_height, file_height}
use Rattle.pa_tree.specs.Spells.{LastComma, has_name, ExprSpells, SpecsSpell, DeclaratorSpells}
use Rattle.pa_tree.specs.Files.{is_open, is_compound, MaybeExprSpells, InitializerSpells, CommaInitializers, MaybeInitializerSpells, behind, behind_all, InitDeclaratorSpells, CommaInitDeclarators, InitDeclaratorsSpell, BlockDeclarationSpells, ForStartSpells, StmtSpells, BlockItemSpells, BlockItemsSpell, StorageSpells, storage_word, FileItemSpells, behind_item, FileItemsSpell, Spells}
use Rattle.pa_tree.specs.Views.{initializers_of, block_items_of}
use Rattle.pa_grammar.specs.Tokens.{is_word, same_mark, same_word}
use Rattle.pa_grammar.specs.Parser.{Parser, Outcome, and_then, ◌>>=◌, ◌>>◌, pure, look, after, ended, sees, mark, Done, More, goes, iterate, many}
use Rattle.pa_grammar.specs.Reading.{parsers, begins_type, begins_type_by, begins_expr_by, not_brace, is_some}
use Rattle.pa_grammar.proofs.Tokens.{same_word-self, same_word-true}
use Rattle.pa_grammar.proofs.Iterated.{Shrinks, one_turn}
use Rattle.pa_grammar.proofs.Chains.{Chain}
use Rattle.pa_grammar.proofs.Local.{Local}
use Rattle.pa_grammar.proofs.Eats.{Eats, item_step-shrinks}
use Rattle.pa_grammar.proofs.Levels.{height_pos, Quiet, quiet_mark, quiet_comma}
use Rattle.pa_grammar.proofs.Heads.{begins_expr, expr_head, no_type, not_begun, specs_type}
use Rattle.pa_grammar.proofs.CompleteSpecs.{ends_specs, ends_declarator, and_false, name_ends, type_no_mark}
use Rattle.pa_grammar.proofs.CompleteDeclarators.{complete}
use Rattle.pa_grammar.proofs.One.{same_answer}
use Rattle.pa_grammar.proofs.Steps.{bind_is, then_is, look_is, look_at_is, after_is, took, taken, roomy, marked, sees_is, sees_not, from_is, close, if_true, if_false, many_is}
use Rattle.pa_file_grammar.specs.Reading as reading
use Rattle.pa_file_grammar.proofs.LocalReading.{more-shrinks, initializer-local, declared-shrinks, item-eats, stmt-local, stmt-eats, file-shrinks}

word_is : (x : Keyword) (c d : Cursor) → Word x c d → reading.word x c ≡ Ok (tt, d)
word_is x c d h = look_is (reading.word_at x) c d h (Ok (tt, d)) (if_true (same_word x x) _ _ c (Ok (tt, d)) (same_word-self x) (after_is h.takes))

worded : {A : Type 0} (x : Keyword) (q : Parser A) (c d : Cursor) (o : Outcome A) → Word x c d → q d ≡ o → (reading.word x >> q) c ≡ o
worded x q c d o h e = then_is (reading.word x) q c d tt o (word_is x c d h) e

word_seen : (x : Keyword) (c d : Cursor) → Word x c d → reading.reads_word x (head c.ahead) ≡ true
word_seen x c d h = rw (h.takes).ahead (same_word-self x)

abbrev initializers_list : InitializerTrees → List InitializerTree
initializers_list NoInitializers = []
initializers_list (ConsInitializer x xs) = x ∷ initializers_list xs

initializers_back : (xs : InitializerTrees) → initializers_of (initializers_list xs) ≡ xs
initializers_back NoInitializers = refl
initializers_back (ConsInitializer x xs) = ap (ConsInitializer x) (initializers_back xs)

abbrev block_items_list : BlockItemTrees → List BlockItemTree
block_items_list NoBlockItems = []
block_items_list (ConsBlockItem x xs) = x ∷ block_items_list xs

block_items_back : (xs : BlockItemTrees) → block_items_of (block_items_list xs) ≡ xs
block_items_back NoBlockItems = refl
block_items_back (ConsBlockItem x xs) = ap (ConsBlockItem x) (block_items_back xs)

initializer_pos : (i : InitializerTree) → 1 ≤ initializer_height i
initializer_pos (Value v a z) = height_pos v
initializer_pos (Braced items a z) = omega arith

last_quiet : (q r e : Cursor) → LastComma q r → Mark p.RightBrace r e → Quiet 1 q
last_quiet q r e (inl same) k = rw same (quiet_mark p.RightBrace 1 r e refl k)
last_quiet q r e (inr c) k = quiet_comma 1 q r (omega arith) c

module _ (names : List ℕ) where
  rest_quiet : (xs : InitializerTrees) (c q : Cursor) → CommaInitializers names xs c q → Quiet 1 q → Quiet 1 c
  rest_quiet NoInitializers c q h e = rw h e
  rest_quiet (ConsInitializer x xs) c q h e = quiet_comma 1 c h.0 (omega arith) h.2

  not_closed : (x : InitializerTree) (c e : Cursor) → InitializerSpells names x c e → sees p.RightBrace (head c.ahead) ≡ false
  not_closed (Value v a z) c e (h, lies) = not_begun names p.RightBrace refl v 1 c e h
  not_closed (Braced items a z) c e h = rw ((h.3).takes).ahead refl

  module _ (item : Parser InitializerTree) (shrinks : Shrinks (reading.more_step names item)) (d : ℕ) (g : (i : InitializerTree) (c e : Cursor) → InitializerSpells names i c e → initializer_height i ≤ d → Quiet 1 e → item c ≡ Ok (i, e)) where
    more_stops : (all : List InitializerTree) (r e : Cursor) → Mark p.RightBrace r e → reading.more_step names item all r ≡ Ok (Done all, r)
    more_stops all r e k = if_false (sees p.Comma (head r.ahead)) _ _ r (Ok (Done all, r)) (sees_not p.Comma p.RightBrace r e k refl) refl

    more_last : (all : List InitializerTree) (q r e : Cursor) → Mark p.Comma q r → Mark p.RightBrace r e → reading.more_step names item all q ≡ Ok (Done all, r)
    more_last all q r e b k = if_true (sees p.Comma (head q.ahead)) _ _ q (Ok (Done all, r)) (sees_is p.Comma q r b)
        (marked p.Comma (look (reading.item_behind names item all)) q r (Ok (Done all, r)) b (if_true (sees p.RightBrace (head r.ahead)) _ _ r (Ok (Done all, r)) (sees_is p.RightBrace r e k) refl))

    more_goes : (all : List InitializerTree) (x : InitializerTree) (c m n : Cursor) → Mark p.Comma c m → InitializerSpells names x m n → initializer_height x ≤ d → Quiet 1 n → reading.more_step names item all c ≡ Ok (More (all ++ x ∷ []), n)
    more_goes all x c m n b h l q = if_true (sees p.Comma (head c.ahead)) _ _ c (Ok (More (all ++ x ∷ []), n)) (sees_is p.Comma c m b)
        (marked p.Comma (look (reading.item_behind names item all)) c m (Ok (More (all ++ x ∷ []), n)) b
        (if_false (sees p.RightBrace (head m.ahead)) _ _ m (Ok (More (all ++ x ∷ []), n)) (not_closed x m n h) (bind_is item (λ y. pure (More (all ++ y ∷ []))) m n x (Ok (More (all ++ x ∷ []), n)) (g x m n h l q) refl)))

    items_is : (xs : InitializerTrees) (all : List InitializerTree) (c q r e : Cursor) → CommaInitializers names xs c q → initializers_height xs ≤ d → LastComma q r → Mark p.RightBrace r e → iterate (reading.more_step names item) all c ≡ Ok (all ++ initializers_list xs, r)
    items_is NoInitializers all c q r e h l (inl same) k = rw (h ∙ same) (one_turn (reading.more_step names item) shrinks all r ∙ ap (λ x. and_then x (goes (iterate (reading.more_step names item)))) (more_stops all r e k) ∙ ap (λ x. Ok (x, r)) (sym (append-nil all)))
    items_is NoInitializers all c q r e h l (inr b) k = rw h (one_turn (reading.more_step names item) shrinks all q ∙ ap (λ x. and_then x (goes (iterate (reading.more_step names item)))) (more_last all q r e b k) ∙ ap (λ x. Ok (x, r)) (sym (append-nil all)))
    items_is (ConsInitializer x xs) all c q r e (m, n, b, h, t) l k j = one_turn (reading.more_step names item) shrinks all c
        ∙ ap (λ y. and_then y (goes (iterate (reading.more_step names item)))) (more_goes all x c m n b h (omega (arith, l)) (rest_quiet xs n q t (last_quiet q r e k j)))
        ∙ items_is xs (all ++ x ∷ []) n q r e t (omega (arith, l)) k j ∙ ap (λ y. Ok (y, r)) (append_assoc all (x ∷ []) (initializers_list xs))

    braced_is : (xs : InitializerTrees) (a z : ℕ) (c e : Cursor) → InitializerSpells names (Braced xs a z) c e → initializers_height xs ≤ d → reading.braced names d item (begin c) c ≡ Ok (Braced xs a z, e)
    braced_is NoInitializers a z c e h l = absurd h.4
    braced_is (ConsInitializer x xs) a z c e (m, n, o, k, (i, h, t), b, j, lies) l = let one = initializer_pos x in
        roomy 1 d (mark p.LeftBrace >> item >>= (λ y. iterate (reading.more_step names item) (y ∷ []) >>= (λ ys. mark p.RightBrace >> ended >>= (λ u. pure (Braced (initializers_of ys) (begin c) u))))) c (Ok (Braced (ConsInitializer x xs) a z, e)) (omega (arith, l, one))
        (marked p.LeftBrace (item >>= (λ y. iterate (reading.more_step names item) (y ∷ []) >>= (λ ys. mark p.RightBrace >> ended >>= (λ u. pure (Braced (initializers_of ys) (begin c) u))))) c m (Ok (Braced (ConsInitializer x xs) a z, e)) k
        (bind_is item (λ y. iterate (reading.more_step names item) (y ∷ []) >>= (λ ys. mark p.RightBrace >> ended >>= (λ u. pure (Braced (initializers_of ys) (begin c) u)))) m i x (Ok (Braced (ConsInitializer x xs) a z, e)) (g x m i h (omega (arith, l)) (rest_quiet xs i n t (last_quiet n o e b j)))
        (bind_is (iterate (reading.more_step names item) (x ∷ [])) (λ ys. mark p.RightBrace >> ended >>= (λ u. pure (Braced (initializers_of ys) (begin c) u))) i o (x ∷ initializers_list xs) (Ok (Braced (ConsInitializer x xs) a z, e)) (items_is xs (x ∷ []) i n o e t (omega (arith, l)) b j)
        (rw (initializers_back xs) (marked p.RightBrace (ended >>= (λ u. pure (Braced (ConsInitializer x xs) (begin c) u))) o e (Ok (Braced (ConsInitializer x xs) a z, e)) j (close (Braced (ConsInitializer x xs)) (begin c) a z e (sym lies.from_is) lies.to_is))))))

  value_is : (d : ℕ) (v : ExprTree) (a z : ℕ) (c e : Cursor) → InitializerSpells names (Value v a z) c e → expr_height v ≤ d → Quiet 1 e → reading.value names d (begin c) c ≡ Ok (Value v a z, e)
  value_is d v a z c e (h, lies) l q = bind_is ((parsers names d).expr 1) (λ x. ended >>= (λ u. pure (Value x (begin c) u))) c e v (Ok (Value v a z, e)) (((complete names d).core).expr v 1 c e (omega arith) h l q) (close (Value v) (begin c) a z e (sym lies.from_is) lies.to_is)

  initializer_is : (d : ℕ) (i : InitializerTree) (c e : Cursor) → InitializerSpells names i c e → initializer_height i ≤ d → Quiet 1 e → reading.initializer names d c ≡ Ok (i, e)
  unfolding reading.initializer
  initializer_is zero i c e h l q = let one = initializer_pos i in absurd (omega (arith, l, one))
  initializer_is (suc d) (Value v a z) c e h l q = if_false (sees p.LeftBrace (head c.ahead)) _ _ c (Ok (Value v a z, e)) (not_begun names p.LeftBrace refl v 1 c e h.0) (value_is (suc d) v a z c e h l q)
  initializer_is (suc d) (Braced xs a z) c e h l q = if_true (sees p.LeftBrace (head c.ahead)) _ _ c (Ok (Braced xs a z, e)) (sees_is p.LeftBrace c h.0 h.3)
      (braced_is (reading.initializer names d) (more-shrinks names (reading.initializer names d) (initializer-local names d)) d (initializer_is d) xs a z c e h (omega (arith, l)))

  -- where a declarator with its initializer ends
  record EndsInit (c : Cursor) : Type 0 where
    quiet : Quiet 1 c
    no_value : sees p.Assign (head c.ahead) ≡ false
    ends : ends_declarator (head c.ahead) ≡ true

  init_at : (x : Punct) (c d : Cursor) → Mark x c d → Quiet 1 c → same_mark x p.Assign ≡ false → (same_mark x p.Star || (same_mark x p.LeftParenthesis || same_mark x p.LeftBracket)) ≡ false → EndsInit c
  init_at x c d k q n m = record { quiet = q; no_value = sees_not p.Assign x c d k n; ends = rw (k.takes).ahead (ap not m) }

  at_comma : (c d : Cursor) → Mark p.Comma c d → EndsInit c
  at_comma c d k = init_at p.Comma c d k (quiet_comma 1 c d (omega arith) k) refl refl

  at_semicolon : (c d : Cursor) → Mark p.Semicolon c d → EndsInit c
  at_semicolon c d k = init_at p.Semicolon c d k (quiet_mark p.Semicolon 1 c d refl k) refl refl

  assigned_is : (d : ℕ) (i : Option InitializerTree) (c e : Cursor) → MaybeInitializerSpells names i c e → maybe_initializer_height i ≤ d → EndsInit e → reading.assigned names d c ≡ Ok (i, e)
  unfolding reading.assigned
  assigned_is d None c e h l q = rw h (if_false (sees p.Assign (head e.ahead)) _ _ e (Ok (None, e)) q.no_value refl)
  assigned_is d (Some i) c e (m, k, h) l q = if_true (sees p.Assign (head c.ahead)) _ _ c (Ok (Some i, e)) (sees_is p.Assign c m k)
      (marked p.Assign (reading.initializer names d >>= (λ x. pure (Some x))) c m (Ok (Some i, e)) k (bind_is (reading.initializer names d) (λ x. pure (Some x)) m e i (Ok (Some i, e)) (initializer_is d i m e h l q.quiet) refl))

  -- a declarator ends before its initializer, too
  ends_here : (i : Option InitializerTree) (c e : Cursor) → MaybeInitializerSpells names i c e → EndsInit e → ends_declarator (head c.ahead) ≡ true
  ends_here None c e h q = rw h q.ends
  ends_here (Some i) c e (m, k, h) q = rw (k.takes).ahead refl

pub behind_append : (word : Option Storage) (xs : List InitDeclaratorTree) (x : InitDeclaratorTree) (names : List ℕ) → behind_all word (xs ++ x ∷ []) names ≡ behind_all word (x ∷ []) (behind_all word xs names)
behind_append word [] x names = refl
behind_append word (OfInitDeclarator y i a z ∷ ys) x names = behind_append word ys x (behind word y names)

module _ (word : Option Storage) (d : ℕ) where
  finished_is : (names : List ℕ) (x : DeclaratorTree) (i : Option InitializerTree) (from a z : ℕ) (c m e : Cursor) → from ≡ a → MaybeInitializerSpells (behind word x names) i m e → maybe_initializer_height i ≤ d → EndsInit (behind word x names) e → z ≡ e.ended → reading.finished word d names from x m ≡ Ok (OfInitDeclarator x i a z, e)
  finished_is names x i from a z c m e f h l q u = bind_is (reading.assigned (behind word x names) d) (λ y. ended >>= (λ v. pure (OfInitDeclarator x y from v))) m e i (Ok (OfInitDeclarator x i a z, e)) (assigned_is (behind word x names) d i m e h l q) (close (OfInitDeclarator x i) from a z e f u)

  init_declarator_is : (names : List ℕ) (x : InitDeclaratorTree) (c e : Cursor) → InitDeclaratorSpells word names x c e → init_declarator_height x ≤ d → ((n : List ℕ) → EndsInit n e) → reading.init_declarator word d names c ≡ Ok (x, e)
  unfolding reading.init_declarator
  init_declarator_is names (OfInitDeclarator x i a z) c e (m, n, h, j, lies) l q = bind_is ((parsers names d).declarator naming.Named) (reading.finished word d names (begin c)) c m x (Ok (OfInitDeclarator x i a z, e))
      ((complete names d).declarator x naming.Named c m n h (omega (arith, l)) (ends_here (behind word x names) i m e j (q (behind word x names))))
      (finished_is names x i (begin c) a z c m e (sym lies.from_is) j (omega (arith, l)) (q (behind word x names)) lies.to_is)

  rest_ends : (names : List ℕ) (xs : List InitDeclaratorTree) (c e : Cursor) → CommaInitDeclarators word names xs c e → ((n : List ℕ) → EndsInit n e) → (n : List ℕ) → EndsInit n c
  rest_ends names [] c e h q n = rw h (q n)
  rest_ends names (x ∷ xs) c e h q n = at_comma n c h.0 h.2

  declared_stops : (names : List ℕ) (all : List InitDeclaratorTree) (c z : Cursor) → Mark p.Semicolon c z → reading.declared_step word d names all c ≡ Ok (Done all, c)
  declared_stops names all c z k = if_false (sees p.Comma (head c.ahead)) _ _ c (Ok (Done all, c)) (sees_not p.Comma p.Semicolon c z k refl) refl

  declared_goes : (names : List ℕ) (all : List InitDeclaratorTree) (x : InitDeclaratorTree) (c m n : Cursor) → Mark p.Comma c m → InitDeclaratorSpells word (behind_all word all names) x m n → init_declarator_height x ≤ d → ((i : List ℕ) → EndsInit i n) → reading.declared_step word d names all c ≡ Ok (More (all ++ x ∷ []), n)
  declared_goes names all x c m n b h l q = if_true (sees p.Comma (head c.ahead)) _ _ c (Ok (More (all ++ x ∷ []), n)) (sees_is p.Comma c m b)
      (marked p.Comma (reading.init_declarator word d (behind_all word all names) >>= (λ y. pure (More (all ++ y ∷ [])))) c m (Ok (More (all ++ x ∷ []), n)) b
      (bind_is (reading.init_declarator word d (behind_all word all names)) (λ y. pure (More (all ++ y ∷ []))) m n x (Ok (More (all ++ x ∷ []), n)) (init_declarator_is (behind_all word all names) x m n h l q) refl))

  declared_is : (names : List ℕ) (xs all : List InitDeclaratorTree) (c e z : Cursor) → CommaInitDeclarators word (behind_all word all names) xs c e → init_declarators_height xs ≤ d → Mark p.Semicolon e z → reading.declared word d names all c ≡ Ok (all ++ xs, e)
  declared_is names [] all c e z h l k = rw h (one_turn (reading.declared_step word d names) (declared-shrinks word d names) all e ∙ ap (λ x. and_then x (goes (iterate (reading.declared_step word d names)))) (declared_stops names all e z k) ∙ ap (λ x. Ok (x, e)) (sym (append-nil all)))
  declared_is names (x ∷ xs) all c e z (m, n, b, h, t) l k = one_turn (reading.declared_step word d names) (declared-shrinks word d names) all c
      ∙ ap (λ y. and_then y (goes (iterate (reading.declared_step word d names)))) (declared_goes names all x c m n b h (omega (arith, l)) (rest_ends (behind_all word (x ∷ []) (behind_all word all names)) xs n e t (λ i. at_semicolon i e z k)))
      ∙ declared_is names xs (all ++ x ∷ []) n e z (subst (λ i. CommaInitDeclarators word i xs n e) (sym (behind_append word all x names)) t) (omega (arith, l)) k ∙ ap (λ y. Ok (y, e)) (append_assoc all (x ∷ []) xs)

type_no_else : (names : List ℕ) (h : Option Token) → begins_type names h ≡ true → reading.reads_word w.Else h ≡ false
type_no_else names None e = refl
type_no_else names (Some t) e = by_kind t.kind e
  where
    by_kind : (k : Kind) → begins_type_by names k ≡ true → is_word w.Else k ≡ false
    by_kind (kind.Keyword w.Else) q = cc
    by_kind (kind.Keyword _) q = refl
    by_kind (kind.Name n) q = refl
    by_kind (kind.Punct x) q = refl
    by_kind (kind.Integer value decimal unsigned long) q = refl
    by_kind (kind.Character value) q = refl
    by_kind (kind.Text bytes) q = refl
    by_kind (kind.Include x) q = refl

expr_no_else : (names : List ℕ) (h : Option Token) → begins_expr names h ≡ true → reading.reads_word w.Else h ≡ false
expr_no_else names None e = refl
expr_no_else names (Some t) e = by_kind t.kind e
  where
    by_kind : (k : Kind) → begins_expr_by names k ≡ true → is_word w.Else k ≡ false
    by_kind (kind.Keyword x) q = rw (same_word-true x w.Sizeof q) refl
    by_kind (kind.Name n) q = refl
    by_kind (kind.Punct x) q = refl
    by_kind (kind.Integer value decimal unsigned long) q = refl
    by_kind (kind.Character value) q = refl
    by_kind (kind.Text bytes) q = refl
    by_kind (kind.Include x) q = refl

abbrev NoElse : Cursor → Type 0
NoElse c = reading.reads_word w.Else (head c.ahead) ≡ false

stmt_pos : (s : StmtTree) → 1 ≤ stmt_height s
stmt_pos (Compound items a z) = omega arith
stmt_pos (Expression value a z) = omega arith
stmt_pos (If test body a z) = omega arith
stmt_pos (IfElse test when_true when_false a z) = omega arith
stmt_pos (While test body a z) = omega arith
stmt_pos (DoWhile body test a z) = omega arith
stmt_pos (For start test step body a z) = omega arith
stmt_pos (Switch value body a z) = omega arith
stmt_pos (Case value body a z) = omega arith
stmt_pos (Default body a z) = omega arith
stmt_pos (Break a z) = omega arith
stmt_pos (Continue a z) = omega arith
stmt_pos (Return value a z) = omega arith

-- a name takes a level
named_pos : (x : DeclaratorTree) → has_name x ≡ true → 1 ≤ declarator_height x
named_pos (Named name a z) h = omega arith
named_pos (Absent a z) h = absurd (cc)
named_pos (Pointer qualifiers of a z) h = omega arith
named_pos (Grouped inner a z) h = omega arith
named_pos (Array of length a z) h = omega arith
named_pos (Function of parameters a z) h = omega arith

module _ (names : List ℕ) where
  block_type : (b : BlockDeclarationTree) (c e : Cursor) → BlockDeclarationSpells names b c e → begins_type names (head c.ahead) ≡ true
  block_type (OfBlockDeclaration specs ds a z) c e h = specs_type names false specs c h.0 h.2

  block_declaration_is : (d : ℕ) (b : BlockDeclarationTree) (c e : Cursor) → BlockDeclarationSpells names b c e → block_declaration_height b ≤ d → reading.block_declaration names d c ≡ Ok (b, e)
  unfolding reading.block_declaration
  block_declaration_is d (OfBlockDeclaration specs [] a z) c e h l = absurd (h.3 refl)
  block_declaration_is d (OfBlockDeclaration specs (OfInitDeclarator x v a2 z2 ∷ ds) a z) c e (m, n, s, some, (i, (j, y, t, u, more), r), k, lies) l =
      let first : InitDeclaratorTree = OfInitDeclarator x v a2 z2 in
      let one = named_pos x y in
      roomy 1 d ((parsers names d).specs false >>= (λ q. reading.init_declarator None d names >>= (λ f. reading.declared None d names (f ∷ []) >>= (λ xs. mark p.Semicolon >> ended >>= (λ o. pure (OfBlockDeclaration q xs (begin c) o)))))) c (Ok (OfBlockDeclaration specs (first ∷ ds) a z, e)) (omega (arith, l, one))
      (bind_is ((parsers names d).specs false) (λ q. reading.init_declarator None d names >>= (λ f. reading.declared None d names (f ∷ []) >>= (λ xs. mark p.Semicolon >> ended >>= (λ o. pure (OfBlockDeclaration q xs (begin c) o))))) c m specs (Ok (OfBlockDeclaration specs (first ∷ ds) a z, e))
      ((complete names d).specs specs false c m s (omega (arith, l)) (name_ends names x 0 m j y t))
      (bind_is (reading.init_declarator None d names) (λ f. reading.declared None d names (f ∷ []) >>= (λ xs. mark p.Semicolon >> ended >>= (λ o. pure (OfBlockDeclaration specs xs (begin c) o)))) m i first (Ok (OfBlockDeclaration specs (first ∷ ds) a z, e))
      (init_declarator_is None d names first m i (j, y, t, u, more) (omega (arith, l)) (rest_ends None d (behind_all None (first ∷ []) names) ds i n r (λ q. at_semicolon q n e k)))
      (bind_is (reading.declared None d names (first ∷ [])) (λ xs. mark p.Semicolon >> ended >>= (λ o. pure (OfBlockDeclaration specs xs (begin c) o))) i n (first ∷ ds) (Ok (OfBlockDeclaration specs (first ∷ ds) a z, e))
      (declared_is None d names ds (first ∷ []) i n e r (omega (arith, l)) k)
      (marked p.Semicolon (ended >>= (λ o. pure (OfBlockDeclaration specs (first ∷ ds) (begin c) o))) n e (Ok (OfBlockDeclaration specs (first ∷ ds) a z, e)) k (close (OfBlockDeclaration specs (first ∷ ds)) (begin c) a z e (sym lies.from_is) lies.to_is)))))

  -- no statement begins with `else`, with `}` or as a type does
  record Starts (c : Cursor) : Type 0 where
    no_else : NoElse c
    no_type : begins_type names (head c.ahead) ≡ false
    no_brace : sees p.RightBrace (head c.ahead) ≡ false

  maybe_starts : (v : Option ExprTree) (c m d : Cursor) → MaybeExprSpells names v c m → Mark p.Semicolon m d → Starts c
  maybe_starts None c m d h k = rw h (record { no_else = rw (k.takes).ahead refl; no_type = rw (k.takes).ahead refl; no_brace = sees_not p.RightBrace p.Semicolon m d k refl })
  maybe_starts (Some v) c m d h k = record { no_else = expr_no_else names (head c.ahead) (expr_head names v 0 c m h); no_type = no_type names v 0 c m h; no_brace = not_begun names p.RightBrace refl v 0 c m h }

  starts : (s : StmtTree) (c e : Cursor) → StmtSpells names s c e → Starts c
  starts (Compound items a z) c e h = record { no_else = rw ((h.2).takes).ahead refl; no_type = rw ((h.2).takes).ahead refl; no_brace = rw ((h.2).takes).ahead refl }
  starts (Expression value a z) c e h = maybe_starts value c h.0 e h.1 h.2
  starts (If test body a z) c e h = record { no_else = rw ((h.4).takes).ahead refl; no_type = rw ((h.4).takes).ahead refl; no_brace = rw ((h.4).takes).ahead refl }
  starts (IfElse test x y a z) c e h = record { no_else = rw ((h.6).takes).ahead refl; no_type = rw ((h.6).takes).ahead refl; no_brace = rw ((h.6).takes).ahead refl }
  starts (While test body a z) c e h = record { no_else = rw ((h.4).takes).ahead refl; no_type = rw ((h.4).takes).ahead refl; no_brace = rw ((h.4).takes).ahead refl }
  starts (DoWhile body test a z) c e h = record { no_else = rw ((h.6).takes).ahead refl; no_type = rw ((h.6).takes).ahead refl; no_brace = rw ((h.6).takes).ahead refl }
  starts (For begins test step body a z) c e h = record { no_else = rw ((h.7).takes).ahead refl; no_type = rw ((h.7).takes).ahead refl; no_brace = rw ((h.7).takes).ahead refl }
  starts (Switch value body a z) c e h = record { no_else = rw ((h.4).takes).ahead refl; no_type = rw ((h.4).takes).ahead refl; no_brace = rw ((h.4).takes).ahead refl }
  starts (Case value body a z) c e h = record { no_else = rw ((h.3).takes).ahead refl; no_type = rw ((h.3).takes).ahead refl; no_brace = rw ((h.3).takes).ahead refl }
  starts (Default body a z) c e h = record { no_else = rw ((h.2).takes).ahead refl; no_type = rw ((h.2).takes).ahead refl; no_brace = rw ((h.2).takes).ahead refl }
  starts (Break a z) c e h = record { no_else = rw ((h.1).takes).ahead refl; no_type = rw ((h.1).takes).ahead refl; no_brace = rw ((h.1).takes).ahead refl }
  starts (Continue a z) c e h = record { no_else = rw ((h.1).takes).ahead refl; no_type = rw ((h.1).takes).ahead refl; no_brace = rw ((h.1).takes).ahead refl }
  starts (Return value a z) c e h = record { no_else = rw ((h.2).takes).ahead refl; no_type = rw ((h.2).takes).ahead refl; no_brace = rw ((h.2).takes).ahead refl }

  by_expr : (d : ℕ) (below : Parser StmtTree) (t : Token) (k : Kind) → begins_expr_by names k ≡ true → reading.by_kind names d below t k ≡ reading.expression names d below t.from
  by_expr d below t (kind.Name n) e = refl
  by_expr d below t (kind.Integer value decimal unsigned long) e = refl
  by_expr d below t (kind.Character value) e = refl
  by_expr d below t (kind.Text bytes) e = refl
  by_expr d below t (kind.Punct p.LeftBrace) e = cc
  by_expr d below t (kind.Punct _) e = refl
  by_expr d below t (kind.Keyword x) e = rw (same_word-true x w.Sizeof e) refl
  by_expr d below t (kind.Include x) e = cc

  -- statements of a depth of suc d, over those of d
  module _ (d : ℕ) (below : Parser StmtTree) (g : (s : StmtTree) (c e : Cursor) → StmtSpells names s c e → stmt_height s ≤ d → (is_open s ≡ true → NoElse e) → below c ≡ Ok (s, e)) where
    expr_is : (t : ExprTree) (level : ℕ) (c e : Cursor) → level ≤ 14 → ExprSpells names level t c e → expr_height t ≤ d → Quiet level e → (parsers names d).expr level c ≡ Ok (t, e)
    expr_is = ((complete names d).core).expr

    maybe_is : (stop : Punct) (v : Option ExprTree) (c e z : Cursor) → MaybeExprSpells names v c e → option_expr_height v ≤ d → Mark stop e z → Quiet 0 e → ((x : ExprTree) (i j : Cursor) → ExprSpells names 0 x i j → sees stop (head i.ahead) ≡ false) → reading.maybe names d below (sees stop) c ≡ Ok (v, e)
    maybe_is stop None c e z h l k q n = rw h (if_true (sees stop (head e.ahead)) _ _ e (Ok (None, e)) (sees_is stop e z k) refl)
    maybe_is stop (Some x) c e z h l k q n = if_false (sees stop (head c.ahead)) _ _ c (Ok (Some x, e)) (n x c e h) (bind_is (reading.expr names d below) (λ y. pure (Some y)) c e x (Ok (Some x, e)) (expr_is x 0 c e (omega arith) h l q) refl)

    until_semicolon : (v : Option ExprTree) (c e z : Cursor) → MaybeExprSpells names v c e → option_expr_height v ≤ d → Mark p.Semicolon e z → reading.maybe names d below (sees p.Semicolon) c ≡ Ok (v, e)
    until_semicolon v c e z h l k = maybe_is p.Semicolon v c e z h l k (quiet_mark p.Semicolon 0 e z refl k) (λ x i j u. not_begun names p.Semicolon refl x 0 i j u)

    tested_is : (t : ExprTree) (c m n e : Cursor) → Mark p.LeftParenthesis c m → ExprSpells names 0 t m n → expr_height t ≤ d → Mark p.RightParenthesis n e → reading.tested names d below c ≡ Ok (t, e)
    tested_is t c m n e k h l q = marked p.LeftParenthesis (reading.expr names d below >>= (λ x. mark p.RightParenthesis >> pure x)) c m (Ok (t, e)) k
        (bind_is (reading.expr names d below) (λ x. mark p.RightParenthesis >> pure x) m n t (Ok (t, e)) (expr_is t 0 m n (omega arith) h l (quiet_mark p.RightParenthesis 0 n e refl q)) (marked p.RightParenthesis (pure t) n e (Ok (t, e)) q refl))

    -- what a compound statement holds
    abbrev IsItem : BlockItemTree → Cursor → Cursor → Type 0
    IsItem x c e = BlockItemSpells names x c e × (block_item_height x ≤ d) × NoElse e

    item_is : (x : BlockItemTree) (c e : Cursor) → IsItem x c e → reading.item names d below c ≡ Ok (x, e)
    unfolding reading.item
    item_is (DeclarationItem b a z) c e ((h, lies), l, q) = if_true (begins_type names (head c.ahead)) _ _ c (Ok (DeclarationItem b a z, e)) (block_type b c e h)
        (bind_is (reading.block_declaration names d) (λ y. ended >>= (λ u. pure (DeclarationItem y (begin c) u))) c e b (Ok (DeclarationItem b a z, e)) (block_declaration_is d b c e h l) (close (DeclarationItem b) (begin c) a z e (sym lies.from_is) lies.to_is))
    item_is (StatementItem s a z) c e ((h, lies), l, q) = if_false (begins_type names (head c.ahead)) _ _ c (Ok (StatementItem s a z, e)) (starts s c e h).no_type
        (bind_is below (λ y. ended >>= (λ u. pure (StatementItem y (begin c) u))) c e s (Ok (StatementItem s a z, e)) (g s c e h l (λ _. q)) (close (StatementItem s) (begin c) a z e (sym lies.from_is) lies.to_is))

    item_first : (x : BlockItemTree) (c e : Cursor) → BlockItemSpells names x c e → NoElse c × (not_brace (head c.ahead) ≡ true)
    item_first (DeclarationItem b a z) c e (h, lies) = let t = block_type b c e h in (type_no_else names (head c.ahead) t, rw (type_no_mark names p.RightBrace (head c.ahead) t) refl)
    item_first (StatementItem s a z) c e (h, lies) = let t = starts s c e h in (t.no_else, rw t.no_brace refl)

    items_no_else : (xs : BlockItemTrees) (c e z : Cursor) → BlockItemsSpell names xs c e → Mark p.RightBrace e z → NoElse c
    items_no_else NoBlockItems c e z h k = rw h (rw (k.takes).ahead refl)
    items_no_else (ConsBlockItem x xs) c e z (m, h, r) k = (item_first x c m h).0

    items_chain : (xs : BlockItemTrees) (c e z : Cursor) → BlockItemsSpell names xs c e → block_items_height xs ≤ d → Mark p.RightBrace e z → Chain IsItem (block_items_list xs) c e
    items_chain NoBlockItems c e z h l k = h
    items_chain (ConsBlockItem x xs) c e z (m, h, r) l k = (m, (h, omega (arith, l), items_no_else xs m e z r k), items_chain xs m e z r (omega (arith, l)) k)

    module _ (near : Local below) (eats : Eats below) where
      block_is : (xs : BlockItemTrees) (from a z : ℕ) (s c m e : Cursor) → from ≡ a → BlockItemsSpell names xs c m → block_items_height xs ≤ d → Mark p.RightBrace m e → Lies a z s e → reading.block names d below from c ≡ Ok (Compound xs a z, e)
      block_is xs from a z s c m e f h l k lies = bind_is (many not_brace (reading.item names d below) []) (λ ys. mark p.RightBrace >> ended >>= (λ u. pure (Compound (block_items_of ys) from u))) c m (block_items_list xs) (Ok (Compound xs a z, e))
          (many_is IsItem not_brace (reading.item names d below) (item_step-shrinks not_brace (reading.item names d below) (item-eats names d below near eats)) (λ x i j r. (item_first x i j r.0).1) item_is (block_items_list xs) [] c m (items_chain xs c m e h l k) (rw (sees_is p.RightBrace m e k) refl))
          (rw (block_items_back xs) (marked p.RightBrace (ended >>= (λ u. pure (Compound xs from u))) m e (Ok (Compound xs a z, e)) k (close (Compound xs) from a z e f lies.to_is)))

      -- the end of a statement behind its last part
      body_is : (f : StmtTree → ℕ → ℕ → StmtTree) (body : StmtTree) (from a z : ℕ) (s c e : Cursor) → from ≡ a → StmtSpells names body c e → stmt_height body ≤ d → (is_open body ≡ true → NoElse e) → Lies a z s e → (below >>= (λ b. ended >>= (λ u. pure (f b from u)))) c ≡ Ok (f body a z, e)
      body_is f body from a z s c e q h l n lies = bind_is below (λ b. ended >>= (λ u. pure (f b from u))) c e body (Ok (f body a z, e)) (g body c e h l n) (close (f body) from a z e q lies.to_is)

      ended_is : (f : ℕ → ℕ → StmtTree) (from a z : ℕ) (s m e : Cursor) → from ≡ a → Mark p.Semicolon m e → Lies a z s e → (mark p.Semicolon >> ended >>= (λ u. pure (f from u))) m ≡ Ok (f a z, e)
      ended_is f from a z s m e q k lies = marked p.Semicolon (ended >>= (λ u. pure (f from u))) m e (Ok (f a z, e)) k (close f from a z e q lies.to_is)

      expression_is : (v : Option ExprTree) (from a z : ℕ) (c m e : Cursor) → from ≡ a → MaybeExprSpells names v c m → option_expr_height v ≤ d → Mark p.Semicolon m e → Lies a z c e → reading.expression names d below from c ≡ Ok (Expression v a z, e)
      expression_is v from a z c m e q h l k lies = bind_is (reading.maybe names d below (sees p.Semicolon)) (λ x. mark p.Semicolon >> ended >>= (λ u. pure (Expression x from u))) c m v (Ok (Expression v a z, e)) (until_semicolon v c m e h l k) (ended_is (Expression v) from a z c m e q k lies)

      expression_at : (v : ExprTree) (a z : ℕ) (c m e : Cursor) (h : Option Token) → h ≡ head c.ahead → begins_expr names h ≡ true → ExprSpells names 0 v c m → expr_height v ≤ d → Mark p.Semicolon m e → Lies a z c e → reading.stmt_at names d below h c ≡ Ok (Expression (Some v) a z, e)
      expression_at v a z c m e None w b h l k lies = cc
      expression_at v a z c m e (Some t) w b h l k lies = ap (λ q. q c) (by_expr d below t t.kind b) ∙ expression_is (Some v) t.from a z c m e (ap from_of w ∙ sym lies.from_is) h l k lies

      else_is : (test : ExprTree) (x y : StmtTree) (from a z : ℕ) (s c m e : Cursor) → from ≡ a → Word w.Else c m → StmtSpells names y m e → stmt_height y ≤ d → (is_open y ≡ true → NoElse e) → Lies a z s e → look (reading.else_at names d below from test x) c ≡ Ok (IfElse test x y a z, e)
      else_is test x y from a z s c m e q k h l n lies = if_true (reading.reads_word w.Else (head c.ahead)) _ _ c (Ok (IfElse test x y a z, e)) (word_seen w.Else c m k)
          (worded w.Else (below >>= (λ b. ended >>= (λ u. pure (IfElse test x b from u)))) c m (Ok (IfElse test x y a z, e)) k (body_is (IfElse test x) y from a z s m e q h l n lies))

      start_is : (i : ForStartTree) (c e : Cursor) → ForStartSpells names i c e → for_start_height i ≤ d → look (reading.start_from names d below) c ≡ Ok (i, e)
      start_is (Declares b a z) c e (h, lies) l = if_true (begins_type names (head c.ahead)) _ _ c (Ok (Declares b a z, e)) (block_type b c e h)
          (bind_is (reading.block_declaration names d) (λ y. ended >>= (λ u. pure (Declares y (begin c) u))) c e b (Ok (Declares b a z, e)) (block_declaration_is d b c e h l) (close (Declares b) (begin c) a z e (sym lies.from_is) lies.to_is))
      start_is (Evaluates v a z) c e (m, h, k, lies) l = if_false (begins_type names (head c.ahead)) _ _ c (Ok (Evaluates v a z, e)) (maybe_starts v c m e h k).no_type
          (bind_is (reading.maybe names d below (sees p.Semicolon)) (λ x. mark p.Semicolon >> ended >>= (λ u. pure (Evaluates x (begin c) u))) c m v (Ok (Evaluates v a z, e)) (until_semicolon v c m e h l k)
          (marked p.Semicolon (ended >>= (λ u. pure (Evaluates v (begin c) u))) m e (Ok (Evaluates v a z, e)) k (close (Evaluates v) (begin c) a z e (sym lies.from_is) lies.to_is)))

      level_is : (s : StmtTree) (c e : Cursor) → StmtSpells names s c e → stmt_height s ≤ suc d → (is_open s ≡ true → NoElse e) → reading.stmt_level names d below c ≡ Ok (s, e)
      unfolding reading.stmt_level
      level_is (Compound xs a z) c e (m, n, k, h, q, lies) l o = look_is (reading.stmt_at names d below) c m k (Ok (Compound xs a z, e)) (took k (reading.block names d below k.from) (Ok (Compound xs a z, e)) (block_is xs k.from a z c m n e (from_is k lies) h (omega (arith, l)) q lies))
      level_is (Expression None a z) c e (m, h, k, lies) l o = let j : Mark p.Semicolon c e = rw h k in look_is (reading.stmt_at names d below) c e j (Ok (Expression None a z, e)) (expression_is None j.from a z c m e (from_is j lies) h (omega arith) k lies)
      level_is (Expression (Some v) a z) c e (m, h, k, lies) l o = expression_at v a z c m e (head c.ahead) refl (expr_head names v 0 c m h) h (omega (arith, l)) k lies
      level_is (If test body a z) c e (m, n, i, j, k, q, h, r, t, lies) l o = let one = stmt_pos body in look_is (reading.stmt_at names d below) c m k (Ok (If test body a z, e))
          (roomy 1 d (after (record { kind = kind.Keyword w.If; from = k.from; to = k.to }) >> reading.tested names d below >>= (λ x. below >>= (λ b. look (reading.else_at names d below k.from x b)))) c (Ok (If test body a z, e)) (omega (arith, l, one))
          (took k (reading.tested names d below >>= (λ x. below >>= (λ b. look (reading.else_at names d below k.from x b)))) (Ok (If test body a z, e))
          (bind_is (reading.tested names d below) (λ x. below >>= (λ b. look (reading.else_at names d below k.from x b))) m j test (Ok (If test body a z, e)) (tested_is test m n i j q h (omega (arith, l)) r)
          (bind_is below (λ b. look (reading.else_at names d below k.from test b)) j e body (Ok (If test body a z, e)) (g body j e t (omega (arith, l)) (λ _. o refl))
          (if_false (reading.reads_word w.Else (head e.ahead)) _ _ e (Ok (If test body a z, e)) (o refl) (close (If test body) k.from a z e (from_is k lies) lies.to_is))))))
      level_is (IfElse test x y a z) c e (m, n, i, j, u, v, k, q, h, r, t, shut, b, s, lies) l o = let one = stmt_pos x in look_is (reading.stmt_at names d below) c m k (Ok (IfElse test x y a z, e))
          (roomy 1 d (after (record { kind = kind.Keyword w.If; from = k.from; to = k.to }) >> reading.tested names d below >>= (λ f. below >>= (λ f2. look (reading.else_at names d below k.from f f2)))) c (Ok (IfElse test x y a z, e)) (omega (arith, l, one))
          (took k (reading.tested names d below >>= (λ f. below >>= (λ f2. look (reading.else_at names d below k.from f f2)))) (Ok (IfElse test x y a z, e))
          (bind_is (reading.tested names d below) (λ f. below >>= (λ f2. look (reading.else_at names d below k.from f f2))) m j test (Ok (IfElse test x y a z, e)) (tested_is test m n i j q h (omega (arith, l)) r)
          (bind_is below (λ f2. look (reading.else_at names d below k.from test f2)) j u x (Ok (IfElse test x y a z, e)) (g x j u t (omega (arith, l)) (λ p1. let bad : true ≡ false = sym p1 ∙ shut in cc))
          (else_is test x y k.from a z c u v e (from_is k lies) b s (omega (arith, l)) o lies)))))
      level_is (While test body a z) c e (m, n, i, j, k, q, h, r, t, lies) l o = let one = stmt_pos body in look_is (reading.stmt_at names d below) c m k (Ok (While test body a z, e))
          (roomy 1 d (after (record { kind = kind.Keyword w.While; from = k.from; to = k.to }) >> reading.tested names d below >>= (λ x. below >>= (λ b. ended >>= (λ u. pure (While x b k.from u))))) c (Ok (While test body a z, e)) (omega (arith, l, one))
          (took k (reading.tested names d below >>= (λ x. below >>= (λ b. ended >>= (λ u. pure (While x b k.from u))))) (Ok (While test body a z, e))
          (bind_is (reading.tested names d below) (λ x. below >>= (λ b. ended >>= (λ u. pure (While x b k.from u)))) m j test (Ok (While test body a z, e)) (tested_is test m n i j q h (omega (arith, l)) r) (body_is (While test) body k.from a z c j e (from_is k lies) t (omega (arith, l)) o lies))))
      level_is (Switch v body a z) c e (m, n, i, j, k, q, h, r, t, lies) l o = let one = stmt_pos body in look_is (reading.stmt_at names d below) c m k (Ok (Switch v body a z, e))
          (roomy 1 d (after (record { kind = kind.Keyword w.Switch; from = k.from; to = k.to }) >> reading.tested names d below >>= (λ x. below >>= (λ b. ended >>= (λ u. pure (Switch x b k.from u))))) c (Ok (Switch v body a z, e)) (omega (arith, l, one))
          (took k (reading.tested names d below >>= (λ x. below >>= (λ b. ended >>= (λ u. pure (Switch x b k.from u))))) (Ok (Switch v body a z, e))
          (bind_is (reading.tested names d below) (λ x. below >>= (λ b. ended >>= (λ u. pure (Switch x b k.from u)))) m j v (Ok (Switch v body a z, e)) (tested_is v m n i j q h (omega (arith, l)) r) (body_is (Switch v) body k.from a z c j e (from_is k lies) t (omega (arith, l)) o lies))))
      level_is (DoWhile body test a z) c e (m, n, i, j, u, v, k, t, b, q, h, r, s, lies) l o = let one = stmt_pos body in look_is (reading.stmt_at names d below) c m k (Ok (DoWhile body test a z, e))
          (roomy 1 d (after (record { kind = kind.Keyword w.Do; from = k.from; to = k.to }) >> reading.loop_do names d below k.from) c (Ok (DoWhile body test a z, e)) (omega (arith, l, one))
          (took k (reading.loop_do names d below k.from) (Ok (DoWhile body test a z, e))
          (bind_is below (λ f. reading.word w.While >> reading.tested names d below >>= (λ x. mark p.Semicolon >> ended >>= (λ y. pure (DoWhile f x k.from y)))) m n body (Ok (DoWhile body test a z, e)) (g body m n t (omega (arith, l)) (λ _. rw (b.takes).ahead refl))
          (worded w.While (reading.tested names d below >>= (λ x. mark p.Semicolon >> ended >>= (λ y. pure (DoWhile body x k.from y)))) n i (Ok (DoWhile body test a z, e)) b
          (bind_is (reading.tested names d below) (λ x. mark p.Semicolon >> ended >>= (λ y. pure (DoWhile body x k.from y))) i v test (Ok (DoWhile body test a z, e)) (tested_is test i j u v q h (omega (arith, l)) r) (ended_is (DoWhile body test) k.from a z c v e (from_is k lies) s lies))))))
      level_is (For start test step body a z) c e (m, n, i, j, u, v, x, k, q, f, h, r, y, s, t, lies) l o = let one = stmt_pos body in look_is (reading.stmt_at names d below) c m k (Ok (For start test step body a z, e))
          (roomy 1 d (after (record { kind = kind.Keyword w.For; from = k.from; to = k.to }) >> reading.loop_for names d below k.from) c (Ok (For start test step body a z, e)) (omega (arith, l, one))
          (took k (reading.loop_for names d below k.from) (Ok (For start test step body a z, e))
          (marked p.LeftParenthesis (look (reading.start_from names d below) >>= (λ i2. reading.maybe names d below (sees p.Semicolon) >>= (λ e2. mark p.Semicolon >> reading.maybe names d below (sees p.RightParenthesis) >>= (λ s2. mark p.RightParenthesis >> below >>= (λ b2. ended >>= (λ z2. pure (For i2 e2 s2 b2 k.from z2))))))) m n (Ok (For start test step body a z, e)) q
          (bind_is (look (reading.start_from names d below)) (λ i2. reading.maybe names d below (sees p.Semicolon) >>= (λ e2. mark p.Semicolon >> reading.maybe names d below (sees p.RightParenthesis) >>= (λ s2. mark p.RightParenthesis >> below >>= (λ b2. ended >>= (λ z2. pure (For i2 e2 s2 b2 k.from z2)))))) n i start (Ok (For start test step body a z, e)) (start_is start n i f (omega (arith, l)))
          (bind_is (reading.maybe names d below (sees p.Semicolon)) (λ e2. mark p.Semicolon >> reading.maybe names d below (sees p.RightParenthesis) >>= (λ s2. mark p.RightParenthesis >> below >>= (λ b2. ended >>= (λ z2. pure (For start e2 s2 b2 k.from z2))))) i j test (Ok (For start test step body a z, e)) (until_semicolon test i j u h (omega (arith, l)) r)
          (marked p.Semicolon (reading.maybe names d below (sees p.RightParenthesis) >>= (λ s2. mark p.RightParenthesis >> below >>= (λ b2. ended >>= (λ z2. pure (For start test s2 b2 k.from z2))))) j u (Ok (For start test step body a z, e)) r
          (bind_is (reading.maybe names d below (sees p.RightParenthesis)) (λ s2. mark p.RightParenthesis >> below >>= (λ b2. ended >>= (λ z2. pure (For start test s2 b2 k.from z2)))) u v step (Ok (For start test step body a z, e))
          (maybe_is p.RightParenthesis step u v x y (omega (arith, l)) s (quiet_mark p.RightParenthesis 0 v x refl s) (λ x2 i2 j2 u2. not_begun names p.RightParenthesis refl x2 0 i2 j2 u2))
          (marked p.RightParenthesis (below >>= (λ b2. ended >>= (λ z2. pure (For start test step b2 k.from z2)))) v x (Ok (For start test step body a z, e)) s (body_is (For start test step) body k.from a z c x e (from_is k lies) t (omega (arith, l)) o lies)))))))))
      level_is (Case v body a z) c e (m, n, i, k, h, q, t, lies) l o = let one = stmt_pos body in look_is (reading.stmt_at names d below) c m k (Ok (Case v body a z, e))
          (roomy 1 d (after (record { kind = kind.Keyword w.Case; from = k.from; to = k.to }) >> (parsers names d).expr 2 >>= (λ x. mark p.Colon >> below >>= (λ b. ended >>= (λ u. pure (Case x b k.from u))))) c (Ok (Case v body a z, e)) (omega (arith, l, one))
          (took k ((parsers names d).expr 2 >>= (λ x. mark p.Colon >> below >>= (λ b. ended >>= (λ u. pure (Case x b k.from u))))) (Ok (Case v body a z, e))
          (bind_is ((parsers names d).expr 2) (λ x. mark p.Colon >> below >>= (λ b. ended >>= (λ u. pure (Case x b k.from u)))) m n v (Ok (Case v body a z, e)) (expr_is v 2 m n (omega arith) h (omega (arith, l)) (quiet_mark p.Colon 2 n i refl q))
          (marked p.Colon (below >>= (λ b. ended >>= (λ u. pure (Case v b k.from u)))) n i (Ok (Case v body a z, e)) q (body_is (Case v) body k.from a z c i e (from_is k lies) t (omega (arith, l)) o lies)))))
      level_is (Default body a z) c e (m, n, k, q, t, lies) l o = let one = stmt_pos body in look_is (reading.stmt_at names d below) c m k (Ok (Default body a z, e))
          (roomy 1 d (after (record { kind = kind.Keyword w.Default; from = k.from; to = k.to }) >> mark p.Colon >> below >>= (λ b. ended >>= (λ u. pure (Default b k.from u)))) c (Ok (Default body a z, e)) (omega (arith, l, one))
          (took k (mark p.Colon >> below >>= (λ b. ended >>= (λ u. pure (Default b k.from u)))) (Ok (Default body a z, e))
          (marked p.Colon (below >>= (λ b. ended >>= (λ u. pure (Default b k.from u)))) m n (Ok (Default body a z, e)) q (body_is Default body k.from a z c n e (from_is k lies) t (omega (arith, l)) o lies))))
      level_is (Break a z) c e (m, k, q, lies) l o = look_is (reading.stmt_at names d below) c m k (Ok (Break a z, e)) (took k (mark p.Semicolon >> ended >>= (λ u. pure (Break k.from u))) (Ok (Break a z, e)) (ended_is Break k.from a z c m e (from_is k lies) q lies))
      level_is (Continue a z) c e (m, k, q, lies) l o = look_is (reading.stmt_at names d below) c m k (Ok (Continue a z, e)) (took k (mark p.Semicolon >> ended >>= (λ u. pure (Continue k.from u))) (Ok (Continue a z, e)) (ended_is Continue k.from a z c m e (from_is k lies) q lies))
      level_is (Return v a z) c e (m, n, k, h, q, lies) l o = look_is (reading.stmt_at names d below) c m k (Ok (Return v a z, e))
          (took k (reading.maybe names d below (sees p.Semicolon) >>= (λ x. mark p.Semicolon >> ended >>= (λ u. pure (Return x k.from u)))) (Ok (Return v a z, e))
          (bind_is (reading.maybe names d below (sees p.Semicolon)) (λ x. mark p.Semicolon >> ended >>= (λ u. pure (Return x k.from u))) m n v (Ok (Return v a z, e)) (until_semicolon v m n e h (omega (arith, l)) q) (ended_is (Return v) k.from a z c n e (from_is k lies) q lies)))

  stmt_is : (d : ℕ) (s : StmtTree) (c e : Cursor) → StmtSpells names s c e → stmt_height s ≤ d → (is_open s ≡ true → NoElse e) → reading.stmt names d c ≡ Ok (s, e)
  unfolding reading.stmt
  stmt_is zero s c e h l o = let one = stmt_pos s in absurd (omega (arith, l, one))
  stmt_is (suc d) s c e h l o = level_is d (reading.stmt names d) (stmt_is d) (stmt-local names d) (stmt-eats names d) s c e h l o

-- a declarator with a name begins with no `;`
no_semicolon : (names : List ℕ) (x : DeclaratorTree) (l : ℕ) (c e : Cursor) → has_name x ≡ true → DeclaratorSpells names l x c e → sees p.Semicolon (head c.ahead) ≡ false
no_semicolon names (Named n a z) l c e q h = rw (h.1).ahead refl
no_semicolon names (Absent a z) l c e q h = cc
no_semicolon names (Pointer qs of a z) l c e q h = rw ((h.3).takes).ahead refl
no_semicolon names (Grouped inner a z) l c e q h = rw ((h.3).takes).ahead refl
no_semicolon names (Array of n a z) l c e q h = no_semicolon names of 1 c h.0 q h.3
no_semicolon names (Function of ps a z) l c e q h = no_semicolon names of 1 c h.0 q h.3

begin_of : {k : Kind} {a z : ℕ} {c m : Cursor} → Takes k a z c m → a ≡ begin c
begin_of h = sym (ap (λ x. from_of (head x)) h.ahead)

module _ (d : ℕ) where
  pub names_append : (xs : FileTree) (x : FileItemTree) (names : List ℕ) → reading.names_behind d (xs ++ x ∷ []) names ≡ behind_item x (reading.names_behind d xs names)
  names_append [] x names = refl
  names_append (y ∷ ys) x names = names_append ys x (behind_item y names)

  typed_not_stored : (names : List ℕ) (k : Kind) → begins_type_by names k ≡ true → reading.storage_of d k ≡ None
  typed_not_stored names (kind.Keyword w.Typedef) e = cc
  typed_not_stored names (kind.Keyword w.Static) e = cc
  typed_not_stored names (kind.Keyword w.Extern) e = cc
  typed_not_stored names (kind.Keyword _) e = refl
  typed_not_stored names (kind.Name n) e = refl
  typed_not_stored names (kind.Punct x) e = cc
  typed_not_stored names (kind.Integer value decimal unsigned long) e = cc
  typed_not_stored names (kind.Character value) e = cc
  typed_not_stored names (kind.Text bytes) e = cc
  typed_not_stored names (kind.Include x) e = cc

  stored_none : (names : List ℕ) (c : Cursor) (h : Option Token) → begins_type names h ≡ true → reading.stored_at d h c ≡ Ok (None, c)
  stored_none names c None e = refl
  stored_none names c (Some t) e = rw (typed_not_stored names t.kind e) refl

  storage_back : (x : Storage) → reading.storage_of d (kind.Keyword (storage_word x)) ≡ Some x
  storage_back storage.Typedef = refl
  storage_back storage.Static = refl
  storage_back storage.Extern = refl

  stored_is : (names : List ℕ) (word : Option Storage) (c m : Cursor) → StorageSpells word c m → begins_type names (head m.ahead) ≡ true → reading.stored d c ≡ Ok (word, m)
  stored_is names None c m h t = rw h (stored_none names m (head m.ahead) t)
  stored_is names (Some x) c m h t = look_is (reading.stored_at d) c m h (Ok (Some x, m)) (rw (storage_back x) (took h (pure (Some x)) (Ok (Some x, m)) refl))

  no_typedef : (word : Option Storage) → word ≢ Some storage.Typedef → reading.is_typedef d word ≡ false
  no_typedef None n = refl
  no_typedef (Some storage.Typedef) n = absurd (n refl)
  no_typedef (Some storage.Static) n = refl
  no_typedef (Some storage.Extern) n = refl

  module _ (names : List ℕ) where
    ends_is : (word : Option Storage) (s : SpecsTree) (xs : List InitDeclaratorTree) (from a z a2 z2 : ℕ) (c e : Cursor) → from ≡ a → from ≡ a2 → z ≡ e.ended → z2 ≡ e.ended → Mark p.Semicolon c e → reading.ends_declaration d word s xs from c ≡ Ok (Declared (OfDeclaration word s xs a z) a2 z2, e)
    ends_is word s xs from a z a2 z2 c e f f2 u u2 k = marked p.Semicolon (ended >>= (λ y. pure (Declared (OfDeclaration word s xs from y) from y))) c e (Ok (Declared (OfDeclaration word s xs a z) a2 z2, e)) k (rw (← f, ← f2, u, u2) refl)

    init_no_brace : (i : Option InitializerTree) (xs : List InitDeclaratorTree) (word : Option Storage) (n n2 : List ℕ) (c m e z : Cursor) → MaybeInitializerSpells n i c m → CommaInitDeclarators word n2 xs m e → Mark p.Semicolon e z → sees p.LeftBrace (head c.ahead) ≡ false
    init_no_brace (Some i) xs word n n2 c m e z h r k = sees_not p.LeftBrace p.Assign c h.0 h.1 refl
    init_no_brace None [] word n n2 c m e z h r k = rw (h ∙ r) (sees_not p.LeftBrace p.Semicolon e z k refl)
    init_no_brace None (x ∷ xs) word n n2 c m e z h r k = rw h (sees_not p.LeftBrace p.Comma m r.0 r.2 refl)

    declaration_is : (word : Option Storage) (s : SpecsTree) (ds : List InitDeclaratorTree) (from a z a2 z2 : ℕ) (c n o e : Cursor) → from ≡ a → from ≡ a2 → z ≡ e.ended → z2 ≡ e.ended → InitDeclaratorsSpell word names ds n o → init_declarators_height ds ≤ d → Mark p.Semicolon o e
        → look (reading.declarators_at d names word s from) n ≡ Ok (Declared (OfDeclaration word s ds a z) a2 z2, e)
    declaration_is word s [] from a z a2 z2 c n o e f f2 u u2 h l k = rw h (if_true (sees p.Semicolon (head o.ahead)) _ _ o (Ok (Declared (OfDeclaration word s [] a z) a2 z2, e)) (sees_is p.Semicolon o e k) (ends_is word s [] from a z a2 z2 o e f f2 u u2 k))
    declaration_is word s (OfInitDeclarator x i a3 z3 ∷ ds) from a z a2 z2 c n o e f f2 u u2 (m, (j, y, t, v, lies), r) l k =
        let first : InitDeclaratorTree = OfInitDeclarator x i a3 z3 in
        let out : Outcome FileItemTree = Ok (Declared (OfDeclaration word s (first ∷ ds) a z) a2 z2, e) in
        let ends = rest_ends word d (behind_all word (first ∷ []) names) ds m o r (λ q. at_semicolon q o e k) in
        if_false (sees p.Semicolon (head n.ahead)) _ _ n out (no_semicolon names x 0 n j y t)
        (bind_is ((parsers names d).declarator naming.Named) (λ q. look (reading.body_at d names word s from (begin n) q)) n j x out ((complete names d).declarator x naming.Named n j y t (omega (arith, l)) (ends_here (behind word x names) i j m v (ends (behind word x names))))
        (if_false (not (reading.is_typedef d word) && sees p.LeftBrace (head j.ahead)) _ _ j out (rw (init_no_brace i ds word (behind word x names) (behind_all word (first ∷ []) names) j m o e v r k) (and_false (not (reading.is_typedef d word))))
        (bind_is (reading.finished word d names (begin n) x) (λ q. reading.declared word d names (q ∷ []) >>= (λ xs. reading.ends_declaration d word s xs from)) j m first out
        (finished_is word d names x i (begin n) a3 z3 n j m (sym lies.from_is) v (omega (arith, l)) (ends (behind word x names)) lies.to_is)
        (bind_is (reading.declared word d names (first ∷ [])) (λ xs. reading.ends_declaration d word s xs from) m o (first ∷ ds) out (declared_is word d names ds (first ∷ []) m o e r (omega (arith, l)) k)
        (ends_is word s (first ∷ ds) from a z a2 z2 o e f f2 u u2 k)))))

    body_opens : (b : StmtTree) (c e : Cursor) → is_compound b ≡ true → StmtSpells names b c e → (sees p.LeftBrace (head c.ahead) ≡ true) × (ends_declarator (head c.ahead) ≡ true) × (is_open b ≡ false)
    body_opens (Compound items a z) c e q h = (rw ((h.2).takes).ahead refl, rw ((h.2).takes).ahead refl, refl)
    body_opens (Expression v a z) c e q h = cc
    body_opens (If test body a z) c e q h = cc
    body_opens (IfElse test x y a z) c e q h = cc
    body_opens (While test body a z) c e q h = cc
    body_opens (DoWhile body test a z) c e q h = cc
    body_opens (For start test step body a z) c e q h = cc
    body_opens (Switch v body a z) c e q h = cc
    body_opens (Case v body a z) c e q h = cc
    body_opens (Default body a z) c e q h = cc
    body_opens (Break a z) c e q h = cc
    body_opens (Continue a z) c e q h = cc
    body_opens (Return v a z) c e q h = cc

    not_false : (x : Bool) → x ≡ false → not x ≡ true
    not_false true e = cc
    not_false false e = refl

    both : (x y : Bool) → x ≡ true → y ≡ true → (x && y) ≡ true
    both true y e h = h
    both false y e h = cc

    definition_is : (word : Option Storage) (s : SpecsTree) (x : DeclaratorTree) (b : StmtTree) (from a z a2 z2 : ℕ) (n o e : Cursor) → from ≡ a → from ≡ a2 → z ≡ e.ended → z2 ≡ e.ended → word ≢ Some storage.Typedef → has_name x ≡ true → DeclaratorSpells names 0 x n o → declarator_height x ≤ d → is_compound b ≡ true → StmtSpells names b o e → stmt_height b ≤ d
        → look (reading.declarators_at d names word s from) n ≡ Ok (Defined (OfFunctionDefinition word s x b a z) a2 z2, e)
    definition_is word s x b from a z a2 z2 n o e f f2 u u2 w y t l q h i =
        let out : Outcome FileItemTree = Ok (Defined (OfFunctionDefinition word s x b a z) a2 z2, e) in
        let r = body_opens b o e q h in
        if_false (sees p.Semicolon (head n.ahead)) _ _ n out (no_semicolon names x 0 n o y t)
        (bind_is ((parsers names d).declarator naming.Named) (λ v. look (reading.body_at d names word s from (begin n) v)) n o x out ((complete names d).declarator x naming.Named n o y t l r.1)
        (if_true (not (reading.is_typedef d word) && sees p.LeftBrace (head o.ahead)) _ _ o out (both _ _ (not_false _ (no_typedef word w)) r.0)
        (bind_is (reading.stmt names d) (λ v. ended >>= (λ k. pure (Defined (OfFunctionDefinition word s x v from k) from k))) o e b out (stmt_is names d b o e h i (λ p1. let bad : true ≡ false = sym p1 ∙ r.2 in cc)) (rw (← f, ← f2, u, u2) refl))))

    external_is : (word : Option Storage) (s : SpecsTree) (from : ℕ) (c m n : Cursor) (out : Outcome FileItemTree) → StorageSpells word c m → SpecsSpell names true s m n → specs_height s ≤ d → ends_specs (head n.ahead) ≡ true → look (reading.declarators_at d names word s from) n ≡ out → reading.external d names from c ≡ out
    external_is word s from c m n out h t l q e = bind_is (reading.stored d) (λ x. (parsers names d).specs true >>= (λ y. look (reading.declarators_at d names x y from))) c m word out (stored_is names word c m h (specs_type names true s m n t))
        (bind_is ((parsers names d).specs true) (λ y. look (reading.declarators_at d names word y from)) m n s out ((complete names d).specs s true m n t l q) e)

    -- an item that is no include line
    begins_external : (k : Kind) → Bool
    begins_external (kind.Include x) = false
    begins_external _ = true

    at_external : (h : Option Token) (word : Option Storage) (c m : Cursor) (out : Outcome FileItemTree) → h ≡ head c.ahead → StorageSpells word c m → begins_type names (head m.ahead) ≡ true → reading.external d names (begin c) c ≡ out → reading.file_item_at d names h c ≡ out
    at_external h word c m out w k t e = by_word word k h w
      where
        plain : (u : Token) (v : Kind) → (v ≡ u.kind) → begins_type_by names v ≡ true → u.from ≡ begin c → reading.file_item_by d names u v c ≡ out
        plain u (kind.Name n) q y f = rw f e
        plain u (kind.Keyword x) q y f = rw f e
        plain u (kind.Punct x) q y f = cc
        plain u (kind.Integer value decimal unsigned long) q y f = cc
        plain u (kind.Character value) q y f = cc
        plain u (kind.Text bytes) q y f = cc
        plain u (kind.Include x) q y f = cc

        by_head : (i : Option Token) → i ≡ head c.ahead → begins_type names i ≡ true → reading.file_item_at d names i c ≡ out
        by_head None q y = cc
        by_head (Some u) q y = plain u u.kind refl y (ap from_of q)

        by_word : (x : Option Storage) → StorageSpells x c m → (i : Option Token) → i ≡ head c.ahead → reading.file_item_at d names i c ≡ out
        by_word None y i q = by_head i q (rw (q ∙ ap (λ z. head z.ahead) y) t)
        by_word (Some x) y i q = ap (λ u. reading.file_item_at d names u c) (q ∙ ap head (y.takes).ahead) ∙ ap (λ u. reading.external d names u c) (begin_of y.takes) ∙ e

    file_item_is : (x : FileItemTree) (c e : Cursor) → FileItemSpells names x c e → file_item_height x ≤ d → reading.file_item d names c ≡ Ok (x, e)
    unfolding reading.file_item
    file_item_is (Included line a z) c e k l = look_at_is (reading.file_item_at d names) c e k (Ok (Included line a z, e)) (taken k (pure (Included line a z)) (Ok (Included line a z, e)) refl)
    file_item_is (Declared (OfDeclaration word s ds a z) a2 z2) c e ((m, n, o, h, t, r, k, lies), lies2) l =
        at_external (head c.ahead) word c m (Ok (Declared (OfDeclaration word s ds a z) a2 z2, e)) refl h (specs_type names true s m n t)
        (external_is word s (begin c) c m n (Ok (Declared (OfDeclaration word s ds a z) a2 z2, e)) h t (omega (arith, l)) (list_ends ds n o e r k)
        (declaration_is word s ds (begin c) a z a2 z2 c n o e (sym lies.from_is) (sym lies2.from_is) lies.to_is lies2.to_is r (omega (arith, l)) k))
      where
        list_ends : (xs : List InitDeclaratorTree) (u v i : Cursor) → InitDeclaratorsSpell word names xs u v → Mark p.Semicolon v i → ends_specs (head u.ahead) ≡ true
        list_ends [] u v i g j = rw g (rw (j.takes).ahead refl)
        list_ends (OfInitDeclarator x y b f ∷ xs) u v i g j = name_ends names x 0 u (g.1).0 (g.1).1 (g.1).2
    file_item_is (Defined (OfFunctionDefinition word s x b a z) a2 z2) c e ((m, n, o, w, h, t, y, q, k, r, lies), lies2) l =
        at_external (head c.ahead) word c m (Ok (Defined (OfFunctionDefinition word s x b a z) a2 z2, e)) refl h (specs_type names true s m n t)
        (external_is word s (begin c) c m n (Ok (Defined (OfFunctionDefinition word s x b a z) a2 z2, e)) h t (omega (arith, l)) (name_ends names x 0 n o y q)
        (definition_is word s x b (begin c) a z a2 z2 n o e (sym lies.from_is) (sym lies2.from_is) lies.to_is lies2.to_is w y q (omega (arith, l)) k r (omega (arith, l))))

  type_some : (names : List ℕ) (h : Option Token) → begins_type names h ≡ true → is_some h ≡ true
  type_some names None e = cc
  type_some names (Some t) e = refl

  stored_some : (names : List ℕ) (word : Option Storage) (c m : Cursor) → StorageSpells word c m → begins_type names (head m.ahead) ≡ true → is_some (head c.ahead) ≡ true
  stored_some names None c m h t = rw h (type_some names (head m.ahead) t)
  stored_some names (Some x) c m h t = rw (h.takes).ahead refl

  -- an item has a token
  item_some : (names : List ℕ) (x : FileItemTree) (c e : Cursor) → FileItemSpells names x c e → is_some (head c.ahead) ≡ true
  item_some names (Included line a z) c e k = rw k.ahead refl
  item_some names (Declared (OfDeclaration word s ds a z) a2 z2) c e ((m, n, o, h, t, r, k, lies), lies2) = stored_some names word c m h (specs_type names true s m n t)
  item_some names (Defined (OfFunctionDefinition word s x b a z) a2 z2) c e ((m, n, o, w, h, t, y, q, k, r, lies), lies2) = stored_some names word c m h (specs_type names true s m n t)

  step_goes : (all : FileTree) (x : FileItemTree) (c m : Cursor) (h : Option Token) → is_some h ≡ true → reading.file_item d (reading.names_behind d all []) c ≡ Ok (x, m) → reading.file_step_at d all h c ≡ Ok (More (all ++ x ∷ []), m)
  step_goes all x c m None q e = cc
  step_goes all x c m (Some t) q e = bind_is (reading.file_item d (reading.names_behind d all [])) (λ y. pure (More (all ++ y ∷ []))) c m x (Ok (More (all ++ x ∷ []), m)) e refl

  items_read : (xs all : FileTree) (c : Cursor) (z : ℕ) → FileItemsSpell (reading.names_behind d all []) xs c (record { ended = z; ahead = [] }) → file_height xs ≤ d → iterate (reading.file_step d) all c ≡ Ok (all ++ xs, record { ended = z; ahead = [] })
  items_read [] all c z h l = rw h (one_turn (reading.file_step d) (file-shrinks d) all (record { ended = z; ahead = [] }) ∙ ap (λ x. Ok (x, record { ended = z; ahead = [] })) (sym (append-nil all)))
  items_read (x ∷ xs) all c z (m, h, r) l = one_turn (reading.file_step d) (file-shrinks d) all c
      ∙ ap (λ y. and_then y (goes (iterate (reading.file_step d)))) (step_goes all x c m (head c.ahead) (item_some (reading.names_behind d all []) x c m h) (file_item_is (reading.names_behind d all []) x c m h (omega (arith, l))))
      ∙ items_read xs (all ++ x ∷ []) m z (subst (λ i. FileItemsSpell i xs m (record { ended = z; ahead = [] })) (sym (names_append all x [])) r) (omega (arith, l)) ∙ ap (λ y. Ok (y, record { ended = z; ahead = [] })) (append_assoc all (x ∷ []) xs)

  -- A file's tree of no greater depth is read from its tokens.
  pub file_is : (x : FileTree) (tokens : List Token) → (s : Spells x tokens) → file_height x ≤ d → reading.file d (start tokens) ≡ Ok (x, record { ended = s.to; ahead = [] })
  unfolding reading.file
  file_is x tokens s l = items_read x [] (start tokens) s.to s.spells l

-- Tokens are spelled by at most one file.
pub one_file : (x y : FileTree) (tokens : List Token) → Spells x tokens → Spells y tokens → x ≡ y
one_file x y tokens s t =
    let d = max (file_height x) (file_height y) in
    same_answer (file_is d x tokens s (omega arith)) (file_is d y tokens t (omega arith))
