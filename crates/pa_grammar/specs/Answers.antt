-- What a reader of one tree at a place among tokens answers.
use Rattle.std.specs.Prelude.{◌≡◌, ◌≤◌, ◌-◌, ℕ, zero, suc, Bool, List, [], ◌++◌, length, drop, slice_get, Option, Some, None, Result, Ok, Err, if◌then◌else◌}
use Rattle.pa_num.specs.declared.fault.Fault.{Fault}
use Rattle.pa_num.specs.declared.fault.Fault.TheVariants.{Refused, Memory}
use Rattle.pa_lex.specs.declared.token.Token.{Token}
use Rattle.pa_tree.specs.Cursors.{Cursor, head, place_by}
use Rattle.pa_tree.specs.Exprs.{DeclaratorTree}
use Rattle.pa_tree.specs.Spells.{DeclaratorSpells, has_name}
use Rattle.pa_grammar.specs.declared.rule.Level.{Level}
use Rattle.pa_grammar.specs.declared.rule.Level.TheVariants as level
use Rattle.pa_grammar.specs.declared.rule.Naming.{Naming}
use Rattle.pa_grammar.specs.declared.rule.Naming.TheVariants as naming
use Rattle.pa_grammar.specs.declared.rule.SynRule.{SynRule}
use Rattle.pa_grammar.specs.declared.rule.SynRule.TheVariants.{S1, S2}
use Rattle.pa_grammar.specs.declared.rule.ParseError.TheVariants.{Broken}
use Rattle.pa_grammar.specs.Parser.{Parser}

-- the most levels on a path of a tree in a file
abbrev pub most_levels : ℕ
most_levels = 200

-- the number of the nonterminal (C11 6.5.17, 6.5.16, 6.6)
abbrev pub level_number : Level → ℕ
level_number level.Expr = 0
level_number level.Assign = 1
level_number level.Cond = 2

abbrev pub naming_of : Bool → Naming
naming_of named = if named then naming.Named else naming.Unnamed

abbrev pub to_of : Option Token → ℕ
to_of None = 0
to_of (Some t) = t.to

-- where the token in front of the one of this number ends
abbrev pub ended_at : List Token → ℕ → ℕ
ended_at tokens zero = 0
ended_at tokens (suc before) = to_of (slice_get tokens before)

-- in front of the token of this number
abbrev pub cursor_at : List Token → ℕ → Cursor
cursor_at tokens at = record { ended = ended_at tokens at; ahead = drop at tokens }

-- where the token of this number begins, or the last one ends
abbrev pub place_at : List Token → ℕ → ℕ
place_at tokens end = place_by (ended_at tokens end) (slice_get tokens end)

-- from c to d stand the tokens of a declarator that declares a name, or of one without a name (C11 6.7.6, 6.7.7)
abbrev pub DeclaratorOf : List ℕ → Bool → DeclaratorTree → Cursor → Cursor → Type 0
DeclaratorOf names named x c d = (has_name x ≡ named) × DeclaratorSpells names 0 x c d

-- trees of a form: which tokens they spell, and which of them are asked for
module _ {A : Type 0} (Spelled : A → Cursor → Cursor → Type 0) (such : A → Type 0) where
  -- no such tree is spelled by these tokens and then others, which begin with this one, or none where it is none
  pub record NoneGoesOn (ended : ℕ) (run : List Token) (next : Option Token) : Type 0 where
    pub none : (tree : A) (more : List Token) (to : ℕ) → next ≡ head more → Spelled tree (record { ended = ended; ahead = run ++ more }) (record { ended = to; ahead = [] }) → such tree → ⊥

-- how deep trees of a form may be
module _ {A : Type 0} (height : A → ℕ) (room : ℕ) where
  abbrev pub Fitting : A → Type 0
  Fitting tree = height tree ≤ room

  -- the trees that a rule speaks of: at S1 all of them
  abbrev pub Asked : SynRule → A → Type 0
  Asked S1 tree = Unit {0}
  Asked S2 tree = Fitting tree

-- trees of a form, which tokens they spell, and how deep they may be
module _ {A : Type 0} (Spelled : A → Cursor → Cursor → Type 0) (height : A → ℕ) (room : ℕ) where
  -- The tokens from the one numbered `at` up to the one numbered `end` spell the tree, and they are the longest list from there that
  -- begins a tree that fits.
  pub record IsLongest (tokens : List Token) (at : ℕ) (tree : A) (end : ℕ) : Type 0 where
    pub within : end ≤ length tokens
    pub run : List Token
    pub split : drop at tokens ≡ run ++ drop end tokens
    pub to : ℕ
    pub spells : Spelled tree (cursor_at tokens at) (record { ended = to; ahead = drop end tokens })
    pub fits : Fitting height room tree
    pub longest : (t : Token) → slice_get tokens end ≡ Some t → NoneGoesOn Spelled (Fitting height room) (ended_at tokens at) run (Some t)

  -- The tokens from the one numbered `at` up to the one at this place, or all of them where it is the last one's end, are no tree's that
  -- fits. With the one there they begin none that fits either, and at S1 no tree at all.
  pub record IsRefused (tokens : List Token) (at : ℕ) (rule : SynRule) (place : ℕ) : Type 0 where
    pub end : ℕ
    pub within : end ≤ length tokens
    pub run : List Token
    pub split : drop at tokens ≡ run ++ drop end tokens
    pub place_is : place ≡ place_at tokens end
    pub alone : NoneGoesOn Spelled (Fitting height room) (ended_at tokens at) run None
    pub refused : NoneGoesOn Spelled (Asked height room rule) (ended_at tokens at) run (slice_get tokens end)

  -- `tree`: a tree of the program as plain data
  module _ {B : Type 0} (tree : B → A) where
    abbrev pub IsAnswer : List Token → ℕ → Result (B × ℕ) (Fault SynRule) → Type 0
    IsAnswer tokens at (Ok q) = IsLongest tokens at (tree q.0) q.1
    IsAnswer tokens at (Err (Refused rule place)) = IsRefused tokens at rule place
    IsAnswer tokens at (Err Memory) = Unit {0}

-- This reader, in front of the token of this number, stops at that place, by that rule.
pub record Stopped {A : Type 0} (read : Parser A) (tokens : List Token) (at : ℕ) (rule : SynRule) (place : ℕ) : Type 0 where
  pub stop : Cursor
  pub stops : read (cursor_at tokens at) ≡ Err (record { rule = Broken rule; at = stop })
  pub place_is : place ≡ place_at tokens (length tokens - length stop.ahead)

-- A refusal is the reader's own.
abbrev pub IsStop : {A B : Type 0} → Parser A → List Token → ℕ → Result B (Fault SynRule) → Type 0
IsStop read tokens at (Ok q) = Unit {0}
IsStop read tokens at (Err (Refused rule place)) = Stopped read tokens at rule place
IsStop read tokens at (Err Memory) = Unit {0}
