-- What the table of declarations keeps is the list of the open blocks.
use Rattle.std.proofs.Common.{◌≡◌, ℕ, zero, suc, ◌+◌, ◌≤◌, ◌<◌, ◌==◌, get_or, set, get_or-set_same, get_or-set_other, Bool, true, false, if◌then◌else◌, List, [], ◌∷◌, length, ◌++◌, reverse, Option, Some, None, is_some, option_map, refl, sym, ap, ◌∙◌, subst, arith}
use Rattle.std.proofs.lemmas.Bool.Decides.{eqb_tells, nat_tests}
use Rattle.std.proofs.lemmas.List.{reverse-append}
use Rattle.pa_blocks.specs.declared.meant.Meant.{Meant}
use Rattle.pa_blocks.specs.declared.declarations.Known.{Known}
use Rattle.pa_blocks.specs.declared.declarations.Step.{Step}
use Rattle.pa_blocks.specs.declared.declarations.Step.TheVariants.{Enter, Declare}
use Rattle.pa_blocks.specs.Blocks.{Named, Blocks, entered, left_to, with_name, or_else, in_block, in_blocks, meaning, with_type, retyped_in, is_in, retyped_around, retyped}
use Rattle.pa_blocks.specs.Steps.{Newest, put, with_known, blocks_of, AreLevelled, means_of, means_at, newest_of, with_known_type}

-- ---- tables that tell the same of each name

put_same : (f g : Newest) → ((k : ℕ) → f k ≡ g k) → (name : ℕ) (known : Option Known) (other : ℕ) → put name known f other ≡ put name known g other
put_same f g same name known other = rw (same other) refl

pub blocks_same : (f g : Newest) → ((k : ℕ) → f k ≡ g k) → (steps : List Step) → blocks_of f steps ≡ blocks_of g steps
unfolding blocks_of
blocks_same f g same [] = refl
blocks_same f g same (Enter ∷ steps) = rw (blocks_same f g same steps) refl
blocks_same f g same (Declare name before ∷ steps) = rw (same name, blocks_same (put name before f) (put name before g) (put_same f g same name before) steps) refl

pub levelled_same : (f g : Newest) → ((k : ℕ) → f k ≡ g k) → (steps : List Step) (level : ℕ) → AreLevelled f steps level → AreLevelled g steps level
unfolding AreLevelled
levelled_same f g same [] level h = (h.0, λ name. sym (same name) ∙ h.1 name)
levelled_same f g same (Enter ∷ steps) level h = (h.0, h.1, levelled_same f g same steps h.0 h.2)
levelled_same f g same (Declare name before ∷ steps) level h =
    (h.0, sym (same name) ∙ h.1, levelled_same (put name before f) (put name before g) (put_same f g same name before) steps level h.2)

-- a write of the list is a write of the table
pub set_is_put : (known : List (Option Known)) (name : ℕ) (to : Option Known) → name < length known → (k : ℕ) → get_or (set known name to) k None ≡ put name to (newest_of known) k
set_is_put known name to within k = by (k == name) refl
  where
    by : (t : Bool) → k == name ≡ t → get_or (set known name to) k None ≡ (if t then to else get_or known k None)
    by true e = let same : k ≡ name = grind (arith, nat_tests) in rw same (get_or-set_same known name to None within)
    by false e = get_or-set_other known name k to None (grind (arith, nat_tests))

pub within : (known : List (Option Known)) (name : ℕ) (newest : Known) → get_or known name None ≡ Some newest → name < length known
within [] name newest e = cc
within (k ∷ ks) zero newest e = omega arith
within (k ∷ ks) (suc name) newest e = let inner = within ks name newest e in omega arith

-- ---- a name is looked up

put_here : (name : ℕ) (known : Option Known) (f : Newest) → put name known f name ≡ known
put_here name known f = by (name == name) refl
  where
    by : (b : Bool) → name == name ≡ b → (if b then known else f name) ≡ known
    by true e = refl
    by false e = absurd (grind (arith, nat_tests))

pub shallow : (f : Newest) (steps : List Step) (level : ℕ) → AreLevelled f steps level → (name : ℕ) (known : Known) → f name ≡ Some known → known.level ≤ level
unfolding AreLevelled
shallow f [] level h name known e = cc (h.1 name)
shallow f (Enter ∷ steps) level h name known e = let below = shallow f steps h.0 h.2 name known e in let l = h.1 in omega arith
shallow f (Declare other before ∷ steps) level h name known e = by (name == other) refl (λ t. shallow (put other before f) steps level h.2 name known (rw t e))
  where
    by : (b : Bool) → name == other ≡ b → (name == other ≡ false → known.level ≤ level) → known.level ≤ level
    by true t rest = let same : name ≡ other = grind (arith, nat_tests) in let top = sym e ∙ ap f same ∙ h.1 in let l : known.level ≡ level = cc in omega arith
    by false t rest = rest t

-- as many blocks are around the innermost one as the level says
pub level_is : (f : Newest) (steps : List Step) (level : ℕ) → AreLevelled f steps level → length (blocks_of f steps).around ≡ level
unfolding AreLevelled blocks_of
level_is f [] level h = sym h.0
level_is f (Enter ∷ steps) level h = ap suc (level_is f steps h.0 h.2) ∙ sym h.1
level_is f (Declare name before ∷ steps) level h = rw h.1 (level_is (put name before f) steps level h.2)

apart : (a b : ℕ) → a == b ≡ false → b == a ≡ false
apart a b e = grind (arith, nat_tests)

equal : (a b : ℕ) → a == b ≡ true → a ≡ b
equal a b e = grind (arith, nat_tests)

whole : (a : ℕ) → a == a ≡ true
whole a = grind (arith, nat_tests)

-- the newest declaration is the innermost meaning
pub finds : (f : Newest) (steps : List Step) (level : ℕ) → AreLevelled f steps level → (name : ℕ) → meaning (blocks_of f steps) name ≡ means_of (f name)
unfolding AreLevelled blocks_of in_block in_blocks
finds f [] level h name = rw (h.1 name) refl
finds f (Enter ∷ steps) level h name = finds f steps h.0 h.2 name
finds f (Declare other before ∷ steps) level h name = by (other == name) refl (finds (put other before f) steps level h.2 name)
  where
    by : (b : Bool) → other == name ≡ b → meaning (blocks_of (put other before f) steps) name ≡ means_of (put other before f name)
        → meaning (with_known other (f other) (blocks_of (put other before f) steps)) name ≡ means_of (f name)
    by true e rest = let same = equal other name e in rw (← same, h.1, whole other) refl
    by false e rest =
        let there : put other before f name ≡ f name = rw (apart other name e) refl in
        rw (h.1, e) (rest ∙ ap means_of there)

above : (level : ℕ) (o : Option Known) → ((known : Known) → o ≡ Some known → known.level ≤ level) → means_at (suc level) o ≡ None
above level None h = refl
above level (Some known) h = let l = h known refl in let e : known.level == suc level ≡ false = grind (arith, nat_tests) in rw e refl

-- it is the innermost block's where its level is
pub finds_in_block : (f : Newest) (steps : List Step) (level : ℕ) → AreLevelled f steps level → (name : ℕ) → in_block (blocks_of f steps).block name ≡ means_at level (f name)
unfolding AreLevelled blocks_of in_block
finds_in_block f [] level h name = rw (h.1 name) refl
finds_in_block f (Enter ∷ steps) level h name = rw h.1 (sym (above h.0 (f name) (shallow f steps h.0 h.2 name)))
finds_in_block f (Declare other before ∷ steps) level h name = by (other == name) refl (finds_in_block (put other before f) steps level h.2 name)
  where
    by : (b : Bool) → other == name ≡ b → in_block (blocks_of (put other before f) steps).block name ≡ means_at level (put other before f name)
        → in_block (with_known other (f other) (blocks_of (put other before f) steps)).block name ≡ means_at level (f name)
    by true e rest = let same = equal other name e in rw (← same, h.1, whole other, whole level) refl
    by false e rest =
        let there : put other before f name ≡ f name = rw (apart other name e) refl in
        rw (h.1, e) (rest ∙ ap (means_at level) there)

-- ---- the newest declaration gets another type

retyped_entered : (name of : ℕ) (b : Blocks) → retyped name of (entered b) ≡ entered (retyped name of b)
unfolding in_block retyped_around
retyped_entered name of b = by (is_in b.block name) refl
  where
    by : (t : Bool) → is_in b.block name ≡ t → retyped name of (entered b) ≡ entered (retyped name of b)
    by true e = rw e refl
    by false e = rw e refl

retyped_first : (name of : ℕ) (means : Meant) (b : Blocks) → retyped name of (with_name name means b) ≡ with_name name (with_type of means) b
unfolding in_block retyped_in
retyped_first name of means b = rw (whole name) refl

retyped_further : (other name of : ℕ) (means : Meant) (b : Blocks) → other == name ≡ false → retyped name of (with_name other means b) ≡ with_name other means (retyped name of b)
unfolding in_block retyped_in
retyped_further other name of means b e = by (is_in b.block name) refl
  where
    by : (t : Bool) → is_in b.block name ≡ t → retyped name of (with_name other means b) ≡ with_name other means (retyped name of b)
    by true t = rw (e, t) refl
    by false t = rw (e, t) refl

put_twice : (name : ℕ) (a b : Option Known) (f : Newest) (k : ℕ) → put name a (put name b f) k ≡ put name a f k
put_twice name a b f k = by (k == name)
  where
    by : (t : Bool) → (if t then a else (if t then b else f k)) ≡ (if t then a else f k)
    by true = refl
    by false = refl

put_apart : (name other : ℕ) (a b : Option Known) (f : Newest) (k : ℕ) → other == name ≡ false → put other a (put name b f) k ≡ put name b (put other a f) k
put_apart name other a b f k e = by (k == other) (k == name) refl refl
  where
    by : (s t : Bool) → k == other ≡ s → k == name ≡ t → (if s then a else (if t then b else f k)) ≡ (if t then b else (if s then a else f k))
    by true true p q = absurd (grind (arith, nat_tests))
    by true false p q = refl
    by false true p q = refl
    by false false p q = refl

module _ (name of : ℕ) where
  pub retypes : (f : Newest) (steps : List Step) (level : ℕ) → AreLevelled f steps level → (known : Known) → f name ≡ Some known
      → blocks_of (put name (Some (with_known_type of known)) f) steps ≡ retyped name of (blocks_of f steps)
  unfolding AreLevelled blocks_of
  retypes f [] level h known e = cc (h.1 name)
  retypes f (Enter ∷ steps) level h known e = ap entered (retypes f steps h.0 h.2 known e) ∙ sym (retyped_entered name of (blocks_of f steps))
  retypes f (Declare other before ∷ steps) level h known e = by (other == name) refl (λ t. retypes (put other before f) steps level h.2 known (rw (apart other name t) e))
    where
      by : (t : Bool) → other == name ≡ t
          → (other == name ≡ false → blocks_of (put name (Some (with_known_type of known)) (put other before f)) steps ≡ retyped name of (blocks_of (put other before f) steps))
          → with_known other (put name (Some (with_known_type of known)) f other) (blocks_of (put other before (put name (Some (with_known_type of known)) f)) steps) ≡ retyped name of (with_known other (f other) (blocks_of (put other before f) steps))
      by true t rest =
          let same = equal other name t in
          subst (λ (n : ℕ). with_known n (put name (Some (with_known_type of known)) f n) (blocks_of (put n before (put name (Some (with_known_type of known)) f)) steps) ≡ retyped name of (with_known n (f n) (blocks_of (put n before f) steps))) (sym same)
          (rw (whole name, e, blocks_same (put name before (put name (Some (with_known_type of known)) f)) (put name before f) (put_twice name before (Some (with_known_type of known)) f) steps)
          (sym (retyped_first name of known.means (blocks_of (put name before f) steps))))
      by false t rest =
          let same = blocks_same (put other before (put name (Some (with_known_type of known)) f)) (put name (Some (with_known_type of known)) (put other before f)) (λ k. put_apart name other before (Some (with_known_type of known)) f k t) steps in
          rw (t, h.1, same, rest t) (sym (retyped_further other name of h.0 (blocks_of (put other before f) steps) t))

  pub levelled : (f : Newest) (steps : List Step) (level : ℕ) → AreLevelled f steps level → (known : Known) → f name ≡ Some known
      → AreLevelled (put name (Some (with_known_type of known)) f) steps level
  unfolding AreLevelled
  levelled f [] level h known e = cc (h.1 name)
  levelled f (Enter ∷ steps) level h known e = (h.0, h.1, levelled f steps h.0 h.2 known e)
  levelled f (Declare other before ∷ steps) level h known e = by (other == name) refl (λ t. levelled (put other before f) steps level h.2 known (rw (apart other name t) e))
    where
      by : (t : Bool) → other == name ≡ t → (other == name ≡ false → AreLevelled (put name (Some (with_known_type of known)) (put other before f)) steps level)
          → AreLevelled (put name (Some (with_known_type of known)) f) (Declare other before ∷ steps) level
      by true t rest =
          let same = equal other name t in
          let top = sym e ∙ ap f (sym same) ∙ h.1 in
          let at : known.level ≡ level = cc in (
            with_type of known.means,
            rw (t, at) refl,
            levelled_same (put other before f) (put other before (put name (Some (with_known_type of known)) f))
                (λ k. sym (subst (λ (n : ℕ). put n before (put name (Some (with_known_type of known)) f) k ≡ put n before f k) (sym same) (put_twice name before (Some (with_known_type of known)) f k))) steps level h.2,
          )
      by false t rest = (
        h.0,
        rw t h.1,
        levelled_same (put name (Some (with_known_type of known)) (put other before f)) (put other before (put name (Some (with_known_type of known)) f))
            (λ k. sym (put_apart name other before (Some (with_known_type of known)) f k t)) steps level (rest t),
      )

-- ---- one step more or less at the end of the list

pub reverse_last : (steps : List Step) (step : Step) → reverse (steps ++ step ∷ []) ≡ step ∷ reverse steps
reverse_last steps step = reverse-append steps (step ∷ [])

pub entered_levelled : (f : Newest) (steps : List Step) (level next : ℕ) → next ≡ level + 1 → AreLevelled f (reverse steps) level → AreLevelled f (reverse (steps ++ Enter ∷ [])) next
unfolding AreLevelled
entered_levelled f steps level next e h = rw (reverse_last steps Enter) (level, omega arith, h)

pub entered_blocks : (f : Newest) (steps : List Step) → blocks_of f (reverse (steps ++ Enter ∷ [])) ≡ entered (blocks_of f (reverse steps))
unfolding blocks_of
entered_blocks f steps = rw (reverse_last steps Enter) refl

-- the table f becomes g, where the name has this declaration
module _ (f g : Newest) (name level : ℕ) (means : Meant) (becomes : (k : ℕ) → g k ≡ put name (Some (record { level = level; means = means })) f k) where
  undone : (k : ℕ) → put name (f name) g k ≡ f k
  undone k = by (k == name) refl
    where
      by : (t : Bool) → k == name ≡ t → (if t then f name else g k) ≡ f k
      by true e = ap f (sym (equal k name e))
      by false e = becomes k ∙ rw e refl

  newest_is : g name ≡ Some (record { level = level; means = means })
  newest_is = becomes name ∙ rw (whole name) refl

  pub declared_levelled : (steps : List Step) → AreLevelled f (reverse steps) level → AreLevelled g (reverse (steps ++ Declare name (f name) ∷ [])) level
  unfolding AreLevelled
  declared_levelled steps h =
      rw (reverse_last steps (Declare name (f name))) (means, newest_is, levelled_same f (put name (f name) g) (λ k. sym (undone k)) (reverse steps) level h)

  pub declared_blocks : (steps : List Step) → blocks_of g (reverse (steps ++ Declare name (f name) ∷ [])) ≡ with_name name means (blocks_of f (reverse steps))
  unfolding blocks_of
  declared_blocks steps =
      rw (reverse_last steps (Declare name (f name)), newest_is, blocks_same (put name (f name) g) f undone (reverse steps)) refl

-- what is left in hand where a block is being ended: its own level, and the blocks around it
pub record IsEnding (f : Newest) (steps : List Step) (level : ℕ) (around : List (List Named)) : Type 0 where
  pub levelled : AreLevelled f (reverse steps) level
  pub around_is : (blocks_of f (reverse steps)).around ≡ around

pub ends_by_name : (f g : Newest) (steps rest : List Step) (level name : ℕ) (before : Option Known) (around : List (List Named))
    → steps ≡ rest ++ Declare name before ∷ [] → ((k : ℕ) → g k ≡ put name before f k) → IsEnding f steps level around → IsEnding g rest level around
unfolding AreLevelled blocks_of
ends_by_name f g steps rest level name before around e becomes h =
    let inner = rw (e, reverse_last rest (Declare name before)) at h.levelled in
    let outer = rw (e, reverse_last rest (Declare name before), inner.1) at h.around_is in
    record {
      levelled = levelled_same (put name before f) g (λ k. sym (becomes k)) (reverse rest) level inner.2;
      around_is = rw (blocks_same g (put name before f) becomes (reverse rest)) outer;
    }

pub name_known : (known : List (Option Known)) (steps rest : List Step) (level name : ℕ) (before : Option Known)
    → steps ≡ rest ++ Declare name before ∷ [] → AreLevelled (newest_of known) (reverse steps) level → name < length known
unfolding AreLevelled
name_known known steps rest level name before e h =
    let inner = rw (e, reverse_last rest (Declare name before)) at h in within known name (record { level = level; means = inner.0 }) inner.1

-- the block's beginning is found
pub record HasEnded (f : Newest) (rest : List Step) (level : ℕ) (around : List (List Named)) : Type 0 where
  pub below : ℕ
  pub level_is : level ≡ suc below
  pub levelled : AreLevelled f (reverse rest) below
  pub left_is : (b : Blocks) → blocks_of f (reverse rest) ≡ left_to around b

pub ends_by_enter : (f : Newest) (steps rest : List Step) (level : ℕ) (around : List (List Named)) → steps ≡ rest ++ Enter ∷ [] → IsEnding f steps level around → HasEnded f rest level around
unfolding AreLevelled blocks_of
ends_by_enter f steps rest level around e h =
    let inner = rw (e, reverse_last rest Enter) at h.levelled in
    let outer = rw (e, reverse_last rest Enter) at h.around_is in
    record { below = inner.0; level_is = inner.1; levelled = inner.2; left_is = λ b. rw (← outer) refl }

pub ends_nowhere : (f : Newest) (steps : List Step) (level : ℕ) (around : List (List Named)) → steps ≡ [] → IsEnding f steps level around → 1 ≤ length around → ⊥
unfolding blocks_of
ends_nowhere f steps level around e h l = let none = rw e at h.around_is in let m = rw (← none) at l in omega arith
