-- What a name means by its number is what it means by its text.
use Rattle.std.proofs.Common.{◌≡◌, ℕ, suc, max, ◌≤◌, ◌<◌, ◌==◌, ◌||◌, Bool, true, false, if◌then◌else◌, List, [], ◌∷◌, ◌++◌, map, Option, Some, None, refl, sym, ap, ◌∙◌, arith, eq-eqb, eqb-true}
use Rattle.std.specs.Option.{option_map}
use Rattle.std.specs.Str.{bytes_eq}
use Rattle.std.proofs.lemmas.Slice.Eq.{bytes_eq-Decides}
use Rattle.pa_ctype.specs.Types.{TypeTree}
use Rattle.pa_ctype.specs.Tables.{AreApart}
use Rattle.pa_blocks.specs.Blocks.{Named, Blocks, or_else, block_names, around_names, names_bound}
use Rattle.pa_blocks.specs.Blocks as by_number
use Rattle.pa_scope.specs.Numbered.{id_of, has_tag, meaning_of, block_of, struct_tag_of, tag_names, tag_ids, enum_names}
use Rattle.pa_scope.specs.Scope.{in_block, in_blocks, tag_in, has_name}

-- numbers that stand for different names tell names apart
pub test_same : (n : ℕ) (names : ℕ → List ℕ) → AreApart n names → (a b : ℕ) → a < n → b < n → (a == b) ≡ bytes_eq (names a) (names b)
test_same n names apart a b h g = by (a == b) refl (bytes_eq (names a) (names b)) refl
  where
    by : (x : Bool) → (a == b) ≡ x → (y : Bool) → bytes_eq (names a) (names b) ≡ y → (a == b) ≡ bytes_eq (names a) (names b)
    by true e true f = e ∙ sym f
    by false e false f = e ∙ sym f
    by true e false f = e ∙ sym (ap (λ i. bytes_eq (names i) (names b)) (eqb-true a b e) ∙ (bytes_eq-Decides (names b) (names b)).1 refl)
    by false e true f = eq-eqb a b (apart a b h g ((bytes_eq-Decides (names a) (names b)).0 f)) ∙ sym f

map_if : {A B : Type 0} (f : A → B) (t : Bool) (a b : Option A) → (if t then option_map f a else option_map f b) ≡ option_map f (if t then a else b)
map_if f true a b = refl
map_if f false a b = refl

map_or_else : {A B : Type 0} (f : A → B) (a b : Option A) → or_else (option_map f a) (option_map f b) ≡ option_map f (or_else a b)
map_or_else f None b = refl
map_or_else f (Some a) b = refl

swapped : (a b : ℕ) → (a == b) ≡ (b == a)
swapped a b = by (a == b) refl
  where
    by : (x : Bool) → (a == b) ≡ x → (a == b) ≡ (b == a)
    by true e = e ∙ sym (eq-eqb b a (sym (eqb-true a b e)))
    by false e = not_equal (b == a) refl
      where
        not_equal : (y : Bool) → (b == a) ≡ y → (a == b) ≡ (b == a)
        not_equal true f = eq-eqb a b (sym (eqb-true b a f)) ∙ sym f
        not_equal false f = e ∙ sym f

either : (a b : Bool) → (if a then true else b) ≡ (a || b)
either true b = refl
either false b = refl

module _ (n : ℕ) (names : ℕ → List ℕ) (m : ℕ → TypeTree) (apart : AreApart n names) (name : ℕ) (known : name < n) where
  pub in_block_is : (block : List Named) → block_names block ≤ n → in_block (block_of names m block) (names name) ≡ option_map (meaning_of m) (by_number.in_block block name)
  unfolding in_block by_number.in_block
  in_block_is [] h = refl
  in_block_is (d ∷ ds) h =
      rw (← test_same n names apart d.name name (omega arith) known, in_block_is ds (omega arith)) (map_if (meaning_of m) (d.name == name) (Some d.means) (by_number.in_block ds name))

  pub in_blocks_is : (blocks : List (List Named)) → around_names blocks ≤ n → in_blocks (map (block_of names m) blocks) (names name) ≡ option_map (meaning_of m) (by_number.in_blocks blocks name)
  unfolding in_blocks by_number.in_blocks
  in_blocks_is [] h = refl
  in_blocks_is (block ∷ blocks) h =
      rw (in_block_is block (omega arith), in_blocks_is blocks (omega arith)) (map_or_else (meaning_of m) (by_number.in_block block name) (by_number.in_blocks blocks name))

  pub meaning_is : (b : Blocks) → names_bound b ≤ n → or_else (in_block (block_of names m b.block) (names name)) (in_blocks (map (block_of names m) b.around) (names name)) ≡ option_map (meaning_of m) (by_number.meaning b name)
  meaning_is b h =
      rw (in_block_is b.block (omega arith), in_blocks_is b.around (omega arith)) (map_or_else (meaning_of m) (by_number.in_block b.block name) (by_number.in_blocks b.around name))

  pub tag_is : (tags : List (ℕ × ℕ)) → tag_names tags ≤ n → tag_in (map (struct_tag_of names m) tags) (names name) ≡ id_of tags name
  unfolding tag_in
  tag_is [] h = refl
  tag_is (t ∷ ts) h = rw (← test_same n names apart t.0 name (omega arith) known, tag_is ts (omega arith), swapped t.0 name) refl

  pub enum_is : (tags : List ℕ) → enum_names tags ≤ n → has_name (map names tags) (names name) ≡ has_tag tags name
  unfolding has_name
  enum_is [] h = refl
  enum_is (t ∷ ts) h = rw (← test_same n names apart t name (omega arith) known, enum_is ts (omega arith), swapped t name) (either (name == t) (has_tag ts name))

-- a tag's id is below the bound
pub id_below : (tags : List (ℕ × ℕ)) (tag id : ℕ) → id_of tags tag ≡ Some id → id < tag_ids tags
id_below [] tag id e = cc
id_below (t ∷ ts) tag id e = by (tag == t.0) (id_below ts tag id) e
  where
    by : (b : Bool) → (id_of ts tag ≡ Some id → id < tag_ids ts) → (if b then Some t.1 else id_of ts tag) ≡ Some id → id < max (suc t.1) (tag_ids ts)
    by true h e = let same : t.1 ≡ id = cc in omega arith
    by false h e = let below = h e in omega arith

-- one more at the end
pub tag_names_more : (tags : List (ℕ × ℕ)) (tag id : ℕ) → tag_names (tags ++ (tag, id) ∷ []) ≡ max (tag_names tags) (suc tag)
tag_names_more [] tag id = omega arith
tag_names_more (t ∷ ts) tag id = let e = tag_names_more ts tag id in omega arith

pub tag_ids_more : (tags : List (ℕ × ℕ)) (tag id : ℕ) → tag_ids (tags ++ (tag, id) ∷ []) ≡ max (tag_ids tags) (suc id)
tag_ids_more [] tag id = omega arith
tag_ids_more (t ∷ ts) tag id = let e = tag_ids_more ts tag id in omega arith

pub enum_names_more : (tags : List ℕ) (tag : ℕ) → enum_names (tags ++ tag ∷ []) ≡ max (enum_names tags) (suc tag)
enum_names_more [] tag = omega arith
enum_names_more (t ∷ ts) tag = let e = enum_names_more ts tag in omega arith
