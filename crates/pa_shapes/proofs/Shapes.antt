-- What stands beside a number of a type is what the table says of the type, also while the table grows.
use Rattle.std.proofs.Common.{◌≡◌, ℕ, ◌<◌, ◌≤◌, Bool, List, length, Option, Some, None, option_map, refl, sym, ap, ◌∙◌, subst, arith, ◌⊎◌, inl, inr}
use Rattle.pa_pac.specs.declared.schema.Schema.{Schema}
use Rattle.pa_ctype.specs.declared.ctype.Layout.{Layout}
use Rattle.pa_ctype.specs.declared.node.Shape.{Shape}
use Rattle.pa_ctype.specs.declared.node.Shape.TheVariants as shape
use Rattle.pa_ctype.specs.Types.{TypeTree, Of, FormTree, Void, Boolean, Integer, Pointer, Array, Struct, Function}
use Rattle.pa_ctype.specs.Layouts.{Table, layout_in, table_of}
use Rattle.pa_ctype.specs.Nodes.{Fits}
use Rattle.pa_ctype.specs.Shapes.{form_shape, shape_of, stepless, IsShape}
use Rattle.pa_ctype.specs.Tables.{TypeTable, ForTypes, ForStructs}
use Rattle.pa_ctype.proofs.Laws.{Keeps}
use Rattle.pa_typed.specs.declared.expr.ExprType.{ExprType}
use Rattle.pa_shapes.specs.TypesIn.{IsTypeOf}

-- ---- what a shape says of the type

pub integer_shape : (table : Table) (t : TypeTree) (bits : ℕ) (signed : Bool) → IsShape table t (shape.Int bits signed) → (c : Bool) × (t ≡ Of c (Integer bits signed))
integer_shape table (Of c Void) bits signed (inl e) = cc
integer_shape table (Of c Void) bits signed (inr e) = cc
integer_shape table (Of c Boolean) bits signed (inl e) = cc
integer_shape table (Of c Boolean) bits signed (inr e) = cc
integer_shape table (Of c (Integer m s)) bits signed (inl e) = (c, cc)
integer_shape table (Of c (Integer m s)) bits signed (inr e) = (c, cc)
integer_shape table (Of c (Pointer to s)) bits signed (inl e) = cc
integer_shape table (Of c (Pointer to s)) bits signed (inr e) = cc
integer_shape table (Of c (Array of count)) bits signed (inl e) = cc
integer_shape table (Of c (Array of count)) bits signed (inr e) = cc
integer_shape table (Of c (Struct id)) bits signed (inl e) = cc
integer_shape table (Of c (Struct id)) bits signed (inr e) = cc
integer_shape table (Of c (Function params result)) bits signed (inl e) = cc
integer_shape table (Of c (Function params result)) bits signed (inr e) = cc

abbrev size_in : Table → TypeTree → Option ℕ
size_in table t = option_map (λ (l : Layout). l.size) (layout_in table t)

-- a pointer's schema, and where there is a step the bytes of what it points to
pub pointer_shape : (table : Table) (t : TypeTree) (step : Option ℕ) (schema : Option Schema) → IsShape table t (shape.Pointer step schema)
    → (c : Bool) × (to : TypeTree) × (t ≡ Of c (Pointer to schema)) × ((k : ℕ) → step ≡ Some k → size_in table to ≡ Some k)
pointer_shape table (Of c Void) step schema (inl e) = cc
pointer_shape table (Of c Void) step schema (inr e) = cc
pointer_shape table (Of c Boolean) step schema (inl e) = cc
pointer_shape table (Of c Boolean) step schema (inr e) = cc
pointer_shape table (Of c (Integer m s)) step schema (inl e) = cc
pointer_shape table (Of c (Integer m s)) step schema (inr e) = cc
pointer_shape table (Of c (Pointer to s)) step schema (inl e) =
    let same : step ≡ size_in table to = cc in
    let z : schema ≡ s = cc in
    (c, to, ap (λ s. Of c (Pointer to s)) (sym z), λ k f. sym same ∙ f)
pointer_shape table (Of c (Pointer to s)) step schema (inr e) =
    let none : step ≡ None = cc in
    let z : schema ≡ s = cc in
    (c, to, ap (λ s. Of c (Pointer to s)) (sym z), λ k f. let w : None ≡ Some k = sym none ∙ f in cc)
pointer_shape table (Of c (Array of count)) step schema (inl e) = cc
pointer_shape table (Of c (Array of count)) step schema (inr e) = cc
pointer_shape table (Of c (Struct id)) step schema (inl e) = cc
pointer_shape table (Of c (Struct id)) step schema (inr e) = cc
pointer_shape table (Of c (Function params result)) step schema (inl e) = cc
pointer_shape table (Of c (Function params result)) step schema (inr e) = cc

-- the shape of a type as the table says it
pub exact_type : (t : TypeTable) (of : ExprType) → of.number < length t.nodes → ForStructs t (λ table m. of.shape ≡ shape_of table (m of.number)) → IsTypeOf t of
exact_type t of h is = record { known = h; shape = λ names m fits. inl (is names m fits) }

-- ---- a table that grows

-- where the types that had layouts keep them
pub shape_keeps : (table more : Table) → Keeps (layout_in table) (layout_in more) → (t : TypeTree) (s : Shape) → IsShape table t s → IsShape more t s
shape_keeps table more keeps (Of c Void) s h = h
shape_keeps table more keeps (Of c Boolean) s h = h
shape_keeps table more keeps (Of c (Integer bits signed)) s h = h
shape_keeps table more keeps (Of c (Array of count)) s h = h
shape_keeps table more keeps (Of c (Struct id)) s h = h
shape_keeps table more keeps (Of c (Function params result)) s h = h
shape_keeps table more keeps (Of c (Pointer to schema)) s (inr e) = inr e
shape_keeps table more keeps (Of c (Pointer to schema)) s (inl e) = by_layout (layout_in table to) refl
  where
    by_layout : (o : Option Layout) → layout_in table to ≡ o → IsShape more (Of c (Pointer to schema)) s
    by_layout None f = inr (e ∙ ap (λ o. shape.Pointer (option_map (λ (l : Layout). l.size) o) schema) f)
    by_layout (Some l) f = inl (e ∙ ap (λ o. shape.Pointer (option_map (λ (l : Layout). l.size) o) schema) (f ∙ sym (keeps to l f)))

pub type_keeps : (old new : TypeTable) → length old.nodes ≤ length new.nodes → ForTypes new (λ m. Fits m old.nodes)
    → ((names : ℕ → List ℕ) (m : ℕ → TypeTree) → Fits m new.nodes → Keeps (layout_in (table_of names m old.structs)) (layout_in (table_of names m new.structs)))
    → (of : ExprType) → IsTypeOf old of → IsTypeOf new of
type_keeps old new longer grows keeps of h =
    let k = h.known in
    record {
      known = omega (arith, k);
      shape = λ names m fits. shape_keeps (table_of names m old.structs) (table_of names m new.structs) (keeps names m fits) (m of.number) of.shape (h.shape names m (grows m fits));
    }

-- where only types were added
pub type_stays : (old new : TypeTable) → length old.nodes ≤ length new.nodes → ForTypes new (λ m. Fits m old.nodes) → new.structs ≡ old.structs → (of : ExprType) → IsTypeOf old of → IsTypeOf new of
type_stays old new longer grows same = type_keeps old new longer grows (λ names m fits t l e. subst (λ structs. layout_in (table_of names m structs) t ≡ Some l) (sym same) e)
