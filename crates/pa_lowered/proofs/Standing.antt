-- Values of C's meaning in temporaries: kept where the map grows, and what no operation wrote.
use Rattle.std.proofs.Common.{◌≡◌, ℕ, suc, ◌<◌, ◌∷◌, refl, ◌∙◌, arith, Option, Some, None}
use Rattle.pa_ctype.specs.Types.{TypeTree, Of, Void, Boolean, Integer, Pointer, Array, Struct, Function}
use Rattle.pa_ctype.specs.Values as value
use Rattle.pa_ctype.specs.Values.{Place, CValue}
use Rattle.pa_lir.specs.Values.{FlatValue}
use Rattle.pa_lir.specs.Meaning.{temp_in}
use Rattle.pa_lower.specs.Temporaries.{Room, next_room}
use Rattle.pa_lowered.specs.Objects.{Map, Grows, IsPlace, Stands}
use Rattle.pa_lowered.specs.Calls.{Temps}
use Rattle.pa_lowered.specs.Simulates.{IsIn, IsRoom, Keeps, HasSame}
use Rattle.pa_lowered.proofs.Containing.{temp_other}

-- ---- values

-- there is a value of the type
abbrev pub IsVoid : TypeTree → Type 0
IsVoid (Of constant Void) = Unit {0}
IsVoid of = ⊥

pub place_grown : (m k : Map) (place : Place) (u : FlatValue) → Grows m k → IsPlace m place u → IsPlace k place u
place_grown m k place u g h = record { number = h.number; within = h.within; owner = h.owner; first = h.first; lies = g h.number h.within h.lies; is = h.is }

pub stands_grown : (m k : Map) (of : TypeTree) (v : CValue) (u : FlatValue) → Grows m k → Stands m of v u → Stands k of v u
stands_grown m k of (value.Number z) u g h = h
stands_grown m k of (value.At place) u g h = (h.0, place_grown m k place u g h.1)
stands_grown m k of (value.Code name) u g h = h
stands_grown m k of value.Null u g h = h

-- a value in a temporary is what an expression of the type has there, void or not
pub stands_in : (m : Map) (of : TypeTree) (v : CValue) (u : FlatValue) (o : Option FlatValue) → o ≡ Some u → Stands m of v u → IsIn m of v o
stands_in m (Of c Void) v u o e h = tt
stands_in m (Of c Boolean) v u o e h = (u, e, h)
stands_in m (Of c (Integer bits signed)) v u o e h = (u, e, h)
stands_in m (Of c (Pointer to schema)) v u o e h = (u, e, h)
stands_in m (Of c (Array of count)) v u o e h = (u, e, h)
stands_in m (Of c (Struct id)) v u o e h = (u, e, h)
stands_in m (Of c (Function params result)) v u o e h = (u, e, h)

-- the temporary has one where the type isn't void
pub has_value : (m : Map) (of : TypeTree) (v : CValue) (o : Option FlatValue) → (IsVoid of → ⊥) → IsIn m of v o → (u : FlatValue) × (o ≡ Some u) × Stands m of v u
has_value m (Of c Void) v o some h = absurd (some tt)
has_value m (Of c Boolean) v o some h = h
has_value m (Of c (Integer bits signed)) v o some h = h
has_value m (Of c (Pointer to schema)) v o some h = h
has_value m (Of c (Array of count)) v o some h = h
has_value m (Of c (Struct id)) v o some h = h
has_value m (Of c (Function params result)) v o some h = h

pub in_later : (m k : Map) (of : TypeTree) (v : CValue) (o p : Option FlatValue) → Grows m k → p ≡ o → IsIn m of v o → IsIn k of v p
in_later m k (Of c Void) v o p g e h = tt
in_later m k (Of c Boolean) v o p g e h = (h.0, e ∙ h.1, stands_grown m k (Of c Boolean) v h.0 g h.2)
in_later m k (Of c (Integer bits signed)) v o p g e h = (h.0, e ∙ h.1, stands_grown m k (Of c (Integer bits signed)) v h.0 g h.2)
in_later m k (Of c (Pointer to schema)) v o p g e h = (h.0, e ∙ h.1, stands_grown m k (Of c (Pointer to schema)) v h.0 g h.2)
in_later m k (Of c (Array of count)) v o p g e h = (h.0, e ∙ h.1, stands_grown m k (Of c (Array of count)) v h.0 g h.2)
in_later m k (Of c (Struct id)) v o p g e h = (h.0, e ∙ h.1, stands_grown m k (Of c (Struct id)) v h.0 g h.2)
in_later m k (Of c (Function params result)) v o p g e h = (h.0, e ∙ h.1, stands_grown m k (Of c (Function params result)) v h.0 g h.2)

-- ---- rooms

pub next_is_room : (r : Room) → IsRoom r → IsRoom (next_room r)
next_is_room r h = record { to = omega arith; spare = λ t e. cc; same = λ t e. let below = (h.same t e).0 in (omega arith, (λ q. omega arith), (λ q. cc)) }

pub keeps_same : (r : Room) (ts : Temps) → Keeps r ts ts
keeps_same r ts t below other spare = refl

pub keeps_twice : (r : Room) (a b c : Temps) → Keeps r a b → Keeps r b c → Keeps r a c
keeps_twice r a b c h k t below other spare = k t below other spare ∙ h t below other spare

-- the value itself, or one that is free, is written
pub keeps_value : (r : Room) (a b : Temps) (u : FlatValue) → Keeps r a b → Keeps r a ((r.to, u) ∷ b)
keeps_value r a b u h t below other spare = temp_other b r.to t u other ∙ h t below other spare

pub keeps_free : (r : Room) (a b : Temps) (i : ℕ) (u : FlatValue) → r.free < suc i → Keeps r a b → Keeps r a ((i, u) ∷ b)
keeps_free r a b i u free h t below other spare = temp_other b i t u (λ e. omega arith) ∙ h t below other spare

-- the part behind keeps what waits for it
pub keeps_next : (r : Room) (a b : Temps) → Keeps (next_room r) a b → (t : ℕ) → t < r.free → temp_in b t ≡ temp_in a t
keeps_next r a b h t below = h t (omega arith) (λ e. omega arith) (λ e. cc)

-- ---- the place of the store around

pub same_later : (m k : Map) (same : Option Place) (r : Room) (a b : Temps) → IsRoom r → Grows m k → Keeps r a b → HasSame m same r a → HasSame k same r b
same_later m k None r a b room g kept h = tt
same_later m k (Some place) r a b room g kept h =
    let apart = room.same h.0 h.2 in
    (h.0, h.1, h.2, kept h.0 apart.0 apart.1 apart.2 ∙ h.3, place_grown m k place h.1 g h.4)

pub same_next : (m : Map) (same : Option Place) (r : Room) (a : Temps) → HasSame m same r a → HasSame m same (next_room r) a
same_next m None r a h = tt
same_next m (Some place) r a h = h
