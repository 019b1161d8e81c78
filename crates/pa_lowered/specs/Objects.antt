-- How values and objects of C's meaning stand to those of flat code (C11 6.2.6, 6.2.4).
use Rattle.std.specs.Prelude.{◌≡◌, ◌<◌, ℕ, ℤ, true, false, ◌&&◌, IsTrue, List, [], ◌∷◌, length, slice_get, Option, Some, None}
use Rattle.pa_ctype.specs.Types.{TypeTree, Of, Boolean, Integer, Pointer}
use Rattle.pa_ctype.specs.Values as value
use Rattle.pa_ctype.specs.Values.{Local, Place, CValue, Cell, object_of}
use Rattle.pa_integer.specs.Integers.{is_width, is_in_range, residue}
use Rattle.pa_lir.specs.Values as flat
use Rattle.pa_lir.specs.Values.{FlatValue, Byte, value_in, plain}
use Rattle.pa_lower.specs.Operations.{bytes_of, is_signed}
use Rattle.pa_lower.specs.Programs.{is_integer}

-- ---- the map of objects

-- Objects have numbers in both meanings. A block's local is a new object each time that the block is entered; in flat code it lies
-- in one object from the entry of its function to the return. So a map says in which object of flat code a local object lies.
abbrev pub Map : Type 0
Map = ℕ → Option ℕ

-- it says the same, and more perhaps
abbrev pub Grows : Map → Map → Type 0
Grows m k = (o p : ℕ) → m o ≡ Some p → k o ≡ Some p

-- ---- values

-- a number of the type
abbrev pub IsOf : TypeTree → ℤ → Type 0
IsOf (Of constant (Integer bits signed)) z = IsTrue (is_width bits && is_in_range bits signed z)
IsOf (Of constant Boolean) z = IsTrue (is_in_range 1 false z)
IsOf _ z = ⊥

-- The first byte of a local, in the object that the local lies in: a program of integers has no other places.
pub record IsPlace (m : Map) (place : Place) (u : FlatValue) : Type 0 where
  pub number : ℕ
  pub within : ℕ
  pub owner : place.owner ≡ Local number
  pub first : place.offset ≡ 0
  pub lies : m number ≡ Some within
  pub is : u ≡ flat.At within 0

-- a type of pointers
abbrev pub IsAddress : TypeTree → Type 0
IsAddress (Of constant (Pointer to schema)) = Unit {0}
IsAddress _ = ⊥

-- A number stands as its 64 bits in two's complement, null as 0, a function under the schema of plain pointers.
abbrev pub Stands : Map → TypeTree → CValue → FlatValue → Type 0
Stands m of (value.Number z) u = IsOf of z × (u ≡ flat.Number (residue 64 z))
Stands m of (value.At place) u = IsAddress of × IsPlace m place u
Stands m of (value.Code name) u = IsAddress of × (u ≡ flat.Code name plain)
Stands m of value.Null u = IsAddress of × (u ≡ flat.Number 0)

-- ---- objects

-- bytes that hold what stands for the value of a cell, if it has one
abbrev pub HasValue : Map → TypeTree → Option CValue → List Byte → Type 0
HasValue m of None bs = Unit {0}
HasValue m of (Some v) bs = (u : FlatValue) × Stands m of v u × (value_in (is_signed of) bs ≡ Some u)

-- A living object of an integer type has one cell, of all its bytes, and may be written.
pub record IsObject (m : Map) (x : value.Object) (y : flat.Object) : Type 0 where
  pub alive : y.alive ≡ true
  pub mutable : y.constant ≡ false
  pub cell : Cell
  pub only : x.cells ≡ cell ∷ []
  pub first : cell.at ≡ 0
  pub integer : IsTrue (is_integer cell.of)
  pub size : x.size ≡ bytes_of cell.of
  pub value : HasValue m cell.of cell.value y.bytes

-- the local object of this number, dead perhaps
abbrev pub IsLocal : value.Objects → ℕ → value.Object → Type 0
IsLocal os o x = object_of os (Local o) ≡ Some x

-- the object of flat code that one lies in has its size
pub record Has (m : Map) (os : value.Objects) (qs : flat.Objects) (o p : ℕ) : Type 0 where
  pub object : value.Object
  pub flat : flat.Object
  pub is : IsLocal os o object
  pub flat_is : slice_get qs p ≡ Some flat
  pub size : length flat.bytes ≡ object.size
  pub living : object.alive ≡ true → IsObject m object flat

-- All objects of a run. `who` says of each object of flat code which object lies in it now: of the living ones no two lie in one.
pub record HasObjects (m : Map) (who : ℕ → Option ℕ) (os : value.Objects) (qs : flat.Objects) : Type 0 where
  pub numbers : (o : ℕ) (x : value.Object) → IsLocal os o x → o < length os
  pub mapped : (o p : ℕ) → m o ≡ Some p → Has m os qs o p
  pub lies : (o p : ℕ) (x : value.Object) → IsLocal os o x → x.alive ≡ true → m o ≡ Some p → who p ≡ Some o
