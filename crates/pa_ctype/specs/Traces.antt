-- What a run of a program of C shows of its calls and of its qualified pointers to functions.
use Rattle.std.specs.Prelude.{ℕ, List, Option}
use Rattle.pa_pac.specs.declared.schema.Schema.{Schema}
use Rattle.pa_ctype.specs.Values.{Place}

-- the schema of a qualified pointer and the place that it is stored at
pub record Under : Type 0 where
  pub schema : Schema
  pub place : Place

-- A function is entered, one of the runtime's too. A qualified pointer to a function is loaded and isn't null; its schema is
-- another than that of plain pointers (key IA, no address, discriminator 0). A function is called by pointer, after its
-- arguments; the schema and the place are named where the called expression is a load of a qualified pointer, of any schema.
pub data Seen : Type 0 where
  Enter : (name : List ℕ) → Seen
  Load : (schema : Schema) (place : Place) (name : List ℕ) → Seen
  Call : (name : List ℕ) (under : Option Under) → Seen

-- in order
abbrev pub Trace : Type 0
Trace = List Seen
