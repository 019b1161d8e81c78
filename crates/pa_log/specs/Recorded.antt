-- What a log shows.
use Rattle.std.specs.Prelude.{ℕ}
use Rattle.pa_pac.specs.Log.{Log}

-- its entries, the newest first, and for how many more there is room
pub record Recorded : Type 0 where
  pub entries : Log
  pub spare : ℕ
