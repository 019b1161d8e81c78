-- The text that a run prints: its output, its end, what its log holds of each kind, and the lines of the log.
use Rattle.std.specs.Prelude.{ℕ, List, [], ◌++◌, length, reverse, flat_map, count_by, Bool, true, false, not, ◌||◌, if◌then◌else◌, codes, decimal}
use Rattle.std.specs.Fmt.{signed_decimal}
use Rattle.std.specs.Int.{w64, to_be_bytes}
use Rattle.hex.specs.Hex.{encode_lower}
use Rattle.pa_pac.specs.declared.key.Key.{Key}
use Rattle.pa_pac.specs.declared.key.Key.TheVariants.{IA, IB, DA, DB, GA}
use Rattle.pa_pac.specs.declared.event.Way.{Way}
use Rattle.pa_pac.specs.declared.event.Way.TheVariants.{Call, Jump, Return}
use Rattle.pa_pac.specs.declared.event.Event.{Event}
use Rattle.pa_pac.specs.declared.event.Event.TheVariants.{Sign, Take, Land}
use Rattle.pa_pac.specs.declared.event.When.{When}
use Rattle.pa_pac.specs.declared.event.When.TheVariants.{Load, Step}
use Rattle.pa_pac.specs.declared.event.Entry.{Entry}
use Rattle.pa_pac.specs.Log.{Log}
use Rattle.pa_object.specs.declared.end.End.{End}
use Rattle.pa_object.specs.declared.end.End.TheVariants as end
use Rattle.pa_object.specs.declared.end.Trap.{Trap}
use Rattle.pa_object.specs.declared.end.Trap.TheVariants.{AuthFail, DataAbort, FetchAbort, BadWord, Break}

-- ---- words

abbrev pub key_text : Key → List ℕ
key_text IA = codes "ia"
key_text IB = codes "ib"
key_text DA = codes "da"
key_text DB = codes "db"
key_text GA = codes "ga"

abbrev pub way_text : Way → List ℕ
way_text Call = codes "call"
way_text Jump = codes "jump"
way_text Return = codes "return"

abbrev pub trap_text : Trap → List ℕ
trap_text AuthFail = codes "auth_fail"
trap_text DataAbort = codes "data_abort"
trap_text FetchAbort = codes "fetch_abort"
trap_text BadWord = codes "bad_word"
trap_text Break = codes "break"

abbrev pub end_text : End → List ℕ
end_text (end.Exit status) = codes "exit " ++ signed_decimal status
end_text (end.Trap trap) = codes "trap " ++ trap_text trap
end_text end.Bound = codes "bound"

-- the number of the instruction
abbrev pub when_text : When → List ℕ
when_text Load = codes "load"
when_text (Step number) = decimal number

-- the eight bytes of an address, the highest first, as 16 hexadecimal digits
abbrev pub address_text : ℕ → List ℕ
address_text value = encode_lower (to_be_bytes w64 value)

abbrev pub known_text : Bool → List ℕ
known_text known = if known then codes "known" else codes "UNSIGNED"

-- ---- the lines of the log

abbrev pub event_text : Event → List ℕ
event_text (Sign key modifier raw signed) =
    codes "sign " ++ key_text key ++ codes " " ++ address_text modifier ++ codes " " ++ address_text raw ++ codes " " ++ address_text signed
event_text (Take key modifier raw known) =
    codes "take " ++ key_text key ++ codes " " ++ address_text modifier ++ codes " " ++ address_text raw ++ codes " " ++ known_text known
event_text (Land way target) = codes "land " ++ way_text way ++ codes " " ++ address_text target

abbrev pub line_text : Entry → List ℕ
line_text entry = when_text entry.when ++ codes " " ++ event_text entry.event ++ codes "\n"

-- ---- what the log holds of each kind

abbrev pub is_sign : Event → Bool
is_sign (Sign key modifier raw signed) = true
is_sign (Take key modifier raw known) = false
is_sign (Land way target) = false

abbrev pub is_take : Event → Bool
is_take (Sign key modifier raw signed) = false
is_take (Take key modifier raw known) = true
is_take (Land way target) = false

abbrev pub is_land : Event → Bool
is_land (Sign key modifier raw signed) = false
is_land (Take key modifier raw known) = false
is_land (Land way target) = true

-- an authentication that was accepted though nothing had signed the like
abbrev pub is_unsigned : Event → Bool
is_unsigned (Sign key modifier raw signed) = false
is_unsigned (Take key modifier raw known) = not known
is_unsigned (Land way target) = false

abbrev pub count_of : (Event → Bool) → Log → ℕ
count_of kind log = count_by (λ (entry : Entry). kind entry.event) log

unfoldable pub counts_line : Log → List ℕ
counts_line log =
    codes "signs " ++ decimal (count_of is_sign log) ++ codes " takes " ++ decimal (count_of is_take log)
    ++ codes " lands " ++ decimal (count_of is_land log) ++ codes " unsigned " ++ decimal (count_of is_unsigned log) ++ codes "\n"

-- ---- the report

-- a short report has the lines of the unsigned takes alone
abbrev pub shown_text : Bool → Entry → List ℕ
shown_text short entry = if not short || is_unsigned entry.event then line_text entry else []

-- how many bytes a run printed
unfoldable pub output_line : List ℕ → List ℕ
output_line output = codes "output " ++ decimal (length output) ++ codes "\n"

unfoldable pub end_line : End → List ℕ
end_line end = codes "end " ++ end_text end ++ codes "\n"

-- the report of a run with this output, end and log, the log's newest entry being the first; the bytes that were printed
-- stand as they are, and a line feed behind them
unfoldable pub report_text : List ℕ → End → Log → Bool → List ℕ
report_text output end log short =
    output_line output ++ output ++ codes "\n" ++ end_line end ++ counts_line log ++ flat_map (shown_text short) (reverse log)
