-- A reader as a place among the tokens.
use Rattle.pa_grammar.specs.declared.reader.Reader.TheInside.{Inside}
use Rattle.pa_tree.specs.Cursors.{Cursor}

abbrev pub cursor_of : Inside → Cursor
cursor_of r = record { ended = r.ended; ahead = r.ahead.now }
