-- What is known of a file that has a header, from the header alone.
use Rattle.std.specs.Prelude.{◌≡◌, ℕ, ◌+◌, ◌*◌, ◌%◌, ◌<◌, ◌^◌}
use Rattle.pa_macho.specs.declared.header.Header.{Header}
use Rattle.pa_macho.specs.declared.places.Places.{Places}
use Rattle.pa_macho.specs.Layout.{Ordered, page_count, up}

pub record Known (h : Header) (p : Places) (len : ℕ) : Type 0 where
  pub order : Ordered p
  pub end : p.end ≡ len
  pub small : p.end < 2 ^ 34
  pub linkedit_small : p.linkedit < 2 ^ 32
  pub text : p.text_end ≡ 0x400 + h.text
  pub words : h.text % 4 ≡ 0
  pub stubs : p.stubs_end ≡ p.stubs + h.stubs
  pub stub_words : h.stubs % 4 ≡ 0
  pub consts : p.consts_end ≡ p.consts + h.consts
  pub pages : p.linkedit ≡ p.got + 0x4000 * page_count p
  pub cells : p.cells ≡ p.got + up 16 h.got
  pub cells_end : p.cells_end ≡ p.cells + h.cells
  pub fixups : p.fixups_end ≡ p.linkedit + h.fixups
  pub symbols : p.symbols_end ≡ p.symbols + h.symbols
  pub entries : h.symbols % 16 ≡ 0
  pub strings : p.end ≡ p.strings + h.strings
