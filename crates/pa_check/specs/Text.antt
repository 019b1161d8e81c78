-- The code of an image: its words with their marks, and where its stubs stand. Places are offsets from the image's first
-- byte, so that they hold wherever it is loaded.
use Rattle.std.specs.Prelude.{◌≡◌, ◌≤◌, ◌<◌, drop, ℕ, suc, ◌+◌, ◌-◌, ◌*◌, ◌/◌, ◌%◌, Bool, true, false, ◌&&◌, ◌||◌, ◌==◌, nat_le, nat_lt, if◌then◌else◌, ℤ, List, [], ◌∷◌, length, slice_get, slice_index_or, Option, Some, None, codes}
use Rattle.pa_num.specs.Arithmetic.{add64, scaled64}
use Rattle.pa_a64.specs.Decoding.{decoded}
use Rattle.pa_macho.specs.declared.header.Role.{Role}
use Rattle.pa_macho.specs.declared.header.Role.TheVariants.{Main, Library}
use Rattle.pa_macho.specs.Layout.{places_of}
use Rattle.pa_object.specs.declared.object.Mark.{Mark}
use Rattle.pa_image.specs.declared.image.Image.{Image}
use Rattle.pa_image.specs.Bytes.{header_of}
use Rattle.pa_image.specs.Places.{function_at}
use Rattle.pa_check.specs.declared.word.Word.{Word}

-- ---- words

abbrev pub is_marked : List Mark → ℕ → Bool
is_marked [] k = false
is_marked (mark ∷ marks) k = mark.at == k || is_marked marks k

-- words from number k on, decoded
unfoldable pub words_from : List Mark → ℕ → List ℕ → List Word
words_from marks k [] = []
words_from marks k (word ∷ words) =
    record { marked = is_marked marks k; instr = decoded word } ∷ words_from marks (suc k) words

pub record Text : Type 0 where
  -- how many words `start` has: those before the first function
  pub start : ℕ
  pub words : List Word
  -- where `_main` begins, the first of that name
  pub main : Option ℕ
  -- where the stubs begin, and how many words they have
  pub stubs : ℕ
  pub stub_words : ℕ

-- `start` of a program: it calls `_main`, ends with its result, and never goes on
abbrev pub start_size : Role → ℕ
start_size Main = 3
start_size Library = 0

unfoldable pub text_of : Image → Text
text_of image = record {
  start = start_size image.role;
  words = words_from image.marks 0 image.text;
  main = function_at 0 image.marks (codes "_main");
  stubs = (places_of (header_of image)).stubs;
  stub_words = length image.stubs;
}

-- ---- places

abbrev pub place : (k : ℕ) → ℕ
place k = 0x400 + 4 * k

-- the number of the word at this place
abbrev pub number_at : (at : ℕ) → Option ℕ
number_at at = if nat_le 0x400 at && ((at - 0x400) % 4 == 0) then Some ((at - 0x400) / 4) else None

abbrev pub nth : {A : Type 0} → List A → Option ℕ → Option A
nth xs None = None
nth xs (Some k) = slice_get xs k

-- the item of the word at this place
abbrev pub at_place : {A : Type 0} → List A → (at : ℕ) → Option A
at_place xs at = nth xs (number_at at)

abbrev pub marked_in : Option Word → Bool
marked_in None = false
marked_in (Some word) = word.marked

-- a function begins there
abbrev pub is_entry : Text → (at : ℕ) → Bool
is_entry text at = marked_in (at_place text.words at)

-- a stub begins there
abbrev pub is_stub : Text → (at : ℕ) → Bool
is_stub text at = nat_le text.stubs at && (nat_lt ((at - text.stubs) / 4) text.stub_words && ((at - text.stubs) % 16 == 0))

-- so many words from a place
abbrev pub target : (at : ℕ) → ℤ → ℕ
target at words = add64 at (scaled64 4 words)

-- the page so many pages of 4096 bytes from that of a place
abbrev pub page : (at : ℕ) → ℤ → ℕ
page at pages = add64 (at - at % 4096) (scaled64 4096 pages)

-- ---- words by number

abbrev pub word_at : Text → (k : ℕ) → Word
word_at text k = slice_index_or text.words k (record { marked = false; instr = None })

-- the words behind one
abbrev pub behind : Text → (k : ℕ) → List Word
behind text k = drop (k + 1) text.words

-- a function's words begin with number `first`, and `end` is the number behind its last
pub record IsFunction (text : Text) (first end : ℕ) : Type 0 where
  pub some : first < end
  pub inside : end ≤ length text.words
  pub marked : (word_at text first).marked ≡ true
  pub unmarked : (k : ℕ) → first < k → k < end → (word_at text k).marked ≡ false
  pub over : end < length text.words → (word_at text end).marked ≡ true
  pub behind_start : text.start ≤ first
