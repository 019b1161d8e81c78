-- The test of legal marks: what a mark needs by itself and beside the one before it, and a table of bits that tells most
-- public names apart at once (a Bloom filter with three bits a name).
use Rattle.std.specs.Prelude.{◌≡◌, ℕ, ◌+◌, ◌*◌, ◌/◌, ◌%◌, ◌^◌, ◌++◌, Bool, true, not, ◌&&◌, ◌==◌, nat_le, nat_lt, if◌then◌else◌, List, [], ◌∷◌, length, slice_index}
use Rattle.std.specs.Int.{bit_at}
use Rattle.std.specs.List.{list_any}
use Rattle.std.specs.Hash.DefaultHasher as sip
use Rattle.std.specs.Str.{bytes_eq}
use Rattle.pa_names.specs.declared.key.TextKey.{TextKey}
use Rattle.pa_names.specs.Key.{piece, start}
use Rattle.pa_layout.specs.Fields.{all_have_room}
use Rattle.pa_layout.specs.Names.{is_name}
use Rattle.pa_object.specs.declared.object.Mark.{Mark}
use Rattle.pa_symbols.specs.declared.places.TextAt.{TextAt}
use Rattle.pa_symbols.specs.Symbols.{Text, entry_of}

-- ---- a mark beside the one before it

-- the mark stands at a word of the code from the least one on, and its name and its entry's fields can be spelled
unfoldable pub mark_stands : TextAt → (place least : ℕ) → Mark → Bool
mark_stands text place least mark =
    (nat_le least mark.at && nat_lt mark.at text.words)
    && ((not (length mark.name == 0) && is_name mark.name) && all_have_room (entry_of place text.address mark))

-- each of them does, with its name after that of the mark before
abbrev pub marks_stand : TextAt → (place least : ℕ) → List Mark → Bool
marks_stand text place least [] = true
marks_stand text place least (mark ∷ marks) =
    mark_stands text place least mark && marks_stand text (place + (length mark.name + 1)) (mark.at + 1) marks

-- ---- public names

-- one of the marks is public and has that name
abbrev pub public_among : List Mark → Text → Bool
public_among marks name = list_any (λ mark. mark.public && bytes_eq name mark.name) marks

-- what a mark adds to the message of the key: its name where it is public
abbrev pub own_message : Mark → List ℕ
own_message mark = if mark.public then piece mark.name else []

-- the public names in order, whose digest is the key that they are hashed under
abbrev pub message : List Mark → List ℕ
message [] = []
message (mark ∷ marks) = own_message mark ++ message marks

-- SipHash-1-3 under the key
abbrev pub hash_of : TextKey → Text → ℕ
hash_of key name = sip.finish (sip.write (start key) name)

-- how many bits each of the table's three parts has
abbrev pub part_size : ℕ
part_size = 0x200000

-- the place of a hash's bit in each part, by 21 bits of the hash
abbrev pub first_bit : ℕ → ℕ
first_bit hash = hash % part_size

abbrev pub second_bit : ℕ → ℕ
second_bit hash = part_size + hash / 2 ^ 21 % part_size

abbrev pub third_bit : ℕ → ℕ
third_bit hash = 2 * part_size + hash / 2 ^ 42 % part_size

abbrev pub has_bit : List ℕ → ℕ → Bool
has_bit table bit = bit_at (slice_index table (bit / 64)) (bit % 64) == 1

-- the table has the three bits of a hash
abbrev pub has_bits : List ℕ → ℕ → Bool
has_bits table hash = has_bit table (first_bit hash) && (has_bit table (second_bit hash) && has_bit table (third_bit hash))

-- the table has the bits of the public names, and may have others
abbrev pub Covers : TextKey → List ℕ → List Mark → Type 0
Covers key table marks = (name : Text) → public_among marks name ≡ true → has_bits table (hash_of key name) ≡ true
