-- Words of a line that may stand for names.
use Rattle.std.specs.Prelude.{ℕ, nat_lt, nat_le, ◌&&◌, Bool, IsTrue, List, length}
use Rattle.std.specs.List.{list_all}
use Rattle.slot_codec.specs.Names.{is_name_byte}

-- 1 to 255 bytes of printable ASCII, no blank
abbrev pub is_word : List ℕ → Bool
is_word bytes = nat_lt 0 (length bytes) && nat_le (length bytes) 255 && list_all is_name_byte bytes

abbrev pub IsWord : List ℕ → Type 0
IsWord bytes = IsTrue (is_word bytes)
