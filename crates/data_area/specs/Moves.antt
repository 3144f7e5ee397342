-- What an object is to be that is moved, and what a move counts.
use Rattle.std.specs.Prelude.{◌≡◌, ℕ, ◌+◌, ◌-◌, ◌<◌, ◌≤◌, ◌^◌, List, min, slice_index, slice_set, OnErr, OnOk, Result}
use Rattle.size_class.specs.Classes.{class_of}

-- An object of 1 to 2^31 bytes has one of so many classes, which are at most 32.
pub record IsMovable (classes size : ℕ) : Type 0 where
  pub low : 1 ≤ size
  pub high : size ≤ 2 ^ 31
  pub class : class_of size < classes
  pub few : classes ≤ 32

-- a row after a size was added to its class; a number stays at the last value of its type rather than pass it
abbrev pub row_with : List ℕ → ℕ → List ℕ
row_with cells size = slice_set cells (class_of size)
    (min (slice_index cells (class_of size) + size) (2 ^ 64 - 1))

-- A move that succeeds adds its object's size to the bytes moved, and one that fails leaves them. None is
-- asked for.
pub record CountsMove {T E : Type 0} (size : ℕ) (moved moved_after asked asked_after : List ℕ)
    (result : Result T E) : Type 0 where
  pub adds : OnOk result (moved_after ≡ row_with moved size)
  pub stays : OnErr result (moved_after ≡ moved)
  pub same_asked : asked_after ≡ asked
