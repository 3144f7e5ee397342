-- Items of one length that stand one behind another in a file, each of which is a step.
use Rattle.std.specs.Prelude.{ℕ, zero, suc, ◌+◌, List, [], ◌∷◌, Result, Ok}
use Rattle.byte_ranges.specs.Ranges.{bytes_at}
use Rattle.byte_ranges.specs.Lists.{◌>>=◌}
use Rattle.slot_codec.specs.Choice.{SlotRefusal, placed_at}
use Rattle.slot_codec.specs.declared.codec.CodecFault.{CodecFault}

-- what n items of `len` bytes each from a position on make of a state, or the first fault, at its item
abbrev pub read_items : {S : Type 0} → (S → List ℕ → Result S CodecFault) → ℕ → ℕ → List ℕ → ℕ → S
    → Result S SlotRefusal
read_items step len zero file at s = Ok s
read_items step len (suc n) file at s =
    placed_at at (step s (bytes_at file at len)) >>= λ t.
    read_items step len n file (at + len) t

-- what items make of a state, one after another
abbrev pub after_items : {S A : Type 0} → (S → A → S) → S → List A → S
after_items after s [] = s
after_items after s (x ∷ xs) = after_items after (after s x) xs

-- each item is one at the state that those before it lead to
abbrev pub AreItems : {S A : Type 0} → (S → A → Type 0) → (S → A → S) → S → List A → Type 0
AreItems {S} {A} IsItem after s [] = Unit {0}
AreItems {S} {A} IsItem after s (x ∷ xs) = IsItem s x × AreItems IsItem after (after s x) xs
