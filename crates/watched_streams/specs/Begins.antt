-- What is read of a session's input, byte by byte: what was given of the request that it has begun.
use Rattle.std.specs.Prelude.{◌≡◌, ◌<◌, ◌≤◌, ℕ, ◌+◌, ◌-◌, ◌++◌, List, [], ◌∷◌, length, true, false}
use Rattle.ask_text.specs.Asks.{AsksFor, AsksForNothing}
use Rattle.ask_text.specs.declared.ask.Ask.{Ask}
use Rattle.ask_text.specs.declared.ask.Ask.TheVariants as ask
use Rattle.watched_streams.specs.declared.begun.Begun.{Begun}

-- nothing of a request was given
abbrev pub start : Begun
start = record { line = record { items = [] }; due = 0; is_none = false }

-- the line of a request was given whole: an object is due, or the request is whole
abbrev pub asked : Ask → Begun → Begun
asked (ask.Put name size) b = record b { due = size + 1 }
asked (ask.Get name) b = start
asked (ask.Old name) b = start
asked (ask.Del name) b = start
asked ask.Keep b = start
asked ask.Back b = start
asked ask.List b = start
asked ask.Stat b = start

-- A byte was given. Bytes of a line are kept until it is whole or is longer than that of a request; those
-- of an
-- object, and what follows bytes that are no request, are not.
pub record Reads (byte : ℕ) (old new : Begun) : Type 0 where
  pub none : old.is_none ≡ true → new ≡ old
  pub object : old.is_none ≡ false → 1 < old.due → new ≡ record old { due = old.due - 1 }
  pub whole : old.is_none ≡ false → old.due ≡ 1 → byte ≡ 10 → new ≡ start
  pub torn : old.is_none ≡ false → old.due ≡ 1 → (byte ≡ 10 → ⊥) → new ≡ record old { is_none = true }
  pub line : old.is_none ≡ false → old.due ≡ 0 → (byte ≡ 10 → ⊥) → length old.line.items < 270
      → new ≡ record old { line = record { items = old.line.items ++ byte ∷ [] } }
  pub long : old.is_none ≡ false → old.due ≡ 0 → (byte ≡ 10 → ⊥) → 270 ≤ length old.line.items
      → new ≡ record old { is_none = true }
  pub ask : old.is_none ≡ false → old.due ≡ 0 → byte ≡ 10 → (a : Ask) → AsksFor old.line.items a
      → new ≡ asked a old
  pub unasked : old.is_none ≡ false → old.due ≡ 0 → byte ≡ 10 → AsksForNothing old.line.items
      → new ≡ record old { is_none = true }

-- bytes were given, one after another
abbrev pub ReadsAll : List ℕ → Begun → Begun → Type 0
ReadsAll [] old new = new ≡ old
ReadsAll (byte ∷ rest) old new = (mid : Begun) × Reads byte old mid × ReadsAll rest mid new
