-- What is counted of the replies of a session.
use Rattle.std.specs.Prelude.{◌≡◌, ◌<◌, ℕ, Bool, ◌+◌, ◌-◌, List, [], ◌∷◌, length, nat_eq, if◌then◌else◌}
use Rattle.disk_face.specs.Counts.{counted}
use Rattle.ask_text.specs.Replies.{IsTold, first_line}
use Rattle.ask_text.specs.declared.reply.Reply.{Reply}
use Rattle.ask_text.specs.declared.reply.Reply.TheVariants as head
use Rattle.watched_streams.specs.declared.tally.Tally.{Tally}

-- nothing is due of a reply
abbrev pub IsBetween : Tally → Type 0
IsBetween t = (t.due ≡ 0) × (t.lines ≡ 0)

-- What is counted once the first line of a reply was put: an `ok` more, none since a `back` or an `ok kept`,
-- or what will follow the line. A request that is refused, and one that only reads, counts for nothing.
abbrev pub tallied : Bool → Reply → Tally → Tally
tallied is_back head.Ok t = record t { unkept = if is_back then 0 else counted t.unkept 1 }
tallied is_back head.Kept t = record t { unkept = 0 }
tallied is_back (head.Data size) t = record t { due = counted size 1 }
tallied is_back (head.List count) t = record t { lines = count }
tallied is_back _ t = t

-- how many newlines there are among bytes
unfoldable pub lines_in : List ℕ → ℕ
lines_in [] = 0
lines_in (byte ∷ rest) = (if nat_eq byte 10 then 1 else 0) + lines_in rest

-- A piece of the replies was counted: it is the first line of a reply, of a `back` or of another request, or
-- bytes of the object or lines of the list that the line before announced.
pub record Hears (is_back : Bool) (piece : List ℕ) (old new : Tally) : Type 0 where
  pub reply : (r : Reply) → IsTold r → IsBetween old → piece ≡ first_line r → new ≡ tallied is_back r old
  pub object : 0 < old.due → new ≡ record old { due = old.due - length piece }
  pub list : old.due ≡ 0 → 0 < old.lines → new ≡ record old { lines = old.lines - lines_in piece }

-- the same, where it isn't known whether the reply is that of a `back`
abbrev pub HearsOne : List ℕ → Tally → Tally → Type 0
HearsOne piece old new = (is_back : Bool) × Hears is_back piece old new
