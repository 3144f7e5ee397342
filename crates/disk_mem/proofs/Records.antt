-- The record grows at its end.
use Rattle.std.proofs.Common.{◌+◌, ◌<◌, ℕ, length, take, get_or, sym, ◌≡◌, ◌∙◌, ap, refl, List, [], ◌∷◌, ◌++◌, map, reverse}
use Rattle.std.proofs.lemmas.List.{reverse-append, map-append, take_more}
use Rattle.disk_mem.specs.declared.record.Entry.{Entry}
use Rattle.disk_mem.specs.Entries.{stamp_of, newest_first}

pub newest_first_push : (entries : List Entry) (entry : Entry)
    → newest_first (entries ++ entry ∷ []) ≡ stamp_of entry ∷ newest_first entries
unfolding newest_first
newest_first_push entries entry = ap reverse (map-append stamp_of entries (entry ∷ []))
    ∙ reverse-append (map stamp_of entries) (stamp_of entry ∷ [])

pub newest_first_none : newest_first [] ≡ []
unfolding newest_first
newest_first_none = refl

-- one call more of the record
pub newest_first_more : (entries : List Entry) (i : ℕ) (entry : Entry) → i < length entries
    → entry ≡ get_or entries i entry → newest_first (take (i + 1) entries)
    ≡ stamp_of entry ∷ newest_first (take i entries)
newest_first_more entries i entry low is =
    ap newest_first (take_more entries i entry low)
    ∙ newest_first_push (take i entries) (get_or entries i entry)
    ∙ ap (λ e. stamp_of e ∷ newest_first (take i entries)) (sym is)
