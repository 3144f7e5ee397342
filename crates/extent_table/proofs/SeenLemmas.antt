-- An entry that contracts see, by what is known at its key.
use Rattle.std.proofs.Common.{◌≡◌, ℕ, get_or, None, ap, sym, ◌∙◌}
use Rattle.extent_table.specs.declared.entry.Entries.TheInside.{Inside}
use Rattle.extent_table.specs.Kept.{kept_in}
use Rattle.extent_table.specs.Entries.{Shelf, entry_of}
use Rattle.extent_table.specs.Shelved.{entries_in}
use Rattle.extent_table.specs.Parts.{at}
use Rattle.extent_table.proofs.EntriesLemmas.{entry_at}

pub seen : (e : Inside) {now : Shelf} → entries_in e ≡ now → (k : ℕ)
    → at now.slots k ≡ entry_of (kept_in e.kept.items k) (get_or e.standing.slots k None)
seen e is k = ap (λ (s : Shelf). at s.slots k) (sym is) ∙ entry_at e.standing.slots e.kept.items k
