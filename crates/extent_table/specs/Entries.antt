-- What is known of a name, and how it is put together by key.
use Rattle.std.specs.Prelude.{◌≡◌, ℕ, ◌<◌, List, [], ◌∷◌, count_by, Option, Some, None, is_some, slice_index_or, refl}
use Rattle.std.specs.Coded.{Coded, code_by, coded×, coded_ℕ, coded_list, coded_option}
use Rattle.extent_table.specs.declared.spot.Spot.{Spot}
use Rattle.extent_table.specs.declared.kept.Kept.{Kept}
use Rattle.extent_table.specs.declared.kept.Kept.TheVariants.{Same, New, Old}
use Rattle.extent_table.specs.Extents.{spot_code}
use Rattle.extent_table.specs.Kept.{kept_in, kept_spot}

-- a name, where its object stands now and where it stood at the last checkpoint
pub record Entry : Type 0 where
  pub name : List ℕ
  pub now : Option Spot
  pub kept : Option Spot

abbrev pub entry_code : Coded Entry
entry_code = code_by (List ℕ × (Option Spot × Option Spot))
    (coded× (coded_list coded_ℕ) (coded× (coded_option spot_code) (coded_option spot_code)))
    (λ e. (e.name, (e.now, e.kept))) (λ p. record { name = p.0; now = p.1.0; kept = p.1.1 }) (λ _. refl)

-- the entry or nothing at each key, how many entries fit, and the keys that changed since the last checkpoint
pub record Shelf : Type 0 where
  pub slots : List (Option Entry)
  pub capacity : ℕ
  pub changed : List ℕ

abbrev pub shelf_code : Coded Shelf
shelf_code = code_by (List (Option Entry) × (ℕ × List ℕ))
    (coded× (coded_list (coded_option entry_code)) (coded× coded_ℕ (coded_list coded_ℕ)))
    (λ s. (s.slots, (s.capacity, s.changed)))
    (λ p. record { slots = p.0; capacity = p.1.0; changed = p.1.1 }) (λ _. refl)

-- another entry fits
abbrev pub HasSpace : Shelf → Type 0
HasSpace s = count_by is_some s.slots < s.capacity

-- a name, and where its object stands now
pub record Standing : Type 0 where
  pub name : List ℕ
  pub now : Option Spot

abbrev pub standing_code : Coded Standing
standing_code = code_by (List ℕ × Option Spot) (coded× (coded_list coded_ℕ) (coded_option spot_code))
    (λ s. (s.name, s.now)) (λ p. record { name = p.0; now = p.1 }) (λ _. refl)

-- a name that stands, with what was kept of it
abbrev pub entry_of : Kept → Option Standing → Option Entry
entry_of kept None = None
entry_of kept (Some s) = Some (record { name = s.name; now = s.now; kept = kept_spot kept s.now })

-- the entry or nothing at each key
unfoldable pub entries_of : List (Option Standing) → List Kept → List (Option Entry)
entries_of [] kept = []
entries_of (s ∷ ss) [] = entry_of Same s ∷ entries_of ss []
entries_of (s ∷ ss) (k ∷ ks) = entry_of k s ∷ entries_of ss ks

-- a name that stands, and nothing where it doesn't
abbrev pub if_stands : Standing → Option Spot → Option Standing
if_stands s None = None
if_stands s (Some spot) = Some s

abbrev pub standing_still : Option Standing → Option Standing
standing_still None = None
standing_still (Some s) = if_stands s s.now

-- a name that is there at another spot
abbrev pub standing_at : Spot → Option Standing → Option Standing
standing_at spot None = None
standing_at spot (Some s) = Some (record s { now = Some spot })

-- what stays of a name as what stands is kept: where it changed, it goes if it doesn't stand
abbrev pub once_kept : Kept → Option Standing → Option Standing
once_kept Same s = s
once_kept New s = standing_still s
once_kept (Old spot) s = standing_still s

-- what stays of a name as what was kept stands again: a new one goes
abbrev pub once_back : Kept → Option Standing → Option Standing
once_back Same s = s
once_back New s = None
once_back (Old spot) s = standing_at spot s

-- each key goes to what a rule says of it, or is still to go there; what didn't change stays
pub record Goes (rule : Kept → Option Standing → Option Standing) (standing : List (Option Standing))
    (kept : List Kept) (later : List (Option Standing)) (later_kept : List Kept) : Type 0 where
  pub to : (k : ℕ) → rule (kept_in later_kept k) (slice_index_or later k None)
      ≡ rule (kept_in kept k) (slice_index_or standing k None)
  pub same : (k : ℕ) → kept_in kept k ≡ Same → kept_in later_kept k ≡ Same
