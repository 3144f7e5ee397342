-- What a put or a removal charges, tried on a copy of the layout, and what it is then: quiet, or one that
-- needs a flush.
use Rattle.std.specs.Prelude.{◌≡◌, ◌⊎◌, ℕ, ◌<◌, ◌≤◌, Bool, true, if◌then◌else◌, IsSome, List, length, Option, Some, None}
use Rattle.std.specs.FinMap as fin
use Rattle.size_class.specs.declared.TheConstants.{SIZE_MAX}
use Rattle.slot_codec.specs.Names.{IsName}
use Rattle.map_model.specs.Requests.{Change}
use Rattle.segment_layout.specs.declared.layout.Layout.{Layout}
use Rattle.flush_run.specs.Parts.{HandsValue}
use Rattle.store_model.specs.Charging.{IsChargedBy}
use Rattle.store_model.specs.declared.charge.ChargeResult.{ChargeResult}
use Rattle.store_model.specs.Connection.{StoreValue}

-- the charges of a name's object and a new one: of a store, and of the parts of a flush
abbrev pub ChargesStore : {C : ℕ} → StoreValue → List ℕ → ℕ → Layout C → ChargeResult → Type 0
ChargesStore s name size after r = IsChargedBy s.in_use.block.k s.book.caps s.book.grid (fin.get s.now name)
    size after r

abbrev pub ChargesParts : {C : ℕ} → HandsValue → List ℕ → ℕ → Layout C → ChargeResult → Type 0
ChargesParts x name size after r = IsChargedBy x.divisor x.caps x.grid (fin.get x.table.now name) size after r

-- a name, the bytes that are put under it, where an object comes, and room for the name
pub record CanPut (x : HandsValue) (name bytes : List ℕ) (comes : Bool) : Type 0 where
  pub named : IsName name
  pub small : length bytes ≤ SIZE_MAX
  pub room : comes ≡ true → IsSome (fin.get x.table.now name) ⊎ (fin.len x.table.now < x.table.cap)

-- where the object of a quiet change stands
abbrev pub quiet_place : ChargeResult → Option ℕ
quiet_place r = if r.gone then r.place else None

-- the change that puts bytes under a name, or where none come removes it
abbrev pub change_of : List ℕ → List ℕ → Bool → Change
change_of name bytes comes = record { name = name; object = if comes then Some bytes else None }
