-- What a put or a removal that is served and quiet will leave.
use Rattle.std.specs.Prelude.{◌≡◌, ℕ, List, length, Option, Some, None, Result, Ok, Err}
use Rattle.std.specs.FinMap as fin
use Rattle.map_model.specs.Requests as ask
use Rattle.extent_table.specs.declared.spot.Spot.{Spot}
use Rattle.placement_model.specs.Quiet.{QuietTo, gone_items}
use Rattle.store_model.specs.declared.answers.Refusal.{Refusal}
use Rattle.store_model.specs.Answers.{refused_by}
use Rattle.store_model.specs.Connection.{StoreValue}
use Rattle.store_model.specs.Quiet.{IsCharged, del_of, put_of}

-- the answer is the refusal, or where there is none the name
abbrev pub AcceptsName : Option Refusal → List ℕ → Result (List ℕ) Refusal → Type 0
AcceptsName None name result = result ≡ Ok name
AcceptsName (Some why) name result = result ≡ Err why

-- A put of an object under a name: a layout with the store's capacities, whose grid has its charges, and the
-- place of the new object.
pub record IsPutPlan (s : StoreValue) (name object plan_name : List ℕ) (k : ℕ) (caps : List ℕ)
    (grid : List (List ℕ)) (spot : Spot) : Type 0 where
  pub served : refused_by s (ask.change (put_of name object)) ≡ None
  pub same_name : plan_name ≡ name
  pub size : spot.size ≡ length object
  pub divisor : k ≡ s.in_use.block.k
  pub same_caps : caps ≡ s.book.caps
  pub charged : IsCharged s.in_use.block.k s.book.caps s.book.grid (fin.get s.now name) (length object) grid
      spot.place

-- A removal of a name: the same, but that its old object alone is charged.
pub record IsDelPlan (s : StoreValue) (name plan_name : List ℕ) (k : ℕ) (caps : List ℕ)
    (grid : List (List ℕ)) : Type 0
  where
    pub served : refused_by s (ask.change (del_of name)) ≡ None
    pub same_name : plan_name ≡ name
    pub divisor : k ≡ s.in_use.block.k
    pub same_caps : caps ≡ s.book.caps
    pub charged : QuietTo s.in_use.block.k s.book.caps s.book.grid
        (gone_items s.in_use.block.k s.book.caps (fin.get s.now name)) grid
