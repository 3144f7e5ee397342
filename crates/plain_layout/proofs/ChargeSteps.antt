-- One item more.
use Rattle.std.specs.Prelude.{◌≡◌, ℕ, ◌+◌, ◌<◌, ◌≤◌, Bool, false, List, [], ◌∷◌, ◌++◌, length, fold, take, slice_index, Option, Some, None, is_some, refl}
use Rattle.std.proofs.Common.{arith, ap, sym, ◌∙◌, add-one, inl, inr}
use Rattle.std.proofs.Math.Seq.{take-suc}
use Rattle.std.proofs.lemmas.List.Sums.{fold-append}
use Rattle.std.proofs.lemmas.Bool.{cases_lt}
use Rattle.std.proofs.lemmas.List.{ext_get_or}
use Rattle.size_class.specs.Classes.{class_of, width}
use Rattle.segment_layout.specs.Books.{Charged, entered_at, charge_one, charge_all}
use Rattle.segment_layout.proofs.ChargingLaws.{charge_all-append, tried_one}
use Rattle.segment_layout.specs.Shapes.{buffer_for, settled_grid}
use Rattle.segment_layout.proofs.ShapeLaws.{length-settled_grid, row-settled_above, row-settled_below}
use Rattle.segment_layout.proofs.SettleLaws.{EmptiedUpTo}
use Rattle.plain_layout.specs.Changes.{after_one, finds_last}

-- whether an item finds room
abbrev pub finds : ℕ → List ℕ → List (List ℕ) → ℕ → Bool
finds k caps grid size = is_some (buffer_for k caps grid (class_of size) size)

pub charged_next : (k : ℕ) (caps : List ℕ) (grid : List (List ℕ)) (items : List ℕ) (i : ℕ) → i < length items
    → charge_all k caps grid (take (i + 1) items)
    ≡ charge_one k caps (charge_all k caps grid (take i items)) (slice_index items i)
charged_next k caps grid items i h =
    let one : take (i + 1) items ≡ take i items
    ++ slice_index items i ∷ [] = ap (λ n. take n items) (add-one i) ∙ take-suc items i 0 h in
    ap (charge_all k caps grid) one ∙ charge_all-append k caps grid (take i items) (slice_index items i ∷ [])

grid_at : (done : Charged) (size : ℕ) (o : Option ℕ)
    → (entered_at done size o).grid ≡ (entered_at (record { grid = done.grid; tried = [] }) size o).grid
grid_at done size None = refl
grid_at done size (Some j) = refl

pub grid_next : (k : ℕ) (caps : List ℕ) (done : Charged) (size : ℕ)
    → (charge_one k caps done size).grid ≡ after_one k caps done.grid size
grid_next k caps done size = grid_at done size (buffer_for k caps done.grid (class_of size) size)

pub last_next : (k : ℕ) (caps : List ℕ) (done : Charged) (size : ℕ)
    → finds_last (charge_one k caps done size) ≡ finds k caps done.grid size
last_next k caps done size =
    ap (fold (λ (found : Bool) (item : ℕ × Bool). item.1) false) (tried_one k caps done size)
    ∙ fold-append (λ (found : Bool) (item : ℕ × Bool). item.1) false done.tried
    ((size, finds k caps done.grid size) ∷ [])

-- all rows from a boundary on are at 0
pub emptied_whole : (b : ℕ) (grid new : List (List ℕ)) → length grid ≡ width → b ≤ width
    → EmptiedUpTo b width grid new → new ≡ settled_grid b grid
emptied_whole b grid new full fits t =
    ext_get_or [] new (settled_grid b grid) (t.long ∙ sym (length-settled_grid b grid full fits)) (λ i h.
    elim (cases_lt i b) [
      | inl less ↦ t.below i less ∙ sym (row-settled_below b i grid full fits less)
      | inr more ↦ (let within : i < width = omega (arith, t.long) in
          t.emptied i more within ∙ sym (row-settled_above b i grid full more within))
    ])
