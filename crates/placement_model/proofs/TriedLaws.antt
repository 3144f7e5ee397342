-- One item that was tried: there is none, or it found room, or it found none.
use Rattle.std.specs.Prelude.{◌≡◌, ◌⊎◌, ℕ, ◌≤◌, true, false, List, [], ◌∷◌, Option, Some, None, refl}
use Rattle.std.proofs.Common.{arith, sym, ◌∙◌, ap, subst, inl, inr}
use Rattle.std.proofs.lemmas.Bool.{cases_Bool, cases_lt, cond-false, cond-true}
use Rattle.size_class.specs.Classes.{class_of}
use Rattle.segment_layout.specs.Shapes.{buffer_for, with_entry}
use Rattle.segment_layout.specs.Books.{Charged, charge_all, entered_at, is_quiet, some_size}
use Rattle.extent_table.specs.declared.spot.Spot.{Spot}
use Rattle.placement_model.specs.Quiet.{gone_items, is_in_payload}
use Rattle.placement_model.proofs.QuietLaws.{some_size-some}

module _ (k : ℕ) (caps : List ℕ) where
  pub record Found (grid : List (List ℕ)) (items : List ℕ) : Type 0 where
    pub size : ℕ
    pub buffer : ℕ
    pub is : items ≡ size ∷ []
    pub some : 1 ≤ size
    pub found : buffer_for k caps grid (class_of size) size ≡ Some buffer

  pub record Missed (grid : List (List ℕ)) (items : List ℕ) : Type 0 where
    pub size : ℕ
    pub is : items ≡ size ∷ []
    pub some : 1 ≤ size
    pub none : buffer_for k caps grid (class_of size) size ≡ None

  abbrev pub Tried : List (List ℕ) → List ℕ → Type 0
  Tried grid items = (items ≡ []) ⊎ Found grid items ⊎ Missed grid items

  one_tried : (grid : List (List ℕ)) (items : List ℕ) (size : ℕ) → items ≡ size ∷ [] → 1 ≤ size
      → Tried grid items
  one_tried grid items size is some = by (buffer_for k caps grid (class_of size) size) refl
    where
      by : (o : Option ℕ) → buffer_for k caps grid (class_of size) size ≡ o → Tried grid items
      by None none = inr (inr (record { size = size; is = is; some = some; none = none }))
      by (Some j) found = inr (inl (record { size = size; buffer = j; is = is; some = some; found = found }))

  pub new_tried : (grid : List (List ℕ)) (size : ℕ) → Tried grid (some_size size)
  new_tried grid size = elim (cases_lt 0 size) as (λ _. Tried grid (some_size size)) [
    | inl some ↦ one_tried grid (some_size size) size (some_size-some k caps size (omega (arith, some)))
        (omega (arith, some))
    | inr none ↦ inl (let e : size ≡ 0 = omega (arith, none) in ap some_size e)
  ]

  pub gone_tried : (grid : List (List ℕ)) (old : Option Spot) → Tried grid (gone_items k caps old)
  gone_tried grid None = inl refl
  gone_tried grid (Some s) = elim (cases_Bool (is_in_payload k caps s))
      as (λ _. Tried grid (gone_items k caps (Some s))) [
        | inl here ↦ subst (Tried grid) (sym (cond-true (is_in_payload k caps s) (some_size s.size) [] here))
            (new_tried grid s.size)
        | inr off ↦ inl (cond-false (is_in_payload k caps s) (some_size s.size) [] off)
      ]

  -- what is charged of one item
  pub charged_found : (grid : List (List ℕ)) (items : List ℕ) (f : Found grid items)
      → charge_all k caps grid items
      ≡ record { grid = with_entry grid f.buffer (class_of f.size) f.size; tried = (f.size, true) ∷ [] }
  charged_found grid items f = ap (charge_all k caps grid) f.is
      ∙ ap (entered_at (record { grid = grid; tried = [] }) f.size) f.found

  pub charged_missed : (grid : List (List ℕ)) (items : List ℕ) (m : Missed grid items)
      → charge_all k caps grid items ≡ record { grid = grid; tried = (m.size, false) ∷ [] }
  charged_missed grid items m = ap (charge_all k caps grid) m.is
      ∙ ap (entered_at (record { grid = grid; tried = [] }) m.size) m.none

  pub charged_none : (grid : List (List ℕ)) (items : List ℕ) → items ≡ []
      → charge_all k caps grid items ≡ record { grid = grid; tried = [] }
  charged_none grid items is = ap (charge_all k caps grid) is

  -- where an item found none, the grid stays
  pub loud_grid : (grid : List (List ℕ)) (items : List ℕ) → Tried grid items
      → is_quiet (charge_all k caps grid items) ≡ false → (charge_all k caps grid items).grid ≡ grid
  loud_grid grid items (inl none) needs_flush = ap (λ (c : Charged). c.grid) (charged_none grid items none)
  loud_grid grid items (inr (inl f)) needs_flush =
      absurd (let bad : true ≡ false = sym (ap is_quiet (charged_found grid items f)) ∙ needs_flush in cc)
  loud_grid grid items (inr (inr m)) needs_flush = ap (λ (c : Charged). c.grid) (charged_missed grid items m)

  -- and there is an item, with at least 1 byte
  pub loud_missed : (grid : List (List ℕ)) (items : List ℕ) → Tried grid items
      → is_quiet (charge_all k caps grid items) ≡ false → Missed grid items
  loud_missed grid items (inl none) needs_flush =
      absurd (let bad : true ≡ false = sym (ap is_quiet (charged_none grid items none)) ∙ needs_flush in cc)
  loud_missed grid items (inr (inl f)) needs_flush =
      absurd (let bad : true ≡ false = sym (ap is_quiet (charged_found grid items f)) ∙ needs_flush in cc)
  loud_missed grid items (inr (inr m)) needs_flush = m
