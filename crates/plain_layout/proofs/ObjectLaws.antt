-- The object of a name, by the place and size that the first record of the name has.
use Rattle.std.specs.Prelude.{map, ◌≡◌, ℕ, suc, ◌+◌, ◌<◌, List, [], ◌∷◌, length, Option, Some, slice_index_or, IfSome, refl}
use Rattle.std.specs.FinMap as fin
use Rattle.std.proofs.Common.{arith, ap, sym, ◌∙◌, inl, inr, subst}
use Rattle.std.proofs.lemmas.Bool.{cases_Bool, cond-true, cond-false}
use Rattle.byte_ranges.specs.Ranges.{bytes_at}
use Rattle.slot_codec.specs.declared.codec.Record.{Record}
use Rattle.map_model.specs.Maps.{name_cmp}
use Rattle.map_model.specs.Weights.{same_name}
use Rattle.map_model.proofs.MapLaws.{name_order}
use Rattle.table_rules.specs.Tables.{no_record}
use Rattle.plain_layout.specs.Objects.{cut, object_of, spot_in}

-- the object of a name by some records
abbrev object_in : ℕ → List ℕ → List Record → List ℕ → Option (List ℕ)
object_in base file rs name = fin.find name_cmp name
    (map (λ r. (r.name, bytes_at file (base + r.place) r.size)) rs)

-- the bytes at the spot of the first record of a name are the bytes that are found
cut_in : (base : ℕ) (file : List ℕ) (rs : List Record) (name : List ℕ)
    → cut base file (spot_in rs name) ≡ object_in base file rs name
cut_in base file [] name = refl
cut_in base file (r ∷ rs) name =
    let object = bytes_at file (base + r.place) r.size in
    elim (cases_Bool (same_name name r.name)) [
      | inl is ↦ ap (cut base file) (cond-true (same_name name r.name) (Some (r.place, r.size))
          (spot_in rs name) is)
          ∙ sym (cond-true (same_name name r.name) (Some object) (object_in base file rs name) is)
      | inr other ↦
          ap (cut base file) (cond-false (same_name name r.name) (Some (r.place, r.size))
          (spot_in rs name) other)
          ∙ cut_in base file rs name
          ∙ sym (cond-false (same_name name r.name) (Some object) (object_in base file rs name) other)
    ]

pub cut_of : (base : ℕ) (file : List ℕ) (rs : List Record) (name : List ℕ)
    → cut base file (spot_in rs name) ≡ object_of base file rs name
cut_of base file rs name = cut_in base file rs name ∙ sym (fin.get-from_entries name_order _ name)

abbrev EmptyFirst : Option (ℕ × ℕ) → Type 0
EmptyFirst spot = IfSome spot (λ s. s.1 ≡ 0 → s.0 ≡ 0)

-- an empty object has place 0, where each record has it so
pub empty_first : (rs : List Record) (name : List ℕ)
    → ((i : ℕ) → i < length rs → (slice_index_or rs i no_record).size ≡ 0
    → (slice_index_or rs i no_record).place ≡ 0) → EmptyFirst (spot_in rs name)
empty_first [] name each = tt
empty_first (r ∷ rs) name each =
    elim (cases_Bool (same_name name r.name)) [
      | inl is ↦ subst EmptyFirst
          (sym (cond-true (same_name name r.name) (Some (r.place, r.size)) (spot_in rs name) is))
          (each 0 (omega arith))
      | inr other ↦ subst EmptyFirst
          (sym (cond-false (same_name name r.name) (Some (r.place, r.size)) (spot_in rs name) other))
          (empty_first rs name (λ i h. each (suc i) (omega arith)))
    ]
