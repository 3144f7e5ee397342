-- That a flush may begin with items, as it is checked one item after another.
use Rattle.std.specs.Prelude.{◌≡◌, ◌⊎◌, ℕ, ◌+◌, ◌<◌, ◌≤◌, List, length, slice_get, Some, IsTrue, Contains, refl, ◌^◌, ◌≢◌, ◌-◌, take}
use Rattle.std.proofs.Common.{arith, sym, ◌∙◌, ap, subst, inl, inr}
use Rattle.flush_model.specs.declared.item.Item.{Item}
use Rattle.flush_model.specs.Phases.{CanFlush}
use Rattle.flush_model.specs.Plans.{IsInBuffer, ItemsApart, stands_in_payload, numbers_of}
use Rattle.std.proofs.lemmas.Bool.{cases_order}
use Rattle.size_class.specs.Classes.{class_of, width}
use Rattle.flush_model.proofs.ListLaws.{got_at}
use Rattle.std.proofs.lemmas.Option.{same_Some, slice_get_within, get_or_from_slice_get, slice_get-get_or}
use Rattle.flush_model.specs.Begins.{Begins}
use Rattle.flush_model.specs.declared.item.Numbers.{Numbers}
use Rattle.flush_model.proofs.NumbersLaws.{reach_is}
use Rattle.std.proofs.lemmas.List.{get_or-take, length-take}

-- an item has the class of its size, from class b on, and stands in a segment for it
pub record StandsWell (k : ℕ) (caps : List ℕ) (b : ℕ) (it : Item) : Type 0 where
  pub some : 1 ≤ it.size
  pub class : it.class ≡ class_of it.size
  pub from : b ≤ it.class
  pub stands : IsTrue (stands_in_payload k caps it) ⊎ ((j : ℕ) × IsInBuffer k caps j it)

-- the first items of a list do, and no two of them share a byte or a key
pub record CanFlushFirst (k : ℕ) (caps : List ℕ) (b : ℕ) (items : List Item) (i : ℕ) : Type 0 where
  pub within : i ≤ length items
  pub apart : (x y : ℕ) (a d : Item) → x < y → y < i → slice_get items x ≡ Some a → slice_get items y ≡ Some d
      → ItemsApart a d
  pub each : (x : ℕ) (it : Item) → x < i → slice_get items x ≡ Some it → StandsWell k caps b it

-- what stands in a list stands in its front
pub got_front : (items : List Item) (i x : ℕ) (it : Item) → x < i → slice_get items x ≡ Some it
    → slice_get (take i items) x ≡ Some it
got_front items i x it low got =
    let within : x < length (take i items) =
    omega (arith, length-take i items, low, slice_get_within items x it got) in
    slice_get-get_or (take i items) x it within
    ∙ ap Some (get_or-take i items x it low ∙ get_or_from_slice_get items x it it got)

module _ (k : ℕ) (caps : List ℕ) (b : ℕ) (items : List Item) (i : ℕ)
    (so : CanFlushFirst k caps b items i) where
  pub can_flush_all : length caps ≡ width → length items ≤ i → CanFlush k caps b items
  can_flush_all full ended =
      let each : (it : Item) (has : Contains items it) → StandsWell k caps b it =
      λ it has. so.each has.0 it (omega (arith, has.1, ended)) (got_at it items has) in
      record {
        classes = full;
        apart = λ x y a d less at_x at_y. so.apart x y a d less
            (omega (arith, slice_get_within items y d at_y, ended)) at_x at_y;
        some = λ it has. (each it has).some;
        class = λ it has. (each it has).class;
        from = λ it has. (each it has).from;
        stands = λ it has. (each it has).stands;
      }

  pub can_flush_more : (m : Item) → slice_get items i ≡ Some m → StandsWell k caps b m
      → ((x : ℕ) (it : Item) → x < i → slice_get items x ≡ Some it → ItemsApart it m)
      → CanFlushFirst k caps b items (i + 1)
  can_flush_more m got well apart =
      record {
        within = omega (arith, slice_get_within items i m got);
        apart = λ x y a d less high at_x at_y. elim (cases_order y i) [
          | inl e ↦
              let same : d ≡ m = same_Some d m (sym at_y ∙ ap (slice_get items) e ∙ got) in
              subst (ItemsApart a) (sym same) (apart x a (omega (arith, less, e)) at_x)
          | inr (inl before) ↦ so.apart x y a d less before at_x at_y
          | inr (inr behind) ↦ absurd (omega (arith, behind, high))
        ];
        each = λ x it high at_x. elim (cases_order x i) [
          | inl e ↦ subst (StandsWell k caps b)
              (sym (same_Some it m (sym at_x ∙ ap (slice_get items) e ∙ got)))
              well
          | inr (inl before) ↦ so.each x it before at_x
          | inr (inr behind) ↦ absurd (omega (arith, behind, high))
        ];
      }

-- a pending object stands behind the room for what is lifted where it ends at the reach
pub begins_at_reach : (k : ℕ) (caps : List ℕ) (b : ℕ) (items : List Item) (n : Numbers) (key class size : ℕ)
    → CanFlush k caps b items → n ≡ numbers_of k caps b items size → 1 ≤ size → size ≤ 2 ^ 31
    → class ≡ class_of size → b ≤ class
    → ((i : ℕ) (it : Item) → slice_get items i ≡ Some it → it.key ≢ key)
    → Begins k caps n items (Some (record { key = key; class = class; place = n.reach - size; size = size }))
begins_at_reach k caps b items n key class size flush is some high same from other =
    let m = numbers_of k caps b items size in
    let goal : Begins k caps m items
    (Some (record { key = key; class = class; place = m.reach - size; size = size })) = (
      flush,
      refl,
      record {
        some = some;
        high = high;
        class = same;
        from = from;
        place = omega (arith, reach_is k caps b items flush size);
        other = λ it has. other has.0 it (got_at it items has);
      },
    ) in
    subst (λ (x : Numbers). Begins k caps x items
    (Some (record { key = key; class = class; place = x.reach - size; size = size }))) (sym is) goal
