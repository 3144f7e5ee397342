-- Files that have what a checkpoint has: they open to it, and the store that was over one is over the other.
use Rattle.std.specs.Prelude.{◌≡◌, ℕ, suc, ◌+◌, ◌-◌, ◌<◌, ◌≤◌, List, [], ◌∷◌, length, slice_index_or, Ok, IsTrue, refl}
use Rattle.std.proofs.Common.{arith, ap, sym, ◌∙◌, subst, inl, inr}
use Rattle.byte_ranges.specs.Ranges.{SameBelow, SameOutside, SameWithin}
use Rattle.byte_ranges.proofs.RangeLaws.{SameWithin-sym, SameWithin-trans, within_above, within_below}
use Rattle.size_class.specs.declared.TheConstants.{SIZE_MAX}
use Rattle.disk_face.specs.States as disk
use Rattle.disk_face.specs.Moments.{Leaves}
use Rattle.disk_face.specs.Writes.{WritesWithin}
use Rattle.disk_face.proofs.MomentLaws.{Leaves-weaken}
use Rattle.slot_codec.specs.Choice as choice
use Rattle.slot_codec.specs.Spelling.{head_len}
use Rattle.slot_codec.specs.declared.codec.Record.{Record}
use Rattle.slot_codec.specs.declared.codec.SuperBlock.{SuperBlock}
use Rattle.slot_codec.proofs.ChoiceLaws.{chosen_parts, same_in_use, table_chosen}
use Rattle.map_model.specs.Maps.{Map}
use Rattle.table_rules.specs.Objects.{HasRoomFor, SameObjects}
use Rattle.table_rules.specs.Opening.{OpensBy, placed_table}
use Rattle.table_rules.specs.Tables.{end_of_record, map_of, no_record}
use Rattle.table_rules.proofs.OpeningLaws.{carries_on}
use Rattle.table_rules.proofs.SequenceLaws.{sequence_of_slot}
use Rattle.extent_table.specs.Extents.{Spots, records_of}
use Rattle.placement_model.specs.Reads.{AllLieApart, AreNamed, EndWithin}
use Rattle.placement_model.proofs.ReadLaws.{spot_of_record}
use Rattle.store_model.specs.Connection.{HasCheckpoint, IsKeptImage, IsOver, StoreValue, RestsOnTable, SameOnTable, base_of, kept_map}
use Rattle.store_model.specs.Stores.{IsStore}
use Rattle.store_model.proofs.StoreLaws.{kept_lies}

-- ---- alike on a table

pub same_itself : (base : ℕ) (kept : Spots) (a : List ℕ) → SameOnTable base kept a a
same_itself base kept a = record {
  same_length = refl;
  below = λ i low. refl;
  objects = λ name x there i low high. refl;
}

pub same_then : (base : ℕ) (kept : Spots) (a b c : List ℕ) → SameOnTable base kept a b
    → SameOnTable base kept b c → SameOnTable base kept a c
same_then base kept a b c ab bc = record {
  same_length = bc.same_length ∙ ab.same_length;
  below = λ i low. ab.below i low ∙ bc.below i low;
  objects = λ name x there. SameWithin-trans (base + x.place) (base + x.place + x.size) a b c
      (ab.objects name x there) (bc.objects name x there);
}

pub same_back : (base : ℕ) (kept : Spots) (a b : List ℕ) → SameOnTable base kept a b
    → SameOnTable base kept b a
same_back base kept a b ab = record {
  same_length = sym ab.same_length;
  below = λ i low. sym (ab.below i low);
  objects = λ name x there. SameWithin-sym (base + x.place) (base + x.place + x.size) a b
      (ab.objects name x there);
}

-- bytes that were written apart from the objects
pub same_written : (base place n : ℕ) (kept : Spots) (a b : List ℕ) → SameOutside (base + place) n a b
    → AllLieApart place n kept → SameOnTable base kept a b
same_written base place n kept a b same apart = record {
  same_length = sym same.same_length;
  below = λ i low. same.below i (omega (arith, low));
  objects = λ name x there. elim (apart name x there)
      as (λ _. SameWithin (base + x.place) (base + x.place + x.size) a b) [
        | inl low ↦ within_below (base + place) n (base + x.place) (base + x.place + x.size) a b same
            (omega (arith, low))
        | inr high ↦ within_above (base + place) n (base + x.place) (base + x.place + x.size) a b same
            (omega (arith, high))
      ];
}

-- ---- the objects of records

pub by_index : (base : ℕ) (rs : List Record) (a b : List ℕ) → length b ≡ length a
    → ((i : ℕ) → i < length rs → (base + end_of_record (slice_index_or rs i no_record) ≤ length a)
    × SameWithin (base + (slice_index_or rs i no_record).place)
    (base + (slice_index_or rs i no_record).place + (slice_index_or rs i no_record).size) a b)
    → SameObjects base rs a b
by_index base [] a b len each = tt
by_index base (r ∷ rs) a b len each =
    let first = each 0 (omega arith) in (
      omega (arith, first.0),
      omega (arith, first.0, len),
      first.1,
      by_index base rs a b len (λ i low. each (suc i) (omega (arith, low))),
    )

pub same_objects : (base : ℕ) (spots : Spots) (a b : List ℕ) → AreNamed spots → EndWithin base a spots
    → SameOnTable base spots a b → SameObjects base (records_of spots) a b
same_objects base spots a b named within same = by_index base (records_of spots) a b
    same.same_length (λ i low.
    let r = slice_index_or (records_of spots) i no_record in
    let s = spot_of_record spots named i low in (
      omega (arith, within r.name s.spot s.is, s.same_place, s.same_size),
      λ j above below. same.objects r.name s.spot s.is j (omega (arith, above, s.same_place))
          (omega (arith, below, s.same_place, s.same_size)),
    ))

-- ---- a store over a file

pub same_block : {classes : ℕ} (s : StoreValue) (file : List ℕ) (t : choice.SlotTable)
    → HasCheckpoint classes s file t
    → t.chosen.block ≡ s.in_use.block
same_block s file t c =
    let p = chosen_parts file t.chosen (table_chosen file t c.opens.read).0 in
    let one : p.in_use ≡ s.in_use = (let both : Ok p.in_use ≡ Ok s.in_use = sym p.slot_read ∙ c.slot in cc) in
    p.same_block ∙ ap (λ (u : choice.InUse). u.block) one

module _ {classes : ℕ} (s : StoreValue) (h : IsStore classes s) (file : List ℕ)
    (over : IsOver classes s file) where
  abbrev t : choice.SlotTable
  t = over.table

  abbrev base : ℕ
  base = base_of s

  pub head_is : head_len t.chosen.block.names ≡ base
  head_is = ap (λ (b : SuperBlock). head_len b.names) (same_block s file t over.checkpoint)

  module _ (b : List ℕ) (same : SameOnTable base s.kept file b) where
    -- a file that is alike on the table of the checkpoint has this checkpoint
    pub opens_again : OpensBy classes SIZE_MAX t b (kept_map s file) s.kept_book
    opens_again =
        let o = over.checkpoint.opens in
        let long : base ≤ length b = omega (arith, over.same_length, same.same_length) in
        carries_on classes SIZE_MAX t file b (kept_map s file) s.kept_book o (omega (arith, head_is, long))
        (subst (λ (p : ℕ). SameBelow p file b) (sym head_is) same.below)
        (subst (λ (n : ℕ). HasRoomFor (placed_table classes SIZE_MAX file t)
        (n - head_len t.chosen.block.names)) (sym same.same_length) o.valid.0.within)
        (subst (λ (p : ℕ). SameObjects p t.records file b) (sym head_is)
        (subst (λ (rs : List Record). SameObjects base rs file b) (sym over.checkpoint.records)
        (same_objects base s.kept file b h.kept.named (kept_lies s file h over) same)))

    same_map_there : kept_map s file ≡ kept_map s b
    same_map_there = opens_again.same_map ∙ (λ i. map_of (head_is i) b (over.checkpoint.records i))

    pub checkpoint_again : HasCheckpoint classes s b t
    checkpoint_again = record {
      slot = same_in_use file b s.in_use over.checkpoint.slot
          (omega (arith, over.same_length, same.same_length)) same.below;
      records = over.checkpoint.records;
      opens = subst (λ (m : Map). OpensBy classes SIZE_MAX t b m s.kept_book) same_map_there opens_again;
    }

    pub kept_image : IsKeptImage classes s file b
    kept_image = record {
      same = same;
      opens = record { table = t; opens = opens_again };
      sequence = sequence_of_slot b s.in_use s.in_use.sequence checkpoint_again.slot (omega arith);
    }

    pub kept_map_again : kept_map s b ≡ kept_map s file
    kept_map_again = sym same_map_there

  -- ---- a write apart from the checkpoint's objects

  module _ {a d : disk.State} (place n : ℕ) (is : a.file ≡ file) (apart : AllLieApart place n s.kept)
      (writes : WritesWithin (base + place) n a d) where
    pub rests_again : IsTrue a.tells → RestsOnTable base s.kept a → RestsOnTable base s.kept d
    rests_again told rests image left =
        let was = writes.images image left in
        same_then base s.kept d.file a.file image
        (same_back base s.kept a.file d.file
        (same_written base place n s.kept a.file d.file (writes.others told) apart))
        (same_then base s.kept a.file was.0 image (rests was.0 was.1)
        (same_written base place n s.kept was.0 image was.2 apart))

    pub left_kept : RestsOnTable base s.kept a → Leaves a d (IsKeptImage classes s file)
    left_kept rests = Leaves-weaken (IsKeptImage classes s file) (λ image rewritten.
        kept_image image (same_then base s.kept file rewritten.0 image
        (subst (λ (f : List ℕ). SameOnTable base s.kept f rewritten.0) is (rests rewritten.0 rewritten.1))
        (same_written base place n s.kept rewritten.0 image rewritten.2 apart))) writes.since
