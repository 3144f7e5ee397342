-- A file stands for what another stands for, if it is the same below the data part and where the objects are.
use Rattle.std.specs.Prelude.{◌≡◌, ℕ, ◌+◌, ◌-◌, ◌≤◌, nat_lt, if◌then◌else◌, List, [], ◌∷◌, length, refl}
use Rattle.std.proofs.Common.{arith, ap, sym, ◌∙◌, subst, inl, inr}
use Rattle.std.specs.FinMap as fin
use Rattle.byte_ranges.specs.Ranges.{SameBelow, SameWithin, SameOutside, bytes_at}
use Rattle.byte_ranges.proofs.RangeLaws.{within_below, within_above, bytes_at-same}
use Rattle.slot_codec.specs.Spelling.{head_len}
use Rattle.slot_codec.specs.Choice as choice
use Rattle.slot_codec.proofs.ChoiceLaws.{same_table, chosen_long, table_chosen}
use Rattle.slot_codec.specs.declared.codec.Kind.{Kind}
use Rattle.slot_codec.specs.declared.codec.Kind.TheVariants.{Settled, Moving}
use Rattle.slot_codec.specs.declared.codec.Record.{Record}
use Rattle.map_model.specs.Maps.{Map}
use Rattle.segment_layout.specs.Books.{Book, with_digests}
use Rattle.table_rules.specs.Tables.{TableInLayout, map_of, book_of, nth, end_of_record, last_end}
use Rattle.table_rules.specs.Opening.{OpensBy, placed_table}
use Rattle.table_rules.specs.Objects.{SameObjects, HasRoomFor, AllApart}
use Rattle.table_rules.proofs.HeaderLaws.{places_renumbered}
use Rattle.table_rules.specs.Rules.{IsValid, KeepsPlaces, CanResume, KindFits, IsMore}

same_map_of : (base : ℕ) (rs : List Record) (a b : List ℕ) → SameObjects base rs a b
    → map_of base b rs ≡ map_of base a rs
same_map_of base [] a b h = refl
same_map_of base (r ∷ rs) a b h =
    let object : bytes_at b (base + r.place) r.size
    ≡ bytes_at a (base + r.place) r.size = sym (bytes_at-same a b (base + r.place) r.size h.0 h.1 h.2) in
    λ i. fin.insert (same_map_of base rs a b h.3 i) r.name (object i)

places_longer : (t : TableInLayout) (n : ℕ) → KeepsPlaces t → KeepsPlaces (record t { data_len = n })
places_longer t n p = places_renumbered t.header.version t.header.sequence t.header.count n t p

resume_longer : (t : TableInLayout) (n : ℕ) → CanResume t → CanResume (record t { data_len = n })
resume_longer t n r = record {
  room = record { wall = r.room.wall; slack = r.room.slack };
  places = λ i h. record {
    side = (r.places i h).side;
    order = (r.places i h).order;
    gap = (r.places i h).gap;
  };
}

front_longer : (t : TableInLayout) (n : ℕ) (kind : Kind) → KindFits t kind
    → KindFits (record t { data_len = n }) kind
front_longer t n Settled h = h
front_longer t n Moving h = h

more_longer : (t : TableInLayout) (n : ℕ) (kind : Kind) → IsMore t kind
    → IsMore (record t { data_len = n }) kind
more_longer t n Settled h = h
more_longer t n Moving h = resume_longer t n h

last_end_longer : (t : TableInLayout) (n : ℕ) (kind : Kind)
    → last_end (record t { data_len = n }) kind ≡ last_end t kind
last_end_longer t n Settled = refl
last_end_longer t n Moving = refl

-- a table is valid beside any data part that has room for it
pub valid_longer : (t : TableInLayout) (n : ℕ) → HasRoomFor t n → IsValid t
    → IsValid (record t { data_len = n })
valid_longer t n room v = (
  record {
    places = places_longer t n v.0.places;
    within = λ i h. subst (λ x. (if nat_lt i (length t.records) then end_of_record (nth t i) else x) ≤ n)
        (sym (last_end_longer t n t.header.kind)) (room i h);
    front = front_longer t n t.header.kind v.0.front;
  },
  more_longer t n t.header.kind v.1,
)

book_longer : (t : TableInLayout) (n : ℕ) → book_of (record t { data_len = n }) ≡ book_of t
book_longer t n = refl

-- The law on which each step of a flush stands.
pub carries_on : (classes size_max : ℕ) (t : choice.SlotTable) (a b : List ℕ) (m : Map) (book : Book)
    → OpensBy classes size_max t a m book
    → head_len t.chosen.block.names ≤ length b
    → SameBelow (head_len t.chosen.block.names) a b
    → HasRoomFor (placed_table classes size_max a t) (length b - head_len t.chosen.block.names)
    → SameObjects (head_len t.chosen.block.names) t.records a b
    → OpensBy classes size_max t b m book
carries_on classes size_max t a b m book o long same room objects =
    record {
      read = same_table a b t o.read long same;
      valid = valid_longer (placed_table classes size_max a t) (length b - head_len t.chosen.block.names) room
          o.valid;
      same_map = o.same_map ∙ sym (same_map_of (head_len t.chosen.block.names) t.records a b objects);
      same_book = o.same_book ∙ ap (with_digests t.digests)
          (sym (book_longer (placed_table classes size_max a t) (length b - head_len t.chosen.block.names)));
    }

-- a change outside the objects leaves them as they were
pub objects_stay : (base at n : ℕ) (rs : List Record) (a b : List ℕ) → SameOutside at n a b
    → AllApart base at n (length a) rs → SameObjects base rs a b
objects_stay base at n [] a b same h = tt
objects_stay base at n (r ∷ rs) a b same h = (
  h.1,
  omega (arith, h.1, same.same_length),
  elim h.0 as (λ x. SameWithin (base + r.place) (base + r.place + r.size) a b) [
    | inl low ↦ within_below at n _
        _ a b same low
    | inr high ↦ within_above at n _ _ a b same high
  ],
  objects_stay base at n rs a b same h.2,
)

-- a change within the data part, apart from the objects of the table, leaves what a file stands for
pub opens_after_write : (classes size_max : ℕ) (t : choice.SlotTable) (a b : List ℕ) (m : Map) (book : Book)
    (at n : ℕ) → OpensBy classes size_max t a m book
    → head_len t.chosen.block.names ≤ at
    → SameOutside at n a b
    → AllApart (head_len t.chosen.block.names) at n (length a) t.records
    → OpensBy classes size_max t b m book
opens_after_write classes size_max t a b m book at n o low same apart =
    let base = head_len t.chosen.block.names in
    let long : base ≤ length a = chosen_long a t.chosen (table_chosen a t o.read).0 in
    let len : length b - base ≡ length a - base = omega (arith, same.same_length) in
    carries_on classes size_max t a b m book o (omega (arith, long, same.same_length))
    (λ i h. same.below i (omega (arith, h, low)))
    (λ i h. subst (λ x. (if nat_lt i (length t.records)
    then end_of_record (nth (placed_table classes size_max a t) i)
    else last_end (placed_table classes size_max a t) t.chosen.header.kind) ≤ x) (sym len)
    (o.valid.0.within i h))
    (objects_stay base at n t.records a b same apart)
