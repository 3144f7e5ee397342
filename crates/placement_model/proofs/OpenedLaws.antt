-- What a file opens to once its length is set.
use Rattle.std.specs.Prelude.{ℕ, suc, ◌+◌, ◌-◌, ◌<◌, ◌≤◌, nat_lt, min, if◌then◌else◌, Bool, List, [], ◌∷◌, length, slice_index_or}
use Rattle.std.proofs.Common.{arith, sym, subst, inl, inr}
use Rattle.std.proofs.lemmas.Bool.{cond-true, lt-ltb}
use Rattle.byte_ranges.specs.Ranges.{SameBelow}
use Rattle.disk_face.specs.Moments.{ResizedImage}
use Rattle.slot_codec.specs.Choice as choice
use Rattle.slot_codec.proofs.LoggedLaws.{table_long}
use Rattle.slot_codec.specs.Spelling.{head_len}
use Rattle.slot_codec.specs.declared.codec.Record.{Record}
use Rattle.map_model.specs.Maps.{Map}
use Rattle.segment_layout.specs.Books.{Book}
use Rattle.table_rules.specs.Tables.{last_end, no_record, nth, end_of_record}
use Rattle.table_rules.specs.Opening.{OpensBy, OpensIn, placed_table}
use Rattle.table_rules.specs.Objects.{HasRoomFor, SameObjects}
use Rattle.table_rules.proofs.OpeningLaws.{carries_on}

-- ---- a length that is set

-- the data part begins within a file that opens
pub opens_long : {logged : Bool} (classes most : ℕ) (t : choice.SlotTable) (file : List ℕ) (m : Map) (b : Book)
    → OpensIn logged classes most t file m b → head_len t.chosen.block.names ≤ length file
opens_long {logged} classes most t file m b o = table_long logged file t o.read

-- each record of a table ends within the file that opens by it
pub record_within : {logged : Bool} (classes most : ℕ) (t : choice.SlotTable) (file : List ℕ) (m : Map)
    (b : Book) → OpensIn logged classes most t file m b → (i : ℕ) → i < length t.records
    → head_len t.chosen.block.names + end_of_record (slice_index_or t.records i no_record) ≤ length file
record_within classes most t file m b o i low =
    let placed = placed_table classes most file t in
    let long = opens_long classes most t file m b o in
    let r = slice_index_or t.records i no_record in
    omega (
      arith,
      long,
      o.valid.0.within i (omega (arith, low)),
      cond-true (nat_lt i (length t.records)) (end_of_record r) (last_end placed placed.header.kind)
          (lt-ltb i (length t.records) low),
    )

-- objects that end at or before a position up to which two files are alike
pub objects_below : (base p : ℕ) (rs : List Record) (a b : List ℕ)
    → ((i : ℕ) → i < length rs → base + end_of_record (slice_index_or rs i no_record) ≤ p) → p ≤ length a
    → p ≤ length b → SameBelow p a b → SameObjects base rs a b
objects_below base p [] a b low in_a in_b same = tt
objects_below base p (r ∷ rs) a b low in_a in_b same =
    let here : base + end_of_record r ≤ p = low 0 (omega arith) in (
      omega (arith, here, in_a),
      omega (arith, here, in_b),
      λ i l h. same i (omega (arith, h, here)),
      objects_below base p rs a b (λ i h. low (suc i) (omega (arith, h))) in_a in_b same,
    )

-- A file opens as before once its length is set, or is being set, where its table has room in the new length.
pub opens_resized : (classes most : ℕ) (t : choice.SlotTable) (before image : List ℕ) (m : Map) (b : Book)
    (n : ℕ)
    → OpensBy classes most t before m b → ResizedImage n before image → head_len t.chosen.block.names ≤ n
    → HasRoomFor (placed_table classes most before t) (n - head_len t.chosen.block.names)
    → OpensBy classes most t image m b
opens_resized classes most t before image m b n o step low room =
    let base = head_len t.chosen.block.names in
    let placed = placed_table classes most before t in
    let long = opens_long classes most t before m b o in
    let p = min n (length before) in
    let in_image : p ≤ length image = elim step.either
    as (λ x. p ≤ length image) [ inl e ↦ omega (arith, e) | inr e ↦ omega (arith, e) ] in
    let long_image : base ≤ length image =
    elim step.either as (λ x. base ≤ length image) [
      | inl e ↦ omega (arith, e, long)
      | inr e ↦ omega
          (arith, e, low)
    ] in
    let same : SameBelow p before image =
    λ i h. sym (step.bytes i (omega (arith, h)) (omega (arith, h)) (omega (arith, h, in_image))) in
    let fits : (i : ℕ) → i < length t.records
    → base + end_of_record (slice_index_or t.records i no_record) ≤ p = λ i h.
    let r = slice_index_or t.records i no_record in
    omega (
      arith,
      low,
      record_within classes most t before m b o i h,
      room i (omega (arith, h)),
      cond-true (nat_lt i (length t.records)) (end_of_record r) (last_end placed placed.header.kind)
          (lt-ltb i (length t.records) h),
    ) in
    let room_image : HasRoomFor placed (length image - base) =
    λ i h. elim step.either as (λ x. (if nat_lt i (length t.records) then end_of_record (nth placed i)
    else last_end placed placed.header.kind) ≤ length image - base) [
      | inl e ↦ subst (λ x. (if nat_lt i (length t.records) then end_of_record (nth placed i)
          else last_end placed placed.header.kind) ≤ x - base) (sym e) (o.valid.0.within i h)
      | inr e ↦ subst (λ x. (if nat_lt i (length t.records) then end_of_record (nth placed i)
          else last_end placed placed.header.kind) ≤ x - base) (sym e) (room i h)
    ] in
    carries_on classes most t before image m b o long_image (λ i h. same i (omega (arith, h, low, long)))
    room_image (objects_below base p t.records before image fits (omega arith) in_image same)
