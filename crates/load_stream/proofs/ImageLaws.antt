-- What is done behind the head of a file keeps the table of an empty store.
use Rattle.std.specs.Prelude.{◌≡◌, ◌⊎◌, ℕ, ◌≤◌, List, [], filter, length, map, refl, IsTrue}
use Rattle.std.proofs.Common.{arith, ap, sym, inl, inr, subst}
use Rattle.byte_ranges.specs.Ranges.{SameBelow, SameOutside, resized}
use Rattle.byte_ranges.proofs.RangeLaws.{length-resized, resized-index}
use Rattle.disk_face.specs.States.{State}
use Rattle.disk_face.specs.Frames.{AfterLength}
use Rattle.disk_face.specs.Moments.{ResizedImage, Rests}
use Rattle.disk_face.specs.Writes.{WritesWithin}
use Rattle.disk_face.proofs.MomentLaws.{Leaves-call, Leaves-none, Leaves-trans, Leaves-weaken}
use Rattle.slot_codec.specs.Spelling.{head_len}
use Rattle.slot_codec.specs.declared.codec.Kind.TheVariants.{Settled}
use Rattle.slot_codec.proofs.ChoiceLaws.{in_use_long, same_chosen, same_in_use, same_table}
use Rattle.slot_pair.specs.Formats.{HasFirstTable, first_chosen, first_header, first_in_use, first_table}
use Rattle.load_stream.specs.Images.{StaysEmpty}
use Rattle.load_stream.specs.Saved.{OpensEmpty}
use Rattle.std.specs.FinMap as fin
use Rattle.size_class.specs.Classes.{zero_row}
use Rattle.slot_codec.specs.Names.{is_name}
use Rattle.extent_table.specs.declared.spot.Spot.{Spot}
use Rattle.extent_table.specs.Extents.{record_of, records_of}
use Rattle.map_model.proofs.MapLaws.{entries-empty}
use Rattle.dump_stream.specs.Loading.{filled_by}
use Rattle.dump_stream.proofs.FirstLaws.{first_opens}
use Rattle.dump_stream.proofs.SumLaws.{no_volumes}

-- ---- files

pub first_long : {k names : ℕ} {a : List ℕ} → HasFirstTable k names a → head_len names ≤ length a
first_long {k} {names} {a} first = in_use_long a (first_in_use k names) first.in_use

module _ {k names : ℕ} {a b : List ℕ} (first : HasFirstTable k names a) where
  same_first : head_len names ≤ length b → SameBelow (head_len names) a b → HasFirstTable k names b
  same_first long same = record {
    in_use = same_in_use a b (first_in_use k names) first.in_use long same;
    chosen = same_chosen a b (first_chosen k names) first.chosen long same;
    table = same_table a b (first_table k names) first.table long same;
  }

  first_written : {at n : ℕ} → head_len names ≤ at → SameOutside at n a b → HasFirstTable k names b
  first_written high same = same_first (omega (arith, first_long first, same.same_length))
      (λ i low. same.below i (omega (arith, low, high)))

  first_resized : {n : ℕ} → head_len names ≤ n → ResizedImage n a b → HasFirstTable k names b
  first_resized {n} high same =
      let long : head_len names ≤ length b = elim same.either as (λ _. head_len names ≤ length b) [
        | inl kept ↦ omega (arith, first_long first, kept)
        | inr new ↦ omega (arith, high, new)
      ] in
      same_first long (λ i low. sym (same.bytes i (omega (arith, low, high))
      (omega (arith, low, first_long first))
      (omega (arith, low, long))))

first_of_length : {k names n : ℕ} (a : List ℕ) → HasFirstTable k names a → head_len names ≤ n
    → HasFirstTable k names (resized a n)
first_of_length {k} {names} {n} a first high = same_first {b = resized a n} first
    (omega (arith, high, length-resized a n))
    (λ i low. sym (resized-index a n i (omega (arith, low, high))
    (omega (arith, low, in_use_long a (first_in_use k names) first.in_use))))

-- ---- states

pub empty_begins : (k names : ℕ) (s : State) → Rests s → HasFirstTable k names s.file → StaysEmpty k names s s
empty_begins k names s rests first = record {
  file = λ _. first;
  images = λ image left. subst (HasFirstTable k names) (sym (rests image left)) first;
  since = Leaves-none s (HasFirstTable k names);
}

pub empty_written : (k names at n : ℕ) (start old new : State) → head_len names ≤ at
    → StaysEmpty k names start old → WritesWithin at n old new → StaysEmpty k names start new
empty_written k names at n start old new high e w = record {
  file = λ told. let before : IsTrue old.tells = subst IsTrue w.stays.told told in
      first_written (e.file before) high (w.others before);
  images = λ image left. let was = w.images image left in first_written (e.images was.0 was.1) high was.2;
  since = Leaves-trans e.since (Leaves-weaken (HasFirstTable k names)
      (λ image was. first_written (e.images was.0 was.1) high was.2) w.since);
}

pub empty_resized : (k names n : ℕ) (start old new : State) → head_len names ≤ n
    → StaysEmpty k names start old → AfterLength n old new
    → (IsTrue old.tells → (new.file ≡ old.file) ⊎ (new.file ≡ resized old.file n))
    → StaysEmpty k names start new
empty_resized k names n start old new high e w is =
    let images : (image : List ℕ) → new.may_leave image → HasFirstTable k names image =
    λ image left. let was = w.images image left in first_resized (e.images was.0 was.1) high was.2 in
    record {
      file = λ told. let before : IsTrue old.tells = subst IsTrue w.stays.told told in
          elim (is before) as (λ _. HasFirstTable k names new.file) [
            | inl same ↦ subst (HasFirstTable k names) (sym same) (e.file before)
            | inr cut ↦ subst (HasFirstTable k names) (sym cut) (first_of_length old.file
                (e.file before) high)
          ];
      images = images;
      since = Leaves-trans e.since (Leaves-call (HasFirstTable k names) w.time images);
    }

-- ---- an empty store opens to the empty map

pub none_filled : filled_by [] ≡ zero_row
none_filled = sym no_volumes

pub no_records : records_of fin.empty ≡ []
no_records = ap (λ es. map record_of (filter (λ (e : List ℕ × Spot). is_name e.0) es)) entries-empty

-- its table is settled
pub first_settled : (k names : ℕ) → (first_table k names).chosen.header.kind ≡ Settled
unfolding first_header
first_settled k names = refl

-- and has the sequence of the format
pub first_sequence : (k names : ℕ) → (first_table k names).chosen.header.sequence ≡ 1
unfolding first_header
first_sequence k names = refl

-- a file that was formatted for these numbers opens by its table to the empty map, however long it is
pub empty_for : (k names : ℕ) (file : List ℕ) → HasFirstTable k names file → OpensEmpty k names file
empty_for k names file first = record {
  table = first_table k names;
  made_for = refl;
  settled = first_settled k names;
  low = omega (arith, first_sequence k names);
  opens = first_opens k names file first;
}
