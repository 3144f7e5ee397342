-- The map of a file that opens has a dump.
use Rattle.std.specs.Prelude.{◌≡◌, ℕ, suc, ◌+◌, ◌<◌, ◌≤◌, false, List, [], ◌∷◌, length, map, slice_index_or, Option, Some, None, Ok}
use Rattle.std.specs.List.{AllByRecursion}
use Rattle.std.proofs.Common.{ap, arith, subst, sym}
use Rattle.std.specs.FinMap as fin
use Rattle.byte_ranges.specs.Ranges.{bytes_at}
use Rattle.byte_ranges.proofs.RangeLaws.{length-bytes_at}
use Rattle.slot_codec.specs.Choice as choice
use Rattle.slot_codec.specs.Spelling.{head_len, superblock_len}
use Rattle.slot_codec.specs.declared.codec.Record.{Record}
use Rattle.slot_codec.specs.declared.codec.SuperBlock.{SuperBlock}
use Rattle.slot_codec.proofs.CapLaws.{cap-low}
use Rattle.slot_codec.proofs.ChoiceLaws.{ChosenParts, chosen_parts, table_chosen}
use Rattle.slot_codec.proofs.HeaderLaws.{header_tests_in}
use Rattle.slot_codec.proofs.KeyedLaws.{table_count_in, table_rises_in}
use Rattle.slot_codec.proofs.PickLaws.{in_use_parts_in}
use Rattle.slot_codec.proofs.RollLaws.{RiseFrom}
use Rattle.slot_codec.proofs.SuperBlockLaws.{superblock_parts_in}
use Rattle.map_model.specs.Maps.{Map}
use Rattle.segment_layout.specs.Books.{Book}
use Rattle.table_rules.specs.Opening.{OpensBy}
use Rattle.table_rules.specs.Tables.{end_of_record, no_record}
use Rattle.placement_model.proofs.OpenedLaws.{record_within}
use Rattle.dump_stream.specs.Dumps.{CanDump, IsObject}
use Rattle.file_commands.proofs.MapLaws.{entries_of_map, entry_of, names_counted}

-- what records of such sizes have in a file may be dumped
module _ (base most : ℕ) (file : List ℕ) where
  objects : (before : Option (List ℕ)) (rs : List Record) → RiseFrom before rs
      → ((i : ℕ) → i < length rs → (slice_index_or rs i no_record).size ≤ most)
      → ((i : ℕ) → i < length rs → base + end_of_record (slice_index_or rs i no_record) ≤ length file)
      → AllByRecursion (IsObject most) (map (entry_of base file) rs)
  objects before [] rise sizes within = tt
  objects before (r ∷ rs) rise sizes within = (
    record {
      named = rise.0.named;
      small = omega (
        arith,
        sizes 0 (omega arith),
        length-bytes_at file (base + r.place) r.size (omega (arith, within 0 (omega arith))),
      );
    },
    objects (Some r.name) rs rise.2 (λ i low. sizes (suc i) (omega (arith, low)))
        (λ i low. within (suc i) (omega (arith, low))),
  )

module _ (classes most : ℕ) (t : choice.SlotTable) (file : List ℕ) (m : Map) (b : Book)
    (o : OpensBy classes most t file m b) where
  parts : ChosenParts file t.chosen
  parts = chosen_parts file t.chosen (table_chosen file t o.read).0

  -- there are no more names than the file has room for, which no file has for more than 65,536
  pub names_fit : fin.len m ≤ t.chosen.block.names
  names_fit =
      let names = parts.in_use.block.names in
      let tests = header_tests_in false names _ t.chosen.header parts.header_read in
      omega (
        arith,
        names_counted false classes most t file m b o,
        table_count_in false file t o.read,
        tests.count,
        cap-low names t.chosen.header.version,
        ap (λ (s : SuperBlock). s.names) parts.same_block,
      )

  names_high : t.chosen.block.names ≤ 65536
  names_high =
      let p = in_use_parts_in false file parts.in_use parts.slot_read in
      let s = superblock_parts_in false _ parts.in_use.block p.block in
      omega (arith, s.fits.names_high, ap (λ (s : SuperBlock). s.names) parts.same_block)

  pub can_dump : CanDump most m
  can_dump = record {
    few = omega (arith, names_fit, names_high);
    each = subst (AllByRecursion (IsObject most)) (sym (entries_of_map false classes most t file m b o))
        (objects (head_len t.chosen.block.names) most file None t.records (table_rises_in false file t o.read)
        o.valid.0.places.sizes (record_within classes most t file m b o));
  }
