-- The table of a file that was read, as its texts tell it.
use Rattle.std.specs.Prelude.{◌≡◌, ℕ, List, ◌++◌, length, codes, slice_get, option_map, Some, Ok, refl}
use Rattle.std.proofs.Common.{◌∙◌, ap, arith, sym, inl}
use Rattle.std.proofs.lemmas.Grind.{common_steps}
use Rattle.std.proofs.lemmas.List.{length-map}
use Rattle.std.proofs.lemmas.Option.{slice_get-map}
use Rattle.std.specs.FinMap as fin
use Rattle.size_class.specs.declared.TheConstants.{CLASSES, SIZE_MAX}
use Rattle.slot_codec.specs.Choice as choice
use Rattle.slot_codec.specs.Spelling.{head_len}
use Rattle.slot_codec.specs.declared.codec.Record.{Record}
use Rattle.segment_layout.specs.Books.{with_digests}
use Rattle.table_rules.specs.Opening.{placed_table}
use Rattle.table_rules.specs.Tables.{book_of, size_sum}
use Rattle.extent_table.specs.declared.spot.Spot.{Spot}
use Rattle.extent_table.specs.Extents.{Extents, IsTable, record_of, records_of, volume_of}
use Rattle.extent_table.proofs.ExtentLaws.{records_of-all}
use Rattle.placement_model.specs.Reads.{read_at}
use Rattle.placement_model.proofs.SpotSumLaws.{records_sum, volume_of-weights}
use Rattle.reopen.specs.Loads.{IsReadAs, KeepsRead, digests_loaded, table_seen}
use Rattle.reopen.specs.declared.state.Loaded.{Loaded}
use Rattle.command_face.specs.Lines.{numbered}
use Rattle.file_commands.specs.Texts.{IsTold, check_text, data_of, kind_text}

-- pieces of a line, one after another
joined : (s x y z u v w t a b c d : List ℕ) → a ≡ s → b ≡ a ++ x ++ y ++ z → c ≡ b ++ u ++ v ++ w → d ≡ c ++ t
    → d ≡ s ++ x ++ y ++ z ++ u ++ v ++ w ++ t
joined s x y z u v w t a b c d first second third last =
    grind (arith, common_steps, first, second, third, last)

-- the line of `check`, by the numbers that were put
pub check_line : (t : choice.SlotTable) (len count bytes data_len : ℕ) (a b c d : List ℕ)
    → count ≡ length t.records → bytes ≡ size_sum t.records → data_len ≡ data_of t len → a ≡ codes "store"
    → b ≡ a ++ numbered t.chosen.block.k ++ numbered t.chosen.block.names ++ numbered count
    → c ≡ b ++ numbered bytes ++ numbered data_len ++ numbered t.chosen.header.sequence
    → d ≡ c ++ kind_text t.chosen.header.kind → d ≡ check_text t len
check_line t len count bytes data_len a b c d same_count same_bytes same_data first second third last =
    joined (codes "store") (numbered t.chosen.block.k) (numbered t.chosen.block.names)
    (numbered (length t.records)) (numbered (size_sum t.records)) (numbered (data_of t len))
    (numbered t.chosen.header.sequence)
    (kind_text t.chosen.header.kind) a b c d first
    (second
    ∙ ap (λ n. a ++ numbered t.chosen.block.k ++ numbered t.chosen.block.names ++ numbered n) same_count)
    (third ∙ ap (λ n. b ++ numbered n ++ numbered data_len ++ numbered t.chosen.header.sequence) same_bytes
    ∙ ap (λ n. b ++ numbered (size_sum t.records) ++ numbered n ++ numbered t.chosen.header.sequence)
    same_data)
    last

-- there is a record for each name, and together they have the names' bytes
pub count_of : (e : Extents) → IsTable e → length (records_of e.now) ≡ fin.len e.now
count_of e table = ap length (records_of-all e.now table.now_named)
    ∙ length-map (fin.entries e.now) record_of
    ∙ sym (fin.len-entries e.now)

pub records_count : (x : Loaded CLASSES) → KeepsRead x
    → length (records_of x.table.now) ≡ fin.len x.table.now
records_count x keeps = count_of x.table keeps.is_table

-- the record of an entry
pub record_at : (e : Extents) → IsTable e → (n : ℕ) (name : List ℕ) (s : Spot)
    → slice_get (fin.entries e.now) n ≡ Some (name, s)
    → slice_get (records_of e.now) n ≡ Some (record_of (name, s))
record_at e table n name s is = ap (λ rs. slice_get rs n) (records_of-all e.now table.now_named)
    ∙ slice_get-map record_of (fin.entries e.now) n
    ∙ ap (option_map record_of) is

pub records_volume : (x : Loaded CLASSES) → KeepsRead x
    → size_sum (records_of x.table.now) ≡ volume_of x.table.now
records_volume x keeps = records_sum (λ (r : Record). r.size) x.table.now keeps.is_table.now_named
    ∙ sym (volume_of-weights x.table.now)

-- a text of the table that was read is the one that is to be told
pub told_of : (text : choice.SlotTable → ℕ → List ℕ) (file : List ℕ) (x : Loaded CLASSES)
    (from : IsReadAs file x)
    → IsTold text file (Ok (text (table_seen x (digests_loaded x)) (length file)))
told_of text file x from = inl (record {
  table = table_seen x (digests_loaded x);
  map = read_at (head_len x.block.names) file x.table.now;
  book = with_digests (digests_loaded x)
      (book_of (placed_table CLASSES SIZE_MAX file (table_seen x (digests_loaded x))));
  reads = from;
  same = refl;
})
