-- What the records of a file that opens, or is read, have in common with its map.
use Rattle.std.specs.Prelude.{◌≡◌, ℕ, suc, ◌+◌, ◌<◌, ◌≤◌, ◌&&◌, Bool, List, [], ◌∷◌, length, map, slice_index_or, sum_by, Option, Some, None, true, T, refl}
use Rattle.std.proofs.Common.{◌∙◌, ap, arith, subst, sym}
use Rattle.std.proofs.lemmas.List.{length-map}
use Rattle.std.proofs.lemmas.List.Sums.{sum_by-cons}
use Rattle.std.specs.Ordering.{is_lt}
use Rattle.std.specs.FinMap as fin
use Rattle.std.specs.FinMap.Entries.{below_all}
use Rattle.byte_ranges.specs.Ranges.{bytes_at}
use Rattle.byte_ranges.proofs.RangeLaws.{length-bytes_at}
use Rattle.slot_codec.specs.Choice as choice
use Rattle.slot_codec.specs.Spelling.{head_len}
use Rattle.slot_codec.specs.declared.codec.Record.{Record}
use Rattle.slot_codec.proofs.KeyedLaws.{table_rises_in}
use Rattle.slot_codec.proofs.RollLaws.{RiseFrom, name_lt-trans}
use Rattle.map_model.specs.Maps.{Map, name_cmp, volume}
use Rattle.map_model.proofs.MapLaws.{name_order, names_differ}
use Rattle.segment_layout.specs.Books.{Book}
use Rattle.table_rules.specs.Opening.{OpensIn}
use Rattle.table_rules.specs.Tables.{end_of_record, map_of, no_record, size_sum}
use Rattle.placement_model.proofs.OpenedLaws.{record_within}

module _ (base : ℕ) (file : List ℕ) where
  abbrev pub entry_of : Record → List ℕ × List ℕ
  entry_of r = (r.name, bytes_at file (base + r.place) r.size)

  below_true : (k j : List ℕ) → ((n : List ℕ) → is_lt (name_cmp j n) ≡ true → is_lt (name_cmp k n) ≡ true)
      → (rs : List Record) → RiseFrom (Some j) rs → below_all name_cmp k (map entry_of rs) ≡ true
  below_true k j up [] h = refl
  below_true k j up (r ∷ rs) h =
      let first = up r.name h.1 in
      let rest = below_true k r.name (λ n less. name_lt-trans k r.name n first less) rs h.2 in
      λ i. first i && rest i

  sorted_true : (before : Option (List ℕ)) (rs : List Record) → RiseFrom before rs
      → fin.is_sorted name_cmp (map entry_of rs) ≡ true
  sorted_true before [] h = refl
  sorted_true before (r ∷ rs) h =
      let first = below_true r.name r.name (λ n less. less) rs h.2 in
      let rest = sorted_true (Some r.name) rs h.2 in
      λ i. first i && rest i

  entries_are : (rs : List Record) → RiseFrom None rs → fin.entries (map_of base file rs) ≡ map entry_of rs
  entries_are rs h =
      let es = map entry_of rs in
      let sorted : T (fin.is_sorted name_cmp es) = subst T (sym (sorted_true None rs h)) tt in
      let same : map_of base file rs ≡ fin.from_sorted es =
      fin.same_map name_order names_differ (map_of base file rs) (fin.from_sorted es) (λ q.
      fin.get-from_entries name_order es q ∙ sym (fin.get-from_sorted name_cmp es q sorted)) in
      ap fin.entries same ∙ fin.entries-from_sorted name_cmp es sorted

  sizes_are : (rs : List Record)
      → ((i : ℕ) → i < length rs → base + end_of_record (slice_index_or rs i no_record) ≤ length file)
      → sum_by length (map (λ (e : List ℕ × List ℕ). e.1) (map entry_of rs)) ≡ size_sum rs
  sizes_are [] within = refl
  sizes_are (r ∷ rs) within = omega (
    arith,
    sum_by-cons (λ (x : List ℕ). length x) (bytes_at file (base + r.place) r.size)
        (map (λ (e : List ℕ × List ℕ). e.1) (map entry_of rs)),
    sum_by-cons (λ (x : Record). x.size) r rs,
    length-bytes_at file (base + r.place) r.size (omega (arith, within 0 (omega arith))),
    sizes_are rs (λ i low. within (suc i) (omega (arith, low))),
  )

module _ (logged : Bool) (classes most : ℕ) (t : choice.SlotTable) (file : List ℕ) (m : Map) (b : Book)
    (o : OpensIn logged classes most t file m b) where
  rise : RiseFrom None t.records
  rise = table_rises_in logged file t o.read

  -- the map has an entry for each record
  pub entries_of_map : fin.entries m ≡ map (entry_of (head_len t.chosen.block.names) file) t.records
  entries_of_map = ap fin.entries o.same_map ∙ entries_are (head_len t.chosen.block.names) file t.records rise

  -- as many names as records, and as many bytes
  pub names_counted : fin.len m ≡ length t.records
  names_counted = fin.len-entries m ∙ ap length entries_of_map
      ∙ length-map t.records (entry_of (head_len t.chosen.block.names) file)

  pub bytes_counted : volume m ≡ size_sum t.records
  bytes_counted =
      ap (λ (es : List (List ℕ × List ℕ)). sum_by length (map (λ (e : List ℕ × List ℕ). e.1) es)) entries_of_map
      ∙ sizes_are (head_len t.chosen.block.names) file t.records (record_within classes most t file m b o)
