-- The rows of a table by name, and what a move, a removal and a record that is put make of them.
use Rattle.std.proofs.Common.{◌≡◌, ℕ, Bool, true, false, cond, List, [], ◌∷◌, map, length, Option, Some, None, is_some, option_map, refl, ap, sym, ◌∙◌}
use Rattle.std.proofs.lemmas.Cmp.{nat_list_cmp_total, tied_itself}
use Rattle.std.proofs.lemmas.List.{length-map}
use Rattle.std.proofs.lemmas.Option.{slice_get-map}
use Rattle.std.specs.List.{slice_get}
use Rattle.std.specs.Ordering.{eq_by_cmp, is_eq}
use Rattle.std.specs.FinMap as fin
use Rattle.std.specs.FinMap.{nat_cmp-IsAntisymmetric, slice_cmp-IsAntisymmetric}
use Rattle.slot_codec.specs.Choice.{Digests}
use Rattle.slot_codec.specs.Names.{name_cmp}
use Rattle.slot_codec.specs.Rows.{by_name, moved_row, with_place, with_row}
use Rattle.slot_codec.specs.Spelling.{digest_len}
use Rattle.slot_codec.specs.declared.codec.Record.{Record}
use Rattle.slot_codec.proofs.RowLaws.{rows_are_records}
use Rattle.extent_table.specs.declared.spot.Spot.{Spot}
use Rattle.extent_table.specs.Extents.{Extents, IsTable, digest_or_zeros, record_of, records_of, rolled, with_digest}
use Rattle.extent_table.specs.Rising.{rolled-rise}
use Rattle.extent_table.proofs.ExtentLaws.{records_of-all, records_of-count, records_of-nth}
use Rattle.extent_table.proofs.MapLemmas.{tie_of}
use Rattle.extent_table.proofs.RollLaws.{digest_stays}
use Rattle.extent_table.proofs.SaveLaws.{rolled_in_range}
use Rattle.reopen.specs.Logs.{rows_in}

names_differ : fin.IsAntisymmetric name_cmp
names_differ = slice_cmp-IsAntisymmetric nat_cmp-IsAntisymmetric

-- names that tie are one name
same_name : (q k : List ℕ) → eq_by_cmp name_cmp q k ≡ true → q ≡ k
same_name q k tied = names_differ q k (tie_of (name_cmp q k) tied)

-- the record of a name
abbrev row_of : Digests → List ℕ → Spot → Record
row_of digests q s = with_digest digests (record_of (q, s))

-- the record of a name among those of a list
find_row : (digests : Digests) (q : List ℕ) (es : List (List ℕ × Spot))
    → fin.find name_cmp q (map by_name (map (with_digest digests) (map record_of es)))
    ≡ option_map (row_of digests q) (fin.find name_cmp q es)
find_row digests q [] = refl
find_row digests q (e ∷ es) = by_tie (find_row digests q es) (eq_by_cmp name_cmp q e.0) refl
  where
    rest : Option Record
    rest = fin.find name_cmp q (map by_name (map (with_digest digests) (map record_of es)))

    by_tie : rest ≡ option_map (row_of digests q) (fin.find name_cmp q es) → (b : Bool)
        → eq_by_cmp name_cmp q e.0 ≡ b
        → cond b (Some (row_of digests e.0 e.1)) rest
        ≡ option_map (row_of digests q) (cond b (Some e.1) (fin.find name_cmp q es))
    by_tie later true is = ap (λ k. Some (row_of digests k e.1)) (sym (same_name q e.0 is))
    by_tie later false is = later

-- at each name the rows have the record of that name
pub get_rows : (e : Extents) → IsTable e → (q : List ℕ)
    → fin.get (rows_in e) q ≡ option_map (row_of e.digests q) (fin.get e.now q)
get_rows e table q =
    fin.get-from_entries nat_list_cmp_total (map by_name (rolled e.now e.digests)) q
    ∙ ap (λ rs. fin.find name_cmp q (map by_name (map (with_digest e.digests) rs)))
    (records_of-all e.now table.now_named)
    ∙ find_row e.digests q (fin.entries e.now)
    ∙ ap (option_map (row_of e.digests q)) (sym (fin.get-entries e.now q))

some_mapped : {A B : Type 0} (f : A → B) (o : Option A) → is_some (option_map f o) ≡ is_some o
some_mapped f None = refl
some_mapped f (Some x) = refl

-- they have the names of the table
pub rows_have : (e : Extents) → IsTable e → (q : List ℕ)
    → fin.contains_key (rows_in e) q ≡ is_some (fin.get e.now q)
rows_have e table q = ap (λ o. is_some o) (get_rows e table q)
    ∙ some_mapped (row_of e.digests q) (fin.get e.now q)

-- and are its records
pub rows_values : (e : Extents) → IsTable e → fin.values (rows_in e) ≡ rolled e.now e.digests
rows_values e table = rows_are_records (rolled e.now e.digests) (rows_in e) (rolled-rise e.now e.digests)
    (rolled_in_range e table) (λ q. refl)

-- so there are as many as names
pub rows_count : (e : Extents) → IsTable e → fin.len (rows_in e) ≡ fin.len e.now
rows_count e table =
    fin.len-entries (rows_in e)
    ∙ sym (length-map (fin.entries (rows_in e)) (λ (p : List ℕ × Record). p.1))
    ∙ ap length (rows_values e table)
    ∙ length-map (records_of e.now) (with_digest e.digests)
    ∙ records_of-count e.now table.now_named

-- a table with one record more, or another one for its name
pub record Sets (r : Record) (old new : Extents) : Type 0 where
  pub now : new.now ≡ fin.insert old.now r.name (record { place = r.place; size = r.size })
  pub digest : digest_or_zeros (fin.get new.digests r.name) ≡ r.digest
  pub others : (q : List ℕ) → eq_by_cmp name_cmp q r.name ≡ false
      → fin.get new.digests q ≡ fin.get old.digests q

pub rows_set : (r : Record) (old new : Extents) → IsTable old → IsTable new → Sets r old new
    → rows_in new ≡ with_row (rows_in old) r
rows_set r old new table table' set =
    fin.same_map nat_list_cmp_total names_differ (rows_in new) (with_row (rows_in old) r) each
  where
    spot : Spot
    spot = record { place = r.place; size = r.size }

    by_tie : (q : List ℕ) (b : Bool) → eq_by_cmp name_cmp q r.name ≡ b
        → option_map (row_of new.digests q) (cond b (Some spot) (fin.get old.now q))
        ≡ cond b (Some r) (option_map (row_of old.digests q) (fin.get old.now q))
    by_tie q true is =
        ap (λ k. Some (row_of new.digests k spot)) (same_name q r.name is)
        ∙ ap (λ d. Some (record r { digest = d })) set.digest
    by_tie q false is = ap (λ o. option_map (λ (s : Spot). record (record_of (q, s)) {
      digest =
          digest_or_zeros o;
    })
        (fin.get old.now q)) (set.others q is)

    each : (q : List ℕ) → fin.get (rows_in new) q ≡ fin.get (with_row (rows_in old) r) q
    each q =
        get_rows new table' q
        ∙ ap (λ m. option_map (row_of new.digests q) (fin.get m q)) set.now
        ∙ ap (option_map (row_of new.digests q)) (fin.get-insert nat_list_cmp_total old.now r.name spot q)
        ∙ by_tie q (eq_by_cmp name_cmp q r.name) refl
        ∙ ap (cond (eq_by_cmp name_cmp q r.name) (Some r)) (sym (get_rows old table q))
        ∙ sym (fin.get-insert nat_list_cmp_total (rows_in old) r.name r q)

-- a table without a name
pub rows_removed : (name : List ℕ) (old new : Extents) → IsTable old → IsTable new
    → new.now ≡ fin.remove old.now name → new.digests ≡ fin.remove old.digests name
    → rows_in new ≡ fin.remove (rows_in old) name
rows_removed name old new table table' now digests =
    fin.same_map nat_list_cmp_total names_differ (rows_in new) (fin.remove (rows_in old) name) each
  where
    by_tie : (q : List ℕ) (b : Bool) → eq_by_cmp name_cmp q name ≡ b
        → option_map (row_of new.digests q) (cond b None (fin.get old.now q))
        ≡ cond b None (option_map (row_of old.digests q) (fin.get old.now q))
    by_tie q true is = refl
    by_tie q false is =
        ap (λ o. option_map (λ (s : Spot). record (record_of (q, s)) { digest = digest_or_zeros o })
        (fin.get old.now q))
        (ap (λ m. fin.get m q) digests ∙ fin.get-remove nat_list_cmp_total old.digests name q
        ∙ ap (λ b. cond b None (fin.get old.digests q)) is)

    each : (q : List ℕ) → fin.get (rows_in new) q ≡ fin.get (fin.remove (rows_in old) name) q
    each q =
        get_rows new table' q
        ∙ ap (λ m. option_map (row_of new.digests q) (fin.get m q)) now
        ∙ ap (option_map (row_of new.digests q)) (fin.get-remove nat_list_cmp_total old.now name q)
        ∙ by_tie q (eq_by_cmp name_cmp q name) refl
        ∙ ap (cond (eq_by_cmp name_cmp q name) None) (sym (get_rows old table q))
        ∙ sym (fin.get-remove nat_list_cmp_total (rows_in old) name q)

-- the record of a rank is that of the entry, with its digest
pub row_nth : (e : Extents) → IsTable e → (n : ℕ) (entry : List ℕ × Spot)
    → slice_get (fin.entries e.now) n ≡ Some entry
    → slice_get (fin.values (rows_in e)) n ≡ Some (row_of e.digests entry.0 entry.1)
row_nth e table n entry is =
    ap (λ rs. slice_get rs n) (rows_values e table)
    ∙ slice_get-map (with_digest e.digests) (records_of e.now) n
    ∙ ap (option_map (with_digest e.digests)) (records_of-nth e.now table.now_named n entry is)

-- a table in which the object of a rank has another place
pub rows_moved : (rank place : ℕ) (entry : List ℕ × Spot) (old new : Extents) → IsTable old → IsTable new
    → slice_get (fin.entries old.now) rank ≡ Some entry
    → new ≡ record old { now = fin.insert old.now entry.0 (record entry.1 { place = place }) }
    → rows_in new ≡ moved_row (rows_in old) (rank, place)
rows_moved rank place entry old new table table' at is =
    let r : Record = record (row_of old.digests entry.0 entry.1) { place = place } in
    rows_set r old new table table' record {
      now = ap (λ (e : Extents). e.now) is;
      digest = ap (λ (e : Extents). digest_or_zeros (fin.get e.digests entry.0)) is;
      others = λ q other. ap (λ (e : Extents). fin.get e.digests q) is;
    }
    ∙ sym (ap (λ o. with_place (rows_in old) o place) (row_nth old table rank entry at))

-- a record is set with its digest of 32 bytes
pub rows_put : (r : Record) (old new : Extents) → IsTable old → IsTable new → length r.digest ≡ digest_len
    → new.now ≡ fin.insert old.now r.name (record { place = r.place; size = r.size })
    → new.digests ≡ fin.insert old.digests r.name r.digest
    → rows_in new ≡ with_row (rows_in old) r
rows_put r old new table table' long now digests =
    rows_set r old new table table' record {
      now = now;
      digest = ap (λ m. digest_or_zeros (fin.get m r.name)) digests
          ∙ ap digest_or_zeros (fin.get-insert nat_list_cmp_total old.digests r.name r.digest r.name
          ∙ ap (λ o. cond (is_eq o) (Some r.digest) (fin.get old.digests r.name))
          (tied_itself nat_list_cmp_total r.name))
          ∙ digest_stays r.digest long;
      others = λ q other. ap (λ m. fin.get m q) digests
          ∙ fin.get-insert nat_list_cmp_total old.digests r.name r.digest q
          ∙ ap (λ b. cond b (Some r.digest) (fin.get old.digests q)) other;
    }
