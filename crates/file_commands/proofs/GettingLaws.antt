-- What a file that was read gives to a name.
use Rattle.std.specs.Prelude.{◌≡◌, Err, ℕ, ◌+◌, ◌≤◌, List, length, Option, None, Some, option_map, refl}
use Rattle.std.proofs.Common.{arith, ap, sym, ◌∙◌, subst}
use Rattle.std.specs.FinMap as fin
use Rattle.size_class.specs.declared.TheConstants.{CLASSES, SIZE_MAX}
use Rattle.byte_ranges.specs.Ranges.{bytes_at}
use Rattle.command_face.specs.declared.stop.StopReason.TheVariants as stop
use Rattle.slot_codec.specs.Spelling.{head_len}
use Rattle.slot_codec.specs.declared.codec.Record.{Record}
use Rattle.map_model.specs.Maps.{Map}
use Rattle.segment_layout.specs.Books.{Book, with_digests}
use Rattle.table_rules.specs.Opening.{placed_table}
use Rattle.table_rules.specs.Tables.{book_of, end_of_record}
use Rattle.extent_table.specs.declared.spot.Spot.{Spot}
use Rattle.placement_model.specs.Reads.{object_at, read_at}
use Rattle.placement_model.proofs.ReadLaws.{get-read_at}
use Rattle.placement_model.proofs.EnterLaws.{by_name}
use Rattle.placement_model.proofs.OpenedLaws.{record_within}
use Rattle.reopen.specs.Loads.{IsReadAs, KeepsRead, digests_loaded, table_seen}
use Rattle.reopen.specs.declared.state.Loaded.{Loaded}
use Rattle.file_commands.specs.Getting.{IsGiven, checked, digest_of, given}

-- what a map gives to a name, by digests of the book
given_checked : (digests : Option Map) (b : Book) (m : Map) (name : List ℕ)
    → given (with_digests digests b) m name ≡ checked (digest_of digests name) (fin.get m name)
given_checked None b m name = refl
given_checked (Some digests) b m name = refl

-- what the map of a file that was read gives to a name
pub given_at : (name file : List ℕ) (x : Loaded CLASSES) (found : Option Spot) → KeepsRead x
    → IsReadAs file x → fin.get x.table.now name ≡ found
    → IsGiven name file (checked (digest_of (digests_loaded x) name)
    (option_map (object_at (head_len x.block.names) file) found))
given_at name file x found keeps from is = record {
  map = read_at (head_len x.block.names) file x.table.now;
  book = with_digests (digests_loaded x)
      (book_of (placed_table CLASSES SIZE_MAX file (table_seen x (digests_loaded x))));
  reads = record { table = table_seen x (digests_loaded x); opens = from };
  same = ap (checked (digest_of (digests_loaded x) name)) (sym (
      get-read_at (head_len x.block.names) file x.table.now keeps.is_table.now_named name
      ∙ ap (option_map (object_at (head_len x.block.names) file)) is))
      ∙ sym (given_checked (digests_loaded x)
      (book_of (placed_table CLASSES SIZE_MAX file (table_seen x (digests_loaded x))))
      (read_at (head_len x.block.names) file x.table.now) name);
}

-- the object of a name that stands somewhere, with the digest that the table has for it
pub given_here : (name file : List ℕ) (x : Loaded CLASSES) (s : Spot) (base : ℕ) (digest : Option (List ℕ))
    → KeepsRead x → IsReadAs file x → fin.get x.table.now name ≡ Some s
    → base ≡ head_len x.block.names → digest ≡ digest_of (digests_loaded x) name
    → IsGiven name file (checked digest (Some (bytes_at file (base + s.place) s.size)))
given_here name file x s base digest keeps from is head same =
    subst (λ d. IsGiven name file (checked d (Some (bytes_at file (base + s.place) s.size)))) (sym same)
    (subst
    (λ b. IsGiven name file
    (checked (digest_of (digests_loaded x) name) (Some (bytes_at file (b + s.place) s.size))))
    (sym head) (given_at name file x (Some s) keeps from is))

-- a name that isn't there, whatever digest it has
none_checked : (digest : Option (List ℕ)) → checked digest None ≡ Err stop.Missing
none_checked None = refl
none_checked (Some d) = refl

pub given_none : (name file : List ℕ) (x : Loaded CLASSES) → KeepsRead x → IsReadAs file x
    → fin.get x.table.now name ≡ None → IsGiven name file (Err stop.Missing)
given_none name file x keeps from is = subst (IsGiven name file)
    (none_checked (digest_of (digests_loaded x) name)) (given_at name file x None keeps from is)

-- and where the object is, within the file
pub lies_in_file : (name file : List ℕ) (x : Loaded CLASSES) (s : Spot) → KeepsRead x
    → IsReadAs file x → fin.get x.table.now name ≡ Some s
    → head_len x.block.names + s.place + s.size ≤ length file
lies_in_file name file x s keeps from is =
    let base = head_len x.block.names in
    let within = by_name (λ (r : Record). base + end_of_record r ≤ length file) x.table.now
    keeps.is_table.now_named
    (record_within CLASSES SIZE_MAX (table_seen x (digests_loaded x)) file (read_at base file x.table.now)
    (with_digests (digests_loaded x)
    (book_of (placed_table CLASSES SIZE_MAX file (table_seen x (digests_loaded x)))))
    from) name s is in
    omega (arith, within)
