-- What stands now as the checkpoint: the store that has it, and the files that open to it.
use Rattle.std.specs.Prelude.{◌≡◌, ℕ, ◌+◌, ◌-◌, ◌<◌, ◌^◌, List, length, Ok, None, refl}
use Rattle.std.proofs.Common.{arith, ap, sym, ◌∙◌, subst}
use Rattle.std.proofs.lemmas.Bool.{lt-leb}
use Rattle.std.proofs.lemmas.List.{length-map}
use Rattle.std.specs.FinMap as fin
use Rattle.byte_ranges.specs.Ranges.{SameFrom}
use Rattle.size_class.specs.declared.TheConstants.{SIZE_MAX}
use Rattle.slot_codec.specs.Choice as choice
use Rattle.slot_codec.specs.declared.codec.Header.{Header}
use Rattle.slot_codec.specs.declared.codec.Record.{Record}
use Rattle.slot_pair.specs.Saves.{IsSaved, next_chosen, next_in_use}
use Rattle.map_model.specs.Requests as ask
use Rattle.segment_layout.specs.Books.{Book, version_of, with_digests}
use Rattle.segment_layout.specs.Shapes.{end_of}
use Rattle.table_rules.specs.Opening.{OpensBy, placed_table}
use Rattle.table_rules.specs.Rules.{IsValid}
use Rattle.table_rules.specs.Tables.{book_of}
use Rattle.extent_table.specs.Extents.{Spots, record_of, records_of}
use Rattle.extent_table.proofs.ExtentLaws.{records_of-all}
use Rattle.placement_model.specs.Laid.{in_version, settled_header, settled_table}
use Rattle.placement_model.specs.Reads.{AreNamed}
use Rattle.placement_model.proofs.RiseLaws.{CellsRise-itself}
use Rattle.placement_model.proofs.ShownLaws.{book_shown}
use Rattle.flush_run.proofs.SavedLaws.{map_from, new_image_opens, old_image_opens, valid_at}
use Rattle.store_model.specs.Connection.{IsOver, StoreValue, SameOnTable, base_of, kept_map, limits_of, state_of}
use Rattle.store_model.specs.Keeps.{kept_now, now_map}
use Rattle.store_model.specs.States.{Limits, State, Step, facts_of, refusal}
use Rattle.store_model.specs.Stores.{IsStore}
use Rattle.store_model.proofs.OverLaws.{head_is, opens_again}
use Rattle.store_model.proofs.VersionLaws.{valid_as}
use Rattle.store_model.proofs.RequestLaws.{served_by, step_to}

-- there are as many records as names
pub length-records_of : (spots : Spots) → AreNamed spots → length (records_of spots) ≡ fin.len spots
length-records_of spots named = ap length (records_of-all spots named)
    ∙ length-map (fin.entries spots) record_of ∙ sym (fin.len-entries spots)

-- the header and the table of what stands now
abbrev pub header_now : StoreValue → Header
header_now s = in_version (version_of s.book) (settled_header s.book.caps s.book.grid)

abbrev pub table_now : StoreValue → choice.SlotTable
table_now s = record {
  chosen = next_chosen s.in_use (header_now s) (length (records_of s.now));
  records = records_of s.now;
  digests = s.book.digests;
}

-- a keep is a step
keep_step : (limits : Limits) (s after : State) → s.sequence < 2 ^ 61 → after.map ≡ s.map → after.kept ≡ s.map
    → after.book ≡ s.book → after.kept_book ≡ s.book → after.sequence ≡ s.sequence + 1
    → Step limits s ask.keep ask.kept after
keep_step limits s after fresh map kept book kept_book sequence =
    let calm : refusal limits (facts_of s ask.keep) ask.keep ≡ None =
    rw (lt-leb (2 ^ 61) s.sequence fresh) refl in
    let is = served_by limits s ask.keep None calm in
    step_to limits s after ask.keep _ is map kept book kept_book (omega (arith, sequence))
    (omega (arith, sequence))

module _ {classes : ℕ} (s : StoreValue) (h : IsStore classes s) where
  abbrev k : ℕ
  k = s.in_use.block.k

  abbrev base : ℕ
  base = base_of s

  pub store_kept : IsStore classes (kept_now s)
  store_kept = record {
    block = h.block;
    now = h.now;
    now_book = h.now_book;
    now_few = h.now_few;
    now_in_range = h.now_in_range;
    kept = h.now;
    kept_book = h.now_book;
    kept_few = h.now_few;
    kept_in_range = h.now_in_range;
    fuller = CellsRise-itself s.book.grid;
  }

  module _ (file : List ℕ) (over : IsOver classes s file) where
    valid_now : IsValid (placed_table classes SIZE_MAX file (table_now s))
    valid_now =
        let t = settled_table classes SIZE_MAX k s.book.caps s.book.grid s.now in
        let n = length (records_of s.now) in
        let len : end_of k s.book.caps ≡ length file - base = omega (arith, over.same_length) in
        valid_at (placed_table classes SIZE_MAX file (table_now s)) (end_of k s.book.caps)
        (length file - base) len
        (valid_as (version_of s.book) (s.in_use.sequence + 1) n t h.now.valid)

    book_is : s.book
        ≡ with_digests s.book.digests (book_of (placed_table classes SIZE_MAX file (table_now s)))
    book_is = h.now_book ∙ ap (λ (b : Book). with_digests s.book.digests b)
        (sym (book_shown classes SIZE_MAX k s.book.caps s.book.grid s.now h.now))

    -- the last checkpoint beside the data part of an image that opens to it
    pub kept_opens : (before image : List ℕ) → SameOnTable base s.kept file before
        → choice.table_of image ≡ Ok over.table → SameFrom base before image
        → OpensBy classes SIZE_MAX over.table image (kept_map s file) s.kept_book
    kept_opens before image alike read same = old_image_opens classes SIZE_MAX over.table before image
        (kept_map s file) s.kept_book read (opens_again s h file over before alike)
        (subst (λ (p : ℕ). SameFrom p before image) (sym (head_is s h file over)) same)

    -- the table of now beside the content's data part
    module _ (records : List Record)
        (same_table : choice.table_with (table_now s).chosen records ≡ table_now s) (image : List ℕ)
        (saved : IsSaved (table_now s).chosen records image) (same : SameFrom base file image) where
      pub now_opens : OpensBy classes SIZE_MAX (table_now s) image (now_map s file) s.book
      now_opens = subst (λ (b : Book). OpensBy classes SIZE_MAX (table_now s) image (now_map s file) b)
          (sym book_is) (new_image_opens classes SIZE_MAX (table_now s) file image valid_now
          (saved.table ∙ ap (λ t. Ok t) same_table) same)

      map_kept : now_map s image ≡ now_map s file
      map_kept = map_from base (records_of s.now) file image same

      pub over_kept : choice.slot_in_use image ≡ Ok (next_in_use s.in_use) → IsOver classes (kept_now s) image
      over_kept slot = record {
        table = table_now s;
        checkpoint = record {
          slot = slot;
          records = refl;
          opens = subst (λ m. OpensBy classes SIZE_MAX (table_now s) image m s.book) (sym map_kept) now_opens;
        };
        same_length = sym same.same_length ∙ over.same_length;
      }

      pub step_kept : s.in_use.sequence < 2 ^ 61
          → Step (limits_of s) (state_of s file) ask.keep ask.kept (state_of (kept_now s) image)
      step_kept fresh = keep_step (limits_of s) (state_of s file) (state_of (kept_now s) image) fresh map_kept
          map_kept refl refl refl
