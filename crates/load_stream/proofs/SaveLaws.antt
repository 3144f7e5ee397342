-- What the save of a load leaves: the empty store, or the map that was loaded.
use Rattle.std.specs.Prelude.{◌≡◌, ◌⊎◌, ℕ, ◌+◌, ◌-◌, ◌<◌, List, length, None, Ok, refl}
use Rattle.std.proofs.Common.{◌∙◌, arith, ap, sym, inl, inr, subst}
use Rattle.std.specs.FinMap as fin
use Rattle.byte_ranges.specs.Ranges.{SameFrom}
use Rattle.disk_face.specs.States.{State}
use Rattle.disk_face.specs.Moments.{Leaves}
use Rattle.disk_face.proofs.MomentLaws.{Leaves-weaken}
use Rattle.size_class.specs.Classes.{IsRow, zero_grid}
use Rattle.size_class.specs.declared.TheConstants.{CLASSES, SIZE_MAX}
use Rattle.slot_codec.specs.Choice as choice
use Rattle.slot_codec.specs.Reading.{worn_from}
use Rattle.slot_codec.specs.Spelling.{head_len}
use Rattle.slot_codec.specs.declared.codec.Kind.TheVariants.{Settled}
use Rattle.slot_codec.specs.declared.codec.Header.{Header}
use Rattle.slot_pair.specs.Formats.{HasFirstTable, first_chosen, first_in_use, first_table}
use Rattle.slot_pair.specs.Saves.{HasOldOrNewTable, IsSaveDone, IsSaved, KeepsTable, LeavesEither, SaveLeaves, next_chosen}
use Rattle.logged_pair.proofs.PlainSlots.{table_kept}
use Rattle.map_model.specs.Weights.{Entry}
use Rattle.segment_layout.specs.Books.{Book, with_digests}
use Rattle.segment_layout.specs.Layouts.{caps_of}
use Rattle.segment_layout.specs.Shapes.{end_of}
use Rattle.table_rules.specs.Opening.{OpensBy, placed_table}
use Rattle.table_rules.specs.Rules.{IsValid}
use Rattle.table_rules.specs.Tables.{book_of}
use Rattle.extent_table.specs.Extents.{Extents, IsTable, rolled}
use Rattle.placement_model.specs.Laid.{settled_header, settled_table}
use Rattle.placement_model.specs.Reads.{read_at}
use Rattle.placement_model.proofs.LaidLaws.{valid_numbered}
use Rattle.flush_run.specs.Saves.{saved_table}
use Rattle.flush_run.proofs.RolledLaws.{rolled_table_is}
use Rattle.flush_run.proofs.SavedLaws.{new_image_opens, old_image_opens, valid_at}
use Rattle.dump_stream.specs.Loading.{filled_by}
use Rattle.dump_stream.specs.Placing.{IsPlacing}
use Rattle.load_stream.specs.Saved.{IsEmptyLike, IsEmptyOrLaid, IsLaidBeside, OpensEmpty, OpensLaid, empty_book, laid_with}
use Rattle.load_stream.specs.declared.plan.Plan.{Plan}
use Rattle.dump_stream.proofs.FirstLaws.{first_opens}
use Rattle.load_stream.proofs.ImageLaws.{first_sequence, first_settled}
use Rattle.load_stream.proofs.LaidLaws.{laid_book_is, laid_valid}

module _ (k names : ℕ) (caps : List ℕ) (e : Extents) (table : IsTable e) (file : List ℕ)
    (long : head_len names + end_of k caps ≡ length file) (es : List Entry)
    (placing : IsPlacing SIZE_MAX k caps es e.now) (row : IsRow CLASSES caps) (filled : filled_by es ≡ caps)
    (first : HasFirstTable k names file) where
  abbrev u : choice.InUse
  u = first_in_use k names

  abbrev h : Header
  h = settled_header caps zero_grid

  abbrev count : ℕ
  count = length (rolled e.now e.digests)

  abbrev at : choice.SlotTable
  at = saved_table u h e

  valid : IsValid (placed_table CLASSES SIZE_MAX file at)
  valid = valid_at (placed_table CLASSES SIZE_MAX file at) (end_of k caps) (length file - head_len names)
      (omega (arith, long)) (valid_numbered 2 count (settled_table CLASSES SIZE_MAX k caps zero_grid e.now)
      (laid_valid CLASSES SIZE_MAX k caps es e.now placing (omega arith) (omega arith) row filled))

  book : with_digests None (book_of (settled_table CLASSES SIZE_MAX k caps zero_grid e.now)) ≡ laid_with caps
  book = ap (λ (b : Book). with_digests None b)
      (laid_book_is CLASSES SIZE_MAX k caps es e.now placing (omega arith) (omega arith) row filled)

  -- the new table beside the data part
  pub saved_opens : (image : List ℕ) → IsSaved (next_chosen u h count) (rolled e.now e.digests) image
      → SameFrom (head_len names) file image → OpensLaid k names caps e file image
  saved_opens image saved same = record {
    opens = record {
      table = at;
      made_for = refl;
      settled = refl;
      low = omega arith;
      opens = subst (λ (b : Book). OpensBy CLASSES SIZE_MAX at image (read_at (head_len names) file e.now) b)
          book
          (new_image_opens CLASSES SIZE_MAX at file image valid
          (saved.table ∙ ap (λ t. Ok t) (rolled_table_is u h e table)) same);
    };
    same_records = refl;
    same_length = sym same.same_length;
  }

  -- the old table beside the data part of a file that had it
  pub kept_opens : (before image : List ℕ) → HasFirstTable k names before
      → KeepsTable (first_chosen k names) file image → SameFrom (head_len names) before image
      → OpensEmpty k names image
  kept_opens before image had keeps same = record {
    table = first_table k names;
    made_for = refl;
    settled = first_settled k names;
    low = omega (arith, first_sequence k names);
    opens = old_image_opens CLASSES SIZE_MAX (first_table k names) before image fin.empty empty_book
        (table_kept (first_table k names) file image first.table keeps) (first_opens k names before had) same;
  }

  -- what the content has, also where the save failed
  pub content_either : (after : List ℕ) → SameFrom (head_len names) file after
      → HasOldOrNewTable u (first_chosen k names) h (rolled e.now e.digests) file after
      → OpensEmpty k names after ⊎ OpensLaid k names caps e file after
  content_either after same (inl keeps) = inl (kept_opens file after first keeps same)
  content_either after same (inr saved) = inr (saved_opens after saved same)

  -- and each image that was left meanwhile
  pub image_either : (may_leave : List ℕ → Type 0) →
      ((image : List ℕ) → may_leave image → HasFirstTable k names image)
      → (image : List ℕ)
      → LeavesEither u (first_chosen k names) h (rolled e.now e.digests) may_leave file image
      → OpensEmpty k names image ⊎ OpensLaid k names caps e file image
  image_either may_leave had image (inr new) = inr (saved_opens image new.table new.data_part)
  image_either may_leave had image (inl old) = elim old.was
      as (λ _. OpensEmpty k names image ⊎ OpensLaid k names caps e file image) [
        | inl was ↦ inl (kept_opens old.before image (had old.before was) old.table old.data_part)
        | inr same ↦ inl (kept_opens old.before image
            (subst (HasFirstTable k names) (sym same) first) old.table
            old.data_part)
      ]

-- The same of a save, whose slot and header these are.
module _ (k names : ℕ) (p : Plan) (row : IsRow CLASSES (caps_of p.layout)) (e : Extents)
    (table : IsTable e) (a b : State) (l : IsLaidBeside k names p e a.file) (v : choice.InUse) (g : Header)
    (is_u : v ≡ first_in_use k names) (is_h : g ≡ settled_header (caps_of p.layout) zero_grid) where
  fresh : 2 < worn_from Settled
  fresh = omega arith

  module _ (left : SaveLeaves v g (rolled e.now e.digests) a b) where
    leaves : SaveLeaves (first_in_use k names) (settled_header (caps_of p.layout) zero_grid)
        (rolled e.now e.digests) a b
    leaves = subst (λ (x : choice.InUse × Header). SaveLeaves x.0 x.1 (rolled e.now e.digests) a b)
        (λ i. (is_u i, is_h i)) left

    pub save_stopped : IsEmptyOrLaid k names p e a.file b.file
    save_stopped = content_either k names (caps_of p.layout) e table a.file l.long l.objects l.placing
        row
        l.filled l.first b.file leaves.data_part
        (leaves.old_or_new (first_chosen k names) l.first.chosen fresh)

    pub save_images : ((image : List ℕ) → a.may_leave image → IsEmptyLike k names a.file image)
        → Leaves a b (IsEmptyOrLaid k names p e a.file)
    save_images had = Leaves-weaken (IsEmptyOrLaid k names p e a.file)
        (image_either k names (caps_of p.layout) e table a.file l.long l.objects l.placing row l.filled
        l.first a.may_leave (λ image may. (had image may).first))
        (leaves.images (first_chosen k names) l.first.chosen fresh (λ image may. (had image may).alike))

    pub save_opens : IsSaveDone v g (rolled e.now e.digests) b
        → OpensLaid k names (caps_of p.layout) e a.file b.file
    save_opens done = saved_opens k names (caps_of p.layout) e table a.file l.long l.objects l.placing
        row
        l.filled l.first b.file
        ((subst (λ (x : choice.InUse × Header). IsSaveDone x.0 x.1 (rolled e.now e.digests) b)
        (λ i. (is_u i, is_h i)) done).saved fresh) leaves.data_part
