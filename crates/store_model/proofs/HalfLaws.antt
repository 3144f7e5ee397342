-- What follows of half agreement: the objects lie within the file, what is left is of the flush, and reads
-- keep it.
use Rattle.std.specs.Prelude.{◌≡◌, ◌⊎◌, ℕ, ◌+◌, ◌-◌, ◌*◌, ◌≤◌, false, List, length, slice_index_or, None, IsTrue, refl}
use Rattle.std.proofs.Common.{arith, sym, ◌∙◌, ap, subst, inl, inr}
use Rattle.std.proofs.Math.Nat.{mul-le-mul_left}
use Rattle.std.specs.FinMap as fin
use Rattle.disk_face.specs.Frames.{Unchanged}
use Rattle.disk_face.specs.Moments.{Leaves}
use Rattle.disk_face.proofs.MomentLaws.{Leaves-weaken}
use Rattle.disk_face.specs.States as disk
use Rattle.size_class.specs.declared.TheConstants.{SIZE_MAX}
use Rattle.slot_codec.specs.Choice as choice
use Rattle.slot_codec.specs.declared.codec.Record.{Record}
use Rattle.map_model.specs.Maps.{Map}
use Rattle.segment_layout.specs.Books.{Book}
use Rattle.segment_layout.specs.Bounds.{Loose}
use Rattle.table_rules.specs.Opening.{Opens}
use Rattle.table_rules.specs.Tables.{end_of_record, no_record}
use Rattle.table_rules.proofs.SequenceLaws.{sequence_wider}
use Rattle.extent_table.specs.declared.spot.Spot.{Spot}
use Rattle.extent_table.specs.Extents.{Spots, record_of, records_of}
use Rattle.placement_model.specs.Reads.{AreNamed, EndWithin}
use Rattle.placement_model.proofs.EnterLaws.{by_name}
use Rattle.placement_model.proofs.OpenedLaws.{record_within}
use Rattle.flush_run.specs.FlushFrames.{IsOldOrNew, LeavesOldOrNew, MidFlush, OpensEither}
use Rattle.store_model.specs.Connection.{FlushInHand, IsConnected, StoreValue, base_of}
use Rattle.store_model.specs.Halves.{HalfAgrees, IsHalfImage, IsHalfway, IsReadable, Origin, frame_at}
use Rattle.store_model.specs.Stores.{IsStanding, IsStore}
use Rattle.store_model.proofs.StoreLaws.{kept_lies, now_lies}

-- a store stands
pub standing_of : {classes : ℕ} (s : StoreValue) → IsStore classes s → IsStanding s
standing_of s h = record {
  block = h.block;
  now_named = h.now.named;
  kept_named = h.kept.named;
  now_in_range = h.now_in_range;
  kept_in_range = h.kept_in_range;
}

-- ---- where the objects lie

module _ {classes : ℕ} {s : StoreValue} {h : FlushInHand} {o : Origin} {d : disk.State}
    (half : HalfAgrees classes s h o d) where
  pub half_now_lies : EndWithin (base_of s) d.file s.now
  half_now_lies name x there = omega (
    arith,
    half.flies.content.same_length,
    half.flies.content.within name x there,
  )

  pub half_kept_lies : AreNamed s.kept → EndWithin (base_of s) d.file s.kept
  half_kept_lies named name x there =
      let e = half.flies.opens refl in
      let at = by_name (λ (r : Record). base_of s + end_of_record r ≤ length d.file) s.kept named
      (λ i low. subst (λ rs. base_of s + end_of_record (slice_index_or rs i no_record) ≤ length d.file)
      e.checkpoint.records (omega (
        arith,
        e.checkpoint.base,
        record_within classes SIZE_MAX e.t d.file e.m e.b e.opens i
            (omega (arith, low, ap length e.checkpoint.records)),
      ))) name x there in
      omega (arith, at)

-- a store that may be read has its objects within the file
pub readable_now : {classes : ℕ} (s : StoreValue) (d : disk.State) → IsReadable classes s d
    → s.is_broken ≡ false → (s.in_hand ≡ None → IsStore classes s) → IsTrue d.tells
    → EndWithin (base_of s) d.file s.now
readable_now s d (inl over) whole sound told =
    now_lies s d.file (sound over.idle) (over.over whole told)
readable_now s d (inr half) whole sound told = half_now_lies (half.half told).1

pub readable_kept : {classes : ℕ} (s : StoreValue) (d : disk.State) → IsReadable classes s d
    → s.is_broken ≡ false → (s.in_hand ≡ None → IsStore classes s) → AreNamed s.kept → IsTrue d.tells
    → EndWithin (base_of s) d.file s.kept
readable_kept s d (inl over) whole sound named told =
    kept_lies s d.file (sound over.idle) (over.over whole told)
readable_kept s d (inr half) whole sound named told = half_kept_lies (half.half told).1 named

-- ---- what is left

module _ {classes : ℕ} (s : StoreValue) (h : FlushInHand) (o : Origin)
    (loose : Loose s.in_use.block.k h.reach o.before o.after) (most : ℕ)
    (few : most ≤ h.began + 2 * s.in_use.block.k + 1) where
  pub half_image : (image : List ℕ) → IsOldOrNew (frame_at classes s h o) most image
      → IsHalfImage classes s h o image
  half_image image i = record {
    opens = elim i.either as (λ _. Opens classes SIZE_MAX image o.kept_map o.kept_book
        ⊎ Opens classes SIZE_MAX image o.after h.book_after) [
          | inl old ↦ inl (subst (λ (m : Map). Opens classes SIZE_MAX image m o.kept_book) old.0
              (subst (λ (b : Book). Opens classes SIZE_MAX image i.m b) old.1 i.opens))
          | inr new ↦ inr (subst (λ (m : Map). Opens classes SIZE_MAX image m h.book_after) new.0
              (subst (λ (b : Book). Opens classes SIZE_MAX image i.m b) new.1 i.opens))
        ];
    sequence = sequence_wider most (h.began + 2 * s.in_use.block.k + 1) image few i.sequence;
    loose = omega (
      arith,
      mul-le-mul_left (s.in_use.block.k - 1) (lower image i),
      loose,
    );
  }
    where
      lower : (image : List ℕ) → IsOldOrNew (frame_at classes s h o) most image
          → length image - base_of s ≤ h.reach
      lower image i = omega (arith, i.longest)

  pub half_left : {a d : disk.State} → LeavesOldOrNew (frame_at classes s h o) most a d
      → (IsTrue o.is_at_rest → Leaves a d (IsHalfImage classes s h o)) × IsHalfImage classes s h o d.file
  half_left {a} {d} left = (
    λ rests. Leaves-weaken (IsHalfImage classes s h o) half_image ((left refl).0 rests),
    half_image d.file (left refl).1,
  )

-- ---- reads between two steps

pub half_read : {classes : ℕ} {s : StoreValue} {h : FlushInHand} {o : Origin} {a d : disk.State}
    → Unchanged a d → IsTrue a.tells → HalfAgrees classes s h o a → HalfAgrees classes s h o d
half_read {classes} {s} {h} {o} {a} {d} same told half =
    let file = same.same_file told in
    record {
      flies = subst (λ (x : List ℕ). MidFlush (frame_at classes s h o) s.in_use s.now s.kept x d.may_leave)
          (sym file) (record {
            content = half.flies.content;
            opens = λ fresh. let e = half.flies.opens fresh in record {
              t = e.t;
              m = e.m;
              b = e.b;
              checkpoint = e.checkpoint;
              opens = e.opens;
              images = λ rest image may. e.images rest image (same.images image may);
            };
          });
      loose = half.loose;
    }

pub halfway_read : {classes : ℕ} {s : StoreValue} {a d : disk.State} → Unchanged a d
    → IsHalfway classes s a → IsHalfway classes s d
halfway_read {a = a} same half = record {
  hand = half.hand;
  is = half.is;
  digests = half.digests;
  half = λ told.
      let was : IsTrue a.tells = sym same.stays.told ∙ told in
      let at = half.half was in (at.0, half_read same was at.1);
}
