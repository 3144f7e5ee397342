-- A store over a file that was opened, and finished, where nothing is done after that: what is left is viewed
-- as the start.
use Rattle.std.specs.Prelude.{◌≡◌, ◌<◌, ℕ, List, Some, None}
use Rattle.std.proofs.Common.{arith, sym, ◌∙◌, subst, inr}
use Rattle.disk_face.specs.Counts.{last}
use Rattle.disk_face.specs.Frames.{Unchanged}
use Rattle.disk_face.specs.Moments.{LeftOnly}
use Rattle.disk_face.specs.States.{State}
use Rattle.disk_face.proofs.MomentLaws.{Leaves-weaken, LeftOnly-after}
use Rattle.size_class.specs.declared.TheConstants.{CLASSES, SIZE_MAX}
use Rattle.slot_codec.specs.Choice as choice
use Rattle.slot_codec.specs.declared.codec.SuperBlock.{SuperBlock}
use Rattle.map_model.specs.Maps.{Map}
use Rattle.segment_layout.specs.Books.{Book}
use Rattle.table_rules.specs.Opening.{Opens}
use Rattle.table_rules.proofs.SequenceLaws.{sequence_wider}
use Rattle.store_model.specs.Connection.{IsOver, SameOnTable, StoreValue, base_of, state_of}
use Rattle.store_model.specs.Opened.{LeavesRoom, RestsOnFound}
use Rattle.store_model.specs.States as store
use Rattle.store_model.proofs.OverLaws.{kept_image}
use Rattle.served_file.specs.Served.{IsNextStart, OpensTo, most_left}
use Rattle.served_file.proofs.OverLaws.{next_over}
use Rattle.batch_model.proofs.ViewLaws.{view_bare}
use Rattle.batch_command.proofs.StageLaws.{IsStaged, IsViewed, Stage}

module _ (t : choice.SlotTable) (old : State) (u : SuperBlock) (start : store.State) (y : State)
    (s : StoreValue) (stage : Stage t old u start y s) where
  abbrev now : store.State
  now = state_of s y.file

  pub kept_opens : (image : List ℕ) → Opens CLASSES SIZE_MAX image now.kept now.kept_book → OpensTo now image
  kept_opens image is = subst (λ (n : Map). Opens CLASSES SIZE_MAX image n s.book) stage.same_kept
      (subst (λ (k : Book). Opens CLASSES SIZE_MAX image now.kept k) stage.same_book is)

  -- what keeps the checkpoint is viewed as the start
  pub kept_viewed : (image : List ℕ) → Opens CLASSES SIZE_MAX image now.kept now.kept_book
      → IsViewed u start image
  kept_viewed image is = inr (record {
    view = now.map;
    viewed = stage.finished.0;
    opens = record {
      m = now.map;
      b = s.book;
      opens = kept_opens image is;
      viewed = view_bare now.map stage.free;
      goes_on = λ text there. absurd (let e : None ≡ Some text = sym stage.free ∙ there in cc);
    };
  })

  kept_staged : RestsOnFound t old → (image : List ℕ) → y.may_leave image → IsStaged t u start image
  kept_staged rests image may =
      let kept = kept_image s stage.sound y.file stage.over image (stage.rests rests image may) in (
        kept_viewed image kept.opens,
        sequence_wider s.in_use.sequence (most_left u.k t) image stage.low kept.sequence,
      )

  module _ (z : State) (same : Unchanged y z) where
    file_same : z.file ≡ y.file
    file_same = same.same_file stage.told

    pub same_staged : LeavesRoom t → RestsOnFound t old → z.turn < last
        → LeftOnly z old.turn (IsStaged t u start)
    same_staged room rests below = LeftOnly-after old.turn (IsStaged t u start) stage.later
        (λ image since. (
          stage.left room rests (omega (arith, same.same_turn, below)) image since,
          stage.numbered room rests (omega (arith, same.same_turn, below)) image since,
        ))
        (Leaves-weaken (IsStaged t u start) (kept_staged rests) same.since)

    pub same_viewed : IsViewed u start z.file
    same_viewed = subst (IsViewed u start) (sym file_same) (kept_viewed y.file (record {
      table = stage.over.table;
      opens = stage.over.checkpoint.opens;
    }))

module _ (t : choice.SlotTable) (old : State) (u : SuperBlock) (start : store.State)
    (block : u ≡ t.chosen.block) (y : State) (s : StoreValue) (stage : Stage t old u start y s) (z : State)
    (same : Unchanged y z) where
  -- the next call may begin at what stands
  pub same_next : IsNextStart t (state_of s y.file) (state_of s y.file).sequence old z
  same_next =
      let file : z.file ≡ y.file = same.same_file stage.told in
      subst (λ (f : List ℕ). IsNextStart t (state_of s f) s.in_use.sequence old z) file
      (next_over t s old z s.in_use.sequence stage.sound
      (subst (IsOver CLASSES s) (sym file) stage.over) (stage.block ∙ block) (omega arith)
      (λ rests image may. subst (λ (f : List ℕ). SameOnTable (base_of s) s.kept f image) (sym file)
      (stage.rests rests image (same.images image may))))
