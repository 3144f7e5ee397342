-- What lifting begins with.
use Rattle.std.specs.Prelude.{◌≡◌, ℕ, List}
use Rattle.slot_codec.specs.Choice as choice
use Rattle.span_math.specs.declared.span.Span.{Span}
use Rattle.segment_layout.specs.Books.{with_digests}
use Rattle.segment_layout.specs.Shapes.{end_of}
use Rattle.table_rules.specs.Tables.{book_of}
use Rattle.extent_table.specs.Extents.{Extents}
use Rattle.placement_model.specs.Laid.{laid}
use Rattle.flush_model.specs.Phases.{PlanState}
use Rattle.flush_run.specs.FlushFrames.{FlushFrame}
use Rattle.flush_run.specs.Hands.{AllEndBy, HandsMatchPlan}
use Rattle.flush_run.specs.Loops.{phase_header}

-- But for the disk: the parts belong together with the phase, what the checkpoint holds
-- ends where the layout does, and the table's book is that of after, but for its digests.
pub record BeginsLift (f : FlushFrame) (caps : List ℕ) (grid : List (List ℕ)) (u : choice.InUse) (e : Extents)
    (spans : List Span) (p : PlanState) : Type 0 where
  pub hands : HandsMatchPlan f u e caps grid spans p
  pub low : AllEndBy e.kept (end_of p.k p.caps)
  pub book : with_digests f.new_book.digests
      (book_of (laid f.classes f.size_max u.block.k f.reach (phase_header p caps grid) e.now)) ≡ f.new_book
