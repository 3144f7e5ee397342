-- The objects from which a flush may begin, or go on, stand on the shelf of their table.
use Rattle.std.specs.Prelude.{ℕ, List}
use Rattle.std.proofs.Common.{arith}
use Rattle.slot_codec.specs.Choice as choice
use Rattle.span_math.specs.declared.span.Span.{Span}
use Rattle.segment_layout.specs.Shapes.{end_of, start_of}
use Rattle.table_rules.specs.Rules.{KeepsPlaces}
use Rattle.table_rules.specs.Tables.{HasFullRows}
use Rattle.table_rules.proofs.SuffixLaws.{valid_for_suffix}
use Rattle.extent_table.specs.Extents.{Extents}
use Rattle.placement_model.specs.Laid.{laid, moving_header}
use Rattle.placement_model.proofs.QuietLaws.{IsGrid-wider}
use Rattle.placement_model.proofs.EnterLaws.{apart_by_name}
use Rattle.flush_model.proofs.NumbersLaws.{item_begins}
use Rattle.flush_run.specs.Hands.{spot_item, suffix_items}
use Rattle.flush_run.specs.Shelved.{shelf_of}
use Rattle.flush_run.proofs.FreeLaws.{suffix_item}
use Rattle.flush_run.proofs.OverLaws.{lower_before}
use Rattle.flush_run.proofs.ShelfLaws.{on_shelf}
use Rattle.store_model.specs.Starts.{CanStart, flush_start}
use Rattle.store_model.proofs.CanFlushLaws.{can_flush}
use Rattle.store_model.proofs.HandsLaws.{begun_header, below_begun}
use Rattle.flush_plan.specs.Shelves.{IsOnShelf}

-- where a flush may begin
module _ (classes size_max : ℕ) (caps : List ℕ) (grid kept_grid : List (List ℕ)) (b : ℕ) (u : choice.InUse)
    (e : Extents) (spans : List Span)
    (h : CanStart classes size_max (flush_start caps grid kept_grid b u e spans)) where
  abbrev k : ℕ
  k = u.block.k

  rows : HasFullRows (laid classes size_max k 0 (begun_header b 0 0 caps grid) e.now)
  rows = record {
    caps_full = h.below.caps_full.full;
    grid_full = IsGrid-wider classes grid h.below.few h.below.grid_full;
    classes = h.below.few;
  }

  rules : KeepsPlaces (laid classes size_max k 0 (moving_header b 0 0 caps grid) e.now)
  rules = valid_for_suffix b (laid classes size_max k 0 (begun_header b 0 0 caps grid) e.now) rows
      (omega (arith, h.low, h.below.few)) h.boundary
      (below_begun classes size_max k (end_of k caps) 0 b 0 0 caps grid e.now h.below.below)

  pub start_shelf : IsOnShelf (start_of k caps b) (suffix_items b e) (shelf_of e)
  start_shelf =
      on_shelf e h.table.keys b (start_of k caps b)
      (lower_before classes size_max k 0 b 0 0 caps grid e h.below.named
      (omega (arith, h.low, h.below.few)) h.below.caps_full.full rules)
      (λ name s is some high. item_begins k caps b (suffix_items b e)
      (can_flush classes size_max caps grid kept_grid b u e spans h) 0 (spot_item e.keys (name, s))
      (suffix_item b e name s is some high))
      (apart_by_name e.now h.below.named h.below.below.apart)
