-- What was charged of a change that isn't quiet, and the old object of its name.
use Rattle.std.specs.Prelude.{◌≡◌, All, ℕ, ◌<◌, ◌≤◌, Bool, false, ◌&&◌, is_some, List, length, Option, Some, None, IfSome, refl}
use Rattle.std.proofs.Common.{arith, sym, ◌∙◌, ap, subst}
use Rattle.std.specs.FinMap as fin
use Rattle.size_class.specs.declared.TheConstants.{SIZE_MAX}
use Rattle.slot_codec.specs.declared.codec.Record.{Record}
use Rattle.span_math.specs.declared.span.Span.{Span}
use Rattle.span_math.specs.Spans.{IsApart}
use Rattle.segment_layout.specs.Books.{is_quiet, trigger}
use Rattle.segment_layout.specs.Shapes.{boundary_of}
use Rattle.extent_table.specs.declared.spot.Spot.{Spot}
use Rattle.extent_table.specs.Extents.{Extents}
use Rattle.placement_model.proofs.EnterLaws.{by_name}
use Rattle.placement_model.proofs.LaidOutLaws.{laid_below}
use Rattle.placement_model.proofs.FreedLaws.{span_apart, span_room}
use Rattle.held_guard.specs.Freed.{Freed}
use Rattle.flush_model.specs.Phases.{PlanState}
use Rattle.flush_run.specs.Parts.{HandsValue}
use Rattle.placement_model.specs.Tried.{between, charged_by}
use Rattle.store_model.specs.Charging.{PlacesNew}
use Rattle.store_model.specs.Starts.{CanStart, IsLoud, flush_start}
use Rattle.store_model.proofs.StartLaws.{outcome_loud}
use Rattle.store_model.specs.Flushing.{CanStartAt, NeedsFlushAt, IsStarted, MayBegin}
use Rattle.store_model.specs.Quiet.{CanFree}

-- what was charged on the layout of some parts
pub record ChargesTo (x : HandsValue) (o : Option Spot) (size k : ℕ) (caps : List ℕ) (after : List (List ℕ))
    (gone : Bool) (place : Option ℕ) (class b : ℕ) : Type 0 where
  pub grid : after ≡ (charged_by x.divisor x.caps x.grid o size).grid
  pub place_is : PlacesNew x.divisor x.caps (between x.divisor x.caps x.grid o) size after place
  pub quiet : is_quiet (charged_by x.divisor x.caps x.grid o size) ≡ (gone && is_some place)
  pub class_is : class ≡ trigger (charged_by x.divisor x.caps x.grid o size)
  pub divisor : k ≡ x.divisor
  pub caps_are : caps ≡ x.caps
  pub boundary : b ≡ boundary_of after class

-- a flush begins at a layout with the same numbers
pub can_start_at : {classes b k : ℕ} {caps caps2 : List ℕ} {grid : List (List ℕ)} {e : Extents}
    (kept_grid : List (List ℕ)) (x : HandsValue) (spans : List Span)
    → CanStart classes SIZE_MAX (flush_start caps grid kept_grid b x.in_use e spans)
    → k ≡ x.in_use.block.k → caps2 ≡ caps
    → CanStartAt classes b k caps2 grid e
can_start_at {classes} {b} {k} {caps} {caps2} {grid} {e} kept_grid x spans start divisor same = record {
  kept_grid = kept_grid;
  u = x.in_use;
  spans = spans;
  start = subst (λ (y : List ℕ). CanStart classes SIZE_MAX (flush_start y grid kept_grid b x.in_use e spans))
      (sym same) start;
  divisor = divisor;
}

pub started_at : {b k k2 : ℕ} {caps caps2 : List ℕ} {e : Extents} {p : PlanState} → k2 ≡ k
    → caps2 ≡ caps → IsStarted b k2 caps2 e p → IsStarted b k caps e p
started_at {b} {k} {k2} {caps} {caps2} {e} {p} ks cs st =
    subst (λ (y : List ℕ). IsStarted b k y e p) cs
    (subst (λ (y : ℕ). IsStarted b y caps2 e p) ks st)

module _ {classes : ℕ} {kept_grid : List (List ℕ)} {x0 : HandsValue} (may : MayBegin classes kept_grid x0)
    (name : List ℕ) where
  abbrev k : ℕ
  k = x0.in_use.block.k

  abbrev old : Option Spot
  old = fin.get x0.table.now name

  -- ---- the old object

  small_by : (o : Option Spot) → ((s : Spot) → o ≡ Some s → s.size ≤ SIZE_MAX)
      → IfSome o (λ s. s.size ≤ SIZE_MAX)
  small_by None h = tt
  small_by (Some s) h = h s refl

  pub old_small : (o : Option Spot) → o ≡ old → IfSome o (λ s. s.size ≤ SIZE_MAX)
  old_small o is = small_by o (λ s there. by_name (λ (r : Record). r.size ≤ SIZE_MAX) x0.table.now
      may.before.both.now_laid.named (laid_below classes SIZE_MAX k x0.caps x0.grid x0.table.now
      may.before.both.now_laid).sizes name s (sym is ∙ there))

  pub old_can_free : (guard : Freed) → guard.spans ≡ x0.spans → guard.room ≡ x0.room → (s : Spot)
      → old ≡ Some s → fin.get x0.table.kept name ≡ Some s → CanFree guard s
  old_can_free guard spans room s stands held = record {
    fits = (let r = may.before.table.now_in_range name s stands in omega arith);
    room = subst (λ (xs : List Span). length xs < guard.room) (sym spans)
        (span_room x0.spans x0.table.now x0.table.kept may.before.both.freed name s stands held guard.room
        (omega (arith, may.before.table.kept_room, may.before.names, room, may.room)));
    apart = λ a is. subst (λ (xs : List Span). All (λ other. IsApart other a) xs) (sym spans)
        (span_apart x0.spans x0.table.now x0.table.kept may.before.both.freed name s stands held classes
        SIZE_MAX k x0.caps kept_grid may.before.both.kept_laid a is);
  }

  -- ---- the charges

  module _ (x : HandsValue) (divisor : x.divisor ≡ x0.divisor) (caps : x.caps ≡ x0.caps)
      (grid : x.grid ≡ x0.grid)
      (o : Option Spot) (o_is : o ≡ old) (size : ℕ) (k2 : ℕ) (caps2 : List ℕ) (after : List (List ℕ))
      (gone : Bool) (place : Option ℕ) (class b : ℕ)
      (ch : ChargesTo x o size k2 caps2 after gone place class b)
      (needs_flush : NeedsFlushAt x0 name size) where
    all_same : charged_by x.divisor x.caps x.grid o size ≡ charged_by k x0.caps x0.grid old size
    all_same = λ i. charged_by ((divisor ∙ may.divisor) i) (caps i) (grid i) (o_is i) size

    loud_here : is_quiet (charged_by k x0.caps x0.grid old size) ≡ false
    loud_here = subst (λ (d : ℕ). is_quiet (charged_by d x0.caps x0.grid old size)
        ≡ false) may.divisor needs_flush

    pub is_loud : IsLoud k x0.caps x0.grid old size after b
    is_loud = outcome_loud k x0.caps x0.grid after old size gone place class b
        (ch.grid ∙ ap (λ y. y.grid) all_same) (sym (ap (λ y. is_quiet y) all_same) ∙ ch.quiet)
        (sym ch.quiet ∙ ap (λ y. is_quiet y) all_same ∙ loud_here)
        (ch.class_is ∙ ap (λ y. trigger y) all_same) ch.boundary

    pub places_here : PlacesNew k x0.caps (between k x0.caps x0.grid old) size after place
    places_here = subst (λ (m : List (List ℕ)). PlacesNew k x0.caps m size after place)
        (λ i. between ((divisor ∙ may.divisor) i) (caps i) (grid i) (o_is i))
        (subst (λ (y : List ℕ). PlacesNew k y (between x.divisor x.caps x.grid o) size after place) caps
        (subst (λ (d : ℕ). PlacesNew d x.caps (between x.divisor x.caps x.grid o) size after place)
        (divisor ∙ may.divisor) ch.place_is))
