-- After the change a flush may begin: where the name is gone, and where its new object stands in a buffer.
use Rattle.std.specs.Prelude.{◌≡◌, ℕ, ◌+◌, ◌<◌, ◌≤◌, true, false, List, Option, Some, None, refl, ◌&&◌, is_some, Bool}
use Rattle.std.proofs.Common.{arith, sym, ◌∙◌, ap, subst, inl, inr}
use Rattle.std.proofs.lemmas.Bool.{cases_Bool, cases_lt}
use Rattle.std.specs.FinMap as fin
use Rattle.size_class.specs.Classes.{class_of}
use Rattle.slot_codec.specs.Choice as choice
use Rattle.slot_codec.specs.Names.{IsName}
use Rattle.slot_codec.specs.declared.codec.Record.{Record}
use Rattle.span_math.specs.declared.span.Span.{Span}
use Rattle.segment_layout.specs.Books.{charge_all, is_quiet, some_size, trigger}
use Rattle.segment_layout.specs.Shapes.{boundary_of, end_of, is_boundary}
use Rattle.segment_layout.proofs.ShapeLaws.{boundary_of-is, boundary_of-le}
use Rattle.extent_table.specs.declared.spot.Spot.{Spot}
use Rattle.extent_table.specs.Extents.{Extents, Spots}
use Rattle.placement_model.specs.Held.{FreesSpot, IsFreed}
use Rattle.placement_model.specs.LaidOut.{IsLaidOut}
use Rattle.placement_model.specs.Quiet.{PlacedTo, gone_items}
use Rattle.placement_model.specs.Reads.{AllLieApart}
use Rattle.placement_model.specs.Rises.{CellsRise}
use Rattle.placement_model.proofs.EnterLaws.{by_name}
use Rattle.map_model.proofs.MapLaws.{get-remove_here, insert-remove}
use Rattle.placement_model.proofs.FreedLaws.{freed_gone, freed_put, off_kept}
use Rattle.placement_model.proofs.LaidOutLaws.{laid_below}
use Rattle.placement_model.proofs.PlaceLaws.{place_apart, place_within}
use Rattle.placement_model.proofs.QuietLaws.{quiet_rises}
use Rattle.placement_model.proofs.RiseLaws.{CellsRise-itself, CellsRise-then}
use Rattle.placement_model.specs.Below.{IsLaidBelow}
use Rattle.placement_model.specs.Tried.{between, charged_by, gone_charged, new_charged, size_at}
use Rattle.store_model.specs.Starts.{CanStart, IsLoud, IsWith, IsWithout, WasBefore, flush_start}
use Rattle.placement_model.proofs.BelowLaws.{below_gone, below_new, laid_is_below}
use Rattle.placement_model.proofs.TriedLaws.{gone_tried, loud_grid, new_tried}
use Rattle.store_model.proofs.OutcomeLaws.{both_grid, trigger_gone, trigger_low, trigger_new}

-- what the answer of the charges says: with the boundary of its class it is such a change
pub outcome_loud : (k : ℕ) (caps : List ℕ) (grid after : List (List ℕ)) (old : Option Spot) (size : ℕ)
    (gone : Bool) (place : Option ℕ) (class b : ℕ) → after ≡ (charged_by k caps grid old size).grid
    → is_quiet (charged_by k caps grid old size) ≡ (gone && is_some place) → (gone && is_some place) ≡ false
    → class ≡ trigger (charged_by k caps grid old size) → b ≡ boundary_of after class
    → IsLoud k caps grid old size after b
outcome_loud k caps grid after old size gone place class b is quiet needs_flush trigger_class boundary =
    record {
      after_is = is;
      needs_flush = quiet ∙ needs_flush;
      boundary = boundary ∙ ap (boundary_of after) trigger_class;
    }

module _ (classes size_max : ℕ) (caps : List ℕ) (grid kept_grid : List (List ℕ)) (u : choice.InUse)
    (e : Extents)
    (spans : List Span) (h : WasBefore classes size_max caps grid kept_grid u e spans) (name : List ℕ) where
  abbrev k : ℕ
  k = u.block.k

  abbrev old : Option Spot
  old = fin.get e.now name

  abbrev mid : List (List ℕ)
  mid = between k caps grid old

  pub old_small : size_at old ≤ size_max
  old_small = by old refl
    where
      by : (o : Option Spot) → fin.get e.now name ≡ o → size_at o ≤ size_max
      by None none = omega arith
      by (Some s) there = by_name (λ (r : Record). r.size ≤ size_max) e.now h.both.now_laid.named
          (laid_below classes size_max k caps grid e.now h.both.now_laid).sizes name s there

  -- no buffer has taken less
  pub rises_mid : CellsRise grid mid
  rises_mid = elim (cases_Bool (is_quiet (gone_charged k caps grid old))) as (λ _. CellsRise grid mid) [
    | inl quiet ↦ quiet_rises classes k caps grid mid (gone_items k caps old) h.both.now_laid.few
        h.both.now_laid.grid_full (record { quiet = quiet; after_is = refl })
    | inr needs_flush ↦ subst (CellsRise grid) (sym (loud_grid k caps grid (gone_items k caps old)
        (gone_tried k caps grid old)
        needs_flush)) (CellsRise-itself grid)
  ]

  -- ---- the place of a new object that found room

  module _ (size place : ℕ) (after : List (List ℕ)) (placed : PlacedTo k caps mid size after place) where
    free : (from : List (List ℕ)) (spots : Spots) → IsLaidOut classes size_max k caps from spots
        → CellsRise from mid → AllLieApart place size spots
    free from spots laid rise = elim (cases_lt 0 size) as (λ _. AllLieApart place size spots) [
      | inl some ↦ place_apart classes size_max k caps from spots laid mid after size place rise
          (omega (arith, some)) placed
      | inr none ↦ λ q x is. inr (omega (arith, none, placed.empty (omega (arith, none))))
    ]

    -- It has no byte in common with any object that stood or was kept, and ends within the layout.
    pub placed_apart_now : AllLieApart place size e.now
    placed_apart_now = free grid e.now h.both.now_laid rises_mid

    pub placed_apart_kept : AllLieApart place size e.kept
    placed_apart_kept = free kept_grid e.kept h.both.kept_laid
        (CellsRise-then kept_grid grid mid h.both.fuller rises_mid)

    pub placed_within : place + size ≤ end_of k caps
    placed_within = elim (cases_lt 0 size) as (λ _. place + size ≤ end_of k caps) [
      | inl some ↦ place_within k caps mid after size place h.both.now_laid.caps_full.full
          (omega (arith, some)) placed
      | inr none ↦ omega (arith, none, placed.empty (omega (arith, none)))
    ]

  -- ---- the change

  module _ (size : ℕ) (after : List (List ℕ)) (b : ℕ) (small : size ≤ size_max)
      (l : IsLoud k caps grid old size after b) where
    -- the boundary is a class in use, at most that of what found no room
    pub loud_low : b < classes
    loud_low = omega (
      arith,
      l.boundary,
      boundary_of-le after (trigger (charged_by k caps grid old size)),
      trigger_low k caps grid old size classes size_max h.both.now_laid.top old_small small l.needs_flush,
    )

    pub loud_boundary : is_boundary after b ≡ true
    loud_boundary = ap (is_boundary after) l.boundary
        ∙ boundary_of-is after (trigger (charged_by k caps grid old size))

    pub gone_high : is_quiet (gone_charged k caps grid old) ≡ false → b ≤ class_of (size_at old)
    gone_high missed = omega (
      arith,
      l.boundary,
      boundary_of-le after (trigger (charged_by k caps grid old size)),
      trigger_gone k caps grid old size missed,
    )

    pub new_high : is_quiet (new_charged k caps mid size) ≡ false → b ≤ class_of size
    new_high missed = omega (
      arith,
      l.boundary,
      boundary_of-le after (trigger (charged_by k caps grid old size)),
      trigger_new k caps grid old size missed,
    )

    below_mid : IsLaidBelow classes size_max k caps mid b (fin.remove e.now name)
    below_mid = below_gone classes size_max k caps b grid e.now
        (laid_is_below classes size_max k caps b grid e.now h.both.now_laid (omega (arith, loud_low))) name
        gone_high

    -- where no new object comes, or it found no room, the grid is the one that the old object's charge left
    pub after_gone : size ≡ 0 → after ≡ mid
    after_gone none = l.after_is ∙ both_grid k caps grid old size
        ∙ ap (λ n. (charge_all k caps mid (some_size n)).grid) none

    pub after_missed : is_quiet (new_charged k caps mid size) ≡ false → after ≡ mid
    after_missed missed = l.after_is ∙ both_grid k caps grid old size
        ∙ loud_grid k caps mid (some_size size) (new_tried k caps mid size) missed

    module _ (gone : Extents) (without : IsWithout name e gone) (freed : List Span)
        (frees : FreesSpot old (fin.get e.kept name) spans freed) where
      -- The name is gone: a flush may begin, or waits for the new object alone.
      pub started_without : after ≡ mid
          → CanStart classes size_max (flush_start caps after kept_grid b u gone freed)
      started_without same = record {
        block = h.block;
        table = without.table;
        names = without.names ∙ h.names;
        small = h.small;
        low = loud_low;
        boundary = loud_boundary;
        below = subst (λ g. IsLaidBelow classes size_max k caps g b gone.now) (sym same)
            (subst (IsLaidBelow classes size_max k caps mid b) (sym without.now) below_mid);
        kept = subst (IsLaidOut classes size_max k caps kept_grid) (sym without.kept) h.both.kept_laid;
        freed = subst (λ x. IsFreed freed x gone.kept) (sym without.now)
            (subst (IsFreed freed (fin.remove e.now name)) (sym without.kept)
            (freed_gone spans e.now e.kept h.both.freed name freed frees));
      }

      -- The new object found room, and stands there.
      pub started_with : IsName name → (place key : ℕ) → PlacedTo k caps mid size after place
          → (put : Extents)
          → IsWith name (record { place = place; size = size }) key gone put
          → CanStart classes size_max (flush_start caps after kept_grid b u put freed)
      started_with is place key placed put joins =
          let s : Spot = record { place = place; size = size } in
          let now : put.now ≡ fin.insert (fin.remove e.now name) name s = joins.now
          ∙ ap (λ (m : Spots). fin.insert m name s) without.now in
          let kept = joins.kept ∙ without.kept in
          record {
            block = h.block;
            table = joins.table;
            names = joins.names ∙ without.names ∙ h.names;
            small = h.small;
            low = loud_low;
            boundary = loud_boundary;
            below = subst (IsLaidBelow classes size_max k caps after b) (sym now)
                (below_new classes size_max k caps b mid (fin.remove e.now name) below_mid name is
                (get-remove_here e.now name) size after place small placed);
            kept = subst (IsLaidOut classes size_max k caps kept_grid) (sym kept) h.both.kept_laid;
            freed = subst (λ x. IsFreed freed x put.kept) (sym (now ∙ insert-remove e.now name s))
                (subst (IsFreed freed (fin.insert e.now name s)) (sym kept)
                (freed_put spans e.now e.kept h.both.freed name freed frees s
                (off_kept e.kept name s (λ some. placed_apart_kept size place after placed))));
          }
