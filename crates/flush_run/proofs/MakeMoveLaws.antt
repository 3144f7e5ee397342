-- What one move of a flush may count on, with the save before it.
use Rattle.std.specs.Prelude.{◌≡◌, ◌⊎◌, ℕ, ◌+◌, ◌-◌, ◌^◌, ◌<◌, ◌≤◌, Bool, true, false, All, List, length, slice_index_or, Option, Some, None, IfSome, IsFalse, IsNone, IsTrue, Ok, refl}
use Rattle.std.proofs.Common.{arith, sym, ◌∙◌, ap, subst, inl, inr}
use Rattle.std.proofs.lemmas.List.Elements.{All-contains_itself}
use Rattle.disk_face.specs.States.{State}
use Rattle.slot_codec.specs.Choice as choice
use Rattle.slot_codec.specs.Spelling.{head_len}
use Rattle.slot_codec.specs.declared.codec.Header.{Header}
use Rattle.slot_codec.proofs.ChoiceLaws.{in_use_long}
use Rattle.slot_pair.specs.Saves.{save_calls}
use Rattle.span_math.specs.declared.span.Span.{Span}
use Rattle.extent_table.specs.Extents.{Extents}
use Rattle.flush_model.specs.declared.item.Move.{Move}
use Rattle.flush_model.specs.declared.item.Numbers.{Numbers}
use Rattle.flush_model.specs.Phases.{PlanState, moved_by}
use Rattle.flush_run.specs.FlushFrames.{FlushFrame, IsFreeSpace, IsMidFlush}
use Rattle.flush_run.specs.Hands.{AllEndBy}
use Rattle.flush_run.specs.Loops.{BetweenMoves, CanStep}
use Rattle.flush_run.specs.MadeMoves.{CanMakeMove, CanSaveAs, HasHeader, MayTake, calls_of_save, header_of}
use Rattle.flush_run.specs.Moves.{FreesTarget, HasMoved, HasMover}
use Rattle.flush_run.specs.Parts.{HandsValue, KeepsOn}
use Rattle.flush_run.specs.Saves.{IsSaveable}
use Rattle.flush_run.proofs.BeginLaws.{goes_in}
use Rattle.flush_run.proofs.GoesLaws.{can_step, goes_freed, goes_moved, goes_saveable, space_freed}
use Rattle.flush_run.proofs.LeftLaws.{told_before}

-- what may be saved under the numbers may be under their header
pub save_as : (f : FlushFrame) (x : HandsValue) {saving : Option Numbers} {n : Numbers} {header : Header}
    → IfSome saving (CanSaveAs f x) → saving ≡ Some n → header ≡ header_of x n
    → IsSaveable f x.in_use x.table header
save_as f x can is header =
    subst (IsSaveable f x.in_use x.table) (sym header) (subst (λ o. IfSome o (CanSaveAs f x)) is can)

module _ {classes : ℕ} {f : FlushFrame} {x : HandsValue} {p : PlanState} {saving : Option Numbers} {mv : Move}
    {d : State} (can : CanMakeMove classes f x p saving mv d)
  where
    abbrev g : BetweenMoves classes f x.caps x.grid x p d
    g = can.ready.goes

    -- the slot in use, where the content is told
    pub make_slot : IsTrue d.tells → choice.slot_in_use d.file ≡ Ok x.in_use
    make_slot told = (g.flies told).content.slot

    pub make_head : IsTrue d.tells → head_len x.in_use.block.names ≤ length d.file
    make_head told = in_use_long d.file x.in_use (make_slot told)

    pub make_fresh : x.in_use.sequence < 2 ^ 62 - 1
    make_fresh = omega (arith, can.ready.saves.settled)

    pub make_target : mv.to + mv.size < 2 ^ 48
    make_target = omega (arith, can.safe.high, g.hands.in_range)

    -- the numbers suit a header
    pub make_header : IfSome saving (HasHeader classes x.grid)
    make_header = by saving can.takes
      where
        by : (o : Option Numbers) → MayTake o x p mv → IfSome o (HasHeader classes x.grid)
        by None takes = tt
        by (Some n) takes = subst (HasHeader classes x.grid) (sym takes.0) (record {
          class = omega (arith, g.hands.boundary, g.same_classes);
          boundary = g.whole;
          wall = omega (arith, g.hands.wall, g.hands.in_range);
          slack = omega (arith, takes.1.wall, g.hands.wall, g.hands.in_range);
        })

    -- and what stands now may be saved under it
    pub make_saveable : IfSome saving (CanSaveAs f x)
    make_saveable = by saving can.takes
      where
        by : (o : Option Numbers) → MayTake o x p mv → IfSome o (CanSaveAs f x)
        by None takes = tt
        by (Some n) takes = subst (CanSaveAs f x) (sym takes.0)
            (goes_saveable g _ takes.1 refl (λ fresh. omega (arith, can.ready.saves.moving fresh)))

    -- without numbers nothing is held at the target
    pub make_apart : IsNone saving
        → All (λ (other : Span). (other.size ≡ 0) ⊎ (mv.size ≡ 0) ⊎ (other.place + other.size ≤ mv.to)
        ⊎ (mv.to + mv.size ≤ other.place)) x.spans
    make_apart none i span low =
        let b = slice_index_or x.spans i span in
        let o = g.hands.freed.only b (All-contains_itself x.spans i span low) in
        inr (inr (inl (omega (arith, by saving none can.takes o.0 o.1 o.2, o.4.0, o.4.1))))
      where
        by : (r : Option Numbers) → IsNone r → MayTake r x p mv → AllEndBy x.table.kept mv.to
        by None none takes = takes
        by (Some n) none takes = absurd (let bad = none in cc)

    module _ {x1 : HandsValue} {d1 : State} (target : Span) (place : target.place ≡ mv.to)
        (size : target.size ≡ mv.size) (saved : Bool)
        (a : FreesTarget saved target x.in_use x1.in_use x.table x1.table x.spans x1.spans)
        (keeps : KeepsOn d d1 x x1)
        (held : IsTrue d.tells → IfSome saving (CanSaveAs f x) → IsMidFlush f x.in_use x.table d
        → IsMidFlush f x1.in_use x1.table d1)
      where
        flies : IsTrue d1.tells → IsMidFlush f x1.in_use x1.table d1
        flies told =
            let before = told_before keeps told in
            held before make_saveable (g.flies before)

        -- once its target is free
        pub make_goes : BetweenMoves classes f x.caps x.grid x1 p d1
        make_goes = goes_freed g can.item can.safe x1 d1 target place size saved a keeps
            (omega (arith, keeps.names, keeps.room, g.guard)) flies

        pub make_space : IsFreeSpace x1.table.now x1.table.kept mv.to mv.size
        make_space = space_freed g can.item can.safe x1 d1 target place size saved a

        pub make_can : CanStep classes f x1 mv
        make_can = can_step make_goes can.item can.safe

        -- once the object stands there
        pub make_next : {b : State} {x2 : HandsValue} → KeepsOn d1 b x1 x2 → x2.in_use ≡ x1.in_use
            → HasMoved mv x1.table x2.table x1.spans x2.spans
            → (IsTrue b.tells → IsMidFlush f x1.in_use x2.table b)
            → BetweenMoves classes f x2.caps x2.grid x2 (moved_by mv p) b
        make_next {b} {x2} more slots moved flies2 =
            goes_in (goes_moved make_goes can.item can.safe x2 b make_space moved slots more
            (omega (arith, more.names, more.room, make_goes.guard)) flies2)
            (more.caps ∙ keeps.caps) (more.grid ∙ keeps.grid) refl

-- ---- what freeing a target leaves

module _ (target : Span) (u u' : choice.InUse) (e e' : Extents) (spans spans' : List Span) where
  pub frees_now : (saved : Bool) → FreesTarget saved target u u' e e' spans spans' → e'.now ≡ e.now
  frees_now true a = ap (λ (t : Extents). t.now) a.table
  frees_now false a = ap (λ (t : Extents). t.now) a.table

  pub frees_keys : (saved : Bool) → FreesTarget saved target u u' e e' spans spans' → e'.keys ≡ e.keys
  frees_keys true a = ap (λ (t : Extents). t.keys) a.table
  frees_keys false a = ap (λ (t : Extents). t.keys) a.table

pub frees_turns : (saved : Bool) (n before now : ℕ) → now ≤ before + save_calls n
    → (IsFalse saved → now ≡ before) → now ≤ before + calls_of_save saved n
frees_turns true n before now most none = most
frees_turns false n before now most none = omega (arith, none refl)

-- a move leaves what the checkpoint holds
pub kept_moved : {mv : Move} {e e2 : Extents} {spans spans2 : List Span} → HasMover e mv
    → HasMoved mv e e2 spans spans2 → e2.kept ≡ e.kept
kept_moved has moved = ap (λ (t : Extents). t.kept) (moved.now has.name has.spot has.mover)
