-- What the steps of a flush sum up to, and how many there may be.
use Rattle.std.specs.Prelude.{◌≡◌, ℕ, ◌+◌, ◌-◌, ◌*◌, ◌≤◌, ◌==◌, nat_le, nat_lt, not, ◌&&◌, Bool, true, false, if◌then◌else◌, cond, List, length, filter, slice_index, refl}
use Rattle.std.proofs.Common.{arith, sym, ◌∙◌, ap, subst}
use Rattle.std.proofs.lemmas.Bool.{le-ltb, lt-ltb}
use Rattle.std.proofs.lemmas.List.{length-map}
use Rattle.std.proofs.lemmas.List.Sums.{count_by-le-length, length-filter}
use Rattle.std.specs.FinMap as fin
use Rattle.disk_face.specs.States.{State}
use Rattle.size_class.specs.Classes.{class_of}
use Rattle.size_class.proofs.ClassLaws.{class_below}
use Rattle.slot_codec.specs.Choice as choice
use Rattle.slot_pair.specs.Saves.{next_in_use, save_calls}
use Rattle.extent_table.specs.declared.spot.Spot.{Spot}
use Rattle.extent_table.specs.Extents.{Extents, Spots, records_of}
use Rattle.extent_table.proofs.ExtentLaws.{records_of-few}
use Rattle.flush_model.specs.declared.item.Move.{Move}
use Rattle.flush_model.specs.Plans.{class_total, is_below_wall, is_packed, moved_item, relocated}
use Rattle.flush_model.specs.Phases.{IsLifting, PlanState, is_unpacked, moved_by, to_pack}
use Rattle.flush_model.specs.Steps.{IsLiftStep, IsMover}
use Rattle.flush_model.proofs.ListLaws.{length_filter, sum_by_le_in}
use Rattle.flush_model.proofs.WaitingLaws.{laid_at_most, lifted_and_packed, one_fewer}
use Rattle.flush_plan.specs.Shelves.{PlanFrame}
use Rattle.flush_run.specs.Advances.{HasAdvanced, HasEnded, HasStopped}
use Rattle.flush_run.specs.Calls.{CallsSoFar, piece_calls}
use Rattle.flush_run.specs.Hands.{spot_item, suffix_items}
use Rattle.flush_run.specs.Parts.{HandsValue, size_in}
use Rattle.flush_run.specs.Shelved.{phase_now}
use Rattle.flush_run.specs.Phases.{KeepsIn, StepIn, course_in, items_in, moved_in, phase_in, rank_of, steps_left, steps_of}
use Rattle.flush_run.specs.MadeMoves.{calls_of_save}
use Rattle.flush_run.specs.Sums.{Mark, SumsSoFar, SumsUp, mark_of}
use Rattle.flush_run.specs.declared.phase.Phase.{Phase}
use Rattle.flush_run.specs.declared.phase.Phase.TheVariants as phases
use Rattle.flush_run.proofs.AdvanceLaws.{item_of}
use Rattle.flush_run.proofs.BeginLaws.{to_lay_few, to_pack_few}
use Rattle.flush_run.proofs.CallLaws.{calls_move, calls_none, calls_save, calls_wider, row_rises, row_stays}
use Rattle.flush_run.proofs.MadeLaws.{totals_stay}
use Rattle.flush_run.proofs.SizeLaws.{sizes_len}

-- ---- one move

-- the bytes that are done grow by those of the object
grows_in : {C : ℕ} (s0 s : Phase C) (p : PlanState) (mv : Move) → rank_of s ≡ rank_of s0 → StepIn s0 p mv
    → (c : ℕ) → moved_in s0 p c + cond (mv.class == c) mv.size 0 ≤ moved_in s (moved_by mv p) c
grows_in (phases.Lift v) (phases.Lift w) p mv same step c = omega (arith, step.progress c)
grows_in (phases.Pack v) (phases.Pack w) p mv same step c = omega (arith, step.progress c, step.lifted c)
grows_in (phases.Lay v) (phases.Lay w) p mv same step c =
    omega (arith, step.progress c, totals_stay mv.key mv.to c p.items)
grows_in (phases.Lift v) (phases.Pack w) p mv same step c = absurd (omega (arith, same))
grows_in (phases.Lift v) (phases.Lay w) p mv same step c = absurd (omega (arith, same))
grows_in (phases.Pack v) (phases.Lift w) p mv same step c = absurd (omega (arith, same))
grows_in (phases.Pack v) (phases.Lay w) p mv same step c = absurd (omega (arith, same))
grows_in (phases.Lay v) (phases.Lift w) p mv same step c = absurd (omega (arith, same))
grows_in (phases.Lay v) (phases.Pack w) p mv same step c = absurd (omega (arith, same))

-- nor are they fewer in the next phase
pub grows_on : {C : ℕ} (s0 s : Phase C) (p : PlanState) → rank_of s ≡ rank_of s0 + 1 → (c : ℕ)
    → moved_in s0 p c ≤ moved_in s p c
grows_on (phases.Lift v) (phases.Pack w) p next c = omega arith
grows_on (phases.Pack v) (phases.Lay w) p next c = omega (arith, lifted_and_packed p c)
grows_on (phases.Lift v) (phases.Lift w) p next c = absurd (omega (arith, next))
grows_on (phases.Lift v) (phases.Lay w) p next c = absurd (omega (arith, next))
grows_on (phases.Pack v) (phases.Lift w) p next c = absurd (omega (arith, next))
grows_on (phases.Pack v) (phases.Pack w) p next c = absurd (omega (arith, next))
grows_on (phases.Lay v) (phases.Lift w) p next c = absurd (omega (arith, next))
grows_on (phases.Lay v) (phases.Pack w) p next c = absurd (omega (arith, next))
grows_on (phases.Lay v) (phases.Lay w) p next c = absurd (omega (arith, next))

-- they are at most twice those of the items
moved_at_most : {C : ℕ} (s : Phase C) (p : PlanState) (c : ℕ) → moved_in s p c ≤ 2 * class_total p.items c
moved_at_most (phases.Lift v) p c = omega (arith, lifted_and_packed p c)
moved_at_most (phases.Pack v) p c = omega (arith, lifted_and_packed p c)
moved_at_most (phases.Lay v) p c = omega (arith, laid_at_most p c)

-- a save, where one was made, adds one to the sequence
saves_in : (saved : Bool) (u u0 : choice.InUse) → u ≡ (if saved then next_in_use u0 else u0)
    → u.sequence ≡ u0.sequence + (if saved then 1 else 0)
saves_in true u u0 is = omega (arith, ap (λ (u : choice.InUse). u.sequence) is)
saves_in false u u0 is = omega (arith, ap (λ (u : choice.InUse). u.sequence) is)

pub saves_low : (saved : Bool) (u u0 : choice.InUse) → u ≡ (if saved then next_in_use u0 else u0)
    → u0.sequence ≤ u.sequence
saves_low true u u0 is = omega (arith, ap (λ (u : choice.InUse). u.sequence) is)
saves_low false u u0 is = omega (arith, ap (λ (u : choice.InUse). u.sequence) is)

pub saves_high : (saved : Bool) (u u0 : choice.InUse) → u ≡ (if saved then next_in_use u0 else u0)
    → u.sequence ≤ u0.sequence + 1
saves_high true u u0 is = omega (arith, ap (λ (u : choice.InUse). u.sequence) is)
saves_high false u u0 is = omega (arith, ap (λ (u : choice.InUse). u.sequence) is)

calls_in : (saved : Bool) {n k first now q : ℕ} {old new : List ℕ}
    → CallsSoFar first now old new 0 q k → n ≤ k
    → CallsSoFar first (now + calls_of_save saved n) old new 0 (q + (if saved then 1 else 0)) k
calls_in true {n} {k} {first} {now} {q} {old} {new} so few =
    calls_save first now (now + save_calls n) old new 0 q k n so few (omega arith)
calls_in false {n} {k} {first} {now} {q} {old} {new} so few =
    calls_wider first now (now + 0) old new 0 0 q (q + 0) k so (omega arith) (omega arith)

module _ {C : ℕ} {s0 s : Phase C} {x0 x : HandsValue} {first now : State}
    (a : HasAdvanced s0 s x0 x first now)
  where
    abbrev p : PlanState
    p = phase_in s0 x0.table

    abbrev one : ℕ
    one = if a.saved then 1 else 0

    abbrev item : IsMover p a.mv
    item = item_of s0 a.step

    pub rises_by : x.in_use.sequence ≡ x0.in_use.sequence + one
    rises_by = saves_in a.saved x.in_use x0.in_use a.pair

    same_boundary : (course_in s).numbers.boundary ≡ (course_in s0).numbers.boundary
    same_boundary = ap (λ (c : PlanFrame). c.numbers.boundary) a.course

    module _ {m : Mark} (so : SumsSoFar m s0 x0 first) where
      records_few : length (records_of x0.table.now) ≤ fin.len m.spots
      records_few = omega (arith, records_of-few x0.table.now, sizes_len m.spots x0.table.now so.sizes)

      calls_now : CallsSoFar m.turn now.turn m.moved x.moved 0 (x.in_use.sequence - m.sequence)
          (fin.len m.spots)
      calls_now =
          let saved = calls_in a.saved so.calls records_few in
          subst (λ n. CallsSoFar m.turn now.turn m.moved x.moved 0 n (fin.len m.spots))
          (omega (arith, rises_by, so.later))
          (calls_move x0.moved x.moved a.mv.size (omega (arith, class_below a.mv.size, a.full)) a.row
          item.some (class_below a.mv.size) saved now.turn a.turns)

      pub sums_next : SumsSoFar m s x now
      sums_next = record {
        totals = λ c. ap (λ (q : PlanState). class_total q.items c) a.after
            ∙ totals_stay a.mv.key a.mv.to c p.items ∙ so.totals c;
        sizes = λ name. a.sizes name ∙ so.sizes name;
        later = omega (arith, so.later, rises_by);
        lower = λ c low.
            row_stays x0.moved x.moved a.mv.size (omega (arith, class_below a.mv.size, a.full)) a.row c
            (omega (arith, low, same_boundary, item.from, item.class))
            ∙ so.lower c (omega (arith, low, same_boundary));
        rises = λ c.
            let rise = row_rises x0.moved x.moved a.mv.size
            (omega (arith, class_below a.mv.size, a.full)) a.row c in
            let same = subst (λ k. slice_index x.moved c ≤ slice_index x0.moved c + cond (k == c) a.mv.size 0)
            (sym item.class) rise in
            omega (
              arith,
              so.rises c,
              same,
              grows_in s0 s p a.mv a.same a.step c,
              ap (λ (q : PlanState). moved_in s q c) a.after,
            );
        calls = calls_now;
      }

-- ---- where a flush begins

pub sums_begin : {C : ℕ} (s : Phase C) (x : HandsValue) (d : State) → SumsSoFar (mark_of s x d) s x d
sums_begin s x d = record {
  totals = λ c. refl;
  sizes = λ name. refl;
  later = omega arith;
  lower = λ c low. refl;
  rises = λ c. omega arith;
  calls = subst (λ n. CallsSoFar d.turn d.turn x.moved x.moved 0 n (fin.len x.table.now)) (omega arith)
      (calls_none d.turn x.moved (fin.len x.table.now));
}

-- ---- where it ends

module _ {C : ℕ} {s0 : Phase C} {x0 : HandsValue} {first : State} {m : Mark} (so : SumsSoFar m s0 x0 first)
  where
    abbrev few_records : length (records_of x0.table.now) ≤ fin.len m.spots
    few_records = omega (arith, records_of-few x0.table.now, sizes_len m.spots x0.table.now so.sizes)

    few_moved : (x : HandsValue) → x.moved ≡ x0.moved → (c : ℕ)
        → slice_index x.moved c ≤ slice_index m.moved c + 2 * class_total m.items c
    few_moved x row c = omega (
      arith,
      ap (λ (r : List ℕ). slice_index r c) row,
      so.rises c,
      moved_at_most s0 (phase_in s0 x0.table) c,
      so.totals c,
    )

    saved_calls : CallsSoFar m.turn (first.turn + save_calls (length (records_of x0.table.now))) m.moved
        x0.moved 0 (x0.in_use.sequence - m.sequence + 1) (fin.len m.spots)
    saved_calls = calls_save m.turn first.turn
        (first.turn + save_calls (length (records_of x0.table.now))) m.moved x0.moved 0
        (x0.in_use.sequence - m.sequence) (fin.len m.spots) (length (records_of x0.table.now)) so.calls
        few_records (omega arith)

    pub sums_end : {x : HandsValue} {now : State} → HasEnded x0 x first now
        → SumsUp m (course_in s0).numbers.boundary 2 0 x now
    sums_end {x} {now} e = record {
      sizes = λ name. ap (λ (t : Spots). size_in t name) e.spots ∙ so.sizes name;
      later = omega (arith, so.later, ap (λ (u : choice.InUse). u.sequence) e.pair);
      lower = λ c low. ap (λ (r : List ℕ). slice_index r c) e.row ∙ so.lower c low;
      few = few_moved x e.row;
      calls = subst (λ r. CallsSoFar m.turn now.turn m.moved r 2 (x.in_use.sequence - m.sequence + 0)
          (fin.len m.spots)) (sym e.row)
          (calls_wider m.turn (first.turn + save_calls (length (records_of x0.table.now))) now.turn m.moved
          x0.moved 0 2 (x0.in_use.sequence - m.sequence + 1) (x.in_use.sequence - m.sequence + 0)
          (fin.len m.spots) saved_calls
          (omega (arith, so.later, ap (λ (u : choice.InUse). u.sequence) e.pair)) (omega (arith, e.turns)));
    }

    pub sums_stop : {x : HandsValue} {now : State} → HasStopped x0 x first now
        → SumsUp m (course_in s0).numbers.boundary (piece_calls + 2) 1 x now
    sums_stop {x} {now} e = record {
      sizes = λ name. ap (λ (t : Spots). size_in t name) e.spots ∙ so.sizes name;
      later = omega (arith, so.later, e.later);
      lower = λ c low. ap (λ (r : List ℕ). slice_index r c) e.row ∙ so.lower c low;
      few = few_moved x e.row;
      calls = subst (λ r. CallsSoFar m.turn now.turn m.moved r (piece_calls + 2)
          (x.in_use.sequence - m.sequence + 1) (fin.len m.spots)) (sym e.row)
          (calls_wider m.turn (first.turn + save_calls (length (records_of x0.table.now))) now.turn m.moved
          x0.moved 0 (piece_calls + 2) (x0.in_use.sequence - m.sequence + 1)
          (x.in_use.sequence - m.sequence + 1) (fin.len m.spots) saved_calls
          (omega (arith, so.later, e.later))
          (omega (arith, e.turns)));
    }

-- what is summed up so far, as if the flush ended here
pub sums_still : {C : ℕ} {s : Phase C} {x : HandsValue} {d : State} {m : Mark} → SumsSoFar m s x d
    → SumsUp m (course_in s).numbers.boundary 0 0 x d
sums_still {s = s} {x} {d} {m} so = record {
  sizes = so.sizes;
  later = so.later;
  lower = so.lower;
  few = λ c. omega (arith, so.rises c, moved_at_most s (phase_in s x.table) c, so.totals c);
  calls = subst (λ n. CallsSoFar m.turn d.turn m.moved x.moved 0 n (fin.len m.spots)) (omega arith) so.calls;
}

-- an end without a fault is one with more calls
pub sums_wider : {m : Mark} {b : ℕ} {x : HandsValue} {d : State} → SumsUp m b 2 0 x d
    → SumsUp m b (piece_calls + 2) 1 x d
sums_wider {m} {b} {x} {d} u = record {
  sizes = u.sizes;
  later = u.later;
  lower = u.lower;
  few = u.few;
  calls = calls_wider m.turn d.turn d.turn m.moved x.moved 2 (piece_calls + 2)
      (x.in_use.sequence - m.sequence + 0) (x.in_use.sequence - m.sequence + 1) (fin.len m.spots) u.calls
      (omega arith) (omega arith);
}

-- ---- how many steps there may be

abbrev below_wall : PlanState → ℕ
below_wall p = length (filter (is_below_wall p.numbers) p.items)

lifts_fewer : (p : PlanState) (mv : Move) → IsLifting p → IsLiftStep p mv
    → below_wall (moved_by mv p) + 1 ≡ below_wall p
lifts_fewer p mv is step = one_fewer p.numbers p.items is.items mv step.next.item (is_below_wall p.numbers)
    (is_below_wall p.numbers) (λ it has other. refl) (lt-ltb mv.from p.numbers.wall step.next.below)
    (le-ltb mv.to p.numbers.wall (omega (arith, step.next.target)))

packs_below : (p : PlanState) → to_pack p ≤ below_wall p
packs_below p = omega (
  arith,
  length_filter (is_unpacked p.numbers p.items) p.items,
  length_filter (is_below_wall p.numbers) p.items,
  sum_by_le_in (λ it. cond {A = ℕ} (is_unpacked p.numbers p.items it) 1 0)
      (λ it. cond {A = ℕ} (is_below_wall p.numbers it) 1 0) p.items
      (λ it has. fewer (is_below_wall p.numbers it) (not (is_packed p.numbers p.items it))),
)
  where
    fewer : (b d : Bool) → cond {A = ℕ} (b && d) 1 0 ≤ cond {A = ℕ} b 1 0
    fewer true true = omega arith
    fewer true false = omega arith
    fewer false d = omega arith

same_count : (p : PlanState) (mv : Move) → length (relocated mv.key mv.to p.items) ≡ length p.items
same_count p mv = length-map p.items (moved_item mv.key mv.to)

falls : {C : ℕ} (s0 s : Phase C) (e : Extents) (mv : Move) → KeepsIn s0 (items_in s0 e)
    → rank_of s ≡ rank_of s0 → StepIn s0 (phase_in s0 e) mv
    → steps_of s (moved_by mv (phase_in s0 e)) + 1 ≤ steps_of s0 (phase_in s0 e)
falls {C} (phases.Lift v) (phases.Lift w) e mv keeps same step =
    let p = phase_in {C = C} (phases.Lift v) e in
    omega (arith, lifts_fewer p mv keeps.lifting step, same_count p mv)
falls {C} (phases.Pack v) (phases.Pack w) e mv keeps same step =
    let p = phase_in {C = C} (phases.Pack v) e in
    omega (arith, step.fewer, same_count p mv)
falls {C} (phases.Lay v) (phases.Lay w) e mv keeps same step = omega (arith, step.fewer)
falls (phases.Lift v) (phases.Pack w) e mv keeps same step = absurd (omega (arith, same))
falls (phases.Lift v) (phases.Lay w) e mv keeps same step = absurd (omega (arith, same))
falls (phases.Pack v) (phases.Lift w) e mv keeps same step = absurd (omega (arith, same))
falls (phases.Pack v) (phases.Lay w) e mv keeps same step = absurd (omega (arith, same))
falls (phases.Lay v) (phases.Lift w) e mv keeps same step = absurd (omega (arith, same))
falls (phases.Lay v) (phases.Pack w) e mv keeps same step = absurd (omega (arith, same))

-- each move leaves one step fewer to come
pub steps_fall : {C : ℕ} {s0 s : Phase C} {x0 x : HandsValue} {first now : State}
    → HasAdvanced s0 s x0 x first now → KeepsIn s0 (items_in s0 x0.table)
    → steps_left s x.table + 1 ≤ steps_left s0 x0.table
steps_fall {s0 = s0} {s} {x0} a keeps =
    omega (arith, falls s0 s x0.table a.mv keeps a.same a.step, ap (steps_of s) a.after)

stays : {C : ℕ} (s0 s : Phase C) (p : PlanState) → rank_of s ≡ rank_of s0 + 1 → steps_of s p ≤ steps_of s0 p
stays (phases.Lift v) (phases.Pack w) p next = omega (arith, packs_below p)
stays (phases.Pack v) (phases.Lay w) p next = omega (arith, to_lay_few p)
stays (phases.Lift v) (phases.Lift w) p next = absurd (omega (arith, next))
stays (phases.Lift v) (phases.Lay w) p next = absurd (omega (arith, next))
stays (phases.Pack v) (phases.Lift w) p next = absurd (omega (arith, next))
stays (phases.Pack v) (phases.Pack w) p next = absurd (omega (arith, next))
stays (phases.Lay v) (phases.Lift w) p next = absurd (omega (arith, next))
stays (phases.Lay v) (phases.Pack w) p next = absurd (omega (arith, next))
stays (phases.Lay v) (phases.Lay w) p next = absurd (omega (arith, next))

-- where a phase hands over, no more are left
pub steps_stay : {C : ℕ} (s0 s : Phase C) (e : Extents) → course_in s ≡ course_in s0
    → rank_of s ≡ rank_of s0 + 1 → steps_left s e ≤ steps_left s0 e
steps_stay s0 s e course next =
    omega (
      arith,
      stays s0 s (phase_in s0 e) next,
      ap (λ (c : PlanFrame). steps_of s (phase_now c e)) course,
    )

-- one at least is left
pub steps_some : {C : ℕ} (s : Phase C) (e : Extents) → 1 ≤ steps_left s e
steps_some (phases.Lift v) e = omega arith
steps_some (phases.Pack v) e = omega arith
steps_some (phases.Lay v) e = omega arith

-- they are at most twice as many as there are names, and one
items_few : (b : ℕ) (e : Extents) → length (suffix_items b e) ≤ fin.len e.now
items_few b e =
    let es = fin.entries e.now in
    let q = λ (x : List ℕ × Spot). nat_lt 0 x.1.size && nat_le b (class_of x.1.size) in
    omega (
      arith,
      length-map (filter q es) (spot_item e.keys),
      length-filter q es,
      count_by-le-length q es,
      fin.len-entries e.now,
    )

pub steps_few : {C : ℕ} (s : Phase C) (e : Extents) → steps_left s e ≤ 2 * fin.len e.now + 1
steps_few {C} (phases.Lift v) e =
    let p = phase_in {C = C} (phases.Lift v) e in
    omega (
      arith,
      items_few v.course.numbers.boundary e,
      length-filter (is_below_wall p.numbers) p.items,
      count_by-le-length (is_below_wall p.numbers) p.items,
    )
steps_few {C} (phases.Pack v) e =
    omega (arith, items_few v.course.numbers.boundary e, to_pack_few (phase_in {C = C} (phases.Pack v) e))
steps_few {C} (phases.Lay v) e =
    omega (arith, items_few v.course.numbers.boundary e, to_lay_few (phase_in {C = C} (phases.Lay v) e))
