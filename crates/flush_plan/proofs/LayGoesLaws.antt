-- How Lay goes on, move by move, and where it begins and ends.
use Rattle.std.specs.Prelude.{◌≡◌, ◌≢◌, ℕ, ◌+◌, ◌<◌, ◌≤◌, ◌==◌, max, Bool, List, slice_index, Contains, refl}
use Rattle.std.proofs.Common.{arith, sym, ◌∙◌, ap, inl, inr}
use Rattle.std.proofs.lemmas.Bool.{cases_lt, cases_order}
use Rattle.std.proofs.Math.Nat.{le-max_left, max-le}
use Rattle.flush_model.specs.declared.item.Item.{Item}
use Rattle.flush_model.specs.declared.item.Move.{Move}
use Rattle.flush_model.specs.declared.item.Numbers.{Numbers}
use Rattle.flush_model.specs.Plans.{AreBelow, class_total, IsLaid, IsPacked, IsNextLay, ItemsCanResume, laid_length, mover, relocated, sizes_before, weight}
use Rattle.flush_model.specs.Phases.{AreItems, AreLaying, IsLaidWhole, IsLaying, IsPackedWhole, moved_by, PlanState}
use Rattle.flush_model.specs.Segments.{ArePlaces}
use Rattle.flush_model.specs.Steps.{IsLayStep}
use Rattle.flush_model.proofs.ItemLaws.{total_is, weight_moves}
use Rattle.flush_model.proofs.PlaceLaws.{segments_same}
use Rattle.flush_model.proofs.PackLaws.{laid_length_after}
use Rattle.flush_model.proofs.LayLaws.{lay_fits, packed_far, past_far}
use Rattle.flush_model.proofs.PhaseLaws.{below_after, laying_begins, laying_moved, small_after}
use Rattle.flush_model.proofs.StepLaws.{lay_step}
use Rattle.flush_plan.specs.Shelves.{PlanFrame, IsFirstOf, phase_on}
use Rattle.flush_plan.specs.Packs.{KeepsPacking, Pack}
use Rattle.flush_plan.specs.Lays.{IsLaidTo, IsNextClass, KeepsLaying, Lay}
use Rattle.flush_plan.proofs.PackGoesLaws.{move_of}
use Rattle.flush_plan.proofs.LayStepLaws.{all_before, before_at_most, class_begins, class_empty, first_waits, lay_moves, lay_next, none_counts, not_laid}

-- the value of Lay
abbrev pub lay_at : PlanFrame → List ℕ → ℕ → ℕ → ℕ → Lay
lay_at course volumes class to ahead =
    record { course = course; volumes = volumes; class = class; to = to; ahead = ahead }

-- where a class ends, as it is read off two rows
pub class_ends : (C k start b : ℕ) (items : List Item) (volumes places : List ℕ)
    → ArePlaces k start b (slice_index volumes) C places
    → ((c : ℕ) → c < C → slice_index volumes c ≡ class_total items c) → (c : ℕ) → b ≤ c → c < C
    → (slice_index places c ≡ start + laid_length k items b c)
    × (slice_index places c + slice_index volumes c ≡ start + laid_length k items b c + class_total items c)
class_ends C k start b items volumes places are totals c low high =
    let begins : slice_index places c ≡ start + laid_length k items b c = omega (
      arith,
      are c low high,
      segments_same k (slice_index volumes) (class_total items) b c
          (λ d from below. totals d (omega (arith, below, high))),
    ) in (begins, omega (arith, begins, totals c high))

-- a move leaves the bytes of each class
pub totals_after : (n : Numbers) (items : List Item) → AreItems n items → (mv : Move)
    → Contains items (mover mv) → (c : ℕ) → class_total (relocated mv.key mv.to items) c ≡ class_total items c
totals_after n items are mv has c =
    let q : Item → Bool = λ it. it.class == c in
    let same : weight q (relocated mv.key mv.to items) ≡ weight q items =
    omega (arith, weight_moves n items are mv has q q (λ it there other. refl)) in
    total_is q (relocated mv.key mv.to items) ∙ same ∙ sym (total_is q items)

-- ---- from one class to the next

module _ (C k : ℕ) (n : Numbers) (items : List Item) (are : AreItems n items) (can : ItemsCanResume k n items)
    (laying : AreLaying k n items) (below : AreBelow C items) (volumes : List ℕ)
    (totals : (c : ℕ) → c < C → slice_index volumes c ≡ class_total items c) where
  empty_class : (from class : ℕ) → IsNextClass C volumes from class → (it : Item) → Contains items it
      → from ≤ it.class → it.class < class → ⊥
  empty_class from class next it has low high =
      class_empty C k n items are can laying it.class
      (sym (totals it.class (below it has)) ∙ next.empty it.class low high) it has refl

  -- all before a class is laid, and some of the class, if there is one, isn't
  abbrev Starts : ℕ → ℕ → Type 0
  Starts next place = IsLaidTo C k n items next place n.wall
      × (next < C → sizes_before items next place < class_total items next)

  starts_at : (next from : ℕ) → IsNextClass C volumes from next
      → ((it : Item) → Contains items it → it.class < next → IsLaid k n items it)
      → ((it : Item) → Contains items it → IsLaid k n items it → it.class < next) → (place : ℕ)
      → (next < C → place ≡ n.start + laid_length k items n.boundary next) → Starts next place
  starts_at next from is done open_ones place at = (
    class_begins C k n items are can laying next done open_ones place at is.within below,
    λ high. omega (
      arith,
      ap (sizes_before items next) (at high),
      none_counts C k n items are can laying next done open_ones,
      is.some high,
      totals next high,
    ),
  )

  -- A class is laid whole, and those before it. Then the next one begins.
  module _ (class to ahead : ℕ) (front : IsLaidTo C k n items class to ahead) (low : class < C)
      (whole : sizes_before items class to ≡ class_total items class) (next : ℕ)
      (is : IsNextClass C volumes (class + 1) next) where
    done : (it : Item) → Contains items it → it.class < next → IsLaid k n items it
    done it has less = front.laid it has (elim (cases_order it.class class) [
      | inr (inl before) ↦ inl before
      | inl same ↦ inr
          (same, all_before C k n items are can laying class to ahead front low whole it has same)
      | inr (inr more) ↦ absurd (empty_class (class + 1) next is it has (omega (arith, more)) less)
    ])

    open_ones : (it : Item) → Contains items it → IsLaid k n items it → it.class < next
    open_ones it has laid = elim (front.waits it has laid) [
      | inl less ↦ omega (arith, less, is.above)
      | inr same ↦ omega (arith, same.0, is.above)
    ]

    pub turns : (place : ℕ) → (next < C → place ≡ n.start + laid_length k items n.boundary next)
        → Starts next place
    turns = starts_at next (class + 1) is done open_ones

  -- Nothing is laid. Then the first class that has bytes begins.
  module _ (none : (it : Item) → Contains items it → IsLaid k n items it → ⊥) (first : ℕ)
      (is : IsNextClass C volumes n.boundary first) where
    none_done : (it : Item) → Contains items it → it.class < first → IsLaid k n items it
    none_done it has less = absurd (empty_class n.boundary first is it has (are.from it has) less)

    none_open : (it : Item) → Contains items it → IsLaid k n items it → it.class < first
    none_open it has laid = absurd (none it has laid)

    pub starts : (place : ℕ) → (first < C → place ≡ n.start + laid_length k items n.boundary first)
        → Starts first place
    starts = starts_at first n.boundary is none_done none_open

-- once all is packed nothing is laid
pub packed_not_laid : (k : ℕ) (n : Numbers) (items : List Item) → AreItems n items → ItemsCanResume k n items
    → ((it : Item) → Contains items it → it.place < n.wall → IsPacked n items it) → (it : Item)
    → Contains items it → IsLaid k n items it → ⊥
packed_not_laid k n items are can whole it has laid = elim (cases_lt it.place n.wall) [
  | inl low ↦ omega (
    arith,
    laid,
    packed_far k n items are can.wall can.order it has low (whole it has low),
    can.slack it has,
    are.some it has,
  )
  | inr past ↦ omega (arith, laid, past_far k n items are can.wall can.order it has past, are.some it has)
]

-- Lay begins where Pack ends.
module _ (C : ℕ) (v : Pack) (items : List Item) (keeps : KeepsPacking C v items)
    (whole : IsPackedWhole (phase_on v.course items)) (volumes : List ℕ)
    (totals : (c : ℕ) → c < C → slice_index volumes c ≡ class_total items c) (first : ℕ)
    (is : IsNextClass C volumes v.course.numbers.boundary first) (place : ℕ)
    (at : first < C → place
    ≡ v.course.numbers.start + laid_length v.course.k items v.course.numbers.boundary first) where
  laying : IsLaying (phase_on v.course items)
  laying = laying_begins (phase_on v.course items) keeps.packing whole

  none : (it : Item) → Contains items it → IsLaid v.course.k v.course.numbers items it → ⊥
  none = packed_not_laid v.course.k v.course.numbers items keeps.packing.items keeps.packing.resumes whole

  pub lay_begins : KeepsLaying C (lay_at v.course volumes first place v.course.numbers.wall) items
  lay_begins =
      let begins = starts C v.course.k v.course.numbers items keeps.packing.items keeps.packing.resumes
      laying.laying keeps.classes volumes totals none first is place at in
      record {
        fits = keeps.fits;
        laying = laying;
        classes = keeps.classes;
        small = keeps.small;
        totals = totals;
        low = is.above;
        high = is.within;
        front = begins.0;
        some = begins.1;
      }

-- ---- one step

module _ (C : ℕ) (v : Lay) (items : List Item) (keeps : KeepsLaying C v items) where
  abbrev n : Numbers
  n = v.course.numbers

  abbrev k : ℕ
  k = v.course.k

  abbrev p : PlanState
  p = phase_on v.course items

  are : AreItems n items
  are = keeps.laying.packing.items

  can : ItemsCanResume k n items
  can = keeps.laying.packing.resumes

  laying_of : AreLaying k n items
  laying_of = keeps.laying.laying

  -- past the last class all is laid
  pub lay_ended : C ≤ v.class → IsLaidWhole p
  lay_ended ended it has = keeps.front.laid it has (inl (omega (arith, ended, keeps.classes it has)))

  module _ (low : v.class < C) where
    -- else one waits
    pub lay_has_next : (m : Item) × IsFirstOf items v.class v.to m
    lay_has_next = first_waits C k n items are can laying_of v.class v.to v.ahead keeps.front low
        (keeps.some low)

    pub lay_waits : IsLaidWhole p → ⊥
    lay_waits whole =
        let next = lay_has_next in
        not_laid C k n items are can laying_of v.class v.to v.ahead keeps.front low next.0 next.1
        (whole next.0 next.1.has)

    module _ (m : Item) (first : IsFirstOf items v.class v.to m) where
      abbrev mv : Move
      mv = move_of m v.to

      next : IsNextLay k n items mv
      next = lay_next C k n items are can laying_of v.class v.to v.ahead keeps.front low m first mv refl refl

      pub lay_is_step : IsLayStep p mv
      lay_is_step = lay_step p mv keeps.laying next

      pub lay_ends_low : v.to + m.size + n.slack ≤ n.wall
      lay_ends_low = lay_fits k n items are can laying_of mv next

      -- it moves from the place on, and none of the class that stands past the wall stands before it then
      pub ahead_past : n.wall ≤ max v.ahead m.place
      ahead_past = omega (arith, keeps.front.past, le-max_left v.ahead m.place)

      ahead_behind : (it : Item) → Contains items it → it.key ≢ m.key → it.class ≡ v.class
          → n.wall ≤ it.place → max v.ahead m.place ≤ it.place
      ahead_behind it has other same past = max-le (keeps.front.behind it has same past)
          (first.first it has same (omega (arith, past, lay_ends_low)))

      abbrev after : List Item
      after = relocated m.key v.to items

      laying_then : IsLaying (moved_by mv p)
      laying_then = laying_moved p mv keeps.laying next

      below_then : AreBelow C after
      below_then = below_after C p mv are next.item keeps.classes

      totals_then : (c : ℕ) → c < C → slice_index v.volumes c ≡ class_total after c
      totals_then c high = keeps.totals c high ∙ sym (totals_after n items are mv next.item c)

      -- what the class ends with is known
      module _ (ends : ℕ)
          (end : ends ≡ n.start + laid_length k items n.boundary v.class + class_total items v.class) where
        abbrev further : ℕ
        further = max v.ahead m.place

        front_then : IsLaidTo C k n after v.class (v.to + m.size) further
        front_then = lay_moves C k n items are can laying_of v.class v.to v.ahead keeps.front low m first mv
            refl refl further ahead_past ahead_behind

        -- how much of the class stands before the end of what is laid then
        left_then : v.to + m.size + class_total after v.class
            ≡ ends + sizes_before after v.class (v.to + m.size)
        left_then = omega (
          arith,
          front_then.goes low,
          end,
          totals_after n items are mv next.item v.class,
          laid_length_after n items are mv next.item k n.boundary v.class,
        )

        -- the class goes on
        pub lay_stays : v.to + m.size < ends
            → KeepsLaying C (lay_at v.course v.volumes v.class (v.to + m.size) further) after
        lay_stays less =
            record {
              fits = keeps.fits;
              laying = laying_then;
              low = keeps.low;
              high = keeps.high;
              classes = below_then;
              small = small_after p mv are next.item
                  (omega (arith, lay_ends_low, keeps.laying.packing.reaches)) keeps.small;
              totals = totals_then;
              front = front_then;
              some = λ high. omega (arith, left_then, less);
            }

        -- it is laid whole, and the next one begins
        pub lay_turns : ends ≤ v.to + m.size → (class : ℕ) → IsNextClass C v.volumes (v.class + 1) class
            → (place : ℕ) → (class < C → place ≡ n.start + laid_length k items n.boundary class)
            → KeepsLaying C (lay_at v.course v.volumes class place n.wall) after
        lay_turns ended class is place at =
            let are_then = laying_then.packing.items in
            let can_then = laying_then.packing.resumes in
            let whole : sizes_before after v.class (v.to + m.size) ≡ class_total after v.class = omega (
              arith,
              left_then,
              ended,
              before_at_most C k n after are_then can_then laying_then.laying v.class (v.to + m.size) further
                  front_then low,
            ) in
            let at_then : class < C → place ≡ n.start + laid_length k after n.boundary class =
            λ high. omega (arith, at high, laid_length_after n items are mv next.item k n.boundary class) in
            let begins = turns C k n after are_then can_then laying_then.laying below_then v.volumes
            totals_then v.class (v.to + m.size) further front_then low whole class is place at_then in
            record {
              fits = keeps.fits;
              laying = laying_then;
              low = omega (arith, keeps.low, is.above);
              high = is.within;
              classes = below_then;
              small = small_after p mv are next.item
                  (omega (arith, lay_ends_low, keeps.laying.packing.reaches)) keeps.small;
              totals = totals_then;
              front = begins.0;
              some = begins.1;
            }
