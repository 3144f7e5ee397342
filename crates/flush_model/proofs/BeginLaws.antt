-- A flush begins: its items, with the pending one behind the room for what is lifted, are as Lift keeps them.
use Rattle.std.specs.Prelude.{◌≡◌, ◌≢◌, ◌⊎◌, ℕ, zero, suc, ◌+◌, ◌-◌, ◌≤◌, ◌==◌, nat_le, nat_lt, not, Bool, ◌&&◌, cond, List, [], ◌∷◌, ◌++◌, length, Some, slice_get, Contains, sum_by, refl, Option, IfSome, None, ◌<◌, ◌^◌, filter, ◌/◌}
use Rattle.std.proofs.Common.{arith, sym, ◌∙◌, ap, subst, inl, inr}
use Rattle.std.proofs.lemmas.Bool.{cases_lt, cond-false, lt-ltb, le-ltb, lt-leb, and_left, and_right}
use Rattle.std.proofs.lemmas.List.Sums.{sum_by-cons, sum_by_push}
use Rattle.std.proofs.lemmas.Option.{slice_get-get_or, slice_get_within, get_or_from_slice_get, same_Some}
use Rattle.byte_ranges.specs.Lists.{counting_from}
use Rattle.size_class.specs.Classes.{width, class_of, IsRow}
use Rattle.segment_layout.specs.Shapes.{buffer_of, end_of}
use Rattle.flush_model.specs.declared.item.Item.{Item}
use Rattle.flush_model.specs.declared.item.Numbers.{Numbers}
use Rattle.flush_model.specs.Plans.{class_total, is_below_wall, is_lifted, is_unlifted, ItemsApart, laid_length, lifted_bytes, numbers_of, stands_in_payload, unlifted_bytes, weight, object_of, AreBelow, AreSmall, largest_of, total}
use Rattle.flush_model.specs.Phases.{AreItems, AreLifting, CanFlush, SuitsLayout, PaysFor, payload_bytes, phase_of}
use Rattle.flush_model.proofs.ListLaws.{cond_at_most, sum_by_none_in, sum_by_same_in}
use Rattle.flush_model.proofs.ItemLaws.{total_is}
use Rattle.flush_model.proofs.NumbersLaws.{item_ends, items_of_flush, reach_is, slack_over_pending, slack_over_sizes, wall_over_new_end, wall_over_old_end}
use Rattle.flush_model.specs.Begins.{Begins, IsPending, pending_size, with_pending}
use Rattle.flush_model.proofs.BoundLaws.{flush_below, small_of_flush}
use Rattle.flush_model.proofs.LargestLaws.{largest-from, largest-le, largest-of}

-- what a list has that is one longer
push_got : (xs : List Item) (y : Item) (i : ℕ) (a : Item) → slice_get (xs ++ y ∷ []) i ≡ Some a
    → (slice_get xs i ≡ Some a) ⊎ ((i ≡ length xs) × (a ≡ y))
push_got [] y zero a got = inr (refl, same_Some a y (sym got))
push_got [] y (suc i) a got = absurd (cc)
push_got (x ∷ xs) y zero a got = inl got
push_got (x ∷ xs) y (suc i) a got =
    elim (push_got xs y i a got) [ inl h ↦ inl h | inr h ↦ inr (omega (arith, h.0), h.1) ]

module _ (k : ℕ) (caps : List ℕ) (b : ℕ) (items : List Item) (flush : CanFlush k caps b items)
    (pending : Item) where
  abbrev n : Numbers
  n = numbers_of k caps b items pending.size

  abbrev in_buffers : ℕ
  in_buffers = weight (λ it. not (stands_in_payload k caps it)) items

  below : (it : Item) → Contains items it → it.place + 1 ≤ n.wall
  below it has = omega (
    arith,
    item_ends k caps b items flush pending.size it has,
    wall_over_old_end k caps b items flush pending.size,
  )

  -- of a list that has the items, and the pending one where it has bytes
  module _
      (all : List Item)
      (sums : (q : Item → Bool) → weight q all ≡ weight q items + cond (q pending) pending.size 0)
      (only : (it : Item) → Contains all it → Contains items it ⊎ ((it ≡ pending) × (1 ≤ pending.size)))
      (class : 1 ≤ pending.size → pending.class ≡ class_of pending.size)
      (behind : 1 ≤ pending.size → pending.place ≡ n.wall + in_buffers) where
    stands_last : 1 ≤ pending.size → pending.place + pending.size ≡ n.reach
    stands_last some = omega (arith, behind some, reach_is k caps b items flush pending.size)

    pub lifted_none : lifted_bytes n pending.size all ≡ 0
    lifted_none =
        omega (
          arith,
          total_is (is_lifted n pending.size) all,
          sums (is_lifted n pending.size),
          sum_by_none_in (λ it. cond (is_lifted n pending.size it) it.size 0) items
              (λ it has. cond-false (is_lifted n pending.size it) it.size 0
              (and_left (nat_le n.wall it.place) (nat_lt it.place (n.reach - pending.size))
              (lt-leb n.wall it.place (omega (arith, below it has))))),
          last,
        )
      where
        last : cond (is_lifted n pending.size pending) pending.size 0 ≡ 0
        last = elim (cases_lt 0 pending.size) [
          | inl some ↦ cond-false (is_lifted n pending.size pending) pending.size 0
              (and_right (nat_le n.wall pending.place) (nat_lt pending.place (n.reach - pending.size))
              (le-ltb pending.place (n.reach - pending.size)
              (omega (arith, stands_last (omega (arith, some))))))
          | inr none ↦ omega (arith, none, cond_at_most (is_lifted n pending.size pending) pending.size)
        ]

    unlifted_all : unlifted_bytes k caps n all ≡ in_buffers
    unlifted_all =
        omega (
          arith,
          total_is (is_unlifted k caps n) all,
          sums (is_unlifted k caps n),
          sum_by_same_in (λ it. cond (is_unlifted k caps n it) it.size 0)
              (λ it. cond (not (stands_in_payload k caps it)) it.size 0) items
              (λ it has. ap (λ low. cond (low && not (stands_in_payload k caps it)) it.size 0)
              (lt-ltb it.place n.wall (omega (arith, below it has)))),
          last,
        )
      where
        last : cond (is_unlifted k caps n pending) pending.size 0 ≡ 0
        last = elim (cases_lt 0 pending.size) [
          | inl some ↦ cond-false (is_unlifted k caps n pending) pending.size 0
              (and_left (is_below_wall n pending) (not (stands_in_payload k caps pending))
              (le-ltb pending.place n.wall (omega (arith, behind (omega (arith, some))))))
          | inr none ↦ omega (arith, none, cond_at_most (is_unlifted k caps n pending) pending.size)
        ]

    class_total_all : (c : ℕ) → class_total all c ≡ class_total (object_of pending.size ∷ items) c
    class_total_all c =
        let q : Item → Bool = λ it. it.class == c in
        let object = object_of pending.size in
        let e : weight q all ≡ weight q (object ∷ items) =
        omega (arith, sums q, sum_by-cons (λ it. cond (q it) it.size 0) object items, same) in
        total_is q all ∙ e ∙ sym (total_is q (object ∷ items))
      where
        same : cond (pending.class == c) pending.size 0 ≡ cond (class_of pending.size == c) pending.size 0
        same = elim (cases_lt 0 pending.size) [
          | inl some ↦ ap (λ x. cond (x == c) pending.size 0) (class (omega (arith, some)))
          | inr none ↦ omega (
            arith,
            none,
            cond_at_most (pending.class == c) pending.size,
            cond_at_most (class_of pending.size == c) pending.size,
          )
        ]

    laid_length_all : laid_length k all b width ≡ laid_length k (object_of pending.size ∷ items) b width
    laid_length_all = ap (λ (f : ℕ → ℕ). sum_by f (counting_from b (width - b)))
        (λ i d. class_total_all d i + buffer_of k (class_total_all d i))

    pub suits_all : b ≤ width → SuitsLayout k caps n all
    suits_all low = record { boundary = low; start = refl; end = omega (arith, laid_length_all) }

    abbrev stands : Item → Bool
    stands it = is_below_wall n it && stands_in_payload k caps it

    -- the slack pays for what stands in payload segments
    pub pays_all : PaysFor (phase_of k caps n pending.size all)
        (payload_bytes (phase_of k caps n pending.size all))
    pays_all = omega (arith, most, ap (λ bytes. bytes / k) same)
      where
        most : largest_of all 0 ≤ largest_of items pending.size
        most = largest-le 0 (largest_of items pending.size) all (omega arith) (λ it has. elim (only it has) [
          | inl old ↦ largest-of pending.size items it old
          | inr is ↦ omega (arith, ap (λ (x : Item). x.size) is.0, largest-from pending.size items)
        ])

        each : (it : Item) → Contains items it
            → cond (stands it) it.size 0 ≡ cond (stands_in_payload k caps it) it.size 0
        each it has = ap (λ low. cond (low && stands_in_payload k caps it) it.size 0)
            (lt-ltb it.place n.wall (omega (arith, below it has)))

        last : cond (stands pending) pending.size 0 ≡ 0
        last = elim (cases_lt 0 pending.size) [
          | inl some ↦ cond-false (stands pending) pending.size 0
              (and_left (is_below_wall n pending) (stands_in_payload k caps pending)
              (le-ltb pending.place n.wall (omega (arith, behind (omega (arith, some))))))
          | inr none ↦ omega (arith, none, cond_at_most (stands pending) pending.size)
        ]

        same : payload_bytes (phase_of k caps n pending.size all)
            ≡ total (filter (stands_in_payload k caps) items)
        same = omega (
          arith,
          total_is stands all,
          sums stands,
          last,
          sum_by_same_in (λ it. cond (stands it) it.size 0)
              (λ it. cond (stands_in_payload k caps it) it.size 0) items each,
          total_is (stands_in_payload k caps) items,
        )

    pub lifting_of_all : AreLifting k caps n pending.size all
    lifting_of_all =
        record {
          waits = λ it has low. elim (only it has) [
            | inl old ↦ item_ends k caps b items flush pending.size it old
            | inr is ↦ absurd (omega (arith, low, ap (λ (x : Item). x.place) is.0, behind is.1))
          ];
          lifted = λ it has past. elim (only it has) [
            | inl old ↦ absurd (omega (arith, past, below it old))
            | inr is ↦ inr (omega (arith, ap (λ (x : Item). x.place) is.0, stands_last is.1))
          ];
          reaches = omega (arith, lifted_none, unlifted_all, reach_is k caps b items flush pending.size);
          old_end = wall_over_old_end k caps b items flush pending.size;
          wall = omega (arith, wall_over_new_end k caps b items flush pending.size, laid_length_all);
          slack = λ it has. elim (only it has) [
            | inl old ↦ slack_over_sizes k caps b items flush pending.size it old
            | inr is ↦ omega (
              arith,
              slack_over_pending k caps b items flush pending.size,
              ap (λ (x : Item). x.size) is.0,
            )
          ];
        }

  -- an object is pending: it stands behind the room for what is lifted
  module _ (some : 1 ≤ pending.size) (class : pending.class ≡ class_of pending.size)
      (from : b ≤ pending.class) (place : pending.place ≡ n.wall + in_buffers)
      (other : (it : Item) → Contains items it → it.key ≢ pending.key) where
    abbrev all : List Item
    all = items ++ pending ∷ []

    contains_got : (i : ℕ) (it : Item) → slice_get items i ≡ Some it → Contains items it
    contains_got i it got = (i, slice_get_within items i it got, get_or_from_slice_get items i it it got)

    only : (it : Item) → Contains all it → Contains items it ⊎ ((it ≡ pending) × (1 ≤ pending.size))
    only it has = elim (push_got items pending has.0 it
        (slice_get-get_or all has.0 it has.1 ∙ ap Some has.2)) [
          | inl got ↦ inl (contains_got has.0 it got)
          | inr last ↦ inr (last.1, some)
        ]

    sums : (q : Item → Bool) → weight q all ≡ weight q items + cond (q pending) pending.size 0
    sums q = sum_by_push (λ it. cond (q it) it.size 0) items pending

    pub lift_begins : AreLifting k caps n pending.size all
    lift_begins = lifting_of_all all sums only (λ x. class) (λ x. place)

    pub suits_begin : b ≤ width → SuitsLayout k caps n all
    suits_begin low = suits_all all sums only (λ x. class) (λ x. place) low

    pub pays_begin : PaysFor (phase_of k caps n pending.size all)
        (payload_bytes (phase_of k caps n pending.size all))
    pays_begin = pays_all all sums only (λ x. class) (λ x. place)

    pub none_lifted : lifted_bytes n pending.size all ≡ 0
    none_lifted = lifted_none all sums only (λ x. class) (λ x. place)

    pub items_begin : AreItems n all
    items_begin =
        let old = items_of_flush k caps b items flush pending.size in
        let apart_last : (it : Item) → Contains items it
        → ItemsApart it pending = λ it has.
        record {
          keys = other it has;
          bytes =
              inl (omega (
                arith,
                item_ends k caps b items flush pending.size it has,
                wall_over_old_end k caps b items flush pending.size,
                place,
              ));
        } in
        record {
          apart = λ i j x y less at_x at_y. elim (push_got items pending i x at_x) [
            | inl got_x ↦ elim (push_got items pending j y at_y) [
              | inl got_y ↦ old.apart i j x y less got_x got_y
              | inr last ↦ subst (ItemsApart x) (sym last.1) (apart_last x (contains_got i x got_x))
            ]
            | inr last ↦ elim (push_got items pending j y at_y) [
              | inl got_y ↦ absurd (omega (arith, less, last.0, slice_get_within items j y got_y))
              | inr last_y ↦ absurd (omega (arith, less, last.0, last_y.0))
            ]
          ];
          some = λ it has. elim (only it has) [
            | inl h ↦ old.some it h
            | inr is ↦ omega
                (arith, some, ap (λ (x : Item). x.size) is.0)
          ];
          class = λ it has. elim (only it has) [
            | inl h ↦ old.class it h
            | inr is ↦ subst
                (λ (x : Item). x.class ≡ class_of x.size) (sym is.0) class
          ];
          from = λ it has. elim (only it has) [
            | inl h ↦ old.from it h
            | inr is ↦ omega
                (arith, from, ap (λ (x : Item). x.class) is.0)
          ];
          start = λ it has. elim (only it has) [
            | inl h ↦ old.start it h
            | inr is ↦ omega (
              arith,
              ap (λ (x : Item). x.place) is.0,
              place,
              wall_over_new_end k caps b items flush pending.size,
            )
          ];
        }

-- what each of a list has that is one longer
pub push_each : (P : Item → Type 0) (items : List Item) (y : Item) → P y
    → ((it : Item) → Contains items it → P it) → (it : Item) → Contains (items ++ y ∷ []) it → P it
push_each P items y last each it has =
    elim (push_got items y has.0 it (slice_get-get_or (items ++ y ∷ []) has.0 it has.1 ∙ ap Some has.2)) [
      | inl got ↦ each it (
        has.0,
        slice_get_within items has.0 it got,
        get_or_from_slice_get items has.0 it it got,
      )
      | inr h ↦ subst P (sym h.1) last
    ]

-- what holds where a flush begins
pub record HasBegun (k : ℕ) (caps : List ℕ) (n : Numbers) (pending : ℕ) (all : List Item) : Type 0 where
  pub items : AreItems n all
  pub layout : SuitsLayout k caps n all
  pub lifting : AreLifting k caps n pending all
  pub pays : PaysFor (phase_of k caps n pending all) (payload_bytes (phase_of k caps n pending all))
  pub classes : length caps ≡ width
  pub none : lifted_bytes n pending all ≡ 0

begun_alone : (k : ℕ) (caps : List ℕ) (b : ℕ) (items : List Item) → b ≤ width → CanFlush k caps b items
    → HasBegun k caps (numbers_of k caps b items 0) 0 items
begun_alone k caps b items low flush =
    let nothing = object_of 0 in
    let sums : (q : Item → Bool) → weight q items ≡ weight q items + cond (q nothing) 0 0 =
    λ q. omega (arith, cond_at_most (q nothing) 0) in
    let only : (it : Item) → Contains items it → Contains items it ⊎ ((it ≡ nothing) × (1 ≤ nothing.size)) =
    λ it has. inl has in
    let behind : 1 ≤ nothing.size → nothing.place ≡ (numbers_of k caps b items 0).wall
    + weight (λ it. not (stands_in_payload k caps it)) items = λ some. absurd (omega (arith, some)) in
    record {
      items = items_of_flush k caps b items flush 0;
      layout = suits_all k caps b items flush nothing items sums only (λ some. refl) behind low;
      lifting = lifting_of_all k caps b items flush nothing items sums only (λ some. refl) behind;
      pays = pays_all k caps b items flush nothing items sums only (λ some. refl) behind;
      classes = flush.classes;
      none = lifted_none k caps b items flush nothing items sums only (λ some. refl) behind;
    }

begun_with : (k : ℕ) (caps : List ℕ) (b : ℕ) (items : List Item) (pending : Item) → b ≤ width
    → CanFlush k caps b items → IsPending k caps (numbers_of k caps b items pending.size) items pending
    → HasBegun k caps (numbers_of k caps b items pending.size) pending.size (items ++ pending ∷ [])
begun_with k caps b items pending low flush h = record {
  items = items_begin k caps b items flush pending h.some h.class h.from h.place h.other;
  layout = suits_begin k caps b items flush pending h.some h.class h.from h.place h.other low;
  lifting = lift_begins k caps b items flush pending h.some h.class h.from h.place h.other;
  pays = pays_begin k caps b items flush pending h.some h.class h.from h.place h.other;
  classes = flush.classes;
  none = none_lifted k caps b items flush pending h.some h.class h.from h.place h.other;
}

pub begun : (k : ℕ) (caps : List ℕ) (n : Numbers) (items : List Item) (pending : Option Item)
    → n.boundary ≤ width → Begins k caps n items pending
    → HasBegun k caps n (pending_size pending) (with_pending items pending)
begun k caps n items None low h = subst (λ (x : Numbers). HasBegun k caps x 0 items) (sym h.1)
    (begun_alone k caps n.boundary items low h.0)
begun k caps n items (Some pending) low h =
    subst (λ (x : Numbers). HasBegun k caps x pending.size (items ++ pending ∷ [])) (sym h.1)
    (begun_with k caps n.boundary items pending low h.0
    (subst (λ (x : Numbers). IsPending k caps x items pending) h.1 h.2))

-- the items are of classes that the layout has, and the places are numbers of 64 bits
pub begun_below : (C k : ℕ) (caps : List ℕ) (n : Numbers) (items : List Item) (pending : Option Item)
    → IsRow C caps → IfSome pending (λ it. it.class < C) → Begins k caps n items pending
    → AreBelow C (with_pending items pending)
begun_below C k caps n items None row class h = flush_below k caps n.boundary items h.0 C row
begun_below C k caps n items (Some pending) row class h =
    push_each (λ (x : Item). x.class < C) items pending class (flush_below k caps n.boundary items h.0 C row)

pub begun_small : (k : ℕ) (caps : List ℕ) (n : Numbers) (items : List Item) (pending : Option Item)
    → end_of k caps ≤ 2 ^ 54 → Begins k caps n items pending → AreSmall n (with_pending items pending)
begun_small k caps n items None high h =
    subst (λ (x : Numbers). AreSmall x items) (sym h.1)
    (small_of_flush k caps n.boundary items h.0 high 0 (omega arith))
begun_small k caps n items (Some pending) high h =
    let m = numbers_of k caps n.boundary items pending.size in
    let small : AreSmall m items = small_of_flush k caps n.boundary items h.0 high pending.size h.2.high in
    let place : pending.place < 2 ^ 64 =
    omega (
      arith,
      h.2.place,
      ap (λ (x : Numbers). x.wall) h.1,
      small.0,
      reach_is k caps n.boundary items h.0 pending.size,
    ) in
    subst (λ (x : Numbers). AreSmall x (items ++ pending ∷ [])) (sym h.1)
    (small.0, push_each (λ (x : Item). x.place < 2 ^ 64) items pending place small.1)
