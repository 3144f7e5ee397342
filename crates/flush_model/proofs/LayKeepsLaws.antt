-- A move of Lay keeps what a flush can be resumed from and what Lay keeps.
use Rattle.std.specs.Prelude.{◌≡◌, ◌≢◌, ◌⊎◌, ℕ, ◌+◌, ◌<◌, ◌≤◌, ◌==◌, nat_lt, ◌&&◌, List, Contains, sum_by, refl}
use Rattle.std.proofs.Common.{arith, sym, ◌∙◌, ap, subst, inl, inr}
use Rattle.std.proofs.lemmas.Bool.{cases_lt, cases_eq, lt-ltb, le-ltb, ne_eqb, and_left}
use Rattle.size_class.specs.Classes.{width}
use Rattle.flush_model.specs.declared.item.Item.{Item}
use Rattle.flush_model.specs.declared.item.Move.{Move}
use Rattle.flush_model.specs.declared.item.Numbers.{Numbers}
use Rattle.flush_model.specs.Plans.{final_place, IsBefore, IsLaid, IsNextLay, IsPacked, IsSafe, ItemsCanResume, mover, relocated, HasRoom}
use Rattle.flush_model.specs.Phases.{AreItems, AreLaying}
use Rattle.flush_model.proofs.ItemLaws.{after_is, items_after, target, weight_moves}
use Rattle.flush_model.proofs.PackLaws.{is_over, laid_length_after, over, over_before, over_past, sizes_over_is}
use Rattle.flush_model.proofs.FinalLaws.{earlier, earlier_counts, earlier_later, earlier_other, earlier_sum_is, final_rises, is_earlier, order_total}
use Rattle.flush_model.proofs.LayLaws.{AreOrdered, laid_gap, packed_far}
use Rattle.flush_model.proofs.LayLaws as laws

module _ (k : ℕ) (n : Numbers) (items : List Item) (are : AreItems n items) (can : ItemsCanResume k n items)
    (laying : AreLaying k n items) (mv : Move) (next : IsNextLay k n items mv) where
  abbrev m : Item
  m = mover mv

  some_slack : 1 ≤ n.slack
  some_slack = laws.some_slack k n items are can laying mv next

  unlaid : IsLaid k n items m → ⊥
  unlaid = laws.unlaid k n items are can laying mv next

  unlaid_behind : (u : Item) → Contains items u → (IsLaid k n items u → ⊥) → (u ≡ m) ⊎ IsBefore m u
  unlaid_behind = laws.unlaid_behind k n items are can laying mv next

  lay_down : mv.to + n.slack ≤ mv.from
  lay_down = laws.lay_down k n items are can laying mv next

  lay_fits : mv.to + mv.size + n.slack ≤ n.wall
  lay_fits = laws.lay_fits k n items are can laying mv next

  lay_far_each : (u : Item) → Contains items u → u.place < n.wall → (IsLaid k n items u → ⊥)
      → mv.to + n.slack ≤ u.place
  lay_far_each = laws.lay_far_each k n items are can laying mv next

  lay_safe : n.wall ≤ n.reach → IsSafe n items mv
  lay_safe = laws.lay_safe k n items are can laying mv next

  abbrev after : List Item
  after = relocated mv.key mv.to items

  abbrev t : Item
  t = target mv

  lands_below : mv.to < n.wall
  lands_below = omega (arith, lay_fits, are.some m next.item)

  -- another item before the mover is laid, and ends before the target
  pub front_ends : (it : Item) → Contains items it → IsBefore it m → it.place + it.size ≤ mv.to
  front_ends it has before = omega (
    arith,
    next.laid it has before,
    next.target,
    final_rises k n items are it m has next.item before,
  )

  -- another item comes before the mover and lies before the target, or comes behind the mover
  sides_of : (it : Item) → Contains items it → it.key ≢ mv.key
      → (IsBefore it m × (it.place + it.size ≤ mv.to)) ⊎ IsBefore m it
  sides_of it has other = elim (order_total k n items are m it next.item has) [
    | inl e ↦ absurd (other (ap (λ (x : Item). x.key) (sym e)))
    | inr (inl before) ↦ inr before
    | inr (inr behind) ↦ inl (behind, front_ends it has behind)
  ]

  -- the bytes before a place in a class are the same where the mover's two places are both before it, or both
  -- not
  earlier_after : (c p : ℕ) → earlier c p m ≡ earlier c p t
      → sum_by (earlier c p) after ≡ sum_by (earlier c p) items
  earlier_after c p same = omega (
    arith,
    same,
    weight_moves n items are mv next.item (is_earlier c p) (is_earlier c p) (λ it there other. refl),
  )

  pub final_other : (it : Item) → Contains items it → it.key ≢ mv.key
      → final_place k n after it.class it.place ≡ final_place k n items it.class it.place
  final_other it has other =
      omega (
        arith,
        laid_length_after n items are mv next.item k n.boundary it.class,
        earlier_sum_is after it.class it.place,
        earlier_sum_is items it.class it.place,
        earlier_after it.class it.place same,
      )
    where
      same : earlier it.class it.place m ≡ earlier it.class it.place t
      same = elim (cases_eq mv.class it.class) [
        | inr differ ↦ earlier_other it.class it.place m differ
            ∙ sym (earlier_other it.class it.place t differ)
        | inl class ↦ elim (sides_of it has other) [
          | inl front ↦ earlier_later it.class it.place m (omega (arith, front.1, lay_down))
              ∙ sym (earlier_later it.class it.place t (omega (arith, front.1)))
          | inr (inl less) ↦ absurd (omega (arith, less, class))
          | inr (inr behind) ↦ earlier_counts it.class it.place m class behind.1
              ∙ sym (earlier_counts it.class it.place t class (omega (arith, behind.1, lay_down)))
        ]
      ]

  pub target_laid : IsLaid k n after t
  target_laid =
      omega (
        arith,
        next.target,
        laid_length_after n items are mv next.item k n.boundary mv.class,
        earlier_sum_is after mv.class mv.to,
        earlier_sum_is items mv.class mv.from,
        weight_moves n items are mv next.item (is_earlier mv.class mv.from) (is_earlier mv.class mv.to) each,
        earlier_later mv.class mv.from m (omega arith),
        earlier_later mv.class mv.to t (omega arith),
      )
    where
      each : (it : Item) → Contains items it → it.key ≢ mv.key
          → is_earlier mv.class mv.from it ≡ is_earlier mv.class mv.to it
      each it has other = elim (cases_eq it.class mv.class) [
        | inr differ ↦ and_left (it.class == mv.class) (nat_lt it.place mv.from)
            (ne_eqb it.class mv.class differ) ∙ sym
            (and_left (it.class == mv.class) (nat_lt it.place mv.to) (ne_eqb it.class mv.class differ))
        | inl class ↦ ap (λ b. (it.class == mv.class) && b) (elim (sides_of it has other) [
          | inl front ↦ lt-ltb it.place mv.from (omega (arith, front.1, lay_down, are.some it has))
              ∙ sym (lt-ltb it.place mv.to (omega (arith, front.1, are.some it has)))
          | inr (inl less) ↦ absurd (omega (arith, less, class))
          | inr (inr behind) ↦ le-ltb it.place mv.from (omega (arith, behind.1))
              ∙ sym (le-ltb it.place mv.to (omega (arith, behind.1, lay_down)))
        ])
      ]

  pub laid_other : (it : Item) → Contains items it → it.key ≢ mv.key → IsLaid k n items it
      → IsLaid k n after it
  laid_other it has other laid = laid ∙ sym (final_other it has other)

  laid_before : (it : Item) → Contains items it → it.key ≢ mv.key → IsLaid k n after it → IsLaid k n items it
  laid_before it has other laid = laid ∙ final_other it has other

  -- what isn't laid stays packed
  packed_other : (it : Item) → Contains items it → it.key ≢ mv.key → it.place < n.wall → IsPacked n items it
      → IsPacked n after it
  packed_other it has other low packed =
      let not_laid : IsLaid k n items it
      → ⊥ = λ laid. omega (
        arith,
        laid,
        packed_far k n items are can.wall can.order it has low packed,
        some_slack,
      ) in
      let far : mv.to + n.slack ≤ it.place = lay_far_each it has low not_laid in
      let source : over n it.place m ≡ 0 = elim (cases_lt mv.from n.wall) [
        | inr past ↦ over_past n it.place m past
        | inl below ↦ elim (cases_lt it.place mv.from) [
          | inr before ↦ over_before n it.place m before
          | inl less ↦ absurd (elim (unlaid_behind it has not_laid) [
            | inl e ↦ other (ap (λ (x : Item). x.key) e)
            | inr (inl more) ↦ omega (arith, more, can.order m it next.item has below less)
            | inr (inr same) ↦ omega (arith, same.1, less)
          ])
        ]
      ] in
      omega (
        arith,
        packed,
        source,
        over_before n it.place t (omega (arith, far)),
        sizes_over_is n after it.place,
        sizes_over_is n items it.place,
        weight_moves n items are mv next.item (is_over n it.place) (is_over n it.place)
            (λ x there differs. refl),
      )

  pub lay_items : n.wall ≤ n.reach → AreItems n after
  lay_items reaches = items_after n items are mv next.item (lay_safe reaches)

  -- what Lay keeps
  pub lay_keeps : AreLaying k n after
  lay_keeps =
      record {
        packed = λ it there low. elim (after_is n items are mv next.item it there) [
          | inl e ↦ inl (subst (IsLaid k n after) (sym e) target_laid)
          | inr old ↦ elim (laying.packed it old.0 low) [
            | inl laid ↦ inl (laid_other it old.0 old.1 laid)
            | inr packed ↦ inr (packed_other it old.0 old.1 low packed)
          ]
        ];
        front = λ a b has_a has_b before laid. elim (after_is n items are mv next.item a has_a) [
          | inl e ↦ subst (IsLaid k n after) (sym e) target_laid
          | inr old_a ↦ elim (after_is n items are mv next.item b has_b) [
            | inl e ↦ laid_other a old_a.0 old_a.1
                (next.laid a old_a.0 (source_behind a (subst (IsBefore a) e before)))
            | inr old_b ↦ laid_other a old_a.0 old_a.1
                (laying.front a b old_a.0 old_b.0 before (laid_before b old_b.0 old_b.1 laid))
          ]
        ];
      }
    where
      source_behind : (a : Item) → IsBefore a t → IsBefore a m
      source_behind a before = elim before [
        | inl less ↦ inl less
        | inr same ↦ inr
            (same.0, omega (arith, same.1, lay_down))
      ]

  order_after : AreOrdered n after
  order_after it other there there_other low before =
      elim (after_is n items are mv next.item it there) [
        | inl e ↦ elim (after_is n items are mv next.item other there_other) [
          | inl e2 ↦ absurd (omega (
            arith,
            before,
            ap (λ (x : Item). x.place) e,
            ap (λ (x : Item). x.place) e2,
          ))
          | inr old ↦ elim (sides_of other old.0 old.1) [
            | inl front ↦ elim front.0 [
              | inl less ↦ omega (arith, less, ap (λ (x : Item). x.class) e)
              | inr
                  same ↦ omega (arith, same.0, ap (λ (x : Item). x.class) e)
            ]
            | inr behind ↦
                let less : other.place < mv.to = omega (arith, before, ap (λ (x : Item). x.place) e) in
                absurd (omega (
                  arith,
                  less,
                  lay_far_each other old.0 (omega (arith, less, lands_below))
                      (λ laid. unlaid (laying.front m other next.item old.0 behind laid)),
                ))
          ]
        ]
        | inr old ↦ elim (after_is n items are mv next.item other there_other) [
          | inl e2 ↦ elim (sides_of it old.0 old.1) [
            | inl front ↦ absurd (omega (arith, front.1, before, ap (λ (x : Item). x.place) e2))
            | inr (inl less) ↦ omega (arith, less, ap (λ (x : Item). x.class) e2)
            | inr (inr same) ↦ omega (arith, same.0, ap (λ (x : Item). x.class) e2)
          ]
          | inr old2 ↦ can.order it other old.0 old2.0 low before
        ]
      ]

  -- what a flush can be resumed from, after the move
  pub lay_resumes : n.wall ≤ n.reach → ItemsCanResume k n after
  lay_resumes reaches =
      let room : HasRoom k n after = omega
      (arith, can.wall, laid_length_after n items are mv next.item k n.boundary width) in
      record {
        wall = room;
        slack = λ it there. elim (after_is n items are mv next.item it there) [
          | inl e ↦ subst (λ (x : Item). x.size ≤ n.slack) (sym e) (can.slack m next.item)
          | inr old ↦ can.slack it old.0
        ];
        side = λ it there. elim (after_is n items are mv next.item it there) [
          | inl e ↦ subst (λ (x : Item). (n.wall ≤ x.place)
              ⊎ ((n.start ≤ x.place) × (x.place + x.size ≤ n.wall))) (sym e)
              (inr (omega (arith, next.target), omega (arith, lay_fits)))
          | inr old ↦ can.side it old.0
        ];
        order = order_after;
        gap = λ it there low. elim (lay_keeps.packed it there low) [
          | inl laid ↦ inr (laid_gap k n after (lay_items reaches) room order_after it there low laid)
          | inr packed ↦ inl packed
        ];
      }
