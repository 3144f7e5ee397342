-- Objects that are put one behind another stand apart.
use Rattle.std.specs.Prelude.{◌≡◌, ℕ, ◌+◌, ◌<◌, ◌≤◌, nat_lt, true, List, [], ◌∷◌, ◌++◌, length, map, slice_index, sum_by, Option, Some, None, refl}
use Rattle.std.proofs.Common.{arith, sym, ap, ◌∙◌, subst, inl, inr}
use Rattle.std.proofs.lemmas.Bool.{cases_eq, cases_lt, cond-true, lt-ltb}
use Rattle.std.proofs.lemmas.List.{length-map, map-append}
use Rattle.std.proofs.lemmas.List.Sums.{sum_by_push}
use Rattle.std.specs.Ordering.{is_lt, ordering_reverse}
use Rattle.std.specs.FinMap as fin
use Rattle.std.specs.declared.cmp.Ordering.TheVariants.{Less}
use Rattle.size_class.specs.Classes.{class_of, width}
use Rattle.size_class.proofs.ClassLaws.{class_below}
use Rattle.slot_codec.specs.Names.{name_cmp}
use Rattle.slot_codec.specs.declared.codec.Record.{Record}
use Rattle.map_model.proofs.MapLaws.{name_order, same_name-itself}
use Rattle.map_model.specs.Weights.{Entry, same_name}
use Rattle.segment_layout.specs.Shapes.{start_of}
use Rattle.segment_layout.proofs.BalanceLaws.{bytes_in, bytes_in-same}
use Rattle.segment_layout.proofs.BookLaws.{volumes_of_sizes-index}
use Rattle.table_rules.specs.Tables.{Apart}
use Rattle.extent_table.specs.declared.spot.Spot.{Spot}
use Rattle.extent_table.specs.Extents.{Spots, record_of, records_of}
use Rattle.extent_table.proofs.ExtentLaws.{records_of-all}
use Rattle.placement_model.proofs.EnterLaws.{inserted, turn}
use Rattle.map_model.proofs.MapLaws.{entries-empty}
use Rattle.placement_model.proofs.OrderLaws.{behind_all, entries-push}
use Rattle.placement_model.proofs.ReadLaws.{AreNamed-insert}
use Rattle.segment_layout.proofs.ShapeLaws.{start_of-rises}
use Rattle.placement_model.specs.Orders.{IsUpTo}
use Rattle.dump_stream.specs.Loading.{MayFollow, filled_by, last_name}
use Rattle.dump_stream.specs.Placing.{IsPlacing, spot_after}

-- ---- what is filled

pub filled_more : (es : List Entry) (e : Entry) (c : ℕ) → slice_index (filled_by (es ++ e ∷ [])) c
    ≡ slice_index (filled_by es) c + bytes_in c (length e.1)
filled_more es e c = omega (
  arith,
  volumes_of_sizes-index (map (λ (x : Entry). length x.1) (es ++ e ∷ [])) c,
  volumes_of_sizes-index (map (λ (x : Entry). length x.1) es) c,
  ap (λ xs. sum_by (λ size. bytes_in c size) xs) (map-append (λ (x : Entry). length x.1) es (e ∷ [])),
  sum_by_push (λ size. bytes_in c size) (map (λ (x : Entry). length x.1) es) (length e.1),
)

-- the last of some objects and one more is that one
pub last_more : (es : List Entry) (e : Entry) → last_name (es ++ e ∷ []) ≡ Some e.0
last_more [] e = refl
last_more (x ∷ es) e = rw (last_more es e) refl

module _ (size_max k : ℕ) (volumes : List ℕ) (wide : length volumes ≡ width) where
  -- nothing is put yet
  pub places_none : IsPlacing size_max k volumes [] fin.empty
  places_none = record {
    named = λ name some. absurd (let e = fin.get-empty {X = Spot} name_cmp name in cc);
    upto = λ name s is. let none : None ≡ Some s = sym (fin.get-empty name_cmp name) ∙ is in absurd cc;
    sizes = ap (map (λ (e : List ℕ × Spot). e.1.size)) entries-empty;
    small = λ name s is. let none : None ≡ Some s = sym (fin.get-empty name_cmp name) ∙ is in absurd cc;
    empty = λ name s is. let none : None ≡ Some s = sym (fin.get-empty name_cmp name) ∙ is in absurd cc;
    within = λ name s is. let none : None ≡ Some s = sym (fin.get-empty name_cmp name) ∙ is in absurd cc;
    apart = λ a b s t is. let none : None ≡ Some s = sym (fin.get-empty name_cmp a) ∙ is in absurd cc;
    room = λ c. omega (arith, volumes_of_sizes-index [] c);
  }

  -- there are as many records as objects
  pub placed_count : (es : List Entry) (spots : Spots) → IsPlacing size_max k volumes es spots
      → length (records_of spots) ≡ length es
  placed_count es spots h =
      ap length (records_of-all spots h.named)
      ∙ length-map (fin.entries spots) record_of
      ∙ sym (length-map (fin.entries spots) (λ (e : List ℕ × Spot). e.1.size))
      ∙ ap length h.sizes
      ∙ length-map es (λ (e : Entry). length e.1)

  -- one object more
  module _ (es : List Entry) (spots : Spots) (h : IsPlacing size_max k volumes es spots) (e : Entry)
      (may : MayFollow size_max volumes es e) where
    abbrev size : ℕ
    size = length e.1

    abbrev spot : Spot
    spot = spot_after k volumes es size

    abbrev after : Spots
    after = fin.insert spots e.0 spot

    abbrev class : ℕ
    class = class_of size

    -- where it goes
    pub place_none : size ≡ 0 → spot.place ≡ 0
    place_none none = ap (λ n. (spot_after k volumes es n).place) none

    place_some : 0 < size → spot.place ≡ start_of k volumes class + slice_index (filled_by es) class
    place_some some = cond-true (nat_lt 0 size)
        (start_of k volumes class + slice_index (filled_by es) class) 0 (lt-ltb 0 size some)

    filled_rises : (c : ℕ) → slice_index (filled_by es) c ≤ slice_index (filled_by (es ++ e ∷ [])) c
    filled_rises c = omega (arith, filled_more es e c)

    filled_here : 0 < size → slice_index (filled_by (es ++ e ∷ [])) class
        ≡ slice_index (filled_by es) class + size
    filled_here some = omega (arith, filled_more es e class, bytes_in-same size some)

    -- it ends within its volume
    pub ends : 0 < size → spot.place + size ≤ start_of k volumes class + slice_index volumes class
    ends some = omega (arith, place_some some, filled_here some, may.room class)

    below : (q : List ℕ) (s : Spot) → fin.get spots q ≡ Some s → name_cmp q e.0 ≡ Less
    below = behind_all (last_name es) spots e.0 h.upto may.rises

    pub pushed : fin.entries after ≡ fin.entries spots ++ (e.0, spot) ∷ []
    pushed = entries-push spots e.0 spot
        (λ q s there. name_order.antisymm e.0 q ∙ ap ordering_reverse (below q s there))

    -- its record is the last
    pub records_more : records_of after ≡ records_of spots ++ record_of (e.0, spot) ∷ []
    records_more =
        records_of-all after (AreNamed-insert spots e.0 spot h.named may.named)
        ∙ ap (map record_of) pushed
        ∙ map-append record_of (fin.entries spots) ((e.0, spot) ∷ [])
        ∙ ap (λ (rs : List Record). rs ++ record_of (e.0, spot) ∷ []) (sym (records_of-all spots h.named))

    -- a segment lies before a later one
    before_segment : (c d : ℕ) → c < d → d < width
        → start_of k volumes c + slice_index volumes c ≤ start_of k volumes d
    before_segment c d low high = omega (arith, start_of-rises k volumes c d low (omega (arith, high, wide)))

    -- it shares no byte with those that stand
    pub apart_new : (q : List ℕ) (x : Spot) → fin.get spots q ≡ Some x
        → Apart (record_of (e.0, spot)) (record_of (q, x))
    apart_new q x there = elim (cases_lt 0 size) [
      | inr none ↦ inl (omega (arith, none))
      | inl some ↦ elim (cases_lt 0 x.size) [
        | inr nothing ↦ inr (inl (omega (arith, nothing)))
        | inl full ↦
            let d = class_of x.size in
            let w = h.within q x there full in
            elim (cases_eq d class) [
              | inl same ↦ inr (inr (inr (omega (
                arith,
                w.1,
                place_some some,
                ap (λ c. start_of k volumes c + slice_index (filled_by es) c) same,
              ))))
              | inr other ↦ elim (cases_lt d class) [
                | inl low ↦ inr (inr (inr (omega (
                  arith,
                  w.1,
                  h.room d,
                  before_segment d class low (class_below size),
                  place_some some,
                ))))
                | inr rest ↦ elim (cases_lt class d) [
                  | inl high ↦ inr (inr (inl (omega (
                    arith,
                    ends some,
                    before_segment class d high (class_below x.size),
                    w.0,
                  ))))
                  | inr back ↦ absurd (other (omega (arith, rest, back)))
                ]
              ]
            ]
      ]
    ]

    pub places_more : IsPlacing size_max k volumes (es ++ e ∷ []) after
    places_more = record {
      named = AreNamed-insert spots e.0 spot h.named may.named;
      upto = subst (λ (o : Option (List ℕ)). IsUpTo o after) (sym (last_more es e)) (λ q s there.
          elim (inserted spots e.0 q spot s there) [
            | inl here ↦ inl here.0
            | inr old ↦ inr (ap is_lt (below q s old.1))
          ]);
      sizes = ap (map (λ (x : List ℕ × Spot). x.1.size)) pushed
          ∙ map-append (λ (x : List ℕ × Spot). x.1.size) (fin.entries spots) ((e.0, spot) ∷ [])
          ∙ ap (λ xs. xs ++ size ∷ []) h.sizes
          ∙ sym (map-append (λ (x : Entry). length x.1) es (e ∷ []));
      small = λ q s there. elim (inserted spots e.0 q spot s there) [
        | inl here ↦ omega (arith, may.small, ap (λ (x : Spot). x.size) here.1)
        | inr old ↦ h.small q s old.1
      ];
      empty = λ q s there none. elim (inserted spots e.0 q spot s there) [
        | inl here ↦ omega (
          arith,
          ap (λ (x : Spot). x.place) here.1,
          place_none (omega (arith, none, ap (λ (x : Spot). x.size) here.1)),
        )
        | inr old ↦ h.empty q s old.1 none
      ];
      within = λ q s there some. elim (inserted spots e.0 q spot s there) [
        | inl here ↦ subst (λ (x : Spot). (start_of k volumes (class_of x.size) ≤ x.place)
            × (x.place + x.size ≤ start_of k volumes (class_of x.size)
            + slice_index (filled_by (es ++ e ∷ [])) (class_of x.size))) (sym here.1)
            (let full : 0 < size = omega (arith, some, ap (λ (x : Spot). x.size) here.1) in (
              omega (arith, place_some full),
              omega (arith, place_some full, filled_here full),
            ))
        | inr old ↦
            let w = h.within q s old.1 some in
            (w.0, omega (arith, w.1, filled_rises (class_of s.size)))
      ];
      apart = λ a b s t is also differ. elim (inserted spots e.0 a spot s is) [
        | inl here ↦ elim (inserted spots e.0 b spot t also) [
          | inl too ↦ absurd (let tied : same_name a b ≡ true = same_two a b e.0 here.0 too.0 in cc)
          | inr old ↦ subst (λ (x : Spot). Apart (record_of (a, x)) (record_of (b, t))) (sym here.1)
              (apart_new b t old.1)
        ]
        | inr old ↦ elim (inserted spots e.0 b spot t also) [
          | inl here ↦ subst (λ (x : Spot). Apart (record_of (a, s)) (record_of (b, x))) (sym here.1)
              (turn (record_of (e.0, spot)) (record_of (a, s)) (apart_new a s old.1))
          | inr older ↦ h.apart a b s t old.1 older.1 differ
        ]
      ];
      room = may.room;
    }
      where
        same_two : (a b name : List ℕ) → a ≡ name → b ≡ name → same_name a b ≡ true
        same_two a b name one two = ap (λ x. same_name x b) (one ∙ sym two) ∙ same_name-itself b
