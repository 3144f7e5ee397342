-- The book of a flush: that of its moving table, of its settled one, and the next book of the change.
use Rattle.std.specs.Prelude.{◌≡◌, ℕ, ◌+◌, ◌<◌, ◌≤◌, nat_lt, Bool, true, false, not, ◌&&◌, List, length, map, take, drop, filter, Option, Some, None, refl}
use Rattle.std.proofs.Common.{arith, sym, ◌∙◌, ap, inl, inr}
use Rattle.std.proofs.lemmas.Bool.{cases_Bool, ltb-true}
use Rattle.std.proofs.lemmas.List.{length-take-le, take-append-le, take-take}
use Rattle.std.specs.FinMap as fin
use Rattle.std.specs.FinSet as set
use Rattle.size_class.specs.Classes.{width, class_of, zero_row}
use Rattle.slot_codec.specs.declared.codec.Record.{Record}
use Rattle.map_model.specs.Maps.{Map}
use Rattle.map_model.proofs.MapLaws.{name_order, names_differ}
use Rattle.segment_layout.specs.Shapes.{end_of, settled_caps, settled_grid, start_of}
use Rattle.segment_layout.proofs.ShapeLaws.{caps-settled_below}
use Rattle.segment_layout.specs.Books.{below_class, is_below_class, volumes, volumes_of_sizes}
use Rattle.segment_layout.proofs.BookLaws.{contains-below_class}
use Rattle.segment_layout.specs.Books.{Names}
use Rattle.table_rules.specs.Suffixes.{suffix_at}
use Rattle.table_rules.specs.Tables.{TableInLayout, book_of, lies_in_payload, lies_within, sizes, is_buffered}
use Rattle.extent_table.specs.declared.spot.Spot.{Spot}
use Rattle.extent_table.specs.Extents.{Spots, record_of, records_of}
use Rattle.placement_model.proofs.BookLaws.{settled_caps-again, settled_grid-again}
use Rattle.placement_model.proofs.BufferedLaws.{contains-chosen}
use Rattle.placement_model.specs.Buffered.{chosen_names, passes, HasSizes, AreBuffered}
use Rattle.placement_model.specs.Reads.{AreNamed}

-- below b laying out anew leaves the payload segments
payload_stays : (b : ℕ) (t : TableInLayout) → length t.header.caps ≡ width → b ≤ width → (c : ℕ) (r : Record)
    → c < b → lies_in_payload (suffix_at b t) c r ≡ lies_in_payload t c r
payload_stays b t full fits c r low =
    let front : take c (settled_caps b t.header.caps zero_row)
    ≡ take c t.header.caps = take-append-le c (take b t.header.caps) (drop b zero_row)
    (omega (arith, length-take-le b t.header.caps (omega (arith, full, fits)), low))
    ∙ take-take c b t.header.caps (omega (arith, low)) in
    let start : start_of t.k (settled_caps b t.header.caps zero_row) c
    ≡ start_of t.k t.header.caps c = ap (end_of t.k) front in
    λ i. lies_within (start i) (start i + caps-settled_below b c t.header.caps zero_row full fits low i) r

-- the names that a moving table has in buffers are those of before that are of a class below the boundary
pub suffix_buffered : (b : ℕ) (t : TableInLayout) (spots : Spots) (m : Map) (names : Names)
    → length t.header.caps ≡ width → b ≤ width → AreNamed spots → HasSizes m spots
    → AreBuffered b t spots names → chosen_names (is_buffered (suffix_at b t)) spots ≡ below_class b m names
suffix_buffered b t spots m names full fits named has are =
    set.same_set name_order names_differ (chosen_names (is_buffered (suffix_at b t)) spots)
    (below_class b m names) (λ q. contains-chosen (is_buffered (suffix_at b t)) spots named q
    ∙ sym (each q (fin.get spots q) refl))
  where
    test : (q : List ℕ) (s : Spot) → fin.get spots q ≡ Some s
        → (set.contains names q && nat_lt (class_of s.size) b)
        ≡ is_buffered (suffix_at b t) (record_of (q, s))
    test q s is =
        let c = class_of s.size in
        let r = record_of (q, s) in
        elim (cases_Bool (nat_lt c b)) [
          | inr high ↦ ap (λ k. set.contains names q && k) high
              ∙ shuffled (set.contains names q) (nat_lt 0 s.size) (not (lies_in_payload (suffix_at b t) c r))
              ∙ sym (ap (λ k. (nat_lt 0 s.size && k) && not (lies_in_payload (suffix_at b t) c r)) high)
          | inl low ↦
              ap (λ k. k && nat_lt c b) (are.same q s is (ltb-true c b low))
              ∙ turned (nat_lt 0 s.size) (not (lies_in_payload t c r)) (nat_lt c b)
              ∙ (λ i. (nat_lt 0 s.size && nat_lt c b)
              && not (sym (payload_stays b t full fits c r (ltb-true c b low)) i))
        ]
      where
        shuffled : (x y z : Bool) → (x && false) ≡ ((y && false) && z)
        shuffled true true z = refl
        shuffled true false z = refl
        shuffled false true z = refl
        shuffled false false z = refl

        turned : (x y z : Bool) → ((x && y) && z) ≡ ((x && z) && y)
        turned false y z = refl
        turned true true true = refl
        turned true true false = refl
        turned true false true = refl
        turned true false false = refl

    each : (q : List ℕ) (o : Option Spot) → fin.get spots q ≡ o
        → set.contains (below_class b m names) q ≡ passes (is_buffered (suffix_at b t)) q o
    each q None is =
        set.contains-retain names (λ name. is_below_class b (fin.get m name)) q
        (λ x tie. ap (λ name. is_below_class b (fin.get m name)) (sym (names_differ q x tie)))
        ∙ ap (λ k. k && is_below_class b (fin.get m q)) (are.gone q is)
    each q (Some s) is =
        let v = has q s is in
        contains-below_class b m names q v.0 v.1
        ∙ ap (λ n. set.contains names q && nat_lt (class_of n) b) v.2
        ∙ test q s is

-- The book of a moving table is that of the layout once the classes from b on are laid out anew.
pub suffix_book : (b : ℕ) (t : TableInLayout) (spots : Spots) (m : Map) (names : Names)
    → length t.header.caps ≡ width → length t.header.used ≡ width → b ≤ width → AreNamed spots
    → t.records ≡ records_of spots → HasSizes m spots → AreBuffered b t spots names
    → volumes m ≡ volumes_of_sizes (sizes t.records)
    → book_of (suffix_at b t) ≡ record {
      caps = settled_caps b t.header.caps (volumes m);
      grid = settled_grid b t.header.used;
      buffered = below_class b m names;
      digests = None;
    }
suffix_book b t spots m names full long fits named records has are vols =
    let caps : settled_caps b (settled_caps b t.header.caps zero_row) (volumes_of_sizes (sizes t.records))
    ≡ settled_caps b t.header.caps (volumes m) =
    settled_caps-again b t.header.caps zero_row (volumes_of_sizes (sizes t.records))
    (omega (arith, fits, full)) ∙ ap (settled_caps b t.header.caps) (sym vols) in
    let grid = settled_grid-again b t.header.used (omega (arith, fits, long)) in
    let buffered : set.from_list (map (λ (r : Record). r.name)
    (filter (is_buffered (suffix_at b t)) t.records))
    ≡ below_class b m names = ap (λ rs.
    set.from_list (map (λ (r : Record). r.name) (filter (is_buffered (suffix_at b t)) rs))) records
    ∙ suffix_buffered b t spots m names full fits named has are in
    λ i. record { caps = caps i; grid = grid i; buffered = buffered i; digests = None }
