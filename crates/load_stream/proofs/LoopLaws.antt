-- One object more behind those that were loaded.
use Rattle.std.specs.Prelude.{◌≡◌, ◌⊎◌, ℕ, ◌+◌, ◌<◌, ◌≤◌, zero, suc, true, List, [], ◌∷◌, ◌++◌, length, map, slice_get, slice_index, sum, Bool, Option, Some, None, IsTrue, refl}
use Rattle.std.proofs.Common.{arith, ap, sym, ◌∙◌, subst, inl, inr, append-nil, append_assoc, length-append}
use Rattle.std.proofs.lemmas.Bool.{cases_eq, cases_lt}
use Rattle.std.proofs.lemmas.Grind.{flat_map-append}
use Rattle.std.proofs.lemmas.List.{length-map, map-append}
use Rattle.std.proofs.lemmas.List.Sums.{sum_by-append}
use Rattle.std.specs.FinMap as fin
use Rattle.byte_ranges.specs.Ranges.{overwritten}
use Rattle.disk_face.specs.Counts.{counted}
use Rattle.disk_face.specs.Frames.{Asks}
use Rattle.disk_face.specs.States.{State}
use Rattle.disk_face.proofs.FrameLaws.{asks_nothing, asks_then}
use Rattle.size_class.specs.Classes.{class_of, width, zero_row}
use Rattle.size_class.specs.Rows.{cells_of}
use Rattle.size_class.specs.declared.TheConstants.{SIZE_MAX}
use Rattle.slot_codec.specs.Choice.{rises}
use Rattle.slot_codec.specs.declared.codec.Record.{Record}
use Rattle.map_model.specs.Weights.{Entry}
use Rattle.map_model.proofs.MapLaws.{entries-empty}
use Rattle.segment_layout.proofs.BalanceLaws.{bytes_in, bytes_in-none, bytes_in-other, bytes_in-same}
use Rattle.segment_layout.specs.Books.{volumes_of_sizes}
use Rattle.segment_layout.specs.Layouts.{caps_of, divisor_of}
use Rattle.segment_layout.specs.Shapes.{end_of}
use Rattle.data_area.specs.Pieces.{pieces}
use Rattle.extent_table.specs.declared.spot.Spot.{Spot}
use Rattle.extent_table.specs.Extents.{Spots, record_of, records_of}
use Rattle.placement_model.specs.Reads.{read_at}
use Rattle.table_rules.specs.Tables.{map_of}
use Rattle.dump_stream.specs.Dumping.{AreSizes}
use Rattle.dump_stream.specs.Dumps.{object_text, objects_text}
use Rattle.dump_stream.specs.Loading.{AllFollow, MayFollow, NoneFollows, filled_by, last_name}
use Rattle.dump_stream.specs.Placing.{IsPlacing, spot_after, spot_at}
use Rattle.load_stream.specs.declared.plan.Plan.{Plan}
use Rattle.load_stream.specs.declared.plan.SoFar.{SoFar}
use Rattle.load_stream.specs.Standing.{StandInOrder}
use Rattle.load_stream.specs.Steps.{AsksForOne, HasRoom, LoadsObject, LoadsTo, NoneStands, Passed, StandsNext, StopsIn, object_calls, passed}
use Rattle.load_stream.specs.Weights.{objects_weight}
use Rattle.load_stream.proofs.ImageLaws.{no_records, none_filled}
use Rattle.load_stream.proofs.MapLaws.{objects_read}
use Rattle.load_stream.proofs.PlaceLaws.{filled_more, last_more, placed_count, places_more, places_none, records_more}
use Rattle.load_stream.proofs.WeightLaws.{filled_full, filled_total, less_weight, one_weight, total_room}

-- ---- an object that may stand there

module _ (last : Option (List ℕ)) (volumes filled : List ℕ) (es : List Entry)
    (filled_is : filled ≡ filled_by es)
    (last_is : last ≡ last_name es) where
  pub may_follow : ((c : ℕ) → slice_index (filled_by es) c ≤ slice_index volumes c) → (e : Entry)
      → StandsNext last volumes filled e.0 (length e.1) → MayFollow SIZE_MAX volumes es e
  may_follow room e s = record {
    named = s.named;
    rises = subst (λ (o : Option (List ℕ)). rises o e.0 ≡ true) last_is s.rises;
    small = s.small;
    room = λ c. elim (cases_lt 0 (length e.1)) [
      | inr none ↦
          let nothing : length e.1 ≡ 0 = omega (arith, none) in
          omega (arith, filled_more es e c, room c, ap (bytes_in c) nothing, bytes_in-none c)
      | inl some ↦ elim (cases_eq (class_of (length e.1)) c) [
        | inl same ↦ omega (
          arith,
          filled_more es e c,
          s.room some,
          bytes_in-same (length e.1) some,
          ap (λ x. bytes_in x (length e.1)) same,
          ap (λ x. slice_index (filled_by es) x) same,
          ap (λ x. slice_index volumes x) same,
          ap (λ xs. slice_index xs (class_of (length e.1))) filled_is,
        )
        | inr other ↦ omega (arith, filled_more es e c, room c, bytes_in-other c (length e.1) other)
      ]
    ];
  }

  stands_next : (e : Entry) → MayFollow SIZE_MAX volumes es e
      → StandsNext last volumes filled e.0 (length e.1)
  stands_next e may = record {
    named = may.named;
    rises = subst (λ (o : Option (List ℕ)). rises o e.0 ≡ true) (sym last_is) may.rises;
    small = may.small;
    room = λ some. omega (
      arith,
      may.room (class_of (length e.1)),
      filled_more es e (class_of (length e.1)),
      bytes_in-same (length e.1) some,
      ap (λ xs. slice_index xs (class_of (length e.1))) filled_is,
    );
  }

  pub none_follows : (input : List ℕ) → NoneStands last volumes filled input
      → NoneFollows SIZE_MAX volumes es input
  none_follows input none e behind may h = none e behind (stands_next e may) h

-- ---- the last of some records

get_last : (rs : List Record) (r : Record) (n : ℕ) → n ≡ length rs → slice_get (rs ++ r ∷ []) n ≡ Some r
get_last [] r zero is = refl
get_last [] r (suc n) is = absurd (omega (arith, is))
get_last (x ∷ rs) r zero is = absurd (omega (arith, is))
get_last (x ∷ rs) r (suc n) is = get_last rs r n (omega (arith, is))

get_before : (rs others : List Record) (n : ℕ) (r : Record) → slice_get rs n ≡ Some r
    → slice_get (rs ++ others) n ≡ Some r
get_before [] others n r is = absurd (cc)
get_before (x ∷ rs) others zero r is = is
get_before (x ∷ rs) others (suc n) r is = get_before rs others n r is

-- ---- the last of some objects

Split : List Entry → Entry → List Entry → Entry → Type 0
Split es e before x = ((before ≡ es) × (x ≡ e)) ⊎ ((rest : List Entry) × (es ≡ before ++ x ∷ rest))

parts : (es : List Entry) (e : Entry) (before after : List Entry) (x : Entry)
    → es ++ e ∷ [] ≡ before ++ x ∷ after → Split es e before x
unfolding Split
parts [] e [] after x h = inl (refl, let same : x ≡ e = cc in same)
parts [] e (b ∷ bs) after x h = absurd (omega (arith, ap length h, length-append bs (x ∷ after)))
parts (y ∷ es) e [] after x h =
    inr (es, let same : y ≡ x = cc in ap (λ (z : Entry). z ∷ es) same)
parts (y ∷ es) e (b ∷ bs) after x h =
    let head : y ≡ b = cc in
    let tail : es ++ e ∷ [] ≡ bs ++ x ∷ after = cc in
    elim (parts es e bs after x tail) as (λ _. Split (y ∷ es) e (b ∷ bs) x) [
      | inl end ↦ inl ((λ i. sym head i ∷ end.0 i), end.1)
      | inr within ↦ inr (within.0, λ i. head i ∷ within.1 i)
    ]

pub follow_none : (size_max : ℕ) (volumes : List ℕ) → AllFollow size_max volumes []
follow_none size_max volumes before after e is =
    absurd (omega (arith, ap length is, length-append before (e ∷ after)))

pub follow_more : (size_max : ℕ) (volumes : List ℕ) (es : List Entry) (e : Entry)
    → AllFollow size_max volumes es → MayFollow size_max volumes es e
    → AllFollow size_max volumes (es ++ e ∷ [])
unfolding Split
follow_more size_max volumes es e each may before after x is = elim (parts es e before after x is) [
  | inl end ↦ subst (λ (b : List Entry). MayFollow size_max volumes b x) (sym end.0)
      (subst (λ (y : Entry). MayFollow size_max volumes es y) (sym end.1) may)
  | inr within ↦ each before within.0 x within.1
]

-- ---- where they stand

pub stand_none : (k : ℕ) (volumes : List ℕ) (records : List Record) → StandInOrder k volumes [] records
stand_none k volumes records before behind e is =
    absurd (omega (arith, ap length is, length-append before (e ∷ behind)))

pub stand_more : (k : ℕ) (volumes : List ℕ) (es : List Entry) (e : Entry) (records : List Record)
    → length records ≡ length es → StandInOrder k volumes es records
    → StandInOrder k volumes (es ++ e ∷ [])
    (records ++ record_of (e.0, spot_after k volumes es (length e.1)) ∷ [])
unfolding Split
stand_more k volumes es e records long stand before behind x is = elim (parts es e before behind x is) [
  | inl end ↦ subst (λ (z : List Entry × Entry).
      slice_get (records ++ record_of (e.0, spot_after k volumes es (length e.1)) ∷ []) (length z.0)
      ≡ Some (record_of (z.1.0, spot_after k volumes z.0 (length z.1.1)))) (λ i. (sym end.0 i, sym end.1 i))
      (get_last records (record_of (e.0, spot_after k volumes es (length e.1))) (length es) (sym long))
  | inr within ↦ get_before records (record_of (e.0, spot_after k volumes es (length e.1)) ∷ [])
      (length before) (record_of (x.0, spot_after k volumes before (length x.1)))
      (stand before within.0 x within.1)
]

-- ---- the text

pub text_more : (es : List Entry) (e : Entry) (input mid rest : List ℕ) → input ≡ objects_text es ++ mid
    → mid ≡ object_text e ++ rest → input ≡ objects_text (es ++ e ∷ []) ++ rest
text_more es e input mid rest so_far is =
    so_far ∙ ap (λ (xs : List ℕ). objects_text es ++ xs) is
    ∙ sym (append_assoc (objects_text es) (object_text e) rest)
    ∙ ap (λ (xs : List ℕ). objects_text es ++ xs ++ rest) (sym (append-nil (object_text e)))
    ∙ ap (λ (xs : List ℕ). xs ++ rest) (sym (flat_map-append object_text es (e ∷ [])))

sizes_small : (volumes : List ℕ) (es : List Entry)
    → ((before after : List Entry) (e : Entry) → es ≡ before ++ e ∷ after
    → MayFollow SIZE_MAX volumes before e)
    → AreSizes SIZE_MAX (map (λ (e : Entry). length e.1) es)
sizes_small volumes es each = of es (λ before after e is. (each before after e is).small)
  where
    of : (es : List Entry)
        → ((before after : List Entry) (e : Entry) → es ≡ before ++ e ∷ after → length e.1 ≤ SIZE_MAX)
        → AreSizes SIZE_MAX (map (λ (e : Entry). length e.1) es)
    of [] each = tt
    of (x ∷ xs) each = (
      each [] xs x refl,
      of xs (λ before after e is. each (x ∷ before) after e (ap (λ (s : List Entry). x ∷ s) is)),
    )

-- ---- the objects so far

-- none yet
pub loads_none : (p : Plan) (s : SoFar) (tells : Bool) (input : List ℕ) (d : State)
    → length (caps_of p.layout) ≡ width → s.load.now ≡ fin.empty → cells_of s.filled ≡ zero_row
    → s.last ≡ None
    → LoadsTo p s (passed tells input input) 0 d d
loads_none p s tells input d wide empty unfilled none = record {
  objects = [];
  same_count = refl;
  follow = follow_none SIZE_MAX (caps_of p.layout);
  placing = subst (IsPlacing SIZE_MAX (divisor_of p.layout) (caps_of p.layout) []) (sym empty)
      (places_none SIZE_MAX (divisor_of p.layout) (caps_of p.layout) wide);
  places = stand_none (divisor_of p.layout) (caps_of p.layout) (records_of s.load.now);
  filled = unfilled ∙ sym none_filled;
  last = none;
  whole = λ t. refl;
  read = λ t. ap (λ (spots : Spots). fin.entries (read_at p.base d.file spots)) empty
      ∙ ap (λ (rs : List Record). fin.entries (map_of p.base d.file rs)) no_records ∙ entries-empty;
  made = λ low. omega (arith, low);
  asks = asks_then (asks_nothing d) (asks_nothing d) (omega arith) (omega arith) (omega arith);
}

-- one object more
module _ (p : Plan) (wide : length (caps_of p.layout) ≡ width) (old new : SoFar) (tells heard : Bool)
    (input mid rest : List ℕ) (n : ℕ) (first a b : State)
    (long : IsTrue first.tells → p.base + end_of (divisor_of p.layout) (caps_of p.layout) ≤ length a.file)
    (here : IsTrue first.tells → IsTrue a.tells) (same : heard ≡ tells) (few : n < 65536)
    (o : LoadsTo p old (passed tells input mid) n first a)
    (l : LoadsObject p old new (passed heard mid rest) a b) where
  abbrev k : ℕ
  k = divisor_of p.layout

  abbrev caps : List ℕ
  caps = caps_of p.layout

  abbrev es : List Entry
  es = o.objects

  abbrev e : Entry
  e = l.object

  may : MayFollow SIZE_MAX caps es e
  may = may_follow old.last caps (cells_of old.filled) es o.filled o.last o.placing.room e l.stands

  now_is : new.load.now ≡ fin.insert old.load.now e.0 (spot_after k caps es (length e.1))
  now_is = l.entered ∙ ap (λ (f : List ℕ). fin.insert old.load.now e.0 (spot_at k caps f (length e.1)))
      o.filled

  file_is : IsTrue first.tells → b.file
      ≡ overwritten a.file (p.base + (spot_after k caps es (length e.1)).place) e.1
  file_is t = l.written (here t)
      ∙ ap (λ (f : List ℕ). overwritten a.file (p.base + (spot_at k caps f (length e.1)).place) e.1) o.filled

  pub loads_more : LoadsTo p new (passed tells input rest) (n + 1) first b
  loads_more = record {
    objects = es ++ e ∷ [];
    same_count = omega (arith, length-append es (e ∷ []), o.same_count);
    follow = follow_more SIZE_MAX caps es e o.follow may;
    placing = subst (IsPlacing SIZE_MAX k caps (es ++ e ∷ [])) (sym now_is)
        (places_more SIZE_MAX k caps wide es old.load.now o.placing e may);
    places = subst (StandInOrder k caps (es ++ e ∷ []))
        (sym (records_more SIZE_MAX k caps wide es old.load.now o.placing e may)
        ∙ ap records_of (sym now_is))
        (stand_more k caps es e (records_of old.load.now)
        (placed_count SIZE_MAX k caps wide es old.load.now o.placing) o.places);
    filled = l.fills (map (λ (x : Entry). length x.1) es)
        (omega (arith, length-map es (λ (x : Entry). length x.1), o.same_count, few))
        (sizes_small caps es o.follow) o.filled
        ∙ ap volumes_of_sizes (sym (map-append (λ (x : Entry). length x.1) es (e ∷ [])));
    last = l.named ∙ sym (last_more es e);
    whole = λ t. text_more es e input mid rest (o.whole t) (l.whole (subst IsTrue (sym same) t));
    read = λ t. (λ i. fin.entries (read_at p.base (file_is t i) (now_is i)))
        ∙ objects_read SIZE_MAX k caps wide p.base a.file (long t) es old.load.now o.placing e may (o.read t);
    made = λ low.
        let more = sum_by-append (λ (x : Entry). pieces 65536 (length x.1)) es (e ∷ []) in
        elim (cases_lt 0 (length e.1)) as (λ _. b.turn ≡ counted first.turn (object_calls (es ++ e ∷ []))) [
          | inl some ↦ omega (arith, o.made low, l.made.some some, more)
          | inr none ↦
              let empty : length e.1 ≡ 0 = omega (arith, none) in
              omega (arith, low, o.made low, l.made.none empty, more, ap (pieces 65536) empty)
        ];
    asks = asks_then o.asks l.asks
        (omega (arith, one_weight n (sum (filled_by es)) (length e.1), filled_total es e))
        (omega arith) (omega arith);
  }

-- no object more
pub loads_stop : (p : Plan) (s : SoFar) (tells : Bool) (input mid : List ℕ) (n count : ℕ)
    (first a : State) → n < count → LoadsTo p s (passed tells input mid) n first a → IsTrue tells
    → NoneStands s.last (caps_of p.layout) (cells_of s.filled) mid
    → StopsIn (caps_of p.layout) count input (n + 1)
loads_stop p s tells input mid n count first a due o t none = record {
  objects = o.objects;
  rest = mid;
  same_number = omega (arith, o.same_count);
  due = omega (arith, o.same_count, due);
  follow = o.follow;
  whole = o.whole t;
  none = none_follows s.last (caps_of p.layout) (cells_of s.filled) o.objects o.filled o.last mid none;
}

-- there are as many names as objects
pub loads_count : (p : Plan) (s : SoFar) (x : Passed) (n : ℕ) (first now : State) → LoadsTo p s x n first now
    → fin.len s.load.now ≡ n
loads_count p s x n first now o =
    fin.len-entries s.load.now
    ∙ sym (length-map (fin.entries s.load.now) (λ (e : List ℕ × Spot). e.1.size))
    ∙ ap length o.placing.sizes
    ∙ length-map o.objects (λ (e : Entry). length e.1)
    ∙ o.same_count

-- ---- what they ask

module _ (p : Plan) (wide : length (caps_of p.layout) ≡ width) (s : SoFar) (x : Passed) (n : ℕ)
    (first a : State) (o : LoadsTo p s x n first a) where
  -- with one more for which there is room they are within the volumes
  within : (size : ℕ) → HasRoom (caps_of p.layout) (cells_of s.filled) size
      → sum (filled_by o.objects) + size ≤ sum (caps_of p.layout)
  within size room = total_room (caps_of p.layout) (filled_by o.objects) size wide (filled_full o.objects)
      o.placing.room (subst (λ (f : List ℕ). HasRoom (caps_of p.layout) f size) o.filled room)

  -- those so far
  pub asks_all : (count : ℕ) → n ≤ count → Asks (objects_weight count (sum (caps_of p.layout))) 0 first a
  asks_all count upto =
      let low = within 0 (λ some. absurd (omega (arith, some))) in
      asks_then o.asks (asks_nothing a) (omega (
        arith,
        less_weight n count (sum (filled_by o.objects)) (sum (caps_of p.layout)) upto (omega (arith, low)),
      )) (omega arith) (omega arith)

  -- those so far and what one more asks, where one is due
  pub asks_due : (count : ℕ) (b : State) → n < count
      → AsksForOne (caps_of p.layout) (cells_of s.filled) a b
      → Asks (objects_weight count (sum (caps_of p.layout))) 0 first b
  asks_due count b due one =
      let low = within one.size one.room in
      asks_then o.asks one.asks (omega (
        arith,
        one_weight n (sum (filled_by o.objects)) one.size,
        less_weight (n + 1) count (sum (filled_by o.objects) + one.size) (sum (caps_of p.layout))
            (omega (arith, due)) low,
      )) (omega arith) (omega arith)
