-- Texts that are put one after another, and the texts of objects.
use Rattle.std.specs.Prelude.{◌≡◌, ℕ, ◌+◌, ◌<◌, ◌≤◌, ◌&&◌, nat_le, nat_lt, List, [], ◌∷◌, ◌++◌, codes, length, map, take, drop, option_map, slice_get, slice_index_or, Some, Result, Ok, Err}
use Rattle.std.proofs.Common.{arith, ap, sym, ◌∙◌, append_assoc, append-nil, length-append, subst}
use Rattle.std.proofs.Math.Seq.{take-append-add}
use Rattle.std.proofs.lemmas.Bool.{and_parts, leb-true}
use Rattle.std.proofs.lemmas.Grind.{flat_map-append}
use Rattle.std.proofs.lemmas.List.{take-append-drop, take-append-le, take_more}
use Rattle.std.proofs.lemmas.Option.{get_or_from_slice_get, slice_get-map, slice_get_within}
use Rattle.std.specs.FinMap as fin
use Rattle.std.specs.Fmt.{decimal}
use Rattle.std.specs.List.{list_all}
use Rattle.byte_ranges.proofs.RangeLaws.{length-bytes_at}
use Rattle.disk_face.specs.Streams.{Puts}
use Rattle.slot_codec.specs.Names.{IsName, is_name_byte}
use Rattle.map_model.specs.Weights.{Entry}
use Rattle.extent_table.specs.declared.spot.Spot.{Spot}
use Rattle.extent_table.specs.Extents.{Spots}
use Rattle.placement_model.specs.Reads.{object_at}
use Rattle.placement_model.proofs.ReadLaws.{found_by_name}
use Rattle.dump_stream.specs.Dumps.{object_text, objects_text}
use Rattle.dump_stream.specs.Dumping.{Front, read_entry}
use Rattle.slot_codec.proofs.NameLemmas.{name_short}

-- ---- one text after another

pub front_wider : (before now xs ys : List ℕ) → Front before now xs → Front before now (xs ++ ys)
front_wider before now xs ys (n, low, is) = (
  n,
  omega (arith, low, length-append xs ys),
  is ∙ ap (λ (s : List ℕ). before ++ s) (sym (take-append-le n xs ys low)),
)

pub front_then : (before mid now xs ys : List ℕ) → mid ≡ before ++ xs → Front mid now ys
    → Front before now (xs ++ ys)
front_then before mid now xs ys is (n, low, same) = (
  length xs + n,
  omega (arith, low, length-append xs ys),
  same ∙ ap (λ (s : List ℕ). s ++ take n ys) is
      ∙ append_assoc before xs (take n ys)
      ∙ ap (λ (s : List ℕ). before ++ s) (sym (take-append-add xs ys n)),
)

pub put_then : {T E : Type 0} (before mid now xs ys : List ℕ) (end : Result T E) → mid ≡ before ++ xs
    → Puts mid now ys end → Puts before now (xs ++ ys) end
put_then before mid now xs ys (Ok u) is p = record {
  all = p.all ∙ ap (λ (s : List ℕ). s ++ ys) is ∙ append_assoc before xs ys;
  front = tt;
}
put_then before mid now xs ys (Err e) is p = record {
  all = tt;
  front = front_then before mid now xs ys is p.front;
}

-- ---- the text of one object

module _ (base : ℕ) (file name line : List ℕ) (spot : Spot)
    (within : base + spot.place + spot.size ≤ length file)
    (line_is : line ≡ codes "put " ++ name ++ codes " " ++ decimal spot.size ++ codes "\n") where
  pub text_is : line ++ (object_at base file spot ++ codes "\n") ≡ object_text (read_entry base file
      (name, spot))
  text_is = ap (λ (s : List ℕ). s ++ (object_at base file spot ++ codes "\n")) (line_is
      ∙ ap (λ n. codes "put " ++ name ++ codes " " ++ decimal n ++ codes "\n")
      (sym (length-bytes_at file (base + spot.place) spot.size within)))

-- the text of an object, or a front of it where its putting stopped within its line or within its bytes
module _ (before : List ℕ) (line bytes : List ℕ) where
  pub stops_in_line : (now : List ℕ) → Front before now line
      → Front before now (line ++ (bytes ++ codes "\n"))
  stops_in_line now f = front_wider before now line (bytes ++ codes "\n") f

  module _ (mid : List ℕ) (first : mid ≡ before ++ line) where
    pub stops_in_bytes : (now : List ℕ) → Front mid now bytes
        → Front before now (line ++ (bytes ++ codes "\n"))
    stops_in_bytes now f = front_then before mid now line (bytes ++ codes "\n") first
        (front_wider mid now bytes (codes "\n") f)

    pub object_put : {T E : Type 0} (next now : List ℕ) (end : Result T E) → next ≡ mid ++ bytes
        → Puts next now (codes "\n") end → Puts before now (line ++ (bytes ++ codes "\n")) end
    object_put next now end second last = put_then before mid now line (bytes ++ codes "\n") end first
        (put_then mid next now bytes (codes "\n") end second last)

-- ---- the texts of objects

module _ (es : List Entry) (n : ℕ) (e : Entry) (is : slice_get es n ≡ Some e) where
  pub text_more : objects_text (take (n + 1) es) ≡ objects_text (take n es) ++ object_text e
  text_more =
      let low : n < length es = slice_get_within es n e is in
      let one : slice_index_or es n e ≡ e = get_or_from_slice_get es n e e is in
      ap objects_text (take_more es n e low)
      ∙ flat_map-append object_text (take n es) (slice_index_or es n e ∷ [])
      ∙ ap (λ (ys : List ℕ). objects_text (take n es) ++ ys)
      (ap (λ (x : Entry). objects_text (x ∷ [])) one ∙ append-nil (object_text e))

  pub objects_stop : (before now : List ℕ) → Front before now (objects_text (take n es) ++ object_text e)
      → Front before now (objects_text es)
  objects_stop before now f = subst (Front before now)
      (sym (flat_map-append object_text (take (n + 1) es) (drop (n + 1) es))
      ∙ ap objects_text (take-append-drop (n + 1) es))
      (front_wider before now (objects_text (take (n + 1) es)) (objects_text (drop (n + 1) es))
      (subst (Front before now) (sym text_more) f))

-- the entries of spots

pub spot_of_entry : (spots : Spots) (n : ℕ) (name : List ℕ) (s : Spot)
    → slice_get (fin.entries spots) n ≡ Some (name, s) → fin.get spots name ≡ Some s
spot_of_entry spots n name s is = fin.get-entries spots name
    ∙ found_by_name (fin.entries spots) n (name, s) (fin.entries_sorted spots) is

pub read_at_entry : (base : ℕ) (file : List ℕ) (spots : Spots) (n : ℕ) (name : List ℕ) (s : Spot)
    → slice_get (fin.entries spots) n ≡ Some (name, s)
    → slice_get (map (read_entry base file) (fin.entries spots)) n ≡ Some (read_entry base file (name, s))
read_at_entry base file spots n name s is =
    slice_get-map (read_entry base file) (fin.entries spots) n
    ∙ ap (option_map (read_entry base file)) is
