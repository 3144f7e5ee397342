-- Lines that are gathered one after another, and put in pieces.
use Rattle.std.specs.Prelude.{◌≡◌, ℕ, ◌+◌, ◌-◌, ◌<◌, ◌≤◌, List, [], ◌∷◌, ◌++◌, length, take, drop, flat_map, slice_get, slice_index_or, Some, option_map, Result, Ok, Err, OnOk, OnErr, refl}
use Rattle.std.proofs.Common.{arith, ap, sym, ◌∙◌, append_assoc, length-append}
use Rattle.std.proofs.Math.Seq.{take-append-add}
use Rattle.std.proofs.lemmas.Grind.{flat_map-append}
use Rattle.std.proofs.lemmas.Slice.{take-put_mid}
use borrow.Rule.Slice.PartMut.{put_mid, same_len_mid}
use Rattle.std.proofs.lemmas.List.{append-nil, length-drop, length-map, length-take, length-take-le, take-append-drop, take-append-le, take_all, take_more}
use Rattle.std.proofs.lemmas.Option.{get_or_from_slice_get, slice_get-map, slice_get_within}
use Rattle.std.specs.FinMap as fin
use Rattle.disk_face.specs.Streams.{Puts}
use Rattle.extent_table.specs.declared.spot.Spot.{Spot}
use Rattle.extent_table.specs.Extents.{Spots}
use Rattle.store_model.specs.Lines.{IsMoved, line_of, lines_of, listing_of}

abbrev listed : List ℕ × Spot → List ℕ × ℕ
listed e = (e.0, e.1.size)

-- a list has a line for each name
pub length-listing : (spots : Spots) → length (listing_of spots) ≡ fin.len spots
length-listing spots = length-map (fin.entries spots) listed ∙ sym (fin.len-entries spots)

-- one line more
pub lines_more : (spots : Spots) (n : ℕ) (name : List ℕ) (x : Spot)
    → slice_get (fin.entries spots) n ≡ Some (name, x)
    → lines_of (take (n + 1) (listing_of spots))
    ≡ lines_of (take n (listing_of spots)) ++ line_of (name, x.size)
lines_more spots n name x is =
    let es = listing_of spots in
    let none : List ℕ × ℕ = ([], 0) in
    let there : slice_get es n ≡ Some (name, x.size) = slice_get-map listed (fin.entries spots) n
    ∙ ap (option_map listed) is in
    let low : n < length es = slice_get_within es n (name, x.size) there in
    let one : slice_index_or es n none ≡ (name, x.size) =
    get_or_from_slice_get es n (name, x.size) none there in
    ap lines_of (take_more es n none low)
    ∙ flat_map-append line_of (take n es) (slice_index_or es n none ∷ [])
    ∙ ap (λ (xs : List ℕ). lines_of (take n es) ++ xs)
    (ap (λ (e : List ℕ × ℕ). flat_map line_of (e ∷ [])) one ∙ append-nil (line_of (name, x.size)))

-- What was put, and what is gathered since, is that many lines.
pub record IsGathered (before mid piece : List ℕ) (spots : Spots) (n : ℕ) : Type 0 where
  pub bytes : mid ++ piece ≡ before ++ lines_of (take n (listing_of spots))
  pub more : length before ≤ length mid

pub gathered_more : {before mid piece next more after : List ℕ} {spots : Spots} {n : ℕ}
    (name : List ℕ) (x : Spot)
    → IsGathered before mid piece spots n → IsMoved mid piece next more
    → after ≡ more ++ line_of (name, x.size) → slice_get (fin.entries spots) n ≡ Some (name, x)
    → IsGathered before next after spots (n + 1)
gathered_more {before} {mid} {piece} {next} {more} {after} {spots} {n} name x so_far moved line there =
    let l = line_of (name, x.size) in
    record {
      bytes = ap (λ (xs : List ℕ). next ++ xs) line ∙ sym (append_assoc next more l)
          ∙ ap (λ (xs : List ℕ). xs ++ l) (moved.same ∙ so_far.bytes)
          ∙ append_assoc before (lines_of (take n (listing_of spots))) l
          ∙ ap (λ (xs : List ℕ). before ++ xs) (sym (lines_more spots n name x there));
      more = omega (arith, so_far.more, moved.longer);
    }

-- some bytes more of what is gathered is a front of all lines
pub gathered_front : {before mid piece after : List ℕ} {spots : Spots} {n : ℕ}
    → IsGathered before mid piece spots n → (k : ℕ) × (k ≤ length piece) × (after ≡ mid ++ take k piece)
    → (j : ℕ) × (j ≤ length (lines_of (listing_of spots)))
    × (after ≡ before ++ take j (lines_of (listing_of spots)))
gathered_front {before} {mid} {piece} {after} {spots} {n} so_far (k, low, is) =
    let es = listing_of spots in
    let some = lines_of (take n es) in
    let all = lines_of es in
    let j = length mid + k - length before in
    let whole : all ≡ some ++ lines_of (drop n es) = ap lines_of (sym (take-append-drop n es))
    ∙ flat_map-append line_of (take n es) (drop n es) in
    let size : length mid + length piece ≡ length before + length some =
    sym (length-append mid piece) ∙ ap length so_far.bytes ∙ length-append before some in
    let few : j ≤ length some = omega (arith, so_far.more) in
    let front : take j all ≡ take j some =
    ap (take j) whole ∙ take-append-le j some (lines_of (drop n es)) few in (
      j,
      omega (arith, ap length whole, length-append some (lines_of (drop n es)), few),
      is ∙ sym (take-append-add mid piece k)
          ∙ ap (take (length mid + k)) so_far.bytes
          ∙ ap (λ i. take i (before ++ some))
          (let e : length mid + k ≡ length before + j = omega (arith, so_far.more) in e)
          ∙ take-append-add before some j
          ∙ ap (λ (xs : List ℕ). before ++ xs) (sym front),
    )

-- the rest is put
pub whole_listing : (spots : Spots) (n : ℕ) → n ≡ fin.len spots → take n (listing_of spots) ≡ listing_of spots
whole_listing spots n end = take_all n (listing_of spots) (omega (arith, end, length-listing spots))

module _ {A E : Type 0} {before mid piece : List ℕ} {spots : Spots} {n : ℕ}
    (so_far : IsGathered before mid piece spots n) (end : n ≡ fin.len spots) (after : List ℕ) where
  all_put : (r : Result A E) → OnOk r (after ≡ mid ++ piece)
      → OnOk r (after ≡ before ++ lines_of (listing_of spots))
  all_put (Ok x) is = is ∙ so_far.bytes
      ∙ ap (λ (es : List (List ℕ × ℕ)). before ++ lines_of es) (whole_listing spots n end)
  all_put (Err e) is = tt

  front_put : (r : Result A E) → OnErr r ((k : ℕ) × (k ≤ length piece) × (after ≡ mid ++ take k piece))
      → OnErr r ((j : ℕ) × (j ≤ length (lines_of (listing_of spots)))
      × (after ≡ before ++ take j (lines_of (listing_of spots))))
  front_put (Ok x) is = tt
  front_put (Err e) is = gathered_front so_far is

  pub gathered_all : (r : Result A E) → Puts mid after piece r
      → Puts before after (lines_of (listing_of spots)) r
  gathered_all r puts = record { all = all_put r puts.all; front = front_put r puts.front }

-- ---- copied one after another

-- some of the lines have no more bytes than all
lines_few : (spots : Spots) (n : ℕ)
    → length (lines_of (take n (listing_of spots))) ≤ length (lines_of (listing_of spots))
lines_few spots n =
    let es = listing_of spots in
    let whole : lines_of es ≡ lines_of (take n es) ++ lines_of (drop n es) =
    ap lines_of (sym (take-append-drop n es)) ∙ flat_map-append line_of (take n es) (drop n es) in
    omega (arith, ap length whole, length-append (lines_of (take n es)) (lines_of (drop n es)))

-- What stands in front of a memory is that many lines.
pub record IsCopied (out : List ℕ) (room end : ℕ) (spots : Spots) (n : ℕ) : Type 0 where
  pub bytes : take end out ≡ lines_of (take n (listing_of spots))
  pub inside : end ≤ length out
  pub same : length out ≡ room

-- at first there are none
pub copied_none : (out : List ℕ) (spots : Spots) → IsCopied out (length out) 0 spots 0
copied_none out spots = record { bytes = refl; inside = omega arith; same = refl }

-- so many bytes they have
copied_length : {out : List ℕ} {room end : ℕ} {spots : Spots} {n : ℕ} → IsCopied out room end spots n
    → end ≡ length (lines_of (take n (listing_of spots)))
copied_length {out} {room} {end} i = omega (arith, ap length i.bytes, length-take end out, i.inside)

module _ {out : List ℕ} {room end : ℕ} {spots : Spots} {n : ℕ} (so_far : IsCopied out room end spots n)
    (name : List ℕ) (x : Spot) (there : slice_get (fin.entries spots) n ≡ Some (name, x)) where
  next_length : length (lines_of (take (n + 1) (listing_of spots))) ≡ end + length (line_of (name, x.size))
  next_length = omega (
    arith,
    ap length (lines_more spots n name x there),
    length-append (lines_of (take n (listing_of spots))) (line_of (name, x.size)),
    copied_length so_far,
  )

  -- one more that doesn't fit
  pub copied_short : room - end < length (line_of (name, x.size))
      → room < length (lines_of (listing_of spots))
  copied_short more = omega (arith, more, next_length, lines_few spots (n + 1), so_far.inside, so_far.same)

  -- one more that fits, as it is put into the memory
  pub copied_more : (part : List ℕ) (n2 : ℕ) → part ≡ line_of (name, x.size) → n2 ≡ length part
      → end + n2 ≤ length out → IsCopied (put_mid end (end + n2 - end) out part) room (end + n2) spots (n + 1)
  copied_more part n2 is long fits =
      let k = end + n2 - end in
      let same : length (put_mid end k out part) ≡ length out =
      same_len_mid end k out part (omega (
        arith,
        long,
        length-take-le k (drop end out) (omega (arith, length-drop end out, fits)),
      )) in
      record {
        bytes = take-put_mid end k out part (end + n2) (omega (arith, long)) so_far.inside
            ∙ ap (λ (xs : List ℕ). take end out ++ xs) is
            ∙ ap (λ (xs : List ℕ). xs ++ line_of (name, x.size)) so_far.bytes
            ∙ sym (lines_more spots n name x there);
        inside = omega (arith, same, fits);
        same = same ∙ so_far.same;
      }

-- all of them
pub copied_all : {out : List ℕ} {room end : ℕ} {spots : Spots} {n : ℕ} → IsCopied out room end spots n
    → n ≡ fin.len spots
    → (take end out ≡ lines_of (listing_of spots)) × (end ≡ length (lines_of (listing_of spots)))
copied_all {spots = spots} {n} i is_last =
    let last = whole_listing spots n is_last in
    (i.bytes ∙ ap lines_of last, copied_length i ∙ ap (λ (es : List (List ℕ × ℕ)). length (lines_of es)) last)
