-- What changed in a table, by its two maps of spots and its two of digests.
use Rattle.std.proofs.Common.{◌≡◌, ℕ, zero, suc, ◌+◌, ◌^◌, ◌<◌, Bool, true, false, cond, ◌&&◌, List, [], ◌∷◌, ◌++◌, map, length, Option, Some, IsSome, option_map, refl, ap, sym, ◌∙◌, arith}
use Rattle.std.proofs.lemmas.Bool.{lt-ltb}
use Rattle.std.proofs.lemmas.List.{length-append, length-map}
use Rattle.std.proofs.lemmas.Option.{slice_get-map}
use Rattle.std.specs.List.{list_all, slice_get}
use Rattle.std.specs.Ordering.{eq_by_cmp}
use Rattle.std.specs.FinMap as fin
use Rattle.slot_codec.specs.Changes.{Change}
use Rattle.slot_codec.specs.Names.{IsName, name_cmp}
use Rattle.slot_codec.specs.Choice.{Digests}
use Rattle.slot_codec.specs.Readable.{AreInRange}
use Rattle.slot_codec.specs.Rows.{Rows, by_name, rows_of}
use Rattle.slot_codec.specs.declared.codec.Record.{Record}
use Rattle.extent_table.specs.declared.spot.Spot.{Spot}
use Rattle.extent_table.specs.Extents.{Spots, Extents, IsTable, record_of, records_of, rolled, with_digest}
use Rattle.extent_table.specs.Deltas.{changes_of, is_fit, kept_change, kept_changes, kept_rolled, new_change, new_changes, now_rolled}
use Rattle.extent_table.specs.Applied.{row_at}
use Rattle.extent_table.proofs.ExtentLaws.{records_of-all, records_of-count, records_of-nth}
use Rattle.extent_table.proofs.MapLemmas.{tie_of}
use Rattle.extent_table.proofs.SaveLaws.{rolled_in_range}
use Rattle.extent_table.proofs.SearchLemmas.{same_name}

-- ---- one side of a table

abbrev pub row_in : Digests → List ℕ → Spot → Record
row_in digests name s = with_digest digests (record_of (name, s))

find_rolled : (digests : Digests) (es : List (List ℕ × Spot)) (q : List ℕ)
    → fin.find name_cmp q (map by_name (map (with_digest digests) (map record_of es)))
    ≡ option_map (row_in digests q) (fin.find name_cmp q es)
find_rolled digests [] q = refl
find_rolled digests (e ∷ es) q = by_tie (find_rolled digests es q) (eq_by_cmp name_cmp q e.0) refl
  where
    later : Option Record
    later = fin.find name_cmp q (map by_name (map (with_digest digests) (map record_of es)))

    by_tie : later ≡ option_map (row_in digests q) (fin.find name_cmp q es) → (b : Bool)
        → eq_by_cmp name_cmp q e.0 ≡ b → cond b (Some (row_in digests e.0 e.1)) later
        ≡ option_map (row_in digests q) (cond b (Some e.1) (fin.find name_cmp q es))
    by_tie rest true is =
        ap (λ n. Some (row_in digests n e.1)) (sym (same_name q e.0 (tie_of (name_cmp q e.0) is)))
    by_tie rest false is = rest

module _ (spots : Spots) (digests : Digests)
    (named : (name : List ℕ) → IsSome (fin.get spots name) → IsName name) where
  -- the record of a name
  pub rolled-row : (q : List ℕ)
      → fin.get (rows_of (rolled spots digests)) q ≡ option_map (row_in digests q) (fin.get spots q)
  rolled-row q =
      row_at (rolled spots digests) q
      ∙ ap (λ rs. fin.find name_cmp q (map by_name (map (with_digest digests) rs)))
      (records_of-all spots named)
      ∙ find_rolled digests (fin.entries spots) q
      ∙ ap (option_map (row_in digests q)) (sym (fin.get-entries spots q))

  -- the record of a rank
  pub rolled-rank : (n : ℕ) (e : List ℕ × Spot) → slice_get (fin.entries spots) n ≡ Some e
      → slice_get (rolled spots digests) n ≡ Some (row_in digests e.0 e.1)
  rolled-rank n e is = slice_get-map (with_digest digests) (records_of spots) n
      ∙ ap (option_map (with_digest digests)) (records_of-nth spots named n e is)

  pub rolled-count : length (rolled spots digests) ≡ fin.len spots
  rolled-count = length-map (records_of spots) (with_digest digests) ∙ records_of-count spots named

-- ---- the changes of a rank

nth_kept : (now : Rows) (rank : ℕ) (rs : List Record) (n : ℕ) (r : Record) → slice_get rs n ≡ Some r
    → slice_get (kept_changes now rank rs) n ≡ Some (kept_change (rank + n) r (fin.get now r.name))
nth_kept now rank [] n r is = absurd (cc)
nth_kept now rank (x ∷ rs) zero r is =
    let same : x ≡ r = cc in
    (λ i. Some (kept_change (none_more i) (same i) (fin.get now (same i).name)))
  where
    none_more : rank ≡ rank + 0
    none_more = omega arith
nth_kept now rank (x ∷ rs) (suc n) r is =
    nth_kept now (suc rank) rs n r is ∙ ap (λ k. Some (kept_change k r (fin.get now r.name))) one_more
  where
    one_more : suc rank + n ≡ rank + suc n
    one_more = omega arith

kept_changes-count : (now : Rows) (rank : ℕ) (rs : List Record)
    → length (kept_changes now rank rs) ≡ length rs
kept_changes-count now rank [] = refl
kept_changes-count now rank (r ∷ rs) = ap suc (kept_changes-count now (suc rank) rs)

module _ (e : Extents) (table : IsTable e) where
  -- of a name that was kept
  pub kept_rank : (n : ℕ) (name : List ℕ) (was : Spot) → slice_get (fin.entries e.kept) n ≡ Some (name, was)
      → slice_get (kept_changes (rows_of (now_rolled e)) zero (rolled e.kept e.kept_digests)) n
      ≡ Some (kept_change n (row_in e.kept_digests name was)
      (option_map (row_in e.digests name) (fin.get e.now name)))
  kept_rank n name was is =
      let none_before : 0 + n ≡ n = omega arith in
      nth_kept (rows_of (now_rolled e)) zero (rolled e.kept e.kept_digests) n (row_in e.kept_digests name was)
      (rolled-rank e.kept e.kept_digests table.kept_named n (name, was) is)
      ∙ ap (λ k. Some (kept_change k (row_in e.kept_digests name was)
      (fin.get (rows_of (now_rolled e)) name))) none_before
      ∙ ap (λ o. Some (kept_change n (row_in e.kept_digests name was) o))
      (rolled-row e.now e.digests table.now_named name)

  -- of a live name
  pub new_rank : (n : ℕ) (name : List ℕ) (is : Spot) → slice_get (fin.entries e.now) n ≡ Some (name, is)
      → slice_get (new_changes (rows_of (rolled e.kept e.kept_digests)) (now_rolled e)) n
      ≡ Some (new_change (option_map (row_in e.kept_digests name) (fin.get e.kept name))
      (row_in e.digests name is))
  new_rank n name is at =
      slice_get-map (λ s. new_change (fin.get (rows_of (rolled e.kept e.kept_digests)) s.name) s)
      (now_rolled e) n
      ∙ ap (option_map (λ s. new_change (fin.get (rows_of (rolled e.kept e.kept_digests)) s.name) s))
      (rolled-rank e.now e.digests table.now_named n (name, is) at)
      ∙ ap (λ o. Some (new_change o (row_in e.digests name is)))
      (rolled-row e.kept e.kept_digests table.kept_named name)

-- ---- all of them

all_fit : (rs : List Record) → AreInRange rs → list_all is_fit rs ≡ true
all_fit [] h = refl
all_fit (r ∷ rs) h =
    let later : AreInRange rs = record {
      place = λ i s is. h.place (suc i) s is;
      size = λ i s is. h.size (suc i) s is;
    } in
    λ i. (lt-ltb r.place (2 ^ 48) (h.place 0 r refl) i && lt-ltb r.size (2 ^ 48) (h.size 0 r refl) i)
    && all_fit rs later i

-- in a table all records of now are fit
pub kept_rolled-is : (e : Extents) → IsTable e → kept_rolled e ≡ rolled e.kept e.kept_digests
kept_rolled-is e table = ap (λ b. cond b (rolled e.kept e.kept_digests) (now_rolled e))
    (all_fit (now_rolled e) (rolled_in_range e table))

in_front : (xs ys : List Change) (n : ℕ) → n < length xs → slice_get (xs ++ ys) n ≡ slice_get xs n
in_front [] ys n low = absurd (omega (arith, low))
in_front (x ∷ xs) ys zero low = refl
in_front (x ∷ xs) ys (suc n) low = in_front xs ys n (omega (arith, low))

behind : (xs ys : List Change) (n k : ℕ) → n ≡ length xs + k → slice_get (xs ++ ys) n ≡ slice_get ys k
behind [] ys n k is = let same : n ≡ k = omega (arith, is) in ap (slice_get ys) same
behind (x ∷ xs) ys zero k is = absurd (omega (arith, is))
behind (x ∷ xs) ys (suc n) k is = behind xs ys n k (omega (arith, is))

module _ (e : Extents) (table : IsTable e) where
  abbrev kept_part : List Change
  kept_part = kept_changes (rows_of (now_rolled e)) zero (rolled e.kept e.kept_digests)

  abbrev new_part : List Change
  new_part = new_changes (rows_of (rolled e.kept e.kept_digests)) (now_rolled e)

  changes_are : changes_of e ≡ kept_part ++ new_part
  changes_are = ap (λ rs. kept_changes (rows_of (now_rolled e)) zero rs
      ++ new_changes (rows_of rs) (now_rolled e))
      (kept_rolled-is e table)

  kept_count : length kept_part ≡ fin.len e.kept
  kept_count = kept_changes-count (rows_of (now_rolled e)) zero (rolled e.kept e.kept_digests)
      ∙ rolled-count e.kept e.kept_digests table.kept_named

  new_count : length new_part ≡ fin.len e.now
  new_count = length-map (now_rolled e)
      (λ s. new_change (fin.get (rows_of (rolled e.kept e.kept_digests)) s.name) s)
      ∙ rolled-count e.now e.digests table.now_named

  -- there is one for each name of either side
  pub changes_of-count : length (changes_of e) ≡ fin.len e.kept + fin.len e.now
  changes_of-count = ap length changes_are ∙ length-append kept_part new_part
      ∙ (λ i. kept_count i + new_count i)

  pub changes_of-kept : (n : ℕ) → n < fin.len e.kept → slice_get (changes_of e) n ≡ slice_get kept_part n
  changes_of-kept n low =
      ap (λ cs. slice_get cs n) changes_are ∙ in_front kept_part new_part n (omega (arith, low, kept_count))

  pub changes_of-new : (n k : ℕ) → n ≡ fin.len e.kept + k → slice_get (changes_of e) n ≡ slice_get new_part k
  changes_of-new n k is =
      ap (λ cs. slice_get cs n) changes_are ∙ behind kept_part new_part n k (omega (arith, is, kept_count))
