-- What a file gives at spots: name by name, and after a change of the spots or of the file.
use Rattle.std.specs.Prelude.{◌≡◌, ◌⊎◌, ℕ, zero, suc, ◌+◌, ◌<◌, ◌≤◌, Bool, true, false, cond, T, ◌&&◌, List, [], ◌∷◌, map, length, slice_get, slice_index_or, Option, Some, None, option_map, IsSome, refl}
use Rattle.std.proofs.Common.{arith, sym, ◌∙◌, ap, subst, inl, inr}
use Rattle.std.proofs.lemmas.Bool.{cases_Bool, cond-true, cond-false}
use Rattle.std.proofs.lemmas.Option.{get_or_from_slice_get, same_Some, slice_get-get_or, slice_get-map, slice_get_within}
use Rattle.std.proofs.lemmas.Cmp.{nat_list_cmp_total, tied_itself}
use Rattle.std.specs.Ordering.{is_lt, is_eq, eq_by_cmp, ordering_reverse}
use Rattle.std.specs.declared.cmp.Ordering.{Ordering}
use Rattle.std.specs.declared.cmp.Ordering.TheVariants.{Less, Equal, Greater}
use Rattle.std.specs.FinMap as fin
use Rattle.std.specs.FinMap.Entries.{find, below_all}
use Rattle.byte_ranges.specs.Ranges.{SameOutside, bytes_at, overwritten}
use Rattle.byte_ranges.proofs.RangeLaws.{bytes_at-same, within_below, within_above, overwritten-outside, bytes_at-overwritten}
use Rattle.slot_codec.specs.Spelling.{digest_len, zeros}
use Rattle.slot_codec.specs.Names.{IsName}
use Rattle.slot_codec.specs.declared.codec.Record.{Record}
use Rattle.map_model.specs.Maps.{Map, name_cmp}
use Rattle.map_model.proofs.MapLaws.{name_order, names_differ, same_name-is}
use Rattle.map_model.specs.Weights.{same_name}
use Rattle.table_rules.specs.Tables.{map_of, no_record, end_of_record}
use Rattle.table_rules.specs.Objects.{AllApart}
use Rattle.extent_table.specs.declared.spot.Spot.{Spot}
use Rattle.extent_table.specs.Extents.{Spots, record_of, records_of}
use Rattle.extent_table.proofs.ExtentLaws.{records_of-all}
use Rattle.extent_table.specs.Rising.{below_each, left, right, of_mapped}
use Rattle.placement_model.specs.Reads.{object_at, read_at, AreNamed, LiesApart, EndWithin, AllLieApart}
use Rattle.slot_codec.proofs.OrderLemmas.{not_tied_back}

-- ---- by name

through : {A B : Type 0} (f : A → B) (b : Bool) (x : A) (o : Option A)
    → cond b (Some (f x)) (option_map f o) ≡ option_map f (cond b (Some x) o)
through f true x o = refl
through f false x o = refl

past_none : {A B : Type 0} (f : A → B) (b : Bool) (o : Option A)
    → cond b None (option_map f o) ≡ option_map f (cond b None o)
past_none f true o = refl
past_none f false o = refl

found_at : (base : ℕ) (file q : List ℕ) (es : List (List ℕ × Spot))
    → find name_cmp q (map (λ (r : Record). (r.name, bytes_at file (base + r.place) r.size))
    (map record_of es)) ≡ option_map (object_at base file) (find name_cmp q es)
found_at base file q [] = refl
found_at base file q (e ∷ es) =
    ap (cond (same_name q e.0) (Some (object_at base file e.1))) (found_at base file q es)
    ∙ through (object_at base file) (same_name q e.0) e.1 (find name_cmp q es)

pub get-read_at : (base : ℕ) (file : List ℕ) (spots : Spots) → AreNamed spots → (name : List ℕ)
    → fin.get (read_at base file spots) name ≡ option_map (object_at base file) (fin.get spots name)
get-read_at base file spots named name =
    ap (λ rs. fin.get (map_of base file rs) name) (records_of-all spots named)
    ∙ fin.get-from_entries name_order (map (λ (r : Record). (r.name, bytes_at file (base + r.place) r.size))
    (map record_of (fin.entries spots))) name
    ∙ found_at base file name (fin.entries spots)
    ∙ ap (option_map (object_at base file)) (sym (fin.get-entries spots name))

-- ---- a change of the spots

pub AreNamed-insert : (spots : Spots) (name : List ℕ) (s : Spot) → AreNamed spots → IsName name
    → AreNamed (fin.insert spots name s)
AreNamed-insert spots name s named is q some =
    elim (cases_Bool (same_name q name)) as (λ _. IsName q) [
      | inl same ↦ subst IsName (sym (same_name-is q name same)) is
      | inr other ↦ named q (subst (λ o. IsSome o)
          (fin.get-insert name_order spots name s q
          ∙ cond-false (same_name q name) (Some s) (fin.get spots q) other) some)
    ]

pub AreNamed-remove : (spots : Spots) (name : List ℕ) → AreNamed spots → AreNamed (fin.remove spots name)
AreNamed-remove spots name named q some =
    elim (cases_Bool (same_name q name)) as (λ _. IsName q) [
      | inl same ↦ let none = subst (λ o. IsSome o)
          (fin.get-remove name_order spots name q ∙ cond-true (same_name q name) None (fin.get spots q) same)
          some in absurd (cc)
      | inr other ↦ named q (subst (λ o. IsSome o)
          (fin.get-remove name_order spots name q
          ∙ cond-false (same_name q name) None (fin.get spots q) other) some)
    ]

-- a put of a name
pub read_at-insert : (base : ℕ) (file : List ℕ) (spots : Spots) (name : List ℕ) (s : Spot) → AreNamed spots
    → IsName name → read_at base file (fin.insert spots name s)
    ≡ fin.insert (read_at base file spots) name (object_at base file s)
read_at-insert base file spots name s named is =
    fin.same_map name_order names_differ (read_at base file (fin.insert spots name s))
    (fin.insert (read_at base file spots) name (object_at base file s)) (λ q.
    get-read_at base file (fin.insert spots name s) (AreNamed-insert spots name s named is) q
    ∙ ap (option_map (object_at base file)) (fin.get-insert name_order spots name s q)
    ∙ sym (through (object_at base file) (same_name q name) s (fin.get spots q))
    ∙ ap (cond (same_name q name) (Some (object_at base file s))) (sym (get-read_at base file spots named q))
    ∙ sym (fin.get-insert name_order (read_at base file spots) name (object_at base file s) q))

-- a removal
pub read_at-remove : (base : ℕ) (file : List ℕ) (spots : Spots) (name : List ℕ) → AreNamed spots
    → read_at base file (fin.remove spots name) ≡ fin.remove (read_at base file spots) name
read_at-remove base file spots name named =
    fin.same_map name_order names_differ (read_at base file (fin.remove spots name))
    (fin.remove (read_at base file spots) name) (λ q.
    get-read_at base file (fin.remove spots name) (AreNamed-remove spots name named) q
    ∙ ap (option_map (object_at base file)) (fin.get-remove name_order spots name q)
    ∙ sym (past_none (object_at base file) (same_name q name) (fin.get spots q))
    ∙ ap (cond (same_name q name) None) (sym (get-read_at base file spots named q))
    ∙ sym (fin.get-remove name_order (read_at base file spots) name q))

-- what stands there already is put to no effect
insert_there : (m : Map) (name object : List ℕ) → fin.get m name ≡ Some object → fin.insert m name object ≡ m
insert_there m name object is =
    fin.same_map name_order names_differ (fin.insert m name object) m (λ q.
    fin.get-insert name_order m name object q
    ∙ elim (cases_Bool (same_name q name))
    as (λ _. cond (same_name q name) (Some object) (fin.get m q) ≡ fin.get m q) [
      | inl same ↦ cond-true (same_name q name) (Some object) (fin.get m q) same ∙ sym is
          ∙ ap (fin.get m) (sym (same_name-is q name same))
      | inr other ↦ cond-false (same_name q name) (Some object) (fin.get m q) other
    ])

-- an object that has moved, once its bytes are there
pub read_at-moved : (base : ℕ) (file : List ℕ) (spots : Spots) (name : List ℕ) (s t : Spot) → AreNamed spots
    → fin.get spots name ≡ Some s → object_at base file t ≡ object_at base file s
    → read_at base file (fin.insert spots name t) ≡ read_at base file spots
read_at-moved base file spots name s t named is same =
    read_at-insert base file spots name t named (named name (subst (λ o. IsSome o) (sym is) refl))
    ∙ insert_there (read_at base file spots) name (object_at base file t)
    (get-read_at base file spots named name ∙ ap (option_map (object_at base file)) is
    ∙ ap Some (sym same))

-- ---- a change of the file

pub read_at-alike : (base : ℕ) (a b : List ℕ) (spots : Spots) → AreNamed spots
    → ((name : List ℕ) (s : Spot) → fin.get spots name ≡ Some s → object_at base b s ≡ object_at base a s)
    → read_at base b spots ≡ read_at base a spots
read_at-alike base a b spots named same =
    fin.same_map name_order names_differ (read_at base b spots) (read_at base a spots) (λ q.
    get-read_at base b spots named q ∙ both (fin.get spots q) (λ s is. same q s is)
    ∙ sym (get-read_at base a spots named q))
  where
    both : (o : Option Spot) → ((s : Spot) → o ≡ Some s → object_at base b s ≡ object_at base a s)
        → option_map (object_at base b) o ≡ option_map (object_at base a) o
    both None each = refl
    both (Some s) each = ap Some (each s refl)

-- bytes apart from what was written
pub object_stays : (base place n : ℕ) (a b : List ℕ) (s : Spot) → SameOutside (base + place) n a b
    → base + s.place + s.size ≤ length a → LiesApart place n s → object_at base b s ≡ object_at base a s
object_stays base place n a b s same within apart =
    sym (bytes_at-same a b (base + s.place) s.size within (omega (arith, within, same.same_length))
    (elim apart [
      | inl low ↦ within_below (base + place) n (base + s.place) (base + s.place + s.size) a b same
          (omega (arith, low))
      | inr high ↦ within_above (base + place) n (base + s.place) (base + s.place + s.size) a b same
          (omega (arith, high))
    ]))

pub read_at-written : (base place n : ℕ) (a b : List ℕ) (spots : Spots) → AreNamed spots
    → SameOutside (base + place) n a b
    → ((name : List ℕ) (s : Spot) → fin.get spots name ≡ Some s → base + s.place + s.size ≤ length a)
    → ((name : List ℕ) (s : Spot) → fin.get spots name ≡ Some s → LiesApart place n s)
    → read_at base b spots ≡ read_at base a spots
read_at-written base place n a b spots named same within apart =
    read_at-alike base a b spots named
    (λ name s is. object_stays base place n a b s same (within name s is) (apart name s is))

-- ---- an object that is put

-- the other objects stay
pub read_at-overwritten : (base place : ℕ) (file object : List ℕ) (spots : Spots) → AreNamed spots
    → base + place + length object ≤ length file → EndWithin base file spots
    → AllLieApart place (length object) spots
    → read_at base (overwritten file (base + place) object) spots ≡ read_at base file spots
read_at-overwritten base place file object spots named fits within apart =
    read_at-written base place (length object) file (overwritten file (base + place) object) spots named
    (overwritten-outside file (base + place) object fits) within apart

-- and the name has the object that was written
pub read_at-put : (base place : ℕ) (file object : List ℕ) (spots : Spots) (name : List ℕ) → AreNamed spots
    → IsName name → base + place + length object ≤ length file → EndWithin base file spots
    → AllLieApart place (length object) spots
    → read_at base (overwritten file (base + place) object)
    (fin.insert spots name (record { place = place; size = length object }))
    ≡ fin.insert (read_at base file spots) name object
read_at-put base place file object spots name named is fits within apart =
    read_at-insert base (overwritten file (base + place) object) spots name
    (record { place = place; size = length object }) named is
    ∙ (λ i. fin.insert (read_at-overwritten base place file object spots named fits within apart i) name
    (bytes_at-overwritten file (base + place) object fits i))

-- ---- records and spots

-- an entry is found by its name
pub found_by_name : (es : List (List ℕ × Spot)) (i : ℕ) (e : List ℕ × Spot) → T (fin.is_sorted name_cmp es)
    → slice_get es i ≡ Some e → find name_cmp e.0 es ≡ Some e.1
found_by_name [] i e h is = absurd (cc)
found_by_name (x ∷ xs) zero e h is =
    let same : x ≡ e = same_Some x e is in
    ap (λ b. cond b (Some x.1) (find name_cmp e.0 xs))
    (ap (λ (y : List ℕ × Spot). eq_by_cmp name_cmp e.0 y.0) same
    ∙ ap is_eq (tied_itself nat_list_cmp_total e.0)) ∙ ap (λ (y : List ℕ × Spot). Some y.1) same
found_by_name (x ∷ xs) (suc i) e h is =
    let lower : is_lt (name_cmp x.0 e.0)
    ≡ true = below_each name_cmp (λ k. true) x.0 xs i e (first (fin.is_sorted name_cmp xs) h) is in
    ap (λ b. cond b (Some x.1) (find name_cmp e.0 xs))
    (not_tied_back (name_cmp x.0 e.0) (name_cmp e.0 x.0) (nat_list_cmp_total.antisymm e.0 x.0) lower)
    ∙ found_by_name xs i e (right (below_all name_cmp x.0 xs) (fin.is_sorted name_cmp xs) h) is
  where
    first : (rest : Bool) → T (below_all name_cmp x.0 xs && rest) → T (below_all name_cmp x.0 xs)
    first rest t = rw (left (below_all name_cmp x.0 xs) rest t) tt

-- a record is the spot of its name
pub record SpotOf (spots : Spots) (r : Record) : Type 0 where
  pub spot : Spot
  pub is : fin.get spots r.name ≡ Some spot
  pub same_place : r.place ≡ spot.place
  pub same_size : r.size ≡ spot.size
  pub same_digest : r.digest ≡ zeros digest_len

pub spot_of_record : (spots : Spots) → AreNamed spots → (i : ℕ) → i < length (records_of spots)
    → SpotOf spots (slice_index_or (records_of spots) i no_record)
spot_of_record spots named i within =
    let all = records_of-all spots named in
    let r = slice_index_or (records_of spots) i no_record in
    let there : slice_get (map record_of (fin.entries spots)) i ≡ Some r = ap (λ rs. slice_get rs i) (sym all)
    ∙ slice_get-get_or (records_of spots) i no_record within in
    let found = of_mapped record_of (slice_get (fin.entries spots) i) r
    (sym (slice_get-map record_of (fin.entries spots) i) ∙ there) in
    let by_name = found_by_name (fin.entries spots) i found.0 (fin.entries_sorted spots) found.1 in
    record {
      spot = found.0.1;
      is = ap (λ (x : Record). fin.get spots x.name) (sym found.2) ∙ fin.get-entries spots found.0.0
          ∙ by_name;
      same_place = ap (λ (x : Record). x.place) (sym found.2);
      same_size = ap (λ (x : Record). x.size) (sym found.2);
      same_digest = ap (λ (x : Record). x.digest) (sym found.2);
    }

-- an entry that is found stands somewhere
place_of : (es : List (List ℕ × Spot)) (q : List ℕ) (s : Spot) → find name_cmp q es ≡ Some s
    → (i : ℕ) × (slice_get es i ≡ Some (q, s))
place_of [] q s is = absurd (cc)
place_of (e ∷ es) q s is =
    elim (cases_Bool (same_name q e.0)) [
      | inl same ↦
          let v : e.1 ≡ s = same_Some e.1 s (sym
          (cond-true (same_name q e.0) (Some e.1) (find name_cmp q es) same) ∙ is) in
          let k : e.0 ≡ q = sym (same_name-is q e.0 same) in
          (zero, λ i. Some (k i, v i))
      | inr other ↦ let r = place_of es q s
          (sym (cond-false (same_name q e.0) (Some e.1) (find name_cmp q es) other) ∙ is) in (suc r.0, r.1)
    ]

pub entry_at : (spots : Spots) (name : List ℕ) (s : Spot) → fin.get spots name ≡ Some s
    → (i : ℕ) × (slice_get (fin.entries spots) i ≡ Some (name, s))
entry_at spots name s is = place_of (fin.entries spots) name s (sym (fin.get-entries spots name) ∙ is)

-- and so does its record
pub record_at : (spots : Spots) → AreNamed spots → (name : List ℕ) (s : Spot) → fin.get spots name ≡ Some s
    → (i : ℕ) × (i < length (records_of spots))
    × (slice_index_or (records_of spots) i no_record ≡ record_of (name, s))
record_at spots named name s is =
    let at = entry_at spots name s is in
    let here : slice_get (records_of spots) at.0
    ≡ Some (record_of (name, s)) = ap (λ rs. slice_get rs at.0) (records_of-all spots named)
    ∙ slice_get-map record_of (fin.entries spots) at.0 ∙ ap (option_map record_of) at.1 in (
      at.0,
      slice_get_within (records_of spots) at.0 (record_of (name, s)) here,
      get_or_from_slice_get (records_of spots) at.0 (record_of (name, s)) no_record here,
    )

-- records that are apart from a range, each within a length
pub all_apart : (base at n len : ℕ) (rs : List Record)
    → ((i : ℕ) → i < length rs → (base + end_of_record (slice_index_or rs i no_record) ≤ at)
    ⊎ (at + n ≤ base + (slice_index_or rs i no_record).place))
    → ((i : ℕ) → i < length rs → base + end_of_record (slice_index_or rs i no_record) ≤ len)
    → AllApart base at n len rs
all_apart base at n len [] apart within = tt
all_apart base at n len (r ∷ rs) apart within = (
  elim (apart 0 (omega arith)) as (λ x. (base + r.place + r.size ≤ at)
      ⊎ (at + n ≤ base + r.place)) [ inl low ↦ inl (omega (arith, low)) | inr high ↦ inr high ],
  omega (arith, within 0 (omega arith)),
  all_apart base at n len rs (λ i low. apart (suc i) (omega (arith, low)))
      (λ i low. within (suc i) (omega (arith, low))),
)

-- so are those of spots that lie apart
pub spots_apart : (base place n len : ℕ) (spots : Spots) → AreNamed spots
    → ((name : List ℕ) (s : Spot) → fin.get spots name ≡ Some s → LiesApart place n s)
    → ((i : ℕ) → i < length (records_of spots)
    → base + end_of_record (slice_index_or (records_of spots) i no_record) ≤ len)
    → AllApart base (base + place) n len (records_of spots)
spots_apart base place n len spots named apart within =
    all_apart base (base + place) n len (records_of spots) (λ i low.
    let r = slice_index_or (records_of spots) i no_record in
    let s = spot_of_record spots named i low in
    elim (apart r.name s.spot s.is) as (λ x. (base + end_of_record r ≤ base + place)
    ⊎ (base + place + n ≤ base + r.place)) [
      | inl below ↦ inl (omega (arith, below, s.same_place, s.same_size))
      | inr above ↦ inr (omega (arith, above, s.same_place))
    ]) within
