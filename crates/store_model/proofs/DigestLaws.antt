-- What a change does to digests, and what of a book doesn't depend on them.
use Rattle.std.specs.Prelude.{◌≡◌, ◌⊎◌, ℕ, ◌+◌, ◌-◌, ◌<◌, ◌≤◌, ◌==◌, ◌||◌, Bool, true, false, cond, if◌then◌else◌, List, Option, Some, None, option_map, IsSome, IsTrue, refl}
use Rattle.std.proofs.Common.{arith, sym, ◌∙◌, ap, subst, inl, inr}
use Rattle.std.proofs.lemmas.Bool.{cases_Bool, cond-false, cond-true, eqb-true, false≢true}
use Rattle.std.specs.FinMap as fin
use Rattle.sha2.specs.Sha256.{sha256}
use Rattle.slot_codec.specs.Choice.{Digests}
use Rattle.slot_codec.specs.Reading.{is_version}
use Rattle.slot_codec.specs.Spelling.{cap, has_digests}
use Rattle.slot_codec.proofs.CapLaws.{cap-one}
use Rattle.map_model.specs.Maps.{Map}
use Rattle.map_model.specs.Requests.{Change}
use Rattle.map_model.proofs.MapLaws.{name_order}
use Rattle.segment_layout.specs.Balance.{IsBalanced}
use Rattle.segment_layout.specs.Books.{Book, digests_after, next_book, version_of, with_digests}
use Rattle.extent_table.specs.declared.spot.Spot.{Spot}
use Rattle.extent_table.specs.Extents.{Extents, IsTable, Spots, digests_seen}
use Rattle.store_model.specs.Digested.{IsDigestFor, IsNarrowed, digests_with}
use Rattle.store_model.specs.Quiet.{del_of, put_of}

-- ---- the next book

pub next_with : (k : ℕ) (m : Map) (b : Book) (c : Change) (ds : Option Map)
    → (next_book k m (with_digests ds b) c).book ≡ with_digests (digests_after c ds) (next_book k m b c).book
unfolding next_book
next_with k m b c ds = refl

pub quiet_with : (k : ℕ) (m : Map) (b : Book) (c : Change) (ds : Option Map)
    → (next_book k m (with_digests ds b) c).quiet ≡ (next_book k m b c).quiet
unfolding next_book
quiet_with k m b c ds = refl

pub next_digests : (k : ℕ) (m : Map) (b : Book) (c : Change)
    → (next_book k m b c).book.digests ≡ digests_after c b.digests
unfolding next_book
next_digests k m b c = refl

pub balanced_with : (k : ℕ) (m : Map) (b : Book) (ds : Option Map) → IsBalanced k m b
    → IsBalanced k m (with_digests ds b)
balanced_with k m b ds h = search (h)

-- ---- versions

or_false : (b : Bool) → (b || false) ≡ true → b ≡ true
or_false true is = refl
or_false false is = is

-- what is 1 or 2 and isn't 2
pub is_one : (v : ℕ) → IsTrue (is_version v) → (v == 2) ≡ false → v ≡ 1
is_one v known is = eqb-true v 1 (or_false (v == 1) (subst (λ (z : Bool). (v == 1 || z) ≡ true) is known))

-- no such version has digests but 2
pub is_two : (v : ℕ) → IsTrue (is_version v) → has_digests v ≡ true → v ≡ 2
is_two v known digested = elim (cases_Bool (v == 2)) [
  | inl two ↦ eqb-true v 2 two
  | inr other ↦ absurd (false≢true (subst (λ n. has_digests n ≡ true) (is_one v known other) digested))
]

either_false : (b c : Bool) → (b || c) ≡ false → b ≡ false
either_false true c is = is
either_false false c is = refl

pub is_plain : (v : ℕ) → IsTrue (is_version v) → has_digests v ≡ false → v ≡ 1
is_plain v known plain = is_one v known (either_false (v == 2) (v == 3) plain)

-- the version of a book is that of the table whose digests it has
pub version_seen : (v : ℕ) (ds : Digests) (b : Book) → IsTrue (is_version v)
    → version_of (with_digests (digests_seen v ds) b) ≡ v
version_seen v ds b known = by (has_digests v) refl
  where
    by : (digested : Bool) → has_digests v ≡ digested
        → version_of (with_digests (if digested then Some ds else None) b) ≡ v
    by true is = sym (is_two v known is)
    by false is = sym (is_plain v known is)

-- a change keeps it
pub version_after : (c : Change) (ds : Option Map) (b e : Book)
    → version_of (with_digests (digests_after c ds) b) ≡ version_of (with_digests ds e)
version_after c None b e = refl
version_after c (Some ds) b e = refl

pub version_with : (name digest : List ℕ) (ds : Option Map) (b e : Book)
    → version_of (with_digests (digests_with name digest ds) b) ≡ version_of (with_digests ds e)
version_with name digest None b e = refl
version_with name digest (Some ds) b e = refl

-- ---- the digests of a table

-- where a name was taken out
pub seen_gone : (v : ℕ) (ds : Digests) (name : List ℕ)
    → digests_seen v (fin.remove ds name) ≡ digests_after (del_of name) (digests_seen v ds)
seen_gone v ds name = by (has_digests v)
  where
    by : (two : Bool) → ◌≡◌ {A = Option Map} (if two then Some (fin.remove ds name) else None)
        (digests_after (del_of name) (if two then Some ds else None))
    by true = refl
    by false = refl

-- where it was given one
pub seen_with : (v : ℕ) (ds : Digests) (name digest : List ℕ)
    → digests_seen v (fin.insert ds name digest) ≡ digests_with name digest (digests_seen v ds)
seen_with v ds name digest = by (has_digests v)
  where
    by : (two : Bool) → ◌≡◌ {A = Option Map} (if two then Some (fin.insert ds name digest) else None)
        (digests_with name digest (if two then Some ds else None))
    by true = refl
    by false = refl

-- what is given as an object's digest is its own
pub digest_given : (v : ℕ) (ds : Digests) (object digest : List ℕ)
    → (has_digests v ≡ true → digest ≡ sha256 object) → IsDigestFor (digests_seen v ds) object digest
digest_given v ds object digest given = by (has_digests v) refl
  where
    by : (digested : Bool) → has_digests v ≡ digested → IsDigestFor (if digested then Some ds else None) object digest
    by true is = given is
    by false is = tt

pub with_own : (ds : Option Map) (name object digest : List ℕ) → IsDigestFor ds object digest
    → digests_with name digest ds ≡ digests_after (put_of name object) ds
with_own None name object digest is = refl
with_own (Some ds) name object digest is = ap (λ (d : List ℕ). digests_with name d (Some ds)) is

-- ---- a table that was narrowed where its version asks for it

module _ (v names : ℕ) (e : Extents) (known : IsTrue (is_version v)) (narrowed : v ≡ 2 → IsNarrowed names e)
  where
    pub narrowed_few : IsTable e → e.names ≡ names → fin.len e.now ≤ cap names v
    narrowed_few table room = elim (cases_Bool (has_digests v)) as (λ _. fin.len e.now ≤ cap names v) [
      | inl digested ↦
          let two = is_two v known digested in
          let n = narrowed two in
          omega (arith, n.few, n.cap, ap (cap names) two)
      | inr plain ↦ omega (
        arith,
        table.now_room,
        room,
        cap-one names,
        ap (cap names) (is_plain v known plain),
      )
    ]

    pub narrowed_kept : digests_seen v e.digests ≡ digests_seen v e.kept_digests
    narrowed_kept = by (has_digests v) refl
      where
        by : (digested : Bool) → has_digests v ≡ digested
            → ◌≡◌ {A = Option Map} (if digested then Some e.digests else None)
            (if digested then Some e.kept_digests else None)
        by true is = ap (λ (d : Map). Some d) (narrowed (is_two v known is)).kept
        by false is = refl

-- ---- how many names there are

pub few_gone : (m : Spots) (name : List ℕ) (n : ℕ) → fin.len m ≤ n → fin.len (fin.remove m name) ≤ n
few_gone m name n few =
    let len = fin.len-remove name_order m name in
    elim (cases_Bool (fin.contains_key m name)) as (λ _. fin.len (fin.remove m name) ≤ n) [
      | inl there ↦ omega (
        arith,
        few,
        len,
        cond-true (fin.contains_key m name) (fin.len m - 1) (fin.len m) there,
      )
      | inr absent ↦ omega (
        arith,
        few,
        len,
        cond-false (fin.contains_key m name) (fin.len m - 1) (fin.len m) absent,
      )
    ]

pub few_put : (m : Spots) (name : List ℕ) (s : Spot) (n : ℕ) → fin.len m ≤ n
    → IsSome (fin.get m name) ⊎ (fin.len m < n) → fin.len (fin.insert m name s) ≤ n
few_put m name s n few room =
    let len = fin.len-insert name_order m name s in
    elim (cases_Bool (fin.contains_key m name)) as (λ _. fin.len (fin.insert m name s) ≤ n) [
      | inl there ↦ omega (
        arith,
        few,
        len,
        cond-true (fin.contains_key m name) (fin.len m) (fin.len m + 1) there,
      )
      | inr absent ↦
          let long = cond-false (fin.contains_key m name) (fin.len m) (fin.len m + 1) absent in
          elim room as (λ _. fin.len (fin.insert m name s) ≤ n) [
            | inl there ↦ absurd (let e : false ≡ true = sym absent ∙ there in cc)
            | inr low ↦ omega (arith, low, len, long)
          ]
    ]
