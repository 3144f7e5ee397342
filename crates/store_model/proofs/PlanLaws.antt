-- What is known of a put or a removal that is served and quiet.
use Rattle.std.specs.Prelude.{◌≡◌, ◌⊎◌, ℕ, ◌^◌, ◌<◌, ◌≤◌, nat_le, nat_lt, Bool, true, false, not, ◌&&◌, if◌then◌else◌, List, [], ◌∷◌, ◌++◌, length, Option, Some, None, option_map, is_some, Ok, IsSome, refl}
use Rattle.std.proofs.Common.{subst, inl, inr, Err}
use Rattle.std.proofs.lemmas.Bool.{leb-false, ltb-false}
use Rattle.std.specs.FinMap as fin
use Rattle.size_class.specs.declared.TheConstants.{SIZE_MAX}
use Rattle.slot_codec.specs.Names.{IsName, is_name}
use Rattle.map_model.specs.Requests as ask
use Rattle.map_model.specs.Requests.{Change, Refused}
use Rattle.segment_layout.specs.Books.{some_size}
use Rattle.extent_table.specs.declared.spot.Spot.{Spot}
use Rattle.placement_model.specs.Quiet.{QuietTo, gone_items}
use Rattle.placement_model.proofs.QuietLaws.{quiet_then}
use Rattle.store_model.specs.declared.answers.Refusal.{Refusal}
use Rattle.store_model.specs.declared.answers.Refusal.TheVariants as why
use Rattle.store_model.specs.Answers.{facts_at, refusal_for, refused_by}
use Rattle.store_model.specs.Connection.{StoreValue, limits_of, live_cap}
use Rattle.store_model.specs.Plans.{AcceptsName}
use Rattle.store_model.specs.Quiet.{IsCharged, del_of, put_of}
use Rattle.store_model.specs.States.{first_refusal, object_tests, refusal, worn_test}
use Rattle.store_model.proofs.ReadingLaws.{whole_if_served}

-- a name that is accepted is the one that was asked for
pub accepted : (o : Option Refusal) (name n : List ℕ) → AcceptsName o name (Ok n) → (o ≡ None) × (n ≡ name)
accepted None name n is = (refl, let same : n ≡ name = (cc) in same)
accepted (Some why) name n is = absurd (cc)

-- ---- no test refuses

-- the tests of a list all fail
first_passed : (test : Bool) (why : Refused) (tests : List (Bool × Refused))
    → first_refusal ((test, why) ∷ tests) ≡ None → (test ≡ false) × (first_refusal tests ≡ None)
first_passed true why tests is = absurd (cc)
first_passed false why tests is = (refl, is)

not_refused : (o : Option Refused) → option_map refusal_for o ≡ None → o ≡ None
not_refused None is = refl
not_refused (Some why) is = absurd (cc)

no_refusal : (s : StoreValue) (r : ask.Request) → refused_by s r ≡ None
    → (s.is_broken ≡ false) × (refusal (limits_of s) (facts_at s r) r ≡ None)
no_refusal s r is =
    let whole = whole_if_served s.is_broken (option_map refusal_for (refusal (limits_of s) (facts_at s r) r))
    is
    in (
      whole,
      not_refused (refusal (limits_of s) (facts_at s r) r)
          (subst (λ (b : Bool). (if b then Some why.Broken
          else option_map refusal_for (refusal (limits_of s) (facts_at s r) r)) ≡ None) whole is),
    )

false_of_not : (b : Bool) → not b ≡ false → b ≡ true
false_of_not true is = refl
false_of_not false is = absurd (cc)

pub record PutServed (s : StoreValue) (name object : List ℕ) : Type 0 where
  pub whole : s.is_broken ≡ false
  pub named : IsName name
  pub small : length object ≤ SIZE_MAX
  pub room : IsSome (fin.get s.now name) ⊎ (fin.len s.now < live_cap s)
  pub fresh : s.in_use.sequence < 2 ^ 61
  pub calm : refusal (limits_of s) (facts_at s (ask.change (put_of name object)))
      (ask.change (put_of name object))
      ≡ None

pub put_served : (s : StoreValue) (name object : List ℕ) → refused_by s (ask.change (put_of name object))
    ≡ None
    → PutServed s name object
put_served s name object is =
    let f = facts_at s (ask.change (put_of name object)) in
    let is_full = not f.is_live && nat_le (live_cap s) f.count in
    let no = no_refusal s (ask.change (put_of name object)) is in
    let a = first_passed (not (is_name name)) ask.bad_name
    (object_tests (limits_of s) f (Some object) ++ worn_test f) no.1 in
    let b = first_passed (nat_lt SIZE_MAX (length object)) ask.too_long
    ((is_full, ask.full) ∷ worn_test f) a.1 in
    let c = first_passed is_full ask.full (worn_test f) b.1 in
    record {
      whole = no.0;
      named = false_of_not (is_name name) a.0;
      small = short b.0;
      room = either (fin.get s.now name) c.0;
      fresh = leb-false (2 ^ 61) s.in_use.sequence
          (first_passed (nat_le (2 ^ 61) s.in_use.sequence) ask.worn [] c.1).0;
      calm = no.1;
    }
  where
    short : nat_lt SIZE_MAX (length object) ≡ false → length object ≤ SIZE_MAX
    short is = ltb-false SIZE_MAX (length object) is

    either : (o : Option Spot) → not (is_some o) && nat_le (live_cap s) (fin.len s.now) ≡ false
        → IsSome o ⊎ (fin.len s.now < live_cap s)
    either (Some x) is = inl refl
    either None is = inr (leb-false (live_cap s) (fin.len s.now) is)

pub record DelServed (s : StoreValue) (name : List ℕ) : Type 0 where
  pub whole : s.is_broken ≡ false
  pub named : IsName name
  pub fresh : s.in_use.sequence < 2 ^ 61
  pub calm : refusal (limits_of s) (facts_at s (ask.change (del_of name))) (ask.change (del_of name)) ≡ None

pub del_served : (s : StoreValue) (name : List ℕ) → refused_by s (ask.change (del_of name)) ≡ None
    → DelServed s name
del_served s name is =
    let no = no_refusal s (ask.change (del_of name)) is in
    let f = facts_at s (ask.change (del_of name)) in
    let a = first_passed (not (is_name name)) ask.bad_name
    (object_tests (limits_of s) f None ++ worn_test f) no.1 in
    let b = first_passed (not f.is_live) ask.missing (worn_test f) a.1 in
    record {
      whole = no.0;
      named = false_of_not (is_name name) a.0;
      fresh = leb-false (2 ^ 61) s.in_use.sequence
          (first_passed (nat_le (2 ^ 61) s.in_use.sequence) ask.worn [] b.1).0;
      calm = no.1;
    }

-- ---- each charge finds room

pub charged_quietly : (s : StoreValue) (name object : List ℕ) (grid : List (List ℕ)) (place : ℕ)
    → IsCharged s.in_use.block.k s.book.caps s.book.grid (fin.get s.now name) (length object) grid place
    → QuietTo s.in_use.block.k s.book.caps s.book.grid
    (gone_items s.in_use.block.k s.book.caps (fin.get s.now name) ++ some_size (length object)) grid
charged_quietly s name object grid place c = quiet_then s.in_use.block.k s.book.caps s.book.grid c.mid grid
    (gone_items s.in_use.block.k s.book.caps (fin.get s.now name)) (some_size (length object)) c.gone
    c.placed.charged

-- a name that was taken is that of the call, whose store isn't broken
-- a name that was answered
pub answered : (broken named : Bool) (got name : List ℕ)
    → Ok got ≡ (if broken then Err why.Broken else if named then Ok name else Err why.BadName)
    → (broken ≡ false) × (named ≡ true) × (got ≡ name)
answered true named got name is = absurd (cc)
answered false false got name is = absurd (cc)
answered false true got name is = (refl, refl, cc)
