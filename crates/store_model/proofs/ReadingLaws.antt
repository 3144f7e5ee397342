-- What a read of an object finds, and gives to the sink.
use Rattle.std.specs.Prelude.{◌≡◌, ℕ, Bool, true, false, not, if◌then◌else◌, List, [], ◌∷◌, ◌++◌, length, IsTrue, Option, Some, None, option_map, Result, Ok, Err, refl}
use Rattle.std.proofs.Common.{ap, sym, ◌∙◌, subst, inl, inr}
use Rattle.std.specs.FinMap as fin
use Rattle.slot_codec.specs.Names.{is_name}
use Rattle.map_model.specs.Maps.{Map}
use Rattle.map_model.specs.Requests as ask
use Rattle.map_model.specs.Requests.{Refused, Request}
use Rattle.segment_layout.specs.Books.{Book, differs, is_damaged}
use Rattle.extent_table.specs.declared.spot.Spot.{Spot}
use Rattle.extent_table.specs.Extents.{Spots}
use Rattle.placement_model.specs.Reads.{AreNamed, object_at, read_at}
use Rattle.placement_model.proofs.ReadLaws.{get-read_at}
use Rattle.store_model.specs.declared.answers.Refusal.{Refusal}
use Rattle.store_model.specs.declared.answers.Refusal.TheVariants as why
use Rattle.store_model.specs.Answers.{AnswersRead, AnswersSpot, facts_at, refusal_for, refused_by}
use Rattle.store_model.specs.Connection.{StoreValue, limits_of}
use Rattle.store_model.specs.Digested.{digest_of}
use Rattle.store_model.specs.Stores.{IsStanding}
use Rattle.store_model.specs.declared.answers.Moment.{Moment}
use Rattle.store_model.specs.declared.answers.Moment.TheVariants as moment
use Rattle.store_model.specs.Readings.{asks_for, spot_read}
use Rattle.store_model.specs.Reads.{GivesObject, StopsARead}
use Rattle.store_model.specs.States.{first_refusal, object_in, refusal}

-- ---- what is found

found_spot : (o : Option Refusal) (spot : Option Spot) (x : Spot) → AnswersSpot o spot (Ok x)
    → (o ≡ None) × (spot ≡ Some x)
found_spot None spot x is = (refl, is.0)
found_spot (Some why) spot x is = absurd (cc)

-- a store that refuses nothing isn't broken
pub whole_if_served : (b : Bool) (o : Option Refusal) → (if b then Some why.Broken else o) ≡ None → b ≡ false
whole_if_served true o is = absurd (cc)
whole_if_served false o is = refl

-- An object is found among the places of now or of the last checkpoint, by a store that isn't broken.
pub record IsFound (s : StoreValue) (r : Request) (x : Spot) : Type 0 where
  pub served : refused_by s r ≡ None
  pub whole : s.is_broken ≡ false
  pub there : spot_read s r ≡ Some x
  pub stands : IsStanding s

pub is_found : (s : StoreValue) (r : Request) (x : Spot)
    → AnswersSpot (refused_by s r) (spot_read s r) (Ok x) → (s.is_broken ≡ false → IsStanding s)
    → IsFound s r x
is_found s r x answer stands =
    let found = found_spot (refused_by s r) (spot_read s r) x answer in
    let whole = whole_if_served s.is_broken
    (option_map refusal_for (refusal (limits_of s) (facts_at s r) r)) found.0 in
    record { served = found.0; whole = whole; there = found.1; stands = stands whole }

-- and where none is found, the read is refused
pub refused_read : (o : Option Refusal) (spot : Option Spot) (why : Refusal) (n : ℕ)
    → AnswersSpot o spot (Err why) → AnswersRead o n (Err why)
refused_read None spot why n is = absurd (let h = is.1 in cc)
refused_read (Some refused) spot why n is =
    let same : why ≡ refused = (cc) in ap (λ (x : Refusal). Err x) same

pub answers_read : (o : Option Refusal) (n m : ℕ) (result : Result ℕ Refusal) → o ≡ None → n ≡ m
    → AnswersRead None m result → AnswersRead o n result
answers_read o n m result none same answer = subst (λ (x : Option Refusal). AnswersRead x n result) (sym none)
    (subst (λ (x : ℕ). AnswersRead None x result) (sym same) answer)

-- the object that a file has under a name
pub object_there : (base : ℕ) (file : List ℕ) (spots : Spots) (name : List ℕ) (s : Spot) → AreNamed spots
    → fin.get spots name ≡ Some s → object_in (read_at base file spots) name ≡ object_at base file s
object_there base file spots name s named is =
    let there : fin.get (read_at base file spots) name ≡ Some (object_at base file s) =
    get-read_at base file spots named name ∙ ap (option_map (object_at base file)) is in
    rw there refl

-- what was given of an object, if nothing is refused
pub gives_object : (o : Option Refusal) (tells : Bool) (head object there before now : List ℕ)
    (result : Result ℕ Refusal) → o ≡ None → object ≡ there
    → GivesObject None tells (head ++ there) before now (length head) result
    → GivesObject o tells (head ++ object) before now (length head) result
gives_object o tells head object there before now result none same given =
    subst (λ (x : Option Refusal). GivesObject x tells (head ++ object) before now (length head) result)
    (sym none)
    (subst (λ (x : List ℕ). GivesObject None tells (head ++ x) before now (length head) result) (sym same)
    given)

-- ---- digests

-- an object is damaged that has another digest than the book has for its name
pub damaged_is : (book : Book) (m : Map) (name object : List ℕ) → fin.get m name ≡ Some object
    → is_damaged book m name ≡ differs (digest_of book.digests name) (Some object)
damaged_is book m name object there = elim book.digests as (λ ds.
    is_damaged (record book { digests = ds }) m name ≡ differs (digest_of ds name) (Some object)) [
      | None ↦ refl
      | Some ds ↦ ap (differs (fin.get ds name)) there
    ]

pub damaged_there : (base : ℕ) (file : List ℕ) (book : Book) (spots : Spots) (name : List ℕ) (s : Spot)
    → AreNamed spots → fin.get spots name ≡ Some s → is_damaged book (read_at base file spots) name
    ≡ differs (digest_of book.digests name) (Some (object_at base file s))
damaged_there base file book spots name s named is = damaged_is book (read_at base file spots) name
    (object_at base file s)
    (get-read_at base file spots named name ∙ ap (option_map (object_at base file)) is)

named_by : (named live : Bool)
    → first_refusal ((not named, ask.bad_name) ∷ (not live, ask.missing) ∷ []) ≡ None → IsTrue named
named_by true live is = refl
named_by false live is = absurd (cc)

-- what is found has a name
pub named_if : (s : StoreValue) (m : Moment) (name : List ℕ) → refused_by s (asks_for m name) ≡ None
    → s.is_broken ≡ false → IsTrue (is_name name)
named_if s m name none whole = by m (unrefused (refusal (limits_of s) (facts_at s (asks_for m name))
    (asks_for m name)) (ap (λ (b : Bool). if b then Some why.Broken else option_map refusal_for
    (refusal (limits_of s) (facts_at s (asks_for m name)) (asks_for m name))) (sym whole) ∙ none))
  where
    unrefused : (o : Option Refused) → option_map refusal_for o ≡ None → o ≡ None
    unrefused None is = refl
    unrefused (Some w) is = absurd (cc)

    by : (n : Moment) → refusal (limits_of s) (facts_at s (asks_for n name)) (asks_for n name) ≡ None
        → IsTrue (is_name name)
    by moment.Now is = named_by (is_name name) (fin.contains_key s.now name) is
    by moment.Kept is = named_by (is_name name) (fin.contains_key s.kept name) is

-- why a read stops is an answer to it
pub read_stops : (n : ℕ) (x : Refusal) → StopsARead x → AnswersRead None n (Err x)
read_stops n x (inl is) = inr (inl (ap (λ (y : Refusal). Err y) is))
read_stops n x (inr (inl is)) = inr (inr (inl (ap (λ (y : Refusal). Err y) is)))
read_stops n x (inr (inr is)) = inr (inr (inr (ap (λ (y : Refusal). Err y) is)))
