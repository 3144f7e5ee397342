-- What a request is refused by, and how long the object of a name is that isn't refused.
use Rattle.std.specs.Prelude.{◌≡◌, ℕ, ◌+◌, Bool, true, false, not, if◌then◌else◌, is_some, List, [], ◌∷◌, length, Option, Some, None, option_map, Ok, Err, refl}
use Rattle.std.proofs.Common.{ap, sym, ◌∙◌}
use Rattle.std.specs.FinMap as fin
use Rattle.byte_ranges.proofs.RangeLaws.{length-bytes_at}
use Rattle.map_model.specs.Requests as ask
use Rattle.map_model.specs.Requests.{Refused, Request}
use Rattle.extent_table.specs.declared.spot.Spot.{Spot}
use Rattle.extent_table.specs.Extents.{Spots}
use Rattle.placement_model.specs.Reads.{AreNamed, EndWithin, read_at}
use Rattle.store_model.specs.declared.answers.Refusal.{Refusal}
use Rattle.store_model.specs.declared.answers.Refusal.TheVariants as why
use Rattle.store_model.specs.Answers.{AnswersNumber, facts_at, refusal_for, refused_by, size_at}
use Rattle.store_model.specs.Connection.{StoreValue, limits_of, state_of}
use Rattle.store_model.specs.States.{Facts, facts_of, first_refusal, object_in, refusal}
use Rattle.store_model.specs.Stores.{IsStore}
use Rattle.store_model.proofs.ReadingLaws.{object_there}
use Rattle.store_model.proofs.StepLaws.{facts_same}

-- ---- refusals

-- what a request is refused by, over a file
pub refusal_at : {classes : ℕ} (s : StoreValue) (file : List ℕ) (r : Request) → IsStore classes s
    → refusal (limits_of s) (facts_of (state_of s file) r) r ≡ refusal (limits_of s) (facts_at s r) r
refusal_at s file r h = ap (λ (f : Facts). refusal (limits_of s) f r)
    (facts_same s file r h.now.named h.kept.named)

-- what a store that isn't broken refuses by
pub refused_is : (s : StoreValue) (r : Request) (o : Option Refused) → s.is_broken ≡ false
    → refusal (limits_of s) (facts_at s r) r ≡ o → refused_by s r ≡ option_map refusal_for o
refused_is s r o whole is =
    ap (λ (b : Bool). if b then Some why.Broken else option_map refusal_for (refusal (limits_of s)
    (facts_at s r) r)) whole
    ∙ ap (option_map refusal_for) is

-- what a store that isn't broken serves isn't refused
pub served_is : (s : StoreValue) (r : Request) → s.is_broken ≡ false → refused_by s r ≡ None
    → refusal (limits_of s) (facts_at s r) r ≡ None
served_is s r whole is = by (refusal (limits_of s) (facts_at s r) r) refl
  where
    by : (o : Option Refused) → refusal (limits_of s) (facts_at s r) r ≡ o
        → refusal (limits_of s) (facts_at s r) r ≡ None
    by None e = e
    by (Some w) e = absurd (let f : Some (refusal_for w) ≡ None = sym (refused_is s r (Some w) whole e)
        ∙ is in cc)

-- ---- sizes

pub number_served : (o : Option Refusal) (n size : ℕ) → AnswersNumber o n (Ok size) → (o ≡ None) × (size ≡ n)
number_served None n size is = (refl, (cc))
number_served (Some x) n size is = absurd (cc)

pub number_refused : (o : Option Refusal) (n : ℕ) (x : Refusal) → AnswersNumber o n (Err x) → o ≡ Some x
number_refused None n x is = absurd (cc)
number_refused (Some y) n x is = let e : y ≡ x = (cc) in ap (λ (z : Refusal). Some z) e

pub some_there : (spots : Spots) (name : List ℕ) (o : Option Spot) → fin.get spots name ≡ o
    → is_some o ≡ true → (x : Spot) × (fin.get spots name ≡ Some x)
some_there spots name None is some = absurd (cc)
some_there spots name (Some x) is some = (x, is)

-- the size of an object that is there
pub object_size : (base : ℕ) (file : List ℕ) (spots : Spots) (name : List ℕ) → AreNamed spots
    → EndWithin base file spots → is_some (fin.get spots name) ≡ true
    → length (object_in (read_at base file spots) name) ≡ size_at (fin.get spots name)
object_size base file spots name named within live =
    let there = some_there spots name (fin.get spots name) refl live in
    let x = there.0 in
    ap length (object_there base file spots name x named there.1)
    ∙ length-bytes_at file (base + x.place) x.size (within name x there.1)
    ∙ ap size_at (sym there.1)

pub live_if : (named live : Bool)
    → first_refusal ((not named, ask.bad_name) ∷ (not live, ask.missing) ∷ []) ≡ None → live ≡ true
live_if true true is = refl
live_if true false is = absurd (cc)
live_if false live is = absurd (cc)
