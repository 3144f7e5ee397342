-- What a put is refused for whose name is none, or whose object is longer than the longest.
use Rattle.std.specs.Prelude.{◌≡◌, ℕ, ◌<◌, nat_lt, true, false, List, length, Some, refl}
use Rattle.std.proofs.Common.{lt-ltb}
use Rattle.size_class.specs.declared.TheConstants.{SIZE_MAX}
use Rattle.map_model.specs.Requests as ask
use Rattle.slot_codec.specs.Names.{is_name}
use Rattle.store_model.specs.Answers.{facts_at}
use Rattle.store_model.specs.Connection.{StoreValue, limits_of}
use Rattle.store_model.specs.Quiet.{put_of}
use Rattle.store_model.specs.States.{refusal}

pub name_is_refused : (s : StoreValue) (name object : List ℕ) → is_name name ≡ false
    → refusal (limits_of s) (facts_at s (ask.change (put_of name object))) (ask.change (put_of name object))
    ≡ Some ask.bad_name
name_is_refused s name object is = rw is refl

pub long_is_refused : (s : StoreValue) (name object : List ℕ) → is_name name ≡ true → SIZE_MAX < length object
    → refusal (limits_of s) (facts_at s (ask.change (put_of name object))) (ask.change (put_of name object))
    ≡ Some ask.too_long
long_is_refused s name object is long =
    let big : nat_lt SIZE_MAX (length object) ≡ true = lt-ltb SIZE_MAX (length object) long in
    rw (is, big) refl
