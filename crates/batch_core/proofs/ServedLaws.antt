-- What a change or a keep is refused by, and what it leaves in the state where it isn't.
use Rattle.std.specs.Prelude.{◌≡◌, ℕ, nat_le, nat_lt, Bool, true, false, not, ◌&&◌, if◌then◌else◌, List, length, Option, Some, None, option_map, refl}
use Rattle.std.proofs.Common.{ap, sym, ◌∙◌, subst}
use Rattle.slot_codec.specs.Names.{is_name}
use Rattle.slot_codec.specs.Spelling.{cap}
use Rattle.map_model.specs.Maps.{Map}
use Rattle.map_model.specs.Requests as ask
use Rattle.map_model.specs.Requests.{Change, Refused, Request, changed}
use Rattle.segment_layout.specs.Books.{Book, digests_after, next_book, version_of}
use Rattle.store_model.specs.Connection.{StoreValue, limits_of, state_of}
use Rattle.store_model.specs.States.{Facts, Limits, State, accepted, refusal, refused_from, served, served_change}
use Rattle.store_model.specs.Stores.{IsStore}
use Rattle.store_model.proofs.DigestLaws.{next_digests}
use Rattle.store_model.specs.Answers.{facts_at, refusal_for, refused_by}
use Rattle.store_model.specs.declared.answers.Refusal.TheVariants as why
use Rattle.store_model.proofs.RequestLaws.{served_by}
use Rattle.store_model.proofs.StepLaws.{facts_same}
use Rattle.store_model.proofs.AnsweredLaws.{served_is}

-- ---- refusals

none_of : (o : Option Refused) → option_map refusal_for o ≡ None → o ≡ None
none_of None is = refl
none_of (Some w) is = absurd (cc)

missing_of : (o : Option Refused) → option_map refusal_for o ≡ Some why.Missing → o ≡ Some ask.missing
missing_of None is = absurd (cc)
missing_of (Some ask.bad_name) is = absurd (cc)
missing_of (Some ask.too_long) is = absurd (cc)
missing_of (Some ask.missing) is = refl
missing_of (Some ask.damaged) is = absurd (cc)
missing_of (Some ask.full) is = absurd (cc)
missing_of (Some ask.worn) is = absurd (cc)

-- what a store that isn't broken refuses by
pub refused_whole : (s : StoreValue) (r : Request) → s.is_broken ≡ false
    → refused_by s r ≡ option_map refusal_for (refusal (limits_of s) (facts_at s r) r)
refused_whole s r whole = ap (λ (b : Bool). if b then Some why.Broken
    else option_map refusal_for (refusal (limits_of s) (facts_at s r) r)) whole

pub missing_at : (s : StoreValue) (r : Request) → s.is_broken ≡ false → refused_by s r ≡ Some why.Missing
    → refusal (limits_of s) (facts_at s r) r ≡ Some ask.missing
missing_at s r whole is = missing_of _ (sym (refused_whole s r whole) ∙ is)

-- a refusal for a removal that was missing: the name isn't there
three : (a b c : Bool) → (if a then Some ask.bad_name else if b then Some ask.missing
    else if c then Some ask.worn else None) ≡ Some ask.missing → b ≡ true
three true b c is = absurd (cc)
three false true c is = refl
three false false true is = absurd (cc)
three false false false is = absurd (cc)

four : (a b c d : Bool) → (if a then Some ask.bad_name else if b then Some ask.too_long
    else if c then Some ask.full else if d then Some ask.worn else None) ≡ Some ask.missing → ⊥
four true b c d is = cc
four false true c d is = cc
four false false true d is = cc
four false false false true is = cc
four false false false false is = cc

not_true : (b : Bool) → not b ≡ true → b ≡ false
not_true true is = absurd (cc)
not_true false is = refl

-- what is missing is a name that isn't there, of a removal
pub missing_gone : (limits : Limits) (f : Facts) (c : Change)
    → refusal limits f (ask.change c) ≡ Some ask.missing → (c.object ≡ None) × (f.is_live ≡ false)
missing_gone limits f c is = by c.object refl
  where
    by : (o : Option (List ℕ)) → c.object ≡ o → (c.object ≡ None) × (f.is_live ≡ false)
    by None e = (
      e,
      not_true f.is_live (three (not (is_name c.name)) (not f.is_live) (nat_le refused_from f.sequence)
          (subst (λ (o : Option (List ℕ)).
          refusal limits f (ask.change (record { name = c.name; object = o }))
          ≡ Some ask.missing) e is)),
    )
    by (Some object) e = absurd (four (not (is_name c.name)) (nat_lt limits.size_max (length object))
        (not f.is_live && nat_le (cap limits.names f.version) f.count) (nat_le refused_from f.sequence)
        (subst (λ (o : Option (List ℕ)). refusal limits f (ask.change (record { name = c.name; object = o }))
        ≡ Some ask.missing) e is))

served_none : (a b c : Bool) → (if a then Some ask.bad_name else if b then Some ask.missing
    else if c then Some ask.worn else None) ≡ None → b ≡ false
served_none true b c is = absurd (cc)
served_none false true c is = absurd (cc)
served_none false false c is = refl

-- a removal that is served is of a name that is there
pub served_live : (limits : Limits) (f : Facts) (name : List ℕ)
    → refusal limits f (ask.change (record { name = name; object = None })) ≡ None → not f.is_live ≡ false
served_live limits f name is = served_none (not (is_name name)) (not f.is_live)
    (nat_le refused_from f.sequence) is

-- ---- what is served

-- over a file, what a store accepts
pub accepts : {classes : ℕ} (s : StoreValue) (file : List ℕ) (r : Request) → IsStore classes s
    → refusal (limits_of s) (facts_at s r) r ≡ None
    → served (limits_of s) (state_of s file) r ≡ accepted (limits_of s) (state_of s file) r
accepts s file r h is = served_by (limits_of s) (state_of s file) r None
    (ap (λ (f : Facts). refusal (limits_of s) f r) (facts_same s file r h.now.named h.kept.named) ∙ is)

-- the map after a change
pub change_map : (limits : Limits) (t : State) (c : Change)
    → (served_change limits t c).state.map ≡ changed c t.map
change_map limits t c = by (next_book limits.k t.map t.book c).quiet refl
  where
    by : (q : Bool) → (next_book limits.k t.map t.book c).quiet ≡ q
        → (served_change limits t c).state.map ≡ changed c t.map
    by true is = rw is refl
    by false is = rw is refl

-- a change that is quiet keeps what is kept
pub quiet_kept : (limits : Limits) (t : State) (c : Change)
    → (next_book limits.k t.map t.book c).quiet ≡ true
    → ((served_change limits t c).state.kept ≡ t.kept)
    × ((served_change limits t c).state.kept_book ≡ t.kept_book)
quiet_kept limits t c is = (rw is refl, rw is refl)

-- ---- versions

-- books have one version where their digests are there or not alike
pub version_same : (c : Change) (b d : Book) → d.digests ≡ digests_after c b.digests
    → version_of d ≡ version_of b
version_same c b d is = ap (λ (o : Option Map). version_of (record b { digests = o })) is ∙ by b.digests
  where
    by : (o : Option Map) → version_of (record b { digests = digests_after c o })
        ≡ version_of (record b { digests = o })
    by None = refl
    by (Some digests) = refl

pub next_version : (k : ℕ) (m : Map) (b : Book) (c : Change)
    → version_of (next_book k m b c).book ≡ version_of b
next_version k m b c = version_same c b (next_book k m b c).book (next_digests k m b c)
