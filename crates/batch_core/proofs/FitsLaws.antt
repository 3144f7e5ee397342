-- No request of a batch that fits is refused.
use Rattle.std.specs.Prelude.{◌≡◌, ◌≢◌, ◌⊎◌, ℕ, ◌+◌, ◌<◌, ◌≤◌, ◌^◌, nat_le, nat_lt, Bool, true, false, not, ◌&&◌, if◌then◌else◌, List, [], ◌∷◌, ◌++◌, length, is_some, Option, Some, None, option_map, IfSome, refl}
use Rattle.std.proofs.Common.{arith, ap, sym, ◌∙◌, subst, inl, inr}
use Rattle.std.proofs.lemmas.Bool.{cond-false, leb-true, ltb-true}
use Rattle.std.proofs.lemmas.List.{length-map}
use Rattle.std.specs.FinMap as fin
use Rattle.std.specs.List.{AllByRecursion}
use Rattle.size_class.specs.declared.TheConstants.{SIZE_MAX}
use Rattle.slot_codec.specs.Names.{is_name}
use Rattle.slot_codec.specs.Spelling.{cap}
use Rattle.map_model.specs.Maps.{Map}
use Rattle.map_model.specs.Requests as ask
use Rattle.map_model.specs.Requests.{Change, Refused, Request, changed}
use Rattle.map_model.specs.Weights.{same_name}
use Rattle.map_model.proofs.MapLaws.{name_order}
use Rattle.extent_table.specs.Extents.{Spots}
use Rattle.extent_table.specs.declared.spot.Spot.{Spot}
use Rattle.flush_run.proofs.SizeLaws.{with_image}
use Rattle.store_model.specs.Sized.{IsSizedBy}
use Rattle.store_model.proofs.SizedLaws.{sized_entries, sized_len}
use Rattle.store_model.specs.Connection.{StoreValue, live_cap}
use Rattle.store_model.specs.Quiet.{del_of, put_of}
use Rattle.store_model.specs.States.{refused_from}
use Rattle.store_model.specs.Answers.{refusal_for, refused_by}
use Rattle.batch_model.specs.Batches.{IsBatch, IsPart, applied, batch_name}
use Rattle.batch_model.specs.Fits.{misfit}
use Rattle.batch_model.proofs.AppliedLaws.{applied-append}
use Rattle.batch_model.proofs.CountLaws.{other_way}
use Rattle.batch_model.proofs.FitLaws.{CountsFit, misfit_counts}
use Rattle.batch_model.proofs.NextLaws.{cons_append}
use Rattle.batch_model.proofs.ViewLaws.{front_parts, leaves_batch}
use Rattle.batch_core.specs.Doing.{Batch, CanGo, half_done}
use Rattle.batch_core.specs.Making.{CanMake}
use Rattle.batch_core.specs.StoresOn.{StandsFor, StoreOn}
use Rattle.batch_core.proofs.RequestLaws.{sized_live}
use Rattle.batch_core.proofs.ServedLaws.{refused_whole}

-- ---- counts

-- a name that isn't there is one more
pub len_more : (m : Map) (name object : List ℕ) → fin.contains_key m name ≡ false
    → fin.len (fin.insert m name object) ≡ fin.len m + 1
len_more m name object gone = fin.len-insert name_order m name object
    ∙ cond-false (fin.contains_key m name) (fin.len m) (fin.len m + 1) gone

not_le : (a b : ℕ) → b < a → nat_le a b ≡ false
not_le a b low = by (nat_le a b) refl
  where
    by : (t : Bool) → nat_le a b ≡ t → t ≡ false
    by true is = absurd (omega (arith, low, leb-true a b is))
    by false is = refl

not_lt : (a b : ℕ) → b ≤ a → nat_lt a b ≡ false
not_lt a b low = by (nat_lt a b) refl
  where
    by : (t : Bool) → nat_lt a b ≡ t → t ≡ false
    by true is = absurd (omega (arith, low, ltb-true a b is))
    by false is = refl

-- ---- refusals

all_four : (a b c d : Bool) → a ≡ false → b ≡ false → c ≡ false → d ≡ false
    → (if a then Some ask.bad_name else if b then Some ask.too_long else if c then Some ask.full
    else if d then Some ask.worn else None) ≡ None
all_four true b c d p q r t = absurd (cc)
all_four false true c d p q r t = absurd (cc)
all_four false false true d p q r t = absurd (cc)
all_four false false false true p q r t = absurd (cc)
all_four false false false false p q r t = refl

all_three : (a b c : Bool) → a ≡ false → c ≡ false
    → ((if a then Some ask.bad_name else if b then Some ask.missing else if c then Some ask.worn
    else None) ≡ None) ⊎ ((if a then Some ask.bad_name else if b then Some ask.missing
    else if c then Some ask.worn else None) ≡ Some ask.missing)
all_three true b c p q = absurd (cc)
all_three false true c p q = inr refl
all_three false false true p q = absurd (cc)
all_three false false false p q = inl refl

module _ {classes : ℕ} (x : StoreOn) (go : CanGo classes x) (early : x.store.in_use.sequence < 2 ^ 61) where
  abbrev s : StoreValue
  s = x.store

  fresh : nat_le refused_from s.in_use.sequence ≡ false
  fresh = not_le refused_from s.in_use.sequence early

  pub put_refused : (name object : List ℕ) → is_name name ≡ true → length object ≤ SIZE_MAX
      → (not (fin.contains_key s.now name) && nat_le (live_cap s) (fin.len s.now)) ≡ false
      → refused_by s (ask.change (put_of name object)) ≡ None
  put_refused name object named small room = refused_whole s (ask.change (put_of name object)) go.whole
      ∙ ap (option_map refusal_for) (all_four (not (is_name name)) (nat_lt SIZE_MAX (length object))
      (not (fin.contains_key s.now name) && nat_le (live_cap s) (fin.len s.now))
      (nat_le refused_from s.in_use.sequence) (ap not named) (not_lt SIZE_MAX (length object) small) room
      fresh)

  pub del_refused : (name : List ℕ) → is_name name ≡ true → CanMake s (ask.change (del_of name))
  del_refused name named = elim (all_three (not (is_name name)) (not (fin.contains_key s.now name))
      (nat_le refused_from s.in_use.sequence) (ap not named) fresh)
      as (λ _. CanMake s (ask.change (del_of name))) [
        | inl none ↦ inl (refused_whole s (ask.change (del_of name)) go.whole
            ∙ ap (option_map refusal_for) none)
        | inr missing ↦ inr (refused_whole s (ask.change (del_of name)) go.whole
            ∙ ap (option_map refusal_for) missing)
      ]

  pub keep_refused : refused_by s ask.keep ≡ None
  keep_refused = refused_whole s ask.keep go.whole ∙ ap (option_map refusal_for) (one
      (nat_le refused_from s.in_use.sequence) fresh)
    where
      one : (a : Bool) → a ≡ false → (if a then Some ask.worn else None) ≡ None
      one true is = absurd (cc)
      one false is = refl

  -- where there is room for one name more, no put is refused as full
  pub room_for : (name : List ℕ) → (fin.contains_key s.now name ≡ false → fin.len s.now < live_cap s)
      → (not (fin.contains_key s.now name) && nat_le (live_cap s) (fin.len s.now)) ≡ false
  room_for name room = by (fin.contains_key s.now name) refl
    where
      by : (t : Bool) → fin.contains_key s.now name ≡ t
          → (not t && nat_le (live_cap s) (fin.len s.now)) ≡ false
      by true is = refl
      by false is = not_le (live_cap s) (fin.len s.now) (room is)

-- ---- a change of a batch that fits

pub counts_of : (again : Bool) (cap : ℕ) (m : Map) (changes : List Change) → misfit again cap m changes ≡ None
    → changes ≢ [] → CountsFit cap m changes
counts_of again cap m [] none some = absurd (some refl)
counts_of again cap m (c ∷ changes) none some = misfit_counts again cap m c changes none

-- the part at a place
pub part_at : (finished : List Change) (c : Change) (others : List Change)
    → AllByRecursion IsPart (finished ++ c ∷ others) → IsPart c
part_at [] c others parts = parts.0
part_at (d ∷ finished) c others parts = part_at finished c others parts.1

not_empty : (finished : List Change) (c : Change) (others : List Change) → finished ++ c ∷ others ≢ []
not_empty [] c others is = absurd (cc)
not_empty (d ∷ finished) c others is = absurd (cc)

module _ (b : Batch) (cap : ℕ) (batch : IsBatch b.text b.changes) (free : fin.get b.map batch_name ≡ None)
    (fits : misfit true cap b.map b.changes ≡ None) (finished : List Change) (c : Change)
    (others : List Change) (split : b.changes ≡ finished ++ c ∷ others) where
  abbrev m : Map
  m = applied finished b.map

  parts : AllByRecursion IsPart (finished ++ c ∷ others)
  parts = subst (λ (xs : List Change). AllByRecursion IsPart xs) split batch.parts

  pub part : IsPart c
  part = part_at finished c others parts

  pub absent : fin.get m batch_name ≡ None
  absent = leaves_batch finished b.map (front_parts finished (c ∷ others) parts) ∙ free

  few : fin.len (changed c m) < cap
  few = subst (λ (n : Map). fin.len n < cap) (applied-append finished (c ∷ []) b.map)
      (counts_of true cap b.map b.changes fits
      (λ none. not_empty finished c others (sym split ∙ none)) (finished ++ c ∷ []) others
      (split ∙ cons_append finished c others))

  -- a name that is there beside the batch
  beside : fin.contains_key (half_done b finished) c.name ≡ fin.contains_key m c.name
  beside = ap is_some (fin.get-insert name_order m batch_name b.text c.name
      ∙ cond-false (same_name c.name batch_name) (Some b.text) (fin.get m c.name)
      (other_way batch_name c.name part.other))

  pub half_len : fin.len (half_done b finished) ≡ fin.len m + 1
  half_len = len_more m batch_name b.text (ap is_some absent)

  pub room_left : (object : List ℕ) → c.object ≡ Some object
      → fin.contains_key (half_done b finished) c.name ≡ false → fin.len (half_done b finished) < cap
  room_left object is gone =
      let more : fin.len (changed c m) ≡ fin.len m + 1 =
      ap (λ (o : Option (List ℕ)). fin.len (changed (record { name = c.name; object = o }) m)) is
      ∙ len_more m c.name object (sym beside ∙ gone) in
      omega (arith, half_len, more, few)

  -- the store stands for the map with the batch beside it
  pub can_change : {classes : ℕ} (x : StoreOn) → CanGo classes x → StandsFor x (half_done b finished)
      → cap ≡ live_cap x.store → x.store.in_use.sequence < 2 ^ 61 → CanMake x.store (ask.change c)
  can_change x go stands same early = by c.object refl
    where
      by : (o : Option (List ℕ)) → c.object ≡ o
          → CanMake x.store (ask.change (record { name = c.name; object = o }))
      by None is = del_refused x go early c.name part.named
      by (Some object) is = inl (put_refused x go early c.name object part.named
          (subst (λ (o : Option (List ℕ)). IfSome o (λ y. length y ≤ SIZE_MAX)) is part.small)
          (room_for x go early c.name (λ gone.
          let low : fin.len (half_done b finished) < cap = room_left object is
          (sized_live (half_done b finished) x.store.now c.name stands.sized ∙ gone) in
          omega (arith, low, same, sized_len (half_done b finished) x.store.now stands.sized))))
