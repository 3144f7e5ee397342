-- What one request of a batch leaves: a quiet change, a flush, or a removal that finds nothing.
use Rattle.std.specs.Prelude.{◌≡◌, ℕ, ◌+◌, ◌*◌, ◌≤◌, Bool, true, false, not, cond, if◌then◌else◌, List, length, is_some, Option, Some, None, option_map, IsNone, IsTrue, refl}
use Rattle.std.proofs.Common.{arith, rules, ap, sym, ◌∙◌, subst, inl, inr}
use Rattle.std.specs.FinMap as fin
use Rattle.disk_face.specs.Moments.{Leaves}
use Rattle.disk_face.specs.States as disk
use Rattle.disk_face.proofs.MomentLaws.{Leaves-weaken}
use Rattle.size_class.specs.declared.TheConstants.{SIZE_MAX}
use Rattle.map_model.specs.Maps.{Map}
use Rattle.map_model.specs.Requests as ask
use Rattle.map_model.specs.Requests.{Change, Reply, Request, changed}
use Rattle.map_model.specs.Weights.{same_name}
use Rattle.segment_layout.specs.Books.{Book, is_quiet, next_book, version_of}
use Rattle.table_rules.specs.Opening.{Opens}
use Rattle.extent_table.specs.Extents.{Spots}
use Rattle.extent_table.specs.declared.spot.Spot.{Spot}
use Rattle.placement_model.specs.Reads.{read_at}
use Rattle.flush_run.specs.Parts.{size_in}
use Rattle.store_model.specs.Sized.{IsSizedBy}
use Rattle.store_model.proofs.SizedLaws.{sized_gone, sized_put}
use Rattle.store_model.specs.Connection.{IsOver, SameOnTable, StoreValue, RestsOnTable, base_of, limits_of, state_of}
use Rattle.store_model.specs.Quiet.{charges_of}
use Rattle.store_model.specs.States.{Served, State, Step, accepted, served}
use Rattle.store_model.specs.Stores.{IsStore}
use Rattle.store_model.proofs.OverLaws.{kept_image, same_itself}
use Rattle.store_model.specs.declared.answers.Refusal.{Refusal}
use Rattle.store_model.specs.Answers.{facts_at, refused_by}
use Rattle.store_model.specs.Changes.{ChangesQuietly, HasChanged, NothingChanged}
use Rattle.store_model.specs.Flushes.{ChangesByFlush}
use Rattle.store_model.proofs.QuietLaws.{quiet_by_book}
use Rattle.batch_model.specs.Fits.{made_by}
use Rattle.batch_model.proofs.AppliedLaws.{get-changed, remove-absent}
use Rattle.batch_core.specs.Doing.{CanGo}
use Rattle.batch_core.specs.Making.{IsDone, IsMakingImage, left_by, most_raised, raised_by}
use Rattle.batch_core.specs.StoresOn.{RestsOn, StandsFor, StoreOn, state_on}
use Rattle.batch_core.proofs.ServedLaws.{accepts, change_map, next_version, quiet_kept, served_live, version_same}
use Rattle.table_rules.specs.Sequences.{HasSequenceUpTo}
use Rattle.table_rules.proofs.SequenceLaws.{sequence_wider}
use Rattle.store_model.proofs.AnsweredLaws.{served_is}

-- ---- names

-- a map whose objects have the sizes of spots has their names
pub sized_live : (m : Map) (spots : Spots) (name : List ℕ) → IsSizedBy m spots
    → fin.contains_key m name ≡ fin.contains_key spots name
sized_live m spots name sized = by (fin.get m name) (fin.get spots name) (sized name)
  where
    by : (o : Option (List ℕ)) (p : Option Spot)
        → option_map length o ≡ option_map (λ (s : Spot). s.size) p → is_some o ≡ is_some p
    by None None is = refl
    by None (Some s) is = absurd (cc)
    by (Some object) None is = absurd (cc)
    by (Some object) (Some s) is = refl

pub none_is : (o : Option Refusal) → o ≡ None → IsNone o
none_is None is = search rules
none_is (Some x) is = absurd (cc)

module _ {classes : ℕ} (x y : StoreOn) (m : Map) (go : CanGo classes x) (stands : StandsFor x m) where
  abbrev s : StoreValue
  s = x.store

  abbrev new : StoreValue
  new = y.store

  abbrev a : disk.State
  a = x.disk

  abbrev d : disk.State
  d = y.disk

  over : IsTrue a.tells → IsOver classes s a.file
  over = go.over.over go.whole

  -- ---- what a change leaves that was done

  module _ (c : Change) (accepted_c : refused_by s (ask.change c) ≡ None)
      (step : IsTrue a.tells → (reply : Reply) × Step (limits_of s) (state_on x) (ask.change c) reply
      (state_on y)) (sound : IsStore classes new) where
    is_served : served (limits_of s) (state_on x) (ask.change c)
        ≡ accepted (limits_of s) (state_on x) (ask.change c)
    is_served = accepts s a.file (ask.change c) go.sound (served_is s (ask.change c) go.whole accepted_c)

    map_now : IsTrue a.tells → (state_on y).map ≡ changed c m
    map_now told = ap (λ (t : State). t.map) (step told).1.state
        ∙ ap (λ (v : Served). v.state.map) is_served
        ∙ change_map (limits_of s) (state_on x) c ∙ ap (changed c) (stands.told told)

    raised : raised_by (ask.change c) m ≡ 1
    raised = by c.object accepted_c
      where
        by : (o : Option (List ℕ)) → refused_by s (ask.change (record { name = c.name; object = o })) ≡ None
            → made_by m (record { name = c.name; object = o }) ≡ 1
        by (Some object) none = refl
        by None none = ap (λ (b : Bool). if b then 1 else 0) (sized_live m s.now c.name stands.sized
            ∙ live (fin.contains_key s.now c.name) (served_live (limits_of s)
            (facts_at s (ask.change (record { name = c.name; object = None }))) c.name
            (served_is s (ask.change (record { name = c.name; object = None })) go.whole none)))
          where
            live : (b : Bool) → not b ≡ false → b ≡ true
            live true is = refl
            live false is = absurd (cc)

    -- a quiet one
    module _ (quiet : is_quiet (charges_of s c) ≡ true) (v : ChangesQuietly classes c s new)
        (told_now : d.tells ≡ a.tells)
        (rests : IsTrue a.tells → RestsOnTable (base_of s) s.kept a → RestsOnTable (base_of s) s.kept d) where
      sized_quiet : (o : Option (List ℕ)) → HasChanged (record { name = c.name; object = o }) s new
          → IsSizedBy (changed (record { name = c.name; object = o }) m) new.now
      sized_quiet None is = subst (λ (t : Spots). IsSizedBy (fin.remove m c.name) t) (sym is)
          (sized_gone m s.now c.name stands.sized)
      sized_quiet (Some object) is = subst (λ (t : Spots). IsSizedBy (fin.insert m c.name object) t)
          (sym is.2)
          (sized_put m s.now c.name object (record { place = is.0; size = length object }) refl stands.sized)

      quiet_book : IsTrue a.tells → (next_book s.in_use.block.k (state_on x).map s.book c).quiet ≡ true
      quiet_book told = quiet_by_book classes s a.file c go.sound (over told) ∙ quiet

      pub quiet_done : IsDone classes (ask.change c) x y m
      quiet_done = record {
        step = step;
        stands = record {
          sized = sized_quiet c.object v.places;
          told = λ told. map_now (subst IsTrue told_now told);
        };
        kept = λ told. inl (
          ap (λ (t : State). t.kept) (step told).1.state ∙ ap (λ (z : Served). z.state.kept) is_served
              ∙ (quiet_kept (limits_of s) (state_on x) c (quiet_book told)).0,
          ap (λ (t : State). t.kept_book) (step told).1.state
              ∙ ap (λ (z : Served). z.state.kept_book) is_served
              ∙ (quiet_kept (limits_of s) (state_on x) c (quiet_book told)).1,
        );
        rests = λ told rest. subst (λ (z : StoreValue). RestsOnTable (base_of z) z.kept d) (sym v.rest)
            (rests told rest);
        block = ap (λ (z : StoreValue). z.in_use.block) v.rest;
        version = version_same c s.book new.book (ap (λ (z : StoreValue). z.book.digests) v.rest);
        reach = omega (arith, ap (λ (z : StoreValue). z.in_use.sequence) v.rest);
        sound = sound;
      }

    -- one with a flush
    module _ (v : ChangesByFlush c s new) (told_now : d.tells ≡ a.tells)
        (few_saves : new.in_use.sequence ≤ s.in_use.sequence + 2 * s.in_use.block.k)
        (rests : IsTrue a.tells → RestsOnTable (base_of new) new.kept d) where
      sized_flush : IsSizedBy (changed c m) new.now
      sized_flush q = ap (option_map length) (get-changed c m q) ∙ by (same_name q c.name) ∙ sym (v.sizes q)
        where
          by : (b : Bool) → option_map length (cond b c.object (fin.get m q))
              ≡ cond b (option_map length c.object) (size_in s.now q)
          by true = refl
          by false = stands.sized q

      pub flush_done : IsDone classes (ask.change c) x y m
      flush_done = record {
        step = step;
        stands = record { sized = sized_flush; told = λ told. map_now (subst IsTrue told_now told) };
        kept = λ told. inr (
          ap (read_at (base_of new) d.file) v.kept ∙ map_now told,
          ap version_of (v.kept_book ∙ v.book m stands.sized)
              ∙ next_version s.in_use.block.k m s.book c,
        );
        rests = λ told rest. rests told;
        block = v.same_block;
        version = ap version_of (v.book m stands.sized) ∙ next_version s.in_use.block.k m s.book c;
        reach = omega (arith, few_saves, go.sound.block.divisor_high, raised);
        sound = sound;
      }

  -- ---- what is left of one

  pub kept_is : (image : List ℕ) → Opens classes SIZE_MAX image (state_on x).kept s.kept_book
      → HasSequenceUpTo s.in_use.sequence image → (r : Request) → IsMakingImage classes x (left_by r m) image
  kept_is image is low r = record {
    opens = inl is;
    sequence = sequence_wider s.in_use.sequence (s.in_use.sequence + most_raised) image (omega arith) low;
  }

  pub opens_as : (image : List ℕ) (n : Map) (b : Book) (r : Request) → n ≡ left_by r m
      → version_of b ≡ version_of s.book → HasSequenceUpTo (s.in_use.sequence + most_raised) image
      → Opens classes SIZE_MAX image n b → IsMakingImage classes x (left_by r m) image
  opens_as image n b r same version low is = record {
    opens = inr (record {
      book = b;
      opens = subst (λ (z : Map). Opens classes SIZE_MAX image z b) same is;
      same_version = version;
    });
    sequence = low;
  }

  -- ---- nothing changed

  module _ (same : NothingChanged s new a d) where
    pub same_file : IsTrue a.tells → d.file ≡ a.file
    same_file = same.same_disk.same_file

    same_rests : IsTrue a.tells → RestsOn x → RestsOn y
    same_rests told rest = subst (λ (z : StoreValue). RestsOnTable (base_of z) z.kept d) (sym same.same_store)
        (λ image may. subst (λ (f : List ℕ). SameOnTable (base_of s) s.kept f image)
        (sym (same_file told)) (rest image (same.same_disk.images image may)))

    pub same_left : (r : Request) → IsTrue a.tells → RestsOn x
        → Leaves a d (IsMakingImage classes x (left_by r m))
    same_left r told rest = Leaves-weaken (IsMakingImage classes x (left_by r m)) (λ image may.
        let kept = kept_image s go.sound a.file (over told) image (rest image may) in
        kept_is image kept.opens kept.sequence r) same.same_disk.since

    pub same_content : (r : Request) → IsTrue a.tells → IsMakingImage classes x (left_by r m) d.file
    same_content r told =
        let kept = kept_image s go.sound a.file (over told) a.file (same_itself (base_of s) s.kept a.file) in
        subst (λ (f : List ℕ). IsMakingImage classes x (left_by r m) f) (sym (same_file told))
        (kept_is a.file kept.opens kept.sequence r)

    module _ (c : Change) (gone : c.object ≡ None) (absent : fin.get m c.name ≡ None)
        (step : IsTrue a.tells → (reply : Reply) × Step (limits_of s) (state_on x) (ask.change c) reply
        (state_on y)) where
      same_map : changed c m ≡ m
      same_map = ap (λ (o : Option (List ℕ)). changed (record { name = c.name; object = o }) m) gone
          ∙ remove-absent m c.name absent

      state_same : IsTrue a.tells → state_on y ≡ state_on x
      state_same told = ap (λ (z : StoreValue). state_of z d.file) same.same_store
          ∙ ap (state_of s) (same_file told)

      pub missing_done : IsDone classes (ask.change c) x y m
      missing_done = record {
        step = step;
        stands = record {
          sized = subst (λ (n : Map). IsSizedBy n new.now) (sym same_map)
              (subst (λ (z : StoreValue). IsSizedBy m z.now) (sym same.same_store) stands.sized);
          told = λ told.
              let before : IsTrue a.tells = subst IsTrue same.same_disk.stays.told told in
              ap (λ (t : State). t.map) (state_same before) ∙ stands.told before ∙ sym same_map;
        };
        kept = λ told. inl (
          ap (λ (t : State). t.kept) (state_same told),
          ap (λ (z : StoreValue). z.kept_book) same.same_store,
        );
        rests = same_rests;
        block = ap (λ (z : StoreValue). z.in_use.block) same.same_store;
        version = ap (λ (z : StoreValue). version_of z.book) same.same_store;
        reach = omega (arith, ap (λ (z : StoreValue). z.in_use.sequence) same.same_store);
        sound = subst (λ (z : StoreValue). IsStore classes z) (sym same.same_store) go.sound;
      }
