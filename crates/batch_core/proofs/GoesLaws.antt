-- Requests of a batch one after another, until the disk fails.
use Rattle.std.specs.Prelude.{◌≡◌, ◌⊎◌, ℕ, ◌+◌, ◌^◌, ◌≤◌, Bool, true, false, ◌||◌, if◌then◌else◌, List, [], ◌∷◌, ◌++◌, is_some, Ok, Err, IsTrue, refl}
use Rattle.std.proofs.Common.{arith, ap, sym, ◌∙◌, subst, inl, inr}
use Rattle.std.proofs.Math.Nat.{le-max_left, le-max_right, max-le}
use Rattle.std.specs.FinMap as fin
use Rattle.disk_face.specs.Moments.{Leaves}
use Rattle.disk_face.proofs.FrameLaws.{Stays-trans}
use Rattle.disk_face.proofs.MomentLaws.{Leaves-none, Leaves-trans, Leaves-weaken}
use Rattle.size_class.specs.declared.TheConstants.{SIZE_MAX}
use Rattle.slot_codec.specs.declared.codec.SuperBlock.{SuperBlock}
use Rattle.map_model.specs.Maps.{Map}
use Rattle.map_model.specs.Requests as ask
use Rattle.map_model.specs.Requests.{Reply, Request}
use Rattle.segment_layout.specs.Books.{Book, version_of}
use Rattle.table_rules.specs.Opening.{Opens}
use Rattle.table_rules.proofs.SequenceLaws.{sequence_wider}
use Rattle.store_model.specs.Connection.{IsKeptImage, limits_of}
use Rattle.store_model.specs.States.{Limits, Run, State}
use Rattle.batch_core.specs.Doing.{CanGo}
use Rattle.batch_core.specs.Going.{Goes, Going, IsLeft, KeepsSuch, Stops, most_after}
use Rattle.batch_core.specs.Making.{IsMakingImage, Makes, OpensAs, OpensToLast, left_by, most_raised, raised_by}
use Rattle.batch_core.specs.StoresOn.{RestsOn, StandsFor, StoreOn, state_on}

abbrev pub going : List Request → ℕ → Map → Going
going requests made m = record { requests = requests; made = made; map = m }

-- a run, and another after it
run_append : (limits : Limits) (s t u : State) (rs qs : List Request) (xs ys : List Reply)
    → Run limits s rs xs t → Run limits t qs ys u → Run limits s (rs ++ qs) (xs ++ ys) u
run_append limits s t u [] qs [] ys first second = subst (λ (x : State). Run limits x qs ys u) first second
run_append limits s t u [] qs (x ∷ xs) ys first second = absurd (first)
run_append limits s t u (r ∷ rs) qs [] ys first second = absurd (first)
run_append limits s t u (r ∷ rs) qs (x ∷ xs) ys first second = (
  first.0,
  first.1,
  run_append limits first.0 t u rs qs xs ys first.2 second,
)

-- no request yet
pub goes_none : {classes : ℕ} (Such : Map → Type 0) (x : StoreOn) (m : Map) → CanGo classes x
    → StandsFor x m → Goes classes Such x x (going [] 0 m)
goes_none {classes} Such x m go stands = record {
  ran = λ told. ([], refl);
  stands = stands;
  kept = λ told. inl (refl, refl);
  rests = λ told rest. rest;
  left = λ told rest. Leaves-none x.disk (IsLeft classes Such x);
  block = refl;
  version = refl;
  reach = omega arith;
  most = le-max_left x.store.in_use.sequence (2 ^ 61);
  unbroken = go.whole;
  sound = go.sound;
  over = go.over;
  calm = refl;
  frame = record {
    no_turn_back = omega arith;
    stays = record { ready = go.ready; told = refl; images_told = refl; same_mount = refl };
  };
}

-- an image that has the last checkpoint
pub kept_left : {classes : ℕ} (Such : Map → Type 0) (x : StoreOn) (image : List ℕ)
    → IsKeptImage classes x.store x.disk.file image → IsLeft classes Such x image
kept_left Such x image is = record {
  opens = inl is.opens;
  sequence = sequence_wider x.store.in_use.sequence (most_after x) image
      (le-max_left x.store.in_use.sequence (2 ^ 61)) is.sequence;
}

-- what is left of one request
image_one : {classes : ℕ} (Such : Map → Type 0) (x : StoreOn) (m : Map) → Such m
    → x.store.in_use.sequence + most_raised ≤ 2 ^ 61 → (image : List ℕ)
    → IsMakingImage classes x m image → IsLeft classes Such x image
image_one {classes} Such x m such early image is = record {
  opens = elim is.opens as (λ _. OpensToLast classes x image
      ⊎ ((n : Map) × Such n × OpensAs classes (version_of x.store.book) n image)) [
        | inl kept ↦ inl kept
        | inr now ↦ inr (m, such, now)
      ];
  sequence = sequence_wider (x.store.in_use.sequence + most_raised) (most_after x) image
      (omega (arith, early, le-max_right x.store.in_use.sequence (2 ^ 61))) is.sequence;
}

pub raised_low : (r : Request) (m : Map) → raised_by r m ≤ 1
raised_low (ask.change c) m = by (is_some c.object || fin.contains_key m c.name)
  where
    by : (b : Bool) → (if b then 1 else 0) ≤ 1
    by true = omega arith
    by false = omega arith
raised_low (ask.get name) m = omega arith
raised_low (ask.old name) m = omega arith
raised_low ask.keep m = omega arith
raised_low ask.back m = omega arith
raised_low ask.list m = omega arith
raised_low ask.stat m = omega arith

module _ {classes : ℕ} {T E : Type 0} (Such : Map → Type 0) (x y : StoreOn) (r : Request) (m : Map)
    (such : Such (left_by r m)) (early : x.store.in_use.sequence + most_raised ≤ 2 ^ 61) where
  -- one that was made
  pub goes_one : (u : T) → Makes {T = T} {E = E} classes r x y m (Ok u)
      → Goes classes Such x y (going (r ∷ []) (raised_by r m) (left_by r m))
  goes_one u k = record {
    ran = λ told. ((k.done.step told).0 ∷ [], (state_on y, (k.done.step told).1, refl));
    stands = k.done.stands;
    kept = λ told. elim (k.done.kept told) as (λ _. KeepsSuch Such x y) [
      | inl same ↦ inl same
      | inr now ↦ inr (subst Such (sym now.0) such, now.1)
    ];
    rests = k.done.rests;
    left = λ told rest. Leaves-weaken (IsLeft classes Such x) (image_one Such x (left_by r m) such early)
        (k.left told rest);
    block = k.done.block;
    version = k.done.version;
    reach = k.done.reach;
    most = omega (arith, k.done.reach, raised_low r m, early, le-max_right x.store.in_use.sequence (2 ^ 61));
    unbroken = k.broken;
    sound = k.done.sound;
    over = k.over;
    calm = k.cause.calm;
    frame = k.frame;
  }

  -- one in which the disk failed
  pub stops_one : (e : E) → Makes {T = T} {E = E} classes r x y m (Err e) → Stops classes Such x y
  stops_one e k = record {
    left = λ told rest. Leaves-weaken (IsLeft classes Such x) (image_one Such x (left_by r m) such early)
        (k.left told rest);
    content = λ told. image_one Such x (left_by r m) such early y.disk.file (k.content told);
    broken = k.broken;
    idle = k.over.idle;
    rose = k.cause.rose;
    later = k.cause.later;
    frame = k.frame;
  }

module _ {classes : ℕ} (Such : Map → Type 0) (x y z : StoreOn) (g : Going) (first : Goes classes Such x y g)
  where
    told_then : IsTrue x.disk.tells → IsTrue y.disk.tells
    told_then told = subst IsTrue (sym first.frame.stays.told) told

    same_limits : limits_of y.store ≡ limits_of x.store
    same_limits =
        ap (λ (u : SuperBlock). record { k = u.k; names = u.names; size_max = SIZE_MAX }) first.block

    abbrev OpensThen : List ℕ → Type 0
    OpensThen image = OpensToLast classes x image
        ⊎ ((m : Map) × Such m × OpensAs classes (version_of x.store.book) m image)

    -- what is left later opens to what is left of the whole
    opens_then : IsTrue x.disk.tells → (image : List ℕ) → OpensToLast classes y image
        ⊎ ((m : Map) × Such m × OpensAs classes (version_of y.store.book) m image) → OpensThen image
    opens_then told image (inl kept) = elim (first.kept told) as (λ _. OpensThen image) [
      | inl same ↦ inl (subst (λ (m : Map). Opens classes SIZE_MAX image m x.store.kept_book) same.0
          (subst (λ (b : Book). Opens classes SIZE_MAX image (state_on y).kept b) same.1 kept))
      | inr now ↦ inr (
        (state_on y).kept,
        now.0,
        record {
          book = y.store.kept_book;
          opens = kept;
          same_version = now.1;
        },
      )
    ]
    opens_then told image (inr now) =
        inr (
          now.0,
          now.1,
          record {
            book = now.2.book;
            opens = now.2.opens;
            same_version = now.2.same_version ∙ first.version;
          },
        )

    most_then : most_after y ≤ most_after x
    most_then = max-le first.most (le-max_right x.store.in_use.sequence (2 ^ 61))

    image_then : IsTrue x.disk.tells → (image : List ℕ) → IsLeft classes Such y image
        → IsLeft classes Such x image
    image_then told image is = record {
      opens = opens_then told image is.opens;
      sequence = sequence_wider (most_after y) (most_after x) image most_then is.sequence;
    }

    pub can_go_then : CanGo classes y
    can_go_then = record {
      whole = first.unbroken;
      sound = first.sound;
      over = first.over;
      ready = first.frame.stays.ready;
    }

    left_then : IsTrue x.disk.tells → RestsOn x
        → (RestsOn y → Leaves y.disk z.disk (IsLeft classes Such y))
        → Leaves x.disk z.disk (IsLeft classes Such x)
    left_then told rest second = Leaves-trans (first.left told rest)
        (Leaves-weaken (IsLeft classes Such x) (image_then told) (second (first.rests told rest)))

    pub goes_then : (h : Going) → Goes classes Such y z h
        → Goes classes Such x z (going (g.requests ++ h.requests) (g.made + h.made) h.map)
    goes_then h second = record {
      ran = λ told.
          let one = first.ran told in
          let two = second.ran (told_then told) in (
            one.0 ++ two.0,
            run_append (limits_of x.store) (state_on x) (state_on y) (state_on z) g.requests h.requests
                one.0 two.0 one.1
                (subst (λ (l : Limits). Run l (state_on y) h.requests two.0 (state_on z)) same_limits two.1),
          );
      stands = second.stands;
      kept = λ told. elim (second.kept (told_then told)) as (λ _. KeepsSuch Such x z) [
        | inl same ↦ elim (first.kept told) as (λ _. KeepsSuch Such x z) [
          | inl before ↦ inl (same.0 ∙ before.0, same.1 ∙ before.1)
          | inr now ↦ inr (subst Such (sym same.0) now.0, ap version_of same.1 ∙ now.1)
        ]
        | inr now ↦ inr (now.0, now.1 ∙ first.version)
      ];
      rests = λ told rest. second.rests (told_then told) (first.rests told rest);
      left = λ told rest. left_then told rest (second.left (told_then told));
      block = second.block ∙ first.block;
      version = second.version ∙ first.version;
      reach = omega (arith, first.reach, second.reach);
      most = omega (arith, second.most, most_then);
      unbroken = second.unbroken;
      sound = second.sound;
      over = second.over;
      calm = second.calm ∙ first.calm;
      frame = record {
        no_turn_back = omega (arith, first.frame.no_turn_back, second.frame.no_turn_back);
        stays = Stays-trans first.frame.stays second.frame.stays;
      };
    }

    pub stops_then : Stops classes Such y z → Stops classes Such x z
    stops_then second = record {
      left = λ told rest. left_then told rest (second.left (told_then told));
      content = λ told. image_then told z.disk.file (second.content (told_then told));
      broken = second.broken;
      idle = second.idle;
      rose = omega (arith, first.calm, second.rose);
      later = omega (arith, first.calm, second.later);
      frame = record {
        no_turn_back = omega (arith, first.frame.no_turn_back, second.frame.no_turn_back);
        stays = Stays-trans first.frame.stays second.frame.stays;
      };
    }
