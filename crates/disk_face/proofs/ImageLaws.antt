-- How the images of a file go on from call to call.
use Rattle.std.specs.Prelude.{◌≡◌, ◌⊎◌, ℕ, zero, suc, ◌+◌, ◌<◌, ◌≤◌, nat_le, nat_lt, Bool, true, false, cond, ◌&&◌, ◌||◌, List, [], ◌∷◌, length, map, slice_index, Contains, IsTrue, refl}
use Rattle.std.specs.List.{list_any}
use Rattle.std.proofs.Common.{arith, sym, ◌∙◌, ap, subst, inl, inr, le-ltb, le-leb}
use Rattle.std.proofs.lemmas.List.{get_or_past}
use Rattle.std.proofs.lemmas.List.Folds.{list_any_at}
use Rattle.std.proofs.lemmas.Bool.{cases_lt, leb-true}
use Rattle.std.proofs.lemmas.Grind.{same_number_lists}
use Rattle.byte_ranges.specs.Lists.{below}
use Rattle.byte_ranges.proofs.ListLaws.{length-map_below, map_below-index}
use Rattle.byte_ranges.specs.Ranges.{SameOutside, resized}
use Rattle.byte_ranges.proofs.RangeLaws.{length-resized, resized-index}
use Rattle.disk_face.specs.Images.{Unsynced, IsImage, is_unsynced, in_range, after_sync, with_range, with_length}
use Rattle.disk_face.specs.Moments.{ResizedImage}

-- the image before a write: the new image's byte where any byte may stand, and else the synced one
abbrev before_byte : Unsynced → List ℕ → ℕ → ℕ
before_byte u image i = cond (is_unsynced u i) (slice_index image i) (slice_index u.synced i)

abbrev before_write : Unsynced → List ℕ → List ℕ
before_write u image = map (before_byte u image) (below (length image))

and_off : (x : Bool) → (x && false) ≡ false
and_off true = refl
and_off false = refl

pub outside_range : (i at n : ℕ) → (i < at) ⊎ (at + n ≤ i) → in_range i (at, n) ≡ false
outside_range i at n (inl low) = ap (λ x. x && nat_lt i (at + n)) (not_le at i low)
  where
    not_le : (a b : ℕ) → b < a → nat_le a b ≡ false
    not_le a b h = grind (arith, h)
outside_range i at n (inr high) = ap (λ x. nat_le at i && x) (le-ltb i (at + n) high) ∙ and_off (nat_le at i)

-- a write makes loose what lies in its range alone
loose_outside : (u : Unsynced) (at n i : ℕ) → (i < at) ⊎ (at + n ≤ i)
    → is_unsynced (with_range u at n) i ≡ is_unsynced u i
loose_outside u at n i out = ap (λ x. (x || list_any (in_range i) u.ranges)
    || list_any (λ m. nat_le m i) u.lengths) (outside_range i at n out)

-- the byte before a write is the image's own, outside the range
same_byte : (u : Unsynced) (at n : ℕ) (image : List ℕ) (i : ℕ) → IsImage (with_range u at n) image
    → i < length image → (i < at) ⊎ (at + n ≤ i) → before_byte u image i ≡ slice_index image i
same_byte u at n image i is low out =
    elim (is.bytes i low) as (λ x. before_byte u image i ≡ slice_index image i) [
      | inl loose ↦ ap (λ b. cond b (slice_index image i) (slice_index u.synced i))
          (sym (loose_outside u at n i out) ∙ true_of loose)
      | inr same ↦ either (is_unsynced u i) (slice_index image i) (slice_index u.synced i) same
    ]
  where
    true_of : {b : Bool} → IsTrue b → b ≡ true
    true_of h = h

    either : (b : Bool) (x y : ℕ) → x ≡ y → cond b x y ≡ x
    either true x y e = refl
    either false x y e = sym e

choose : (b : Bool) (x y z : ℕ) → z ≡ cond b x y → IsTrue b ⊎ (z ≡ y)
choose true x y z e = inl refl
choose false x y z e = inr e

before_is_image : (u : Unsynced) (at n : ℕ) (image : List ℕ) → IsImage (with_range u at n) image
    → IsImage u (before_write u image)
before_is_image u at n image is =
    record {
      held_length = subst (λ m. Contains u.lengths m)
          (sym (length-map_below (before_byte u image) (length image))) is.held_length;
      bytes = λ i low.
          let short : i < length image = omega
          (arith, low, length-map_below (before_byte u image) (length image)) in
          choose (is_unsynced u i) (slice_index image i) (slice_index u.synced i)
          (slice_index (before_write u image) i)
          (map_below-index (before_byte u image) (length image) i short);
    }

-- Each image once a range is written, or is being written, is one of before but for the range.
pub image_after_range : (u : Unsynced) (at n : ℕ) (image : List ℕ) → IsImage (with_range u at n) image
    → (before : List ℕ) × IsImage u before × SameOutside at n before image
image_after_range u at n image is = (
  before_write u image,
  before_is_image u at n image is,
  record {
    same_length = length-map_below (before_byte u image) (length image);
    below = λ i low. byte i (inl low);
    above = λ i high. byte i (inr high);
  },
)
  where
    past : (i : ℕ) → length image ≤ i → slice_index (before_write u image) i ≡ slice_index image i
    past i h = get_or_past (before_write u image) i 0
        (omega (arith, h, length-map_below (before_byte u image) (length image)))
        ∙ sym (get_or_past image i 0 h)

    byte : (i : ℕ) → (i < at) ⊎ (at + n ≤ i) → slice_index (before_write u image) i ≡ slice_index image i
    byte i out = elim (cases_lt i (length image))
        as (λ x. slice_index (before_write u image) i ≡ slice_index image i) [
          | inl low ↦ map_below-index (before_byte u image) (length image) i low
              ∙ same_byte u at n image i is low out
          | inr high ↦ past i high
        ]

-- A range more, or a length more, leaves each image an image.

or_wider : (x a b : Bool) → IsTrue (a || b) → IsTrue ((x || a) || b)
or_wider true a b h = refl
or_wider false a b h = h

or_longer : (x a b : Bool) → IsTrue (a || b) → IsTrue (a || (x || b))
or_longer x true b h = refl
or_longer true false b h = refl
or_longer false false b h = h

or_shorter : (x a b : Bool) → x ≡ false → IsTrue (a || (x || b)) → IsTrue (a || b)
or_shorter x true b e h = refl
or_shorter true false b e h = cc
or_shorter false false b e h = h

or_right : (a b : Bool) → IsTrue b → IsTrue (a || b)
or_right true b h = refl
or_right false b h = h

or_inside : (x a b : Bool) → IsTrue x → IsTrue ((x || a) || b)
or_inside true a b h = refl
or_inside false a b h = cc

pub image_with_range : (u : Unsynced) (at n : ℕ) (image : List ℕ) → IsImage u image
    → IsImage (with_range u at n) image
image_with_range u at n image is =
    record {
      held_length = is.held_length;
      bytes = λ i low. elim (is.bytes i low)
          as (λ x. IsTrue (is_unsynced (with_range u at n) i)
          ⊎ (slice_index image i ≡ slice_index u.synced i)) [
            | inl loose ↦ inl (or_wider (in_range i (at, n)) (list_any (in_range i) u.ranges)
                (list_any (λ m. nat_le m i) u.lengths) loose)
            | inr same ↦ inr same
          ];
    }

contains_more : (xs : List ℕ) (y x : ℕ) → Contains xs x → Contains (y ∷ xs) x
contains_more xs y x (k, low, is) = (suc k, omega (arith, low), is)

pub image_with_length : (u : Unsynced) (n : ℕ) (image : List ℕ) → IsImage u image
    → IsImage (with_length u n) image
image_with_length u n image is =
    record {
      held_length = contains_more u.lengths n (length image) is.held_length;
      bytes = λ i low. elim (is.bytes i low)
          as (λ x. IsTrue (is_unsynced (with_length u n) i)
          ⊎ (slice_index image i ≡ slice_index u.synced i)) [
            | inl loose ↦ inl (or_longer (nat_le n i) (list_any (in_range i) u.ranges)
                (list_any (λ m. nat_le m i) u.lengths) loose)
            | inr same ↦ inr same
          ];
    }

-- What reads give is an image: after a sync, after a write, and after a change of the length.

pub synced_image : (bytes : List ℕ) → IsImage (after_sync bytes) bytes
synced_image bytes = record { held_length = (zero, omega arith, refl); bytes = λ i low. inr refl }

pub inside_range : (i at n : ℕ) → at ≤ i → i < at + n → IsTrue (in_range i (at, n))
inside_range i at n low high = ap (λ x. x && nat_lt i (at + n)) (le-leb at i low)
    ∙ le-ltb_true i (at + n) high
  where
    le-ltb_true : (a b : ℕ) → a < b → nat_lt a b ≡ true
    le-ltb_true a b h = grind (arith, h)

pub image_written : (u : Unsynced) (at n : ℕ) (old new : List ℕ) → IsImage u old → SameOutside at n old new
    → IsImage (with_range u at n) new
image_written u at n old new is same =
    record {
      held_length = subst (λ m. Contains u.lengths m) same.same_length is.held_length;
      bytes = λ i low. elim (cases_lt i at)
          as (λ x. IsTrue (is_unsynced (with_range u at n) i)
          ⊎ (slice_index new i ≡ slice_index u.synced i)) [
            | inl under ↦ kept i low (same.below i under)
            | inr from ↦ elim (cases_lt i (at + n))
                as (λ x. IsTrue (is_unsynced (with_range u at n) i)
                ⊎ (slice_index new i ≡ slice_index u.synced i)) [
                  | inl within ↦ inl (or_inside (in_range i (at, n)) (list_any (in_range i) u.ranges)
                      (list_any (λ m. nat_le m i) u.lengths) (inside_range i at n from within))
                  | inr past ↦ kept i low (same.above i past)
                ]
          ];
    }
  where
    kept : (i : ℕ) → i < length new → slice_index old i ≡ slice_index new i
        → IsTrue (is_unsynced (with_range u at n) i) ⊎ (slice_index new i ≡ slice_index u.synced i)
    kept i low e = elim ((image_with_range u at n old is).bytes i (omega (arith, low, same.same_length)))
        as (λ x. IsTrue (is_unsynced (with_range u at n) i) ⊎ (slice_index new i ≡ slice_index u.synced i)) [
          | inl loose ↦ inl loose
          | inr was ↦ inr (sym e ∙ was)
        ]

-- past a length that was held all is loose
pub loose_past : (u : Unsynced) (held i : ℕ) → Contains u.lengths held → held ≤ i → IsTrue (is_unsynced u i)
loose_past u held i (k, low, is) past =
    or_right (list_any (in_range i) u.ranges) (list_any (λ m. nat_le m i) u.lengths)
    (list_any_at (λ m. nat_le m i) u.lengths k held low (ap (λ m. nat_le m i) is ∙ le-leb held i past))

pub image_resized : (u : Unsynced) (n : ℕ) (image : List ℕ) → IsImage u image
    → IsImage (with_length u n) (resized image n)
image_resized u n image is =
    record {
      held_length = (zero, omega arith, sym (length-resized image n));
      bytes = λ i low. elim (cases_lt i (length image))
          as (λ x. IsTrue (is_unsynced (with_length u n) i)
          ⊎ (slice_index (resized image n) i ≡ slice_index u.synced i)) [
            | inl inside ↦ kept i inside (omega (arith, low, length-resized image n))
            | inr past ↦ inl (or_longer (nat_le n i) (list_any (in_range i) u.ranges)
                (list_any (λ m. nat_le m i) u.lengths) (loose_past u (length image) i is.held_length past))
          ];
    }
  where
    kept : (i : ℕ) → i < length image → i < n
        → IsTrue (is_unsynced (with_length u n) i)
        ⊎ (slice_index (resized image n) i ≡ slice_index u.synced i)
    kept i inside low = elim ((image_with_length u n image is).bytes i inside)
        as (λ x. IsTrue (is_unsynced (with_length u n) i)
        ⊎ (slice_index (resized image n) i ≡ slice_index u.synced i)) [
          | inl loose ↦ inl loose
          | inr same ↦ inr (resized-index image n i low inside ∙ same)
        ]

-- The one image after a sync.
pub image_synced : (bytes image : List ℕ) → IsImage (after_sync bytes) image → image ≡ bytes
image_synced bytes image is =
    let len : length image ≡ length bytes = settled_length is.held_length in
    same_number_lists image bytes len (λ k low.
    elim (is.bytes k low) as (λ x. slice_index image k ≡ slice_index bytes k) [
      | inl loose ↦ absurd (past k loose (omega (arith, low, len)))
      | inr same ↦ same
    ])
  where
    settled_length : Contains (length bytes ∷ []) (length image) → length image ≡ length bytes
    settled_length (zero, low, is_there) = sym is_there
    settled_length (suc k, low, is_there) = absurd (omega (arith, low))

    or_false : (a : Bool) → (a || false) ≡ true → a ≡ true
    or_false true h = refl
    or_false false h = h

    past : (k : ℕ) → IsTrue (is_unsynced (after_sync bytes) k) → k < length bytes → ⊥
    past k loose low = omega (
      arith,
      low,
      leb-true (length bytes) k (or_false (nat_le (length bytes) k) loose),
    )

-- Each image once a length is set, or is being set, is one of before but for what lies from it on. Any
-- length that was held serves the image of before where the new one has the new length.
pub image_after_length : (u : Unsynced) (n held : ℕ) (image : List ℕ) → Contains u.lengths held
    → IsImage (with_length u n) image
    → (before : List ℕ) × IsImage u before × ResizedImage n before image
image_after_length u n held image was is = pick is.held_length
  where
    before_of : ℕ → List ℕ
    before_of m = map (before_byte u image) (below m)

    before_is : (m : ℕ) → Contains u.lengths m → IsImage u (map (before_byte u image) (below m))
    before_is m there = record {
      held_length = subst (λ x. Contains u.lengths x) (sym (length-map_below (before_byte u image) m)) there;
      bytes = λ i low. choose (is_unsynced u i) (slice_index image i) (slice_index u.synced i) _
          (map_below-index (before_byte u image) m i
          (omega (arith, low, length-map_below (before_byte u image) m)));
    }

    true_of : {b : Bool} → IsTrue b → b ≡ true
    true_of h = h

    from_cond : (b : Bool) (x y : ℕ) → (b ≡ true) ⊎ (x ≡ y) → cond b x y ≡ x
    from_cond true x y e = refl
    from_cond false x y (inl e) = cc
    from_cond false x y (inr e) = sym e

    not_past : (i : ℕ) → i < n → nat_le n i ≡ false
    not_past i h = grind (arith, h)

    same : (m i : ℕ) → i < n → i < length (map (before_byte u image) (below m)) → i < length image
        → slice_index image i ≡ slice_index (map (before_byte u image) (below m)) i
    same m i under inside low =
        sym (map_below-index (before_byte u image) m i
        (omega (arith, inside, length-map_below (before_byte u image) m))
        ∙ from_cond (is_unsynced u i) (slice_index image i) (slice_index u.synced i)
        (elim (is.bytes i low) as (λ x. (is_unsynced u i ≡ true)
        ⊎ (slice_index image i ≡ slice_index u.synced i)) [
          | inl loose ↦ inl (or_shorter (nat_le n i) (list_any (in_range i) u.ranges)
              (list_any (λ m. nat_le m i) u.lengths) (not_past i under) loose)
          | inr e ↦ inr e
        ]))

    pick : Contains (n ∷ u.lengths) (length image)
        → (before : List ℕ) × IsImage u before × ResizedImage n before image
    pick (zero, low, is_there) = (
      map (before_byte u image) (below held),
      before_is held was,
      record { either = inr (sym is_there); bytes = same held },
    )
    pick (suc k, low, is_there) = (
      map (before_byte u image) (below (length image)),
      before_is (length image) (k, omega (arith, low), is_there),
      record {
        either = inl (sym (length-map_below (before_byte u image) (length image)));
        bytes = same (length image);
      },
    )
