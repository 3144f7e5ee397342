-- An image that is built call by call is the one that is meant.
use Rattle.std.specs.Prelude.{◌≡◌, ◌⊎◌, ℕ, ◌+◌, ◌-◌, ◌<◌, ◌≤◌, nat_le, nat_eq, Bool, true, false, cond, ◌||◌, if◌then◌else◌, List, [], ◌∷◌, ◌++◌, length, take, replicate, slice_index, Contains, IsTrue, Option, Some, None, refl}
use Rattle.std.specs.List.{list_any}
use Rattle.std.proofs.Common.{arith, rules, sym, ◌∙◌, ap, inl, inr}
use Rattle.std.proofs.lemmas.Bool.{leb-true, cases_lt}
use Rattle.std.proofs.lemmas.List.{places}
use Rattle.std.proofs.lemmas.Grind.{same_number_lists}
use Rattle.byte_ranges.proofs.ListLaws.{length-map_below, map_below-index}
use Rattle.byte_ranges.specs.Ranges.{SameOutside, resized}
use Rattle.byte_ranges.proofs.RangeLaws.{SameOutside-refl, length-resized, resized-index}
use Rattle.disk_face.specs.Images.{Unsynced, is_unsynced, in_range, after_sync, with_range, with_length}
use Rattle.disk_face.proofs.ImageLaws.{inside_range, loose_past}
use Rattle.disk_history.specs.Changes.{RecordedCall, Stamped, changed, content_after, unsynced_after}
use Rattle.disk_history.specs.Changes.RecordedCall.{Wrote, Sized, Synced}
use Rattle.disk_history.specs.Histories.{History}
use Rattle.disk_history.specs.Lawful.{present_is_image, changed_outside}
use Rattle.disk_mem.specs.Turns.{torn, within_write, within_next_write, next_after, ended_by, newest_at, image_at}
use Rattle.disk_mem.specs.declared.image.Choice.{Choice}
use Rattle.disk_mem.specs.declared.image.Choice.TheVariants.{Durable, Newest, Torn}
use Rattle.disk_mem.specs.Tearing.{filled, smeared_after, smeared_within, smeared_next, up_to_sync, since_sync, finished}

length-torn : (b : ℕ) (u : Unsynced) (file : List ℕ) → length (torn b u file) ≡ length file
length-torn b u file = length-map_below (λ i. cond (is_unsynced u i) b (slice_index file i)) (length file)

torn-index : (b : ℕ) (u : Unsynced) (file : List ℕ) (i : ℕ) → i < length file
    → slice_index (torn b u file) i ≡ cond (is_unsynced u i) b (slice_index file i)
torn-index b u file i low = map_below-index (λ k. cond (is_unsynced u k) b (slice_index file k)) (length file)
    i low

length-filled : (b at n : ℕ) (file : List ℕ) → length (filled b at n file) ≡ length file
length-filled b at n file = length-map_below (λ i. cond (in_range i (at, n)) b (slice_index file i))
    (length file)

filled-index : (b at n : ℕ) (file : List ℕ) (i : ℕ) → i < length file
    → slice_index (filled b at n file) i ≡ cond (in_range i (at, n)) b (slice_index file i)
filled-index b at n file i low = map_below-index (λ k. cond (in_range k (at, n)) b (slice_index file k))
    (length file) i low

not_true : (test : Bool) (x y : ℕ) → (IsTrue test → ⊥) → cond test x y ≡ y
not_true true x y h = absurd (h refl)
not_true false x y h = refl

is_true : (test : Bool) (x y : ℕ) → IsTrue test → cond test x y ≡ x
is_true true x y h = refl
is_true false x y h = cc

-- a file that was synced has no byte torn
torn_settled : (b : ℕ) (file : List ℕ) → torn b (after_sync file) file ≡ file
torn_settled b file =
    same_number_lists _ _ (length-torn b (after_sync file) file) (λ k low.
    let inside : k < length file = omega (arith, low, length-torn b (after_sync file) file) in
    torn-index b (after_sync file) file k inside
    ∙ not_true (is_unsynced (after_sync file) k) b (slice_index file k) (not_loose k inside))
  where
    or_false : (a : Bool) → (a || false) ≡ true → a ≡ true
    or_false true h = refl
    or_false false h = h

    not_loose : (k : ℕ) → k < length file → IsTrue (is_unsynced (after_sync file) k) → ⊥
    not_loose k low loose = omega (
      arith,
      low,
      leb-true (length file) k (or_false (nat_le (length file) k) loose),
    )

-- a position outside a range
outside_of : (k at n : ℕ) → in_range k (at, n) ≡ false → (k < at) ⊎ (at + n ≤ k)
outside_of k at n out = elim (cases_lt k at) as (λ x. (k < at) ⊎ (at + n ≤ k)) [
  | inl low ↦ inl low
  | inr from ↦ elim (cases_lt k (at + n))
      as (λ x. (k < at) ⊎ (at + n ≤ k)) [
        | inl within ↦ absurd
            (differ (sym (inside_range k at n from within) ∙ out))
        | inr past ↦ inr past
      ]
]
  where
    differ : true ≡ false → ⊥
    differ e = cc

-- a range more is that range filled
pub torn_range : (b : ℕ) (u : Unsynced) (at n : ℕ) (old new : List ℕ) → SameOutside at n old new
    → torn b (with_range u at n) new ≡ filled b at n (torn b u old)
torn_range b u at n old new same =
    same_number_lists _ _ (length-torn b (with_range u at n) new ∙ sym same.same_length
    ∙ sym (length-torn b u old) ∙ sym (length-filled b at n (torn b u old))) (λ k low.
    let inside : k < length new = omega (arith, low, length-torn b (with_range u at n) new) in
    let was : k < length old = omega (arith, inside, same.same_length) in
    torn-index b (with_range u at n) new k inside ∙ by_range k was (in_range k (at, n)) refl
    ∙ ap (cond (in_range k (at, n)) b) (sym (torn-index b u old k was))
    ∙ sym (filled-index b at n (torn b u old) k (omega (arith, was, length-torn b u old))))
  where
    same_byte : (k : ℕ) → in_range k (at, n) ≡ false → slice_index new k ≡ slice_index old k
    same_byte k out = elim (outside_of k at n out)
        as (λ x. slice_index new k ≡ slice_index old k) [
          | inl low ↦ sym (same.below k low)
          | inr high ↦ sym
              (same.above k high)
        ]

    by_range : (k : ℕ) → k < length old → (test : Bool) → in_range k (at, n) ≡ test
        → cond ((test || list_any (in_range k) u.ranges) || list_any (λ m. nat_le m k) u.lengths) b
        (slice_index new k) ≡ cond test b (cond (is_unsynced u k) b (slice_index old k))
    by_range k was true e = refl
    by_range k was false e = ap (cond (is_unsynced u k) b) (same_byte k e)

-- a list that is cut or grown by b
length-grown : (b n : ℕ) (file : List ℕ) → length (take n file ++ replicate (n - length file) b) ≡ n
length-grown b n file = search (rules, places)

grown-low : (b n : ℕ) (file : List ℕ) (i : ℕ) → i < n → i < length file
    → slice_index (take n file ++ replicate (n - length file) b) i ≡ slice_index file i
grown-low b n file i h k = search (rules, places)

grown-high : (b n : ℕ) (file : List ℕ) (i : ℕ) → i < n → length file ≤ i
    → slice_index (take n file ++ replicate (n - length file) b) i ≡ b
grown-high b n file i h k = search (rules, places)

-- a length more cuts, or grows by b
torn_length : (b : ℕ) (u : Unsynced) (n : ℕ) (file : List ℕ) → Contains u.lengths (length file)
    → torn b (with_length u n) (resized file n) ≡ take n (torn b u file)
    ++ replicate (n - length (torn b u file)) b
torn_length b u n file held =
    same_number_lists _ _ (length-torn b (with_length u n) (resized file n) ∙ length-resized file n
    ∙ sym (length-grown b n (torn b u file))) (λ k low.
    let under : k < n = omega (
      arith,
      low,
      length-torn b (with_length u n) (resized file n),
      length-resized file n,
    ) in
    torn-index b (with_length u n) (resized file n) k (omega (arith, under, length-resized file n))
    ∙ ap (λ (x : Bool). cond x b (slice_index (resized file n) k)) (same_loose k under)
    ∙ elim (cases_lt k (length file)) as (λ x. cond (is_unsynced u k) b (slice_index (resized file n) k)
    ≡ slice_index (take n (torn b u file) ++ replicate (n - length (torn b u file)) b) k) [
      | inl inside ↦ ap (cond (is_unsynced u k) b) (resized-index file n k under inside)
          ∙ sym (torn-index b u file k inside)
          ∙ sym (grown-low b n (torn b u file) k under (omega (arith, inside, length-torn b u file)))
      | inr past ↦ is_true (is_unsynced u k) b (slice_index (resized file n) k)
          (loose_past u (length file) k held past)
          ∙ sym (grown-high b n (torn b u file) k under (omega (arith, past, length-torn b u file)))
    ])
  where
    not_past : (k : ℕ) → k < n → nat_le n k ≡ false
    not_past k h = grind (arith, h)

    same_loose : (k : ℕ) → k < n → is_unsynced (with_length u n) k ≡ is_unsynced u k
    same_loose k h = ap (λ (x : Bool). list_any (in_range k) u.ranges
        || (x || list_any (λ m. nat_le m k) u.lengths)) (not_past k h)

-- The newest bytes with b wherever any byte may stand are those of the last sync, smeared by the calls since.
pub torn_smeared : (b : ℕ) (base : List ℕ) (calls : List Stamped)
    → torn b (unsynced_after base calls) (content_after base calls)
    ≡ smeared_after b (content_after base (up_to_sync calls)) (since_sync calls)
unfolding up_to_sync since_sync
torn_smeared b base [] = torn_settled b base
torn_smeared b base (call ∷ earlier) = by_change call.began call.change (torn_smeared b base earlier)
  where
    by_change : (began : ℕ) (change : RecordedCall)
        → torn b (unsynced_after base earlier) (content_after base earlier)
        ≡ smeared_after b (content_after base (up_to_sync earlier)) (since_sync earlier)
        → torn b (unsynced_after base (record { began = began; change = change } ∷ earlier))
        (content_after base (record { began = began; change = change } ∷ earlier))
        ≡ smeared_after b (content_after base
        (up_to_sync (record { began = began; change = change } ∷ earlier)))
        (since_sync (record { began = began; change = change } ∷ earlier))
    by_change began (Wrote at bytes) so_far =
        torn_range b (unsynced_after base earlier) at (length bytes) (content_after base earlier) _
        (changed_outside (content_after base earlier) at bytes) ∙ ap (filled b at (length bytes)) so_far
    by_change began (Sized n) so_far =
        torn_length b (unsynced_after base earlier) n (content_after base earlier)
        (present_is_image base earlier).held_length
        ∙ ap (λ (xs : List ℕ). take n xs ++ replicate (n - length xs) b) so_far
    by_change began Synced so_far = torn_settled b (content_after base earlier)

-- What the last sync left is what reads gave after it.
pub synced_up_to : (base : List ℕ) (calls : List Stamped)
    → (unsynced_after base calls).synced ≡ content_after base (up_to_sync calls)
unfolding up_to_sync
synced_up_to base [] = refl
synced_up_to base (call ∷ earlier) = by_change call.began call.change (synced_up_to base earlier)
  where
    by_change : (began : ℕ) (change : RecordedCall)
        → (unsynced_after base earlier).synced ≡ content_after base (up_to_sync earlier)
        → (unsynced_after base (record { began = began; change = change } ∷ earlier)).synced
        ≡ content_after base (up_to_sync (record { began = began; change = change } ∷ earlier))
    by_change began (Wrote at bytes) so_far = so_far
    by_change began (Sized n) so_far = so_far
    by_change began Synced so_far = refl

-- What reads give is what the last sync left, after the calls since.
pub content_since : (base : List ℕ) (calls : List Stamped)
    → content_after base calls ≡ content_after (content_after base (up_to_sync calls)) (since_sync calls)
unfolding up_to_sync since_sync
content_since base [] = refl
content_since base (call ∷ earlier) = by_change call.began call.change (content_since base earlier)
  where
    by_change : (began : ℕ) (change : RecordedCall)
        → content_after base earlier ≡ content_after (content_after base (up_to_sync earlier))
        (since_sync earlier)
        → content_after base (record { began = began; change = change } ∷ earlier)
        ≡ content_after (content_after base
        (up_to_sync (record { began = began; change = change } ∷ earlier)))
        (since_sync (record { began = began; change = change } ∷ earlier))
    by_change began (Wrote at bytes) so_far = ap (changed (Wrote at bytes)) so_far
    by_change began (Sized n) so_far = ap (changed (Sized n)) so_far
    by_change began Synced so_far = refl

-- within a write that is next, its range is filled
torn_next : (t b : ℕ) (next : Option Stamped) (u : Unsynced) (file : List ℕ)
    → torn b (within_next_write t next u) file ≡ smeared_next t b next (torn b u file)
torn_next t b None u file = refl
torn_next t b (Some call) u file = by_test (nat_eq call.began t) call.change
  where
    by_test : (test : Bool) (change : RecordedCall)
        → torn b (if test then within_write change u else u) file
        ≡ (if test then smeared_within b change (torn b u file) else torn b u file)
    by_test true (Wrote at bytes) = torn_range b u at (length bytes) file file
        (SameOutside-refl at (length bytes) file)
    by_test true (Sized n) = refl
    by_test true Synced = refl
    by_test false change = refl

-- What is built is the image that is asked for.
pub finished_is : (h : History) (t : ℕ) (choice : Choice)
    → finished t choice (next_after h t) (since_sync (ended_by h t))
    (content_after h.base (up_to_sync (ended_by h t))) ≡ image_at h t choice
finished_is h t Durable = sym (synced_up_to h.base (ended_by h t))
finished_is h t Newest = sym (content_since h.base (ended_by h t))
finished_is h t (Torn b) =
    ap (smeared_next t b (next_after h t)) (sym (torn_smeared b h.base (ended_by h t)))
    ∙ sym (torn_next t b (next_after h t) (unsynced_after h.base (ended_by h t)) (newest_at h t))
