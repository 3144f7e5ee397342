-- The digests of all objects, given one after another by name.
use Rattle.std.specs.Prelude.{◌≡◌, ℕ, ◌+◌, ◌<◌, ◌≤◌, ◌&&◌, Bool, true, false, cond, T, List, [], ◌∷◌, length, map, slice_get, Option, Some, None, option_map, is_some, refl}
use Rattle.std.proofs.Common.{arith, ap, sym, ◌∙◌, subst, inl, inr}
use Rattle.std.proofs.lemmas.Bool.{cases_Bool, cases_lt, cond-false, cond-true}
use Rattle.std.proofs.lemmas.Option.{same_Some, slice_get_within}
use Rattle.std.specs.Ordering.{is_lt}
use Rattle.std.specs.FinMap as fin
use Rattle.std.specs.FinMap.Entries.{find, below_all, is_sorted}
use Rattle.sha2.specs.Sha256.{sha256}
use Rattle.slot_codec.specs.Choice.{Digests}
use Rattle.map_model.specs.Maps.{Map, name_cmp}
use Rattle.map_model.specs.Weights.{same_name}
use Rattle.map_model.proofs.MapLaws.{name_order, names_differ, same_name-is, same_name-itself}
use Rattle.segment_layout.specs.Books.{digests_of}
use Rattle.extent_table.specs.declared.spot.Spot.{Spot}
use Rattle.extent_table.specs.Extents.{Extents, HasDigests, IsTable, Spots}
use Rattle.placement_model.specs.Reads.{AreNamed, EndWithin, object_at, read_at}
use Rattle.placement_model.proofs.ReadLaws.{entry_at, found_by_name, get-read_at}

-- ---- the digests of a map, by name

abbrev with_sum : List ℕ × List ℕ → List ℕ × List ℕ
with_sum e = (e.0, sha256 e.1)

below_same : (k : List ℕ) (es : List (List ℕ × List ℕ))
    → below_all name_cmp k (map with_sum es) ≡ below_all name_cmp k es
below_same k [] = refl
below_same k (e ∷ es) = ap (λ b. is_lt (name_cmp k e.0) && b) (below_same k es)

sorted_same : (es : List (List ℕ × List ℕ)) → is_sorted name_cmp (map with_sum es) ≡ is_sorted name_cmp es
sorted_same [] = refl
sorted_same (e ∷ es) = λ i. below_same e.0 es i && sorted_same es i

through : (b : Bool) (x : List ℕ) (o : Option (List ℕ))
    → cond b (Some (sha256 x)) (option_map sha256 o) ≡ option_map sha256 (cond b (Some x) o)
through true x o = refl
through false x o = refl

find_same : (q : List ℕ) (es : List (List ℕ × List ℕ))
    → find name_cmp q (map with_sum es) ≡ option_map sha256 (find name_cmp q es)
find_same q [] = refl
find_same q (e ∷ es) = ap (cond (same_name q e.0) (Some (sha256 e.1))) (find_same q es)
    ∙ through (same_name q e.0) e.1 (find name_cmp q es)

pub get-digests_of : (m : Map) (q : List ℕ)
    → fin.get (digests_of m) q ≡ option_map sha256 (fin.get m q)
get-digests_of m q =
    fin.get-from_sorted name_cmp (map with_sum (fin.entries m)) q
    (subst T (sym (sorted_same (fin.entries m))) (fin.entries_sorted m))
    ∙ find_same q (fin.entries m) ∙ ap (option_map sha256) (sym (fin.get-entries m q))

-- ---- one after another

pub entry_is : (spots : Spots) (i : ℕ) (name : List ℕ) (x : Spot)
    → slice_get (fin.entries spots) i ≡ Some (name, x) → fin.get spots name ≡ Some x
entry_is spots i name x is = fin.get-entries spots name
    ∙ found_by_name (fin.entries spots) i (name, x) (fin.entries_sorted spots) is

-- The names below a rank have the digests of their objects.
pub record AreRenewed (base : ℕ) (file : List ℕ) (spots : Spots) (n : ℕ) (digests : Digests) : Type 0 where
  pub each : (i : ℕ) (name : List ℕ) (x : Spot) → i < n → slice_get (fin.entries spots) i ≡ Some (name, x)
      → fin.get digests name ≡ Some (sha256 (object_at base file x))

module _ {base : ℕ} {file : List ℕ} {spots : Spots} {n : ℕ} {digests : Digests}
    (h : AreRenewed base file spots n digests) where
  pub renewed_more : (name : List ℕ) (x : Spot) (digest : List ℕ)
      → slice_get (fin.entries spots) n ≡ Some (name, x) → digest ≡ sha256 (object_at base file x)
      → AreRenewed base file spots (n + 1) (fin.insert digests name digest)
  renewed_more name x digest there is = record {
    each = λ i q y low at.
        elim (cases_Bool (same_name q name))
        as (λ _. fin.get (fin.insert digests name digest) q ≡ Some (sha256 (object_at base file y))) [
          | inl same ↦
              let x_is = entry_is spots n name x there in
              let y_is = ap (fin.get spots) (sym (same_name-is q name same)) ∙ entry_is spots i q y at in
              let one : x ≡ y = same_Some x y (sym x_is ∙ y_is) in
              fin.get-insert name_order digests name digest q
              ∙ cond-true (same_name q name) (Some digest) (fin.get digests q) same
              ∙ ap (λ (d : List ℕ). Some d) (is ∙ ap (λ z. sha256 (object_at base file z)) one)
          | inr other ↦
              fin.get-insert name_order digests name digest q
              ∙ cond-false (same_name q name) (Some digest) (fin.get digests q) other
              ∙ h.each i q y (earlier i q y low at other) at
        ];
  }
    where
      never : (q : List ℕ) (y : Spot) → ◌≡◌ {A = Option (List ℕ × Spot)} (Some (q, y)) (Some (name, x))
          → same_name q name ≡ false → ⊥
      never q y both other =
          let one : q ≡ name = ap (λ (p : List ℕ × Spot). p.0) (same_Some (q, y) (name, x) both) in
          let f : true ≡ false = sym (same_name-itself name) ∙ ap (λ z. same_name z name) (sym one) ∙ other in
          cc

      earlier : (i : ℕ) (q : List ℕ) (y : Spot) → i < n + 1 → slice_get (fin.entries spots) i ≡ Some (q, y)
          → same_name q name ≡ false → i < n
      earlier i q y low at other = elim (cases_lt i n) as (λ _. i < n) [
        | inl less ↦ less
        | inr high ↦
            let e : i ≡ n = omega (arith, low, high) in
            absurd (never q y (sym at ∙ ap (slice_get (fin.entries spots)) e ∙ there) other)
      ]

  -- once all names have theirs, these are the digests of the file's map
  pub renewed_all : AreNamed spots → HasDigests spots digests → n ≡ fin.len spots
      → digests ≡ digests_of (read_at base file spots)
  renewed_all named has end = fin.same_map name_order names_differ digests
      (digests_of (read_at base file spots)) (λ q. by q (fin.get spots q) refl)
    where
      gone : (o : Option (List ℕ)) → is_some o ≡ false → o ≡ None
      gone None is = refl
      gone (Some d) is = absurd (cc)

      there : (q : List ℕ) (o : Option Spot) → fin.get spots q ≡ o
          → fin.get (digests_of (read_at base file spots)) q
          ≡ option_map sha256 (option_map (object_at base file) o)
      there q o is = get-digests_of (read_at base file spots) q
          ∙ ap (option_map sha256) (get-read_at base file spots named q
          ∙ ap (option_map (object_at base file)) is)

      by : (q : List ℕ) (o : Option Spot) → fin.get spots q ≡ o
          → fin.get digests q ≡ fin.get (digests_of (read_at base file spots)) q
      by q None is = gone (fin.get digests q) (has.named q ∙ ap is_some is) ∙ sym (there q None is)
      by q (Some x) is =
          let at = entry_at spots q x is in
          let low : at.0 < n = omega (
            arith,
            end,
            fin.len-entries spots,
            slice_get_within (fin.entries spots) at.0 (q, x) at.1,
          ) in
          h.each at.0 q x low at.1 ∙ sym (there q (Some x) is)

-- ---- in a table

-- A table in which a name that has a rank by name is given a digest, and which was another but for its
-- digests.
module _ (old e : Extents) (n : ℕ) (name : List ℕ) (x : Spot)
    (only : e ≡ record old { digests = e.digests })
    (there : slice_get (fin.entries e.now) n ≡ Some (name, x)) where
  there_first : slice_get (fin.entries old.now) n ≡ Some (name, x)
  there_first = subst (λ (spots : Spots). slice_get (fin.entries spots) n ≡ Some (name, x))
      (ap (λ (t : Extents). t.now) only) there

  pub ends_within : (base : ℕ) (file : List ℕ) → EndWithin base file old.now
      → base + x.place + x.size ≤ length file
  ends_within base file within = within name x (entry_is old.now n name x there_first)

  module _ (next : Extents) (digest : List ℕ)
      (next_is : next ≡ record e { digests = fin.insert e.digests name digest }) where
    pub only_digests : next ≡ record old { digests = next.digests }
    only_digests = next_is
        ∙ ap (λ (t : Extents). record t { digests = fin.insert e.digests name digest }) only
        ∙ ap (λ (ds : Digests). record old { digests = ds })
        (sym (ap (λ (t : Extents). t.digests) next_is))

    pub renewed_next : (base : ℕ) (file : List ℕ) → AreRenewed base file old.now n e.digests
        → digest ≡ sha256 (object_at base file x) → AreRenewed base file old.now (n + 1) next.digests
    renewed_next base file h is = subst (AreRenewed base file old.now (n + 1))
        (sym (ap (λ (t : Extents). t.digests) next_is)) (renewed_more h name x digest there_first is)

pub renewed_table : (base : ℕ) (file : List ℕ) (old e : Extents) (n : ℕ)
    → e ≡ record old { digests = e.digests } → IsTable e → n ≡ fin.len old.now
    → AreRenewed base file old.now n e.digests → e.digests ≡ digests_of (read_at base file old.now)
renewed_table base file old e n only table end h =
    let now_is = ap (λ (t : Extents). t.now) only in
    renewed_all h (subst AreNamed now_is table.now_named)
    (subst (λ (spots : Spots). HasDigests spots e.digests) now_is table.digests) end
