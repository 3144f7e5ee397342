-- Objects that end before the next ones by place begin share no byte, in whatever order their records stand.
use Rattle.std.specs.Prelude.{◌≡◌, ◌⊎◌, ℕ, ◌+◌, ◌<◌, ◌≤◌, true, List, [], Some, Contains, length, slice_get, slice_index_or, refl}
use Rattle.std.proofs.Common.{arith, ap, inl, inr, subst, sym, ◌∙◌}
use Rattle.std.proofs.lemmas.Bool.{cases_lt, lt-ltb}
use Rattle.std.proofs.lemmas.Cmp.{nat_list_cmp_total, tied_itself}
use Rattle.std.proofs.lemmas.List.Sorted.{Contains-permutation, IsPermutation-sym}
use Rattle.std.proofs.lemmas.Option.{get_or_from_slice_get, same_Some, slice_get-get_or, slice_get_within}
use Rattle.std.specs.Cmp.{ranks}
use Rattle.std.specs.FinMap as fin
use Rattle.std.specs.Ordering.{MatchOrdering, is_lt, nat_cmp, ordering_then}
use Rattle.std.specs.declared.cmp.Ordering.{Ordering}
use Rattle.std.specs.declared.cmp.Ordering.TheVariants.{Less, Equal, Greater}
use Rattle.slot_codec.specs.Names.{name_cmp}
use Rattle.slot_codec.specs.declared.codec.Record.{Record}
use Rattle.table_rules.specs.Tables.{Apart, no_record}
use Rattle.extent_table.specs.declared.spot.Spot.{Spot}
use Rattle.extent_table.specs.Extents.{Extents, IsInRange, IsTable, Spots, record_of, records_of}
use Rattle.extent_table.specs.Places.{by_place, has_bytes, with_bytes}
use Rattle.extent_table.specs.Rising.{records_of-rise}
use Rattle.extent_table.proofs.ExtentLaws.{records_of-count, records_of-nth}
use Rattle.extent_table.proofs.PlaceSortLemmas.{in_filter, of_filter}
use Rattle.extent_table.proofs.PlacesLaws.{by_place-permutation, by_place-rises}
use Rattle.placement_model.proofs.ReadLaws.{found_by_name}
use Rattle.table_check.specs.Nexts.{EndBeforeNext, StandsAtRank}
use Rattle.table_check.specs.Placed.{ranked}
use Rattle.table_check.proofs.OverlapLaws.{AreApart}
use Rattle.extent_table.proofs.PlaceCmpLemmas.{stands_lower}

-- ---- a rank

-- an entry that has a rank by place is live, with its spot
live_at : (spots : Spots) (n : ℕ) (x : List ℕ × Spot) → slice_get (by_place spots) n ≡ Some x
    → fin.get spots x.0 ≡ Some x.1
live_at spots n x at =
    let there = Contains-permutation (by_place spots) (with_bytes spots) x
    (IsPermutation-sym (with_bytes spots) (by_place spots) (by_place-permutation spots))
    (n, slice_get_within (by_place spots) n x at, get_or_from_slice_get (by_place spots) n x x at) in
    let has = (of_filter (λ (y : List ℕ × Spot). has_bytes y.1) (fin.entries spots) x there).0 in
    fin.get-entries spots x.0
    ∙ found_by_name (fin.entries spots) has.0 x (fin.entries_sorted spots)
    (slice_get-get_or (fin.entries spots) has.0 x has.1 ∙ ap Some has.2)

pub in_range : (e : Extents) → IsTable e → (n : ℕ) (s : Spot) → StandsAtRank e.now n s → IsInRange s
in_range e table n s at = table.now_in_range at.0 s (live_at e.now n (at.0, s) at.1)

one_spot : (spots : Spots) (n : ℕ) (a b : Spot) → StandsAtRank spots n a → StandsAtRank spots n b → a ≡ b
one_spot spots n a b at also = ap (λ (x : List ℕ × Spot). x.1)
    (same_Some (at.0, a) (also.0, b) (sym at.1 ∙ also.1))

module _ (spots : Spots) (n : ℕ) (s : Spot) (here : StandsAtRank spots n s) where
  -- one rank more, whose object begins where the one before ends, or behind
  pub next_more : (end : ℕ) → EndBeforeNext spots n
      → ((p : ℕ) (a : Spot) → p + 1 ≡ n → StandsAtRank spots p a → end ≡ a.place + a.size)
      → end ≤ s.place → EndBeforeNext spots (n + 1)
  next_more end near last above p a b low at also = elim (cases_lt (p + 1) n) [
    | inl less ↦ near p a b less at also
    | inr most ↦
        let one : p + 1 ≡ n = omega (arith, low, most) in
        let same = one_spot spots n s b here (subst (λ m. StandsAtRank spots m b) one also) in
        omega (arith, last p a one at, above, ap (λ (x : Spot). x.place) same)
  ]

  pub last_more : (p : ℕ) (a : Spot) → p + 1 ≡ n + 1 → StandsAtRank spots p a
      → s.place + s.size ≡ a.place + a.size
  last_more p a one at =
      let same = one_spot spots n s a here (subst (λ m. StandsAtRank spots m a) (omega (arith, one)) at) in
      ap (λ (x : Spot). x.place + x.size) same

-- ---- all ranks

module _ (e : Extents) where
  abbrev placed_at : ℕ → List ℕ × Spot → Type 0
  placed_at n x = slice_get (by_place e.now) n ≡ Some x

  no_higher : (p q : ℕ) (x y : List ℕ × Spot) → p < q → placed_at p x → placed_at q y
      → x.1.place ≤ y.1.place
  no_higher p q x y less at also = stands_lower x.1.place y.1.place (nat_cmp x.1.place y.1.place)
      (name_cmp x.0 y.0) refl (by_place-rises e.now p q x y less at also)

  module _ (near : EndBeforeNext e.now (length (by_place e.now))) where
    -- so each ends before any later one begins
    far : (p q : ℕ) (x y : List ℕ × Spot) → p < q → placed_at p x → placed_at q y
        → x.1.place + x.1.size ≤ y.1.place
    far p q x y less at also =
        let within = slice_get_within (by_place e.now) q y also in
        elim (cases_lt (p + 1) q) [
          | inl more ↦
              let z = slice_index_or (by_place e.now) (p + 1) y in
              let next : placed_at (p + 1) z = slice_get-get_or (by_place e.now) (p + 1) y (omega arith) in
              omega (
                arith,
                near p x.1 z.1 (omega arith) (x.0, at) (z.0, next),
                no_higher (p + 1) q z y more next also,
              )
          | inr most ↦
              let one : q ≡ p + 1 = omega (arith, less, most) in
              near p x.1 y.1 (omega arith) (x.0, at) (y.0, subst (λ n. placed_at n y) one also)
        ]

    module _ (table : IsTable e) where
      -- the entry of a rank by name
      entry : (i : ℕ) → i < length (records_of e.now)
          → (x : List ℕ × Spot) × (slice_get (fin.entries e.now) i ≡ Some x)
      entry i low =
          let none : List ℕ × Spot = ([], record { place = 0; size = 0 }) in
          let many = records_of-count e.now table.now_named ∙ fin.len-entries e.now in (
            slice_index_or (fin.entries e.now) i none,
            slice_get-get_or (fin.entries e.now) i none (omega (arith, low, many)),
          )

      record_at : (i : ℕ) (x : List ℕ × Spot) → slice_get (fin.entries e.now) i ≡ Some x
          → slice_get (records_of e.now) i ≡ Some (record_of x)
      record_at i x at = records_of-nth e.now table.now_named i x at

      record_is : (i : ℕ) (x : List ℕ × Spot) → slice_get (fin.entries e.now) i ≡ Some x
          → record_of x ≡ ranked e i
      record_is i x at = sym (get_or_from_slice_get (records_of e.now) i (record_of x) no_record
          (record_at i x at))

      -- an entry with bytes has a rank by place
      rank : (i : ℕ) (x : List ℕ × Spot) → slice_get (fin.entries e.now) i ≡ Some x → 0 < x.1.size
          → (q : ℕ) × placed_at q x
      rank i x at some =
          let there = Contains-permutation (with_bytes e.now) (by_place e.now) x (by_place-permutation e.now)
          (in_filter (λ (y : List ℕ × Spot). has_bytes y.1) (fin.entries e.now) x (
            i,
            slice_get_within (fin.entries e.now) i x at,
            get_or_from_slice_get (fin.entries e.now) i x x at,
          ) (lt-ltb 0 x.1.size some)) in
          (there.0, slice_get-get_or (by_place e.now) there.0 x there.1 ∙ ap Some there.2)

      -- two ranks by name have two names
      differ : (h i : ℕ) (x y : List ℕ × Spot) → h < i → slice_get (fin.entries e.now) h ≡ Some x
          → slice_get (fin.entries e.now) i ≡ Some y → x ≡ y → ⊥
      differ h i x y less at also same =
          let lower : is_lt (name_cmp x.0 y.0) ≡ true = (records_of-rise e.now).rising h i (record_of x)
          (record_of y) less (record_at h x at) (record_at i y also) in
          let tied = tied_itself nat_list_cmp_total y.0 in
          let again : is_lt (name_cmp y.0 y.0) ≡ true =
          subst (λ (z : List ℕ × Spot). is_lt (name_cmp z.0 y.0) ≡ true) same lower in
          let clash : is_lt Equal ≡ true = ap is_lt (sym tied) ∙ again in
          cc

      entries_apart : (h i : ℕ) (x y : List ℕ × Spot) → h < i → slice_get (fin.entries e.now) h ≡ Some x
          → slice_get (fin.entries e.now) i ≡ Some y → Apart (record_of x) (record_of y)
      entries_apart h i x y less at also =
          elim (cases_lt 0 x.1.size) [
            | inr none ↦ inl (omega (arith, none))
            | inl some ↦ elim (cases_lt 0 y.1.size) [
              | inr none ↦ inr (inl (omega (arith, none)))
              | inl more ↦
                  let p = rank h x at some in
                  let q = rank i y also more in
                  elim (cases_lt p.0 q.0) [
                    | inl before ↦ inr (inr (inl (far p.0 q.0 x y before p.1 q.1)))
                    | inr behind ↦ elim (cases_lt q.0 p.0) [
                      | inl after ↦ inr (inr (inr (far q.0 p.0 y x after q.1 p.1)))
                      | inr same ↦
                          let one : q.0 ≡ p.0 = omega (arith, behind, same) in
                          absurd (differ h i x y less at also (same_Some x y
                          (sym p.1 ∙ subst (λ n. placed_at n y) one q.1)))
                    ]
                  ]
            ]
          ]

      -- all records are apart where the objects are by place
      pub apart_by_place : AreApart e (length (records_of e.now))
      apart_by_place i high h less =
          let x = entry h (omega (arith, high, less)) in
          let y = entry i high in
          subst (λ (r : Record). Apart r (ranked e i)) (record_is h x.0 x.1)
          (subst (λ (r : Record). Apart (record_of x.0) r) (record_is i y.0 y.1)
          (entries_apart h i x.0 y.0 less x.1 y.1))
