-- The guard after a quiet change: the span of the name's old spot joins exactly where that is the spot that
-- was kept for it, and has at least 1 byte. There is room for it, and it is apart from all spans that are
-- held.
use Rattle.std.specs.Prelude.{◌≡◌, ◌⊎◌, ℕ, ◌+◌, ◌<◌, ◌≤◌, ◌==◌, true, false, List, length, slice_index_or, Option, Some, None, All, refl}
use Rattle.std.proofs.Common.{arith, sym, ◌∙◌, ap, subst, inl, inr}
use Rattle.std.proofs.lemmas.Bool.{and_parts, cases_Bool, cases_lt, eqb-true}
use Rattle.std.proofs.lemmas.List.Elements.{All-contains_itself}
use Rattle.std.proofs.lemmas.Option.{same_Some}
use Rattle.std.specs.FinMap as fin
use Rattle.span_math.specs.Spans.{IsApart}
use Rattle.span_math.specs.declared.span.Span.{Span}
use Rattle.held_guard.specs.Freed.{Joins}
use Rattle.map_model.specs.Weights.{same_name}
use Rattle.map_model.proofs.MapLaws.{same_name-is}
use Rattle.extent_table.specs.declared.spot.Spot.{Spot}
use Rattle.extent_table.specs.Extents.{Spots}
use Rattle.placement_model.specs.Held.{FreesSpot, IsFreed, IsSpanOf, is_at, is_freed}
use Rattle.placement_model.specs.LaidOut.{IsLaidOut}
use Rattle.placement_model.specs.Reads.{AllLieApart}
use Rattle.placement_model.proofs.GuardLaws.{at_itself, freed_by_remove, freed_by_set, freed_few, freed_past_remove, freed_past_set, not_at_apart, stood_there}
use Rattle.placement_model.proofs.LaidOutLaws.{laid_below}
use Rattle.placement_model.proofs.EnterLaws.{apart_by_name}

-- ---- whether a name stands where it was kept

-- an object stands where it was kept, and has bytes
pub record Stayed (now kept : Option Spot) : Type 0 where
  pub spot : Spot
  pub stands : now ≡ Some spot
  pub held : kept ≡ Some spot
  pub some : 0 < spot.size

same_spot : (t s : Spot) → is_at (Some t) s ≡ true → t ≡ s
same_spot t s at =
    let p = and_parts (t.place == s.place) (t.size == s.size) at in
    λ i. record { place = eqb-true t.place s.place p.0 i; size = eqb-true t.size s.size p.1 i }

-- it does, or it stands at no spot that was kept for it
pub stayed_or_not : (now kept : Option Spot) → Stayed now kept
    ⊎ ((s : Spot) → kept ≡ Some s → 0 < s.size → is_at now s ≡ false)
stayed_or_not now None = inr (λ s held some. absurd (cc))
stayed_or_not None (Some x) = inr (λ s held some. refl)
stayed_or_not (Some y) (Some x) = elim (cases_lt 0 x.size) [
  | inr none ↦ inr (λ s held some. absurd (omega (
    arith,
    none,
    some,
    ap (λ (z : Spot). z.size) (same_Some x s held),
  )))
  | inl full ↦ elim (cases_Bool (is_at (Some y) x)) [
    | inl at ↦ inl (record { spot = x; stands = ap Some (same_spot y x at); held = refl; some = full })
    | inr off ↦ inr (λ s held some. ap (is_at (Some y)) (sym (same_Some x s held)) ∙ off)
  ]
]

-- ---- what a program does to the guard

-- a span joins where it does, unless it is empty
pub frees_joined : (now kept : Option Spot) (spans after : List Span) (s : Spot) (a : Span) → now ≡ Some s
    → kept ≡ Some s → IsSpanOf s a → (0 < a.size → Joins a spans after) → (a.size ≡ 0 → after ≡ spans)
    → FreesSpot now kept spans after
frees_joined now kept spans after s a stands held span joined empty = record {
  joins = λ x also kept_x some.
      let e : s ≡ x = same_Some s x (sym stands ∙ also) in
      let of_x = subst (λ (y : Spot). IsSpanOf y a) e span in
      (a, of_x, joined (omega (arith, of_x.1, some)));
  stays = λ none. elim (cases_lt 0 s.size) [
    | inl some ↦ absurd (none s stands held some)
    | inr no_bytes ↦ empty (omega (arith, span.1, no_bytes))
  ];
}

module _ (spans : List Span) (now kept : Spots) (freed : IsFreed spans now kept) (name : List ℕ) where
  module _ (after : List Span)
      (frees : FreesSpot (fin.get now name) (fin.get kept name) spans after) where
    same_spans : ((s : Spot) → fin.get kept name ≡ Some s → 0 < s.size → is_at (fin.get now name) s ≡ false)
        → spans ≡ after
    same_spans off = sym (frees.stays (λ s stands held some. absurd (let bad : true ≡ false =
        sym (at_itself spans now kept name s) ∙ ap (λ o. is_at o s) (sym stands) ∙ off s held some in cc)))

    -- An object is put, as a new one or in place of its old one, and not where one was kept for its name.
    pub freed_put : (t : Spot)
        → ((s : Spot) → fin.get kept name ≡ Some s → 0 < s.size → is_at (Some t) s ≡ false)
        → IsFreed after (fin.insert now name t) kept
    freed_put t elsewhere = elim (stayed_or_not (fin.get now name) (fin.get kept name)) [
      | inl st ↦
          let j = frees.joins st.spot st.stands st.held st.some in
          freed_by_set spans now kept name after st.spot t j.0 st.held st.stands st.some
          (elsewhere st.spot st.held st.some) j.1 j.2 freed
      | inr off ↦ subst (λ xs. IsFreed xs (fin.insert now name t) kept) (same_spans off)
          (freed_past_set spans now kept name t
          (λ s held some. elsewhere s held some ∙ sym (off s held some)) freed)
    ]

    -- A name goes.
    pub freed_gone : IsFreed after (fin.remove now name) kept
    freed_gone = elim (stayed_or_not (fin.get now name) (fin.get kept name)) [
      | inl st ↦
          let j = frees.joins st.spot st.stands st.held st.some in
          freed_by_remove spans now kept name after st.spot j.0 st.held st.stands st.some j.1 j.2 freed
      | inr off ↦ subst (λ xs. IsFreed xs (fin.remove now name) kept) (same_spans off)
          (freed_past_remove spans now kept name off freed)
    ]

  module _ (s : Spot) (stands : fin.get now name ≡ Some s) (held : fin.get kept name ≡ Some s) where
    -- There is room for the span of a spot where a name stands as it was kept.
    pub span_room : (room : ℕ) → fin.len kept ≤ room → length spans < room
    span_room room few = omega (
      arith,
      freed_few spans now kept name s freed held (stood_there spans now kept name s stands),
      few,
    )

    -- And it is apart from all spans that are held, since kept objects are apart.
    pub span_apart : (classes size_max k : ℕ) (caps : List ℕ) (grid : List (List ℕ))
        → IsLaidOut classes size_max k caps grid kept → (a : Span) → IsSpanOf s a
        → All (λ other. IsApart other a) spans
    span_apart classes size_max k caps grid h a span i d low =
        let b = slice_index_or spans i d in
        let o = freed.only b (All-contains_itself spans i d low) in
        elim (cases_Bool (same_name o.0 name)) as (λ _. IsApart b a) [
          | inl same ↦
              let q : o.0 ≡ name = same_name-is o.0 name same in
              let x : s ≡ o.1 = same_Some s o.1 (sym held ∙ ap (fin.get kept) (sym q) ∙ o.2) in
              absurd (let bad : true ≡ false = sym o.3 ∙ (λ j. is_freed now (q j, sym x j))
              ∙ stood_there spans now kept name s stands in cc)
          | inr other ↦ apart_spans o.1 b o.4
              (apart_by_name kept h.named (laid_below classes size_max k caps grid kept h).apart o.0 name o.1
              s
              o.2 held other)
        ]
      where
        apart_spans : (x : Spot) (b : Span) → IsSpanOf x b
            → (x.size ≡ 0) ⊎ (s.size ≡ 0) ⊎ (x.place + x.size ≤ s.place) ⊎ (s.place + s.size ≤ x.place)
            → IsApart b a
        apart_spans x b is apart = elim apart as (λ _. IsApart b a) [
          | inl none ↦ inl (omega (arith, none, is.1))
          | inr (inl none) ↦ inr (inl (omega (arith, none, span.1)))
          | inr (inr (inl low)) ↦ inr (inr (inl (omega (arith, low, is.0, is.1, span.0))))
          | inr (inr (inr high)) ↦ inr (inr (inr (omega (arith, high, is.0, span.0, span.1))))
        ]

-- What is put where no kept object has a byte stands at no kept spot.
pub off_kept : (kept : Spots) (name : List ℕ) (t : Spot) → (0 < t.size → AllLieApart t.place t.size kept)
    → (s : Spot) → fin.get kept name ≡ Some s → 0 < s.size → is_at (Some t) s ≡ false
off_kept kept name t apart s held some = elim (cases_lt 0 t.size) [
  | inl full ↦ not_at_apart t s some (apart full name s held)
  | inr none ↦ elim (cases_Bool (is_at (Some t) s)) [
    | inr off ↦ off
    | inl at ↦ absurd (omega (
      arith,
      none,
      some,
      eqb-true t.size s.size (and_parts (t.place == s.place) (t.size == s.size) at).1,
    ))
  ]
]
