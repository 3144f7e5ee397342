-- What the last checkpoint holds though nothing stands there now, when an object moves, joins, goes, is kept
-- or comes back.
use Rattle.std.specs.Prelude.{◌≡◌, ℕ, ◌<◌, ◌≤◌, ◌==◌, nat_lt, not, Bool, true, false, ◌&&◌, cond, List, [], ◌∷◌, length, sum_by, Some, None, Contains, IsTrue, refl}
use Rattle.std.proofs.Common.{arith, sym, ◌∙◌, ap, subst, inl, inr}
use Rattle.std.proofs.lemmas.Bool.{cases_Bool, cond-true, cond-false, and_from, and_parts, eqb-true, eq-eqb, lt-ltb, ltb-true}
use Rattle.std.proofs.lemmas.List.Sums.{sum_by-cons}
use Rattle.std.proofs.lemmas.Option.{same_Some}
use Rattle.std.specs.FinMap as fin
use Rattle.map_model.proofs.MapLaws.{name_order, same_name-is, same_name-itself, weights-agree, weights-remove}
use Rattle.map_model.specs.Weights.{same_name, weight, weight_at}
use Rattle.span_math.specs.declared.span.Span.{Span}
use Rattle.held_guard.specs.Freed.{Joins}
use Rattle.extent_table.specs.declared.spot.Spot.{Spot}
use Rattle.extent_table.specs.Extents.{Spots}
use Rattle.placement_model.specs.Held.{IsFreed, IsSpanOf, is_at, is_freed}
use Rattle.placement_model.specs.Reads.{LiesApart}

-- ---- maps with and without a name

-- what a removal leaves has another name, and was there
left_over : (m : Spots) (name q : List ℕ) (x : Spot) → fin.get (fin.remove m name) q ≡ Some x
    → (same_name q name ≡ false) × (fin.get m q ≡ Some x)
left_over m name q x is =
    elim (cases_Bool (same_name q name)) [
      | inl same ↦ absurd (let none : None
          ≡ Some x = sym (cond-true (same_name q name) None (fin.get m q) same)
          ∙ sym (fin.get-remove name_order m name q) ∙ is in cc)
      | inr other ↦ (
        other,
        sym (cond-false (same_name q name) None (fin.get m q) other)
            ∙ sym (fin.get-remove name_order m name q) ∙ is,
      )
    ]

get_inserted : (m : Spots) (name q : List ℕ) (t : Spot) → same_name q name ≡ false
    → fin.get (fin.insert m name t) q ≡ fin.get m q
get_inserted m name q t other = fin.get-insert name_order m name t q
    ∙ cond-false (same_name q name) (Some t) (fin.get m q) other

get_inserted_here : (m : Spots) (name : List ℕ) (t : Spot) → fin.get (fin.insert m name t) name ≡ Some t
get_inserted_here m name t = fin.get-insert name_order m name t name
    ∙ cond-true (same_name name name) (Some t) (fin.get m name) (same_name-itself name)

get_removed : (m : Spots) (name q : List ℕ) → same_name q name ≡ false
    → fin.get (fin.remove m name) q ≡ fin.get m q
get_removed m name q other = fin.get-remove name_order m name q
    ∙ cond-false (same_name q name) None (fin.get m q) other

get_removed_here : (m : Spots) (name : List ℕ) → fin.get (fin.remove m name) name ≡ None
get_removed_here m name = fin.get-remove name_order m name name
    ∙ cond-true (same_name name name) None (fin.get m name) (same_name-itself name)

-- ---- how many are freed

-- 1 for an entry that is freed
abbrev frees : Spots → List ℕ × Spot → ℕ
frees now e = cond (is_freed now e) 1 0

at_most_one : (x : Bool) → cond x 1 0 ≤ 1
at_most_one true = omega arith
at_most_one false = omega arith

ones : (es : List (List ℕ × Spot)) → sum_by (λ (e : List ℕ × Spot). 1) es ≡ length es
ones [] = refl
ones (e ∷ es) = omega (arith, sum_by-cons (λ (x : List ℕ × Spot). 1) e es, ones es)

few_frees : (now : Spots) (es : List (List ℕ × Spot)) → sum_by (frees now) es ≤ length es
few_frees now [] = omega arith
few_frees now (e ∷ es) = omega (
  arith,
  sum_by-cons (frees now) e es,
  few_frees now es,
  at_most_one (is_freed now e),
)

-- the guard never has more spans than names were kept
pub freed_most : (spans : List Span) (now kept : Spots) → IsFreed spans now kept → length spans ≤ fin.len kept
freed_most spans now kept h = omega (arith, h.count, few_frees now (fin.entries kept), fin.len-entries kept)

-- and fewer while some object stands where it was kept: there is room for its span
pub freed_few : (spans : List Span) (now kept : Spots) (name : List ℕ) (s : Spot) → IsFreed spans now kept
    → fin.get kept name ≡ Some s → is_freed now (name, s) ≡ false → length spans < fin.len kept
freed_few spans now kept name s h is stands =
    let rest = fin.remove kept name in
    let here : weight_at (frees now) kept name ≡ 0 = ap (weight (frees now) name) is
    ∙ cond-false (is_freed now (name, s)) 1 0 stands in
    let one : weight_at (λ (e : List ℕ × Spot). 1) kept name
    ≡ 1 = ap (weight (λ (e : List ℕ × Spot). 1) name) is in
    omega (
      arith,
      h.count,
      weights-remove (frees now) kept name,
      here,
      few_frees now (fin.entries rest),
      ones (fin.entries rest),
      ones (fin.entries kept),
      weights-remove (λ (e : List ℕ × Spot). 1) kept name,
      one,
      fin.len-entries kept,
    )

-- ---- the guard after a change of what stands

-- nothing is freed that wasn't
pub freed_same : (spans : List Span) (now after kept : Spots)
    → ((q : List ℕ) (s : Spot) → fin.get kept q ≡ Some s → is_freed after (q, s) ≡ is_freed now (q, s))
    → IsFreed spans now kept → IsFreed spans after kept
freed_same spans now after kept same h = record {
  covers = λ q s is freed. h.covers q s is (sym (same q s is) ∙ freed);
  only = λ a there. let o = h.only a there in (o.0, o.1, o.2, same o.0 o.1 o.2 ∙ o.3, o.4);
  count = h.count ∙ weights-agree (frees now) (frees after) kept
      (λ q s is. ap (λ x. cond x 1 0) (sym (same q s is)));
}

-- one object is freed, and its span joins
pub freed_more : (spans joined : List Span) (now after kept : Spots) (name : List ℕ) (s : Spot) (a : Span)
    → fin.get kept name ≡ Some s → IsSpanOf s a → is_freed now (name, s) ≡ false
    → is_freed after (name, s) ≡ true → ((q : List ℕ) (x : Spot) → same_name q name ≡ false
    → is_freed after (q, x) ≡ is_freed now (q, x)) → Joins a spans joined → IsFreed spans now kept
    → IsFreed joined after kept
freed_more spans joined now after kept name s a is span stood goes same j h = record {
  covers = λ q x there freed. elim (cases_Bool (same_name q name))
      as (λ _. (b : Span) × Contains joined b × IsSpanOf x b) [
        | inr other ↦ let o = h.covers q x there (sym (same q x other) ∙ freed) in (o.0, j.kept o.0 o.1, o.2)
        | inl tie ↦
            let e : s ≡ x = same_Some s x (sym is ∙ ap (fin.get kept) (sym (same_name-is q name tie)) ∙ there)
            in
            (a, j.joined, subst (λ (y : Spot). IsSpanOf y a) e span)
      ];
  only = λ b there. elim (j.only b there)
      as (λ _. (q : List ℕ) × (x : Spot) × (fin.get kept q ≡ Some x) × IsTrue (is_freed after (q, x))
      × IsSpanOf x b) [
        | inl old ↦
            let o = h.only b old in
            elim (cases_Bool (same_name o.0 name))
            as (λ _. (q : List ℕ) × (x : Spot) × (fin.get kept q ≡ Some x) × IsTrue (is_freed after (q, x))
            × IsSpanOf x b) [
              | inr other ↦ (o.0, o.1, o.2, same o.0 o.1 other ∙ o.3, o.4)
              | inl tie ↦
                  let k : o.0 ≡ name = same_name-is o.0 name tie in
                  let e : s ≡ o.1 = same_Some s o.1 (sym is ∙ ap (fin.get kept) (sym k) ∙ o.2) in
                  (o.0, o.1, o.2, (λ i. is_freed after (k i, sym e i)) ∙ goes, o.4)
            ]
        | inr new ↦ (name, s, is, goes, subst (λ (y : Span). IsSpanOf s y) (sym new) span)
      ];
  count =
      let rest = weights-agree (frees now) (frees after) (fin.remove kept name)
      (λ q x there. let o = left_over kept name q x there in ap (λ y. cond y 1 0) (sym (same q x o.0))) in
      let before : weight_at (frees now) kept name ≡ 0 = ap (weight (frees now) name) is
      ∙ cond-false (is_freed now (name, s)) 1 0 stood in
      let then : weight_at (frees after) kept name ≡ 1 = ap (weight (frees after) name) is
      ∙ cond-true (is_freed after (name, s)) 1 0 goes in
      omega (
        arith,
        h.count,
        rest,
        before,
        then,
        weights-remove (frees now) kept name,
        weights-remove (frees after) kept name,
        j.count,
      );
}

module _ (spans : List Span) (now kept : Spots) (name : List ℕ) where
  others_inserted : (t : Spot) (q : List ℕ) (x : Spot) → same_name q name ≡ false
      → is_freed (fin.insert now name t) (q, x) ≡ is_freed now (q, x)
  others_inserted t q x other = ap (λ o. nat_lt 0 x.size && not (is_at o x)) (get_inserted now name q t other)

  others_removed : (q : List ℕ) (x : Spot) → same_name q name ≡ false
      → is_freed (fin.remove now name) (q, x) ≡ is_freed now (q, x)
  others_removed q x other = ap (λ o. nat_lt 0 x.size && not (is_at o x)) (get_removed now name q other)

  pub at_itself : (s : Spot) → is_at (Some s) s ≡ true
  at_itself s = and_from (s.place == s.place) (s.size == s.size) (eq-eqb s.place s.place refl)
      (eq-eqb s.size s.size refl)

  pub stood_there : (s : Spot) → fin.get now name ≡ Some s → is_freed now (name, s) ≡ false
  stood_there s is = ap (λ o. nat_lt 0 s.size && not (is_at o s)) is
      ∙ ap (λ x. nat_lt 0 s.size && not x) (at_itself s) ∙ none (nat_lt 0 s.size)
    where
      none : (x : Bool) → (x && false) ≡ false
      none true = refl
      none false = refl

  -- an object is set or moved off the space that was kept for it: its old span joins
  pub freed_by_set : (joined : List Span) (s t : Spot) (a : Span) → fin.get kept name ≡ Some s
      → fin.get now name ≡ Some s
      → 0 < s.size → is_at (Some t) s ≡ false → IsSpanOf s a → Joins a spans joined → IsFreed spans now kept
      → IsFreed joined (fin.insert now name t) kept
  freed_by_set joined s t a held stands some off span j h =
      freed_more spans joined now (fin.insert now name t) kept name s a held span (stood_there s stands)
      (and_from (nat_lt 0 s.size) (not (is_at (fin.get (fin.insert now name t) name) s))
      (lt-ltb 0 s.size some) (ap (λ o. not (is_at o s)) (get_inserted_here now name t) ∙ ap not off))
      (others_inserted t) j h

  -- an object goes from the space that was kept for it
  pub freed_by_remove : (joined : List Span) (s : Spot) (a : Span) → fin.get kept name ≡ Some s
      → fin.get now name ≡ Some s
      → 0 < s.size → IsSpanOf s a → Joins a spans joined → IsFreed spans now kept
      → IsFreed joined (fin.remove now name) kept
  freed_by_remove joined s a held stands some span j h =
      freed_more spans joined now (fin.remove now name) kept name s a held span (stood_there s stands)
      (and_from (nat_lt 0 s.size) (not (is_at (fin.get (fin.remove now name) name) s)) (lt-ltb 0 s.size some)
      (ap (λ o. not (is_at o s)) (get_removed_here now name))) others_removed j h

  -- an object is set or moved, and neither its old spot nor its new one is the one that was kept for it
  pub freed_past_set : (t : Spot) → ((s : Spot) → fin.get kept name ≡ Some s → 0 < s.size
      → is_at (Some t) s ≡ is_at (fin.get now name) s) → IsFreed spans now kept
      → IsFreed spans (fin.insert now name t) kept
  freed_past_set t alike h = freed_same spans now (fin.insert now name t) kept each h
    where
      each : (q : List ℕ) (s : Spot) → fin.get kept q ≡ Some s
          → is_freed (fin.insert now name t) (q, s) ≡ is_freed now (q, s)
      each q s is = elim (cases_Bool (same_name q name)) [
        | inr other ↦ others_inserted t q s other
        | inl tie ↦
            let k : q ≡ name = same_name-is q name tie in
            let held : fin.get kept name ≡ Some s = ap (fin.get kept) (sym k) ∙ is in
            elim (cases_Bool (nat_lt 0 s.size)) [
              | inr empty ↦ ap (λ x. x && not (is_at (fin.get (fin.insert now name t) q) s)) empty
                  ∙ sym (ap (λ x. x && not (is_at (fin.get now q) s)) empty)
              | inl some ↦ ap (λ o. nat_lt 0 s.size && not (is_at o s))
                  (ap (fin.get (fin.insert now name t)) k ∙ get_inserted_here now name t)
                  ∙ ap (λ x. nat_lt 0 s.size && not x) (alike s held (ltb-true 0 s.size some))
                  ∙ ap (λ o. nat_lt 0 s.size && not (is_at o s)) (ap (fin.get now) (sym k))
            ]
      ]

  -- an object goes that didn't stand where it was kept
  pub freed_past_remove : ((s : Spot) → fin.get kept name ≡ Some s → 0 < s.size
      → is_at (fin.get now name) s ≡ false) → IsFreed spans now kept
      → IsFreed spans (fin.remove now name) kept
  freed_past_remove off h = freed_same spans now (fin.remove now name) kept each h
    where
      each : (q : List ℕ) (s : Spot) → fin.get kept q ≡ Some s
          → is_freed (fin.remove now name) (q, s) ≡ is_freed now (q, s)
      each q s is = elim (cases_Bool (same_name q name)) [
        | inr other ↦ others_removed q s other
        | inl tie ↦
            let k : q ≡ name = same_name-is q name tie in
            let held : fin.get kept name ≡ Some s = ap (fin.get kept) (sym k) ∙ is in
            elim (cases_Bool (nat_lt 0 s.size)) [
              | inr empty ↦ ap (λ x. x && not (is_at (fin.get (fin.remove now name) q) s)) empty
                  ∙ sym (ap (λ x. x && not (is_at (fin.get now q) s)) empty)
              | inl some ↦ ap (λ o. nat_lt 0 s.size && not (is_at o s))
                  (ap (fin.get (fin.remove now name)) k ∙ get_removed_here now name)
                  ∙ ap (λ x. nat_lt 0 s.size && not x) (sym (off s held (ltb-true 0 s.size some)))
                  ∙ ap (λ o. nat_lt 0 s.size && not (is_at o s)) (ap (fin.get now) (sym k))
            ]
      ]

pub not_at_apart : (t s : Spot) → 0 < s.size → LiesApart t.place t.size s → is_at (Some t) s ≡ false
not_at_apart t s some apart = elim (cases_Bool (is_at (Some t) s)) [
  | inr off ↦ off
  | inl at ↦
      let q = and_parts (t.place == s.place) (t.size == s.size) at in
      absurd (elim apart as (λ x. ⊥) [
        | inl low ↦ omega (arith, low, some, eqb-true t.place s.place q.0)
        | inr high ↦ omega (arith, high, some, eqb-true t.place s.place q.0, eqb-true t.size s.size q.1)
      ])
]

-- A move within a flush, to space that no kept object holds: the span joins where the object stood on kept
-- space.
pub freed_by_move : (spans joined : List Span) (now kept : Spots) (name : List ℕ) (s t : Spot) (a : Span)
    → fin.get now name ≡ Some s → fin.get kept name ≡ Some s → 0 < s.size
    → ((x : Spot) → fin.get kept name ≡ Some x → LiesApart t.place t.size x) → IsSpanOf s a
    → Joins a spans joined → IsFreed spans now kept → IsFreed joined (fin.insert now name t) kept
freed_by_move spans joined now kept name s t a stands held some free span j h =
    freed_by_set spans now kept name joined s t a held stands some (not_at_apart t s some (free s held)) span
    j
    h

pub freed_past_move : (spans : List Span) (now kept : Spots) (name : List ℕ) (s t : Spot)
    → fin.get now name ≡ Some s → ((x : Spot) → fin.get kept name ≡ Some x → is_at (Some s) x ≡ false)
    → ((x : Spot) → fin.get kept name ≡ Some x → LiesApart t.place t.size x) → IsFreed spans now kept
    → IsFreed spans (fin.insert now name t) kept
freed_past_move spans now kept name s t stands off free h =
    freed_past_set spans now kept name t
    (λ x held some. not_at_apart t x some (free x held) ∙ sym (ap (λ o. is_at o x) stands ∙ off x held)) h

-- A new name, at space that no kept object of its name holds.
pub freed_past_new : (spans : List Span) (now kept : Spots) (name : List ℕ) (t : Spot)
    → fin.get now name ≡ None → ((x : Spot) → fin.get kept name ≡ Some x → LiesApart t.place t.size x)
    → IsFreed spans now kept → IsFreed spans (fin.insert now name t) kept
freed_past_new spans now kept name t none free h =
    freed_past_set spans now kept name t
    (λ x held some. not_at_apart t x some (free x held) ∙ sym (ap (λ o. is_at o x) none)) h

-- After a checkpoint, or after going back to one, nothing is freed.
pub freed_nothing : (spots : Spots) → IsFreed [] spots spots
freed_nothing spots = record {
  covers = λ q s is freed. absurd (let gone : true ≡ false = sym freed ∙ stood_there [] spots spots q s is in
      cc);
  only = λ a there. absurd (omega (arith, there.1));
  count = sym (weights-agree (frees spots) (λ e. 0) spots
      (λ q s is. ap (λ x. cond x 1 0) (stood_there [] spots spots q s is)) ∙ zeros (fin.entries spots));
}
  where
    zeros : (es : List (List ℕ × Spot)) → sum_by (λ (e : List ℕ × Spot). 0) es ≡ 0
    zeros [] = refl
    zeros (e ∷ es) = omega (arith, sum_by-cons (λ (x : List ℕ × Spot). 0) e es, zeros es)
