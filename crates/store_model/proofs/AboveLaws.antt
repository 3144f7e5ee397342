-- The first name above some bytes, found by halving.
use Rattle.std.specs.Prelude.{◌≡◌, ℕ, zero, suc, ◌+◌, ◌<◌, ◌≤◌, ◌&&◌, Bool, T, true, false, List, [], ◌∷◌, map, length, slice_get, Option, Some, None, option_map, refl}
use Rattle.std.proofs.Common.{arith, ap, subst, sym, ◌∙◌, inl, inr}
use Rattle.std.proofs.lemmas.Bool.{cases_Bool, cases_lt}
use Rattle.std.proofs.lemmas.Option.{same_Some, slice_get-map, slice_get_past, slice_get_within}
use Rattle.std.specs.FinMap as fin
use Rattle.std.specs.FinMap.Entries.{below_all}
use Rattle.std.specs.List.{find}
use Rattle.std.specs.Ordering.{is_lt}
use Rattle.std.specs.declared.cmp.Ordering.{Ordering}
use Rattle.std.specs.declared.cmp.Ordering.TheVariants.{Less, Equal, Greater}
use Rattle.slot_codec.specs.Names.{name_cmp}
use Rattle.map_model.proofs.MapLaws.{name_order}
use Rattle.extent_table.specs.declared.spot.Spot.{Spot}
use Rattle.extent_table.specs.Extents.{Spots}
use Rattle.extent_table.specs.Rising.{below_each, left, of_mapped, right}
use Rattle.store_model.specs.Lines.{listing_of}
use Rattle.store_model.proofs.LineLaws.{length-listing}
use Rattle.store_model.specs.Above.{first_above, is_above}

-- the first element that passes a test, where none before it does
pub find-first : {X : Type 0} (p : X → Bool) (xs : List X) (n : ℕ)
    → ((k : ℕ) (x : X) → k < n → slice_get xs k ≡ Some x → p x ≡ false)
    → ((x : X) → slice_get xs n ≡ Some x → p x ≡ true) → find p xs ≡ slice_get xs n
find-first p [] n before here = sym (slice_get_past [] n (omega arith))
find-first p (x ∷ xs) zero before here = rw (here x refl) refl
find-first p (x ∷ xs) (suc n) before here =
    rw (before 0 x (omega arith) refl)
    (find-first p xs n (λ k y low is. before (suc k) y (omega (arith, low)) is) here)

abbrev listed : List ℕ × Spot → List ℕ × ℕ
listed e = (e.0, e.1.size)

-- an order of two is Less where the test says so
less_if : (o : Ordering) → is_lt o ≡ true → o ≡ Less
less_if Less is = refl
less_if Equal is = absurd (cc)
less_if Greater is = absurd (cc)

-- in a sorted list the keys rise from each place to each later one
rise : (es : List (List ℕ × Spot)) (i j : ℕ) (a b : List ℕ × Spot) → T (fin.is_sorted name_cmp es) → i < j
    → slice_get es i ≡ Some a → slice_get es j ≡ Some b → name_cmp a.0 b.0 ≡ Less
rise [] i j a b h lt x y = absurd (cc)
rise (e ∷ es) zero zero a b h lt x y = absurd (omega arith)
rise (e ∷ es) (suc i) zero a b h lt x y = absurd (omega arith)
rise (e ∷ es) zero (suc j) a b h lt x y =
    ap (λ (c : List ℕ × Spot). name_cmp c.0 b.0) (sym (same_Some e a x))
    ∙ less_if (name_cmp e.0 b.0) (below_each name_cmp (λ k. true) e.0 es j b (first h) y)
  where
    first : T (below_all name_cmp e.0 es && fin.is_sorted name_cmp es) → T (below_all name_cmp e.0 es)
    first t = rw (left (below_all name_cmp e.0 es) (fin.is_sorted name_cmp es) t) tt
rise (e ∷ es) (suc i) (suc j) a b h lt x y =
    rise es i j a b (right (below_all name_cmp e.0 es) (fin.is_sorted name_cmp es) h) (omega arith) x y

-- No name below one place is greater than the bytes, and each from another one on is.
pub record IsHalved (bytes : List ℕ) (spots : Spots) (low high : ℕ) : Type 0 where
  pub ordered : low ≤ high
  pub within : high ≤ fin.len spots
  pub below : (k : ℕ) (e : List ℕ × Spot) → k < low → slice_get (fin.entries spots) k ≡ Some e
      → is_above bytes e.0 ≡ false
  pub above : (k : ℕ) (e : List ℕ × Spot) → high ≤ k → slice_get (fin.entries spots) k ≡ Some e
      → is_above bytes e.0 ≡ true

pub halved_first : (bytes : List ℕ) (spots : Spots) → IsHalved bytes spots 0 (fin.len spots)
halved_first bytes spots = record {
  ordered = omega arith;
  within = omega arith;
  below = λ k e low is. absurd (omega (arith, low));
  above = λ k e high is. absurd (omega (
    arith,
    high,
    slice_get_within (fin.entries spots) k e is,
    fin.len-entries spots,
  ));
}

module _ {bytes : List ℕ} {spots : Spots} {low high : ℕ} (h : IsHalved bytes spots low high) (middle : ℕ)
    (from : low ≤ middle) (upto : middle < high) (e : List ℕ × Spot)
    (there : slice_get (fin.entries spots) middle ≡ Some e) where
  -- the name in the middle isn't greater, and so is none before it
  pub halved_up : is_above bytes e.0 ≡ false → IsHalved bytes spots (middle + 1) high
  halved_up not_above = record {
    ordered = omega (arith, upto);
    within = h.within;
    below = λ k x less is. elim (cases_lt k middle) [
      | inl before ↦ elim (cases_Bool (is_above bytes x.0)) [
        | inr fine ↦ fine
        | inl greater ↦
            let up : is_above bytes e.0 ≡ true = ap is_lt (name_order.trans bytes x.0 e.0
            (less_if (name_cmp bytes x.0) greater)
            (rise (fin.entries spots) k middle x e (fin.entries_sorted spots) before is there)) in
            absurd (let bad : false ≡ true = sym not_above ∙ up in cc)
      ]
      | inr rest ↦
          let same : k ≡ middle = omega (arith, less, rest) in
          let here : slice_get (fin.entries spots) k ≡ Some e = subst (λ n. slice_get (fin.entries spots) n
          ≡ Some e) (sym same) there in
          ap (λ (y : List ℕ × Spot). is_above bytes y.0) (same_Some x e (sym is ∙ here)) ∙ not_above
    ];
    above = h.above;
  }

  -- it is, and so is each behind it
  pub halved_down : is_above bytes e.0 ≡ true → IsHalved bytes spots low middle
  halved_down greater = record {
    ordered = from;
    within = omega (arith, upto, h.within);
    below = h.below;
    above = λ k x least is. elim (cases_lt middle k) [
      | inl behind ↦ ap is_lt (name_order.trans bytes e.0 x.0 (less_if (name_cmp bytes e.0) greater)
          (rise (fin.entries spots) middle k e x (fin.entries_sorted spots) behind there is))
      | inr rest ↦
          let same : k ≡ middle = omega (arith, least, rest) in
          let here : slice_get (fin.entries spots) k ≡ Some e = subst (λ n. slice_get (fin.entries spots) n
          ≡ Some e) (sym same) there in
          ap (λ (y : List ℕ × Spot). is_above bytes y.0) (same_Some x e (sym is ∙ here)) ∙ greater
    ];
  }

-- where the halves met, the name there is the first
module _ {bytes : List ℕ} {spots : Spots} {low high : ℕ} (h : IsHalved bytes spots low high)
    (met : high ≤ low) where
  first_is : first_above bytes (listing_of spots) ≡ slice_get (listing_of spots) low
  first_is = find-first (λ e. is_above bytes e.0) (listing_of spots) low
      (λ k x less is.
      let at = of_mapped listed (slice_get (fin.entries spots) k) x
      (sym (slice_get-map listed (fin.entries spots) k) ∙ is) in
      ap (λ (y : List ℕ × ℕ). is_above bytes y.0) (sym at.2) ∙ h.below k at.0 less at.1)
      (λ x is.
      let at = of_mapped listed (slice_get (fin.entries spots) low) x
      (sym (slice_get-map listed (fin.entries spots) low) ∙ is) in
      ap (λ (y : List ℕ × ℕ). is_above bytes y.0) (sym at.2) ∙ h.above low at.0 met at.1)

  pub first_none : low ≡ fin.len spots → first_above bytes (listing_of spots) ≡ None
  first_none end = first_is ∙ slice_get_past (listing_of spots) low (omega (
    arith,
    end,
    length-listing spots,
  ))

  pub first_some : (name : List ℕ) (x : Spot) → slice_get (fin.entries spots) low ≡ Some (name, x)
      → first_above bytes (listing_of spots) ≡ Some (name, x.size)
  first_some name x is = first_is ∙ slice_get-map listed (fin.entries spots) low ∙ ap (option_map listed) is
