-- Keys that were laid out anew: one more of them, and what the entries and maps of a table are then.
use Rattle.std.proofs.Common.{◌≡◌, ◌⊎◌, ℕ, suc, ◌+◌, ◌<◌, ◌≤◌, T, List, [], ◌∷◌, ◌++◌, map, length, get_or, sum_by, Option, Some, None, IsSome, refl, ap, sym, subst, ◌∙◌, inl, inr, arith}
use Rattle.std.proofs.lemmas.Bool.{cases_eq, cases_lt}
use mathlib.Core.Logic.{⊎_elim}
use Rattle.std.proofs.lemmas.Cmp.{nat_list_cmp_total, tied_itself}
use Rattle.std.proofs.lemmas.List.{get_or_append_left, get_or_push, length_push}
use Rattle.std.specs.FinMap.{is_sorted, get, from_sorted}
use Rattle.slot_codec.specs.Names.{IsName, name_cmp}
use Rattle.std.specs.declared.cmp.Ordering.TheVariants.{Less}
use Rattle.extent_table.specs.declared.spot.Spot.{Spot}
use Rattle.extent_table.specs.declared.kept.Kept.{Kept}
use Rattle.extent_table.specs.declared.kept.Kept.TheVariants.{Same}
use Rattle.extent_table.specs.Kept.{kept_in}
use Rattle.extent_table.specs.Entries.{Entry, Standing, entry_of, entries_of}
use Rattle.extent_table.specs.Extents.{IsInRange}
use Rattle.extent_table.specs.Parts.{Slots, at, name_of, now_of, kept_of, spot_or_zero, row_of, map_of, spot_at, spots_of, volume_in, IsOrder, IsEntries, IsSound}
use Rattle.extent_table.specs.Relaid.{AreRelaid}
use Rattle.extent_table.proofs.EntriesLemmas.{entry_at, some_name}
use Rattle.extent_table.proofs.MapLemmas.{sorted_any, sum_values}
use Rattle.extent_table.proofs.SideLemmas.{some_of_now, some_of_kept, side_is, rising_names, get_here, get_place}

-- no keys yet
pub relaid_none : {X : Type 0} {old : List (Option X)} {from : List ℕ} → AreRelaid 0 old [] from []
relaid_none = record {
  long = refl;
  same = λ i lt. absurd (omega (arith, lt));
  apart = λ i j lt within. absurd (omega (arith, within));
  whole = λ key some. absurd (cc);
}

-- one key more, which nothing had
module _ {X : Type 0} {n : ℕ} {old new : List (Option X)} {from to : List ℕ}
    (r : AreRelaid n old new from to) (key : ℕ)
    (there : (i : ℕ) → i < n → IsSome (get_or old (get_or from i 0) None))
    (vacant : get_or new key None ≡ None) where
  differs : (i : ℕ) → i < n → get_or to i 0 ≡ key → ⊥
  differs i lt e =
      let some : IsSome (get_or new (get_or to i 0) None) =
      subst (λ o. IsSome o) (sym (r.same i lt)) (there i lt) in
      let never = rw (e, vacant) at some in
      cc

  kept_place : (i : ℕ) → i < n → get_or (to ++ key ∷ []) i 0 ≡ get_or to i 0
  kept_place i lt = get_or_append_left to (key ∷ []) 0 i (omega (arith, lt, r.long))

  last_place : get_or (to ++ key ∷ []) n 0 ≡ key
  last_place = get_or_push to key 0 n r.long

  pub relaid_more : (later : List (Option X)) (x : X) → get_or later key None ≡ Some x
      → ((k : ℕ) → (k ≡ key → ⊥) → get_or later k None ≡ get_or new k None)
      → get_or old (get_or from n 0) None ≡ Some x → AreRelaid (n + 1) old later from (to ++ key ∷ [])
  relaid_more later x here others was = record {
    long = omega (arith, length_push to key, r.long);
    same = λ i lt. ⊎_elim
        (λ (e : i ≡ n). subst (λ j. get_or later (get_or (to ++ key ∷ []) j 0) None
        ≡ get_or old (get_or from j 0) None) (sym e)
        (ap (λ k. get_or later k None) last_place ∙ here ∙ sym was))
        (λ apart. let less : i < n = omega (arith, lt, apart) in
        ap (λ k. get_or later k None) (kept_place i less) ∙ others (get_or to i 0) (differs i less)
        ∙ r.same i less)
        (cases_eq i n);
    apart = λ i j lt within same. ⊎_elim
        (λ (e : j ≡ n). let less : i < n = omega (arith, lt, e) in
        differs i less (sym (kept_place i less) ∙ same
        ∙ ap (λ k. get_or (to ++ key ∷ []) k 0) e ∙ last_place))
        (λ other. let less : j < n = omega (arith, within, other) in
        r.apart i j lt less (sym (kept_place i (omega (arith, lt, less))) ∙ same ∙ kept_place j less))
        (cases_eq j n);
    whole = λ k some. ⊎_elim
        (λ (e : k ≡ key). (n, omega (arith, length_push to key, r.long), last_place ∙ sym e))
        (λ other. let p = r.whole k (subst (λ o. IsSome o) (others k other) some) in (
          p.0,
          omega (arith, p.1, length_push to key),
          get_or_append_left to (key ∷ []) 0 p.0 p.1 ∙ p.2,
        ))
        (cases_eq k key);
  }

-- an entry of which nothing else was kept than what stands
unchanged : (x : Kept) (s : Option Standing) → kept_of (entry_of x s) ≡ now_of (entry_of x s)
    → entry_of Same s ≡ entry_of x s
unchanged x None is = refl
unchanged x (Some s) is = ap (λ k. Some (record { name = s.name; now = s.now; kept = k })) (sym is)

pub relaid_entries : {n : ℕ} {ss tt : List (Option Standing)} (kept : List Kept) {from to : List ℕ}
    → AreRelaid n ss tt from to
    → ((k : ℕ) → kept_of (get_or (entries_of ss kept) k None) ≡ now_of (get_or (entries_of ss kept) k None))
    → AreRelaid n (entries_of ss kept) (entries_of tt []) from to
relaid_entries {n} {ss} {tt} kept {from} {to} r all = record {
  long = r.long;
  same = λ i lt. let k = get_or from i 0 in
      entry_at tt [] (get_or to i 0) ∙ ap (entry_of Same) (r.same i lt)
      ∙ unchanged (kept_in kept k) (get_or ss k None)
      (subst (λ e. kept_of e ≡ now_of e) (entry_at ss kept k) (all k))
      ∙ sym (entry_at ss kept k);
  apart = r.apart;
  whole = λ k some. r.whole k (some_name Same (get_or tt k None)
      (subst (λ e. IsSome e) (entry_at tt [] k) some));
}

-- functions that agree along two lists of keys give the same list
map_along : {X : Type 0} (f g : ℕ → X) (xs ys : List ℕ) → length xs ≡ length ys
    → ((i : ℕ) → i < length ys → f (get_or xs i 0) ≡ g (get_or ys i 0)) → map f xs ≡ map g ys
map_along f g [] [] long same = refl
map_along f g [] (y ∷ ys) long same = absurd (omega (arith, long))
map_along f g (x ∷ xs) [] long same = absurd (omega (arith, long))
map_along f g (x ∷ xs) (y ∷ ys) long same = λ p. same 0 (omega arith) p
    ∷ map_along f g xs ys (omega (arith, long)) (λ j h. same (suc j) (omega (arith, h))) p

some_or_none : {X : Type 0} (o : Option X) → IsSome o ⊎ (o ≡ None)
some_or_none None = inr refl
some_or_none (Some x) = inl refl

-- in an order each name has one place
one_place : {side : Option Entry → Option Spot} {s : Slots} {order : List ℕ} → IsOrder side s order
    → (i j : ℕ) → i < length order → j < length order
    → name_of (at s (get_or order i 0)) ≡ name_of (at s (get_or order j 0)) → i ≡ j
one_place {s = s} {order = order} h i j a b same =
    let name : ℕ → List ℕ = λ k. name_of (at s (get_or order k 0)) in
    let never : (k : ℕ) → name_cmp (name k) (name k) ≡ Less → ⊥ = λ k less.
    let tied = tied_itself nat_list_cmp_total (name k) in cc in
    ⊎_elim (λ e. e)
    (λ apart. absurd (⊎_elim
    (λ lt. never j (subst (λ n. name_cmp n (name j) ≡ Less) same (rising_names h i j lt b)))
    (λ le. never i (subst (λ n. name_cmp n (name i) ≡ Less) (sym same)
    (rising_names h j i (omega (arith, le, apart)) a)))
    (cases_lt i j)))
    (cases_eq i j)

module _ {s t : Slots} {from to : List ℕ} (r : AreRelaid (length from) s t from to) where
  rows : {X : Type 0} (v w : ℕ → X) → ((i : ℕ) → i < length from → w (get_or to i 0) ≡ v (get_or from i 0))
      → map (row_of w t) to ≡ map (row_of v s) from
  rows v w same = map_along (row_of w t) (row_of v s) to from r.long
      (λ i lt p. (ap name_of (r.same i lt) p, same i lt p))

  -- a map of the names by values that went along
  pub maps_go : {X : Type 0} (v w : ℕ → X)
      → ((i : ℕ) → i < length from → w (get_or to i 0) ≡ v (get_or from i 0))
      → map_of w t to ≡ map_of v s from
  unfolding map_of
  maps_go v w same = ap from_sorted (rows v w same)

  -- a side that was the other one
  module _ (side after : Option Entry → Option Spot) (h : IsOrder side s from)
      (same_side : (k : ℕ) → after (at s k) ≡ side (at s k))
      (some_of : (c : Option Entry) → IsSome (after c) → IsSome c) where
    side_goes : (i : ℕ) → i < length from → after (at t (get_or to i 0)) ≡ side (at s (get_or from i 0))
    side_goes i lt = ap after (r.same i lt) ∙ same_side (get_or from i 0)

    spot_goes : (i : ℕ) → i < length from → spot_at after t (get_or to i 0) ≡ spot_at side s (get_or from i 0)
    spot_goes i lt = ap spot_or_zero (side_goes i lt)

    pub spots_go : spots_of after t to ≡ spots_of side s from
    spots_go = maps_go (spot_at side s) (spot_at after t) spot_goes

    pub volume_goes : volume_in after t to ≡ volume_in side s from
    volume_goes =
        let size : Spot → ℕ = λ x. x.size in
        sym (sum_values (λ k. name_of (at t k)) (spot_at after t) size to)
        ∙ ap (λ es. sum_by size (map (λ e. e.1) es)) (rows (spot_at side s) (spot_at after t) spot_goes)
        ∙ sum_values (λ k. name_of (at s k)) (spot_at side s) size from

    pub order_goes : IsOrder after t to
    order_goes = record {
      rising = let none : ℕ → ℕ = λ k. 0 in
          subst T (sym (sorted_any name_cmp (λ k. name_of (at t k)) (λ k. k) none to
          ∙ ap (is_sorted name_cmp) (rows none none (λ i lt. refl))
          ∙ sym (sorted_any name_cmp (λ k. name_of (at s k)) (λ k. k) none from))) h.rising;
      here = λ i within. let lt : i < length from = omega (arith, within, r.long) in
          subst (λ o. IsSome o) (sym (side_goes i lt)) (h.here i lt);
      whole = λ key some. r.whole key (some_of (at t key) some);
    }

  module _ (h : IsOrder now_of s from) (entries : IsEntries s) where
    was : (k : ℕ) → IsSome (at t k)
        → (i : ℕ) × (i < length from) × (get_or to i 0 ≡ k) × (at t k ≡ at s (get_or from i 0))
    was k some =
        let p = r.whole k some in
        let lt : p.0 < length from = omega (arith, p.1, r.long) in
        (p.0, lt, p.2, ap (at t) (sym p.2) ∙ r.same p.0 lt)

    there : (i : ℕ) → i < length from → IsSome (at s (get_or from i 0))
    there i lt = some_of_now (at s (get_or from i 0)) (h.here i lt)

    in_range : (side : Option Entry → Option Spot) → side None ≡ None
        → ((k : ℕ) → IsInRange (spot_at side s k)) → (k : ℕ) → IsInRange (spot_at side t k)
    in_range side none within k = ⊎_elim
        (λ some. let p = was k some in
        subst (λ c. IsInRange (spot_or_zero (side c))) (sym p.3) (within (get_or from p.0 0)))
        (λ is. subst (λ c. IsInRange (spot_or_zero (side c))) (sym is)
        (subst (λ c. IsInRange (spot_or_zero c)) (sym none) (omega arith, omega arith)))
        (some_or_none (at t k))

    entries_go : IsEntries t
    entries_go = record {
      used = λ k some. let p = was k some in
          inl (subst (λ c. IsSome (now_of c)) (sym p.3) (h.here p.0 p.1));
      one = λ a b x y same. let p = was a x in let q = was b y in
          sym p.2 ∙ ap (λ i. get_or to i 0) (one_place h p.0 q.0 p.1 q.1
          (ap name_of (sym p.3) ∙ same ∙ ap name_of q.3)) ∙ q.2;
      named = λ k some. let p = was k some in
          subst (λ c. IsName (name_of c)) (sym p.3) (entries.named (get_or from p.0 0) (there p.0 p.1));
      now_in_range = in_range now_of refl entries.now_in_range;
      kept_in_range = in_range kept_of refl entries.kept_in_range;
    }

    -- a table in which what stands now was kept
    pub sound_goes : {names : ℕ} → length from ≤ names → ((k : ℕ) → kept_of (at s k) ≡ now_of (at s k))
        → IsSound names t to to
    sound_goes room all = record {
      now = order_goes now_of now_of h (λ k. refl) some_of_now;
      kept = order_goes now_of kept_of h all some_of_kept;
      entries = entries_go;
      now_room = omega (arith, room, r.long);
      kept_room = omega (arith, room, r.long);
    }

-- what stands on one side of an entry stands on the other, where the maps of both are the same
module _ {s : Slots} (entries : IsEntries s) {side other : Option Entry → Option Spot}
    (some_of : (c : Option Entry) → IsSome (side c) → IsSome c)
    (some_of_other : (c : Option Entry) → IsSome (other c) → IsSome c) {order other_order : List ℕ}
    (h : IsOrder side s order) (g : IsOrder other s other_order)
    (same : spots_of other s other_order ≡ spots_of side s order) where
  shared : (k : ℕ) (v : Spot) → side (at s k) ≡ Some v → other (at s k) ≡ Some v
  shared k v is =
      let some : IsSome (side (at s k)) = rw is refl in
      let p = h.whole k some in
      let name = name_of (at s (get_or order p.0 0)) in
      let q = get_place g (spot_at other s) name (spot_at side s (get_or order p.0 0))
      (ap (λ m. get m name) same ∙ get_here h (spot_at side s) p.0 p.1) in
      let key : get_or other_order q.0 0 ≡ k = entries.one (get_or other_order q.0 0) (get_or order p.0 0)
      (some_of_other _ (g.here q.0 q.1)) (some_of _ (h.here p.0 p.1)) q.2 ∙ p.2 in
      let there : IsSome (other (at s k)) = subst (λ n. IsSome (other (at s n))) key (g.here q.0 q.1) in
      side_is (other (at s k)) there
      ∙ ap (λ x. Some x) (ap (spot_at other s) (sym key) ∙ q.3 ∙ ap (spot_at side s) p.2
      ∙ ap spot_or_zero is)

pub kept_as_now : {names : ℕ} {s : Slots} {order kept_order : List ℕ} → IsSound names s order kept_order
    → spots_of kept_of s kept_order ≡ spots_of now_of s order → (k : ℕ)
    → kept_of (at s k) ≡ now_of (at s k)
kept_as_now {s = s} sound same k = by_now (now_of (at s k)) refl
  where
    by_now : (x : Option Spot) → now_of (at s k) ≡ x → kept_of (at s k) ≡ x
    by_now (Some v) is = shared sound.entries some_of_now some_of_kept sound.now sound.kept same k v is
    by_now None is = by_kept (kept_of (at s k)) refl
      where
        by_kept : (y : Option Spot) → kept_of (at s k) ≡ y → kept_of (at s k) ≡ None
        by_kept None none = none
        by_kept (Some v) there = absurd (
            let stands =
            shared sound.entries some_of_kept some_of_now sound.kept sound.now (sym same) k v there in
            let never = sym is ∙ stands in
            cc)
