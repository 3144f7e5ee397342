-- Records that are set in order, one after another, are the records of the table.
use Rattle.std.specs.Prelude.{◌≡◌, ℕ, true, T, List, [], ◌∷◌, ◌++◌, length, map, Option, Some, None, IsSome, refl}
use Rattle.std.proofs.Common.{arith, sym, ◌∙◌, ap, subst, inl, inr, length-append}
use Rattle.std.proofs.lemmas.Bool.{cases_Bool, cond-true, cond-false}
use Rattle.std.proofs.lemmas.List.{map-append}
use Rattle.std.specs.Ordering.{is_lt, is_eq, ordering_reverse}
use Rattle.std.specs.declared.cmp.Ordering.{Ordering}
use Rattle.std.specs.declared.cmp.Ordering.TheVariants.{Less, Equal, Greater}
use Rattle.std.specs.FinMap as fin
use Rattle.std.specs.FinMap.Entries.{find, put, is_sorted, by_order, below_all}
use Rattle.slot_codec.specs.Choice.{plain, rises}
use Rattle.slot_codec.specs.Names.{IsName, name_cmp}
use Rattle.slot_codec.specs.declared.codec.Record.{Record}
use Rattle.map_model.proofs.MapLaws.{entries-empty, find_past, first_of_both, name_order, same_name-is, same_name-itself, second_of_both}
use Rattle.map_model.specs.Weights.{same_name}
use Rattle.extent_table.specs.declared.spot.Spot.{Spot}
use Rattle.extent_table.specs.Extents.{Spots, record_of}
use Rattle.extent_table.proofs.ExtentLaws.{records_of-all}
use Rattle.placement_model.specs.Reads.{AreNamed}
use Rattle.placement_model.proofs.ReadLaws.{AreNamed-insert}
use Rattle.placement_model.specs.Orders.{spot_of, IsUpTo, SetSoFar}
use Rattle.slot_codec.proofs.OrderLemmas.{is_less}

module _ {X : Type 0} where
  found_head : (e : List ℕ × X) (es : List (List ℕ × X)) → find name_cmp e.0 (e ∷ es) ≡ Some e.1
  found_head e es = cond-true (same_name e.0 e.0) (Some e.1) (find name_cmp e.0 es) (same_name-itself e.0)

  found_behind : (e : List ℕ × X) (es : List (List ℕ × X)) (k : List ℕ) (v : X)
      → T (below_all name_cmp e.0 es) → find name_cmp k es ≡ Some v → find name_cmp k (e ∷ es) ≡ Some v
  found_behind e es k v h is =
      elim (cases_Bool (same_name k e.0)) [
        | inl tie ↦ absurd (let none : None ≡ Some v = sym (find_past k e.0 es (tied k e.0 tie) h) ∙ is in cc)
        | inr other ↦ cond-false (same_name k e.0) (Some e.1) (find name_cmp k es) other ∙ is
      ]
    where
      tied : (a b : List ℕ) → same_name a b ≡ true → name_cmp a b ≡ Equal
      tied a b same = is_tie (name_cmp a b) same
        where
          is_tie : (o : Ordering) → is_eq o ≡ true → o ≡ Equal
          is_tie Less h = absurd (cc)
          is_tie Equal h = refl
          is_tie Greater h = absurd (cc)

  -- a name that stands behind all others is entered last
  put_last : (k : List ℕ) (v : X) (es : List (List ℕ × X)) → T (is_sorted name_cmp es)
      → ((q : List ℕ) (w : X) → find name_cmp q es ≡ Some w → name_cmp k q ≡ Greater)
      → put name_cmp k v es ≡ es ++ (k, v) ∷ []
  put_last k v [] h last = refl
  put_last k v (e ∷ es) h last =
      let behind = first_of_both (below_all name_cmp e.0 es) (is_sorted name_cmp es) h in
      ap (λ o. by_order o ((k, v) ∷ e ∷ es) ((e.0, v) ∷ es) (e ∷ put name_cmp k v es))
      (last e.0 e.1 (found_head e es))
      ∙ ap (λ (fs : List (List ℕ × X)). e ∷ fs)
      (put_last k v es (second_of_both (below_all name_cmp e.0 es) (is_sorted name_cmp es) h)
      (λ q w is. last q w (found_behind e es q w behind is)))

  pub entries-push : (m : fin.FinMap name_cmp X) (k : List ℕ) (v : X)
      → ((q : List ℕ) (w : X) → fin.get m q ≡ Some w → name_cmp k q ≡ Greater)
      → fin.entries (fin.insert m k v) ≡ fin.entries m ++ (k, v) ∷ []
  entries-push m k v last = fin.entries-insert name_order m k v
      ∙ put_last k v (fin.entries m) (fin.entries_sorted m) (λ q w is. last q w (fin.get-entries m q ∙ is))

pub set_none : SetSoFar fin.empty None []
set_none =
    let nothing : (q : List ℕ) → fin.get (fin.empty {X = Spot} {R = name_cmp}) q
    ≡ None = λ q. fin.get-empty name_cmp q in
    let named : AreNamed fin.empty = λ q some. let none = subst (λ o. IsSome o) (nothing q) some in
    absurd (cc) in
    record {
      named = named;
      upto = λ q s is. let none : None ≡ Some s = sym (nothing q) ∙ is in absurd (cc);
      records = records_of-all fin.empty named ∙ ap (map record_of) entries-empty;
      count = fin.len-empty name_cmp Spot;
    }

-- a name that rises behind the last one comes behind all names
pub behind_all : (last : Option (List ℕ)) (spots : Spots) (name : List ℕ) → IsUpTo last spots
    → rises last name ≡ true → (q : List ℕ) (s : Spot) → fin.get spots q ≡ Some s → name_cmp q name ≡ Less
behind_all None spots name none up q s there = absurd (none q s there)
behind_all (Some before) spots name upto up q s there = elim (upto q s there) [
  | inl same ↦ ap (λ x. name_cmp x name) same ∙ is_less (name_cmp before name) up
  | inr low ↦ name_order.trans q before name (is_less (name_cmp q before) low)
      (is_less (name_cmp before name) up)
]

-- one record more, whose name comes behind the last one
pub set_more : (spots : Spots) (last : Option (List ℕ)) (done : List Record) (r : Record)
    → SetSoFar spots last done → IsName r.name → rises last r.name ≡ true
    → SetSoFar (fin.insert spots r.name (spot_of r)) (Some r.name) (done ++ plain r ∷ [])
set_more spots last done r h is up =
    let below : (q : List ℕ) (s : Spot) → fin.get spots q ≡ Some s
    → name_cmp q r.name ≡ Less = behind_all last spots r.name h.upto up in
    let entries : fin.entries (fin.insert spots r.name (spot_of r)) ≡ fin.entries spots
    ++ (r.name, spot_of r) ∷ [] = entries-push spots r.name (spot_of r)
    (λ q s there. name_order.antisymm r.name q ∙ ap ordering_reverse (below q s there)) in
    let named = AreNamed-insert spots r.name (spot_of r) h.named is in
    record {
      named = named;
      upto = λ q s there. elim (cases_Bool (same_name q r.name)) [
        | inl same ↦ inl (same_name-is q r.name same)
        | inr other ↦ inr (ap is_lt (below q s
            (sym (cond-false (same_name q r.name) (Some (spot_of r)) (fin.get spots q) other)
            ∙ sym (fin.get-insert name_order spots r.name (spot_of r) q) ∙ there)))
      ];
      records = records_of-all (fin.insert spots r.name (spot_of r)) named ∙ ap (map record_of) entries
          ∙ map-append record_of (fin.entries spots) ((r.name, spot_of r) ∷ [])
          ∙ ap (λ rs. rs ++ plain r ∷ []) (sym (records_of-all spots h.named) ∙ h.records);
      count = omega (
        arith,
        fin.len-entries (fin.insert spots r.name (spot_of r)),
        ap length entries,
        length-append (fin.entries spots) ((r.name, spot_of r) ∷ []),
        fin.len-entries spots,
        h.count,
        length-append done (plain r ∷ []),
      );
    }
