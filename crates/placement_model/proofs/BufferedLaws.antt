-- Which names stand in buffers: by the spots of a table, and after a put and a removal.
use Rattle.std.specs.Prelude.{◌≡◌, ℕ, Bool, true, false, not, cond, T, ◌&&◌, ◌||◌, if◌then◌else◌, List, [], ◌∷◌, map, filter, Option, Some, None, refl}
use Rattle.std.specs.List.{list_any}
use Rattle.std.proofs.Common.{sym, ◌∙◌, ap, inl, inr}
use Rattle.std.proofs.lemmas.Bool.{cases_Bool, cond-true, cond-false}
use Rattle.std.specs.Cmp.{Equal-is}
use Rattle.std.specs.FinMap as fin
use Rattle.std.specs.FinMap.Entries.{below_all, find, is_sorted}
use Rattle.std.specs.FinSet as set
use Rattle.slot_codec.specs.Names.{IsName, name_cmp}
use Rattle.slot_codec.specs.declared.codec.Record.{Record}
use Rattle.map_model.proofs.MapLaws.{find_past, first_of_both, name_order, names_differ, same_name-is, second_of_both}
use Rattle.map_model.specs.Weights.{same_name}
use Rattle.extent_table.specs.declared.spot.Spot.{Spot}
use Rattle.extent_table.specs.Extents.{Spots, record_of, records_of}
use Rattle.extent_table.proofs.ExtentLaws.{records_of-all}
use Rattle.placement_model.specs.Buffered.{chosen_names, passes}
use Rattle.placement_model.specs.Reads.{AreNamed}
use Rattle.placement_model.proofs.ReadLaws.{AreNamed-insert, AreNamed-remove}

module _ (p : Record → Bool) where
  any_chosen : (q : List ℕ) (es : List (List ℕ × Spot)) → T (is_sorted name_cmp es)
      → list_any (same_name q) (map (λ (r : Record). r.name) (filter p (map record_of es)))
      ≡ passes p q (find name_cmp q es)
  any_chosen q [] h = refl
  any_chosen q (e ∷ es) h =
      let rest = any_chosen q es (second_of_both (below_all name_cmp e.0 es) (is_sorted name_cmp es) h) in
      let low = first_of_both (below_all name_cmp e.0 es) (is_sorted name_cmp es) h in
      let tail = filter p (map record_of es) in
      let any = λ (rs : List Record). list_any (same_name q) (map (λ (r : Record). r.name) rs) in
      elim (cases_Bool (same_name q e.0))
      as (λ _. any (filter p (map record_of (e ∷ es))) ≡ passes p q (find name_cmp q (e ∷ es))) [
        | inl same ↦
            let here : passes p q (find name_cmp q (e ∷ es))
            ≡ p (record_of (q, e.1)) = ap (passes p q)
            (cond-true (same_name q e.0) (Some e.1) (find name_cmp q es) same) in
            let name : p (record_of (q, e.1)) ≡ p (record_of e) =
            λ i. p (record_of (same_name-is q e.0 same i, e.1)) in
            elim (cases_Bool (p (record_of e))) [
              | inl is ↦ ap any (cond-true (p (record_of e)) (record_of e ∷ tail) tail is)
                  ∙ ap (λ b. b || any tail) same ∙ sym (here ∙ name ∙ is)
              | inr other ↦ ap any (cond-false (p (record_of e)) (record_of e ∷ tail) tail other) ∙ rest
                  ∙ ap (passes p q) (find_past q e.0 es ((Equal-is (name_cmp q e.0)).0 same) low)
                  ∙ sym (here ∙ name ∙ other)
            ]
        | inr apart ↦
            let there : passes p q (find name_cmp q (e ∷ es))
            ≡ passes p q (find name_cmp q es) = ap (passes p q)
            (cond-false (same_name q e.0) (Some e.1) (find name_cmp q es) apart) in
            elim (cases_Bool (p (record_of e))) [
              | inl is ↦ ap any (cond-true (p (record_of e)) (record_of e ∷ tail) tail is)
                  ∙ ap (λ b. b || any tail) apart ∙ rest ∙ sym there
              | inr other ↦ ap any (cond-false (p (record_of e)) (record_of e ∷ tail) tail other) ∙ rest
                  ∙ sym there
            ]
      ]

  pub contains-chosen : (spots : Spots) → AreNamed spots → (q : List ℕ)
      → set.contains (chosen_names p spots) q ≡ passes p q (fin.get spots q)
  contains-chosen spots named q =
      set.contains-from_list name_order (map (λ (r : Record). r.name) (filter p (records_of spots))) q
      ∙ ap (λ rs. list_any (same_name q) (map (λ (r : Record). r.name) (filter p rs)))
      (records_of-all spots named)
      ∙ any_chosen q (fin.entries spots) (fin.entries_sorted spots)
      ∙ ap (passes p q) (sym (fin.get-entries spots q))

  -- after a removal
  pub chosen-remove : (spots : Spots) (name : List ℕ) → AreNamed spots
      → chosen_names p (fin.remove spots name) ≡ set.remove (chosen_names p spots) name
  chosen-remove spots name named =
      set.same_set name_order names_differ (chosen_names p (fin.remove spots name))
      (set.remove (chosen_names p spots) name) (λ q.
      contains-chosen (fin.remove spots name) (AreNamed-remove spots name named) q
      ∙ ap (passes p q) (fin.get-remove name_order spots name q)
      ∙ none (same_name q name) q (fin.get spots q)
      ∙ ap (λ b. not (same_name q name) && b) (sym (contains-chosen spots named q))
      ∙ sym (set.contains-remove name_order (chosen_names p spots) name q))
    where
      none : (b : Bool) (q : List ℕ) (o : Option Spot) → passes p q (cond b None o) ≡ (not b && passes p q o)
      none true q o = refl
      none false q o = refl

  -- after a put of a name whose record passes, or not
  pub chosen-insert : (spots : Spots) (name : List ℕ) (s : Spot) → AreNamed spots → IsName name
      → chosen_names p (fin.insert spots name s)
      ≡ (if p (record_of (name, s)) then set.insert (set.remove (chosen_names p spots) name) name
      else set.remove (chosen_names p spots) name)
  chosen-insert spots name s named is =
      set.same_set name_order names_differ (chosen_names p (fin.insert spots name s)) _ (λ q.
      contains-chosen (fin.insert spots name s) (AreNamed-insert spots name s named is) q
      ∙ ap (passes p q) (fin.get-insert name_order spots name s q)
      ∙ put q (p (record_of (name, s))) refl)
    where
      put : (q : List ℕ) (x : Bool) → p (record_of (name, s)) ≡ x
          → passes p q (cond (same_name q name) (Some s) (fin.get spots q))
          ≡ set.contains (if x then set.insert (set.remove (chosen_names p spots) name) name
          else set.remove (chosen_names p spots) name) q
      put q x e = elim (cases_Bool (same_name q name)) [
        | inl same ↦
            ap (passes p q) (cond-true (same_name q name) (Some s) (fin.get spots q) same)
            ∙ (λ i. p (record_of (same_name-is q name same i, s)))
            ∙ e
            ∙ here x same
        | inr other ↦
            ap (passes p q) (cond-false (same_name q name) (Some s) (fin.get spots q) other)
            ∙ sym (contains-chosen spots named q)
            ∙ there x other
      ]
        where
          gone : same_name q name ≡ true → set.contains (set.remove (chosen_names p spots) name) q ≡ false
          gone same = set.contains-remove name_order (chosen_names p spots) name q
              ∙ ap (λ b. not b && set.contains (chosen_names p spots) q) same

          left : same_name q name ≡ false → set.contains (set.remove (chosen_names p spots) name) q
              ≡ set.contains (chosen_names p spots) q
          left other = set.contains-remove name_order (chosen_names p spots) name q
              ∙ ap (λ b. not b && set.contains (chosen_names p spots) q) other

          here : (y : Bool) → same_name q name ≡ true
              → y ≡ set.contains (if y then set.insert (set.remove (chosen_names p spots) name) name
              else set.remove (chosen_names p spots) name) q
          here true same = sym (set.contains-insert name_order (set.remove (chosen_names p spots) name) name q
              ∙ ap (λ b. b || set.contains (set.remove (chosen_names p spots) name) q) same)
          here false same = sym (gone same)

          there : (y : Bool) → same_name q name ≡ false
              → set.contains (chosen_names p spots) q
              ≡ set.contains (if y then set.insert (set.remove (chosen_names p spots) name) name
              else set.remove (chosen_names p spots) name) q
          there true other = sym (set.contains-insert name_order (set.remove (chosen_names p spots) name) name
              q
              ∙ ap (λ b. b || set.contains (set.remove (chosen_names p spots) name) q) other ∙ left other)
          there false other = sym (left other)
