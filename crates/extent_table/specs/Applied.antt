-- What changed, applied to the records before, gives those of now. These laws stand here, and not in proofs,
-- since what an impl says of its ghost members may name specs alone.
use Rattle.std.specs.Prelude.{◌≡◌, ℕ, zero, suc, ◌==◌, Bool, true, false, cond, not, ◌&&◌, T, List, [], ◌∷◌, map, slice_get, Option, Some, None, is_some, option_map, refl, bytes_eq}
use Rattle.std.proofs.Common.{ap, sym, subst, ◌∙◌, arith}
use Rattle.std.proofs.lemmas.Bool.{eqb-true}
use Rattle.std.proofs.lemmas.Cmp.{nat_list_cmp_total, tied_itself}
use Rattle.std.proofs.lemmas.Option.{same_Some, slice_get-map}
use Rattle.std.proofs.lemmas.Slice.Eq.{bytes_eq-Decides}
use Rattle.std.specs.List.{list_any}
use Rattle.std.specs.Ordering.{eq_by_cmp, is_eq, is_lt}
use Rattle.std.specs.FinMap as fin
use Rattle.std.specs.FinMap.Entries.{below_all}
use Rattle.slot_codec.specs.Changes.{moves_of, gone_of, puts_of}
use Rattle.slot_codec.specs.Changes.Change.{same, put}
use Rattle.slot_codec.specs.Items.{AreItems, after_items}
use Rattle.slot_codec.specs.Names.{is_name, name_cmp}
use Rattle.slot_codec.specs.Readable.{IsDigest, IsRecord}
use Rattle.slot_codec.specs.Rolls.{IsRoll}
use Rattle.slot_codec.specs.Rows.{IsPut, Rows, by_name, changed_rows, moved_row, rows_of, with_row}
use Rattle.slot_codec.specs.declared.codec.Record.{Record}
use Rattle.slot_codec.proofs.OrderLemmas.{not_tied_back}
use Rattle.extent_table.specs.Rising.{below_each}
use Rattle.extent_table.specs.Counted.{gone_are, moves_are, puts_are}
use Rattle.extent_table.specs.Changed.{AreRows, AreSorted, all_moved, first_below, gone_from, is_move, left_of, less_of, moved_by, moved_in, moves_from, none_now, one_gone, rest_sorted, same_name, first_part, later_part, tie_of}
use Rattle.extent_table.specs.Deltas.{changes_between, is_same_object, new_change, new_changes}

pub true_of : (b : Bool) → T b → b ≡ true
true_of true h = refl
true_of false h = absurd h

-- ---- the records that are put

abbrev pub is_new : Option Record → Record → Bool
is_new None s = true
is_new (Some r) s = not (is_same_object r s)

pub by_newness : (o : Option Record) (s : Record) → new_change o s ≡ cond (is_new o s) (put s) same
by_newness None s = refl
by_newness (Some r) s = elim (is_same_object r s) as (λ b. cond b same (put s) ≡ cond (not b) (put s) same)
    [ true ↦ refl | false ↦ refl ]

-- a name that is less than all others isn't found among them
nowhere : (name : List ℕ) (rs : List Record) → T (below_all name_cmp name (map by_name rs))
    → fin.find name_cmp name (map by_name rs) ≡ None
nowhere name [] h = refl
nowhere name (r ∷ rs) h =
    ap (λ o. cond (is_eq o) (Some r) (fin.find name_cmp name (map by_name rs)))
    (less_of (name_cmp name r.name) (first_part _ _ h)) ∙ nowhere name rs (later_part _ _ h)

-- a record of now by its name takes the place of another, if it is put
module _ (before : Rows) where
  abbrev put_over : Option Record → Option Record → Option Record
  put_over None x = x
  put_over (Some s) x = cond (is_new (fin.get before s.name) s) (Some s) x

  abbrev puts_from : List Record → List Record
  puts_from rs = puts_of (new_changes before rs)

  once_put : (rs : List Record) (rows : Rows) (q : List ℕ) → AreSorted rs
      → fin.get (after_items with_row rows (puts_from rs)) q
      ≡ put_over (fin.find name_cmp q (map by_name rs)) (fin.get rows q)
  once_put [] rows q sorted = refl
  once_put (s ∷ rs) rows q sorted =
      ap (λ c. fin.get (after_items with_row rows (puts_of (c ∷ new_changes before rs))) q)
      (by_newness (fin.get before s.name) s)
      ∙ by_test (once_put rs) (is_new (fin.get before s.name) s) refl
    where
      later : Option Record
      later = fin.find name_cmp q (map by_name rs)

      alone : eq_by_cmp name_cmp q s.name ≡ true → later ≡ None
      alone is =
          ap (λ n. fin.find name_cmp n (map by_name rs))
          (same_name q s.name (tie_of (name_cmp q s.name) is))
          ∙ nowhere s.name rs (first_below s rs sorted)

      by_tie : (b t : Bool) → is_new (fin.get before s.name) s ≡ b → eq_by_cmp name_cmp q s.name ≡ t
          → put_over later (cond b (cond t (Some s) (fin.get rows q)) (fin.get rows q))
          ≡ put_over (cond t (Some s) later) (fin.get rows q)
      by_tie true true new is = ap (λ o. put_over o (Some s)) (alone is)
          ∙ ap (λ b. cond b (Some s) (fin.get rows q)) (sym new)
      by_tie false true new is = ap (λ o. put_over o (fin.get rows q)) (alone is)
          ∙ ap (λ b. cond b (Some s) (fin.get rows q)) (sym new)
      by_tie true false new is = refl
      by_tie false false new is = refl

      by_test : ((rows : Rows) (q : List ℕ) → AreSorted rs
          → fin.get (after_items with_row rows (puts_from rs)) q
          ≡ put_over (fin.find name_cmp q (map by_name rs)) (fin.get rows q))
          → (b : Bool) → is_new (fin.get before s.name) s ≡ b
          → fin.get (after_items with_row rows (puts_of (cond b (put s) same ∷ new_changes before rs))) q
          ≡ put_over (cond (eq_by_cmp name_cmp q s.name) (Some s) later) (fin.get rows q)
      by_test rest true new =
          rest (with_row rows s) q (rest_sorted s rs sorted)
          ∙ ap (put_over later) (fin.get-insert nat_list_cmp_total rows s.name s q)
          ∙ by_tie true (eq_by_cmp name_cmp q s.name) new refl
      by_test rest false new =
          rest rows q (rest_sorted s rs sorted) ∙ by_tie false (eq_by_cmp name_cmp q s.name) new refl

  -- each is in range, and has a digest
  pub all_puts : (rs : List Record) (rows : Rows)
      → ((i : ℕ) (r : Record) → slice_get rs i ≡ Some r → IsRecord r × IsDigest 2 r.digest)
      → AreItems IsPut with_row rows (puts_from rs)
  all_puts [] rows fit = tt
  all_puts (s ∷ rs) rows fit =
      subst (λ c. AreItems IsPut with_row rows (puts_of (c ∷ new_changes before rs)))
      (sym (by_newness (fin.get before s.name) s))
      (elim (is_new (fin.get before s.name) s) as
      (λ b. AreItems IsPut with_row rows (puts_of (cond b (put s) same ∷ new_changes before rs))) [
        | true ↦ (
          record { in_range = (fit 0 s refl).0; digest = (fit 0 s refl).1 },
          all_puts rs (with_row rows s) (λ i r is. fit (suc i) r is),
        )
        | false ↦ all_puts rs rows (λ i r is. fit (suc i) r is)
      ])

-- ---- records by their names

both : (a b : Bool) → a ≡ true → T b → T (a && b)
both true b x y = y
both false b x y = absurd (cc)

below_of : (name : List ℕ) (rs : List Record)
    → ((i : ℕ) (r : Record) → slice_get rs i ≡ Some r → is_lt (name_cmp name r.name) ≡ true)
    → T (below_all name_cmp name (map by_name rs))
below_of name [] h = tt
below_of name (r ∷ rs) h = both _ _ (h 0 r refl) (below_of name rs (λ i s is. h (suc i) s is))

pub sorted_of : (rs : List Record) → IsRoll rs → AreSorted rs
sorted_of [] roll = tt
sorted_of (r ∷ rs) roll =
    let later : IsRoll rs = record {
      named = λ i s is. roll.named (suc i) s is;
      rising = λ i j a b low x y. roll.rising (suc i) (suc j) a b (omega (arith, low)) x y;
    } in
    let below = below_of r.name rs (λ i s is. roll.rising 0 (suc i) r s (omega arith) refl is) in
    both_parts _ _ below (sorted_of rs later)
  where
    both_parts : (a b : Bool) → T a → T b → T (a && b)
    both_parts true b x y = y
    both_parts false b x y = absurd x

pub rows_are : (rs : List Record) → AreSorted rs → AreRows (rows_of rs) rs
rows_are rs sorted =
    let es = map by_name rs in
    let same : rows_of rs ≡ fin.from_sorted es =
    fin.same_map nat_list_cmp_total same_name (rows_of rs) (fin.from_sorted es) (λ q.
    fin.get-from_entries nat_list_cmp_total es q ∙ sym (fin.get-from_sorted name_cmp es q sorted)) in
    ap fin.entries same ∙ fin.entries-from_sorted name_cmp es sorted

pub row_at : (rs : List Record) (q : List ℕ) → fin.get (rows_of rs) q ≡ fin.find name_cmp q (map by_name rs)
row_at rs q = fin.get-from_entries nat_list_cmp_total (map by_name rs) q

-- a record that is found has the name, and a place in the list
found_name : (rs : List Record) (q : List ℕ) (s : Record) → fin.find name_cmp q (map by_name rs) ≡ Some s
    → s.name ≡ q
found_name [] q s is = absurd (cc)
found_name (r ∷ rs) q s is = by_tie (found_name rs q s) (eq_by_cmp name_cmp q r.name) refl is
  where
    by_tie : (fin.find name_cmp q (map by_name rs) ≡ Some s → s.name ≡ q) → (b : Bool)
        → eq_by_cmp name_cmp q r.name ≡ b → cond b (Some r) (fin.find name_cmp q (map by_name rs)) ≡ Some s
        → s.name ≡ q
    by_tie rest true tied is = ap (λ x. x.name) (sym (same_Some r s is))
        ∙ sym (same_name q r.name (tie_of (name_cmp q r.name) tied))
    by_tie rest false tied is = rest is

pub found_at : (rs : List Record) (q : List ℕ) (s : Record) → fin.find name_cmp q (map by_name rs) ≡ Some s
    → (i : ℕ) × (slice_get rs i ≡ Some s)
found_at [] q s is = absurd (cc)
found_at (r ∷ rs) q s is = by_tie (found_at rs q s) (eq_by_cmp name_cmp q r.name) is
  where
    by_tie : (fin.find name_cmp q (map by_name rs) ≡ Some s → (i : ℕ) × (slice_get rs i ≡ Some s))
        → (b : Bool) → cond b (Some r) (fin.find name_cmp q (map by_name rs)) ≡ Some s
        → (i : ℕ) × (slice_get (r ∷ rs) i ≡ Some s)
    by_tie rest true is = (0, is)
    by_tie rest false is = let p = rest is in (suc p.0, p.1)

-- a record of the list is found by its name
pub found_here : (rs : List Record) → AreSorted rs → (i : ℕ) (r : Record) → slice_get rs i ≡ Some r
    → fin.find name_cmp r.name (map by_name rs) ≡ Some r
found_here [] sorted i r is = absurd (cc)
found_here (x ∷ rs) sorted zero r is =
    let same = same_Some x r is in
    ap (λ (y : Record). fin.find name_cmp y.name (by_name x ∷ map by_name rs)) (sym same)
    ∙ ap (λ o. cond (is_eq o) (Some x) (fin.find name_cmp x.name (map by_name rs)))
    (tied_itself nat_list_cmp_total x.name) ∙ is
found_here (x ∷ rs) sorted (suc i) r is =
    let less : is_lt (name_cmp x.name r.name) ≡ true =
    below_each name_cmp is_name x.name (map by_name rs) i (by_name r) (first_below x rs sorted)
    (slice_get-map by_name rs i ∙ ap (option_map by_name) is) in
    let apart : eq_by_cmp name_cmp r.name x.name ≡ false =
    not_tied_back (name_cmp x.name r.name) (name_cmp r.name x.name)
    (nat_list_cmp_total.antisymm r.name x.name) less in
    ap (λ b. cond b (Some x) (fin.find name_cmp r.name (map by_name rs))) apart
    ∙ found_here rs (rest_sorted x rs sorted) i r is

moved_name : (r : Record) (o : Option Record) → (moved_by r o).name ≡ r.name
moved_name r None = refl
moved_name r (Some s) = elim (is_move r s) as (λ b. (cond b (record r { place = s.place }) r).name ≡ r.name)
    [ true ↦ refl | false ↦ refl ]

find_moved : (now : Rows) (rs : List Record) (q : List ℕ)
    → fin.find name_cmp q (map by_name (map (moved_in now) rs))
    ≡ option_map (moved_in now) (fin.find name_cmp q (map by_name rs))
find_moved now [] q = refl
find_moved now (r ∷ rs) q =
    ap (λ n. cond (eq_by_cmp name_cmp q n) (Some (moved_in now r))
    (fin.find name_cmp q (map by_name (map (moved_in now) rs)))) (moved_name r (fin.get now r.name))
    ∙ elim (eq_by_cmp name_cmp q r.name) as (λ b. cond b (Some (moved_in now r))
    (fin.find name_cmp q (map by_name (map (moved_in now) rs)))
    ≡ option_map (moved_in now) (cond b (Some r) (fin.find name_cmp q (map by_name rs)))) [
      | true ↦ refl
      | false ↦ find_moved now rs q
    ]

-- ---- all three lists

-- a record before with the place of that of now is that of now, if it isn't put
settled : (r s : Record) → r.name ≡ s.name
    → cond (is_new (Some r) s) (Some s) (Some (moved_by r (Some s))) ≡ Some s
settled r s named = by_object (is_same_object r s) refl (r.place == s.place) refl
  where
    by_object : (o : Bool) → is_same_object r s ≡ o → (p : Bool) → (r.place == s.place) ≡ p
        → cond (not o) (Some s) (Some (cond (o && not p) (record r { place = s.place }) r)) ≡ Some s
    by_object false is p at = refl
    by_object true is p at = ap Some (by_place p at)
      where
        parts : T ((r.size == s.size) && bytes_eq r.digest s.digest)
        parts = subst T (sym is) tt

        size : r.size ≡ s.size
        size = eqb-true r.size s.size (true_of (r.size == s.size)
            (first_part (r.size == s.size) (bytes_eq r.digest s.digest) parts))

        digest : r.digest ≡ s.digest
        digest = (bytes_eq-Decides r.digest s.digest).0 (true_of (bytes_eq r.digest s.digest)
            (later_part (r.size == s.size) (bytes_eq r.digest s.digest) parts))

        by_place : (p : Bool) → (r.place == s.place) ≡ p → cond (not p) (record r { place = s.place }) r ≡ s
        by_place false at = λ i. record { name = named i; place = s.place; size = size i; digest = digest i }
        by_place true at = λ i. record {
          name = named i;
          place = eqb-true r.place s.place at i;
          size = size i;
          digest = digest i;
        }

not_true : (b : Bool) → (b ≡ true → ⊥) → b ≡ false
not_true true h = absurd (h refl)
not_true false h = refl

no_longer_some : {A : Type 0} (o : Option A) (x : A) → o ≡ Some x → o ≡ None → ⊥
no_longer_some o x some none = let never = sym some ∙ none in cc

module _ (before now : List Record) (was : IsRoll before) (is : IsRoll now) where
  abbrev pub moved_rows : Rows
  moved_rows = after_items moved_row (rows_of before) (moves_from (rows_of now) 0 before)

  abbrev any_gone : List ℕ → Bool
  any_gone q = list_any (eq_by_cmp name_cmp q) (gone_from (rows_of now) 0 before)

  pub moved_at : (q : List ℕ) → fin.get moved_rows q
      ≡ option_map (moved_in (rows_of now)) (fin.find name_cmp q (map by_name before))
  moved_at q =
      fin.get-entries moved_rows q
      ∙ ap (fin.find name_cmp q)
      (all_moved (rows_of now) before (rows_of before) [] (rows_are before (sorted_of before was)))
      ∙ find_moved (rows_of now) before q

  module _ (q : List ℕ) where
    by_now : (o : Option Record) → fin.find name_cmp q (map by_name now) ≡ o
        → (p : Option Record) → fin.find name_cmp q (map by_name before) ≡ p
        → put_over (rows_of before) o (cond (any_gone q) None (option_map (moved_in (rows_of now)) p)) ≡ o
    by_now None new None old =
        elim (any_gone q) as (λ b. cond {A = Option Record} b None None ≡ None)
        [ true ↦ refl | false ↦ refl ]
    by_now None new (Some r) old =
        ap (λ b. cond b None (Some (moved_in (rows_of now) r)))
        (one_gone (rows_of now) 0 before q (ap is_some old) (row_at now q ∙ new))
    by_now (Some s) new p old =
        let named = found_name now q s new in
        let stays : any_gone q ≡ false = not_true (any_gone q) (λ gone.
        no_longer_some (fin.get (rows_of now) q) s (row_at now q ∙ new)
        (none_now (rows_of now) 0 before q gone))
        in
        ap (λ o. cond (is_new o s) (Some s) (cond (any_gone q) None (option_map (moved_in (rows_of now)) p)))
        (ap (fin.get (rows_of before)) named ∙ row_at before q ∙ old)
        ∙ ap (λ b. cond (is_new p s) (Some s) (cond b None (option_map (moved_in (rows_of now)) p))) stays
        ∙ by_before p old
      where
        by_before : (p : Option Record) → fin.find name_cmp q (map by_name before) ≡ p
            → cond (is_new p s) (Some s) (option_map (moved_in (rows_of now)) p) ≡ Some s
        by_before None old = refl
        by_before (Some r) old =
            let named = found_name before q r old in
            ap (λ o. cond (is_new (Some r) s) (Some s) (Some (moved_by r o)))
            (ap (fin.get (rows_of now)) named ∙ row_at now q ∙ new)
            ∙ settled r s (named ∙ sym (found_name now q s new))

  -- with them the records before are those of now
  pub changes_between-applied : changed_rows (rows_of before) (moves_of (changes_between before now))
      (gone_of (changes_between before now)) (puts_of (changes_between before now)) ≡ rows_of now
  changes_between-applied =
      (λ i. changed_rows (rows_of before) (moves_are before now i) (gone_are before now i)
      (puts_are before now i))
      ∙ fin.same_map nat_list_cmp_total same_name _ (rows_of now) (λ q.
      once_put (rows_of before) now (after_items fin.remove moved_rows (gone_from (rows_of now) 0 before)) q
      (sorted_of now is)
      ∙ ap (put_over (rows_of before) (fin.find name_cmp q (map by_name now)))
      (left_of (gone_from (rows_of now) 0 before) moved_rows q
      ∙ ap (cond (any_gone q) None) (moved_at q))
      ∙ by_now q (fin.find name_cmp q (map by_name now)) refl (fin.find name_cmp q (map by_name before)) refl
      ∙ sym (row_at now q))
