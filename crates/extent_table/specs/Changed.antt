-- What the moves and the names that are gone do to rows. These laws stand here, and not in proofs, since what
-- an impl says of its ghost members may name specs alone.
use Rattle.std.specs.Prelude.{◌≡◌, ℕ, suc, ◌^◌, ◌<◌, ◌==◌, Bool, true, false, cond, not, ◌&&◌, ◌||◌, T, List, [], ◌∷◌, ◌++◌, map, length, slice_get, Option, Some, None, is_some, IsSome, option_map, refl}
use Rattle.std.proofs.Common.{ap, sym, subst, ◌∙◌, arith}
use Rattle.std.proofs.lemmas.Cmp.{nat_list_cmp_total, tied_itself}
use Rattle.std.proofs.lemmas.List.{length-append, length-map, append_assoc}
use Rattle.std.proofs.lemmas.Option.{slice_get-map}
use Rattle.std.specs.List.{list_any}
use Rattle.std.specs.Ordering.{eq_by_cmp, is_eq, is_lt, ordering_reverse}
use Rattle.std.specs.FinMap as fin
use Rattle.std.specs.FinMap.Entries.{below_all}
use Rattle.std.specs.declared.cmp.Ordering.{Ordering}
use Rattle.std.specs.declared.cmp.Ordering.TheVariants.{Less, Equal, Greater}
use Rattle.slot_codec.specs.Changes.{Change, moves_of, gone_of}
use Rattle.slot_codec.specs.Changes.Change.{same, moved}
use Rattle.slot_codec.specs.Items.{AreItems, after_items}
use Rattle.slot_codec.specs.Names.{IsName, is_name, name_cmp}
use Rattle.slot_codec.specs.Rows.{IsGone, IsMove, Rows, by_name, moved_row, with_place}
use Rattle.slot_codec.specs.declared.codec.Record.{Record}
use Rattle.slot_codec.proofs.OrderLemmas.{not_tied_back}
use Rattle.extent_table.specs.Rising.{below_each}
use Rattle.extent_table.specs.Deltas.{is_same_object, kept_change, kept_changes}

-- ---- the moves

pub same_name : (a b : List ℕ) → name_cmp a b ≡ Equal → a ≡ b
same_name = fin.slice_cmp-IsAntisymmetric fin.nat_cmp-IsAntisymmetric

pub second_of : (rs : List Record) → map (λ (e : List ℕ × Record). e.1) (map by_name rs) ≡ rs
second_of [] = refl
second_of (r ∷ rs) = ap (λ xs. r ∷ xs) (second_of rs)

pub first_part : (a b : Bool) → T (a && b) → T a
first_part true b h = tt
first_part false b h = h

pub later_part : (a b : Bool) → T (a && b) → T b
later_part true b h = h
later_part false b h = absurd h

pub tie_of : (o : Ordering) → is_eq o ≡ true → o ≡ Equal
tie_of Less h = absurd (cc)
tie_of Equal h = refl
tie_of Greater h = absurd (cc)

pub less_of : (o : Ordering) → T (is_lt o) → o ≡ Less
less_of Less h = refl
less_of Equal h = absurd h
less_of Greater h = absurd h

abbrev pub AreSorted : List Record → Type 0
AreSorted rs = T (fin.is_sorted name_cmp (map by_name rs))

pub first_below : (r : Record) (rs : List Record) → AreSorted (r ∷ rs)
    → T (below_all name_cmp r.name (map by_name rs))
first_below r rs h = first_part _ _ h

pub rest_sorted : (r : Record) (rs : List Record) → AreSorted (r ∷ rs) → AreSorted rs
rest_sorted r rs h = later_part _ _ h

-- a record of a sorted list that is put again stands where it stood
below_here : (name : List ℕ) (done : List Record) (r : Record) (rs : List Record)
    → T (below_all name_cmp name (map by_name (done ++ r ∷ rs))) → name_cmp name r.name ≡ Less
below_here name [] r rs h = less_of (name_cmp name r.name) (first_part _ _ h)
below_here name (d ∷ done) r rs h = below_here name done r rs (later_part _ _ h)

put_here : (done : List Record) (r s : Record) (rs : List Record) → s.name ≡ r.name
    → T (fin.is_sorted name_cmp (map by_name (done ++ r ∷ rs)))
    → fin.put name_cmp s.name s (map by_name (done ++ r ∷ rs)) ≡ map by_name (done ++ s ∷ rs)
put_here [] r s rs is sorted =
    let tied : name_cmp s.name r.name ≡ Equal = ap (λ n. name_cmp n r.name) is
    ∙ tied_itself nat_list_cmp_total r.name in
    rw tied (λ i. (sym is i, s) ∷ map by_name rs)
put_here (d ∷ done) r s rs is sorted =
    let greater : name_cmp s.name d.name ≡ Greater = ap (λ n. name_cmp n d.name) is
    ∙ nat_list_cmp_total.antisymm r.name d.name
    ∙ ap ordering_reverse (below_here d.name done r rs (first_part _ _ sorted)) in
    rw greater (ap (λ es. by_name d ∷ es) (put_here done r s rs is (later_part _ _ sorted)))

-- the record of a rank
nth_here : (done : List Record) (r : Record) (rs : List Record)
    → slice_get (done ++ r ∷ rs) (length done) ≡ Some r
nth_here [] r rs = refl
nth_here (d ∷ done) r rs = nth_here done r rs

one_longer : (done : List Record) (r : Record) → length (done ++ r ∷ []) ≡ suc (length done)
one_longer [] r = refl
one_longer (d ∷ done) r = ap suc (one_longer done r)

-- rows that are a list
abbrev pub AreRows : Rows → List Record → Type 0
AreRows rows rs = fin.entries rows ≡ map by_name rs

-- a record after its move
abbrev pub is_move : Record → Record → Bool
is_move r s = is_same_object r s && not (r.place == s.place)

abbrev pub moved_by : Record → Option Record → Record
moved_by r None = r
moved_by r (Some s) = cond (is_move r s) (record r { place = s.place }) r

abbrev pub moved_in : Rows → Record → Record
moved_in now r = moved_by r (fin.get now r.name)

module _ (rows : Rows) (done : List Record) (r : Record) (rs : List Record)
    (are : AreRows rows (done ++ r ∷ rs)) (place : ℕ) where
  the_record : slice_get (fin.values rows) (length done) ≡ Some r
  the_record = ap (λ es. slice_get (map (λ (e : List ℕ × Record). e.1) es) (length done)) are
      ∙ ap (λ xs. slice_get xs (length done)) (second_of (done ++ r ∷ rs)) ∙ nth_here done r rs

  it_is_there : length done < fin.len rows
  it_is_there = omega (
    arith,
    fin.len-entries rows,
    ap length are,
    length-map (done ++ r ∷ rs) by_name,
    length-append done (r ∷ rs),
  )

  one_moved : AreRows (moved_row rows (length done, place)) (done ++ record r { place = place } ∷ rs)
  one_moved =
      ap (λ o. fin.entries (with_place rows o place)) the_record
      ∙ fin.entries-insert nat_list_cmp_total rows r.name (record r { place = place })
      ∙ ap (fin.put name_cmp r.name (record r { place = place })) are
      ∙ put_here done r (record r { place = place }) rs refl (subst (λ es. T (fin.is_sorted name_cmp es)) are
      (fin.entries_sorted rows))

module _ (now : Rows) where
  abbrev pub moves_from : ℕ → List Record → List (ℕ × ℕ)
  moves_from rank rs = moves_of (kept_changes now rank rs)

  -- the moves of records behind others leave them with their new places
  abbrev pub Moved : List Record → Type 0
  Moved rs = (rows : Rows) (done : List Record) → AreRows rows (done ++ rs)
      → AreRows (after_items moved_row rows (moves_from (length done) rs)) (done ++ map (moved_in now) rs)

  one_on : (rs : List Record) → Moved rs → (rows : Rows) (done : List Record) (s : Record)
      → AreRows rows (done ++ s ∷ rs)
      → AreRows (after_items moved_row rows (moves_from (suc (length done)) rs))
      (done ++ s ∷ map (moved_in now) rs)
  one_on rs rest rows done s are =
      ap (λ k. fin.entries (after_items moved_row rows (moves_from k rs))) (sym (one_longer done s))
      ∙ rest rows (done ++ s ∷ []) (are ∙ ap (map by_name) (sym (append_assoc done (s ∷ []) rs)))
      ∙ ap (map by_name) (append_assoc done (s ∷ []) (map (moved_in now) rs))

  pub all_moved : (rs : List Record) → Moved rs
  all_moved [] rows done are = are
  all_moved (r ∷ rs) rows done are = by_its_name (all_moved rs) (fin.get now r.name)
    where
      by_its_name : Moved rs → (o : Option Record)
          → AreRows (after_items moved_row rows
          (moves_of (kept_change (length done) r o ∷ kept_changes now (suc (length done)) rs)))
          (done ++ moved_by r o ∷ map (moved_in now) rs)
      by_its_name rest None = one_on rs rest rows done r are
      by_its_name rest (Some s) = elim (is_move r s) as (λ b. AreRows (after_items moved_row rows
          (moves_of (cond b (moved (length done) s.place) same ∷ kept_changes now (suc (length done)) rs)))
          (done ++ cond b (record r { place = s.place }) r ∷ map (moved_in now) rs)) [
            | true ↦ one_on rs rest (moved_row rows (length done, s.place)) done
                (record r { place = s.place })
                (one_moved rows done r rs are s.place)
            | false ↦ one_on rs rest rows done r are
          ]

  -- and each is one of a record that is there
  abbrev pub AreMoves : List Record → Type 0
  AreMoves rs = (rows : Rows) (done : List Record) → AreRows rows (done ++ rs)
      → AreItems IsMove moved_row rows (moves_from (length done) rs)

  move_on : (rs : List Record) → AreMoves rs → (rows : Rows) (done : List Record) (s : Record)
      → AreRows rows (done ++ s ∷ rs) → AreItems IsMove moved_row rows (moves_from (suc (length done)) rs)
  move_on rs rest rows done s are =
      subst (λ k. AreItems IsMove moved_row rows (moves_from k rs)) (one_longer done s)
      (rest rows (done ++ s ∷ []) (are ∙ ap (map by_name) (sym (append_assoc done (s ∷ []) rs))))

  pub all_moves : ((name : List ℕ) (s : Record) → fin.get now name ≡ Some s → s.place < 2 ^ 48)
      → (rs : List Record) → AreMoves rs
  all_moves low [] rows done are = tt
  all_moves low (r ∷ rs) rows done are = by_its_name (all_moves low rs) (fin.get now r.name) refl
    where
      by_its_name : AreMoves rs → (o : Option Record) → fin.get now r.name ≡ o
          → AreItems IsMove moved_row rows
          (moves_of (kept_change (length done) r o ∷ kept_changes now (suc (length done)) rs))
      by_its_name rest None is = move_on rs rest rows done r are
      by_its_name rest (Some s) is = elim (is_move r s) as (λ b. AreItems IsMove moved_row rows
          (moves_of (cond b (moved (length done) s.place) same ∷ kept_changes now (suc (length done)) rs))) [
            | true ↦ (
              record { there = it_is_there rows done r rs are s.place; place = low r.name s is },
              move_on rs rest (moved_row rows (length done, s.place)) done (record r { place = s.place })
                  (one_moved rows done r rs are s.place),
            )
            | false ↦ move_on rs rest rows done r are
          ]

-- ---- the names that are gone

module _ (now : Rows) where
  abbrev pub gone_from : ℕ → List Record → List (List ℕ)
  gone_from rank rs = gone_of (kept_changes now rank rs)

  pub not_gone : (rank : ℕ) (r s : Record) (more : List Change)
      → gone_of (kept_change rank r (Some s) ∷ more) ≡ gone_of more
  not_gone rank r s more = elim (is_move r s) as (λ b. gone_of (cond b (moved rank s.place) same ∷ more)
      ≡ gone_of more) [ true ↦ refl | false ↦ refl ]

  -- a name that is gone has no record now
  pub none_now : (rank : ℕ) (rs : List Record) (q : List ℕ)
      → list_any (eq_by_cmp name_cmp q) (gone_from rank rs) ≡ true → fin.get now q ≡ None
  none_now rank [] q any = absurd (cc)
  none_now rank (r ∷ rs) q any = by_its_name (none_now (suc rank) rs q) (fin.get now r.name) refl any
    where
      by_tie : fin.get now r.name ≡ None → (b : Bool) → eq_by_cmp name_cmp q r.name ≡ b
          → (b ≡ false → fin.get now q ≡ None) → fin.get now q ≡ None
      by_tie none true is rest =
          sym (fin.get_tied nat_list_cmp_total now q r.name (tie_of (name_cmp q r.name) is)) ∙ none
      by_tie none false is rest = rest refl

      by_its_name : (list_any (eq_by_cmp name_cmp q) (gone_from (suc rank) rs) ≡ true → fin.get now q ≡ None)
          → (o : Option Record) → fin.get now r.name ≡ o
          → list_any (eq_by_cmp name_cmp q) (gone_of (kept_change rank r o ∷ kept_changes now (suc rank) rs))
          ≡ true → fin.get now q ≡ None
      by_its_name rest None is any =
          by_tie is (eq_by_cmp name_cmp q r.name) refl (λ apart. rest (by_rest apart))
        where
          by_rest : eq_by_cmp name_cmp q r.name ≡ false
              → list_any (eq_by_cmp name_cmp q) (gone_from (suc rank) rs) ≡ true
          by_rest apart = ap (λ b. b || list_any (eq_by_cmp name_cmp q) (gone_from (suc rank) rs)) (sym apart)
              ∙ any
      by_its_name rest (Some s) is any =
          rest (ap (list_any (eq_by_cmp name_cmp q))
          (sym (not_gone rank r s (kept_changes now (suc rank) rs))) ∙ any)

  -- a record whose name has none now is gone
  pub one_gone : (rank : ℕ) (rs : List Record) (q : List ℕ) → IsSome (fin.find name_cmp q (map by_name rs))
      → fin.get now q ≡ None → list_any (eq_by_cmp name_cmp q) (gone_from rank rs) ≡ true
  one_gone rank [] q some none = absurd (cc)
  one_gone rank (r ∷ rs) q some none =
      by_tie (one_gone (suc rank) rs q) (eq_by_cmp name_cmp q r.name) refl some
    where
      any_from : Option Record → Bool
      any_from o = list_any (eq_by_cmp name_cmp q)
          (gone_of (kept_change rank r o ∷ kept_changes now (suc rank) rs))

      any_later : Bool
      any_later = list_any (eq_by_cmp name_cmp q) (gone_from (suc rank) rs)

      or_true : (b c : Bool) → c ≡ true → (b || c) ≡ true
      or_true true c is = refl
      or_true false c is = is

      later : any_later ≡ true → (o : Option Record) → any_from o ≡ true
      later is None = or_true (eq_by_cmp name_cmp q r.name) any_later is
      later is (Some s) =
          ap (list_any (eq_by_cmp name_cmp q)) (not_gone rank r s (kept_changes now (suc rank) rs)) ∙ is

      by_tie : (IsSome (fin.find name_cmp q (map by_name rs)) → fin.get now q ≡ None → any_later ≡ true)
          → (b : Bool) → eq_by_cmp name_cmp q r.name ≡ b
          → IsSome (cond b (Some r) (fin.find name_cmp q (map by_name rs)))
          → any_from (fin.get now r.name) ≡ true
      by_tie rest true is some =
          ap any_from (fin.get_tied nat_list_cmp_total now q r.name (tie_of (name_cmp q r.name) is) ∙ none)
          ∙ ap (λ b. b || any_later) is
      by_tie rest false is some = later (rest some none) (fin.get now r.name)

  -- each is a name that is there until then
  pub all_gone : (rank : ℕ) (rs : List Record) (rows : Rows) → AreSorted rs
      → ((i : ℕ) (r : Record) → slice_get rs i ≡ Some r → IsName r.name)
      → ((i : ℕ) (r : Record) → slice_get rs i ≡ Some r → IsSome (fin.get rows r.name))
      → AreItems IsGone fin.remove rows (gone_from rank rs)
  all_gone rank [] rows sorted named there = tt
  all_gone rank (r ∷ rs) rows sorted named there = by_its_name (all_gone (suc rank) rs) (fin.get now r.name)
    where
      rises : AreSorted rs
      rises = rest_sorted r rs sorted

      stays : (i : ℕ) (s : Record) → slice_get rs i ≡ Some s
          → IsSome (fin.get (fin.remove rows r.name) s.name)
      stays i s is =
          let less : is_lt (name_cmp r.name s.name) ≡ true =
          below_each name_cmp is_name r.name (map by_name rs) i (by_name s) (first_below r rs sorted)
          (slice_get-map by_name rs i ∙ ap (option_map by_name) is) in
          let apart : eq_by_cmp name_cmp s.name r.name ≡ false =
          not_tied_back (name_cmp r.name s.name) (name_cmp s.name r.name)
          (nat_list_cmp_total.antisymm s.name r.name) less in
          ap is_some (fin.get-remove nat_list_cmp_total rows r.name s.name
          ∙ ap (λ b. cond b None (fin.get rows s.name)) apart) ∙ there (suc i) s is

      by_its_name : ((rows : Rows) → AreSorted rs
          → ((i : ℕ) (r : Record) → slice_get rs i ≡ Some r → IsName r.name)
          → ((i : ℕ) (r : Record) → slice_get rs i ≡ Some r → IsSome (fin.get rows r.name))
          → AreItems IsGone fin.remove rows (gone_from (suc rank) rs)) → (o : Option Record)
          → AreItems IsGone fin.remove rows (gone_of (kept_change rank r o ∷ kept_changes now (suc rank) rs))
      by_its_name rest None = (
        record { named = named 0 r refl; there = there 0 r refl },
        rest (fin.remove rows r.name) rises (λ i s is. named (suc i) s is) stays,
      )
      by_its_name rest (Some s) =
          subst (AreItems IsGone fin.remove rows) (sym (not_gone rank r s (kept_changes now (suc rank) rs)))
          (rest rows rises (λ i s is. named (suc i) s is) (λ i s is. there (suc i) s is))

-- what is left once names are gone
pub left_of : (names : List (List ℕ)) (rows : Rows) (q : List ℕ)
    → fin.get (after_items fin.remove rows names) q
    ≡ cond (list_any (eq_by_cmp name_cmp q) names) None (fin.get rows q)
left_of [] rows q = refl
left_of (n ∷ names) rows q =
    left_of names (fin.remove rows n) q
    ∙ ap (cond (list_any (eq_by_cmp name_cmp q) names) None) (fin.get-remove nat_list_cmp_total rows n q)
    ∙ either (list_any (eq_by_cmp name_cmp q) names) (eq_by_cmp name_cmp q n)
  where
    either : (a b : Bool) → cond a None (cond b None (fin.get rows q)) ≡ cond (b || a) None (fin.get rows q)
    either true true = refl
    either true false = refl
    either false true = refl
    either false false = refl
