-- The entries that names by key and the records of what was kept give.
use Rattle.std.proofs.Common.{◌≡◌, ◌⊎◌, ℕ, zero, suc, ◌+◌, ◌<◌, true, Bor, cond, List, [], ◌∷◌, length, get_or, count_by, Option, Some, None, IsSome, is_some, refl, ap, sym, subst, ◌∙◌, inl, arith}
use Rattle.std.specs.Option.{option_copied}
use mathlib.Core.Logic.{⊎_elim}
use Rattle.std.proofs.lemmas.List.Sums.{sum_by-cons}
use Rattle.extent_table.specs.declared.spot.Spot.{Spot}
use Rattle.extent_table.specs.declared.kept.Kept.{Kept}
use Rattle.extent_table.specs.declared.kept.Kept.TheVariants.{Same, New, Old}
use Rattle.extent_table.specs.Kept.{kept_in, kept_spot, is_change, AreChanges}
use Rattle.extent_table.specs.Entries.{Entry, Standing, entry_of, entries_of, once_kept, once_back, if_stands, Goes}
use Rattle.extent_table.specs.Parts.{name_of, now_of, kept_of, Lists, Edit, with_kept, with_now, after_keep, after_back}

-- the entry at a key
pub entry_at : (ss : List (Option Standing)) (kept : List Kept) (k : ℕ)
    → get_or (entries_of ss kept) k None ≡ entry_of (kept_in kept k) (get_or ss k None)
unfolding entries_of
entry_at [] kept k = refl
entry_at (s ∷ ss) [] zero = refl
entry_at (s ∷ ss) [] (suc k) = entry_at ss [] k
entry_at (s ∷ ss) (x ∷ xs) zero = refl
entry_at (s ∷ ss) (x ∷ xs) (suc k) = entry_at ss xs k

some_entry : (x : Kept) (s : Option Standing) → is_some (entry_of x s) ≡ is_some s
some_entry x None = refl
some_entry x (Some s) = refl

-- there are as many entries as names
abbrev one : {X : Type 0} → Option X → ℕ
one o = cond (is_some o) 1 0

pub count_of : (ss : List (Option Standing)) (kept : List Kept)
    → count_by is_some (entries_of ss kept) ≡ count_by is_some ss
unfolding entries_of
count_of [] kept = refl
count_of (s ∷ ss) [] = sum_by-cons one (entry_of Same s) (entries_of ss [])
    ∙ ap (λ b. cond b 1 0 + count_by is_some (entries_of ss [])) (some_entry Same s)
    ∙ ap (λ n. one s + n) (count_of ss []) ∙ sym (sum_by-cons one s ss)
count_of (s ∷ ss) (x ∷ xs) = sum_by-cons one (entry_of x s) (entries_of ss xs)
    ∙ ap (λ b. cond b 1 0 + count_by is_some (entries_of ss xs)) (some_entry x s)
    ∙ ap (λ n. one s + n) (count_of ss xs) ∙ sym (sum_by-cons one s ss)

-- records that say the same of what stands give the same entries
pub same_entries : (ss : List (Option Standing)) (xs ys : List Kept)
    → ((k : ℕ) → entry_of (kept_in ys k) (get_or ss k None) ≡ entry_of (kept_in xs k) (get_or ss k None))
    → entries_of ss ys ≡ entries_of ss xs
unfolding entries_of
same_entries [] xs ys same = refl
same_entries (s ∷ ss) [] [] same = refl
same_entries (s ∷ ss) [] (y ∷ ys) same = λ i. same 0 i ∷ same_entries ss [] ys (λ k. same (suc k)) i
same_entries (s ∷ ss) (x ∷ xs) [] same = λ i. same 0 i ∷ same_entries ss xs [] (λ k. same (suc k)) i
same_entries (s ∷ ss) (x ∷ xs) (y ∷ ys) same = λ i. same 0 i ∷ same_entries ss xs ys (λ k. same (suc k)) i

-- an entry that has a side
abbrev HasSide : Option Entry → Type 0
HasSide e = IsSome e → IsSome (now_of e) ⊎ IsSome (kept_of e)

-- a name that stands is kept as it stands, and one that doesn't goes
still : (x : Kept) (s : Standing) (now : Option Spot) → s.now ≡ now
    → entry_of Same (if_stands s now)
    ≡ with_kept (record { name = s.name; now = s.now; kept = kept_spot x s.now }) now
still x s None is = refl
still x s (Some spot) is = ap (λ k. Some (record { name = s.name; now = s.now; kept = k })) is

same_kept : (s : Standing) (now : Option Spot) → s.now ≡ now → IsSome now ⊎ IsSome now
    → entry_of Same (Some s) ≡ with_kept (record { name = s.name; now = s.now; kept = s.now }) now
same_kept s None is side = absurd (⊎_elim (λ h. cc) (λ h. cc) side)
same_kept s (Some spot) is side = ap (λ k. Some (record { name = s.name; now = s.now; kept = k })) is

pub kept_entry : (x : Kept) (s : Option Standing) → HasSide (entry_of x s)
    → entry_of Same (once_kept x s) ≡ after_keep (entry_of x s)
kept_entry Same None side = refl
kept_entry New None side = refl
kept_entry (Old spot) None side = refl
kept_entry Same (Some s) side = same_kept s s.now refl (side refl)
kept_entry New (Some s) side = still New s s.now refl
kept_entry (Old spot) (Some s) side = still (Old spot) s s.now refl

-- a name of which something was kept stands as it was kept, and a new one goes
same_back : (s : Standing) (now : Option Spot) → s.now ≡ now → IsSome now ⊎ IsSome now
    → entry_of Same (Some s) ≡ with_now (record { name = s.name; now = s.now; kept = s.now }) now
same_back s None is side = absurd (⊎_elim (λ h. cc) (λ h. cc) side)
same_back s (Some spot) is side = ap (λ n. Some (record { name = s.name; now = n; kept = s.now })) is

pub back_entry : (x : Kept) (s : Option Standing) → HasSide (entry_of x s)
    → entry_of Same (once_back x s) ≡ after_back (entry_of x s)
back_entry Same None side = refl
back_entry New None side = refl
back_entry (Old spot) None side = refl
back_entry Same (Some s) side = same_back s s.now refl (side refl)
back_entry New (Some s) side = refl
back_entry (Old spot) (Some s) side = refl

-- what a rule that changes no unchanged key makes of all, once all are settled
module _ (rule : Kept → Option Standing → Option Standing) (after : Option Entry → Option Entry)
    (stays : (s : Option Standing) → rule Same s ≡ s)
    (says : (x : Kept) (s : Option Standing) → HasSide (entry_of x s)
    → entry_of Same (rule x s) ≡ after (entry_of x s)) where
  pub each_settled : {ss later : List (Option Standing)} {kept later_kept : List Kept}
      → Goes rule ss kept later later_kept → ((k : ℕ) → kept_in later_kept k ≡ Same)
      → ((k : ℕ) → HasSide (get_or (entries_of ss kept) k None)) → (k : ℕ)
      → get_or (entries_of later later_kept) k None ≡ after (get_or (entries_of ss kept) k None)
  each_settled {ss} {later} {kept} {later_kept} goes none side k =
      let here : get_or later k None ≡ rule (kept_in kept k) (get_or ss k None) =
      sym (stays (get_or later k None)) ∙ ap (λ x. rule x (get_or later k None)) (sym (none k)) ∙ goes.to k in
      entry_at later later_kept k ∙ ap (λ x. entry_of x (get_or later k None)) (none k)
      ∙ ap (entry_of Same) here
      ∙ says (kept_in kept k) (get_or ss k None) (subst HasSide (entry_at ss kept k) (side k))
      ∙ ap after (sym (entry_at ss kept k))

pub settled_by_keep : {ss later : List (Option Standing)} {kept later_kept : List Kept}
    → Goes once_kept ss kept later later_kept → ((k : ℕ) → kept_in later_kept k ≡ Same)
    → ((k : ℕ) → HasSide (get_or (entries_of ss kept) k None)) → (k : ℕ)
    → get_or (entries_of later later_kept) k None ≡ after_keep (get_or (entries_of ss kept) k None)
settled_by_keep = each_settled once_kept after_keep (λ s. refl) kept_entry

pub settled_by_back : {ss later : List (Option Standing)} {kept later_kept : List Kept}
    → Goes once_back ss kept later later_kept → ((k : ℕ) → kept_in later_kept k ≡ Same)
    → ((k : ℕ) → HasSide (get_or (entries_of ss kept) k None)) → (k : ℕ)
    → get_or (entries_of later later_kept) k None ≡ after_back (get_or (entries_of ss kept) k None)
settled_by_back = each_settled once_back after_back (λ s. refl) back_entry

-- what a call that reads a name tells
pub read_some : {X : Type 0} {o : Option (Bor X)} {e : Bor X} {x : Option X} → option_copied o ≡ x
    → o ≡ Some e → x ≡ Some e.now
read_some got is = sym got ∙ ap option_copied is

pub read_none : {X : Type 0} {o : Option (Bor X)} {x : Option X} → option_copied o ≡ x → o ≡ None → x ≡ None
read_none got is = sym got ∙ ap option_copied is

pub some_read_of : {X : Type 0} (o : Option (Bor X)) → IsSome (option_copied o) → IsSome o
some_read_of None h = h
some_read_of (Some e) h = refl

-- an entry is there where a name is
pub some_name : (x : Kept) (s : Option Standing) → IsSome (entry_of x s) → IsSome s
some_name x None h = h
some_name x (Some s) h = refl

-- and where its object stands
pub now_name : (x : Kept) (s : Option Standing) → IsSome (now_of (entry_of x s)) → IsSome s
now_name x None h = h
now_name x (Some s) h = refl

pub below : {X : Type 0} (xs : List (Option X)) (k : ℕ) → IsSome (get_or xs k None) → k < length xs
below [] k h = absurd (cc)
below (x ∷ xs) zero h = omega arith
below (x ∷ xs) (suc k) h = omega (arith, below xs k h)

-- what was kept of an entry, by the record of its key
pub kept_of_same : (x : Kept) (s : Option Standing) → x ≡ Same
    → kept_of (entry_of x s) ≡ now_of (entry_of x s)
kept_of_same Same None is = refl
kept_of_same Same (Some s) is = refl
kept_of_same New s is = absurd (cc)
kept_of_same (Old spot) s is = absurd (cc)

pub kept_of_new : (s : Option Standing) → kept_of (entry_of New s) ≡ None
kept_of_new None = refl
kept_of_new (Some s) = refl

pub kept_of_old : (spot : Spot) (s : Option Standing) → IsSome (entry_of (Old spot) s)
    → kept_of (entry_of (Old spot) s) ≡ Some spot
kept_of_old spot None h = absurd (cc)
kept_of_old spot (Some s) h = refl

-- a key that isn't listed among those that changed
not_listed : (x : Kept) → (is_change x ≡ true → ⊥) → x ≡ Same
not_listed Same none = refl
not_listed New none = absurd (none refl)
not_listed (Old s) none = absurd (none refl)

pub unlisted_kept : (ss : List (Option Standing)) {kept : List Kept} {changed : List ℕ}
    → AreChanges kept changed → (k : ℕ) → (Lists changed k → ⊥)
    → kept_of (get_or (entries_of ss kept) k None) ≡ now_of (get_or (entries_of ss kept) k None)
unlisted_kept ss {kept} h k none =
    let there = entry_at ss kept k in
    ap kept_of there ∙ kept_of_same (kept_in kept k) (get_or ss k None)
    (not_listed (kept_in kept k) (λ change. none (h.whole k change)))
    ∙ sym (ap now_of there)

-- an entry that changed keeps what was kept of it
kept_stays : (x : Kept) (a b : Option Spot) → is_change x ≡ true → kept_spot x a ≡ kept_spot x b
kept_stays Same a b is = absurd (cc)
kept_stays New a b is = refl
kept_stays (Old spot) a b is = refl

module _ (ss tt : List (Option Standing)) (kept later : List Kept) (key : ℕ)
    (same : (k : ℕ) → entry_of (kept_in later k) (get_or ss k None)
    ≡ entry_of (kept_in kept k) (get_or ss k None))
    (others : (k : ℕ) → (k ≡ key → ⊥) → get_or tt k None ≡ get_or ss k None) where
  other_entries : (k : ℕ) → (k ≡ key → ⊥)
      → get_or (entries_of tt later) k None ≡ get_or (entries_of ss kept) k None
  other_entries k differs = entry_at tt later k ∙ ap (entry_of (kept_in later k)) (others k differs) ∙ same k
      ∙ sym (entry_at ss kept k)

  was_entry : get_or (entries_of ss kept) key None ≡ entry_of (kept_in later key) (get_or ss key None)
  was_entry = entry_at ss kept key ∙ sym (same key)

  -- the spot of a name was written, where what was kept of it is recorded
  pub written : (s : Standing) (now : Option Spot) → get_or ss key None ≡ Some s
      → get_or tt key None ≡ Some (record s { now = now }) → is_change (kept_in later key) ≡ true
      → IsSome now ⊎ IsSome (kept_spot (kept_in later key) now)
      → Edit (entries_of ss kept) (entries_of tt later) key
      (name_of (get_or (entries_of ss kept) key None)) now
  written s now was is change side =
      let old : get_or (entries_of ss kept) key None ≡ entry_of (kept_in later key) (Some s) =
      was_entry ∙ ap (entry_of (kept_in later key)) was in
      let new : get_or (entries_of tt later) key None
      ≡ entry_of (kept_in later key) (Some (record s { now = now })) =
      entry_at tt later key ∙ ap (entry_of (kept_in later key)) is in
      record {
        others = other_entries;
        now_is = ap now_of new;
        kept = ap kept_of new ∙ kept_stays (kept_in later key) now s.now change ∙ sym (ap kept_of old);
        old_name = λ some. refl;
        new_name = λ some. ap name_of new ∙ sym (ap name_of old);
        used = λ some. subst (λ (e : Option Entry). IsSome now ⊎ IsSome (kept_of e)) (sym new) side;
      }

  -- a name of which nothing was kept was taken out
  pub taken : get_or tt key None ≡ None → kept_in later key ≡ New
      → Edit (entries_of ss kept) (entries_of tt later) key
      (name_of (get_or (entries_of ss kept) key None)) None
  taken is none =
      let old : get_or (entries_of ss kept) key None ≡ entry_of New (get_or ss key None) =
      was_entry ∙ ap (λ x. entry_of x (get_or ss key None)) none in
      let new : get_or (entries_of tt later) key None ≡ None =
      entry_at tt later key ∙ ap (entry_of (kept_in later key)) is in
      record {
        others = other_entries;
        now_is = ap now_of new;
        kept = ap kept_of new ∙ sym (ap kept_of old ∙ kept_of_new (get_or ss key None));
        old_name = λ some. refl;
        new_name = λ some. absurd (let never = rw new at some in cc);
        used = λ some. absurd (let never = rw new at some in cc);
      }

-- a new name was put in
pub entered : (ss tt : List (Option Standing)) (kept later : List Kept) (key : ℕ) (s : Standing) {spot : Spot}
    → ((k : ℕ) → (k ≡ key → ⊥) → kept_in later k ≡ kept_in kept k)
    → ((k : ℕ) → (k ≡ key → ⊥) → get_or tt k None ≡ get_or ss k None)
    → get_or ss key None ≡ None → get_or tt key None ≡ Some s → s.now ≡ Some spot → kept_in later key ≡ New
    → Edit (entries_of ss kept) (entries_of tt later) key s.name (Some spot)
entered ss tt kept later key s {spot} records others was is stands none =
    let old : get_or (entries_of ss kept) key None ≡ None =
    entry_at ss kept key ∙ ap (entry_of (kept_in kept key)) was in
    let new : get_or (entries_of tt later) key None ≡ entry_of New (Some s) =
    entry_at tt later key ∙ ap (entry_of (kept_in later key)) is ∙ ap (λ x. entry_of x (Some s)) none in
    record {
      others = λ k differs. entry_at tt later k ∙ ap (entry_of (kept_in later k)) (others k differs)
          ∙ ap (λ x. entry_of x (get_or ss k None)) (records k differs) ∙ sym (entry_at ss kept k);
      now_is = ap now_of new ∙ stands;
      kept = ap kept_of new ∙ sym (ap kept_of old);
      old_name = λ some. absurd (let never = rw old at some in cc);
      new_name = λ some. ap name_of new;
      used = λ some. inl refl;
    }

-- of a name that changed and was not kept the record says so
pub new_of : (x : Kept) → is_change x ≡ true → ((s : Spot) → x ≡ Old s → ⊥) → x ≡ New
new_of Same change none = absurd (cc)
new_of New change none = refl
new_of (Old s) change none = absurd (none s refl)

pub some_from : {X : Type 0} (o : Option X) → IsSome o → (x : X) × (o ≡ Some x)
some_from None h = absurd (cc)
some_from (Some x) h = (x, refl)
