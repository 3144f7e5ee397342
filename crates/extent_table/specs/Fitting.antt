-- What changed in a table is what an entry of a log can say. These laws stand here, and not in proofs, since
-- what an impl says of its ghost members may name specs alone.
use Rattle.std.specs.Prelude.{◌≡◌, ℕ, zero, suc, ◌^◌, ◌<◌, Bool, true, false, cond, not, ◌&&◌, List, [], ◌∷◌, slice_get, Some, is_some, IsSome, option_map, refl}
use Rattle.std.proofs.Common.{ap, sym, subst, ◌∙◌}
use Rattle.std.proofs.lemmas.Bool.{eq-eqb, ltb-true}
use Rattle.std.proofs.lemmas.Option.{same_Some}
use Rattle.std.proofs.lemmas.Slice.Eq.{bytes_eq-Decides}
use Rattle.std.specs.List.{list_all}
use Rattle.std.specs.FinMap as fin
use Rattle.slot_codec.specs.Changes.{AreFew, moves_of, gone_of, puts_of}
use Rattle.slot_codec.specs.Changes.Change.{same, moved, put}
use Rattle.slot_codec.specs.Reading.{is_in_range}
use Rattle.slot_codec.specs.Readable.{IsDigest, IsRecord}
use Rattle.slot_codec.specs.Rolls.{HaveDigests, IsRoll}
use Rattle.slot_codec.specs.Rows.{AreChanges, Rows, changed_rows, rows_of}
use Rattle.slot_codec.specs.declared.codec.Record.{Record}
use Rattle.extent_table.specs.Extents.{Extents, rolled}
use Rattle.extent_table.specs.Rising.{rolled-digested, rolled-rise}
use Rattle.extent_table.specs.Counted.{changes_between-few, gone_are, moves_are, puts_are}
use Rattle.extent_table.specs.Changed.{all_gone, all_moves, is_move, moved_in, not_gone}
use Rattle.extent_table.specs.Applied.{all_puts, by_newness, changes_between-applied, found_at, found_here, is_new, moved_at, moved_rows, row_at, rows_are, sorted_of}
use Rattle.extent_table.specs.Deltas.{changes_between, changes_of, is_fit, is_same_object, kept_change, kept_changes, kept_rolled, new_changes, now_rolled}

-- the three lists of the changes between two lists of records, by their parts
by_parts : (before now : List Record)
    → AreChanges (rows_of before) (moves_of (kept_changes (rows_of now) zero before))
    (gone_of (kept_changes (rows_of now) zero before)) (puts_of (new_changes (rows_of before) now))
    → AreChanges (rows_of before) (moves_of (changes_between before now))
    (gone_of (changes_between before now)) (puts_of (changes_between before now))
by_parts before now h =
    subst (λ (t : List (ℕ × ℕ) × (List (List ℕ) × List Record)). AreChanges (rows_of before) t.0 t.1.0 t.1.1)
    (λ i. (sym (moves_are before now) i, (sym (gone_are before now) i, sym (puts_are before now) i))) h

left_of_and : (a b : Bool) → (a && b) ≡ true → a ≡ true
left_of_and true b h = refl
left_of_and false b h = absurd (cc)

right_of_and : (a b : Bool) → (a && b) ≡ true → b ≡ true
right_of_and true b h = h
right_of_and false b h = absurd (cc)

-- ---- where the records of now are fit

module _ (before now : List Record) (was : IsRoll before) (is : IsRoll now) (digests : HaveDigests now)
    (fit : list_all is_fit now ≡ true) where
  each_fit : (rs : List Record) → list_all is_fit rs ≡ true → (i : ℕ) (r : Record) → slice_get rs i ≡ Some r
      → is_fit r ≡ true
  each_fit [] all i r there = absurd (cc)
  each_fit (x ∷ rs) all zero r there = ap is_fit (sym (same_Some x r there)) ∙ left_of_and (is_fit x) _ all
  each_fit (x ∷ rs) all (suc i) r there = each_fit rs (right_of_and (is_fit x) _ all) i r there

  in_range : (i : ℕ) (r : Record) → slice_get now i ≡ Some r → IsRecord r × IsDigest 2 r.digest
  in_range i r there =
      let fits = each_fit now fit i r there in (
        record {
          named = is.named i r there;
          place = ltb-true r.place (2 ^ 48) (left_of_and (is_in_range r.place) (is_in_range r.size) fits);
          size = ltb-true r.size (2 ^ 48) (right_of_and (is_in_range r.place) (is_in_range r.size) fits);
        },
        record { len = digests.len i r there; plain = λ none. absurd (cc) },
      )

  low : (name : List ℕ) (s : Record) → fin.get (rows_of now) name ≡ Some s → s.place < 2 ^ 48
  low name s there =
      let p = found_at now name s (sym (row_at now name) ∙ there) in
      (in_range p.0 s p.1).0.place

  still_there : (i : ℕ) (r : Record) → slice_get before i ≡ Some r
      → IsSome (fin.get (moved_rows before now was is) r.name)
  still_there i r there = ap is_some (moved_at before now was is r.name
      ∙ ap (option_map (moved_in (rows_of now))) (found_here before (sorted_of before was) i r there))

  pub changes_between-fitting : AreChanges (rows_of before) (moves_of (changes_between before now))
      (gone_of (changes_between before now)) (puts_of (changes_between before now))
  changes_between-fitting = by_parts before now (record {
    moves = all_moves (rows_of now) low before (rows_of before) [] (rows_are before (sorted_of before was));
    names = all_gone (rows_of now) 0 before (moved_rows before now was is) (sorted_of before was) was.named
        still_there;
    records = all_puts (rows_of before) now _ in_range;
  })

-- ---- where nothing changed

is_same_itself : (r : Record) → is_same_object r r ≡ true
is_same_itself r = λ i. eq-eqb r.size r.size refl i && (bytes_eq-Decides r.digest r.digest).1 refl i

stays : (r : Record) → is_move r r ≡ false
stays r = ap (λ b. is_same_object r r && not b) (eq-eqb r.place r.place refl) ∙ and_false (is_same_object r r)
  where
    and_false : (b : Bool) → (b && false) ≡ false
    and_false true = refl
    and_false false = refl

-- each record of a list is that of its name in the rows
abbrev AreIn : Rows → List Record → Type 0
AreIn rows rs = (i : ℕ) (r : Record) → slice_get rs i ≡ Some r → fin.get rows r.name ≡ Some r

no_moves_of : (now : Rows) (rank : ℕ) (rs : List Record) → AreIn now rs
    → moves_of (kept_changes now rank rs) ≡ []
no_moves_of now rank [] there = refl
no_moves_of now rank (r ∷ rs) there =
    ap (λ o. moves_of (kept_change rank r o ∷ kept_changes now (suc rank) rs)) (there 0 r refl)
    ∙ ap (λ b. moves_of (cond b (moved rank r.place) same ∷ kept_changes now (suc rank) rs)) (stays r)
    ∙ no_moves_of now (suc rank) rs (λ i s at. there (suc i) s at)

none_gone_of : (now : Rows) (rank : ℕ) (rs : List Record) → AreIn now rs
    → gone_of (kept_changes now rank rs) ≡ []
none_gone_of now rank [] there = refl
none_gone_of now rank (r ∷ rs) there =
    ap (λ o. gone_of (kept_change rank r o ∷ kept_changes now (suc rank) rs)) (there 0 r refl)
    ∙ not_gone now rank r r (kept_changes now (suc rank) rs)
    ∙ none_gone_of now (suc rank) rs (λ i s at. there (suc i) s at)

no_puts_of : (before : Rows) (rs : List Record) → AreIn before rs → puts_of (new_changes before rs) ≡ []
no_puts_of before [] there = refl
no_puts_of before (s ∷ rs) there =
    ap (λ c. puts_of (c ∷ new_changes before rs)) (by_newness (fin.get before s.name) s
    ∙ ap (λ o. cond (is_new o s) (put s) same) (there 0 s refl)
    ∙ ap (λ b. cond (not b) (put s) same) (is_same_itself s))
    ∙ no_puts_of before rs (λ i r at. there (suc i) r at)

pub nothing_between : (rs : List Record) → IsRoll rs
    → AreChanges (rows_of rs) (moves_of (changes_between rs rs)) (gone_of (changes_between rs rs))
    (puts_of (changes_between rs rs))
nothing_between rs roll =
    let there : AreIn (rows_of rs) rs =
    λ i r at. row_at rs r.name ∙ found_here rs (sorted_of rs roll) i r at in
    by_parts rs rs
    (subst (λ (t : List (ℕ × ℕ) × (List (List ℕ) × List Record)). AreChanges (rows_of rs) t.0 t.1.0 t.1.1)
    (λ i. (
      sym (no_moves_of (rows_of rs) 0 rs there) i,
      (
        sym (none_gone_of (rows_of rs) 0 rs there) i,
        sym (no_puts_of (rows_of rs) rs there) i,
      ),
    )) (record { moves = tt; names = tt; records = tt }))

-- ---- the changes of a table

pub kept_rolled-rise : (e : Extents) → IsRoll (kept_rolled e)
kept_rolled-rise e = elim (list_all is_fit (now_rolled e)) as
    (λ b. IsRoll (cond b (rolled e.kept e.kept_digests) (now_rolled e))) [
      | true ↦ rolled-rise e.kept e.kept_digests
      | false ↦ rolled-rise e.now e.digests
    ]

pub changes_of-few : (e : Extents) → AreFew (kept_rolled e) (rolled e.now e.digests) (changes_of e)
changes_of-few e = changes_between-few (kept_rolled e) (now_rolled e)

pub changes_of-fitting : (e : Extents) → AreChanges (rows_of (kept_rolled e)) (moves_of (changes_of e))
    (gone_of (changes_of e)) (puts_of (changes_of e))
changes_of-fitting e = by_test (list_all is_fit (now_rolled e)) refl
  where
    by_test : (b : Bool) → list_all is_fit (now_rolled e) ≡ b
        → (λ (rs : List Record). AreChanges (rows_of rs) (moves_of (changes_between rs (now_rolled e)))
        (gone_of (changes_between rs (now_rolled e))) (puts_of (changes_between rs (now_rolled e))))
        (cond b (rolled e.kept e.kept_digests) (now_rolled e))
    by_test true fit = changes_between-fitting (rolled e.kept e.kept_digests) (now_rolled e)
        (rolled-rise e.kept e.kept_digests) (rolled-rise e.now e.digests)
        (rolled-digested e.now e.digests) fit
    by_test false fit = nothing_between (now_rolled e) (rolled-rise e.now e.digests)

pub changes_of-applied : (e : Extents) → changed_rows (rows_of (kept_rolled e)) (moves_of (changes_of e))
    (gone_of (changes_of e)) (puts_of (changes_of e)) ≡ rows_of (rolled e.now e.digests)
changes_of-applied e =
    changes_between-applied (kept_rolled e) (now_rolled e) (kept_rolled-rise e) (rolled-rise e.now e.digests)
