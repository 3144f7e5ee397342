-- A table whose records rise is its records by name, and the other way round.
use Rattle.std.specs.Prelude.{◌≡◌, ℕ, ◌&&◌, List, [], ◌∷◌, map, Option, Some, None, true, T, refl}
use Rattle.std.proofs.Common.{◌∙◌, ap, subst, sym}
use Rattle.std.specs.Cmp.Lexicographic.{nat_list_cmp_total}
use Rattle.std.specs.Ordering.{is_lt}
use Rattle.std.specs.FinMap as fin
use Rattle.std.specs.FinMap.Entries.{below_all}
use Rattle.slot_codec.specs.Names.{name_cmp}
use Rattle.slot_codec.specs.Readable.{AreInRange}
use Rattle.slot_codec.specs.Rolls.{IsRoll}
use Rattle.slot_codec.specs.declared.codec.Record.{Record}
use Rattle.slot_codec.proofs.RollLaws.{RiseFrom, name_lt-trans, rise_from_roll}
use Rattle.slot_codec.specs.Rows.{Rows, by_name, rows_of}

pub names_differ : fin.IsAntisymmetric name_cmp
names_differ = fin.slice_cmp-IsAntisymmetric fin.nat_cmp-IsAntisymmetric

below_true : (k j : List ℕ) → ((n : List ℕ) → is_lt (name_cmp j n) ≡ true → is_lt (name_cmp k n) ≡ true)
    → (rs : List Record) → RiseFrom (Some j) rs → below_all name_cmp k (map by_name rs) ≡ true
below_true k j up [] h = refl
below_true k j up (r ∷ rs) h =
    let first = up r.name h.1 in
    let rest = below_true k r.name (λ n less. name_lt-trans k r.name n first less) rs h.2 in
    λ i. first i && rest i

sorted_true : (before : Option (List ℕ)) (rs : List Record) → RiseFrom before rs
    → fin.is_sorted name_cmp (map by_name rs) ≡ true
sorted_true before [] h = refl
sorted_true before (r ∷ rs) h =
    let first = below_true r.name r.name (λ n less. less) rs h.2 in
    let rest = sorted_true (Some r.name) rs h.2 in
    λ i. first i && rest i

second_of : (rs : List Record) → map (λ (e : List ℕ × Record). e.1) (map by_name rs) ≡ rs
second_of [] = refl
second_of (r ∷ rs) = ap (λ xs. r ∷ xs) (second_of rs)

-- rows that have at each name what rising records have are these records
pub rows_are_records : (rs : List Record) (rows : Rows) → IsRoll rs → AreInRange rs
    → ((name : List ℕ) → fin.get rows name ≡ fin.get (rows_of rs) name) → fin.values rows ≡ rs
rows_are_records rs rows roll ranges is =
    let es = map by_name rs in
    let rise = rise_from_roll rs roll ranges in
    let sorted : T (fin.is_sorted name_cmp es) = subst T (sym (sorted_true None rs rise)) tt in
    let same : rows ≡ fin.from_sorted es =
    fin.same_map nat_list_cmp_total names_differ rows (fin.from_sorted es) (λ q. is q
    ∙ fin.get-from_entries nat_list_cmp_total es q ∙ sym (fin.get-from_sorted name_cmp es q sorted)) in
    let entries = ap fin.entries same ∙ fin.entries-from_sorted name_cmp es sorted in
    ap (λ es. map (λ (e : List ℕ × Record). e.1) es) entries ∙ second_of rs
