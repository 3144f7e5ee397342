-- The items of an entry: which is where, that together they are its text, and how long that is.
use Rattle.std.specs.Prelude.{◌≡◌, ℕ, ◌+◌, ◌-◌, ◌*◌, ◌^◌, ◌<◌, ◌≤◌, ◌==◌, Bool, true, false, if◌then◌else◌, not, List, [], ◌∷◌, ◌++◌, filter, flat_map, length, map, option_map, slice_get, slice_index_or, Some, refl}
use Rattle.std.specs.FinMap as fin
use Rattle.std.proofs.Common.{◌∙◌, ap, append_assoc, arith, length-append, subst, sym}
use Rattle.std.proofs.lemmas.Grind.{flat_map-append}
use Rattle.std.proofs.lemmas.List.{append-nil, get_or-append_right, get_or_append_left, length-map, length-replicate, replicate_more}
use Rattle.std.proofs.lemmas.List.Sums.{count_by-le-length, length-filter}
use Rattle.std.proofs.lemmas.Option.{get_or_from_slice_get, slice_get-get_or, slice_get-map, slice_get_within}
use Rattle.byte_ranges.specs.Lists.{below}
use Rattle.byte_ranges.proofs.ListLaws.{below_at, length-below}
use Rattle.slot_codec.specs.Cells.{cell_of, cells_of, header_cells}
use Rattle.slot_codec.specs.Changes.{Change, gone, gone_of, moved, moves_of, put, puts_of, same}
use Rattle.slot_codec.specs.Entries.{entry_head_bytes, entry_len, entry_room, pair_bytes}
use Rattle.slot_codec.specs.Items.{AreItems}
use Rattle.slot_codec.proofs.NameLemmas.{length-name_bytes}
use Rattle.slot_codec.proofs.RecordLaws.{length-record_bytes}
use Rattle.slot_codec.specs.Names.{name_bytes}
use Rattle.slot_codec.specs.Rows.{AreChanges, IsGone, IsPut, Rows, with_row}
use Rattle.slot_codec.specs.Spelling.{record_bytes, record_len, zeros}
use Rattle.slot_codec.specs.declared.codec.Header.{Header}
use Rattle.slot_codec.specs.declared.codec.Record.{Record}
use Rattle.slot_codec.specs.declared.delta.ChangeKind.{ChangeKind}
use Rattle.slot_codec.specs.declared.delta.ChangeKind.TheVariants as kind
use Rattle.slot_codec.specs.declared.entry.EntryHead.{EntryHead}
use Rattle.slot_pair.specs.Appends.{entry_for, entry_text, head_for}
use Rattle.slot_pair.specs.Pieces.{bytes_among, cell_bytes, end_bytes, entry_items, text_from}

-- ---- how many they are

cells_few : (h : Header) → length (cells_of h) ≤ header_cells
cells_few h =
    let pair : ℕ → ℕ × ℕ = λ i. (i, cell_of h i) in
    let pairs : List (ℕ × ℕ) = map pair (below header_cells) in
    let some : ℕ × ℕ → Bool = λ p. not (p.1 == 0) in
    omega (
      arith,
      length-filter some pairs,
      count_by-le-length some pairs,
      length-map (below header_cells) pair,
      length-below header_cells,
    )

moves_few : (cs : List Change) → length (moves_of cs) ≤ length cs
moves_few [] = omega arith
moves_few (same ∷ cs) = omega (arith, moves_few cs)
moves_few (moved rank place ∷ cs) = omega (arith, moves_few cs)
moves_few (gone name ∷ cs) = omega (arith, moves_few cs)
moves_few (put r ∷ cs) = omega (arith, moves_few cs)

gone_few : (cs : List Change) → length (gone_of cs) ≤ length cs
gone_few [] = omega arith
gone_few (same ∷ cs) = omega (arith, gone_few cs)
gone_few (moved rank place ∷ cs) = omega (arith, gone_few cs)
gone_few (gone name ∷ cs) = omega (arith, gone_few cs)
gone_few (put r ∷ cs) = omega (arith, gone_few cs)

puts_few : (cs : List Change) → length (puts_of cs) ≤ length cs
puts_few [] = omega arith
puts_few (same ∷ cs) = omega (arith, puts_few cs)
puts_few (moved rank place ∷ cs) = omega (arith, puts_few cs)
puts_few (gone name ∷ cs) = omega (arith, puts_few cs)
puts_few (put r ∷ cs) = omega (arith, puts_few cs)

-- the counts of a head are such that its length is one of 64 bits
pub record IsShort (h : EntryHead) : Type 0 where
  pub cells : h.cells ≤ 1056
  pub moved : h.moved ≤ 2 ^ 32
  pub gone : h.gone ≤ 2 ^ 32
  pub puts : h.puts ≤ 2 ^ 32

pub head_is_short : (h : Header) (cs : List Change) (head : EntryHead) → head ≡ head_for h cs
    → length cs ≤ 2 ^ 32 → IsShort head
head_is_short h cs head is few = subst IsShort (sym is) (record {
  cells = cells_few h;
  moved = omega (arith, moves_few cs, few);
  gone = omega (arith, gone_few cs, few);
  puts = omega (arith, puts_few cs, few);
})

-- ---- where they are

pub length-entry_items : (h : Header) (cs : List Change) → length (entry_items h cs) ≡ 1058 + 3 * length cs
unfolding entry_items
length-entry_items h cs =
    let cells = map (cell_bytes h) (below header_cells) in
    let front = entry_head_bytes (head_for h cs) ∷ cells in
    let m = map (bytes_among kind.Moved) cs in
    let g = map (bytes_among kind.Gone) cs in
    let p = map (bytes_among kind.Put) cs in
    omega (
      arith,
      length-append (front ++ m ++ g ++ p) (end_bytes (head_for h cs) ∷ []),
      length-append (front ++ m ++ g) p,
      length-append (front ++ m) g,
      length-append front m,
      length-map (below header_cells) (cell_bytes h),
      length-below header_cells,
      length-map cs (bytes_among kind.Moved),
      length-map cs (bytes_among kind.Gone),
      length-map cs (bytes_among kind.Put),
    )

-- an item of the first, second, .. of five lists, one behind another
at_first : (a b c d e : List (List ℕ)) (i : ℕ) → i < length a
    → slice_index_or (a ++ b ++ c ++ d ++ e) i [] ≡ slice_index_or a i []
at_first a b c d e i low =
    get_or_append_left (a ++ b ++ c ++ d) e [] i
    (omega (arith, low, length-append (a ++ b ++ c) d, length-append (a ++ b) c, length-append a b))
    ∙ get_or_append_left (a ++ b ++ c) d [] i
    (omega (arith, low, length-append (a ++ b) c, length-append a b))
    ∙ get_or_append_left (a ++ b) c [] i (omega (arith, low, length-append a b))
    ∙ get_or_append_left a b [] i low

at_last : (a b : List (List ℕ)) (n i : ℕ) → n ≡ length a + i
    → slice_index_or (a ++ b) n [] ≡ slice_index_or b i []
at_last a b n i is =
    let back : n - length a ≡ i = omega (arith, is) in
    get_or-append_right a b (length a) n [] refl (omega (arith, is)) ∙ ap (λ k. slice_index_or b k []) back

-- an item of the list of a kind
listed : (k : ChangeKind) (cs : List Change) (i : ℕ) (text : List ℕ)
    → option_map (bytes_among k) (slice_get cs i) ≡ Some text
    → slice_index_or (map (bytes_among k) cs) i [] ≡ text
listed k cs i text is = get_or_from_slice_get (map (bytes_among k) cs) i text []
    (slice_get-map (bytes_among k) cs i ∙ is)

listed_within : (k : ChangeKind) (cs : List Change) (i : ℕ) (text : List ℕ)
    → option_map (bytes_among k) (slice_get cs i) ≡ Some text → i < length (map (bytes_among k) cs)
listed_within k cs i text is =
    slice_get_within (map (bytes_among k) cs) i text (slice_get-map (bytes_among k) cs i ∙ is)

length-cells : (h : Header) (cs : List Change)
    → length (entry_head_bytes (head_for h cs) ∷ map (cell_bytes h) (below header_cells)) ≡ 1057
length-cells h cs = omega (
  arith,
  length-map (below header_cells) (cell_bytes h),
  length-below header_cells,
)

pub item_head : (h : Header) (cs : List Change)
    → slice_index_or (entry_items h cs) 0 [] ≡ entry_head_bytes (head_for h cs)
unfolding entry_items
item_head h cs = at_first (entry_head_bytes (head_for h cs) ∷ map (cell_bytes h) (below header_cells))
    (map (bytes_among kind.Moved) cs) (map (bytes_among kind.Gone) cs)
    (map (bytes_among kind.Put) cs) (end_bytes (head_for h cs) ∷ []) 0 (omega arith)

pub item_cell : (h : Header) (cs : List Change) (n i : ℕ) → n ≡ 1 + i → i < 1056
    → slice_index_or (entry_items h cs) n [] ≡ cell_bytes h i
unfolding entry_items
item_cell h cs n i is low =
    let cells = map (cell_bytes h) (below header_cells) in
    let front = entry_head_bytes (head_for h cs) ∷ cells in
    at_first front (map (bytes_among kind.Moved) cs) (map (bytes_among kind.Gone) cs)
    (map (bytes_among kind.Put) cs) (end_bytes (head_for h cs) ∷ []) n
    (omega (arith, is, low, length-cells h cs))
    ∙ at_last (entry_head_bytes (head_for h cs) ∷ []) cells n i is
    ∙ get_or_from_slice_get cells i (cell_bytes h i) []
    (slice_get-map (cell_bytes h) (below header_cells) i
    ∙ ap (option_map (cell_bytes h)) (slice_get-get_or (below header_cells) i 0
    (omega (arith, low, length-below header_cells)) ∙ ap Some (below_at header_cells i low)))

pub item_moved : (h : Header) (cs : List Change) (n i : ℕ) (text : List ℕ) → n ≡ 1057 + i
    → option_map (bytes_among kind.Moved) (slice_get cs i) ≡ Some text
    → slice_index_or (entry_items h cs) n [] ≡ text
unfolding entry_items
item_moved h cs n i text is there =
    let a = entry_head_bytes (head_for h cs) ∷ map (cell_bytes h) (below header_cells) in
    let b = map (bytes_among kind.Moved) cs in
    let c = map (bytes_among kind.Gone) cs in
    let d = map (bytes_among kind.Put) cs in
    let e = end_bytes (head_for h cs) ∷ [] in
    let within = listed_within kind.Moved cs i text there in
    let low : n < length (a ++ b) = omega (arith, is, within, length-append a b, length-cells h cs) in
    get_or_append_left (a ++ b ++ c ++ d) e [] n
    (omega (arith, low, length-append (a ++ b ++ c) d, length-append (a ++ b) c))
    ∙ get_or_append_left (a ++ b ++ c) d [] n (omega (arith, low, length-append (a ++ b) c))
    ∙ get_or_append_left (a ++ b) c [] n low
    ∙ at_last a b n i (omega (arith, is, length-cells h cs))
    ∙ listed kind.Moved cs i text there

pub item_gone : (h : Header) (cs : List Change) (n i : ℕ) (text : List ℕ) → n ≡ 1057 + length cs + i
    → option_map (bytes_among kind.Gone) (slice_get cs i) ≡ Some text
    → slice_index_or (entry_items h cs) n [] ≡ text
unfolding entry_items
item_gone h cs n i text is there =
    let a = entry_head_bytes (head_for h cs) ∷ map (cell_bytes h) (below header_cells) in
    let b = map (bytes_among kind.Moved) cs in
    let c = map (bytes_among kind.Gone) cs in
    let d = map (bytes_among kind.Put) cs in
    let e = end_bytes (head_for h cs) ∷ [] in
    let within = listed_within kind.Gone cs i text there in
    let long : length (a ++ b) ≡ 1057 + length cs =
    omega (arith, length-append a b, length-cells h cs, length-map cs (bytes_among kind.Moved)) in
    let low : n < length (a ++ b ++ c) = omega (arith, is, within, length-append (a ++ b) c, long) in
    get_or_append_left (a ++ b ++ c ++ d) e [] n (omega (arith, low, length-append (a ++ b ++ c) d))
    ∙ get_or_append_left (a ++ b ++ c) d [] n low
    ∙ at_last (a ++ b) c n i (omega (arith, is, long))
    ∙ listed kind.Gone cs i text there

pub item_put : (h : Header) (cs : List Change) (n i : ℕ) (text : List ℕ) → n ≡ 1057 + 2 * length cs + i
    → option_map (bytes_among kind.Put) (slice_get cs i) ≡ Some text
    → slice_index_or (entry_items h cs) n [] ≡ text
unfolding entry_items
item_put h cs n i text is there =
    let a = entry_head_bytes (head_for h cs) ∷ map (cell_bytes h) (below header_cells) in
    let b = map (bytes_among kind.Moved) cs in
    let c = map (bytes_among kind.Gone) cs in
    let d = map (bytes_among kind.Put) cs in
    let e = end_bytes (head_for h cs) ∷ [] in
    let within = listed_within kind.Put cs i text there in
    let long : length (a ++ b ++ c) ≡ 1057 + 2 * length cs =
    omega (
      arith,
      length-append (a ++ b) c,
      length-append a b,
      length-cells h cs,
      length-map cs (bytes_among kind.Moved),
      length-map cs (bytes_among kind.Gone),
    ) in
    get_or_append_left (a ++ b ++ c ++ d) e [] n
    (omega (arith, is, within, length-append (a ++ b ++ c) d, long))
    ∙ at_last (a ++ b ++ c) d n i (omega (arith, is, long))
    ∙ listed kind.Put cs i text there

pub item_end : (h : Header) (cs : List Change) (n : ℕ) → n ≡ 1057 + 3 * length cs
    → slice_index_or (entry_items h cs) n [] ≡ end_bytes (head_for h cs)
unfolding entry_items
item_end h cs n is =
    let a = entry_head_bytes (head_for h cs) ∷ map (cell_bytes h) (below header_cells) in
    let b = map (bytes_among kind.Moved) cs in
    let c = map (bytes_among kind.Gone) cs in
    let d = map (bytes_among kind.Put) cs in
    let long : length (a ++ b ++ c ++ d) ≡ 1057 + 3 * length cs =
    omega (
      arith,
      length-append (a ++ b ++ c) d,
      length-append (a ++ b) c,
      length-append a b,
      length-cells h cs,
      length-map cs (bytes_among kind.Moved),
      length-map cs (bytes_among kind.Gone),
      length-map cs (bytes_among kind.Put),
    ) in
    at_last (a ++ b ++ c ++ d) (end_bytes (head_for h cs) ∷ []) n 0 (omega (arith, is, long))

-- ---- that they are the text

one_cell : (zero_value : Bool) (p : ℕ × ℕ) (ps : List (ℕ × ℕ))
    → (if zero_value then [] else pair_bytes p) ++ flat_map pair_bytes ps
    ≡ flat_map pair_bytes (if not zero_value then p ∷ ps else ps)
one_cell true p ps = refl
one_cell false p ps = refl

cells_text : (h : Header) (is : List ℕ) → flat_map (λ item. item) (map (cell_bytes h) is)
    ≡ flat_map pair_bytes (filter (λ (p : ℕ × ℕ). not (p.1 == 0)) (map (λ i. (i, cell_of h i)) is))
cells_text h [] = refl
cells_text h (i ∷ is) = ap (λ text. cell_bytes h i ++ text) (cells_text h is)
    ∙ one_cell (cell_of h i == 0) (i, cell_of h i) _

moved_text : (cs : List Change)
    → flat_map (λ item. item) (map (bytes_among kind.Moved) cs) ≡ flat_map pair_bytes (moves_of cs)
moved_text [] = refl
moved_text (same ∷ cs) = moved_text cs
moved_text (moved rank place ∷ cs) = ap (λ text. pair_bytes (rank, place) ++ text) (moved_text cs)
moved_text (gone name ∷ cs) = moved_text cs
moved_text (put r ∷ cs) = moved_text cs

gone_text : (cs : List Change)
    → flat_map (λ item. item) (map (bytes_among kind.Gone) cs) ≡ flat_map name_bytes (gone_of cs)
gone_text [] = refl
gone_text (same ∷ cs) = gone_text cs
gone_text (moved rank place ∷ cs) = gone_text cs
gone_text (gone name ∷ cs) = ap (λ text. name_bytes name ++ text) (gone_text cs)
gone_text (put r ∷ cs) = gone_text cs

puts_text : (cs : List Change)
    → flat_map (λ item. item) (map (bytes_among kind.Put) cs) ≡ flat_map (record_bytes 2) (puts_of cs)
puts_text [] = refl
puts_text (same ∷ cs) = puts_text cs
puts_text (moved rank place ∷ cs) = puts_text cs
puts_text (gone name ∷ cs) = puts_text cs
puts_text (put r ∷ cs) = ap (λ text. record_bytes 2 r ++ text) (puts_text cs)

end_text : (h : EntryHead) → flat_map (λ item. item) (end_bytes h ∷ [])
    ≡ zeros (entry_room h - entry_len h) ++ 0 ∷ []
end_text h = append-nil (end_bytes h) ∙ sym (replicate_more {X = ℕ} (entry_room h - entry_len h) 0)

pub items_are_text : (h : Header) (cs : List Change)
    → text_from 0 (entry_items h cs) ≡ entry_text (entry_for h cs)
unfolding entry_items
items_are_text h cs =
    let join : List (List ℕ) → List ℕ = flat_map (λ item. item) in
    let head = entry_head_bytes (head_for h cs) in
    let a = head ∷ map (cell_bytes h) (below header_cells) in
    let b = map (bytes_among kind.Moved) cs in
    let c = map (bytes_among kind.Gone) cs in
    let d = map (bytes_among kind.Put) cs in
    let e = end_bytes (head_for h cs) ∷ [] in
    let first : join a ≡ head ++ flat_map pair_bytes (cells_of h) =
    ap (λ text. head ++ text) (cells_text h (below header_cells)) in
    let all : join (a ++ b ++ c ++ d ++ e) ≡ join a ++ join b ++ join c ++ join d ++ join e =
    flat_map-append (λ item. item) (a ++ b ++ c ++ d) e
    ∙ ap (λ t. t ++ join e) (flat_map-append (λ item. item) (a ++ b ++ c) d
    ∙ ap (λ t. t ++ join d) (flat_map-append (λ item. item) (a ++ b) c
    ∙ ap (λ t. t ++ join c) (flat_map-append (λ item. item) a b))) in
    let front = head ++ flat_map pair_bytes (cells_of h) ++ flat_map pair_bytes (moves_of cs)
    ++ flat_map name_bytes (gone_of cs) ++ flat_map (record_bytes 2) (puts_of cs) in
    all
    ∙ ap (λ t. t ++ join b ++ join c ++ join d ++ join e) first
    ∙ ap (λ t. head ++ flat_map pair_bytes (cells_of h) ++ t ++ join c ++ join d ++ join e) (moved_text cs)
    ∙ ap (λ t. head ++ flat_map pair_bytes (cells_of h) ++ flat_map pair_bytes (moves_of cs) ++ t ++ join d
    ++ join e) (gone_text cs)
    ∙ ap (λ t. head ++ flat_map pair_bytes (cells_of h) ++ flat_map pair_bytes (moves_of cs)
    ++ flat_map name_bytes (gone_of cs) ++ t ++ join e) (puts_text cs)
    ∙ ap (λ t. front ++ t) (end_text (head_for h cs))
    ∙ sym (append_assoc front (zeros (entry_room (head_for h cs) - entry_len (head_for h cs))) (0 ∷ []))

-- ---- how long it is

length-pairs : (ps : List (ℕ × ℕ)) → length (flat_map pair_bytes ps) ≡ 16 * length ps
length-pairs [] = refl
length-pairs (p ∷ ps) = omega (arith, length-pairs ps)

length-names : (rows : Rows) (names : List (List ℕ)) → AreItems IsGone fin.remove rows names
    → length (flat_map name_bytes names) ≡ 64 * length names
length-names rows [] are = refl
length-names rows (name ∷ names) are = omega (
  arith,
  length-append (name_bytes name) (flat_map name_bytes names),
  length-name_bytes name are.0.named,
  length-names (fin.remove rows name) names are.1,
)

length-one_record : (rows : Rows) (r : Record) → IsPut rows r → length (record_bytes 2 r) ≡ 112
unfolding record_len
length-one_record rows r is = length-record_bytes 2 r is.in_range.named is.digest.len

length-records : (rows : Rows) (rs : List Record) → AreItems IsPut with_row rows rs
    → length (flat_map (record_bytes 2) rs) ≡ 112 * length rs
length-records rows [] are = refl
length-records rows (r ∷ rs) are = omega (
  arith,
  length-append (record_bytes 2 r) (flat_map (record_bytes 2) rs),
  length-one_record rows r are.0,
  length-records (with_row rows r) rs are.1,
)

pub length-entry_text : (rows : Rows) (h : Header) (cs : List Change)
    → AreChanges rows (moves_of cs) (gone_of cs) (puts_of cs)
    → length (entry_text (entry_for h cs)) ≡ entry_room (head_for h cs)
length-entry_text rows h cs are =
    let head = head_for h cs in
    let first = entry_head_bytes head in
    let a = flat_map pair_bytes (cells_of h) in
    let b = flat_map pair_bytes (moves_of cs) in
    let c = flat_map name_bytes (gone_of cs) in
    let d = flat_map (record_bytes 2) (puts_of cs) in
    let e = zeros (entry_room head - entry_len head) in
    omega (
      arith,
      length-append (first ++ a ++ b ++ c ++ d ++ e) (0 ∷ []),
      length-append (first ++ a ++ b ++ c ++ d) e,
      length-append (first ++ a ++ b ++ c) d,
      length-append (first ++ a ++ b) c,
      length-append (first ++ a) b,
      length-append first a,
      length-pairs (cells_of h),
      length-pairs (moves_of cs),
      length-names _ (gone_of cs) are.names,
      length-records _ (puts_of cs) are.records,
      length-replicate {A = ℕ} (entry_room head - entry_len head) 0,
    )
