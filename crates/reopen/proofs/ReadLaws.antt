-- An entry is read head first, and then part by part.
use Rattle.std.proofs.Common.{◌≡◌, ℕ, zero, suc, ◌+◌, ◌-◌, ◌≤◌, true, false, nat_le, if◌then◌else◌, List, [], ◌∷◌, drop, length, take, Some, None, refl, ap, sym, ◌∙◌, arith}
use Rattle.std.proofs.lemmas.Bool.{cond-true, eq-eqb}
use Rattle.std.specs.Prelude.{Result, Ok, Err, OnOk, slice_index}
use Rattle.std.specs.Result.{is_err}
use Rattle.std.proofs.lemmas.List.{length-drop, length-take-le}
use Rattle.std.specs.FinMap as fin
use Rattle.byte_ranges.specs.Lists.{◌>>=◌}
use Rattle.byte_ranges.specs.Ranges.{bytes_at}
use Rattle.byte_ranges.proofs.RangeLaws.{bytes_at-index, bytes_at-within}
use Rattle.slot_codec.specs.Choice.{SlotRefusal, codec, is_open, placed_at}
use Rattle.slot_codec.specs.Entries.{entry_len, entry_room, gone_from, moved_from, puts_from, read_entry_head}
use Rattle.slot_codec.specs.Items.{read_items}
use Rattle.slot_codec.specs.Logs.{Given, Logged, begun, cell_step, gap_step, gone_step, move_step, put_step, read_changes, read_entry}
use Rattle.slot_codec.specs.Reading.{log_worn_from}
use Rattle.slot_codec.specs.Rows.{Rows}
use Rattle.slot_codec.specs.Spelling.{gate_open}
use Rattle.slot_codec.specs.declared.codec.CodecFault.{CodecFault}
use Rattle.slot_codec.specs.declared.codec.CodecFault.TheVariants as fault
use Rattle.slot_codec.specs.declared.entry.EntryHead.{EntryHead}
use Rattle.reopen.specs.Entries.{behind_parts, entered, read_head, read_parts, read_rest}
use Rattle.reopen.specs.Items.{Passing, read_part}
use Rattle.reopen.specs.Logs.{IsPlace}
use Rattle.reopen.specs.declared.items.Items.{Items}
use Rattle.reopen.specs.declared.items.Part.TheVariants as part

-- ---- chains of steps

pub bind_assoc : {A B C E : Type 0} (r : Result A E) (f : A → Result B E) (g : B → Result C E)
    → (r >>= f >>= g) ≡ (r >>= λ x. f x >>= g)
bind_assoc (Ok x) f g = refl
bind_assoc (Err e) f g = refl

pub bind_same : {A B E : Type 0} (r : Result A E) (f g : A → Result B E) → ((x : A) → f x ≡ g x)
    → (r >>= f) ≡ (r >>= g)
bind_same (Ok x) f g same = same x
bind_same (Err e) f g same = refl

-- ---- steps on a part of a state

-- a part of a state that can be read and set
record IsPartOf {P S : Type 0} (get : P → S) (put : P → S → P) : Type 0 where
  same : (p : P) → put p (get p) ≡ p
  got : (p : P) (s : S) → get (put p s) ≡ s
  again : (p : P) (s t : S) → put (put p s) t ≡ put p t

-- a step of a part is one of the state
abbrev lifted : {P S : Type 0} → (P → S) → (P → S → P) → (S → List ℕ → Result S CodecFault) → P → List ℕ
    → Result P CodecFault
lifted get put step p bytes = step (get p) bytes >>= λ s. Ok (put p s)

-- items that are steps of a part
items_lifted : {P S : Type 0} (get : P → S) (put : P → S → P) (step : S → List ℕ → Result S CodecFault)
    → IsPartOf get put → (len n : ℕ) (file : List ℕ) (at : ℕ) (p : P)
    → read_items (lifted get put step) len n file at p
    ≡ (read_items step len n file at (get p) >>= λ s. Ok (put p s))
items_lifted get put step is len zero file at p = ap Ok (sym (is.same p))
items_lifted {P} {S} get put step is len (suc n) file at p =
    by_first (λ q. items_lifted get put step is len n file (at + len) q) (step (get p) (bytes_at file at len))
  where
    by_first : ((q : P) → read_items (lifted get put step) len n file (at + len) q
        ≡ (read_items step len n file (at + len) (get q) >>= λ s. Ok (put q s))) → (o : Result S CodecFault)
        → (placed_at at (o >>= λ s. Ok (put p s))
        >>= λ q. read_items (lifted get put step) len n file (at + len) q)
        ≡ (placed_at at o >>= (λ t. read_items step len n file (at + len) t) >>= λ s. Ok (put p s))
    by_first later (Ok s) =
        later (put p s)
        ∙ ap (λ t. read_items step len n file (at + len) t >>= λ u. Ok (put (put p s) u)) (is.got p s)
        ∙ bind_same (read_items step len n file (at + len) s) (λ u. Ok (put (put p s) u))
        (λ u. Ok (put p u)) (λ u. ap Ok (is.again p s u))
    by_first later (Err e) = refl

-- a part of an entry, and then the others
then_others : {S : Type 0} (get : Passing → S) (put : Passing → S → Passing) (o : Result S SlotRefusal)
    (xs : List Items) (x : Items) (file : List ℕ) (p : Passing) (behind : Passing → Result Logged SlotRefusal)
    → read_part x file p ≡ (o >>= λ s. Ok (put p s))
    → (read_parts (x ∷ xs) file p >>= behind) ≡ (o >>= λ s. read_parts xs file (put p s) >>= behind)
then_others get put o xs x file p behind is =
    ap (λ r. r >>= (λ q. read_parts xs file q) >>= behind) is
    ∙ ap (λ r. r >>= behind) (bind_assoc o (λ s. Ok (put p s)) (λ q. read_parts xs file q))
    ∙ bind_assoc o (λ s. read_parts xs file (put p s)) behind

abbrev with_given : Passing → Given → Passing
with_given p g = record p { given = g }

abbrev with_rows : Passing → Rows → Passing
with_rows p rows = record p { rows = rows }

given_part : IsPartOf (λ (p : Passing). p.given) with_given
given_part = record { same = λ p. refl; got = λ p s. refl; again = λ p s t. refl }

rows_part : IsPartOf (λ (p : Passing). p.rows) with_rows
rows_part = record { same = λ p. refl; got = λ p s. refl; again = λ p s t. refl }

no_part : IsPartOf (λ (p : Passing). tt {0}) (λ p u. p)
no_part = record { same = λ p. refl; got = λ p s. refl; again = λ p s t. refl }

-- ---- the parts of an entry

module _ (cap at : ℕ) (file : List ℕ) (h : EntryHead) where
  abbrev gap : Items
  gap = record { part = part.Gap; at = at + entry_len h; count = entry_room h - entry_len h }

  abbrev puts : Items
  puts = record { part = part.Puts; at = at + puts_from h; count = h.puts }

  abbrev gone : Items
  gone = record { part = part.Gone; at = at + gone_from h; count = h.gone }

  abbrev moved : Items
  moved = record { part = part.Moved; at = at + moved_from h; count = h.moved }

  abbrev zeros_read : Result (Unit {0}) SlotRefusal
  zeros_read = read_items gap_step 1 (entry_room h - entry_len h) file (at + entry_len h) tt

  -- behind the gap
  gap_last : (p : Passing) → (read_parts (gap ∷ []) file p >>= behind_parts cap at)
      ≡ (zeros_read >>= λ none. behind_parts cap at p)
  gap_last p = then_others (λ (q : Passing). tt {0}) (λ q u. q) zeros_read [] gap file p (behind_parts cap at)
      (items_lifted (λ (q : Passing). tt {0}) (λ q u. q) gap_step no_part 1 (entry_room h - entry_len h) file
      (at + entry_len h) p)

  -- behind the rows
  abbrev end : Given → Rows → Result Logged SlotRefusal
  end g rows = zeros_read >>= λ none. behind_parts cap at (record { given = g; rows = rows })

  puts_last : (p : Passing) → (read_parts (puts ∷ gap ∷ []) file p >>= behind_parts cap at)
      ≡ (read_items put_step 112 h.puts file (at + puts_from h) p.rows >>= λ rows. end p.given rows)
  puts_last p =
      let o = read_items put_step 112 h.puts file (at + puts_from h) p.rows in
      then_others (λ (q : Passing). q.rows) with_rows o (gap ∷ []) puts file p (behind_parts cap at)
      (items_lifted (λ (q : Passing). q.rows) with_rows put_step rows_part 112 h.puts file (at + puts_from h)
      p)
      ∙ bind_same o (λ rows. read_parts (gap ∷ []) file (with_rows p rows) >>= behind_parts cap at)
      (λ rows. end p.given rows) (λ rows. gap_last (with_rows p rows))

  gone_last : (p : Passing) → (read_parts (gone ∷ puts ∷ gap ∷ []) file p >>= behind_parts cap at)
      ≡ (read_items gone_step 64 h.gone file (at + gone_from h) p.rows
      >>= λ left. read_items put_step 112 h.puts file (at + puts_from h) left >>= λ rows. end p.given rows)
  gone_last p =
      let o = read_items gone_step 64 h.gone file (at + gone_from h) p.rows in
      then_others (λ (q : Passing). q.rows) with_rows o (puts ∷ gap ∷ []) gone file p (behind_parts cap at)
      (items_lifted (λ (q : Passing). q.rows) with_rows gone_step rows_part 64 h.gone file (at + gone_from h)
      p)
      ∙ bind_same o (λ left. read_parts (puts ∷ gap ∷ []) file (with_rows p left) >>= behind_parts cap at)
      (λ left. read_items put_step 112 h.puts file (at + puts_from h) left >>= λ rows. end p.given rows)
      (λ left. puts_last (with_rows p left))

  moved_last : (p : Passing) → (read_parts (moved ∷ gone ∷ puts ∷ gap ∷ []) file p >>= behind_parts cap at)
      ≡ (read_changes file at h p.rows >>= λ rows. end p.given rows)
  moved_last p =
      let o = read_items move_step 16 h.moved file (at + moved_from h) p.rows in
      let left = λ (rows : Rows). read_items gone_step 64 h.gone file (at + gone_from h) rows in
      let set = λ (rows : Rows). read_items put_step 112 h.puts file (at + puts_from h) rows in
      then_others (λ (q : Passing). q.rows) with_rows o (gone ∷ puts ∷ gap ∷ []) moved file p
      (behind_parts cap at)
      (items_lifted (λ (q : Passing). q.rows) with_rows move_step rows_part 16 h.moved file
      (at + moved_from h) p)
      ∙ bind_same o (λ rows. read_parts (gone ∷ puts ∷ gap ∷ []) file (with_rows p rows) >>= behind_parts cap
      at)
      (λ rows. left rows >>= set >>= λ r. end p.given r)
      (λ rows. gone_last (with_rows p rows) ∙ sym (bind_assoc (left rows) set (λ r. end p.given r)))
      ∙ sym (bind_assoc o (λ rows. left rows >>= set) (λ r. end p.given r))

  abbrev cells_read : Logged → Result Given SlotRefusal
  cells_read x = read_items cell_step 16 h.cells file (at + 56) (record {
    next = 0;
    header = begun x.header h;
  })

  -- what stands behind a head
  pub rest_read : (x : Logged) → read_rest cap file at x h
      ≡ (cells_read x >>= λ given. read_changes file at h x.rows >>= λ rows. end given rows)
  rest_read x =
      let p = entered x h in
      let others = moved ∷ gone ∷ puts ∷ gap ∷ [] in
      then_others (λ (q : Passing). q.given) with_given (cells_read x) others
      (record { part = part.Cells; at = at + 56; count = h.cells }) file p (behind_parts cap at)
      (items_lifted (λ (q : Passing). q.given) with_given cell_step given_part 16 h.cells file (at + 56) p)
      ∙ bind_same (cells_read x) (λ given. read_parts others file (with_given p given) >>= behind_parts cap
      at)
      (λ given. read_changes file at h x.rows >>= λ rows. end given rows)
      (λ given. moved_last (with_given p given))

-- what an entry makes of a table once its head is read
abbrev pub behind_head : ℕ → List ℕ → ℕ → Logged → EntryHead → Result Logged SlotRefusal
behind_head cap file at x h =
    if nat_le (log_worn_from h.kind) (x.header.sequence + 1) then Err (codec fault.Worn at) else
    read_rest cap file at x h

-- an entry is its head, and what stands behind that
pub entry_read : (cap top : ℕ) (file : List ℕ) (at : ℕ) (x : Logged) → read_entry cap top file at x
    ≡ (placed_at at (read_entry_head cap (fin.len x.rows) (top - at) (bytes_at file (at + 1) 55))
    >>= λ h. behind_head cap file at x h)
entry_read cap top file at x =
    bind_same (placed_at at (read_entry_head cap (fin.len x.rows) (top - at) (bytes_at file (at + 1) 55)))
    (λ h. if nat_le (log_worn_from h.kind) (x.header.sequence + 1) then Err (codec fault.Worn at) else
    (cells_read cap at file h x >>= λ given. read_changes file at h x.rows >>= λ rows.
    end cap at file h given rows)) (λ h. behind_head cap file at x h)
    (λ h. ap (λ (r : Result Logged SlotRefusal).
    if nat_le (log_worn_from h.kind) (x.header.sequence + 1) then Err (codec fault.Worn at) else r)
    (sym (rest_read cap at file h x)))

-- ---- the head of an entry

-- a gate of a log has a sector below the top
pub sector_below : (at top : ℕ) → IsPlace at top → at + 512 ≤ top
sector_below at top t = omega (arith, t.sector, t.top_sector, t.below)

-- the first 56 bytes of an entry: its gate, and its head
pub record IsHeadText (file text : List ℕ) (at : ℕ) : Type 0 where
  pub long : length text ≡ 56
  pub there : text ≡ bytes_at file at 56

-- what was read, and is no error
pub read_well : {T E X : Type 0} (r : Result T E) → is_err r ≡ false → OnOk r X → X
read_well (Ok x) well h = h
read_well (Err e) well h = absurd (cc)

-- its head has 55 bytes
pub head_long : (text : List ℕ) → length text ≡ 56 → length (take (length text - 1) (drop 1 text)) ≡ 55
head_long text long =
    let rest : length (drop 1 text) ≡ 55 = omega (arith, length-drop 1 text, long) in
    omega (arith, length-take-le (length text - 1) (drop 1 text) (omega (arith, rest, long)), long)

head_behind : (file text : List ℕ) (at : ℕ) → IsHeadText file text at
    → take (length text - 1) (drop 1 text) ≡ bytes_at file (at + 1) 55
head_behind file text at t =
    let less : length text - 1 ≡ 55 = omega (arith, t.long) in
    ap (λ n. take n (drop 1 text)) less ∙ ap (λ xs. bytes_at xs 1 55) t.there
    ∙ bytes_at-within file at 56 1 55 (omega arith)

gate_first : (file text : List ℕ) (at : ℕ) → IsHeadText file text at → slice_index text 0 ≡ slice_index file
    at
gate_first file text at t =
    let here : at + 0 ≡ at = omega arith in
    ap (λ xs. slice_index xs 0) t.there ∙ bytes_at-index file at 56 0 (omega arith) ∙ ap (slice_index file)
    here

abbrev pub text_head : ℕ → ℕ → ℕ → List ℕ → Result EntryHead CodecFault
text_head cap count room text = read_entry_head cap count room (take (length text - 1) (drop 1 text))

-- an open gate and its head
open_head : (cap count top at : ℕ) (file text : List ℕ) → IsHeadText file text at
    → slice_index text 0 ≡ gate_open → read_head cap count top file at
    ≡ (placed_at at (text_head cap count (top - at) text) >>= λ h. Ok (Some h))
open_head cap count top at file text t gate =
    let on : is_open file at ≡ true =
    eq-eqb (slice_index file at) gate_open (sym (gate_first file text at t) ∙ gate) in
    cond-true (is_open file at)
    (placed_at at (read_entry_head cap count (top - at) (bytes_at file (at + 1) 55)) >>= λ h. Ok (Some h))
    (Ok None) on
    ∙ ap (λ xs. placed_at at (read_entry_head cap count (top - at) xs) >>= λ h. Ok (Some h))
    (sym (head_behind file text at t))

pub head_taken : (cap count top at : ℕ) (file text : List ℕ) (h : EntryHead) → IsHeadText file text at
    → slice_index text 0 ≡ gate_open → text_head cap count (top - at) text ≡ Ok h
    → read_head cap count top file at ≡ Ok (Some h)
head_taken cap count top at file text h t gate read = open_head cap count top at file text t gate
    ∙ ap (λ o. placed_at at o >>= λ k. Ok (Some k)) read

pub head_refused : (cap count top at : ℕ) (file text : List ℕ) (f : CodecFault) → IsHeadText file text at
    → slice_index text 0 ≡ gate_open → text_head cap count (top - at) text ≡ Err f
    → read_head cap count top file at ≡ Err (codec f at)
head_refused cap count top at file text f t gate read = open_head cap count top at file text t gate
    ∙ ap (λ o. placed_at at o >>= λ k. Ok (Some k)) read
