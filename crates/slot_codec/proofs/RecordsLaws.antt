-- The records of a table have one spelling, and reading is its inverse.
use Rattle.std.proofs.Common.{◌≡◌, ℕ, zero, suc, ◌+◌, ◌*◌, ◌≤◌, true, not, List, [], ◌∷◌, ◌++◌, length, map, take, drop, refl, sym, ap, ◌∙◌, subst, arith, append_assoc, length-drop}
use Rattle.std.proofs.lemmas.Bool.{not-false, not_from_true}
use Rattle.std.proofs.lemmas.List.{append-nil, get_or-drop, length-take-le, take-append-drop, take_all}
use Rattle.std.proofs.Math.Seq.{drop-append_seam, take-append_seam}
use Rattle.std.specs.Prelude.{flat_map, if◌then◌else◌, Option, Some, None, Result, Ok, Err}
use Rattle.byte_ranges.specs.Lists.{◌>>=◌}
use Rattle.byte_ranges.proofs.RangeLaws.{length-bytes_at}
use Rattle.slot_codec.specs.Choice.{Chosen, SlotTable, chosen, first_record, placed_at, read_records, record_after, records_at, records_of, records_text, rises, SlotRefusal, table_of, table_with}
use Rattle.slot_codec.proofs.ChoiceLaws.{chosen_long, records_low, table_chosen, table_from}
use Rattle.slot_codec.proofs.DigestLaws.{AreDigested, as_kept, kept_digested, kept_digests, kept_plain, kept_rise, kept_spelled, length-kept}
use Rattle.slot_codec.proofs.PartLaws.{bytes_at-are_bytes}
use Rattle.slot_codec.specs.Readable.{AreInRange}
use Rattle.slot_codec.specs.Reading.{read_record}
use Rattle.slot_codec.proofs.RecordLaws.{length-record_bytes, record_fits, record_read, record_spelled}
use Rattle.slot_codec.proofs.RollLaws.{RiseFrom, in_range_from_rise, rise_from_roll, rise_plain, roll_from_rise}
use Rattle.slot_codec.specs.Rolls.{HaveDigests, IsRoll}
use Rattle.slot_codec.specs.Spelling.{AreBytes, record_bytes, record_len}
use Rattle.slot_codec.proofs.StepLaws.{bind_from, bind_ok, from_ok, guard_from, guard_ok, placed_ok}
use Rattle.slot_codec.specs.declared.codec.Record.{Record}
use Rattle.slot_codec.specs.declared.codec.CodecFault.{CodecFault}
use Rattle.slot_codec.specs.declared.codec.CodecFault.TheVariants as fault

-- the rest after the first record
abbrev after_first : ℕ → ℕ → List ℕ → ℕ → Record → Result (List Record) SlotRefusal
after_first version n text at r =
    read_records version n (drop (record_len version) text) (at + record_len version)
    (Some r.name) >>= λ rest.
    Ok (r ∷ rest)

abbrev if_rising : Option (List ℕ) → Record → Result Record CodecFault
if_rising before r = if not (rises before r.name) then Err fault.Order else Ok r

-- a record that is read and rises is the record after the name
after_name : (version : ℕ) (bytes : List ℕ) (before : Option (List ℕ)) (r : Record)
    → read_record version bytes ≡ Ok r → rises before r.name ≡ true → record_after version bytes before ≡ Ok r
after_name version bytes before r read rising = bind_from (read_record version bytes)
    (if_rising before) r read
    ∙ guard_from _ fault.Order (Ok r) (not_from_true _ rising)

-- and the other way round
name_after : (version : ℕ) (bytes : List ℕ) (before : Option (List ℕ)) (r : Record)
    → record_after version bytes before ≡ Ok r
    → (read_record version bytes ≡ Ok r) × (rises before r.name ≡ true)
name_after version bytes before r h =
    let read = bind_ok (read_record version bytes) (if_rising before) r h in
    let rising = guard_ok (not (rises before read.0.name)) fault.Order (Ok read.0) r read.2 in
    let same : read.0 ≡ r = from_ok read.0 r rising.1 in
    (read.1 ∙ ap (λ x. Ok x) same, ap (λ x. rises before x.name) (sym same) ∙ not-false _ rising.0)

-- records in range whose names rise are read from their spelling
pub records_read : (version : ℕ) (rs : List Record) (rest : List ℕ) (at : ℕ) (before : Option (List ℕ))
    → RiseFrom before rs → AreDigested version rs
    → read_records version (length rs) (flat_map (record_bytes version) rs ++ rest) at before ≡ Ok rs
records_read version [] rest at before h d = refl
records_read version (r ∷ rs) rest at before h d =
    let n = record_len version in
    let spelled = record_bytes version r in
    let more = flat_map (record_bytes version) rs ++ rest in
    let text = spelled ++ flat_map (record_bytes version) rs ++ rest in
    let long : length spelled ≡ n = length-record_bytes version r h.0.named d.0.len in
    let split : text ≡ spelled ++ more = append_assoc spelled (flat_map (record_bytes version) rs) rest in
    let front : take n text ≡ spelled = ap (λ k. take k text) (sym long)
    ∙ ap (take (length spelled)) split ∙ take-append_seam spelled more in
    let back : drop n text ≡ more = ap (λ k. drop k text) (sym long)
    ∙ ap (drop (length spelled)) split ∙ drop-append_seam spelled more in
    let read : read_record version (take n text) ≡ Ok r = ap (read_record version) front
    ∙ record_read version r h.0 d.0 in
    let first : first_record version text at before ≡ Ok r =
    ap (placed_at at) (after_name version (take n text) before r read h.1) in
    let later : read_records version (length rs) (drop n text) (at + n) (Some r.name)
    ≡ Ok rs = ap (λ xs. read_records version (length rs) xs (at + n) (Some r.name)) back
    ∙ records_read version rs rest (at + n) (Some r.name) h.2 d.1 in
    bind_from (first_record version text at before) (after_first version (length rs) text at) r first
    ∙ bind_from _ (λ xs. Ok (r ∷ xs)) rs later

-- what a list of records that is read consists of
pub record RecordsParts (version n : ℕ) (text : List ℕ) (at : ℕ) (before : Option (List ℕ))
    (rs : List Record) : Type 0 where
  pub first : Record
  pub later : List Record
  pub is : first ∷ later ≡ rs
  pub first_read : read_record version (take (record_len version) text) ≡ Ok first
  pub first_rises : rises before first.name ≡ true
  pub later_read : read_records version n (drop (record_len version) text) (at + record_len version)
      (Some first.name) ≡ Ok later

pub records_parts : (version n : ℕ) (text : List ℕ) (at : ℕ) (before : Option (List ℕ)) (rs : List Record)
    → read_records version (suc n) text at before ≡ Ok rs → RecordsParts version n text at before rs
records_parts version n text at before rs h =
    let len = record_len version in
    let a = bind_ok (first_record version text at before) (after_first version n text at) rs h in
    let first = name_after version (take len text) before a.0
    (placed_ok at (record_after version (take len text) before) a.0 a.1) in
    let d = bind_ok (read_records version n (drop len text) (at + len) (Some a.0.name))
    (λ rest. Ok (a.0 ∷ rest)) rs a.2
    in
    record {
      first = a.0;
      later = d.0;
      is = from_ok (a.0 ∷ d.0) rs d.2;
      first_read = first.0;
      first_rises = first.1;
      later_read = d.1;
    }

-- records that are read are in range, and their names rise
pub read_records_rise : (version n : ℕ) (text : List ℕ) (at : ℕ) (before : Option (List ℕ)) (rs : List Record)
    → read_records version n text at before ≡ Ok rs → RiseFrom before rs
read_records_rise version zero text at before rs h = rw (← from_ok [] rs h) tt
read_records_rise version (suc n) text at before rs h =
    let p = records_parts version n text at before rs h in
    let len = record_len version in
    let rise : RiseFrom before (p.first ∷ p.later) = (
      record_fits version (take len text) p.first p.first_read,
      p.first_rises,
      read_records_rise version n (drop len text) (at + len) (Some p.first.name) p.later p.later_read,
    )
    in
    rw (← p.is) rise

pub length-read_records : (version n : ℕ) (text : List ℕ) (at : ℕ) (before : Option (List ℕ))
    (rs : List Record) → read_records version n text at before ≡ Ok rs → length rs ≡ n
length-read_records version zero text at before rs h = ap length (sym (from_ok [] rs h))
length-read_records version (suc n) text at before rs h =
    let p = records_parts version n text at before rs h in
    ap length (sym p.is) ∙ ap suc (length-read_records version n (drop (record_len version) text)
    (at + record_len version) (Some p.first.name) p.later p.later_read)

-- the text that they are read from is their spelling
pub read_records_spelled : (version n : ℕ) (text : List ℕ) (at : ℕ) (before : Option (List ℕ))
    (rs : List Record) → length text ≡ record_len version * n → AreBytes text
    → read_records version n text at before ≡ Ok rs → text ≡ flat_map (record_bytes version) rs
read_records_spelled version zero text at before rs long are h =
    let none : length text ≤ 0 = omega (arith, long) in
    sym (take_all 0 text none) ∙ ap (flat_map (record_bytes version)) (from_ok [] rs h)
read_records_spelled version (suc n) text at before rs long are h =
    let p = records_parts version n text at before rs h in
    let len = record_len version in
    let front_long : length (take len text) ≡ len = length-take-le len text (omega (arith, long)) in
    let back_long : length (drop len text) ≡ len * n = omega (arith, long, length-drop len text) in
    let front : take len text ≡ record_bytes version p.first =
    record_spelled version (take len text) p.first front_long (bytes_at-are_bytes text 0 len are) p.first_read
    in
    let back_bytes : AreBytes (drop len text) = λ i. rw (get_or-drop len text i 0) (are (len + i)) in
    let back = read_records_spelled version n (drop len text) (at + len) (Some p.first.name) p.later back_long
    back_bytes p.later_read in
    sym (take-append-drop len text)
    ∙ ap (λ xs. xs ++ drop len text) front
    ∙ ap (λ xs. record_bytes version p.first ++ xs) back
    ∙ ap (flat_map (record_bytes version)) p.is

-- the records of a slot are read from their spelling as its version keeps them
records_of-written : (file : List ℕ) (c : Chosen) (rs : List Record) → c.header.count ≡ length rs
    → IsRoll rs → AreInRange rs → HaveDigests rs
    → records_text file c ≡ flat_map (record_bytes c.header.version) rs
    → records_of file c ≡ Ok (map (as_kept c.header.version) rs)
records_of-written file c rs count roll ranges digests text =
    let v = c.header.version in
    let kept = map (as_kept v) rs in
    let rise = kept_rise v None rs (rise_from_roll rs roll ranges) in
    ap (λ n. read_records v n (records_text file c) (records_at c) None)
    (count ∙ sym (length-kept v rs))
    ∙ ap (λ xs. read_records v (length kept) xs (records_at c) None)
    (text ∙ sym (kept_spelled v rs) ∙ sym (append-nil (flat_map (record_bytes v) kept)))
    ∙ records_read v kept [] (records_at c) None rise (kept_digested v rs digests)

-- and so is the table
pub table_of-written : (file : List ℕ) (c : Chosen) (rs : List Record) → chosen file ≡ Ok c
    → c.header.count ≡ length rs → IsRoll rs → AreInRange rs → HaveDigests rs
    → records_text file c ≡ flat_map (record_bytes c.header.version) rs
    → table_of file ≡ Ok (table_with c rs)
table_of-written file c rs in_use count roll ranges digests text =
    let v = c.header.version in
    let kept = map (as_kept v) rs in
    table_from file c kept in_use (records_of-written file c rs count roll ranges digests text)
    ∙ λ i. Ok (record {
      chosen = c;
      records = kept_plain v rs i;
      digests = kept_digests v rs i;
    })

pub records-rise : (file : List ℕ) (c : Chosen) (rs : List Record) → records_of file c ≡ Ok rs
    → IsRoll rs × AreInRange rs × (length rs ≡ c.header.count)
records-rise file c rs h =
    let v = c.header.version in
    let n = c.header.count in
    let rise = read_records_rise v n (records_text file c) (records_at c) None rs h in (
      roll_from_rise None rs rise,
      in_range_from_rise None rs rise,
      length-read_records v n (records_text file c) (records_at c) None rs h,
    )

-- the records of a table rise
pub table_rises : (file : List ℕ) (t : SlotTable) → table_of file ≡ Ok t → RiseFrom None t.records
table_rises file t h =
    let p = table_chosen file t h in
    let c = t.chosen in
    let rise = read_records_rise c.header.version c.header.count (records_text file c)
    (records_at c) None p.1 p.2
    in
    subst (λ (x : SlotTable). RiseFrom None x.records) p.3 (rise_plain None p.1 rise)

pub records_of-spelled : (file : List ℕ) (c : Chosen) (rs : List Record) → chosen file ≡ Ok c → AreBytes file
    → records_of file c ≡ Ok rs → records_text file c ≡ flat_map (record_bytes c.header.version) rs
records_of-spelled file c rs in_use are h =
    let v = c.header.version in
    let within : records_at c + record_len v * c.header.count
    ≤ length file = omega (arith, records_low file c in_use, chosen_long file c in_use) in
    let long = length-bytes_at file (records_at c) (record_len v * c.header.count) within in
    read_records_spelled v c.header.count (records_text file c) (records_at c) None rs long
    (bytes_at-are_bytes file (records_at c) (record_len v * c.header.count) are) h
