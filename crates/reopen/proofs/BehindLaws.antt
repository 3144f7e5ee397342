-- A table behind its records, and behind the log of its slot.
use Rattle.std.specs.Prelude.{◌≡◌, ℕ, ◌+◌, ◌*◌, ◌==◌, Bool, true, false, IsTrue, List, Option, None, Ok, refl}
use Rattle.std.proofs.Common.{ap, arith, inl, inr, sym, subst, ◌∙◌}
use Rattle.std.proofs.lemmas.Bool.{cases_Bool, cond-false, cond-true, false≢true}
use Rattle.std.proofs.lemmas.Grind.{common_steps}
use Rattle.byte_ranges.specs.Ranges.{bytes_at}
use Rattle.slot_codec.specs.Choice.{chosen_in, read_records, records_of, slot_in_use, table_with}
use Rattle.slot_codec.specs.Logs.{behind_log, table_in}
use Rattle.slot_codec.specs.Reading.{is_version, is_version_in}
use Rattle.slot_codec.specs.Spelling.{record_len, slot_at}
use Rattle.slot_codec.specs.declared.codec.Header.{Header}
use Rattle.slot_codec.proofs.ChoiceLaws.{table_from}
use Rattle.slot_codec.proofs.LoggedLaws.{logged_from, records_alike}
use Rattle.slot_pair.specs.Finding.{Refuses, chosen_of, in_use_of}
use Rattle.slot_pair.specs.declared.find.Found.{Found}
use Rattle.slot_pair.specs.declared.find.SlotFault.{SlotFault}
use Rattle.extent_table.specs.Extents.{Extents, IsTable, rolled, with_now_kept}
use Rattle.extent_table.proofs.RollLaws.{rolled-plain, rolled-seen}
use Rattle.reopen.specs.Logs.{logged_of}
use Rattle.reopen.specs.Records.{AreSet, spelling}
use Rattle.reopen.specs.Tables.{table_there}
use Rattle.reopen.proofs.RowLaws.{rows_values}
use Rattle.reopen.proofs.TableLaws.{no_log}

-- ---- records of version 3

spelled_by : (P : ℕ → ℕ → Type 0) → ((v : ℕ) → P v v) → P 3 2 → (v : ℕ) → P v (spelling v)
spelled_by P same three v = elim (cases_Bool (v == 3)) as (λ _. P v (spelling v)) [
  | inl is ↦ let at : v ≡ 3 = grind (arith, common_steps, is) in
      subst (P v) (sym (cond-true (v == 3) 2 v is)) (subst (λ w. P w 2) (sym at) three)
  | inr other ↦ subst (P v) (sym (cond-false (v == 3) 2 v other)) (same v)
]

pub spelled_len : (v : ℕ) → record_len (spelling v) ≡ record_len v
unfolding record_len
spelled_len v = spelled_by (λ v s. record_len s ≡ record_len v) (λ v. refl) refl v

pub spelled_records : (v n : ℕ) (text : List ℕ) (at : ℕ) (before : Option (List ℕ))
    → read_records (spelling v) n text at before ≡ read_records v n text at before
spelled_records v n text at before =
    spelled_by (λ v s. read_records s n text at before ≡ read_records v n text at before) (λ v. refl)
    (sym (records_alike n text at before)) v

pub spelled_is : (logged : Bool) (v : ℕ) → IsTrue (is_version_in logged v) → IsTrue (is_version (spelling v))
spelled_is true v h = grind (arith, common_steps)
spelled_is false v h = grind (arith, common_steps)

-- where slots have logs each has 112 bytes
pub three_long : (logged : Bool) (v : ℕ) → logged ≡ true → IsTrue (is_version_in logged v)
    → record_len v ≡ 112
unfolding record_len
three_long true v l h = let at : v ≡ 3 = grind (arith, common_steps, h) in ap record_len at
three_long false v l h = absurd (false≢true l)

-- the records of a slot in use, as they are read
pub spelled_of : (file : List ℕ) (found : Found) (header : Header) (v s : ℕ) → v ≡ spelling header.version
    → s ≡ slot_at found.block.names found.slot
    → read_records v header.count (bytes_at file (s + 8488) (record_len v * header.count)) (s + 8488) None
    ≡ records_of file (chosen_of found header)
spelled_of file found header v s is there =
    let at = slot_at found.block.names found.slot + 8488 in
    (λ i. read_records (is i) header.count
    (bytes_at file (there i + 8488) (record_len (is i) * header.count)) (there i + 8488) None)
    ∙ spelled_records header.version header.count
    (bytes_at file at (record_len (spelling header.version) * header.count)) at None
    ∙ ap (λ n. read_records header.version header.count (bytes_at file at (n * header.count)) at None)
    (spelled_len header.version)

-- ---- the table

-- the table that is made of the records of another
pub there_is : (found : Found) (header : Header) (e : Extents) → IsTable e
    → table_with (chosen_of found header) (rolled e.now e.digests) ≡ table_there found header e
there_is found header e table = λ i. record {
  chosen = chosen_of found header;
  records = rolled-plain e.now e.digests i;
  digests = rolled-seen header.version e table i;
}

-- that of a file whose slots have no logs
pub plain_there : (file : List ℕ) (found : Found) (header : Header) (e : Extents)
    → chosen_in false file ≡ Ok (chosen_of found header)
    → AreSet (records_of file (chosen_of found header)) e → IsTable (with_now_kept e)
    → table_in false file ≡ Ok (table_there found header e)
plain_there file found header e chosen set table =
    table_from file (chosen_of found header) set.records chosen set.read
    ∙ ap (λ rs. Ok (table_with (chosen_of found header) rs)) (sym set.same)
    ∙ ap (λ t. Ok t) (there_is found header (with_now_kept e) table)

-- and that of one whose slots have logs
pub logged_there : (file : List ℕ) (found : Found) (before now : Header) (old new : Extents)
    → chosen_in true file ≡ Ok (chosen_of found before)
    → AreSet (records_of file (chosen_of found before)) old
    → behind_log file (chosen_of found before) (rolled old.now old.digests) ≡ Ok (logged_of now new)
    → IsTable new → table_in true file ≡ Ok (table_there found now new)
logged_there file found before now old new chosen set behind table =
    logged_from file (chosen_of found before) (rolled old.now old.digests) (logged_of now new) chosen
    (set.read ∙ ap (λ rs. Ok rs) (sym set.same)) behind
    ∙ ap (λ rs. Ok (table_with (chosen_of found now) rs)) (rows_values new table)
    ∙ ap (λ t. Ok t) (there_is found now new table)

-- a refusal of the log
pub log_there_refused : (file : List ℕ) (found : Found) (header : Header) (e : Extents) (why : SlotFault)
    → chosen_in true file ≡ Ok (chosen_of found header)
    → AreSet (records_of file (chosen_of found header)) e
    → Refuses (behind_log file (chosen_of found header) (rolled e.now e.digests)) why
    → Refuses (table_in true file) why
log_there_refused file found header e why chosen set bad =
    no_log file (chosen_of found header) (rolled e.now e.digests) why chosen
    (set.read ∙ ap (λ rs. Ok rs) (sym set.same)) bad

-- the slot in use that was found, with the sequence of its header
pub slot_there : (file : List ℕ) (found : Found) (header : Header) (sequence : ℕ)
    → slot_in_use file ≡ Ok (in_use_of found) → header.sequence ≡ found.sequence
    → sequence ≡ header.sequence → slot_in_use file ≡ Ok (in_use_of (record found { sequence = sequence }))
slot_there file found header sequence in_use same is =
    in_use ∙ ap (λ n. Ok (in_use_of (record found { sequence = n }))) (sym (is ∙ same))
