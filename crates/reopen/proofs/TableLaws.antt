-- From the parts of a table to the table, and to the state.
use Rattle.std.specs.Prelude.{◌≡◌, ℕ, Bool, true, false, List, Result, Ok, refl}
use Rattle.std.proofs.Common.{ap, sym, subst, ◌∙◌}
use Rattle.std.specs.FinMap as fin
use Rattle.byte_ranges.specs.Lists.{◌>>=◌}
use Rattle.size_class.specs.declared.TheConstants.{SIZE_MAX}
use Rattle.slot_codec.specs.Choice.{Chosen, SlotRefusal, SlotTable, chosen_in, records_of, slot_in, table_with}
use Rattle.slot_codec.specs.Logs.{behind_log, logged_table_of, table_in}
use Rattle.slot_codec.specs.declared.codec.Header.{Header}
use Rattle.slot_codec.specs.declared.codec.Kind.{Kind}
use Rattle.slot_codec.specs.declared.codec.Record.{Record}
use Rattle.slot_pair.specs.Finding.{Refuses}
use Rattle.slot_pair.specs.declared.find.SlotFault.{SlotFault}
use Rattle.slot_pair.proofs.RefusalLaws.{by_records, no_header, refuses_on, with_records}
use Rattle.extent_table.specs.Extents.{Spots}
use Rattle.placement_model.specs.Laid.{laid}
use Rattle.table_check.specs.Checked.{checked, of_kind}
use Rattle.reopen.specs.Refusals.{RefusesBy}
use Rattle.reopen.specs.declared.fault.OpenFault.{OpenFault}
use Rattle.reopen.specs.declared.fault.OpenFault.TheVariants as fault

-- ---- what is refused of a part is refused of the table

unfoldable behind_records : List ℕ → Chosen → List Record → Result SlotTable SlotRefusal
behind_records file c records = behind_log file c records >>= λ x.
    Ok (table_with (record c { header = x.header }) (fin.values x.rows))

unfoldable behind_header : List ℕ → Chosen → Result SlotTable SlotRefusal
behind_header file c = records_of file c >>= behind_records file c

by_header : (file : List ℕ) → logged_table_of file ≡ (chosen_in true file >>= behind_header file)
unfolding logged_table_of behind_header behind_records
by_header file = refl

by_rows : (file : List ℕ) (c : Chosen) → chosen_in true file ≡ Ok c
    → logged_table_of file ≡ (records_of file c >>= behind_records file c)
unfolding behind_header
by_rows file c h = by_header file ∙ ap (λ x. x >>= behind_header file) h

by_log : (file : List ℕ) (c : Chosen) (records : List Record) → chosen_in true file ≡ Ok c
    → records_of file c ≡ Ok records
    → logged_table_of file ≡ (behind_log file c records >>= λ x.
    Ok (table_with (record c { header = x.header }) (fin.values x.rows)))
unfolding behind_records
by_log file c records h read = by_rows file c h ∙ ap (λ x. x >>= behind_records file c) read

-- a refusal of its header
header_refused : (logged : Bool) (file : List ℕ) (why : SlotFault) → Refuses (chosen_in logged file) why
    → Refuses (table_in logged file) why
header_refused false file why h = no_header file why h
header_refused true file why h = subst (λ x. Refuses x why) (sym (by_header file))
    (refuses_on (chosen_in true file) (behind_header file) why h)

-- a refusal of its slots
pub slot_refused : (logged : Bool) (file : List ℕ) (why : SlotFault) → Refuses (slot_in logged file) why
    → Refuses (table_in logged file) why
slot_refused logged file why h =
    header_refused logged file why (refuses_on (slot_in logged file) _ why h)

-- or there was no memory for it
pub no_header_there : (logged : Bool) (file : List ℕ) (why : OpenFault) → RefusesBy (chosen_in logged file) why
    → RefusesBy (table_in logged file) why
no_header_there logged file (fault.Slot f) h = header_refused logged file f h
no_header_there logged file (fault.Table broken) h = h
no_header_there logged file fault.NoMemory h = h

-- a refusal of its records
pub no_records : (logged : Bool) (file : List ℕ) (c : Chosen) (why : SlotFault) → chosen_in logged file ≡ Ok c
    → Refuses (records_of file c) why → Refuses (table_in logged file) why
no_records false file c why h bad = subst (λ x. Refuses x why) (sym (by_records file c h))
    (refuses_on (records_of file c) (with_records c) why bad)
no_records true file c why h bad = subst (λ x. Refuses x why) (sym (by_rows file c h))
    (refuses_on (records_of file c) (behind_records file c) why bad)

-- a refusal of its log
pub no_log : (file : List ℕ) (c : Chosen) (records : List Record) (why : SlotFault)
    → chosen_in true file ≡ Ok c → records_of file c ≡ Ok records
    → Refuses (behind_log file c records) why → Refuses (table_in true file) why
no_log file c records why h read bad = subst (λ x. Refuses x why) (sym (by_log file c records h read))
    (refuses_on (behind_log file c records) _ why bad)

-- ---- a header that is read as one of its own kind

pub checked_is : (classes k data_len : ℕ) (kind : Kind) (header : Header) (spots : Spots) → header.kind ≡ kind
    → checked classes k data_len kind header spots ≡ laid classes SIZE_MAX k data_len header spots
checked_is classes k data_len kind header spots same =
    ap (λ x. laid classes SIZE_MAX k data_len (of_kind x header) spots) (sym same)
