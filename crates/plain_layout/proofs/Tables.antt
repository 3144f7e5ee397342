-- From the parts of a table to the table.
use Rattle.std.specs.Prelude.{◌≡◌, ℕ, List, [], map, None, Ok, is_some}
use Rattle.std.proofs.Common.{ap, inl, inr, sym, subst, ◌∙◌}
use Rattle.std.proofs.lemmas.Bool.{cases_Bool, cond-true, cond-false}
use Rattle.byte_ranges.specs.Lists.{◌>>=◌}
use Rattle.slot_codec.specs.Choice.{Chosen, slot_in_use, chosen, digests_in, plain, records_of, table_of, table_with}
use Rattle.slot_codec.specs.Spelling.{has_digests}
use Rattle.slot_codec.specs.declared.codec.Record.{Record}
use Rattle.slot_codec.proofs.StepLaws.{bind_ok, from_ok}
use Rattle.slot_pair.specs.Finding.{Refuses, chosen_of}
use Rattle.slot_pair.specs.declared.find.SlotFault.{SlotFault}
use Rattle.slot_pair.proofs.RefusalLaws.{by_records, refuses_on, with_records}
use Rattle.plain_layout.specs.Refusals.{RefusesBy, behind}
use Rattle.plain_layout.specs.Opened.{IsReadFrom, RefusesToOpen}
use Rattle.plain_layout.specs.declared.opened.Opened.{Opened}
use Rattle.plain_layout.specs.declared.opened.Refusal.{Refusal}
use Rattle.plain_layout.specs.declared.opened.Refusal.TheVariants as refusal
use Rattle.plain_layout.proofs.Reading.{refuses_by_on}

-- a refusal to find the slot in use
pub no_slot : (file : List ℕ) (why : SlotFault) → Refuses (slot_in_use file) why → Refuses (chosen file) why
no_slot file why h = refuses_on (slot_in_use file) _ why h

-- a refusal of its records
pub no_records : (file : List ℕ) (c : Chosen) (why : Refusal) → chosen file ≡ Ok c
    → RefusesBy (records_of file c) why → RefusesBy (table_of file) why
no_records file c why h bad = subst (λ x. RefusesBy x why) (sym (by_records file c h))
    (refuses_by_on (records_of file c) (with_records c) why bad)

-- a file whose table is refused isn't opened
pub no_table : (classes size_max : ℕ) (file : List ℕ) (why : Refusal) → RefusesBy (table_of file) why
    → RefusesToOpen classes size_max file why
no_table classes size_max file (refusal.Slot f) h = h
no_table classes size_max file (refusal.Rule number at) h = absurd h
no_table classes size_max file refusal.NoMemory h = h

-- there are digests where the version has them
are_digested : (version : ℕ) (rs : List Record) → is_some (digests_in version rs) ≡ has_digests version
are_digested version rs = elim (cases_Bool (has_digests version)) [
  | inl is ↦ ap is_some (cond-true (has_digests version) _ None is) ∙ sym is
  | inr other ↦ ap is_some (cond-false (has_digests version) _ None other) ∙ sym other
]

-- the table
pub a_table : (file : List ℕ) (o : Opened) → chosen file ≡ Ok (chosen_of o.found o.table.header)
    → behind [] (records_of file (chosen_of o.found o.table.header)) ≡ Ok o.table.records.items
    → IsReadFrom file o
unfolding with_records
a_table file o h good =
    let c = chosen_of o.found o.table.header in
    let read = bind_ok (records_of file c) (λ rest. Ok (map plain rest)) o.table.records.items good in
    let same : map plain read.0 ≡ o.table.records.items = from_ok
    (map plain read.0) o.table.records.items read.2 in
    record {
      digests = digests_in o.table.header.version read.0;
      digested = are_digested o.table.header.version read.0;
      read = by_records file c h ∙ ap (λ x. x >>= with_records c) read.1
          ∙ ap (λ rs. Ok (record (table_with c read.0) { records = rs })) same;
    }
