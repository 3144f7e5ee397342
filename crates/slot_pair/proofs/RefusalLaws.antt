-- Refusals that go on, and from the parts of a table to the table.
use Rattle.std.specs.Prelude.{◌≡◌, refl, ℕ, List, Result, Ok}
use Rattle.std.proofs.Common.{ap, sym, subst, ◌∙◌}
use Rattle.byte_ranges.specs.Lists.{◌>>=◌}
use Rattle.slot_codec.specs.Choice.{SlotRefusal, Chosen, SlotTable, chosen, records_of, table_of, table_with}
use Rattle.slot_codec.specs.declared.codec.Record.{Record}
use Rattle.slot_pair.specs.Finding.{Refuses}
use Rattle.slot_pair.specs.declared.find.SlotFault.{SlotFault}
use Rattle.slot_pair.specs.declared.find.SlotFault.TheVariants as fault

-- what is refused stays refused when one goes on
pub refuses_on : {A B : Type 0} (r : Result A SlotRefusal) (f : A → Result B SlotRefusal) (why : SlotFault)
    → Refuses r why → Refuses (r >>= f) why
refuses_on r f fault.Disk h = h
refuses_on r f fault.Short h = ap (λ x. x >>= f) h
refuses_on r f fault.Unformatted h = ap (λ x. x >>= f) h
refuses_on r f fault.NoGate h = ap (λ x. x >>= f) h
refuses_on r f fault.SameSequence h = ap (λ x. x >>= f) h
refuses_on r f (fault.Codec g at) h = ap (λ x. x >>= f) h

unfoldable pub with_records : Chosen → List Record → Result SlotTable SlotRefusal
with_records c rs = Ok (table_with c rs)

unfoldable pub of_chosen : List ℕ → Chosen → Result SlotTable SlotRefusal
of_chosen file c = records_of file c >>= with_records c

by_chosen : (file : List ℕ) → table_of file ≡ (chosen file >>= of_chosen file)
unfolding table_of of_chosen with_records
by_chosen file = refl

-- a refusal of its header
pub no_header : (file : List ℕ) (why : SlotFault) → Refuses (chosen file) why → Refuses (table_of file) why
no_header file why h = subst (λ x. Refuses x why) (sym (by_chosen file))
    (refuses_on (chosen file) (of_chosen file) why h)

-- and else by its records
pub by_records : (file : List ℕ) (c : Chosen) → chosen file ≡ Ok c
    → table_of file ≡ (records_of file c >>= with_records c)
unfolding of_chosen
by_records file c h = by_chosen file ∙ ap (λ x. x >>= of_chosen file) h
