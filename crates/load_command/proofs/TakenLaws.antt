-- A file that opens has bytes, and a load of one that has bytes ends so.
use Rattle.std.specs.Prelude.{◌≡◌, ◌⊎◌, ◌<◌, ℕ, List, length, Result, Ok, Err, refl}
use Rattle.std.proofs.Common.{arith, ap, inl, inr}
use Rattle.slot_codec.proofs.ChoiceLaws.{chosen_long, table_chosen}
use Rattle.map_model.specs.Maps.{Map}
use Rattle.segment_layout.specs.Books.{Book}
use Rattle.load_stream.specs.Saved.{OpensFor}
use Rattle.command_face.specs.declared.stop.StopReason.{StopReason}
use Rattle.command_face.specs.declared.stop.StopReason.TheVariants as stop
use Rattle.load_command.specs.Ends.{IsBegunAt}

pub opened_long : (k names : ℕ) (file : List ℕ) (m : Map) (b : Book) → OpensFor k names file m b
    → 0 < length file
opened_long k names file m b o =
    omega (arith, chosen_long file o.table.chosen (table_chosen file o.table o.opens.read).0)

pub taken_again : (size : ℕ) (end : Result (Unit {0}) StopReason) → 0 < size → IsBegunAt size end
    → (end ≡ Err (stop.Taken size)) ⊎ (end ≡ Err stop.Disk)
taken_again size (Err (stop.Taken n)) some is = inl (ap (λ (i : ℕ). Err (stop.Taken i)) is.0)
taken_again size (Err stop.Disk) some is = inr refl
taken_again size (Ok done) some is = absurd (omega (arith, some, is))
taken_again size (Err reason) some is = absurd (omega (arith, some, is))
