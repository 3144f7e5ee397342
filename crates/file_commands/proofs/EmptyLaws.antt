-- What is no store opens to nothing, and a file of a format that stopped is none or opens to the empty map.
use Rattle.std.specs.Prelude.{◌≡◌, ℕ, List, IsErr}
use Rattle.std.proofs.Common.{subst, inl, inr}
use Rattle.size_class.specs.declared.TheConstants.{CLASSES, SIZE_MAX}
use Rattle.slot_codec.proofs.ChoiceLaws.{table_chosen}
use Rattle.slot_pair.specs.Formats.{IsNoStore, IsNoStoreOrEmpty}
use Rattle.map_model.specs.Maps.{Map}
use Rattle.segment_layout.specs.Books.{Book}
use Rattle.table_rules.specs.Opening.{Opens}
use Rattle.dump_stream.proofs.FirstLaws.{first_opens}
use Rattle.file_commands.specs.Formatting.{IsNoneOrEmpty}

pub none_opens : (file : List ℕ) (m : Map) (b : Book) → IsNoStore file → Opens CLASSES SIZE_MAX file m b → ⊥
none_opens file m b none opens =
    let is = (table_chosen file opens.table opens.opens.read).0 in
    absurd (let e = subst IsErr is none in cc)

pub none_or_empty : (k names : ℕ) (file : List ℕ) → IsNoStoreOrEmpty k names file → IsNoneOrEmpty k names file
none_or_empty k names file (inl none) = inl none
none_or_empty k names file (inr first) =
    inr (record { table = first; opens = first_opens k names file first })
