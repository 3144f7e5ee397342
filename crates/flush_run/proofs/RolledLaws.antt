-- What a save of a table leaves: its records with their digests, which they don't have in version 1.
use Rattle.std.specs.Prelude.{◌≡◌, length}
use Rattle.std.proofs.lemmas.List.{length-map}
use Rattle.slot_codec.specs.Choice as choice
use Rattle.slot_codec.specs.declared.codec.Header.{Header}
use Rattle.slot_pair.specs.Saves.{next_chosen}
use Rattle.extent_table.specs.Extents.{Extents, IsTable, Spots, records_of, rolled, with_digest}
use Rattle.extent_table.proofs.RollLaws.{rolled-plain, rolled-seen}
use Rattle.flush_run.specs.Saves.{saved_table}

pub rolled_count : (now : Spots) (digests : choice.Digests)
    → length (rolled now digests) ≡ length (records_of now)
rolled_count now digests = length-map (records_of now) (with_digest digests)

-- the table that a save writes, in each version
pub rolled_table_is : (u : choice.InUse) (h : Header) (e : Extents) → IsTable e
    → choice.table_with (next_chosen u h (length (rolled e.now e.digests))) (rolled e.now e.digests)
    ≡ saved_table u h e
rolled_table_is u h e table = λ i. record {
  chosen = next_chosen u h (length (rolled e.now e.digests));
  records = rolled-plain e.now e.digests i;
  digests = rolled-seen h.version e table i;
}
