use Rattle.slot_codec.proofs.EntryBackLaws.{entry_back}
use Rattle.slot_codec.proofs.ReadEntryLaws.{entry_from}
use Rattle.slot_codec.proofs.laws.an_entry_has_one_spelling.Goals as goal

pub returns : goal.returns
returns c = record {
  read = entry_from;
  spelled = λ cap top file at x y bytes long read.
      let r = entry_back cap top file at x y bytes long read in (r.entry, r.fits, r.text, r.is);
}
