-- A file that opens is read.
use Rattle.std.specs.Prelude.{ℕ, List}
use Rattle.std.proofs.Common.{subst, sym}
use Rattle.slot_codec.specs.Choice as choice
use Rattle.slot_codec.proofs.LoggedLaws.{plain_mark}
use Rattle.map_model.specs.Maps.{Map}
use Rattle.segment_layout.specs.Books.{Book}
use Rattle.table_rules.specs.Opening.{Opens, OpensBy, OpensIn, Reads, ReadsBy}

pub plain_reads_by : (classes size_max : ℕ) (t : choice.SlotTable) (file : List ℕ) (m : Map) (b : Book)
    → OpensBy classes size_max t file m b → ReadsBy classes size_max t file m b
plain_reads_by classes size_max t file m b o =
    subst (λ logged. OpensIn logged classes size_max t file m b) (sym (plain_mark file t o.read)) o

pub plain_reads : (classes size_max : ℕ) (file : List ℕ) (m : Map) (b : Book)
    → Opens classes size_max file m b → Reads classes size_max file m b
plain_reads classes size_max file m b o =
    record { table = o.table; opens = plain_reads_by classes size_max o.table file m b o.opens }
