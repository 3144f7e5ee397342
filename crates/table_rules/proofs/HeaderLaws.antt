-- The rules of a table don't speak of all numbers of its header, nor of the length of the data part.
use Rattle.std.specs.Prelude.{ℕ}
use Rattle.slot_codec.specs.declared.codec.Kind.{Kind}
use Rattle.table_rules.specs.Tables.{TableInLayout}
use Rattle.table_rules.specs.Rules.{KeepsPlaces}
use Rattle.table_rules.specs.Suffixes.{KeepsBelow}

-- a table with other numbers in its header, and with another length
abbrev pub renumbered : ℕ → ℕ → ℕ → ℕ → TableInLayout → TableInLayout
renumbered version sequence count len t = record t {
  data_len = len;
  header = record t.header { version = version; sequence = sequence; count = count };
}

pub places_renumbered : (version sequence count len : ℕ) (t : TableInLayout) → KeepsPlaces t
    → KeepsPlaces (renumbered version sequence count len t)
places_renumbered version sequence count len t p = record {
  sizes = p.sizes;
  empty = p.empty;
  above = p.above;
  rows = p.rows;
  stands = p.stands;
  apart = p.apart;
  balance = λ c h. record { buffers = (p.balance c h).buffers; payload = (p.balance c h).payload };
  full = λ c h. record { entry = (p.full c h).entry; full = (p.full c h).full };
}

-- what a table keeps of the classes below one isn't seen in its kind and in the numbers of a flush either
pub below_rekinded : (version : ℕ) (kind : Kind) (boundary sequence count wall slack len b : ℕ)
    (t : TableInLayout) → KeepsBelow b t → KeepsBelow b (record t {
      data_len = len;
      header = record t.header {
        version = version;
        kind = kind;
        boundary = boundary;
        sequence = sequence;
        count = count;
        wall = wall;
        slack = slack;
      };
    })
below_rekinded version kind boundary sequence count wall slack len b t keeps = record {
  sizes = keeps.sizes;
  empty = keeps.empty;
  lower = keeps.lower;
  rows = keeps.rows;
  stands = keeps.stands;
  apart = keeps.apart;
  balance = λ c low. record {
    buffers = (keeps.balance c low).buffers;
    payload = (keeps.balance c low).payload;
  };
  full = λ c low. record { entry = (keeps.full c low).entry; full = (keeps.full c low).full };
}
