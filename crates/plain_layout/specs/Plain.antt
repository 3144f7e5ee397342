-- The table of the program as the rules see it.
use Rattle.plain_layout.specs.declared.table.Table.{Table}
use Rattle.table_rules.specs.Tables.{TableInLayout}

abbrev pub placed : Table → TableInLayout
placed t =
    record {
      classes = t.classes;
      size_max = t.size_max;
      k = t.k;
      data_len = t.data_len;
      header = t.header;
      records = t.records.items;
    }
