use Rattle.std.proofs.Common.{rules, subst, refl, ap}
use Rattle.segment_layout.specs.Books.{with_digests}
use Rattle.plain_layout.specs.Plain.{placed}
use Rattle.table_rules.specs.Tables.{book_of}
use Rattle.plain_layout.specs.Opened.{table_seen}
use Rattle.plain_layout.proofs.Tables.{no_table}
use Rattle.table_rules.specs.Rules.{FirstBroken, IsValid}
use Rattle.plain_layout.proofs.opened.open.Goals as goal

pub returns-in_err-opened-clause-refused : goal.returns-in_err-opened-clause-refused
returns-in_err-opened-clause-refused g c =
    let all = no_table c.args.classes c.args.size_max (g.D.Disk.state c.args.disk.now).file
    c.in_err-opened.field-0.0 c.in_err-opened.ensures.refused in
    search rules

pub returns-in-Some-clause-refused : goal.returns-in-Some-clause-refused
returns-in-Some-clause-refused g c =
    record {
      table = table_seen c.in_ok-opened.opened c.in_ok-opened.ensures.read.digests;
      read = c.in_ok-opened.ensures.read.read;
      first = subst (λ t. FirstBroken t c.in-Some.number c.in-Some.at) c.in_ok-opened.ensures.placed
          c.in-Some.ensures.first;
    }

pub returns-in-None-clause-opens : goal.returns-in-None-clause-opens
returns-in-None-clause-opens g c =
    let o = c.in_ok-opened in
    let valid : IsValid (placed o.opened.table) = c.in-None.ensures.valid.0 refl in
    record {
      table = o.ensures.read;
      opens = record {
        read = o.ensures.read.read;
        valid = subst IsValid o.ensures.placed valid;
        same_map = refl;
        same_book = ap (λ t. with_digests o.ensures.read.digests (book_of t)) o.ensures.placed;
      };
    }
