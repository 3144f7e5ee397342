use Rattle.std.proofs.Common.{rules, ap, sym, subst, ◌≡◌, ◌∙◌, ◌++◌, Err, List, ℕ}
use Rattle.std.specs.Prelude.{codes}
use Rattle.std.specs.FinMap as fin
use Rattle.size_class.specs.Rows.{cells_of}
use Rattle.slot_codec.specs.Spelling.{head_len}
use Rattle.map_model.specs.Weights.{Entry}
use Rattle.extent_table.specs.Extents.{digests_seen}
use Rattle.placement_model.specs.Reads.{EndWithin, read_at}
use Rattle.dump_stream.specs.Dumping.{PutsSound, read_entries}
use Rattle.dump_stream.specs.Dumps.{dump_line}
use Rattle.dump_stream.specs.Heads.{head_line}
use Rattle.dump_stream.proofs.DumpLaws.{line_is}
use Rattle.dump_stream.proofs.SoundLaws.{cut_in_line, put_behind}
use Rattle.dump_stream.proofs.putting.dump_table.Goals as goal
use Rattle.placement_model.proofs.EntryLaws.{entries-read_at}

pub put_objects-requires-clause-within : goal.put_objects-requires-clause-within
put_objects-requires-clause-within g c = λ told.
    subst (λ (base : ℕ). EndWithin base (g.D.Disk.state c.args.disk.now).file c.args.table.now.now)
    (sym c.head_len.ensures) (c.requires.within told)

pub returns-in_err-put_whole-clause-puts : goal.returns-in_err-put_whole-clause-puts
returns-in_err-put_whole-clause-puts g c = λ told.
    let file = (g.D.Disk.state c.args.disk.now).file in
    let spots = c.args.table.now.now in
    let base = head_len c.args.names in
    let m = read_at base file spots in
    let is : c.from_residual.result ≡ Err c.in_err-put_whole.field-0.0 = search rules in
    let line : c.as_slice.result.now ≡ dump_line g.row.C m =
    line_is g.row.C base file c.as_slice.result.now spots c.requires.table.now_named (c.requires.within told)
    (c.as_slice.ensures.value ∙ c.write_head.ensures
    ∙ ap (λ (n : ℕ). head_line g.row.C n (cells_of c.head_of-head.result.volumes) ++ codes "\n")
    c.head_of-head.ensures.count
    ∙ ap (λ (vs : List ℕ). head_line g.row.C (fin.len spots) vs ++ codes "\n") c.head_of-head.ensures.volumes)
    in
    rw is (cut_in_line g.row.C (digests_seen c.args.version c.args.table.now.digests) m
    (g.O.Sink.state c.args.output.now) (g.O.Sink.state c.put_whole.new.sink)
    (Err c.in_err-put_whole.field-0.0) (search rules) c.in_err-put_whole.ensures.only.0
    (rw line at c.in_err-put_whole.ensures.put))

pub returns-clause-puts : goal.returns-clause-puts
returns-clause-puts g c = λ told.
    let file = (g.D.Disk.state c.args.disk.now).file in
    let spots = c.args.table.now.now in
    let base = head_len c.args.names in
    let m = read_at base file spots in
    let line : c.as_slice.result.now ≡ dump_line g.row.C m =
    line_is g.row.C base file c.as_slice.result.now spots c.requires.table.now_named (c.requires.within told)
    (c.as_slice.ensures.value ∙ c.write_head.ensures
    ∙ ap (λ (n : ℕ). head_line g.row.C n (cells_of c.head_of-head.result.volumes) ++ codes "\n")
    c.head_of-head.ensures.count
    ∙ ap (λ (vs : List ℕ). head_line g.row.C (fin.len spots) vs ++ codes "\n") c.head_of-head.ensures.volumes)
    in
    put_behind g.row.C (digests_seen c.args.version c.args.table.now.digests) m
    (g.O.Sink.state c.args.output.now) (g.O.Sink.state c.put_objects.new.output)
    (g.O.Sink.state c.put_whole.new.sink) c.put_objects.result c.put_whole.ensures.cause.told
    (λ sink_told. rw line at (c.in_ok-put_whole.ensures.put sink_told).all)
    (subst (λ (es : List Entry). PutsSound (digests_seen c.args.version c.args.table.now.digests) es
    (g.O.Sink.state c.put_whole.new.sink) (g.O.Sink.state c.put_objects.new.output) c.put_objects.result)
    (ap (λ (b : ℕ). read_entries b file spots) c.head_len.ensures
    ∙ sym (entries-read_at base file spots c.requires.table.now_named))
    (c.put_objects.ensures.puts told))
