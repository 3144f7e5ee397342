use Rattle.std.proofs.Common.{arith, rules, sym, subst, ◌≡◌, ◌∙◌, ◌+◌, ◌≤◌, IsTrue, Err, Ok, List, ℕ, length, take}
use Rattle.std.proofs.lemmas.List.{length-map}
use Rattle.std.specs.FinMap as fin
use Rattle.disk_face.proofs.FrameLaws.{Unchanged-trans}
use Rattle.extent_table.specs.Extents.{digests_seen}
use Rattle.dump_stream.specs.Dumps.{object_text}
use Rattle.dump_stream.specs.Dumping.{GathersIfSound, is_spoilt, read_entries, read_entry}
use Rattle.dump_stream.proofs.PutLaws.{read_at_entry, spot_of_entry}
use Rattle.dump_stream.proofs.SoundLaws.{gathered_next, put_all, sound_next, stopped}
use Rattle.dump_stream.proofs.putting.put_objects.Goals as goal

pub gather_object-requires-clause-range : goal.gather_object-requires-clause-range
gather_object-requires-clause-range g c =
    c.requires.table.now_in_range c.in_order-name.result.1 c.in_order-name.result.2
    (spot_of_entry c.args.table.now.now c.names.n c.in_order-name.result.1 c.in_order-name.result.2
    c.in_order-name.ensures.entry)

pub gather_object-requires-clause-within : goal.gather_object-requires-clause-within
gather_object-requires-clause-within g c = λ here.
    let told : IsTrue (g.D.Disk.state c.args.disk.now).tells =
    grind (arith, c.names.invariant.frame.stays.told) in
    let spot = c.in_order-name.result.2 in
    subst (λ (file : List ℕ). c.args.base + spot.place + spot.size ≤ length file)
    (sym (c.names.invariant.frame.same_file told))
    (c.requires.within told c.in_order-name.result.1 spot
    (spot_of_entry c.args.table.now.now c.names.n c.in_order-name.result.1 spot
    c.in_order-name.ensures.entry))

pub returns-in_err-held-clause-puts : goal.returns-in_err-held-clause-puts
returns-in_err-held-clause-puts g c = λ told.
    let here : IsTrue (g.D.Disk.state c.names.disk).tells =
    grind (arith, c.names.invariant.frame.stays.told) in
    let name = c.in_order-name.result.1 in
    let spot = c.in_order-name.result.2 in
    let file = (g.D.Disk.state c.args.disk.now).file in
    let digests = digests_seen c.args.version c.args.table.now.digests in
    let e = read_entry c.args.base file (name, spot) in
    let why = c.in_err-held.field-0.0 in
    let is : c.from_residual.result ≡ Err why = search rules in
    let one : GathersIfSound (is_spoilt digests e) (take c.names.held c.names.buf) (object_text e)
    (g.O.Sink.state c.names.output) (g.O.Sink.state c.gather_object.new.output) c.gather_object.new.buf
    (Err why) =
    rw (c.digest_for-digest.ensures, c.names.invariant.frame.same_file told) at
    c.in_err-held.ensures.gathers here
    in
    rw is (stopped digests (read_entries c.args.base file c.args.table.now.now)
    (g.O.Sink.state c.args.output.now) (g.O.Sink.state c.names.output) c.names.n
    (take c.names.held c.names.buf) c.names.invariant.sink_told (c.names.invariant.gathered told)
    (c.names.invariant.sound told) e
    (read_at_entry c.args.base file c.args.table.now.now c.names.n name spot c.in_order-name.ensures.entry)
    (g.O.Sink.state c.gather_object.new.output) c.gather_object.new.buf why one)

pub names-preserved : goal.names-preserved
names-preserved g c =
    let name = c.in_order-name.result.1 in
    let spot = c.in_order-name.result.2 in
    let file = (g.D.Disk.state c.args.disk.now).file in
    let digests = digests_seen c.args.version c.args.table.now.digests in
    let es = read_entries c.args.base file c.args.table.now.now in
    let e = read_entry c.args.base file (name, spot) in
    let is = read_at_entry c.args.base file c.args.table.now.now c.names.n name spot
    c.in_order-name.ensures.entry in
    let here : IsTrue (g.D.Disk.state c.args.disk.now).tells → IsTrue (g.D.Disk.state c.names.disk).tells =
    λ told. grind (arith, c.names.invariant.frame.stays.told) in
    let one : IsTrue (g.D.Disk.state c.args.disk.now).tells
    → GathersIfSound (is_spoilt digests e) (take c.names.held c.names.buf) (object_text e)
    (g.O.Sink.state c.names.output) (g.O.Sink.state c.gather_object.new.output) c.gather_object.new.buf
    (Ok c.in_ok-held.held) =
    λ told. rw (c.digest_for-digest.ensures, c.names.invariant.frame.same_file told)
    at c.in_ok-held.ensures.gathers (here told) in
    record {
      gathered = λ told. gathered_next digests es (g.O.Sink.state c.args.output.now)
          (g.O.Sink.state c.names.output) c.names.n (take c.names.held c.names.buf)
          c.names.invariant.sink_told (c.names.invariant.gathered told) (c.names.invariant.sound told) e is
          (g.O.Sink.state c.gather_object.new.output) c.gather_object.new.buf c.in_ok-held.held
          (one told);
      within = c.in_ok-held.ensures.within;
      sound = λ told. sound_next digests es c.names.n e is (c.names.invariant.sound told) (one told).sound;
      frame = Unchanged-trans c.names.invariant.frame c.gather_object.ensures.frame;
      calm = c.in_ok-held.ensures.causes.disk_cause.calm (λ is. absurd (cc))
          ∙ c.names.invariant.calm;
      sink_calm = c.in_ok-held.ensures.causes.sink_cause.calm (λ is. absurd (cc))
          ∙ c.names.invariant.sink_calm;
      sink_told = c.in_ok-held.ensures.causes.sink_cause.told ∙ c.names.invariant.sink_told;
      room = c.gather_object.ensures.room ∙ c.names.invariant.room;
    }

pub returns-clause-puts : goal.returns-clause-puts
returns-clause-puts g c = λ told.
    let file = (g.D.Disk.state c.args.disk.now).file in
    let es = read_entries c.args.base file c.args.table.now.now in
    put_all (digests_seen c.args.version c.args.table.now.digests) es (g.O.Sink.state c.args.output.now)
    (g.O.Sink.state c.names.output) c.names.n (take c.names.held c.names.buf) c.names.invariant.sink_told
    (c.names.invariant.gathered told) (c.names.invariant.sound told) (g.O.Sink.state c.put_whole.new.sink)
    c.put_whole.result c.put_whole.ensures.only.0 (omega (
      arith,
      length-map (fin.entries c.args.table.now.now) (read_entry c.args.base file),
      fin.len-entries c.args.table.now.now,
      c.names-test.false,
      c.count-n-end.ensures.value,
    )) c.put_whole.ensures.put
