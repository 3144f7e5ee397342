use Rattle.std.proofs.Common.{ap, arith, subst, ◌∙◌, List, Option, Some, ℕ}
use Rattle.segment_layout.specs.Books.{differs}
use Rattle.placement_model.specs.Reads.{object_at}
use Rattle.store_model.specs.Connection.{base_of}
use Rattle.store_model.specs.Reads.{IsJudged}
use Rattle.store_model.specs.Readings.{asks_for}
use Rattle.store_model.proofs.ReadLaws.{found_in_range, found_within, read_found, read_refused}
use Rattle.store_model.proofs.ReadingLaws.{is_found, named_if}
use Rattle.store_core.proofs.store.Store.read_behind.Goals as goal

pub put_object-requires : goal.put_object-requires
put_object-requires g c =
    let s = c.args.self.now in
    let m = c.args.moment in
    let name = c.args.name.now in
    let f = is_found s (asks_for m name) c.in-Ok.spot c.in-Ok.ensures.answer c.in-Ok.ensures.standing in (
      omega arith,
      (
        c.requires.ready,
        (
          f.stands,
          (
            found_in_range s f.stands m name c.in-Ok.spot f.there,
            λ told. found_within s (g.D.Disk.state c.args.disk.now) f.stands f.whole
                (c.in-Ok.ensures.sound f.whole) c.requires.over told m name c.in-Ok.spot f.there,
          ),
        ),
      ),
    )

pub returns-in-Ok : goal.returns-in-Ok
returns-in-Ok g c =
    let s = c.args.self.now in
    let m = c.args.moment in
    let name = c.args.name.now in
    let f = is_found s (asks_for m name) c.in-Ok.spot c.in-Ok.ensures.answer c.in-Ok.ensures.standing in
    let digest = c.digest_of_object-digest.ensures.read (named_if s m name f.served f.whole) in
    let object = object_at (base_of s) (g.D.Disk.state c.args.disk.now).file c.in-Ok.spot in
    read_found s (g.D.Disk.state c.args.disk.now) m name c.args.head.now c.in-Ok.spot
    f c.put_object.new.self (g.D.Disk.state c.put_object.new.disk) (g.O.Sink.state c.args.sink.now)
    (g.O.Sink.state c.put_object.new.sink) c.put_object.result c.put_object.ensures.answer
    (λ told. subst (λ (d : Option (List ℕ)). IsJudged d object c.put_object.result) digest
    (c.put_object.ensures.judged.judged told))
    (λ told is. c.put_object.ensures.judged.clean told
    (ap (λ (d : Option (List ℕ)). differs d (Some object)) digest ∙ is))
    c.put_object.ensures.gives c.put_object.ensures.store c.put_object.ensures.frame
    c.put_object.ensures.disk_cause c.put_object.ensures.sink_cause

pub returns-in-Err : goal.returns-in-Err
returns-in-Err g c = read_refused c.args.self.now (g.D.Disk.state c.args.disk.now) c.args.moment
    c.args.name.now c.args.head.now c.in-Err.refusal c.in-Err.ensures.answer c.in-Err.ensures.standing
    c.requires.ready
    (g.O.Sink.state c.args.sink.now)
