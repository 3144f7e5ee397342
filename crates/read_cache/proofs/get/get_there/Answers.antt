use Rattle.std.specs.Prelude.{is_some, refl}
use Rattle.std.proofs.Common.{ap, arith, sym}
use Rattle.std.proofs.lemmas.Bool.{lt-ltb}
use Rattle.std.specs.FinMap as fin
use Rattle.store_model.specs.Answers.{size_at}
use Rattle.store_model.specs.Connection.{state_of}
use Rattle.store_model.specs.States.{object_in}
use Rattle.read_cache.specs.Coherence.{IsHeld}
use Rattle.read_cache.specs.Lists.{longest}
use Rattle.read_cache.proofs.GetLaws.{found_now, held_is, hit_got, hit_new, hit_object, hit_old, hit_puts, lists_hit, lists_passed, long_now, read_put, read_size}
use Rattle.read_cache.proofs.ListLaws.{found_pair}
use Rattle.read_cache.proofs.get.get_there.Goals as goal
use Rattle.disk_face.proofs.FrameLaws.{unchanged_itself}

pub give-requires : goal.give-requires
give-requires g c = record {
  listed = ap is_some (hit_new c.args.name.now c.args.recent.now c.hit.new.self c.if-hit.ensures.found
      c.if-hit.ensures.list);
}

pub returns-then-hit-clause-read : goal.returns-then-hit-clause-read
returns-then-hit-clause-read g c =
    let s = c.args.store.now in
    let name = c.args.name.now in
    let a = g.D.Disk.state c.args.disk.now in
    let out = g.O.Sink.state c.args.sink.now in
    let after = g.O.Sink.state c.give.new.sink in
    let old = c.args.recent.now in
    let new = c.hit.new.self in
    let found = found_now s name c.requires.served c.requires.sound in
    let bytes = hit_object name old new c.if-hit.ensures.found c.if-hit.ensures.list in
    let held = found_pair (IsHeld s a) name bytes old.pairs (c.requires.coherent found.1.whole)
    (hit_old name old new c.if-hit.ensures.found c.if-hit.ensures.list) in
    read_put s name found.0 found.1 a a bytes out after c.give.result held.long
    (held_is s a name bytes found.0 found.1 c.requires.sound held) (unchanged_itself a c.requires.ready) refl
    (hit_puts name old new c.if-hit.ensures.found c.if-hit.ensures.list out after c.give.result
    c.give.ensures.got c.give.ensures.only c.give.ensures.puts c.give.ensures.cause)

pub returns-then-hit-clause-list : goal.returns-then-hit-clause-list
returns-then-hit-clause-list g c =
    let s = c.args.store.now in
    let name = c.args.name.now in
    let a = g.D.Disk.state c.args.disk.now in
    let old = c.args.recent.now in
    let new = c.hit.new.self in
    let found = found_now s name c.requires.served c.requires.sound in
    let bytes = hit_object name old new c.if-hit.ensures.found c.if-hit.ensures.list in
    let held = found_pair (IsHeld s a) name bytes old.pairs (c.requires.coherent found.1.whole)
    (hit_old name old new c.if-hit.ensures.found c.if-hit.ensures.list) in
    lists_hit name (object_in (state_of s a.file).map name) old new bytes c.give.result
    (hit_old name old new c.if-hit.ensures.found c.if-hit.ensures.list)
    (λ told. (held_is s a name bytes found.0 found.1 c.requires.sound held told).same) c.if-hit.ensures.list
    (hit_got name old new c.if-hit.ensures.found c.if-hit.ensures.list c.give.result c.give.ensures.got)
    c.give.ensures.only

pub returns-then-size_of-gt-LONGEST-clause-list : goal.returns-then-size_of-gt-LONGEST-clause-list
returns-then-size_of-gt-LONGEST-clause-list g c =
    let s = c.args.store.now in
    let name = c.args.name.now in
    let a = g.D.Disk.state c.args.disk.now in
    let old = c.args.recent.now in
    let found = found_now s name c.requires.served c.requires.sound in
    let size = size_at (fin.get s.now name) in
    lists_passed name (object_in (state_of s a.file).map name) old c.hit.new.self
    (sym c.if-hit.ensures.found)
    a.tells size c.pass.result (long_now s a name found.0 found.1 c.requires.sound c.requires.over)
    (read_size s name size c.pass.result c.requires.served c.pass.ensures.read.answer) c.pass.ensures.got
    (lt-ltb longest size (omega (arith, c.size_of.ensures, c.if-size_of-gt-LONGEST.true)))
    c.if-hit.ensures.list
