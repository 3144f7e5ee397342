-- The store is asked for the bytes of the name, which are the name.
use Rattle.std.specs.Prelude.{◌≡◌, ◌≤◌, [], List, ℕ, Err, None, length, take}
use Rattle.std.proofs.Common.{arith, ◌∙◌, subst, sym}
use Rattle.std.proofs.lemmas.List.{length-take}
use Rattle.std.specs.FinMap as fin
use Rattle.disk_face.specs.Devices.{devices}
use Rattle.map_model.specs.Requests as ask
use Rattle.store_model.specs.Answers.{refused_by, size_at}
use Rattle.store_model.specs.Readings.{IsRead}
use Rattle.read_cache.specs.Gets.{size_got}
use Rattle.read_cache.proofs.GetLaws.{entered_size, fetched_are, fetched_size, found_now, read_put, read_stopped}
use Rattle.read_cache.proofs.get.take_in.Goals as goal

pub returns-in-Ok-clause-read : goal.returns-in-Ok-clause-read
returns-in-Ok-clause-read g c =
    let s = c.args.store.now in
    let name = c.as_bytes.result.now in
    let a = g.D.Disk.state c.args.disk.now in
    let d = g.D.Disk.state c.fetch.new.disk in
    let out = g.O.Sink.state c.args.sink.now in
    let after = g.O.Sink.state c.put_and_enter.new.sink in
    let bytes : List ℕ = take c.in-Ok.size c.fetch.new.out in
    let served : refused_by s (ask.get name) ≡ None = subst (λ (n : List ℕ). refused_by s (ask.get n) ≡ None)
    (sym c.as_bytes.ensures.value) c.requires.served in
    let found = found_now s name served c.requires.sound in
    let size : c.in-Ok.size ≡ size_at (fin.get s.now name) = fetched_size (refused_by s (ask.get name))
    (size_at (fin.get s.now name)) c.in-Ok.size served c.in-Ok.ensures.answer in
    let small : size_at (fin.get s.now name) ≤ 4096 = subst (λ (n : List ℕ). size_at (fin.get s.now n) ≤ 4096)
    (sym c.as_bytes.ensures.value) c.requires.small in
    let long : length bytes ≡ c.in-Ok.size = omega (
      arith,
      length-take c.in-Ok.size c.fetch.new.out,
      size,
      small,
    ) in
    subst (λ (n : List ℕ). IsRead (ask.get n) [] s s (devices a out) (devices d after)
    (size_got c.put_and_enter.result)) c.as_bytes.ensures.value
    (read_put s name found.0 found.1 a d bytes out after c.put_and_enter.result (long ∙ size)
    (λ told. fetched_are s name bytes found.0 found.1 a (c.in-Ok.ensures.fetched found.1.whole told)
    (c.in-Ok.ensures.judged found.1.whole told served).fine)
    c.in-Ok.ensures.frame (c.in-Ok.ensures.disk_cause.calm (λ is. absurd (cc)))
    (record {
      size = entered_size bytes c.put_and_enter.result c.put_and_enter.ensures.got;
      only = c.put_and_enter.ensures.only;
      puts = c.put_and_enter.ensures.puts;
      cause = c.put_and_enter.ensures.cause;
    }))

pub returns-in-Err-clause-read : goal.returns-in-Err-clause-read
returns-in-Err-clause-read g c =
    let s = c.args.store.now in
    let name = c.as_bytes.result.now in
    let a = g.D.Disk.state c.args.disk.now in
    let d = g.D.Disk.state c.fetch.new.disk in
    let out = g.O.Sink.state c.args.sink.now in
    let served : refused_by s (ask.get name) ≡ None = subst (λ (n : List ℕ). refused_by s (ask.get n) ≡ None)
    (sym c.as_bytes.ensures.value) c.requires.served in
    let found = found_now s name served c.requires.sound in
    subst (λ (n : List ℕ). IsRead (ask.get n) [] s s (devices a out) (devices d out) (Err c.in-Err.refusal))
    c.as_bytes.ensures.value
    (read_stopped s name found.0 found.1 a d out c.in-Err.refusal c.in-Err.ensures.answer
    (λ told. c.in-Err.ensures.judged found.1.whole told served) c.in-Err.ensures.frame
    c.in-Err.ensures.disk_cause)
