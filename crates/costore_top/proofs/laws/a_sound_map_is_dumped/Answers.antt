use Rattle.std.proofs.Common.{refl}
use Rattle.disk_face.specs.Devices.{devices}
use Rattle.costore_top.proofs.DumpLaws.{sound_dumped}
use Rattle.costore_top.proofs.laws.a_sound_map_is_dumped.Goals as goal

pub returns : goal.returns
returns g c = λ m b file status old new out after opens sound.
    sound_dumped m b (g.B.Disk.state old).file opens file status
    (devices (g.B.Disk.state old) (g.O.Sink.state out)) (devices (g.B.Disk.state new) (g.O.Sink.state after))
    refl sound
