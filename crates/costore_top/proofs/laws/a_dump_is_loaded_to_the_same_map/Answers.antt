use Rattle.disk_face.specs.Devices.{devices}
use Rattle.costore_top.proofs.DumpLaws.{loaded_back}
use Rattle.costore_top.proofs.laws.a_dump_is_loaded_to_the_same_map.Goals as goal

pub returns : goal.returns
returns g c = λ m b file k names old new from rest out after others told opens.
    loaded_back m b file opens k names (g.O.Sink.state out) (g.O.Sink.state after)
    (devices (g.B.Disk.state old) (g.O.Sink.state others))
    (devices (g.B.Disk.state new) (g.O.Sink.state told)) (g.I.Source.state from) (g.I.Source.state rest)
