use Rattle.std.specs.Prelude.{[]}
use Rattle.run_command.proofs.ServedLaws.{all_served}
use Rattle.run_command.proofs.laws.requests_are_served.Goals as goal

pub returns : goal.returns
returns g c = λ t m b file requests o old new from rest out after opens asks few runs so mount there
    calm
    source_calm sink_calm.
    all_served requests (runs t m b requests [] opens asks) file few so.keeps mount there calm
    source_calm
    sink_calm
