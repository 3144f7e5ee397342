use Rattle.std.proofs.Common.{ap, arith, sym, subst, ◌∙◌}
use Rattle.std.proofs.lemmas.Grind.{common_steps}
use Rattle.reopen.specs.Loads.{IsLoadedFrom, KeepsLoaded}
use Rattle.reopen.proofs.state.read_state.Goals as goal

pub returns-in-Ok-clause-opened : goal.returns-in-Ok-clause-opened
returns-in-Ok-clause-opened g c = λ told.
    subst (λ x. IsLoadedFrom (g.D.Disk.state c.args.disk.now).file x) (sym c.state_of.ensures.same)
    (c.in-Ok.ensures.opened told)

pub returns-in-Ok-clause-state : goal.returns-in-Ok-clause-state
returns-in-Ok-clause-state g c =
    let said = c.state_of.ensures in
    record {
      same_kind = ap (λ x. x.header.kind) said.same ∙ sym said.kind;
      loaded = subst (λ x. KeepsLoaded x) (sym said.same) c.in-Ok.ensures.loaded;
    }

pub returns-in-Err : goal.returns-in-Err
returns-in-Err g c = grind (arith, common_steps)
