use Rattle.run_command.proofs.run.serve_from.Goals as goal

pub returns-in-Ok : goal.returns-in-Ok
returns-in-Ok g c = c.serve_store.ensures c.args.disk.now c.in-Ok.ensures
