-- The input was read and applied, or couldn't be read.
use Rattle.std.proofs.Common.{inl, inr, refl, subst, take, ℕ}
use Rattle.batch_command.specs.Reading.{LeavesFrom, ReadsFront}
use Rattle.batch_command.proofs.batch.apply_input.Goals as goal
use Rattle.disk_face.proofs.FrameLaws.{unchanged_itself}

pub returns-in-Ok : goal.returns-in-Ok
returns-in-Ok g c = inr (record {
  text = _;
  read = record {
    told = c.in-Ok.ensures.told;
    calm = c.in-Ok.ensures.cause.calm;
    front = λ told. subst (λ (k : ℕ). ReadsFront k (g.I.Source.state c.args.input.now).left
        (g.I.Source.state c.read_text.new.input).left (take c.in-Ok.n c.read_text.new.text)) c.requires.room
        (c.in-Ok.ensures.read told);
  };
  applied = c.apply_text.ensures;
})

pub returns-in-Err : goal.returns-in-Err
returns-in-Err g c = inl (record {
  unread = record {
    told = c.in-Err.ensures.told;
    later = c.in-Err.ensures.cause.later;
    rose = c.in-Err.ensures.cause.rose;
    front = λ told. subst (λ (k : ℕ). LeavesFrom k (g.I.Source.state c.args.input.now).left
        (g.I.Source.state c.read_text.new.input).left) c.requires.room (c.in-Err.ensures.front told);
  };
  disk = record {
    frame = unchanged_itself (g.D.Disk.state c.args.disk.now) c.requires.ready;
    calm = refl;
  };
  ended = refl;
  nothing = refl;
})
