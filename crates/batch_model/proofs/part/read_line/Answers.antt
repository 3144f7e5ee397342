use Rattle.std.proofs.Common.{sym, ◌∙◌}
use Rattle.batch_model.proofs.PartLaws.{line_stands, no_ask, no_newline}
use Rattle.batch_model.proofs.part.read_line.Goals as goal

pub returns-in_default : goal.returns-in_default
returns-in_default c = no_newline c.args.text.now cc

pub returns-in-Ok : goal.returns-in-Ok
returns-in-Ok c = (
  c.in-Ok.ensures.read.1,
  line_stands c.args.text.now c.in-Some.end c.in-Ok.ask (sym c.first_newline.ensures ∙ c.in-Some.is)
      c.in-Ok.ensures.read,
)

pub returns-in-Err : goal.returns-in-Err
returns-in-Err c = no_ask c.args.text.now c.in-Some.end (sym c.first_newline.ensures ∙ c.in-Some.is)
    c.in-Err.ensures.fault
