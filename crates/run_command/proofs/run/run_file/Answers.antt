use Rattle.std.proofs.Common.{◌≡◌, ◌⊎◌, ◌∙◌, true, ap, sym, subst}
use Rattle.std.specs.Prelude.{IsTrue, false}
use Rattle.disk_face.specs.Devices.{devices}
use Rattle.ask_session.specs.Outside.{held, outside_of, seen_by}
use Rattle.command_face.specs.declared.status.TheConstants.{DISK_FAILED, NO_FILE, NO_STORE}
use Rattle.command_face.specs.Mounting.{IsMounted}
use Rattle.command_face.specs.Refusing.{IsRefused}
use Rattle.run_command.specs.Headline.{HasMounted, IsKeptTurn, RunHolds, is_session}
use Rattle.command_face.specs.Outcomes.{status_at}
use Rattle.run_command.specs.Sessions.{HasCounted, IsUnserved}
use Rattle.command_face.specs.declared.outcome.Outcome.{Outcome}
use Rattle.served_file.specs.Served.{found_with}
use Rattle.run_command.proofs.CountLaws.{has_counted}
use Rattle.run_command.proofs.EndLaws.{ends_after, keeps_after, line_after, only_line}
use Rattle.run_command.proofs.HeadlineLaws.{headline}
use Rattle.run_command.proofs.RefusalLaws.{never_ran}
use Rattle.run_command.proofs.StepsLaws.{known, refused_by, untouched, whole}
use Rattle.run_command.proofs.run.run_file.Goals as goal

pub returns : goal.returns
returns g c =
    let seen = seen_by g.B.Disk.state g.I.Source.state g.O.Sink.state in
    let start = held c.args.bay.now c.args.input.now c.args.output.now in
    let now = held c.serve_file-ended.new.bay c.serve_file-ended.new.input c.serve_file-ended.new.output in
    let file = c.args.file.now in
    let after = g.O.Sink.state c.finish-outcome.new.output in
    let e = c.serve_file-ended.result in
    let went = c.serve_file-ended.ensures in
    let line = c.finish-outcome.ensures.line in
    let status : c.finish-outcome.result.status ≡ status_at e.end =
    ap (λ (x : Outcome). x.status) c.finish-outcome.ensures.status in
    let w = whole seen file start now e went in
    record {
      headline = λ told source t m b requests end o asks.
          subst (λ n. RunHolds (found_with t.chosen.block t m b) requests end (record {
            status = n;
            done = e.done;
            kept_done = e.kept_done;
            kept_turn = e.kept_turn;
          }) (devices (seen.disk start.disk) (seen.sink start.sink)) (devices (seen.disk now.disk) after)
          (seen.source start.source) (seen.source now.source)) (sym status)
          (headline seen g.met.B.Disk.lawful start now after told source t m b requests end o asks
          file e went (line_after (outside_of seen start) (outside_of seen now) after e.end
          c.finish-outcome.result.status status w.keeps line));
      refused = λ told never.
          let refused = refused_by seen file start now e told never went in
          ends_after (outside_of seen start) (outside_of seen now) after e.end
          c.finish-outcome.result.status status w.keeps line (ap g.O.Sink.state refused.1)
          (IsRefused (seen.disk start.disk).file) refused.0;
      known = subst (λ n. (is_session n ≡ true) ⊎ (n ≡ NO_STORE)) (sym status)
          (known seen file start now e went);
      mounted = subst (λ n. IsMounted file false (seen.disk now.disk).last_mount (n ≡ DISK_FAILED)
          (n ≡ NO_FILE)) (sym status)
          w.mounted;
      serves = record {
        keeps = keeps_after (outside_of seen start) (outside_of seen now) after e.end
            c.finish-outcome.result.status status w.keeps line c.finish-outcome.ensures.told
            c.finish-outcome.ensures.later c.finish-outcome.ensures.calm;
        numbers = subst (λ n. HasCounted (record {
          status = n;
          done = e.done;
          kept_done = e.kept_done;
          kept_turn = e.kept_turn;
        }) (IsTrue (seen.disk start.disk).tells) (HasMounted (seen.disk now.disk))) (sym status)
            (has_counted seen file start now e went);
        turn = subst (λ n. IsKeptTurn (record {
          status = n;
          done = e.done;
          kept_done = e.kept_done;
          kept_turn = e.kept_turn;
        }) (HasMounted (seen.disk now.disk)) (seen.disk start.disk).turn (seen.disk now.disk).turn)
            (sym status) w.turn;
        unread = λ unserved. (w.unread (subst IsUnserved status unserved)).0;
        untouched = λ is. untouched seen file start now e went
            (subst (λ n. (n ≡ NO_FILE) ⊎ (n ≡ NO_STORE)) status is);
        refused = λ told four. never_ran seen file start now e told (sym status ∙ four) went;
        line_alone = λ told unserved. only_line (outside_of seen start) (outside_of seen now) after e.end
            c.finish-outcome.result.status status w.keeps line
            (ap g.O.Sink.state (w.unread (subst IsUnserved status unserved)).1) unserved told;
      };
    }
