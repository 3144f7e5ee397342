use Rattle.std.proofs.Common.{take, drop, sym}
use Rattle.std.proofs.lemmas.List.{take-append-drop}
use Rattle.ask_session.proofs.heads.put_all.Goals as goal

pub returns-in-Err-clause-put : goal.returns-in-Err-clause-put
returns-in-Err-clause-put g c told =
    let front = (c.in-Err.ensures.put told).front in record {
      all = tt;
      front = record {
        put = take front.0 c.args.bytes.now;
        rest = drop front.0 c.args.bytes.now;
        given = front.2;
        whole = sym (take-append-drop front.0 c.args.bytes.now);
        some = λ cut rest. absurd (cc);
      };
    }
