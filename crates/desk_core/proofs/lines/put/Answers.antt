use Rattle.std.proofs.Common.{take, drop, sym}
use Rattle.std.proofs.lemmas.List.{take-append-drop}
use Rattle.std.proofs.Common.{refl}
use Rattle.desk_core.proofs.lines.put.Goals as goal

pub returns-in-Err : goal.returns-in-Err
returns-in-Err g c = record {
  put = λ told.
      let front = (c.in-Err.ensures.put told).front in record {
        all = tt;
        front = record {
          put = take front.0 c.args.bytes.now;
          rest = drop front.0 c.args.bytes.now;
          given = front.2;
          whole = sym (take-append-drop front.0 c.args.bytes.now);
          some = λ cut rest. absurd (cc);
        };
      };
  only = refl;
  cause = record {
    later = c.in-Err.ensures.cause.later;
    rose = λ is. c.in-Err.ensures.cause.rose;
    calm = λ other. absurd (other refl);
    told = c.in-Err.ensures.told;
  };
}
