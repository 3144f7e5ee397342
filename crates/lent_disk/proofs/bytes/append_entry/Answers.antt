use Rattle.std.proofs.Common.{◌+◌, ◌∙◌, ap, arith, length, take, [], ◌∷◌}
use Rattle.lent_disk.specs.Calls.{number}
use Rattle.lent_disk.proofs.Joined.{joined}
use Rattle.lent_disk.proofs.bytes.append_entry.Goals as goal

pub returns-clause-text : goal.returns-clause-text
returns-clause-text c =
    let bytes = c.args.bytes.now in
    let out = c.append-2.new.out in
    ap (λ n. take n out) (omega arith)
    ∙ joined (take c.args.end c.args.out.now) (take (c.args.end + 1) c.append.new.out)
    (take (c.args.end + 1 + 8) c.append_number.new.out)
    (take (c.args.end + 1 + 8 + 8) c.append_number-2.new.out)
    (take (c.args.end + 1 + 8 + 8 + length bytes) out)
    (c.args.kind ∷ []) (number c.args.at) (number (length bytes)) bytes
    c.append.ensures.text c.append_number.ensures.text c.append_number-2.ensures.text c.append-2.ensures.text
