use Rattle.slot_codec.specs.Choice.{plain, record_after}
use Rattle.slot_codec.specs.Spelling.{record_len}
use Rattle.std.proofs.Common.{Err, Ok, rules, take, ◌≡◌, ◌+◌, ◌*◌, ◌<◌, ◌≤◌, ◌∙◌, arith, [], ◌∷◌, ◌++◌}
use Rattle.std.proofs.Math.Nat.{mul-le-mul_left}
use Rattle.slot_pair.specs.declared.find.SlotFault.TheVariants as slot
use Rattle.plain_layout.proofs.Reading.{next_read, next_refused, read_step-bad, read_more, refused_more, on_err, on_ok}
use Rattle.plain_layout.proofs.record_list.+add_records.Goals as goal

pub returns-in-Err-clause-refused : goal.returns-in-Err-clause-refused
returns-in-Err-clause-refused t c =
    let v = c.args.version in
    let text = c.args.text.now in
    let before = c.args.before.now in
    let some : 0 < c.args.count = omega (arith, c.if-count-eq0.false) in
    let said : Err c.in-Err.fault ≡ record_after v (take (record_len v) text) before = search rules in
    read_step-bad v c.args.count text c.args.at before (slot.Codec c.in-Err.fault c.args.at) some
    (next_refused v text c.args.at before c.in-Err.fault said)

pub returns-clause-read : goal.returns-clause-read
returns-clause-read t c =
    let v = c.args.version in
    let text = c.args.text.now in
    let before = c.args.before.now in
    let some : 0 < c.args.count = omega (arith, c.if-count-eq0.false) in
    let said : Ok c.in-Ok.record ≡ record_after v (take (record_len v) text) before = search rules in
    let first = next_read v text c.args.at before c.in-Ok.record said in
    let pushed : c.push.new.self.items ≡ c.args.records.now.items
    ++ (plain c.in-Ok.record ∷ []) = grind (
      arith,
      c.push.ensures.items,
      c.plain.ensures,
      c.if-is_err.false,
      c.if-is_err.ensures.value,
    ) in
    let more = read_more v c.args.len c.args.count c.requires.len text c.args.at before c.in-Ok.record
    c.args.records.now.items c.push.new.self.items c.copied-name.result some first pushed
    c.copied-name.ensures.value in
    on_ok c.add_records.result _ _ (λ h. more ∙ h) c.add_records.ensures.read

pub returns-clause-refused : goal.returns-clause-refused
returns-clause-refused t c =
    let v = c.args.version in
    let text = c.args.text.now in
    let before = c.args.before.now in
    let some : 0 < c.args.count = omega (arith, c.if-count-eq0.false) in
    let said : Ok c.in-Ok.record ≡ record_after v (take (record_len v) text) before = search rules in
    let first = next_read v text c.args.at before c.in-Ok.record said in
    on_err c.add_records.result _ _ (λ why h.
    refused_more v c.args.len c.args.count c.requires.len text c.args.at before c.in-Ok.record
    c.copied-name.result why some first c.copied-name.ensures.value h)
    c.add_records.ensures.refused
