use Rattle.std.proofs.Common.{◌≡◌, ◌∙◌, ℕ, IsTrue, List, ap, arith, length, subst, sym, take}
use Rattle.std.proofs.lemmas.List.{length-take-le}
use Rattle.std.proofs.lemmas.Result.{on_ok_weaker}
use Rattle.disk_face.proofs.WriteLaws.{within-trans, within-wider}
use Rattle.slot_pair.specs.Bases.{lead_len}
use Rattle.slot_pair.proofs.BaseLaws.{bare_base, base_written}
use Rattle.slot_pair.proofs.base.put_base.Goals as goal

pub returns-then-count-eq0-clause-base : goal.returns-then-count-eq0-clause-base
returns-then-count-eq0-clause-base g c = λ told.
    let rs = g.R.Roll.records c.args.roll.now in
    let zeros = c.lead_len-lead.ensures.value ∙ ap (lead_len c.args.at c.args.top) c.count-count.ensures in
    let text : List ℕ = take c.spell_header-n.result c.spell_header-n.new.out in
    let long : length text ≡ 8488 = length-take-le _ _ (omega arith) ∙ c.spell_header-n.ensures.len in
    on_ok_weaker c.write_before_zeros.result (bare_base (g.D.Disk.state c.args.disk.now).file _ text c.args.at
    c.args.top c.lead_len-lead.result c.args.header.now rs c.requires.version (omega arith) zeros
    (omega (arith, c.requires.within told, zeros)) c.spell_header-n.ensures.text long)
    (c.write_before_zeros.ensures.written told)

pub returns-then-count-eq0-clause-writes : goal.returns-then-count-eq0-clause-writes
returns-then-count-eq0-clause-writes g c =
    let zeros = c.lead_len-lead.ensures.value ∙ ap (lead_len c.args.at c.args.top) c.count-count.ensures in
    within-wider _ _ (omega arith) (omega (arith, zeros)) c.write_before_zeros.ensures.writes

pub returns-in_ok-put_header-clause-base : goal.returns-in_ok-put_header-clause-base
returns-in_ok-put_header-clause-base g c = λ told.
    let rs = g.R.Roll.records c.args.roll.now in
    let zeros = c.lead_len-lead.ensures.value ∙ ap (lead_len c.args.at c.args.top) c.count-count.ensures in
    let told1 : IsTrue (g.D.Disk.state c.put_header.new.disk).tells =
    subst IsTrue (sym c.put_header.ensures.writes.stays.told) told in
    on_ok_weaker c.put_last_records.result (base_written (g.D.Disk.state c.args.disk.now).file _ _ c.args.at
    c.args.top c.lead_len-lead.result c.args.header.now rs c.requires.version zeros
    (omega (arith, c.requires.within told, zeros)) (c.put_header.ensures.writes.others told)
    (c.in_ok-put_header.ensures.header told) (c.put_last_records.ensures.writes.others told1))
    (c.put_last_records.ensures.text told1)

pub returns-in_ok-put_header-clause-writes : goal.returns-in_ok-put_header-clause-writes
returns-in_ok-put_header-clause-writes g c =
    let zeros = c.lead_len-lead.ensures.value ∙ ap (lead_len c.args.at c.args.top) c.count-count.ensures in
    within-trans (within-wider _ _ (omega arith) (omega (arith, zeros)) c.put_header.ensures.writes)
    (within-wider _ _ (omega arith) (omega (arith, zeros)) c.put_last_records.ensures.writes)
