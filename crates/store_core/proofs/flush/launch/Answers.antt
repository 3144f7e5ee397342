use Rattle.std.proofs.Common.{IsTrue, rules, subst, sym}
use Rattle.store_model.proofs.MakeFlushLaws.{grow_failed, write_within, written_flies, written_left}
use Rattle.store_core.proofs.flush.launch.Goals as goal

pub returns-in_err-set_len-clause-left : goal.returns-in_err-set_len-clause-left
returns-in_err-set_len-clause-left g c x0 c' g' can told =
    grow_failed can told _ (search rules) c.set_len.ensures.frame (c.in_err-set_len.ensures.either told)

pub write_new-requires-clause-within : goal.write_new-requires-clause-within
write_new-requires-clause-within g c told =
    let first = subst IsTrue c.set_len.ensures.frame.stays.told told in
    write_within c.requires.start.3 first _ (search rules) c.set_len.ensures.frame
    (c.in_ok-set_len.ensures.resized first)

pub returns-in-Ok-clause-flies : goal.returns-in-Ok-clause-flies
returns-in-Ok-clause-flies g c x0 c' g' can told =
    let mid = subst IsTrue (sym c.set_len.ensures.frame.stays.told) told in
    written_flies can told _ (search rules) c.set_len.ensures.frame (c.in_ok-set_len.ensures.resized told)
    c.write_new.ensures.writes mid (c.in-Ok.ensures.written mid)

pub returns-in-Ok-clause-left : goal.returns-in-Ok-clause-left
returns-in-Ok-clause-left g c x0 c' g' can told =
    written_left can told _ (search rules) c.set_len.ensures.frame (c.in_ok-set_len.ensures.resized told)
    c.write_new.ensures.writes (subst IsTrue (sym c.set_len.ensures.frame.stays.told) told)

pub returns-in-Err-clause-left : goal.returns-in-Err-clause-left
returns-in-Err-clause-left g c x0 c' g' can told =
    written_left can told _ (search rules) c.set_len.ensures.frame (c.in_ok-set_len.ensures.resized told)
    c.write_new.ensures.writes (subst IsTrue (sym c.set_len.ensures.frame.stays.told) told)
