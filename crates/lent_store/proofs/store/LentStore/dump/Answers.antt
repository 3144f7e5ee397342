use Rattle.std.proofs.Common.{◌≡◌, ◌∙◌, false, refl, rules, subst, List, ℕ}
use Rattle.reopen.specs.Loads.{IsLoadedFrom, unboxed}
use Rattle.lent_store.proofs.DumpLaws.{never_fails}
use Rattle.lent_store.proofs.StreamLaws.{dumped, stopped_dump}
use Rattle.lent_store.proofs.store.LentStore.dump.Goals as goal

pub put_dump-requires-clause-from : goal.put_dump-requires-clause-from
put_dump-requires-clause-from c =
    subst (λ (f : List ℕ). IsLoadedFrom f (unboxed c.in-Ok.loaded)) c.of-view.ensures.file
    (c.in-Ok.ensures.opened refl)

pub returns-in-Ok-clause-answer : goal.returns-in-Ok-clause-answer
returns-in-Ok-clause-answer c =
    let whole : c.args.self.now.store.is_broken ≡ false = search rules in
    dumped c.self.view_is c.self.invariant c.requires.idle whole (unboxed c.in-Ok.loaded)
    (subst (λ (f : List ℕ). IsLoadedFrom f (unboxed c.in-Ok.loaded))
    (c.of-view.ensures.file ∙ c.room-file.ensures) (c.in-Ok.ensures.opened refl))
    c.room-file.ensures c.put_dump.new.out c.put_dump.result c.put_dump.ensures.dumps

pub returns-in-Err-clause-answer : goal.returns-in-Err-clause-answer
returns-in-Err-clause-answer c =
    let whole : c.args.self.now.store.is_broken ≡ false = search rules in
    stopped_dump c.self.view_is c.self.invariant c.requires.idle whole
    (c.of-view.ensures.file ∙ c.room-file.ensures) c.in-Err.fault (c.in-Err.ensures.refused refl)
    (λ is. never_fails c.of-view.result.refused c.load_state.new.disk.refused c.of-view.ensures.none
    c.load_state.ensures.frame.same_turn (c.load_state.ensures.cause.rose
    (let e = c.in-Err.is in let f = is in cc)))
    c.stop_for.result c.stop_for.ensures c.args.out.now
