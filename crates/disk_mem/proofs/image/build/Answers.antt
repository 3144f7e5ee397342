use Rattle.std.specs.Prelude.{option_map, slice_get}
use Rattle.std.proofs.Common.{◌≡◌, ◌-◌, ◌∙◌, List, ℕ, length, length-drop, ap, sym, refl, arith, take, drop}
use Rattle.std.proofs.lemmas.List.{take_all}
use Rattle.disk_history.specs.Changes.{content_after}
use Rattle.disk_mem.specs.Entries.{stamp_of, newest_first}
use Rattle.disk_mem.specs.Tearing.{finished}
use Rattle.disk_mem.specs.declared.record.Entry.{Entry}
use Rattle.disk_mem.proofs.Built.{built_is}
use Rattle.disk_mem.proofs.image.build.Goals as goal

pub returns : goal.returns
returns c = λ h is_base is_calls.
    let entries = c.args.entries.now in
    let ended = c.ended_by-ended.result in
    let synced = c.synced_by-synced.result in
    let done = take ended entries in
    let next = option_map stamp_of (slice_get entries ended) in
    let rest : take (length done - synced) (drop synced done)
    ≡ drop synced done = take_all (length done - synced) (drop synced done)
    (omega (arith, length-drop synced done)) in
    c.in_ok-finish.ensures
    ∙ ap (λ (xs : List Entry). finished c.args.turn c.args.choice next (newest_first xs)
    c.replay.new.file.items) rest
    ∙ ap (λ (xs : List ℕ). finished c.args.turn c.args.choice next (newest_first (drop synced done)) xs)
    (c.in_ok-replay.ensures ∙ ap (λ (xs : List ℕ). content_after xs (newest_first (take synced done)))
    (c.in_ok-image.ensures.items ∙ sym is_base))
    ∙ built_is h entries done c.args.turn c.args.choice ended synced is_calls refl
    c.ended_by-ended.ensures.turn c.synced_by-synced.ensures.up_to c.synced_by-synced.ensures.since
