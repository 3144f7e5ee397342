-- What is built is the image that is asked for.
use Rattle.std.specs.Prelude.{None, option_map, slice_get}
use Rattle.std.proofs.Common.{◌≡◌, ℕ, List, take, drop, sym, ◌∙◌, ap}
use Rattle.disk_history.specs.Changes.{content_after}
use Rattle.disk_mem.specs.Entries.{stamp_of, newest_first}
use Rattle.disk_history.specs.Histories.{History}
use Rattle.disk_mem.specs.Tearing.{up_to_sync, since_sync, finished}
use Rattle.disk_mem.proofs.TearingLaws.{finished_is}
use Rattle.disk_mem.specs.Turns.{at_turn, ended_by, next_after, image_at}
use Rattle.disk_mem.specs.declared.image.Choice.{Choice}
use Rattle.disk_mem.specs.declared.record.Entry.{Entry}

pub built_is : (h : History) (entries done : List Entry) (t : ℕ) (choice : Choice) (ended synced : ℕ)
    → h.calls ≡ newest_first entries → done ≡ take ended entries
    → at_turn t None (newest_first entries)
    ≡ (option_map stamp_of (slice_get entries ended), newest_first (take ended entries))
    → newest_first (take synced done) ≡ up_to_sync (newest_first done)
    → newest_first (drop synced done) ≡ since_sync (newest_first done)
    → finished t choice (option_map stamp_of (slice_get entries ended)) (newest_first (drop synced done))
    (content_after h.base (newest_first (take synced done))) ≡ image_at h t choice
built_is h entries done t choice ended synced is is_done turn up_to since =
    let both : at_turn t None h.calls ≡ (option_map stamp_of (slice_get entries ended), newest_first done) =
    ap (at_turn t None) is ∙ turn ∙ ap
    (λ xs. (option_map stamp_of (slice_get entries ended), newest_first xs)) (sym is_done) in
    let next : next_after h t ≡ option_map stamp_of (slice_get entries ended) = ap (λ x. x.0) both in
    let calls : ended_by h t ≡ newest_first done = ap (λ x. x.1) both in
    ap (λ n. finished t choice n (newest_first (drop synced done))
    (content_after h.base (newest_first (take synced done)))) (sym next)
    ∙ ap (λ xs. finished t choice (next_after h t) xs
    (content_after h.base (newest_first (take synced done)))) (since ∙ ap since_sync (sym calls))
    ∙ ap (λ xs. finished t choice (next_after h t) (since_sync (ended_by h t)) (content_after h.base xs))
    (up_to ∙ ap up_to_sync (sym calls))
    ∙ finished_is h t choice
