-- The record, call by call.
use Rattle.std.specs.Prelude.{nat_le, if◌then◌else◌, true, false, Option, Some, option_map, slice_get}
use Rattle.std.proofs.Common.{◌≡◌, ◌+◌, ◌<◌, ◌≤◌, ℕ, List, [], ◌∷◌, ◌++◌, length, take, drop, get_or, sym, ◌∙◌, ap, arith}
use Rattle.std.proofs.lemmas.Bool.{le-leb}
use Rattle.std.proofs.lemmas.List.{take_more, drop_all, length-take, drop-append-le}
use Rattle.std.proofs.lemmas.Option.{slice_get-get_or}
use Rattle.disk_face.specs.Counts.{counted}
use Rattle.disk_history.specs.Changes.{Stamped, changed, content_after}
use Rattle.disk_mem.specs.Entries.{change_of, stamp_of, newest_first}
use Rattle.disk_mem.specs.Tearing.{is_sync, smeared, smeared_after, up_to_sync, since_sync}
use Rattle.disk_mem.specs.Turns.{at_turn}
use Rattle.disk_mem.specs.declared.record.Entry.{Entry}
use Rattle.disk_mem.proofs.Records.{newest_first_none, newest_first_push, newest_first_more}

module _ (entries : List Entry) (i : ℕ) (entry : Entry) (low : i < length entries)
    (is : entry ≡ get_or entries i entry) where
  pub content_more : (base file : List ℕ) → file ≡ content_after base (newest_first (take i entries))
      → changed (change_of entry.call) file ≡ content_after base (newest_first (take (i + 1) entries))
  content_more base file so_far = ap (changed (change_of entry.call)) so_far
      ∙ ap (content_after base) (sym (newest_first_more entries i entry low is))

  pub smeared_more : (b : ℕ) (base file : List ℕ)
      → file ≡ smeared_after b base (newest_first (take i entries))
      → smeared b (change_of entry.call) file ≡ smeared_after b base (newest_first (take (i + 1) entries))
  smeared_more b base file so_far = ap (smeared b (change_of entry.call)) so_far
      ∙ ap (smeared_after b base) (sym (newest_first_more entries i entry low is))

  -- the walk back to a turn ends at a call that had ended
  pub turn_found : (t : ℕ) (next : Option Stamped) → counted entry.began 1 ≤ t
      → at_turn t next (newest_first (take (i + 1) entries)) ≡ (next, newest_first (take (i + 1) entries))
  unfolding at_turn
  turn_found t next ended =
      ap (at_turn t next) (newest_first_more entries i entry low is)
      ∙ ap (λ test. if test then (next, stamp_of entry ∷ newest_first (take i entries))
      else at_turn t (Some (stamp_of entry)) (newest_first (take i entries)))
      (le-leb (counted entry.began 1) t ended)
      ∙ ap (λ calls. (next, calls)) (sym (newest_first_more entries i entry low is))

  -- and goes on at another
  pub turn_more : (t : ℕ) (next : Option Stamped) → t < counted entry.began 1
      → at_turn t next (newest_first (take (i + 1) entries))
      ≡ at_turn t (option_map stamp_of (slice_get entries i)) (newest_first (take i entries))
  unfolding at_turn
  turn_more t next later =
      ap (at_turn t next) (newest_first_more entries i entry low is)
      ∙ ap (λ test. if test then (next, stamp_of entry ∷ newest_first (take i entries))
      else at_turn t (Some (stamp_of entry)) (newest_first (take i entries))) (not_ended later)
      ∙ ap (λ x. at_turn t x (newest_first (take i entries)))
      (sym (ap (option_map stamp_of) (slice_get-get_or entries i entry low)
      ∙ ap (λ e. Some (stamp_of e)) (sym is)))
    where
      not_ended : t < counted entry.began 1 → nat_le (counted entry.began 1) t ≡ false
      not_ended h = grind (arith, h)

  -- a sync
  pub at_sync : is_sync (change_of entry.call) ≡ true
      → (newest_first (take (i + 1) entries) ≡ up_to_sync (newest_first (take (i + 1) entries)))
      × (newest_first (drop (i + 1) (take (i + 1) entries))
      ≡ since_sync (newest_first (take (i + 1) entries)))
  unfolding up_to_sync since_sync
  at_sync sync = (
    newest_first_more entries i entry low is
        ∙ sym (ap (λ test. if test then stamp_of entry ∷ newest_first (take i entries)
        else up_to_sync (newest_first (take i entries))) sync)
        ∙ ap up_to_sync (sym (newest_first_more entries i entry low is)),
    ap newest_first nothing ∙ newest_first_none
        ∙ sym (ap (λ test. if test then [] else stamp_of entry ∷ since_sync (newest_first (take i entries)))
        sync) ∙ ap since_sync (sym (newest_first_more entries i entry low is)),
  )
    where
      nothing : drop (i + 1) (take (i + 1) entries) ≡ []
      nothing = drop_all (i + 1) (take (i + 1) entries) (omega (arith, length-take (i + 1) entries))

  -- another call
  pub no_sync : (synced : ℕ) → synced ≤ i → is_sync (change_of entry.call) ≡ false
      → newest_first (take synced entries) ≡ up_to_sync (newest_first (take i entries))
      → newest_first (drop synced (take i entries)) ≡ since_sync (newest_first (take i entries))
      → (newest_first (take synced entries) ≡ up_to_sync (newest_first (take (i + 1) entries)))
      × (newest_first (drop synced (take (i + 1) entries))
      ≡ since_sync (newest_first (take (i + 1) entries)))
  unfolding up_to_sync since_sync
  no_sync synced within other up_to since = (
    up_to ∙ sym (ap (λ test. if test then stamp_of entry ∷ newest_first (take i entries)
        else up_to_sync (newest_first (take i entries))) other)
        ∙ ap up_to_sync (sym (newest_first_more entries i entry low is)),
    ap newest_first one_more ∙ newest_first_push (drop synced (take i entries)) entry
        ∙ ap (λ calls. stamp_of entry ∷ calls) since
        ∙ sym (ap (λ test. if test then [] else stamp_of entry ∷ since_sync (newest_first (take i entries)))
        other) ∙ ap since_sync (sym (newest_first_more entries i entry low is)),
  )
    where
      one_more : drop synced (take (i + 1) entries) ≡ drop synced (take i entries) ++ entry ∷ []
      one_more =
          ap (drop synced) (take_more entries i entry low ∙ ap (λ e. take i entries ++ e ∷ []) (sym is))
          ∙ drop-append-le synced (take i entries) (entry ∷ [])
          (omega (arith, within, low, length-take i entries))

-- the walk back to a turn ends where no call is left
pub turn_none : (t : ℕ) (next : Option Stamped) (entries : List Entry)
    → at_turn t next (newest_first (take 0 entries)) ≡ (next, newest_first (take 0 entries))
unfolding at_turn
turn_none t next entries = ap (at_turn t next) newest_first_none
    ∙ ap (λ calls. (next, calls)) (sym newest_first_none)
