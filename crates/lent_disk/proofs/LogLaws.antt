-- How a log goes on from call to call.
use Rattle.std.proofs.Common.{◌≡◌, ◌∙◌, ap, sym, subst, refl, arith, rules, inl, inr, length-append, ℕ, List, [], ◌∷◌, ◌++◌, length}
use Rattle.std.specs.Prelude.{◌⊎◌, ◌+◌, ◌<◌, ◌≤◌, ◌-◌, ◌^◌}
use Rattle.disk_history.specs.Changes.RecordedCall.{Sized, Synced, Wrote}
use Rattle.disk_history.specs.Changes.{RecordedCall, Stamped, changed, content_after}
use Rattle.disk_history.specs.Histories.{History, done, file_of, undone}
use Rattle.disk_history.proofs.HistoryLaws.{EndedBy_later}
use Rattle.lent_disk.specs.Calls.{FitsEntry, IsWithin, length_by, longest_in, replayed, spelled, weight_in, weight_of}
use Rattle.lent_disk.specs.Notings.{Noting, IsLog, IsNoting, LacksSpace, changes, made, refused}

-- calls after others, from what was synced at first
pub content_replayed : (base : List ℕ) (calls earlier : List Stamped)
    → content_after base (calls ++ earlier) ≡ replayed (changes calls) (content_after base earlier)
content_replayed base [] earlier = refl
content_replayed base (call ∷ calls) earlier = ap (changed call.change) (content_replayed base calls earlier)

-- what reads give, from what they gave at the start
pub content_of_log : (start h : History) (text : List ℕ) (l : IsLog start h text)
    → file_of h ≡ replayed (changes l.calls) (file_of start)
content_of_log start h text l =
    ap (λ base. content_after base h.calls) l.same_base ∙ ap (content_after start.base) l.grows
    ∙ content_replayed start.base l.calls start.calls

-- one call more
pub log_done : (call : RecordedCall) (start h : History) (text : List ℕ) → h.turn ≤ 2 ^ 64 - 1
    → FitsEntry call → IsWithin call (file_of h) → IsLog start h text
    → IsLog start (done call h) (text ++ spelled call)
log_done call start h text few fits within l = record {
  calls = record { began = h.turn; change = call } ∷ l.calls;
  same_base = l.same_base;
  grows = ap (λ calls. record { began = h.turn; change = call } ∷ calls) l.grows;
  spells = ap (λ x. x ++ spelled call) l.spells;
  fits = (fits, l.fits);
  within = (subst (IsWithin call) (content_of_log start h text l) within, l.within);
  later = omega (arith, l.later, few);
  since = (l.later, l.since);
}

-- one that failed
pub log_undone : (start h : History) (text : List ℕ) → h.turn ≤ 2 ^ 64 - 1 → IsLog start h text
    → IsLog start (undone h) text
log_undone start h text few l = record {
  calls = l.calls;
  same_base = l.same_base;
  grows = l.grows;
  spells = l.spells;
  fits = l.fits;
  within = l.within;
  later = omega (arith, l.later, few);
  since = l.since;
}

-- a call is spelled by as many bytes as it weighs
length_spelled : (call : RecordedCall) → length (spelled call) ≡ weight_of call
length_spelled (Wrote at bytes) = search rules
length_spelled (Sized n) = search rules
length_spelled Synced = search rules

-- where there was no room for what was asked for, there is none with one call more
lacks_more : (call : RecordedCall) (asked : List RecordedCall) (log_room room : ℕ)
    → (log_room < weight_in asked) ⊎ (room < longest_in asked)
    → (log_room < weight_in (call ∷ asked)) ⊎ (room < longest_in (call ∷ asked))
lacks_more call asked log_room room lacks =
    elim lacks as (λ _. (log_room < weight_in (call ∷ asked)) ⊎ (room < longest_in (call ∷ asked))) [
      | inl heavy ↦ inl (omega (arith, heavy))
      | inr long ↦ inr (omega (arith, long))
    ]

-- a call that was made and noted
is_made : (call : RecordedCall) (n : Noting) (file now : List ℕ) → IsNoting n file → FitsEntry call
    → IsWithin call file → now ≡ changed call file → IsNoting (made call n) now
is_made call n file now is fits within does = record {
  same_file = does ∙ ap (changed call) is.same_file;
  few = omega (arith, is.few);
  ended = (
    omega (arith, is.few),
    EndedBy_later n.history.turn (done call n.history).turn n.history.calls (omega (arith, is.few)) is.ended,
  );
  log = log_done call n.start n.history n.text is.few fits (subst (IsWithin call) is.same_file within) is.log;
  spelled = omega (arith, length-append n.text (spelled call), length_spelled call, is.spelled);
  cause = λ more. lacks_more call n.asked n.log_room n.room (is.cause more);
}

pub noting_made : (call : RecordedCall) (n new : Noting) (file now : List ℕ) → IsNoting n file
    → FitsEntry call → IsWithin call file → new ≡ made call n → now ≡ changed call file → IsNoting new now
noting_made call n new file now is fits within e does =
    subst (λ (x : Noting). IsNoting x now) (sym e) (is_made call n file now is fits within does)

-- one that was refused for want of room
is_refused : (call : RecordedCall) (n : Noting) (file : List ℕ) → IsNoting n file
    → (n.log_room < length n.text + weight_of call) ⊎ (n.room < length_by call)
    → IsNoting (refused call n) file
is_refused call n file is lacks = record {
  same_file = is.same_file;
  few = omega (arith, is.few);
  ended = EndedBy_later n.history.turn (undone n.history).turn n.history.calls (omega (arith, is.few))
      is.ended;
  log = log_undone n.start n.history n.text is.few is.log;
  spelled = omega (arith, is.spelled);
  cause = λ _. elim lacks as (λ _. LacksSpace (refused call n)) [
    | inl heavy ↦ inl (omega (arith, heavy, is.spelled))
    | inr long ↦ inr (omega (arith, long))
  ];
}

pub noting_refused : (call : RecordedCall) (n new : Noting) (file : List ℕ) → IsNoting n file
    → new ≡ refused call n → (n.log_room < length n.text + weight_of call) ⊎ (n.room < length_by call)
    → IsNoting new file
noting_refused call n new file is e lacks =
    subst (λ (x : Noting). IsNoting x file) (sym e) (is_refused call n file is lacks)
