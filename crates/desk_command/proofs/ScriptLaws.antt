-- Which events of a script were answered, and which is the next.
use Rattle.std.specs.Prelude.{◌≡◌, ◌≤◌, ℕ, List, [], ◌∷◌, ◌++◌, length, flat_map, codes, refl}
use Rattle.std.specs.Fmt.{decimal}
use Rattle.std.specs.List.{AllByRecursion}
use Rattle.std.proofs.Common.{arith, ap, sym, ◌∙◌, subst, inl, inr, append_assoc, append-nil, length-append}
use Rattle.store_model.specs.States.{Limits}
use Rattle.ask_text.specs.Inputs.{request_text}
use Rattle.ask_text.specs.declared.ends.End.{End}
use Rattle.ask_text.specs.declared.ends.End.TheVariants as ends
use Rattle.desk_model.specs.Answers.{Answer}
use Rattle.desk_model.specs.Desks.{Desk}
use Rattle.desk_model.specs.Events as event
use Rattle.desk_model.specs.Events.{BeginsNoEvent, Event, IsEvent, IsScript, event_text, line_for}
use Rattle.desk_model.proofs.TextLaws.{event_one}
use Rattle.desk_command.specs.Acts.{IsAct, IsFinishing, LastAct, NextStep}
use Rattle.desk_command.specs.Acts as act
use Rattle.desk_command.specs.Doing.{ActsAt, IsNext, StopsAt}

-- the events of a script are those that stand in front, and others
pub record Splits (events answered : List Event) (rest end : List ℕ) : Type 0 where
  pub others : List Event
  pub split : events ≡ answered ++ others
  pub script : IsScript rest others end

pub splits : (answered events : List Event) (input rest end : List ℕ) → AllByRecursion IsEvent answered
    → IsScript input events end → input ≡ flat_map event_text answered ++ rest
    → Splits events answered rest end
splits [] events input rest end each script is = record {
  others = events;
  split = refl;
  script = subst (λ (xs : List ℕ). IsScript xs events end) is script;
}
splits (x ∷ answered) [] input rest end each script is =
    absurd (script.ended x (flat_map event_text answered ++ rest) each.0
    (sym script.whole ∙ is ∙ append_assoc (event_text x) (flat_map event_text answered) rest))
splits (x ∷ answered) (e ∷ events) input rest end each script is =
    let one = event_one e x (flat_map event_text events ++ end) (flat_map event_text answered ++ rest)
    script.each.0 each.0 (sym (append_assoc (event_text e) (flat_map event_text events) end)
    ∙ sym script.whole ∙ is ∙ append_assoc (event_text x) (flat_map event_text answered) rest) in
    let tail : Splits events answered rest end = splits answered events
    (flat_map event_text events ++ end) rest end each.1
    (record { whole = refl; each = script.each.1; ended = script.ended }) one.1 in
    let same : e ≡ x = one.0 in
    record {
      others = tail.others;
      split = ap (λ (y : Event). y ∷ events) same ∙ ap (λ (ys : List Event). x ∷ ys) tail.split;
      script = tail.script;
    }

-- one that stands in front is the next
record IsFirst (others : List Event) (e : Event) : Type 0 where
  tail : List Event
  is : others ≡ e ∷ tail

first_is : (e : Event) (others : List Event) (rest more end : List ℕ) → IsEvent e → IsScript rest others end
    → rest ≡ event_text e ++ more → IsFirst others e
first_is e others rest more end is_event script is =
    let s = splits (e ∷ []) others rest more end (is_event, tt) script
    (is ∙ ap (λ (xs : List ℕ). xs ++ more) (sym (append-nil (event_text e)))) in
    record { tail = s.others; is = s.split }

-- where none stands in front there is none
pub none_next : (others : List Event) (rest end : List ℕ) → IsScript rest others end → BeginsNoEvent rest
    → (others ≡ []) × (rest ≡ end)
none_next [] rest end script none = (refl, script.whole)
none_next (e ∷ others) rest end script none =
    absurd (none e (flat_map event_text others ++ end) script.each.0
    (script.whole ∙ append_assoc (event_text e) (flat_map event_text others) end))

-- an event's text has a byte
line_long : (word : List ℕ) (s : ℕ) → 1 ≤ length (line_for word s)
line_long word s = omega (arith, length-append (word ++ codes " " ++ decimal s) (codes "\n"))

text_long : (e : Event) → 1 ≤ length (event_text e)
text_long (event.say s r) = omega (
  arith,
  length-append (line_for (codes "say") s) (request_text r),
  line_long (codes "say") s,
)
text_long (event.serve s) = line_long (codes "serve") s
text_long event.step = omega arith

begins_none : BeginsNoEvent []
begins_none e rest is_event is =
    omega (arith, text_long e, length-append (event_text e) rest, ap (λ (xs : List ℕ). length xs) is)

-- nothing is left, so there is no event and nothing behind it
pub at_end : (others : List Event) (rest end : List ℕ) → IsScript rest others end → rest ≡ []
    → (others ≡ []) × (end ≡ [])
at_end others rest end script is =
    let none = none_next others rest end script (subst BeginsNoEvent (sym is) begins_none) in
    (none.0, sym none.1 ∙ is)

-- ---- what the desk was at

module _ (limits : Limits) (d : Desk) (next others : List Event) (more end : List ℕ)
    (script : IsScript more others end) where
  -- what it was at, of the events of the script
  abbrev pub IsOver : LastAct → Type 0
  IsOver was = IsAct limits d others was × (IsFinishing was → (others ≡ []) × (end ≡ []))

  answering_over : (a : Answer) (t : Desk) → IsNext next more → NextStep limits d next a t
      → NextStep limits d others a t
  answering_over a t (inl none) step =
      absurd (subst (λ (xs : List Event). NextStep limits d xs a t) none.0 step)
  answering_over a t (inr some) step =
      let first = first_is some.0 others more some.3 end some.1 script some.4 in
      subst (λ (xs : List Event). NextStep limits d xs a t) (sym first.is)
      (subst (λ (xs : List Event). NextStep limits d xs a t) some.2 step)

  finishing_over : IsNext next more → next ≡ [] → (others ≡ []) × (end ≡ [])
  finishing_over (inl none) is = at_end others more end script none.1
  finishing_over (inr some) is = absurd (let e : some.0 ∷ [] ≡ [] = sym some.2 ∙ is in cc)

  busy_over : (was : LastAct) → IsNext next more → IsAct limits d next was → IsOver was
  busy_over act.nothing is at = (tt, λ f. absurd f)
  busy_over (act.answering a t) is at = (answering_over a t is at, λ f. absurd f)
  busy_over (act.finishing t) is at =
      (((finishing_over is at.0).0, at.1), λ f. finishing_over is at.0)

  idle_over : (was : LastAct) → was ≡ act.nothing → IsOver was
  idle_over was is = subst IsOver (sym is) (tt, λ f. absurd f)

  pub act_over : (why : End) (was : LastAct) → ActsAt why was → StopsAt why next more
      → IsAct limits d next was → IsOver was
  act_over ends.End was by stops at = busy_over was (inl stops) at
  act_over ends.Line was by stops at = idle_over was by
  act_over ends.Disk was by stops at = busy_over was stops at
  act_over ends.Source was by stops at = idle_over was by
  act_over ends.Sink was by stops at = busy_over was stops at
  act_over ends.Budget was by stops at = idle_over was by
