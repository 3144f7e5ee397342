-- What is heard is queued where it has room.
use Rattle.std.proofs.Common.{◌≡◌, ℕ, ◌+◌, ◌≤◌, ◌<◌, Bool, true, false, List, [], ◌∷◌, ◌++◌, length, take, ap, sym, subst, refl, arith, None, Some}
use Rattle.std.specs.Prelude.{codes, Result, Ok, Err, slice_set}
use Rattle.std.proofs.lemmas.Bool.{le-leb, lt-leb}
use Rattle.std.proofs.lemmas.List.{length-take-le}
use Rattle.disk_face.specs.Streams.{SinkState}
use Rattle.map_model.specs.Requests.{Request}
use Rattle.ask_text.specs.Inputs.{HasText, request_text}
use Rattle.ask_text.specs.declared.ends.End.{End}
use Rattle.ask_text.specs.declared.ends.End.TheVariants as ends
use Rattle.desk_model.specs.Answers as answer
use Rattle.desk_model.specs.Answers.{Answer}
use Rattle.desk_model.specs.Desks.{Desk, SaysIf, has_room, queue_of, ring, texts_of, with_queue}
use Rattle.desk_model.specs.Events.{line_for, sessions}
use Rattle.desk_queues.specs.Queues.{Holds, Queued, requests_at, ring_of}
use Rattle.desk_core.specs.Hearing.{Hears, HearsOne, IsHeard, talk}
use Rattle.desk_core.specs.Telling.{PutsAll}

-- a heard text that was told comes to its answer
said : {told : Type 0} {session : ℕ} {old new : Queued} {input rest : List ℕ} {before now : SinkState}
    (text : List ℕ) (result : Result (Unit {0}) End) → PutsAll text before now result
    → HearsOne told session old new (talk input before) (talk rest now) result
    → IsHeard told session old new (talk input before) (talk rest now) result
said text (Ok x) puts h = h
said text (Err ends.Sink) puts h = h
said text (Err ends.Line) puts h = absurd (let e : ends.Line ≡ ends.Sink = puts.only in cc)
said text (Err ends.Source) puts h = absurd (let e : ends.Source ≡ ends.Sink = puts.only in cc)
said text (Err ends.End) puts h = absurd (let e : ends.End ≡ ends.Sink = puts.only in cc)
said text (Err ends.Disk) puts h = absurd (let e : ends.Disk ≡ ends.Sink = puts.only in cc)
said text (Err ends.Budget) puts h = absurd (let e : ends.Budget ≡ ends.Sink = puts.only in cc)

module _ (told : Type 0) (session : ℕ) (low : session < sessions) (old : Queued) (input rest text : List ℕ)
    (room : ℕ) (free : room + length (ring_of old session) ≡ ring) (before now : SinkState)
    (result : Result (Unit {0}) End) where
  -- how many bytes wait
  waits_long : (d : Desk) → Holds old d.queues
      → length (texts_of (queue_of d session)) ≡ length (ring_of old session)
  waits_long d h = ap length (sym (h.each session low).texts)

  -- there was room
  pub heard_queued : (new : Queued) (n : ℕ) (h : Hears told input rest room text (Some n)) → n ≤ length text
      → ((qs : List (List Request)) (r : Request) → Holds old qs → HasText r → take n text ≡ request_text r
      → Holds new (slice_set qs session (requests_at qs session ++ r ∷ [])))
      → PutsAll (line_for (codes "queued") session) before now result
      → IsHeard told session old new (talk input before) (talk rest now) result
  heard_queued new n h fits pushed puts = said (line_for (codes "queued") session) result puts (record {
    request = h.request;
    has_text = h.has_text;
    whole = h.whole;
    plays = λ d holds.
        let long : length (request_text h.request) ≤ room = omega (
          arith,
          h.within,
          ap length (sym h.held),
          length-take-le n text fits,
        ) in
        let has : has_room d session h.request ≡ true = le-leb
        (length (texts_of (queue_of d session)) + length (request_text h.request)) ring (omega (
          arith,
          long,
          free,
          waits_long d holds,
        )) in
        record {
          answer = answer.queued session;
          desk = with_queue d session (queue_of d session ++ h.request ∷ []);
          step = subst (λ (b : Bool). SaysIf b session h.request d (answer.queued session)
              (with_queue d session (queue_of d session ++ h.request ∷ []))) (sym has) (refl, refl);
          shown = λ calm. record {
            queues = pushed d.queues h.request holds h.has_text h.held;
            state = refl;
            hand = refl;
          };
          puts = puts.put;
        };
  })

  -- there was none
  pub heard_full : (h : Hears told input rest room text None)
      → PutsAll (line_for (codes "full") session) before now result
      → IsHeard told session old old (talk input before) (talk rest now) result
  heard_full h puts = said (line_for (codes "full") session) result puts (record {
    request = h.request;
    has_text = h.has_text;
    whole = h.whole;
    plays = λ d holds.
        let has : has_room d session h.request ≡ false = lt-leb
        (length (texts_of (queue_of d session)) + length (request_text h.request)) ring (omega (
          arith,
          h.longer refl,
          free,
          waits_long d holds,
        )) in
        record {
          answer = answer.full session;
          desk = d;
          step = subst (λ (b : Bool). SaysIf b session h.request d (answer.full session) d) (sym has)
              (refl, refl);
          shown = λ calm. record { queues = holds; state = refl; hand = refl };
          puts = puts.put;
        };
  })
