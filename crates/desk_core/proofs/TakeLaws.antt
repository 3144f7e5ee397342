-- Requests that a desk takes whose reply is one line, and those that begin a flush.
use Rattle.std.specs.Prelude.{◌≡◌, ℕ, ◌+◌, ◌≤◌, nat_lt, Bool, true, false, List, ◌++◌, [], codes, Option, Some, None, Result, Ok, Err, IfOk, IsTrue, refl}
use Rattle.std.proofs.Common.{arith, ap, sym, ◌∙◌, subst, inl, inr, append-nil}
use Rattle.std.proofs.Math.Bool.{and-false}
use Rattle.disk_face.specs.Devices.{devices}
use Rattle.disk_face.specs.States as disk
use Rattle.disk_face.specs.Streams.{SinkState}
use Rattle.map_model.specs.Requests as ask
use Rattle.map_model.specs.Requests.{Change, Refused, Reply, Request}
use Rattle.segment_layout.specs.Books.{next_book}
use Rattle.store_model.specs.declared.answers.Refusal.{Refusal}
use Rattle.store_model.specs.declared.answers.Refusal.TheVariants as why
use Rattle.data_area.proofs.CauseLaws.{calm_disk, calm_sink}
use Rattle.store_model.proofs.RequestLaws.{served_by}
use Rattle.store_model.specs.Connection.{StoreValue, limits_of, state_of}
use Rattle.store_model.specs.States.{Limits, Served, State, Step, accepted, facts_of, refusal, served, served_change}
use Rattle.ask_text.specs.Replies.{first_line, reply_line_of, reply_text, rest_of}
use Rattle.ask_text.specs.declared.reply.Reply as text
use Rattle.ask_text.specs.declared.ends.End.{End}
use Rattle.ask_text.specs.declared.ends.End.TheVariants as ends
use Rattle.ask_session.specs.Ready.{CanServe}
use Rattle.ask_session.specs.ReplyLines.{Answers, answer_of, is_kept}
use Rattle.ask_session.specs.Serving.{acknowledges, is_changing, reply_at}
use Rattle.ask_session.proofs.MakesLaws.{makes}
use Rattle.ask_session.proofs.PutLaws.{puts_as, puts_none}
use Rattle.ask_session.proofs.ReplyLaws.{no_disk_fault, sink_calm, sink_serving}
use Rattle.desk_model.specs.Answers as answer
use Rattle.desk_model.specs.Answers.{Answer}
use Rattle.desk_model.specs.Desks.{Desk, TakesIf, begins, flush_by, with_queue}
use Rattle.desk_model.specs.Events.{line_for}
use Rattle.desk_core.specs.Images.{kept_of, settled_of}
use Rattle.desk_core.specs.Playing.{CallsOnce, TakesRequest, owned}
use Rattle.desk_core.specs.Telling.{PutsAll, PutsReply}
use Rattle.desk_core.proofs.HandLaws.{no_hand}
use Rattle.desk_core.proofs.ImageLaws.{leaves_as, serves_leaves}

-- ---- whether a request begins a flush

-- one whose reply acknowledges no checkpoint doesn't
pub plain_begins : (limits : Limits) (t : State) (r : Request)
    → acknowledges (served limits t r).reply ≡ false
    → begins limits t r ≡ false
plain_begins limits t (ask.change c) plain = elim (makes limits t (ask.change c))
    as (λ _. begins limits t (ask.change c) ≡ false) [
      | inl one ↦ absurd (let e : true ≡ false = sym one.acknowledged ∙ plain in cc)
      | inr none ↦ ap (nat_lt 0) none.least
    ]
plain_begins limits t (ask.get name) plain = refl
plain_begins limits t (ask.old name) plain = refl
plain_begins limits t ask.keep plain = refl
plain_begins limits t ask.back plain = refl
plain_begins limits t ask.list plain = refl
plain_begins limits t ask.stat plain = refl

-- the first line of a reply that acknowledges none
pub line_plain : (reply : Reply) → is_kept (reply_line_of reply) ≡ false → acknowledges reply ≡ false
line_plain ask.done is = refl
line_plain ask.kept is = absurd (cc)
line_plain (ask.found object) is = refl
line_plain (ask.refused why) is = refl
line_plain (ask.listed entries) is = refl
line_plain (ask.counts names bytes kept_names kept_bytes) is = refl

pub refused_plain : (x : Refusal) → IfOk (answer_of x) (λ y. is_kept y ≡ false)
refused_plain why.BadName = refl
refused_plain why.TooLong = refl
refused_plain why.Missing = refl
refused_plain why.Damaged = refl
refused_plain why.Full = refl
refused_plain why.Worn = refl
refused_plain why.Sink = tt
refused_plain why.Disk = tt
refused_plain why.Broken = tt
refused_plain why.TooMany = tt

-- ---- what a desk may do, whatever was put

change_ordered : (limits : Limits) (t : State) (c : Change) (q : Bool)
    → (next_book limits.k t.map t.book c).quiet ≡ q
    → (served_change limits t c).saves.least ≤ (served_change limits t c).saves.most
change_ordered limits t c true is = rw is (omega arith)
change_ordered limits t c false is = rw is (omega arith)

accepted_ordered : (limits : Limits) (t : State) (r : Request)
    → (accepted limits t r).saves.least ≤ (accepted limits t r).saves.most
accepted_ordered limits t (ask.change c) = change_ordered limits t c (next_book limits.k t.map t.book c).quiet
    refl
accepted_ordered limits t (ask.get name) = omega arith
accepted_ordered limits t (ask.old name) = omega arith
accepted_ordered limits t ask.keep = omega arith
accepted_ordered limits t ask.back = omega arith
accepted_ordered limits t ask.list = omega arith
accepted_ordered limits t ask.stat = omega arith

saves_ordered : (limits : Limits) (t : State) (r : Request)
    → (served limits t r).saves.least ≤ (served limits t r).saves.most
saves_ordered limits t r = by (refusal limits (facts_of t r) r) refl
  where
    by : (o : Option Refused) → refusal limits (facts_of t r) r ≡ o
        → (served limits t r).saves.least ≤ (served limits t r).saves.most
    by None e = subst (λ (x : Served). x.saves.least ≤ x.saves.most) (sym (served_by limits t r None e))
        (accepted_ordered limits t r)
    by (Some w) e = subst (λ (x : Served). x.saves.least ≤ x.saves.most)
        (sym (served_by limits t r (Some w) e)) (omega arith)

record MayTake (b : Bool) (limits : Limits) (session : ℕ) (r : Request) (rest : List Request) (d : Desk)
    : Type 0 where
  answer : Answer
  desk : Desk
  takes : TakesIf b limits session r rest d answer desk

may_take : (b : Bool) (limits : Limits) (session : ℕ) (r : Request) (rest : List Request) (d : Desk)
    → MayTake b limits session r rest d
may_take true limits session r rest d = record {
  answer = answer.begun session;
  desk = record (with_queue d session rest) {
    state = (served limits d.state r).state;
    hand = Some (flush_by limits d.state session r);
  };
  takes = (refl, refl);
}
may_take false limits session r rest d =
    let x = served limits d.state r in
    let t : State = record x.state { sequence = d.state.sequence + x.saves.least } in
    record {
      answer = answer.to session x.reply;
      desk = record (with_queue d session rest) { state = t };
      takes = (
        refl,
        record {
          replied = refl;
          state = refl;
          low = omega arith;
          high = omega (arith, saves_ordered limits d.state r);
        },
        refl,
      );
    }

pub always_ok : {A E P : Type 0} (x : Result A E) → P → IfOk x (λ y. P)
always_ok (Ok y) p = p
always_ok (Err e) p = tt

-- ---- requests whose reply is one line

module _ {C : ℕ} (session : ℕ) (r : Request) (s new : StoreValue) (of : ℕ) (a d : disk.State)
    (can : CanServe C s a) (once : CallsOnce s new a d) (out after : SinkState)
    (result : Result (Unit {0}) End) where
  line_text : (x : text.Reply) (reply : Reply) → x ≡ reply_line_of reply → rest_of reply ≡ []
      → first_line x ≡ reply_text reply
  line_text x reply is none = ap first_line is ∙ sym (append-nil (first_line (reply_line_of reply)))
      ∙ ap (λ (xs : List ℕ). first_line (reply_line_of reply) ++ xs) (sym none)

  -- the reply was put, or a front of it
  answered : (x : text.Reply) → Answers C r s new a d (Ok x)
      → (IsTrue a.tells → begins (limits_of s) (state_of s a.file) r ≡ false)
      → PutsAll (line_for (codes "to") session ++ first_line x) out after result
      → TakesRequest C session r (owned s of) (owned new of) (devices a out) (devices d after) result
  answered x h calm_begins p = record {
    plays = λ told desk rest shown free.
        let e = shown.idle can.idle in
        let limits = limits_of s in
        let t = state_of new d.file in
        let none : begins limits desk.state r ≡ false = subst (λ (u : State). begins limits u r ≡ false)
        (sym e.1) (calm_begins told) in
        let step : Step limits desk.state r (served limits desk.state r).reply t =
        subst (λ (u : State). Step limits u r (served limits u r).reply t) (sym e.1)
        (h.serves.step told refl) in
        record {
          answer = answer.to session (served limits desk.state r).reply;
          desk = record (with_queue desk session rest) { state = t };
          step = subst (λ (b : Bool). TakesIf b limits session r rest desk
              (answer.to session (served limits desk.state r).reply)
              (record (with_queue desk session rest) { state = t })) (sym none) (refl, step, refl);
          shown = λ calm. record {
            idle = λ is. (e.0, refl);
            held = λ k is. absurd (no_hand is h.serves.over.idle);
          };
          puts = λ sink. puts_as (line_for (codes "to") session ++ first_line x)
              (line_for (codes "to") session ++ reply_text (served limits desk.state r).reply)
              out.given after.given result
              (ap (λ (xs : List ℕ). line_for (codes "to") session ++ xs)
              (line_text x (reply_at s a.file r) (h.replied told) (h.line told)
              ∙ ap (λ (u : State). reply_text (served limits u r).reply) (sym e.1))) (p.put sink);
        };
    images = λ told desk shown free k rests. leaves_as new a d (settled_of k desk)
        (kept_of (served (limits_of s) desk.state r).state) (Ok x) result (λ is. refl)
        (serves_leaves r s new of a d (Ok x) can.idle h.serves told desk shown k rests);
    goes = record {
      readable = inl h.serves.over;
      broken = λ bad. absurd (let e : false ≡ true = sym (h.serves.broken ∙ and-false (is_changing r)) ∙ bad
          in cc);
      block = λ calm. h.serves.block refl;
      frame = h.serves.frame;
      only = sink_serving result p.only;
      disk_cause = calm_disk (λ is. no_disk_fault result (sink_calm result p.only) is)
          (h.disk_cause.calm (λ is. absurd (cc)));
      sink_cause = p.cause;
    };
    of_is = inl refl;
    calls = once;
  }

  -- the disk failed
  stopped : (end : End) → Answers C r s new a d (Err end) → result ≡ Err end → after ≡ out
      → TakesRequest C session r (owned s of) (owned new of) (devices a out) (devices d after) result
  stopped end h is same =
      let disk : result ≡ Err ends.Disk = is ∙ ap (λ (x : End). Err x) h.only in
      let h' : Answers C r s new a d (Err ends.Disk) =
      subst (λ (x : End). Answers C r s new a d (Err x)) h.only h in
      subst (λ (y : Result (Unit {0}) End). TakesRequest C session r (owned s of) (owned new of)
      (devices a out)
      (devices d after) y) (sym disk) (record {
        plays = λ told desk rest shown free.
            let m = may_take (begins (limits_of s) desk.state r) (limits_of s) session r rest desk in
            record {
              answer = m.answer;
              desk = m.desk;
              step = m.takes;
              shown = λ calm. absurd (cc);
              puts = λ sink. puts_none (answer.answer_text m.answer) out.given after.given ends.Disk
                  (ap (λ (o : SinkState). o.given) same);
            };
        images = λ told desk shown free k rests. leaves_as new a d (settled_of k desk)
            (kept_of (served (limits_of s) desk.state r).state) (Err ends.Disk) (Err ends.Disk) (λ is. is)
            (serves_leaves r s new of a d (Err ends.Disk) can.idle h'.serves told desk shown k rests);
        goes = record {
          readable = inl h'.serves.over;
          broken = λ bad. refl;
          block = λ calm. absurd (cc);
          frame = h'.serves.frame;
          only = tt;
          disk_cause = record {
            later = h'.disk_cause.later;
            rose = λ is. h'.disk_cause.rose refl;
            calm = λ other. absurd (other refl);
          };
          sink_cause = calm_sink (λ is. absurd (cc)) (ap (λ (o : SinkState). o.faults) same)
              (ap (λ (o : SinkState). o.tells) same);
        };
        of_is = inl refl;
        calls = once;
      })

  pub answer_takes : (x : Result text.Reply End) → Answers C r s new a d x
      → (IsTrue a.tells → IfOk x (λ y. begins (limits_of s) (state_of s a.file) r ≡ false))
      → PutsReply session out after x result
      → TakesRequest C session r (owned s of) (owned new of) (devices a out) (devices d after) result
  answer_takes (Ok y) h calm_begins p = answered y h calm_begins p
  answer_takes (Err end) h calm_begins p = stopped end h p.0 p.1
