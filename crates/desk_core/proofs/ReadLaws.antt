-- Reads that a desk takes, also while a flush is in hand.
use Rattle.std.specs.Prelude.{◌≡◌, ℕ, Bool, true, false, not, ◌||◌, ◌==◌, List, ◌∷◌, ◌++◌, [], codes, Option, Some, None, Result, Ok, Err, IfErr, IsTrue, refl}
use Rattle.std.proofs.Common.{arith, ap, sym, ◌∙◌, subst, inl, inr}
use Rattle.std.specs.FinMap as fin
use Rattle.disk_face.specs.Devices.{devices}
use Rattle.disk_face.specs.Frames.{Unchanged}
use Rattle.disk_face.specs.States as disk
use Rattle.disk_face.specs.States.{IsLawful}
use Rattle.disk_face.specs.Streams.{SinkState}
use Rattle.slot_pair.specs.Finding.{HasDiskCause}
use Rattle.map_model.specs.Maps.{Map}
use Rattle.map_model.specs.Requests as ask
use Rattle.map_model.specs.Requests.{Refused, Reply, Request}
use Rattle.segment_layout.specs.Books.{Book}
use Rattle.data_area.proofs.CauseLaws.{calm_disk, disk_cause_as, sink_cause_after, sink_cause_as}
use Rattle.store_model.proofs.RequestLaws.{served_by}
use Rattle.data_area.specs.Causes.{HasSinkCause}
use Rattle.store_model.specs.Connection.{IsOver, StoreValue, limits_of, state_of}
use Rattle.store_model.specs.Halves.{IsReadable}
use Rattle.store_model.specs.States.{Limits, Served, State, Step, accepted, facts_of, first_refusal, name_test, refusal, served, unchanged}
use Rattle.store_model.proofs.HalfLaws.{halfway_read}
use Rattle.ask_text.specs.Replies.{reply_text}
use Rattle.ask_text.specs.declared.ends.End.{End}
use Rattle.ask_text.specs.declared.ends.End.TheVariants as ends
use Rattle.ask_session.specs.Serving.{GivesReply, IsServingFault, PutsText, reply_at}
use Rattle.ask_session.proofs.PutLaws.{puts_as, puts_cut, puts_then}
use Rattle.desk_model.specs.Answers as answer
use Rattle.desk_model.specs.Desks.{Desk, Flush, TakesIf, begins, is_read, waits, with_queue}
use Rattle.desk_model.specs.Events.{line_for}
use Rattle.desk_core.specs.Images.{kept_of}
use Rattle.desk_core.specs.Playing.{KeepsGoing, TakesRequest, owned}
use Rattle.desk_core.specs.Shows.{ShowsStore}
use Rattle.desk_core.specs.Telling.{PutsAll}
use Rattle.desk_core.proofs.ImageLaws.{leaves_same, leaves_unchanged}
use Rattle.disk_face.proofs.FrameLaws.{unchanged_itself}

-- ---- what a read leaves

-- the state stays, and no flush begins
pub record IsStill (limits : Limits) (t : State) (r : Request) : Type 0 where
  pub stays : served limits t r ≡ unchanged t (served limits t r).reply
  pub begins_none : begins limits t r ≡ false

stays_as : {x : Served} {t : State} {reply : Reply} → x ≡ unchanged t reply → x ≡ unchanged t x.reply
stays_as {x} {t} is = is ∙ ap (λ (y : Served). unchanged t y.reply) (sym is)

still_get : (limits : Limits) (t : State) (name : List ℕ) → IsStill limits t (ask.get name)
still_get limits t name = record {
  stays = by (refusal limits (facts_of t (ask.get name)) (ask.get name)) refl;
  begins_none = refl;
}
  where
    by : (o : Option Refused) → refusal limits (facts_of t (ask.get name)) (ask.get name) ≡ o
        → served limits t (ask.get name) ≡ unchanged t (served limits t (ask.get name)).reply
    by None e = stays_as (served_by limits t (ask.get name) None e)
    by (Some w) e = stays_as (served_by limits t (ask.get name) (Some w) e)

still_old : (limits : Limits) (t : State) (name : List ℕ) → IsStill limits t (ask.old name)
still_old limits t name = record {
  stays = by (refusal limits (facts_of t (ask.old name)) (ask.old name)) refl;
  begins_none = refl;
}
  where
    by : (o : Option Refused) → refusal limits (facts_of t (ask.old name)) (ask.old name) ≡ o
        → served limits t (ask.old name) ≡ unchanged t (served limits t (ask.old name)).reply
    by None e = stays_as (served_by limits t (ask.old name) None e)
    by (Some w) e = stays_as (served_by limits t (ask.old name) (Some w) e)

still_list : (limits : Limits) (t : State) → IsStill limits t ask.list
still_list limits t = record {
  stays = stays_as (served_by limits t ask.list None refl);
  begins_none = refl;
}

pub still_step : (limits : Limits) (t : State) (r : Request) → IsStill limits t r
    → Step limits t r (served limits t r).reply t
still_step limits t r still = record {
  replied = refl;
  state = ap (λ (x : Served). record x.state { sequence = t.sequence }) (sym still.stays);
  low = omega (arith, ap (λ (x : Served). x.saves.least) still.stays);
  high = omega (arith, ap (λ (x : Served). x.saves.most) still.stays);
}

-- ---- what a read is replied depends on the map and the digests alone

-- two states reply the same
pub record SameToReads (t u : State) : Type 0 where
  pub map : t.map ≡ u.map
  pub digests : t.book.digests ≡ u.book.digests

get_same : (limits : Limits) (t u : State) (name : List ℕ) → SameToReads t u
    → (served limits t (ask.get name)).reply ≡ (served limits u (ask.get name)).reply
get_same limits t u name same = by (refusal limits (facts_of u r) r) refl
  where
    r : Request
    r = ask.get name

    refused : refusal limits (facts_of t r) r ≡ refusal limits (facts_of u r) r
    refused = ap (λ (m : Map). first_refusal (name_test name
        ++ (not (fin.contains_key m name), ask.missing) ∷ [])) same.map

    by : (o : Option Refused) → refusal limits (facts_of u r) r ≡ o
        → (served limits t r).reply ≡ (served limits u r).reply
    by None e =
        ap (λ (x : Served). x.reply) (served_by limits t r None (refused ∙ e))
        ∙ ap (λ (m : Map). (accepted limits (record t { map = m }) r).reply) same.map
        ∙ ap (λ (d : Option Map). (accepted limits (record u { book = record t.book { digests = d } })
        r).reply)
        same.digests
        ∙ sym (ap (λ (x : Served). x.reply) (served_by limits u r None e))
    by (Some w) e =
        ap (λ (x : Served). x.reply) (served_by limits t r (Some w) (refused ∙ e))
        ∙ sym (ap (λ (x : Served). x.reply) (served_by limits u r (Some w) e))

list_same : (limits : Limits) (t u : State) → SameToReads t u
    → (served limits t ask.list).reply ≡ (served limits u ask.list).reply
list_same limits t u same =
    ap (λ (x : Served). x.reply) (served_by limits t ask.list None refl)
    ∙ ap (λ (m : Map). (accepted limits (record t { map = m }) ask.list).reply) same.map
    ∙ sym (ap (λ (x : Served). x.reply) (served_by limits u ask.list None refl))

-- a request that leaves the state, with the reply that depends on no more where it may be served at any time
pub record IsReading (r : Request) : Type 0 where
  pub still : (limits : Limits) (t : State) → IsStill limits t r
  pub same : is_read r ≡ true → (limits : Limits) (t u : State) → SameToReads t u
      → (served limits t r).reply ≡ (served limits u r).reply

pub reading_get : (name : List ℕ) → IsReading (ask.get name)
reading_get name = record {
  still = λ limits t. still_get limits t name;
  same = λ is limits t u same. get_same limits t u name same;
}

pub reading_old : (name : List ℕ) → IsReading (ask.old name)
reading_old name = record {
  still = λ limits t. still_old limits t name;
  same = λ is. absurd (let e : false ≡ true = is in cc);
}

pub reading_list : IsReading ask.list
reading_list = record {
  still = λ limits t. still_list limits t;
  same = λ is limits t u same. list_same limits t u same;
}

-- what needn't wait while a flush is in hand may be read
read_of : (f : Flush) (session : ℕ) (r : Request) → waits (Some f) session r ≡ false → is_read r ≡ true
read_of f session r free = by (f.session == session) (is_read r) free
  where
    by : (a b : Bool) → (a || not b) ≡ false → b ≡ true
    by true b is = absurd (cc)
    by false true is = refl
    by false false is = absurd (cc)

-- ---- an answer without what it says of checkpoints

abbrev pub unit_of : Result Bool End → Result (Unit {0}) End
unit_of (Ok b) = Ok tt
unit_of (Err end) = Err end

puts_unit : (text a b : List ℕ) (y : Result Bool End) → PutsText text a b y → PutsText text a b (unit_of y)
puts_unit text a b (Ok x) p = record { all = p.all; front = tt }
puts_unit text a b (Err end) p = record { all = tt; front = p.front }

only_unit : (y : Result Bool End) → IfErr y IsServingFault → IfErr (unit_of y) IsServingFault
only_unit (Ok b) is = tt
only_unit (Err end) is = is

disk_unit : (a b : ℕ) (y : Result Bool End) → HasDiskCause ends.Disk a b y
    → HasDiskCause ends.Disk a b (unit_of y)
disk_unit a b (Ok x) c =
    record { later = c.later; rose = λ is. absurd (cc); calm = λ other. c.calm (λ is. absurd (cc)) }
disk_unit a b (Err end) c = disk_cause_as c (λ is. let e : end ≡ ends.Disk = (cc) in ap (λ (x : End). Err x)
    e)
    (λ is. let e : end ≡ ends.Disk = (cc) in ap (λ (x : End). Err x) e)

sink_unit : (a b : SinkState) (y : Result Bool End) → HasSinkCause ends.Sink a b y
    → HasSinkCause ends.Sink a b (unit_of y)
sink_unit a b (Ok x) c = record {
  later = c.later;
  rose = λ is. absurd (cc);
  calm = λ other. c.calm (λ is. absurd (cc));
  told = c.told;
}
sink_unit a b (Err end) c = sink_cause_as c
    (λ is. let e : end ≡ ends.Sink = (cc) in ap (λ (x : End). Err x) e)
    (λ is. let e : end ≡ ends.Sink = (cc) in ap (λ (x : End). Err x) e)

-- a reply has a text
pub reply_some : (reply : Reply) → reply_text reply ≡ [] → ⊥
reply_some ask.done is = absurd (cc)
reply_some ask.kept is = absurd (cc)
reply_some (ask.found object) is = absurd (cc)
reply_some (ask.refused why) is = absurd (cc)
reply_some (ask.listed entries) is = absurd (cc)
reply_some (ask.counts names bytes kept_names kept_bytes) is = absurd (cc)

-- ---- a read that is taken

module _ {C : ℕ} (session : ℕ) (r : Request) (reading : IsReading r) (s : StoreValue) (of : ℕ)
    (a : disk.State) (over : IsReadable C s a) (whole : s.is_broken ≡ false) where
  -- the reply is that of the desk
  same_reply : (d : Desk) → ShowsStore s of a.file d → waits d.hand session r ≡ false
      → (served (limits_of s) d.state r).reply ≡ reply_at s a.file r
  same_reply d shown free = by over
    where
      by : IsReadable C s a → (served (limits_of s) d.state r).reply ≡ reply_at s a.file r
      by (inl idle) = ap (λ (t : State). (served (limits_of s) t r).reply) (shown.idle idle.idle).1
      by (inr half) =
          let x = shown.held half.hand half.is in
          let read : is_read r ≡ true =
          read_of x.0 session r (subst (λ (o : Option Flush). waits o session r ≡ false) x.1 free) in
          reading.same read (limits_of s) d.state (state_of s a.file) (record {
            map = x.2.map;
            digests = ap (λ (b : Book). b.digests) x.2.book ∙ sym half.digests;
          })

  takes : (d : Desk) (rest : List Request)
      → TakesIf (begins (limits_of s) d.state r) (limits_of s) session r rest d
      (answer.to session (served (limits_of s) d.state r).reply)
      (record (with_queue d session rest) { state = d.state })
  takes d rest = subst (λ (b : Bool). TakesIf b (limits_of s) session r rest d
      (answer.to session (served (limits_of s) d.state r).reply)
      (record (with_queue d session rest) { state = d.state }))
      (sym (reading.still (limits_of s) d.state).begins_none)
      (refl, still_step (limits_of s) d.state r (reading.still (limits_of s) d.state), refl)

  -- the same store over a file that is the same
  still_shown : (file : List ℕ) → file ≡ a.file → (d : Desk) (rest : List Request) → ShowsStore s of a.file d
      → ShowsStore s of file (record (with_queue d session rest) { state = d.state })
  still_shown file same d rest shown = subst (λ (x : List ℕ). ShowsStore s of x
      (record (with_queue d session rest) { state = d.state })) (sym same)
      (record { idle = shown.idle; held = shown.held })

  readable_then : (d : disk.State) → Unchanged a d → IsReadable C s d
  readable_then d same = by over
    where
      by : IsReadable C s a → IsReadable C s d
      by (inl idle) = inl (record {
        idle = idle.idle;
        over = λ whole told.
            let was : IsTrue a.tells = subst IsTrue same.stays.told told in
            subst (λ (x : List ℕ). IsOver C s x) (sym (same.same_file was)) (idle.over whole was);
      })
      by (inr half) = inr (halfway_read same half)

  module _ (d : disk.State) (out mid : SinkState) where
    -- what goes on after a read
    goes_on : (after : SinkState) (result : Result (Unit {0}) End) → Unchanged a d
        → IfErr result IsServingFault → HasDiskCause ends.Disk a.faults d.faults result
        → HasSinkCause ends.Sink out after result
        → KeepsGoing C s s (devices a out) (devices d after) result
    goes_on after result same only disk_cause sink_cause = record {
      readable = readable_then d same;
      broken = λ bad. absurd (let e : false ≡ true = sym whole ∙ bad in cc);
      block = λ calm. refl;
      frame = record { no_turn_back = omega (arith, same.same_turn); stays = same.stays };
      only = only;
      disk_cause = disk_cause;
      sink_cause = sink_cause;
    }

    -- the line of the session was put, and the reply behind it, or a front of that where a device failed
    pub gives_take : (after : SinkState) (new : StoreValue) (y : Result Bool End) → IsLawful a
        → PutsAll (line_for (codes "to") session) out mid (Ok tt)
        → GivesReply r s new (devices a mid) (devices d after) y
        → TakesRequest C session r (owned s of) (owned new of) (devices a out) (devices d after) (unit_of y)
    gives_take after new y lawful first g =
        subst (λ (x : StoreValue). TakesRequest C session r (owned s of) (owned x of) (devices a out)
        (devices d after)
        (unit_of y)) (sym g.store) (record {
          plays = λ told desk rest shown free. record {
            answer = answer.to session (served (limits_of s) desk.state r).reply;
            desk = record (with_queue desk session rest) { state = desk.state };
            step = takes desk rest;
            shown = λ calm. still_shown d.file (g.still.same_file told) desk rest shown;
            puts = λ sink.
                let line = line_for (codes "to") session in
                let reply = (served (limits_of s) desk.state r).reply in
                puts_then line (reply_text reply) out.given mid.given after.given (unit_of y)
                (λ fault none. reply_some reply none) (first.put sink).all
                (puts_unit (reply_text reply) mid.given after.given y
                (puts_as (reply_text (reply_at s a.file r)) (reply_text reply) mid.given after.given y
                (ap reply_text (sym (same_reply desk shown free)))
                (g.puts told (subst IsTrue (sym first.cause.told) sink))));
          };
          images = λ told desk shown free k rests. leaves_unchanged s of a d desk
              (kept_of (served (limits_of s) desk.state r).state) (unit_of y) lawful g.still told shown k
              rests;
          goes = goes_on after (unit_of y) g.still (only_unit y g.only)
              (disk_unit a.faults d.faults y g.disk_cause)
              (sink_cause_after (first.cause.calm (λ is. absurd (cc))) first.cause.told
              (sink_unit mid after y g.sink_cause));
          of_is = inl refl;
          calls = inl (omega (arith, g.still.same_turn));
        })

  -- the sink failed at the line of the session
  pub cut_take : (out mid : SinkState) (end : End)
      → PutsAll (line_for (codes "to") session) out mid (Err end)
      → IsTrue a.is_ready → TakesRequest C session r (owned s of) (owned s of) (devices a out)
      (devices a mid) (Err end)
  cut_take out mid end first ready = record {
    plays = λ told desk rest shown free. record {
      answer = answer.to session (served (limits_of s) desk.state r).reply;
      desk = record (with_queue desk session rest) { state = desk.state };
      step = takes desk rest;
      shown = λ calm. still_shown a.file refl desk rest shown;
      puts = λ sink. puts_cut (line_for (codes "to") session)
          (reply_text (served (limits_of s) desk.state r).reply) out.given mid.given end first.only
          (first.put sink);
    };
    images = λ told desk shown free k rests. leaves_same s s of a a desk
        (kept_of (served (limits_of s) desk.state r).state) (Err end) shown refl refl k rests;
    goes = goes_on a out mid mid (Err end) (unchanged_itself a ready)
        (subst IsServingFault (sym first.only) tt)
        (calm_disk (λ is. absurd (let e : end ≡ ends.Disk = (cc) in let f : ends.Sink ≡ ends.Disk =
        sym first.only ∙ e in cc)) refl) first.cause;
    of_is = inl refl;
    calls = inl (omega arith);
  }
