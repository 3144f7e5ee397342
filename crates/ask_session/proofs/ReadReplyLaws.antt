-- Replies to reads: an object, a list, or what is told of an object that is there, also where a flush is in
-- hand.
use Rattle.std.specs.Prelude.{◌≡◌, ℕ, Bool, true, false, List, ◌++◌, length, codes, Option, Some, None, Result, Ok, Err, IfErr, IfOk, IsTrue, refl}
use Rattle.std.proofs.Common.{ap, sym, ◌∙◌, subst, inl, append_assoc, append-nil}
use Rattle.std.specs.FinMap as fin
use Rattle.disk_face.specs.Devices.{devices}
use Rattle.disk_face.specs.States as disk
use Rattle.disk_face.specs.Frames.{Unchanged}
use Rattle.disk_face.specs.Streams.{SinkState}
use Rattle.slot_pair.specs.Finding.{HasDiskCause}
use Rattle.map_model.specs.Requests as ask
use Rattle.map_model.specs.Requests.{Refused, Reply, Request}
use Rattle.extent_table.specs.declared.spot.Spot.{Spot}
use Rattle.store_model.specs.declared.answers.Moment.{Moment}
use Rattle.store_model.specs.declared.answers.Moment.TheVariants as moment
use Rattle.store_model.specs.declared.answers.Refusal.{Refusal}
use Rattle.store_model.specs.Answers.{AnswersNumber, facts_at, refusal_for, refused_by, size_at}
use Rattle.slot_codec.specs.Names.{is_name}
use Rattle.store_model.specs.Connection.{StoreValue, base_of, limits_of, state_of}
use Rattle.store_model.specs.Readings.{asks_for, is_damaged_read, object_read, spot_read}
use Rattle.data_area.specs.Causes.{HasSinkCause}
use Rattle.store_model.specs.States.{Facts, Limits, Served, State, Step, accepted, facts_of, object_in, refusal, unchanged}
use Rattle.store_model.proofs.HalfLaws.{readable_kept, readable_now, standing_of}
use Rattle.store_model.proofs.StateLaws.{listing-read_at}
use Rattle.data_area.proofs.CauseLaws.{calm_disk, sink_cause_after, sink_cause_as}
use Rattle.store_model.proofs.AnsweredLaws.{live_if, number_served, object_size, refused_is, served_is}
use Rattle.store_model.proofs.RequestLaws.{served_by}
use Rattle.store_model.proofs.StepLaws.{facts_same, read_reply}
use Rattle.store_model.specs.Lines.{lines_of, listing_of}
use Rattle.std.proofs.lemmas.List.{length-map}
use Rattle.ask_text.specs.Replies.{first_line, reply_text, told_for}
use Rattle.ask_text.specs.declared.reply.Reply as text
use Rattle.ask_text.specs.declared.reply.Reply.TheVariants as head
use Rattle.ask_text.specs.declared.reply.RefusedWord.TheVariants as word
use Rattle.ask_text.specs.declared.ends.End.{End}
use Rattle.ask_text.specs.declared.ends.End.TheVariants as ends
use Rattle.ask_session.specs.Putting.{PutsAnswer}
use Rattle.ask_session.specs.ReplyLines.{answer_of, object_text}
use Rattle.ask_session.specs.Serving.{GivesReply, IsServingFault, PutsText, Replies, acknowledges, calls_of, is_changing, is_disk, is_disk_fault, reply_at, served_at}
use Rattle.ask_session.proofs.MakesLaws.{acknowledges_none}
use Rattle.ask_session.proofs.PutLaws.{puts_as, puts_cut, puts_then}
use Rattle.ask_session.specs.Ready.{CanRead, CanServe}
use Rattle.ask_session.proofs.ServingLaws.{StaysAt}
use Rattle.ask_session.proofs.ReplyLaws.{no_disk_fault, reads_replies, sink_calm, sink_serving}
use Rattle.disk_face.proofs.FrameLaws.{unchanged_itself}

-- a store that may be asked anything may be read
pub can_read : {classes : ℕ} {s : StoreValue} {d : disk.State} → CanServe classes s d → CanRead classes s d
can_read {s = s} h = record {
  whole = h.whole;
  stands = standing_of s h.sound;
  sound = λ none. h.sound;
  readable = inl (record { idle = h.idle; over = λ whole told. h.over told });
  ready = h.ready;
}

-- ---- replies that are an object, or that it is damaged

-- the text of such a reply
text_of : (damaged : Bool) (size : ℕ) (object : List ℕ) → length object ≡ size
    → object_text damaged size object ≡ reply_text (read_reply damaged (ask.found object))
text_of true size object long = sym (append-nil (first_line (head.Refused word.Damaged)))
text_of false size object long = append_assoc (first_line (head.Data size)) object (codes "\n")
    ∙ ap (λ (m : ℕ). first_line (head.Data m) ++ (object ++ codes "\n")) (sym long)

-- a read that isn't refused for what is asked
pub found_gives : (r : Request) (s : StoreValue) (a d : disk.State) (damaged : Bool) (object : List ℕ)
    (size : ℕ) (out after : SinkState) (result : Result Bool End)
    → (IsTrue a.tells → reply_at s a.file r ≡ read_reply damaged (ask.found object))
    → (IsTrue a.tells → length object ≡ size)
    → Unchanged a d → IfOk result (λ kept. kept ≡ false)
    → (IsTrue a.tells → IsTrue out.tells
    → PutsText (object_text damaged size object) out.given after.given result)
    → IfErr result IsServingFault → HasDiskCause ends.Disk a.faults d.faults result
    → HasSinkCause ends.Sink out after result
    → GivesReply r s s (devices a out) (devices d after) result
found_gives r s a d damaged object size out after result is long same kept puts only disk_cause sink_cause =
    record {
      store = refl;
      still = same;
      kept = kept;
      puts = λ told sink. puts_as _ _ out.given after.given result
          (text_of damaged size object (long told) ∙ ap reply_text (sym (is told))) (puts told sink);
      only = only;
      disk_cause = disk_cause;
      sink_cause = sink_cause;
    }

-- ---- lists

-- the first line and the lines of a list
module _ {classes : ℕ} (s : StoreValue) (a : disk.State) (h : CanRead classes s a) (count : ℕ)
    (is : count ≡ fin.len s.now) where
  list_reply : IsTrue a.tells → reply_at s a.file ask.list ≡ ask.listed (listing_of s.now)
  list_reply told =
      ap (λ (x : Served). x.reply) (served_by (limits_of s) (state_of s a.file) ask.list None refl)
      ∙ ap ask.listed (listing-read_at (base_of s) a.file s.now h.stands.now_named
      (readable_now s a h.readable h.whole h.sound told))

  list_text : IsTrue a.tells → first_line (head.List count) ++ lines_of (listing_of s.now)
      ≡ reply_text (reply_at s a.file ask.list)
  list_text told =
      let long : count ≡ length (listing_of s.now) = is ∙ fin.len-entries s.now
      ∙ sym (length-map (fin.entries s.now) (λ (e : List ℕ × Spot). (e.0, e.1.size))) in
      ap (λ (m : ℕ). first_line (head.List m) ++ lines_of (listing_of s.now)) long
      ∙ ap reply_text (sym (list_reply told))

  pub listed_gives : (out mid after : SinkState) (x : Result (Unit {0}) End) (result : Result Bool End)
      → x ≡ Ok tt
      → (IsTrue out.tells → PutsText (first_line (head.List count)) out.given mid.given x)
      → HasSinkCause ends.Sink out mid x → IfOk result (λ kept. kept ≡ false)
      → (IsTrue mid.tells → PutsText (lines_of (listing_of s.now)) mid.given after.given result)
      → IfErr result (λ end. end ≡ ends.Sink) → HasSinkCause ends.Sink mid after result
      → GivesReply ask.list s s (devices a out) (devices a after) result
  listed_gives out mid after x result ok first first_cause kept puts only sink_cause =
      record {
        store = refl;
        still = unchanged_itself a h.ready;
        kept = kept;
        puts = λ told sink. puts_as _ _ out.given after.given result (list_text told)
            (puts_then (first_line (head.List count)) (lines_of
            (listing_of s.now)) out.given mid.given after.given result
            (λ fault. absurd (let e : true ≡ false = sym fault ∙ calm in cc)) (whole sink)
            (puts (subst IsTrue (sym first_cause.told) sink)));
        only = sink_serving result only;
        disk_cause = calm_disk (λ is. no_disk_fault result calm is) refl;
        sink_cause = sink_cause_after calm_first first_cause.told sink_cause;
      }
    where
      calm : is_disk_fault result ≡ false
      calm = sink_calm result only

      whole : IsTrue out.tells → mid.given ≡ out.given ++ first_line (head.List count)
      whole sink = (subst (λ (y : Result (Unit {0}) End). PutsText (first_line
          (head.List count)) out.given mid.given y) ok
          (first sink)).all

      calm_first : mid.faults ≡ out.faults
      calm_first = (subst (λ (y : Result (Unit {0}) End). HasSinkCause ends.Sink out mid y) ok
          first_cause).calm (λ is. absurd (cc))

  pub cut_list : (out mid : SinkState) (end : End) → end ≡ ends.Sink
      → (IsTrue out.tells → PutsText {T = Unit {0}} (first_line (head.List count)) out.given mid.given
      (Err end))
      → HasSinkCause {T = Unit {0}} ends.Sink out mid (Err end)
      → GivesReply ask.list s s (devices a out) (devices a mid) (Err end)
  cut_list out mid end sink_end first cause =
      record {
        store = refl;
        still = unchanged_itself a h.ready;
        kept = tt;
        puts = λ told sink. puts_as _ _ out.given mid.given (Err end) (list_text told)
            (puts_cut (first_line (head.List count)) (lines_of
            (listing_of s.now)) out.given mid.given end sink_end (first sink));
        only = subst IsServingFault (sym sink_end) tt;
        disk_cause = calm_disk (λ is. no_disk_fault (Err end) (ap is_disk sink_end) is) refl;
        sink_cause = sink_cause_as cause (λ is. ap (λ (x : End). Err x) sink_end)
            (λ is. ap (λ (x : End). Err x) sink_end);
      }

-- ---- get and old

-- what it refuses has a reply
pub refused_with : (s : StoreValue) (r : Request) (x : Refusal) → s.is_broken ≡ false
    → refused_by s r ≡ Some x
    → (w : Refused) × (refusal (limits_of s) (facts_at s r) r ≡ Some w) × (x ≡ refusal_for w)
refused_with s r x whole is = by (refusal (limits_of s) (facts_at s r) r) refl
  where
    by : (o : Option Refused) → refusal (limits_of s) (facts_at s r) r ≡ o
        → (w : Refused) × (refusal (limits_of s) (facts_at s r) r ≡ Some w) × (x ≡ refusal_for w)
    by None e = absurd (let f : None ≡ Some x = sym (refused_is s r None whole e) ∙ is in cc)
    by (Some w) e =
        let f : Some (refusal_for w) ≡ Some x = sym (refused_is s r (Some w) whole e) ∙ is in
        let same : x ≡ refusal_for w = (cc) in
        (w, e, same)

-- what is answered to a refusal
pub answer_is : (w : Refused) → answer_of (refusal_for w) ≡ Ok (head.Refused (told_for w))
answer_is ask.bad_name = refl
answer_is ask.too_long = refl
answer_is ask.missing = refl
answer_is ask.damaged = refl
answer_is ask.full = refl
answer_is ask.worn = refl

-- what a request is refused by, over a file
refusal_here : {classes : ℕ} (s : StoreValue) (a : disk.State) (r : Request) → CanRead classes s a
    → refusal (limits_of s) (facts_of (state_of s a.file) r) r ≡ refusal (limits_of s) (facts_at s r) r
refusal_here s a r h = ap (λ (f : Facts). refusal (limits_of s) f r)
    (facts_same s a.file r h.stands.now_named h.stands.kept_named)

-- a refusal that is put
pub refused_gives : {classes : ℕ} (r : Request) (s : StoreValue) (a : disk.State) (out after : SinkState)
    (x : Refusal) (answer : Result text.Reply End) (result : Result Bool End) → CanRead classes s a
    → refused_by s r ≡ Some x → answer ≡ answer_of x → PutsAnswer out after answer result
    → GivesReply r s s (devices a out) (devices a after) result
refused_gives r s a out after x answer result h is same puts =
    let w = refused_with s r x h.whole is in
    let said : answer ≡ Ok (head.Refused (told_for w.0)) = same ∙ ap answer_of w.2 ∙ answer_is w.0 in
    let p : PutsAnswer out after (Ok (head.Refused (told_for w.0))) result =
    subst (λ (y : Result text.Reply End). PutsAnswer out after y result) said puts in
    let reply : reply_at s a.file r ≡ ask.refused w.0 = ap (λ (y : Served). y.reply)
    (served_by (limits_of s) (state_of s a.file) r (Some w.0) (refusal_here s a r h ∙ w.1)) in
    record {
      store = refl;
      still = unchanged_itself a h.ready;
      kept = p.kept;
      puts = λ told sink. puts_as _ _ out.given after.given result
          (sym (append-nil (first_line (head.Refused (told_for w.0)))) ∙ ap reply_text (sym reply))
          (p.put sink);
      only = sink_serving result p.only;
      disk_cause = calm_disk (no_disk_fault result (sink_calm result p.only)) refl;
      sink_cause = p.cause;
    }

-- what a get is replied
pub get_served : {classes : ℕ} (s : StoreValue) (a : disk.State) (name : List ℕ) → CanRead classes s a
    → refused_by s (ask.get name) ≡ None
    → served_at s a.file (ask.get name) ≡ unchanged (state_of s a.file)
    (read_reply (is_damaged_read (state_of s a.file) (ask.get name))
    (ask.found (object_in (state_of s a.file).map name)))
get_served s a name h is = served_by (limits_of s) (state_of s a.file) (ask.get name) None
    (refusal_here s a (ask.get name) h ∙ served_is s (ask.get name) h.whole is)

pub get_long : {classes : ℕ} (s : StoreValue) (a : disk.State) (name : List ℕ) (size : ℕ)
    → CanRead classes s a
    → AnswersNumber (refused_by s (ask.get name)) (size_at (fin.get s.now name)) (Ok size) → IsTrue a.tells
    → length (object_in (state_of s a.file).map name) ≡ size
get_long s a name size h answer told =
    let served = number_served (refused_by s (ask.get name)) (size_at (fin.get s.now name)) size answer in
    object_size (base_of s) a.file s.now name h.stands.now_named
    (readable_now s a h.readable h.whole h.sound told)
    (live_if (is_name name) (fin.contains_key s.now name) (served_is s (ask.get name) h.whole served.0))
    ∙ sym served.1

old_served : {classes : ℕ} (s : StoreValue) (a : disk.State) (name : List ℕ) → CanRead classes s a
    → refused_by s (ask.old name) ≡ None
    → served_at s a.file (ask.old name) ≡ unchanged (state_of s a.file)
    (read_reply (is_damaged_read (state_of s a.file) (ask.old name))
    (ask.found (object_in (state_of s a.file).kept name)))
old_served s a name h is = served_by (limits_of s) (state_of s a.file) (ask.old name) None
    (refusal_here s a (ask.old name) h ∙ served_is s (ask.old name) h.whole is)

old_long : {classes : ℕ} (s : StoreValue) (a : disk.State) (name : List ℕ) (size : ℕ)
    → CanRead classes s a
    → AnswersNumber (refused_by s (ask.old name)) (size_at (fin.get s.kept name)) (Ok size) → IsTrue a.tells
    → length (object_in (state_of s a.file).kept name) ≡ size
old_long s a name size h answer told =
    let served = number_served (refused_by s (ask.old name)) (size_at (fin.get s.kept name)) size answer in
    object_size (base_of s) a.file s.kept name h.stands.kept_named
    (readable_kept s a h.readable h.whole h.sound h.stands.kept_named told)
    (live_if (is_name name) (fin.contains_key s.kept name) (served_is s (ask.old name) h.whole served.0))
    ∙ sym served.1

-- ---- an object of now or of the last checkpoint

pub object_served : {classes : ℕ} (s : StoreValue) (a : disk.State) (m : Moment) (name : List ℕ)
    → CanRead classes s a → refused_by s (asks_for m name) ≡ None
    → reply_at s a.file (asks_for m name) ≡ read_reply (is_damaged_read (state_of s a.file) (asks_for m name))
    (ask.found (object_read (state_of s a.file) (asks_for m name)))
object_served s a moment.Now name h is = ap (λ (x : Served). x.reply) (get_served s a name h is)
object_served s a moment.Kept name h is = ap (λ (x : Served). x.reply) (old_served s a name h is)

-- whether an object is damaged, by the reply
fine_by : (b : Bool) (x y : List ℕ) → ask.found x ≡ read_reply b (ask.found y) → b ≡ false
fine_by true x y e = absurd (cc)
fine_by false x y e = refl

damaged_by : (b : Bool) (y : List ℕ) → ask.refused ask.damaged ≡ read_reply b (ask.found y) → b ≡ true
damaged_by true y e = refl
damaged_by false y e = absurd (cc)

module _ {classes : ℕ} (s : StoreValue) (a : disk.State) (m : Moment) (name : List ℕ)
    (h : CanRead classes s a) (served : refused_by s (asks_for m name) ≡ None) (t : State) where
  abbrev is_damaged_here : Bool
  is_damaged_here = is_damaged_read (state_of s a.file) (asks_for m name)

  replied : (reply : Reply) → Step (limits_of s) (state_of s a.file) (asks_for m name) reply t
      → reply ≡ read_reply is_damaged_here
      (ask.found (object_read (state_of s a.file) (asks_for m name)))
  replied reply step = step.replied ∙ object_served s a m name h served

  pub found_fine : (object : List ℕ)
      → Step (limits_of s) (state_of s a.file) (asks_for m name) (ask.found object) t
      → is_damaged_here ≡ false
  found_fine object step = fine_by is_damaged_here object
      (object_read (state_of s a.file) (asks_for m name)) (replied (ask.found object) step)

  pub found_damaged : Step (limits_of s) (state_of s a.file) (asks_for m name) (ask.refused ask.damaged) t
      → is_damaged_here ≡ true
  found_damaged step = damaged_by is_damaged_here
      (object_read (state_of s a.file) (asks_for m name)) (replied (ask.refused ask.damaged) step)

pub object_long : {classes : ℕ} (s : StoreValue) (a : disk.State) (m : Moment) (name : List ℕ) (size : ℕ)
    → CanRead classes s a
    → AnswersNumber (refused_by s (asks_for m name)) (size_at (spot_read s (asks_for m name))) (Ok size)
    → IsTrue a.tells → length (object_read (state_of s a.file) (asks_for m name)) ≡ size
object_long s a moment.Now name size h answer told = get_long s a name size h answer told
object_long s a moment.Kept name size h answer told = old_long s a name size h answer told

-- ---- a read where no flush is in hand

asks_only : (m : Moment) (name : List ℕ) → is_changing (asks_for m name) ≡ false
asks_only moment.Now name = refl
asks_only moment.Kept name = refl

-- the state stays, and no checkpoint is acknowledged
abbrev StaysUnsaid : StoreValue → List ℕ → Request → Type 0
StaysUnsaid s file r = (x : StaysAt s file r) × (acknowledges x.reply ≡ false)

object_stays : (s : StoreValue) (file : List ℕ) (m : Moment) (name : List ℕ)
    → StaysUnsaid s file (asks_for m name)
object_stays s file m name = by (refusal limits (facts_of t (asks_for m name)) (asks_for m name)) refl
  where
    limits : Limits
    limits = limits_of s

    t : State
    t = state_of s file

    calls : (n : Moment) → calls_of limits t (asks_for n name) ≡ 0
    calls moment.Now = refl
    calls moment.Kept = refl

    served : (n : Moment) → accepted limits t (asks_for n name)
        ≡ unchanged t (read_reply (is_damaged_read t (asks_for n name))
        (ask.found (object_read t (asks_for n name))))
    served moment.Now = refl
    served moment.Kept = refl

    by : (o : Option Refused) → refusal limits (facts_of t (asks_for m name)) (asks_for m name) ≡ o
        → StaysUnsaid s file (asks_for m name)
    by None is = (
      record {
        reply = read_reply (is_damaged_read t (asks_for m name))
            (ask.found (object_read t (asks_for m name)));
        is = served_by limits t (asks_for m name) None is ∙ served m;
        none = calls m;
      },
      acknowledges_none (is_damaged_read t (asks_for m name)) (object_read t (asks_for m name)),
    )
    by (Some w) is = (
      record {
        reply = ask.refused w;
        is = served_by limits t (asks_for m name) (Some w) is;
        none = calls m;
      },
      refl,
    )

list_stays : (s : StoreValue) (file : List ℕ) → StaysUnsaid s file ask.list
list_stays s file = (
  record {
    reply = (accepted (limits_of s) (state_of s file) ask.list).reply;
    is = served_by (limits_of s) (state_of s file) ask.list None refl;
    none = refl;
  },
  refl,
)

gives_replies : {classes : ℕ} (r : Request) (s new : StoreValue) (a d : disk.State) (out after : SinkState)
    (result : Result Bool End) → CanServe classes s a → is_changing r ≡ false → StaysUnsaid s a.file r
    → GivesReply r s new (devices a out) (devices d after) result
    → Replies classes r s new (devices a out) (devices d after) result
gives_replies {classes} r s new a d out after result h asks stays g =
    subst (λ (x : StoreValue). Replies classes r s x (devices a out) (devices d after) result) (sym g.store)
    (reads_replies r s a d out after result h asks g.still (λ told. stays.0)
    (λ told. ap (λ (x : Served). acknowledges x.reply) stays.0.is ∙ stays.1) g.kept g.puts g.only
    g.disk_cause g.sink_cause)

-- a request that is this read, in a store with no flush in hand
pub object_replies : {classes : ℕ} {r : Request} {s new : StoreValue} {a d : disk.State}
    {out after : SinkState} {result : Result Bool End} (m : Moment) (name : List ℕ) → CanServe classes s a
    → r ≡ asks_for m name → GivesReply (asks_for m name) s new (devices a out) (devices d after) result
    → Replies classes r s new (devices a out) (devices d after) result
object_replies {classes} {r} {s} {new} {a} {d} {out} {after} {result} m name h is g =
    subst (λ (x : Request). Replies classes x s new (devices a out) (devices d after) result) (sym is)
    (gives_replies (asks_for m name) s new a d out after result h (asks_only m name)
    (object_stays s a.file m name) g)

pub list_replies : {classes : ℕ} {r : Request} {s new : StoreValue} {a d : disk.State}
    {out after : SinkState} {result : Result Bool End} → CanServe classes s a
    → r ≡ ask.list → GivesReply ask.list s new (devices a out) (devices d after) result
    → Replies classes r s new (devices a out) (devices d after) result
list_replies {classes} {r} {s} {new} {a} {d} {out} {after} {result} h is g =
    subst (λ (x : Request). Replies classes x s new (devices a out) (devices d after) result) (sym is)
    (gives_replies ask.list s new a d out after result h refl (list_stays s a.file) g)
