-- What the event `step` comes to, and the end of a desk.
use Rattle.std.specs.Prelude.{◌≡◌, ◌↔◌, ℕ, Bool, true, false, List, ◌++◌, codes, flat_map, Option, Some, None, Result, Ok, Err, IsSome, IsTrue, refl}
use Rattle.std.specs.Fmt.{decimal}
use Rattle.std.proofs.Common.{arith, ap, sym, ◌∙◌, subst, inl, inr, append-nil, append_assoc}
use Rattle.disk_face.specs.States as disk
use Rattle.disk_face.specs.Streams.{SinkState}
use Rattle.map_model.specs.Requests as ask
use Rattle.store_model.specs.declared.answers.Progress.TheVariants as progress
use Rattle.store_model.specs.Connection.{FlushInHand, StoreValue}
use Rattle.store_model.specs.Halves.{IsHalfway, IsReadable}
use Rattle.ask_text.specs.Replies.{reply_text}
use Rattle.ask_text.specs.declared.ends.End.{End}
use Rattle.ask_text.specs.declared.ends.End.TheVariants as ends
use Rattle.ask_session.specs.Serving.{PutsText, is_disk_fault}
use Rattle.ask_session.proofs.PutLaws.{puts_as, puts_cut, puts_none, puts_then}
use Rattle.desk_model.specs.Answers as answer
use Rattle.desk_model.specs.Answers.{Answer, answer_text}
use Rattle.desk_model.specs.Desks.{Desk, Flush, StepsOn, end_lines, finished, waiting}
use Rattle.desk_model.specs.Events.{line_for}
use Rattle.desk_core.specs.Playing.{Finishes, FinishesStore, PlaysOne, SettlesFlush, StepsFlush}
use Rattle.desk_core.specs.Shows.{ShowsStore}
use Rattle.desk_core.specs.Telling.{PutsAll}

-- ---- whether a flush is in hand

-- a store with a flush in hand is half way
pub is_half : {C : ℕ} (s : StoreValue) (a : disk.State) → IsReadable C s a → IsSome s.in_hand
    → IsHalfway C s a
is_half s a (inl idle) some = absurd (none_some s.in_hand idle.idle some)
  where
    none_some : (o : Option FlushInHand) → o ≡ None → IsSome o → ⊥
    none_some None is some = let h = some in absurd (cc)
    none_some (Some h) is some = absurd (cc)
is_half s a (inr half) some = half

-- the same of a session that is this one
pub shows_at : (steps : Answer → Desk → Type 0) (t : StoreValue) (n session : ℕ) (file : List ℕ)
    (out after : SinkState) (result : Result (Unit {0}) End) → n ≡ session
    → PlaysOne steps (ShowsStore t session file) out after result
    → PlaysOne steps (ShowsStore t n file) out after result
shows_at steps t n session file out after result is p =
    subst (λ (m : ℕ). PlaysOne steps (ShowsStore t m file) out after result) (sym is) p

pub finishes_at : (d : Desk) (t : StoreValue) (n session : ℕ) (file : List ℕ)
    (out after : SinkState) (result : Result (Unit {0}) End) → n ≡ session
    → FinishesStore d t session file out after result → FinishesStore d t n file out after result
finishes_at d t n session file out after result is p =
    subst (λ (m : ℕ). FinishesStore d t m file out after result) (sym is) p

-- whether a flush is in hand, by a test of it
pub hand_none : (o : Option FlushInHand) (b : Bool) → (IsTrue b ↔ IsSome o) → b ≡ false → o ≡ None
hand_none None b is none = refl
hand_none (Some h) b is none = absurd (let e : true ≡ false = sym (is.1 refl) ∙ none in cc)

pub hand_some : (o : Option FlushInHand) (b : Bool) → (IsTrue b ↔ IsSome o) → b ≡ true → IsSome o
hand_some o b is some = is.0 (subst IsTrue (sym some) refl)

-- ---- the event `step`

module _ (session : ℕ) (s t : StoreValue) (a d : disk.State) (out after : SinkState)
    (result : Result (Unit {0}) End) where
  abbrev IsStepped : Type 0
  IsStepped = IsTrue a.tells → (desk : Desk) → ShowsStore s session a.file desk
      → PlaysOne (StepsOn desk.hand desk) (ShowsStore t session d.file) out after result

  pub idle_steps : s.in_hand ≡ None → t ≡ s → d ≡ a → PutsAll (codes "idle\n") out after result → IsStepped
  idle_steps none same still p told desk shown =
      let e : desk.hand ≡ None = (shown.idle none).0 in
      record {
        answer = answer.idle;
        desk = desk;
        step = subst (λ (o : Option Flush). StepsOn o desk answer.idle desk) (sym e) (refl, refl);
        shown = λ calm. subst (λ (x : StoreValue). ShowsStore x session d.file desk) (sym same)
            (subst (λ (y : disk.State). ShowsStore s session y.file desk) (sym still) shown);
        puts = p.put;
      }

  module _ {C : ℕ} (half : IsHalfway C s a) where
    pub moved_steps : StepsFlush C session s t a d (Ok progress.Moved)
        → PutsAll (codes "moved\n") out after result → IsStepped
    moved_steps x p told desk shown =
        let k = shown.held half.hand half.is in
        let z = x.steps told desk k.0 k.1 shown in
        let m = z.1 in
        record {
          answer = answer.moved;
          desk = z.0;
          step = subst (λ (o : Option Flush). StepsOn o desk answer.moved z.0) (sym k.1)
              (inl (record {
                says = refl;
                left = m.0;
                some = m.1;
                fewer = m.2;
                desk = m.3;
              }));
          shown = λ calm. z.2;
          puts = p.put;
        }

    pub settled_steps : StepsFlush C session s t a d (Ok progress.Settled)
        → PutsAll (line_for (codes "to") session ++ reply_text ask.kept) out after result → IsStepped
    settled_steps x p told desk shown =
        let k = shown.held half.hand half.is in
        let z = x.steps told desk k.0 k.1 shown in
        let m = z.1 in
        record {
          answer = answer.to k.0.session ask.kept;
          desk = z.0;
          step = subst (λ (o : Option Flush). StepsOn o desk (answer.to k.0.session ask.kept) z.0) (sym k.1)
              (inr (record {
                says = refl;
                sequence = m.0;
                low = m.1;
                high = m.2;
                desk = m.3;
              }));
          shown = λ calm. z.2;
          puts = λ told. subst (λ (n : ℕ). PutsText (line_for (codes "to") n ++ reply_text ask.kept) out.given
              after.given result) (sym k.2.of) (p.put told);
        }

    pub failed_steps : result ≡ Err ends.Disk → after ≡ out → IsStepped
    failed_steps is same told desk shown =
        let k = shown.held half.hand half.is in
        let next = record desk { state = record desk.state { sequence = k.0.least }; hand = None } in
        let said = answer.to k.0.session ask.kept in
        record {
          answer = said;
          desk = next;
          step = subst (λ (o : Option Flush). StepsOn o desk said next) (sym k.1)
              (inr (record {
                says = refl;
                sequence = k.0.least;
                low = omega arith;
                high = omega (arith, k.2.least, k.2.most);
                desk = refl;
              }));
          shown = λ calm. absurd (let e : true ≡ false = sym (ap is_disk_fault is) ∙ calm in cc);
          puts = λ told. subst (λ (y : Result (Unit {0}) End). PutsText (answer_text said) out.given
              after.given y) (sym is) (puts_none (answer_text said) out.given after.given ends.Disk
              (ap (λ (o : SinkState). o.given) same));
        }

-- ---- the end

-- the line of how many requests wait
abbrev left_line : ℕ → List ℕ
left_line n = codes "left " ++ decimal n ++ codes "\n"

left_joined : (xs : List ℕ) (n : ℕ)
    → xs ++ left_line n ≡ xs ++ codes "left " ++ decimal n ++ codes "\n"
left_joined xs n =
    sym (append_assoc xs (codes "left " ++ decimal n) (codes "\n"))
    ∙ ap (λ (ys : List ℕ). ys ++ codes "\n") (sym (append_assoc xs (codes "left ") (decimal n)))

module _ (session : ℕ) (s t : StoreValue) (a d : disk.State) (count : ℕ) (out mid after : SinkState)
    (result : Result (Unit {0}) End) where
  abbrev IsFinished : Type 0
  IsFinished = IsTrue a.tells → (desk : Desk) → count ≡ waiting desk.queues
      → ShowsStore s session a.file desk → FinishesStore desk t session d.file out after result

  -- the last lines where no flush was in hand
  idle_lines : (desk : Desk) → count ≡ waiting desk.queues → desk.hand ≡ None
      → left_line count ≡ end_lines desk
  idle_lines desk is none =
      ap left_line is
      ∙ ap (λ (o : Option Flush). flat_map answer_text (finished o) ++ codes "left "
      ++ decimal (waiting desk.queues) ++ codes "\n") (sym none)

  pub idle_finishes : s.in_hand ≡ None → t ≡ s → d ≡ a → PutsAll (left_line count) out after result
      → IsFinished
  idle_finishes none same still p told desk is shown =
      let e : desk.hand ≡ None = (shown.idle none).0 in
      record {
        desk = desk;
        finished = subst (λ (o : Option Flush). Finishes o desk desk) (sym e) refl;
        shown = λ calm. subst (λ (x : StoreValue). ShowsStore x session d.file desk) (sym same)
            (subst (λ (y : disk.State). ShowsStore s session y.file desk) (sym still) shown);
        puts = λ told. puts_as (left_line count) (end_lines desk) out.given after.given result
            (idle_lines desk is e) (p.put told);
      }

  module _ {C : ℕ} (half : IsHalfway C s a) where
    held_lines : (desk : Desk) (f : Flush) → count ≡ waiting desk.queues → desk.hand ≡ Some f
        → f.session ≡ session
        → (line_for (codes "to") session ++ reply_text ask.kept) ++ left_line count ≡ end_lines desk
    held_lines desk f is some of =
        ap (λ (n : ℕ). (line_for (codes "to") session ++ reply_text ask.kept) ++ left_line n) is
        ∙ ap (λ (n : ℕ). (line_for (codes "to") n ++ reply_text ask.kept) ++ left_line (waiting desk.queues))
        (sym of)
        ∙ ap (λ (xs : List ℕ). xs ++ left_line (waiting desk.queues))
        (sym (append-nil (line_for (codes "to") f.session ++ reply_text ask.kept)))
        ∙ left_joined (flat_map answer_text (finished (Some f))) (waiting desk.queues)
        ∙ ap (λ (o : Option Flush). flat_map answer_text (finished o) ++ codes "left "
        ++ decimal (waiting desk.queues) ++ codes "\n") (sym some)

    finishes_as : (x : SettlesFlush C session s t a d (Ok tt)) → (desk : Desk) → count ≡ waiting desk.queues
        → (told : IsTrue a.tells) → ShowsStore s session a.file desk
        → (IsTrue out.tells → PutsText ((line_for (codes "to") session ++ reply_text ask.kept)
        ++ left_line count) out.given after.given result)
        → FinishesStore desk t session d.file out after result
    finishes_as x desk is told shown puts =
        let k = shown.held half.hand half.is in
        let z = x.settles told desk k.0 k.1 shown in
        record {
          desk = z.0;
          finished = subst (λ (o : Option Flush). Finishes o desk z.0) (sym k.1) z.1;
          shown = λ calm. z.2 refl;
          puts = λ sink. puts_as ((line_for (codes "to") session ++ reply_text ask.kept) ++ left_line count)
              (end_lines desk) out.given after.given result (held_lines desk k.0 is k.1 k.2.of)
              (puts sink);
        }

    -- both lines were put, or a front of the second
    pub settled_finishes : SettlesFlush C session s t a d (Ok tt)
        → PutsAll (line_for (codes "to") session ++ reply_text ask.kept) out mid (Ok tt)
        → PutsAll (left_line count) mid after result → IsFinished
    settled_finishes x first then told desk is shown = finishes_as x desk is told shown
        (λ sink. puts_then (line_for (codes "to") session ++ reply_text ask.kept) (left_line count) out.given
        mid.given after.given result (λ fault none. absurd (cc)) (first.put sink).all
        (then.put (subst IsTrue (sym first.cause.told) sink)))

    -- the sink failed at the first
    pub cut_finishes : (end : End) → result ≡ Err end → after ≡ mid → SettlesFlush C session s t a d (Ok tt)
        → PutsAll (line_for (codes "to") session ++ reply_text ask.kept) out mid (Err end) → IsFinished
    cut_finishes end is same x first told desk count_is shown = finishes_as x desk count_is told shown
        (λ sink. subst (λ (y : Result (Unit {0}) End). PutsText ((line_for (codes "to") session
        ++ reply_text ask.kept) ++ left_line count) out.given after.given y) (sym is)
        (subst (λ (o : SinkState). PutsText {T = Unit {0}} ((line_for (codes "to") session
        ++ reply_text ask.kept) ++ left_line count) out.given o.given (Err end)) (sym same)
        (puts_cut (line_for (codes "to") session ++ reply_text ask.kept) (left_line count) out.given mid.given
        end first.only (first.put sink))))

    -- the disk failed
    pub failed_finishes : result ≡ Err ends.Disk → after ≡ out
        → SettlesFlush C session s t a d (Err ends.Disk) → IsFinished
    failed_finishes is same x told desk count_is shown =
        let k = shown.held half.hand half.is in
        let z = x.settles told desk k.0 k.1 shown in
        record {
          desk = z.0;
          finished = subst (λ (o : Option Flush). Finishes o desk z.0) (sym k.1) z.1;
          shown = λ calm. absurd (let e : true ≡ false = sym (ap is_disk_fault is) ∙ calm in cc);
          puts = λ sink. subst (λ (y : Result (Unit {0}) End). PutsText (end_lines desk) out.given
              after.given y) (sym is) (puts_none (end_lines desk) out.given after.given ends.Disk
              (ap (λ (o : SinkState). o.given) same));
        }
