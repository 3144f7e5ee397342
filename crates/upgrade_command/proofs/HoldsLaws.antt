-- What an upgrade does to a file that opens, from how it went.
use Rattle.std.specs.Prelude.{◌≡◌, ◌⊎◌, ◌≤◌, ◌<◌, ◌+◌, ◌*◌, ◌^◌, ℕ, Bool, true, false, if◌then◌else◌, List, length, Result, IsTrue, refl}
use Rattle.std.proofs.Common.{arith, ap, sym, ◌∙◌, subst, inl, inr}
use Rattle.std.proofs.Math.Nat.{le-max_right}
use Rattle.disk_face.specs.Counts.{IsCalm, Rose, counted, last}
use Rattle.disk_face.specs.Devices.{devices}
use Rattle.disk_face.specs.Moments.{LeftOnly}
use Rattle.disk_face.specs.States.{IsLawful, State}
use Rattle.disk_face.specs.Streams.{SinkState}
use Rattle.disk_face.proofs.MomentLaws.{Leaves-weaken, LeftOnly-after}
use Rattle.size_class.specs.declared.TheConstants.{CLASSES, SIZE_MAX}
use Rattle.slot_codec.specs.Choice as choice
use Rattle.slot_codec.specs.declared.codec.Kind.TheVariants as kind
use Rattle.slot_codec.specs.declared.codec.SuperBlock.{SuperBlock}
use Rattle.slot_pair.specs.Saves.{save_calls}
use Rattle.map_model.specs.Maps.{Map}
use Rattle.segment_layout.specs.Books.{Book, book_end}
use Rattle.table_rules.specs.Opening.{OpensBy}
use Rattle.table_rules.specs.Sequences.{HasSequenceUpTo}
use Rattle.table_rules.proofs.SequenceLaws.{sequence_wider}
use Rattle.store_model.specs.Connection.{IsOver, StoreValue, kept_map, state_of}
use Rattle.store_model.specs.Opened.{LeavesRoom, RestsOnFound, found_base, most_found}
use Rattle.store_model.specs.States as store
use Rattle.store_model.proofs.OpeningLaws.{FoundSame, found_one}
use Rattle.store_model.specs.Keeps.{OpensToKeptOrNow, kept_now}
use Rattle.store_model.specs.Upgrades.{Upgrades, digests_now, upgraded as upgraded_store}
use Rattle.store_model.specs.declared.answers.Done.{Done}
use Rattle.store_model.specs.declared.answers.Refusal.{Refusal}
use Rattle.command_face.specs.Outcomes.{Ends, PutsLast, line_at, status_at}
use Rattle.command_face.specs.declared.stop.StopReason.{StopReason}
use Rattle.command_face.specs.Layers.{Answers}
use Rattle.command_face.proofs.EndedLaws.{ended}
use Rattle.served_file.specs.Served.{IsNextStart, OpensTo, found_with, most_left}
use Rattle.served_file.specs.Steps.{FileSteps}
use Rattle.served_file.proofs.FoundLaws.{found_start}
use Rattle.served_file.proofs.OpeningLaws.{Opened, exact_turn, start_low}
use Rattle.served_file.proofs.OverLaws.{next_over}
use Rattle.served_file.proofs.StartLaws.{HasBegun, LeavesStart, StopsEarly, begun_or_not, leaves_opened, left_mid, start_now, start_opens, start_safe, starts_so}
use Rattle.upgrade_command.specs.Doing.{IsUpgrade}
use Rattle.upgrade_command.specs.Upgrading.{HasUpgraded, UpgradeHolds, calls_by, digested, end_by, has_answered, left_by, state_by, upgrade_calls, upgrade_end, upgraded}
use Rattle.served_file.proofs.AlwaysLaws.{answers_early}
use Rattle.upgrade_command.proofs.EndsLaws.{AnswersWith, answers_idle, answers_put, early_unanswered, not_three, put_answered}
use Rattle.upgrade_command.proofs.IdleLaws.{Idle, IsIdle, IsToDo, WasFailed, WasIdle, WasSaved, either, same_count, was_done, was_idle}

-- the state that is left, where both are the same or the status says which
left_same : (answered : Bool) (x y : store.State) → x ≡ y → (if answered then x else y) ≡ y
left_same true x y is = is
left_same false x y is = refl

no_answer : {A : Type 0} (status : ℕ) → has_answered status ≡ false → IsTrue (has_answered status) → A
no_answer status none is = absurd (let e : true ≡ false = sym is ∙ none in cc)

module _ (t : choice.SlotTable) (m : Map) (b : Book) (old : State) (lawful : IsLawful old)
    (told : IsTrue old.tells) (o : OpensBy CLASSES SIZE_MAX t old.file m b) (z : State)
    (out put after : SinkState) (end : Result (Unit {0}) StopReason)
    (line : IsTrue put.tells
    → PutsLast put.given after.given (line_at end) (Rose put.faults after.faults))
    (sink_told : put.tells ≡ out.tells) (sink_later : out.faults ≤ put.faults) where
  abbrev Holds : SuperBlock → Type 0
  Holds u = UpgradeHolds (found_with u t m b) (status_at end) (devices old out) (devices z after)

  ends_so : (wanted : Result (List ℕ) StopReason) → Answers (AnswersWith wanted) out put end
      → Ends (AnswersWith wanted) (status_at end) out after
  ends_so wanted answers = ended (AnswersWith wanted) end (status_at end) out put after refl answers sink_told
      sink_later line

  -- ---- its store wasn't opened

  early : StopsEarly t m b (devices old out) (devices z put) end → Holds t.chosen.block
  early x =
      let start = found_start t m b in
      let names = t.chosen.block.names in
      let none = early_unanswered end x.early in
      record {
        start = start;
        starts = x.leaves.starts;
        ends = ends_so (upgrade_end names start)
            (answers_early (AnswersWith (upgrade_end names start)) out put end x.early x.nothing);
        done = λ is. no_answer (status_at end) none is;
        content = λ room. inl (x.leaves.content room);
        crash = λ room rests below image since. inl (x.leaves.left room rests below image since);
        unbegun = λ is room rests below. x.leaves.left room rests below;
        numbered = x.leaves.numbered;
        next_start = λ calm. subst (λ (a : Bool). IsNextStart t (if a then upgraded names start else start)
            (if a then upgraded names start else start).sequence old z) (sym none)
            (x.leaves.next_start calm);
        reach = subst (λ (a : Bool). (if a then upgraded names start else start).sequence
            ≤ most_left t.chosen.block.k t) (sym none)
            (start_low t t.chosen.block.k start.sequence x.leaves.starts.sequence);
      }

  -- ---- its store was opened

  module _ {mid : State} {s : StoreValue} (op : Opened t m b old mid s) where
    abbrev u : SuperBlock
    u = s.in_use.block

    abbrev start : store.State
    start = state_of s mid.file

    abbrev most : ℕ
    most = most_left u.k t

    -- the call began over a settled file that ended with its layout
    opened_turn : t.chosen.header.kind ≡ kind.Settled
        → length old.file ≡ found_base t + book_end t.chosen.block.k b → mid.turn ≡ old.turn
    opened_turn settled exact = op.turn settled ∙ exact_turn t b old exact

    numbered_by : (P : ℕ → Type 0) → P t.chosen.block.k → P u.k
    numbered_by P is = subst (λ (x : SuperBlock). P x.k) (sym op.block) is

    -- ---- nothing was done

    module _ (i : Idle) (is : IsIdle s op.sound mid.file op.unbroken i)
        (was : WasIdle s i (devices mid out) (devices z put) end) where
      leaves : LeavesStart t m b old z start
      leaves = leaves_opened t m b old lawful told o op was.disk

      same_state : upgraded u.names start ≡ start
      same_state = ap (state_by start) is.command

      idle : Holds u
      idle = record {
        start = start;
        starts = leaves.starts;
        ends = ends_so (upgrade_end u.names start) (answers_idle (upgrade_end u.names start) out put s i
            (devices mid out) (devices z put) end refl refl (ap end_by is.command) was);
        done = λ answered. record {
          continues = op.continues;
          opens = subst (λ (y : store.State). OpensTo y z.file) (sym same_state)
              (start_now t m b old lawful told o op was.disk);
          safe = λ rests image left. subst (λ (y : store.State). OpensTo y image) (sym same_state)
              (start_safe t m b old lawful told o op was.disk rests image left);
          calls = λ settled exact. omega (
            arith,
            was.disk.same_turn,
            opened_turn settled exact,
            lawful.turn_fits,
          ) ∙ ap (counted old.turn) (sym (ap (calls_by start) is.command));
        };
        content = λ room. inl (leaves.content room);
        crash = λ room rests below image since. inl (leaves.left room rests below image since);
        unbegun = λ which room rests below. leaves.left room rests below;
        numbered = λ room rests below.
            numbered_by (λ k. LeftOnly z old.turn (HasSequenceUpTo (most_left k t)))
            (leaves.numbered room rests below);
        next_start = λ calm. subst (λ (y : store.State). IsNextStart t y y.sequence old z)
            (sym (left_same (has_answered (status_at end)) (upgraded u.names start) start same_state))
            (leaves.next_start calm);
        reach = subst (λ (y : store.State). y.sequence ≤ most)
            (sym (left_same (has_answered (status_at end)) (upgraded u.names start) start same_state))
            (start_low t u.k start.sequence leaves.starts.sequence);
      }

    -- ---- the upgrade was begun

    module _ (todo : IsToDo s op.sound mid.file op.unbroken) {new : StoreValue} {result : Result Done Refusal}
        (up : Upgrades CLASSES s new mid z result) where
      same_new : upgraded u.names start ≡ digested start
      same_new = ap (state_by start) todo.command

      -- an image opens to the start or to what is left, by a table with a sequence that a call may leave
      abbrev IsEither : List ℕ → Type 0
      IsEither image = (OpensTo start image ⊎ OpensTo (upgraded u.names start) image)
          × HasSequenceUpTo most image

      to_new : (image : List ℕ) → OpensTo (digested start) image → OpensTo (upgraded u.names start) image
      to_new image is = subst (λ (y : store.State). OpensTo y image) (sym same_new) is

      low : s.in_use.sequence + 1 ≤ most
      low = omega (arith, todo.fresh, le-max_right (most_found t) (2 ^ 61 + 2 * u.k))

      either_is : (image : List ℕ)
          → OpensToKeptOrNow CLASSES (upgraded_store s (digests_now s mid.file)) mid.file image
          → IsEither image
      either_is image is = (
        elim is.opens as (λ _. OpensTo start image ⊎ OpensTo (upgraded u.names start) image) [
          | inl kept ↦ inl (start_opens t m b old lawful told o op image kept)
          | inr now ↦ inr (to_new image now)
        ],
        sequence_wider (s.in_use.sequence + 1) most image low is.sequence,
      )

      left_low : (answered : Bool)
          → (if answered then upgraded u.names start else start).sequence ≤ most
      left_low true = subst (λ (y : store.State). y.sequence ≤ most) (sym same_new) low
      left_low false = omega (arith, low)

      start_is : (image : List ℕ) → OpensTo start image × HasSequenceUpTo (most_left t.chosen.block.k t) image
          → IsEither image
      start_is image is = (inl is.0, numbered_by (λ k. HasSequenceUpTo (most_left k t) image) is.1)

      pub left_either : LeavesRoom t → RestsOnFound t old → z.turn < last → LeftOnly z old.turn IsEither
      left_either room rests below = LeftOnly-after old.turn IsEither op.later
          (λ image since. start_is image (left_mid t m b old lawful told o op room rests
          (omega (arith, up.frame.no_turn_back, below)) image since))
          (Leaves-weaken IsEither either_is (up.left op.told (op.rests rests)))

      -- what holds however it ended
      begun : (wanted : Answers (AnswersWith (upgrade_end u.names start)) out put end)
          → (IsTrue (has_answered (status_at end)) → HasUpgraded (found_with u t m b) start (devices old out)
          (devices z after))
          → ((status_at end ≡ 3) ⊎ (status_at end ≡ 10) → ⊥)
          → (IsCalm old.faults z.faults
          → IsNextStart t (left_by (status_at end) u.names start)
          (left_by (status_at end) u.names start).sequence old z)
          → Holds u
      begun answers done other next = record {
        reach = left_low (has_answered (status_at end));
        start = start;
        starts = starts_so t m b old lawful told o op;
        ends = ends_so (upgrade_end u.names start) answers;
        done = done;
        content = λ room. (either_is z.file (up.content op.told)).0;
        crash = λ room rests below image since. (left_either room rests below image since).0;
        unbegun = λ which. absurd (other which);
        numbered = λ room rests below image since. (left_either room rests below image since).1;
        next_start = next;
      }

    -- a checkpoint was saved
    module _ (todo : IsToDo s op.sound mid.file op.unbroken)
        (was : WasSaved s (devices mid out) (devices z put) end) where
      abbrev new : StoreValue
      new = was.new

      value : new ≡ kept_now (upgraded_store s (was.upgrades.value.0))
      value = was.upgrades.value.1

      saved : OpensTo (digested start) z.file
      saved = was.upgrades.saved op.told

      over_z : IsOver CLASSES new z.file
      over_z = was.over.over was.unbroken (was.upgrades.frame.stays.told ∙ op.told)

      one : FoundSame over_z.table saved.table (kept_map new z.file) start.map new.kept_book
          (digested start).kept_book
      one = found_one CLASSES over_z.table saved.table z.file (kept_map new z.file) start.map new.kept_book
          (digested start).kept_book over_z.checkpoint.opens saved.opens

      sequence_is : new.in_use.sequence ≡ s.in_use.sequence + 1
      sequence_is = ap (λ (v : StoreValue). v.in_use.sequence) value

      next_saved : IsNextStart t (digested start) (digested start).sequence old z
      next_saved =
          let n = next_over t new old z (digested start).sequence was.sound over_z
          (ap (λ (v : StoreValue). v.in_use.block) value ∙ op.block) (omega (arith, sequence_is))
          (λ rests. was.upgrades.on_table op.told) in
          record {
            table = n.table;
            opens = subst (λ (x : Map). OpensBy CLASSES SIZE_MAX n.table z.file x (digested start).kept_book)
                one.same_map (subst (λ (x : Book). OpensBy CLASSES SIZE_MAX n.table z.file
                (kept_map new z.file) x) one.same_book n.opens);
            block = n.block;
            not_worn = n.not_worn;
            exact = λ same. n.exact (sym sequence_is);
            rests = n.rests;
          }

      answered : has_answered (status_at end) ≡ true
      answered = put_answered end was.puts

      saved_calls : t.chosen.header.kind ≡ kind.Settled
          → length old.file ≡ found_base t + book_end t.chosen.block.k b
          → z.turn ≡ counted old.turn (upgrade_calls u.names start)
      saved_calls settled exact = was.upgrades.calls.all
          ∙ (λ i. counted (opened_turn settled exact i)
          (save_calls (sym (same_count s op.sound mid.file op.unbroken) i)))
          ∙ ap (counted old.turn) (sym (ap (calls_by start) todo.command))

      done : Holds u
      done = begun todo was.upgrades (answers_put (upgrade_end u.names start) out put end
          (ap end_by todo.command) was.puts)
          (λ is. record {
            continues = op.continues;
            opens = to_new todo was.upgrades z.file saved;
            safe = λ rests image left. to_new todo was.upgrades image
                (subst (OpensTo (digested start)) (sym (was.upgrades.rests op.told image left)) saved);
            calls = saved_calls;
          })
          (not_three end was.puts)
          (λ calm. subst (λ (a : Bool). IsNextStart t (if a then upgraded u.names start else start)
          (if a then upgraded u.names start else start).sequence old z) (sym answered)
          (subst (λ (y : store.State). IsNextStart t y y.sequence old z) (sym (same_new todo was.upgrades))
          next_saved))

    -- the disk failed
    failed : IsToDo s op.sound mid.file op.unbroken → WasFailed s (devices mid out) (devices z put) end
        → Holds u
    failed todo was =
        let none : has_answered (status_at end) ≡ false =
        ap (λ (e : Result (Unit {0}) StopReason). has_answered (status_at e)) was.ended in
        let seven : status_at end ≡ 7 = ap (λ (e : Result (Unit {0}) StopReason). status_at e) was.ended in
        begun todo was.upgrades
        (answers_early (AnswersWith (upgrade_end u.names start)) out put end (inl was.ended) was.nothing)
        (λ is. no_answer (status_at end) none is)
        (λ is. omega (arith, is, seven))
        (λ calm. absurd (omega (arith, was.upgrades.calls.cause.rose, op.faults, calm.same, calm.below)))

  -- ---- all of them

  pub upgrade_holds : {D : Type 0} (disk_of : D → State) (file : List ℕ)
      → FileSteps disk_of file IsUpgrade (devices old out) (devices z put) end → Holds t.chosen.block
  upgrade_holds disk_of file steps =
      elim (begun_or_not t m b old lawful told o disk_of file IsUpgrade z out put end steps)
      as (λ _. Holds t.chosen.block) [
        | inl is ↦ early is
        | inr is ↦ subst Holds is.op.block (by is)
      ]
    where
      by : (x : HasBegun disk_of IsUpgrade t m b (devices old out) (devices z put) end)
          → Holds x.store.in_use.block
      by x =
          let mid = disk_of x.mid in
          let sound = x.op.sound in
          let whole = x.op.unbroken in
          elim (either x.store sound mid.file whole) as (λ _. Holds x.store.in_use.block) [
            | inl is ↦ idle x.op is.0 is.1 (was_idle x.store sound whole (devices mid out) (devices z put) end
                x.done is.0 is.1)
            | inr todo ↦ elim (was_done x.store sound whole (devices mid out) (devices z put) end x.done
                todo.store) as (λ _. Holds x.store.in_use.block) [
                  | inl saved ↦ done x.op todo saved
                  | inr gone ↦ failed x.op todo gone
                ]
          ]
