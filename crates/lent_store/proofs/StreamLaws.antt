-- What is read of a file that a store is over, and of one that was loaded.
use Rattle.std.proofs.Common.{arith, ap, ◌≡◌, ◌∙◌, refl, subst, sym, true, false, ℕ, List, [], inl, inr}
use Rattle.std.specs.Prelude.{length, ◌+◌, ◌<◌, ◌⊎◌, Option, Some, None, Result, Ok, Err, IfErr, IfOk}
use Rattle.std.specs.FinMap as fin
use Rattle.disk_face.specs.Counts.{Rose}
use Rattle.disk_face.specs.Frames.{Unchanged}
use Rattle.disk_face.specs.Moments.{Leaves, Rests}
use Rattle.disk_face.specs.States as disk
use Rattle.disk_face.proofs.FrameLaws.{asks_then}
use Rattle.disk_face.proofs.MomentLaws.{Leaves-trans, Leaves-weaken}
use Rattle.disk_history.specs.Histories.{EndedBy, History, fresh}
use Rattle.lent_disk.specs.Disks.{lent_state}
use Rattle.lent_disk.specs.Notings.{IsLog, LacksSpace, Noting, content, lent}
use Rattle.lent_disk.specs.Rooms.{Filing, Logging}
use Rattle.lent_disk.proofs.WordLaws.{same_words}
use Rattle.size_class.specs.declared.TheConstants.{CLASSES, SIZE_MAX}
use Rattle.slot_codec.specs.Choice as choice
use Rattle.slot_codec.specs.Spelling.{head_len}
use Rattle.slot_codec.specs.declared.codec.SuperBlock.{SuperBlock}
use Rattle.map_model.specs.Maps.{Map}
use Rattle.segment_layout.specs.Books.{Book, book_end}
use Rattle.slot_pair.specs.declared.find.SlotFault.TheVariants as slot
use Rattle.table_rules.specs.Opening.{OpensBy, placed_table}
use Rattle.table_rules.specs.Rules.{FirstBroken}
use Rattle.table_rules.specs.Tables.{map_of}
use Rattle.table_rules.proofs.FirstLaws.{valid_breaks_none}
use Rattle.placement_model.specs.Reads.{read_at}
use Rattle.reopen.specs.Loads.{IsLoadedFrom, digests_loaded, table_loaded}
use Rattle.reopen.specs.Refusals.{RefusesToOpen}
use Rattle.reopen.specs.declared.fault.OpenFault.{OpenFault}
use Rattle.reopen.specs.declared.fault.OpenFault.TheVariants as fault
use Rattle.reopen.specs.declared.state.Loaded.{Loaded}
use Rattle.store_model.specs.Connection.{IsOver, StoreValue}
use Rattle.store_model.specs.Opened.{IsFresh, IsOpening, OpensFound, SameOnFound}
use Rattle.store_model.specs.States as store
use Rattle.dump_stream.specs.Dumping.{AreSound}
use Rattle.dump_stream.specs.Dumps.{IsDumpOf, dump_text}
use Rattle.dump_stream.specs.Placing.{laid_book}
use Rattle.dump_stream.proofs.TextLaws.{one_map}
use Rattle.load_stream.specs.Loaded.{AsksLoaded, AsksToLoad, IsLoadImage, Judges, LoadsWhole, OpensDump}
use Rattle.load_stream.specs.Steps.{passed}
use Rattle.load_stream.specs.declared.fault.LoadFault.{LoadFault}
use Rattle.load_stream.specs.declared.fault.LoadFault.TheVariants as load_fault
use Rattle.lent_store.specs.declared.stream.DumpStop.{DumpStop}
use Rattle.lent_store.specs.declared.stream.DumpStop.TheVariants as stop
use Rattle.lent_store.specs.Embedded.{Embedded, IsEmbedded, disk_of, file_in}
use Rattle.lent_store.specs.Noted.{IsNotedOf, StopsFrom}
use Rattle.lent_store.specs.Streams.{AnswersDump, CopiesDump, FailsToOpen, HasLoaded, IsKeptSound, LacksToLoad, RefusesLoad, kept_in}
use Rattle.lent_store.proofs.CauseLaws.{lacks_to_load}
use Rattle.lent_store.proofs.NotedLaws.{name_in}
use Rattle.lent_store.proofs.StopLaws.{stops_from}
use Rattle.store_model.proofs.OpeningLaws.{alike_itself}

-- a file has one table
one_table : (file : List ℕ) {t u : choice.SlotTable} → choice.table_of file ≡ Ok t
    → choice.table_of file ≡ Ok u → t ≡ u
one_table file {t} {u} a b = let found : Ok t ≡ Ok u = sym a ∙ b in cc

-- ---- a dump

module _ (e : Embedded) (x : Loaded CLASSES) (over : IsOver CLASSES e.store (file_in e))
    (from : IsLoadedFrom (file_in e) x) where
  abbrev read : Map
  read = read_at (head_len x.block.names) (file_in e) x.table.now

  same_table : over.table ≡ table_loaded x
  same_table = one_table (file_in e) over.checkpoint.opens.read from.opens.read

  same_map : read ≡ kept_in e
  same_map = from.opens.same_map
      ∙ ap (λ (t : choice.SlotTable). map_of (head_len t.chosen.block.names) (file_in e) t.records)
      (sym same_table)
      ∙ sym over.checkpoint.opens.same_map

  same_digests : digests_loaded x ≡ e.store.kept_book.digests
  same_digests = sym (ap (λ (b : Book). b.digests) over.checkpoint.opens.same_book
      ∙ ap (λ (t : choice.SlotTable). t.digests) same_table)

  sound_now : AreSound (digests_loaded x) (fin.entries read) → IsKeptSound e
  sound_now are = subst (λ (m : Map). AreSound e.store.kept_book.digests (fin.entries m)) same_map
      (subst (λ (d : Option Map). AreSound d (fin.entries read)) same_digests are)

  sound_then : IsKeptSound e → AreSound (digests_loaded x) (fin.entries read)
  sound_then are = subst (λ (d : Option Map). AreSound d (fin.entries read)) (sym same_digests)
      (subst (λ (m : Map). AreSound e.store.kept_book.digests (fin.entries m)) (sym same_map) are)

  -- what was copied is the dump of the last checkpoint
  pub dump_answers : (whole : e.store.is_broken ≡ false) (out : List ℕ) (result : Result ℕ DumpStop)
      → CopiesDump x (file_in e) out result → AnswersDump e out result
  dump_answers whole out (Ok n) is = (whole, sound_now is.0, is.1, is.2 ∙ ap (dump_text CLASSES) same_map)
  dump_answers whole out (Err stop.Broken) is = absurd is
  dump_answers whole out (Err stop.NoMemory) is = whole
  dump_answers whole out (Err stop.Damaged) is = (whole, λ are. is (sound_then are))
  dump_answers whole out (Err stop.Disk) is = absurd is
  dump_answers whole out (Err stop.Short) is = (
    whole,
    subst (λ (m : Map). length out < length (dump_text CLASSES m)) same_map is,
  )

-- a store without a flush in hand that isn't broken is over its file
over_now : (e : Embedded) → IsEmbedded e → e.store.in_hand ≡ None → e.store.is_broken ≡ false
    → IsOver CLASSES e.store (file_in e)
over_now e (inl c) idle whole = c.over whole refl
over_now e (inr h) idle whole = absurd (let bad : None ≡ Some h.hand = sym idle ∙ h.is in cc)

-- the same of what was seen, whose file was read
pub dumped : {e seen : Embedded} → seen ≡ e → IsEmbedded seen → e.store.in_hand ≡ None
    → e.store.is_broken ≡ false → (x : Loaded CLASSES) → IsLoadedFrom (file_in seen) x → {file : List ℕ}
    → file ≡ file_in seen → (out : List ℕ) (result : Result ℕ DumpStop) → CopiesDump x file out result
    → AnswersDump e out result
dumped {e} {seen} is inside idle whole x from same out result copies =
    let idle_seen : seen.store.in_hand ≡ None = ap (λ (z : Embedded). z.store.in_hand) is ∙ idle in
    let whole_seen : seen.store.is_broken ≡ false = ap (λ (z : Embedded). z.store.is_broken) is ∙ whole in
    subst (λ (z : Embedded). AnswersDump z out result) is
    (dump_answers seen x (over_now seen inside idle_seen whole_seen) from whole_seen out result
    (subst (λ (f : List ℕ). CopiesDump x f out result) same copies))

-- a file that a store is over is opened but for want of memory, where the disk doesn't fail
no_table : {P : Type 0} (file : List ℕ) {t : choice.SlotTable} (why : choice.SlotRefusal)
    → choice.table_of file ≡ Ok t → choice.table_of file ≡ Err why → P
no_table file why is refused = absurd (let e = sym is ∙ refused in cc)

unread : {P : Type 0} (file : List ℕ) (t : choice.SlotTable) (m : Map) (b : Book)
    → OpensBy CLASSES SIZE_MAX t file m b → (why : OpenFault) → RefusesToOpen CLASSES file why
    → (why ≡ fault.NoMemory → P) → (why ≡ fault.Slot slot.Disk → P) → P
unread file t m b o fault.NoMemory is memory failed = memory refl
unread file t m b o (fault.Slot slot.Disk) is memory failed = failed refl
unread file t m b o (fault.Slot slot.Short) is memory failed = no_table file choice.too_short o.read is
unread file t m b o (fault.Slot slot.Unformatted) is memory failed =
    no_table file choice.unformatted o.read is
unread file t m b o (fault.Slot slot.NoGate) is memory failed = no_table file choice.no_gate o.read is
unread file t m b o (fault.Slot slot.SameSequence) is memory failed =
    no_table file choice.same_sequence o.read is
unread file t m b o (fault.Slot (slot.Codec f at)) is memory failed =
    no_table file (choice.codec f at) o.read is
unread file t m b o (fault.Table broken) is memory failed =
    absurd (valid_breaks_none (placed_table CLASSES SIZE_MAX file t) broken.rule broken.at o.valid
    (subst (λ (u : choice.SlotTable). FirstBroken (placed_table CLASSES SIZE_MAX file u) broken.rule
    broken.at) (one_table file is.read o.read) is.first))

-- so a dump of such a store stops there for want of memory alone
pub stopped_dump : {e seen : Embedded} → seen ≡ e → IsEmbedded seen → e.store.in_hand ≡ None
    → e.store.is_broken ≡ false → {file : List ℕ} → file ≡ file_in seen → (why : OpenFault)
    → RefusesToOpen CLASSES file why → (why ≡ fault.Slot slot.Disk → ⊥) → (cause : DumpStop)
    → (why ≡ fault.NoMemory → cause ≡ stop.NoMemory) → (out : List ℕ) → AnswersDump e out (Err cause)
stopped_dump {e} {seen} is inside idle whole {file} same why refuses calm cause memory out =
    let idle_seen : seen.store.in_hand ≡ None = ap (λ (z : Embedded). z.store.in_hand) is ∙ idle in
    let whole_seen : seen.store.is_broken ≡ false = ap (λ (z : Embedded). z.store.is_broken) is ∙ whole in
    let over = over_now seen inside idle_seen whole_seen in
    let none = unread (file_in seen) over.table (kept_in seen) seen.store.kept_book over.checkpoint.opens why
    (subst (λ (f : List ℕ). RefusesToOpen CLASSES f why) same refuses) (λ i. i) (λ i. absurd (calm i)) in
    subst (λ (c : DumpStop). AnswersDump e out (Err c)) (sym (memory none)) whole

-- ---- a load

-- why a load is refused that has read its text
no_memory : (k names : ℕ) (text : List ℕ) (room : Filing) (log : Logging) (f : LoadFault) → f ≡ load_fault.NoMemory
    → RefusesLoad k names text room log f
no_memory k names text room log f is = record {
  read = λ other. absurd (let bad = sym is ∙ other in cc);
  judged = λ judges. absurd (subst (λ (x : LoadFault). Judges (Err x)) is judges);
  lacks = λ other. absurd (let bad = sym is ∙ other in cc);
}

no_disk : (k names : ℕ) (text : List ℕ) (room : Filing) (log : Logging) (f : LoadFault) → f ≡ load_fault.Disk
    → LacksToLoad k names text room log → RefusesLoad k names text room log f
no_disk k names text room log f is lacks = record {
  read = λ other. absurd (let bad = sym is ∙ other in cc);
  judged = λ judges. absurd (subst (λ (x : LoadFault). Judges (Err x)) is judges);
  lacks = λ same. lacks;
}

-- a store that was opened of a file that was loaded, and rests
module _ (k names : ℕ) {input text : List ℕ} (same_text : input ≡ text) (left : List ℕ) (first : disk.State)
    (n : Noting)
    (w : LoadsWhole names (passed true input left) first (lent_state n))
    (o : OpensDump k names (passed true input left) (content n)) (rests : Rests (lent_state n))
    (room log_room : ℕ)
    (begun : Leaves (lent_state (lent [] room log_room)) (lent_state n)
    (IsLoadImage k names (passed true input left))) where
  abbrev IsLeft : List ℕ → Type 0
  IsLeft = IsLoadImage k names (passed true input left)

  found : (now : disk.State) (result : Result StoreValue OpenFault)
      → IsOpening CLASSES (lent_state n) now result
      → OpensFound CLASSES o.opens.table o.objects (laid_book o.objects) (lent_state n) now result
  found now result is = is.found refl o.opens.table o.objects (laid_book o.objects) o.opens.opens

  -- the opening leaves it alone
  left_alone : (now : disk.State) (result : Result StoreValue OpenFault)
      → IsOpening CLASSES (lent_state n) now result → Unchanged (lent_state n) now
  left_alone now result is = (found now result is).alone o.opens.settled (omega (
    arith,
    o.ends,
    ap (λ (b : SuperBlock). head_len b.names + book_end b.k (laid_book o.objects)) o.opens.made_for,
  ))

  loaded_stops : (e : Embedded) → IsOpening CLASSES (lent_state n) (disk_of e) (Ok e.store) → IsNotedOf [] e
      → StopsFrom [] (IsLoadImage k names (passed true text [])) e
  loaded_stops e is noted =
      subst (λ (z : List ℕ × List ℕ). StopsFrom [] (IsLoadImage k names (passed true z.0 z.1)) e)
      (λ i. (same_text i, w.ended refl i))
      (stops_from [] room log_room IsLeft e noted (inl refl) (Leaves-trans begun (Leaves-weaken IsLeft
      (λ image may. subst IsLeft (sym (rests image may)) (inr (inr o))) (left_alone (disk_of e) (Ok e.store) is).since)))

  has_loaded : (e : Embedded) → IsOpening CLASSES (lent_state n) (disk_of e) (Ok e.store) → IsNotedOf [] e
      → HasLoaded k names text e
  has_loaded e is noted =
      let op = is.opened refl in
      let table = one_table (content n) op.found.read o.opens.opens.read in
      let same : op.m ≡ w.objects = op.found.same_map
      ∙ ap (λ (t : choice.SlotTable). map_of (head_len t.chosen.block.names) (content n) t.records) table
      ∙ sym o.opens.opens.same_map
      ∙ one_map o.objects w.objects input (o.dump refl) (w.dump refl) in
      record {
        objects = w.objects;
        dump = subst (λ (t : List ℕ). IsDumpOf CLASSES SIZE_MAX w.objects t) same_text (w.dump refl);
        few = w.few;
        now = ap (λ (s : store.State). s.map) op.state ∙ same;
        kept = ap (λ (s : store.State). s.kept) op.state ∙ same;
        block = op.block ∙ ap (λ (t : choice.SlotTable). t.chosen.block) table ∙ o.opens.made_for;
        rests = (found (disk_of e) (Ok e.store) is).rests (λ image may. subst (SameOnFound o.opens.table (content n))
            (sym (rests image may)) (alike_itself o.opens.table (content n)));
        stops = loaded_stops e is noted;
      }

  -- a file that was loaded isn't opened for want of memory, of room or of log
  pub not_reopened : (filing : Filing) (log : Logging) {before : Noting}
      → before ≡ lent filing.file filing.most log.most
      → (lent_state n).last_mount ≡ (lent_state before).last_mount
      → n.history.faults ≡ before.history.faults
      → AsksToLoad k names input (lent_state before) (lent_state n) → (result : Result Embedded LoadFault)
      → IfErr result (λ f. (f ≡ load_fault.NoMemory) ⊎ ((f ≡ load_fault.Disk) × FailsToOpen n))
      → IfErr result (RefusesLoad k names text filing log)
  not_reopened filing log start same calm asks (Ok e) is = tt
  not_reopened filing log start same calm asks (Err f) (inl none) = no_memory k names text filing log f none
  not_reopened filing log {before} start same calm asks (Err f) (inr failed) =
      let x = failed.1 in
      let alone = left_alone (lent_state x.now) (Err x.refusal) x.opening in
      let of_text = subst (λ (m : Noting). AsksToLoad k names text (lent_state m) (lent_state n)) start
      (subst (λ (t : List ℕ). AsksToLoad k names t (lent_state before) (lent_state n)) same_text asks) in
      no_disk k names text filing log f failed.0 (unread (content n) o.opens.table o.objects
      (laid_book o.objects) o.opens.opens x.refusal (x.opening.refused refl) (λ i. absurd (x.memory i))
      (λ i. lacks_to_load filing log x.now
      (x.same_mount ∙ same ∙ ap (λ (m : Noting). (lent_state m).last_mount) start) x.cause k names text
      (subst (λ (m : ℕ). Rose m x.now.history.faults) (calm ∙ ap (λ (m : Noting). m.history.faults) start)
      (x.opening.cause.rose (λ j. Err (i j))))
      (record {
        tells = of_text.tells;
        asks = asks_then of_text.asks alone.asks (omega arith) (omega arith) (omega arith);
      })))

  pub loaded_by : (result : Result Embedded LoadFault)
      → IfOk result (λ s. IsOpening CLASSES (lent_state n) (disk_of s) (Ok s.store))
      → IfOk result (IsNotedOf []) → IfOk result (HasLoaded k names text)
  loaded_by (Ok e) is noted = has_loaded e is noted
  loaded_by (Err why) is noted = tt

pub fresh_by : (n : Noting) (result : Result Embedded LoadFault)
    → IfOk result (λ s. IsOpening CLASSES (lent_state n) (disk_of s) (Ok s.store))
    → IfOk result (λ s. IsFresh CLASSES s.store)
fresh_by n (Ok e) is = is.fresh
fresh_by n (Err why) is = tt

-- a load that failed by the disk lacks room or log
pub not_loaded : (k names : ℕ) {input text : List ℕ} → input ≡ text → (filing : Filing) (log : Logging)
    (before now : Noting) → before ≡ lent filing.file filing.most log.most
    → (lent_state now).last_mount ≡ (lent_state before).last_mount
    → (now.start.faults < now.history.faults → LacksSpace now) → (f : LoadFault)
    → (f ≡ load_fault.Disk → Rose before.history.faults now.history.faults)
    → AsksLoaded k names input (lent_state before) (lent_state now) (Err f) → f ≡ load_fault.Disk
    → LacksToLoad k names text filing log
not_loaded k names {input} {text} same_text filing log before now start same cause f rose asks failed =
    lacks_to_load filing log now (same ∙ ap (λ (m : Noting). (lent_state m).last_mount) start) cause k names
    text (subst (λ (m : Noting). Rose m.history.faults now.history.faults) start (rose failed))
    (subst (λ (t : List ℕ). AsksToLoad k names t (lent_state (lent filing.file filing.most log.most))
    (lent_state now)) same_text
    (subst (λ (m : Noting). AsksToLoad k names input (lent_state m) (lent_state now)) start
    (subst (λ (x : LoadFault). AsksLoaded k names input (lent_state before) (lent_state now) (Err x)) failed
    asks)))

-- ---- logs

-- where the start of a log stays over a call
pub start_stays : (before new : Noting) → (lent_state new).last_mount ≡ (lent_state before).last_mount
    → new.start ≡ before.start
start_stays before new same = (same_words new before (ap name_in same)).0

-- the log of what began on an empty file
pub noted_by : (first n : Noting) (result : Result Embedded LoadFault)
    → (lent_state n).last_mount ≡ (lent_state first).last_mount → first.start ≡ fresh []
    → IfOk result (λ s. IsLog n.start s.noting.history s.noting.text)
    → IfOk result (λ s. EndedBy s.noting.history.turn s.noting.history.calls)
    → IfOk result (IsNotedOf [])
noted_by first n (Ok e) same empty log ended = record {
  log = subst (λ (start : History). IsLog start e.noting.history e.noting.text)
      (start_stays first n same ∙ empty) log;
  ended = ended;
}
noted_by first n (Err why) same empty log ended = tt
