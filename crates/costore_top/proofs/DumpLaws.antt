-- What `dump` puts of a file that opens: when it puts it, and that it is loaded to the same map.
use Rattle.std.specs.Prelude.{◌≡◌, ◌⊎◌, ℕ, zero, suc, List, [], ◌++◌, false, take, Result, Ok, Err, IsOk, IsTrue, refl}
use Rattle.std.proofs.Common.{◌∙◌, ap, inl, inr, subst, sym}
use Rattle.std.proofs.lemmas.List.{append-nil}
use Rattle.disk_face.specs.Counts.{IsCalm}
use Rattle.disk_face.specs.Devices.{Devices}
use Rattle.disk_face.specs.Streams.{SinkState, SourceState}
use Rattle.disk_face.specs.declared.bay.Mounted.TheVariants.{There}
use Rattle.slot_codec.specs.Reading.{is_logged}
use Rattle.size_class.specs.declared.TheConstants.{CLASSES, SIZE_MAX}
use Rattle.map_model.specs.Maps.{Map}
use Rattle.segment_layout.specs.Books.{Book}
use Rattle.table_rules.specs.Opening.{Opens, Reads}
use Rattle.table_rules.proofs.ReadingLaws.{plain_reads}
use Rattle.dump_stream.specs.Dumps.{dump_text}
use Rattle.dump_stream.specs.Placing.{laid_book}
use Rattle.dump_stream.proofs.TextLaws.{one_map}
use Rattle.load_stream.specs.Saved.{OpensFor}
use Rattle.command_face.specs.Layers.{HasCauses}
use Rattle.command_face.specs.Mounting.{IsMounted, mounted}
use Rattle.command_face.specs.Outcomes.{PutsLast, line_at, status_at}
use Rattle.command_face.specs.declared.status.TheConstants.{DISK_FAILED, DONE, NO_FILE, NO_MEMORY, SINK_FAILED}
use Rattle.command_face.specs.declared.stop.StopReason.{StopReason}
use Rattle.command_face.specs.declared.stop.StopReason.TheVariants as stop
use Rattle.command_face.proofs.StatusEnds.{ok_by}
use Rattle.command_face.proofs.UnopenedLaws.{read_or_not}
use Rattle.file_commands.specs.Dumped.{EndsDump, IsSoundDump, IsSoundMap}
use Rattle.file_commands.proofs.DumpableLaws.{can_dump}
use Rattle.load_command.specs.Ends.{IsDone}
use Rattle.load_command.specs.Loading.{LoadPromise}
use Rattle.costore_top.specs.Promises.{DumpPromise}
use Rattle.costore_top.proofs.AnswerLaws.{read_to_one_book, read_to_one_map}
use Rattle.costore_top.proofs.CalmLaws.{not_absent, not_disk, not_sink}

take_none : (n : ℕ) → ◌≡◌ {A = List ℕ} (take n []) []
take_none zero = refl
take_none (suc n) = refl

-- where no line is put last, nothing is
nothing_last : (before now : List ℕ) (failed : Type 0) → PutsLast before now [] failed → now ≡ before
nothing_last before now failed p =
    p.front.2 ∙ ap (λ xs. before ++ xs) (take_none p.front.0) ∙ append-nil before

module _ (m : Map) (b : Book) (file : List ℕ) (opens : Opens CLASSES SIZE_MAX file m b) where
  reads : Reads CLASSES SIZE_MAX file m b
  reads = plain_reads CLASSES SIZE_MAX file m b opens

  -- a dump that is done has put the dump of the map
  put_whole : (out after : SinkState) → IsTrue out.tells → out.given ≡ [] → DumpPromise file DONE out after
      → after.given ≡ dump_text CLASSES m
  put_whole out after told none p =
      let done : p.end ≡ Ok tt = ok_by p.end (sym p.same_status) in
      let puts = p.puts told in
      let is : IsSoundDump file p.bytes = subst (EndsDump file p.bytes) done p.by in
      nothing_last puts.between after.given _
      (subst (λ (e : Result (Unit {0}) StopReason). PutsLast puts.between after.given (line_at e) _) done
      puts.line)
      ∙ puts.whole (inl (subst IsOk (sym done) refl)) ∙ ap (λ xs. xs ++ p.bytes) none ∙ is.so.1
      ∙ ap (dump_text CLASSES) (read_to_one_map file is.map m is.book b is.reads reads)

  -- and a load of what it put makes a file that opens to the map
  pub loaded_back : (k names : ℕ) (out after : SinkState) (old new : Devices) (from rest : SourceState)
      → IsTrue out.tells → out.given ≡ [] → DumpPromise file DONE out after → IsTrue old.disk.tells
      → IsTrue from.tells → from.left ≡ after.given → LoadPromise k names DONE old new from rest
      → OpensFor k names new.disk.file m (laid_book m)
  loaded_back k names out after old new from rest sink_told none dumps disk_told told same loads =
      let done = ok_by loads.end (sym loads.same_status) in
      let has = loads.loaded told (subst IsDone (sym done) tt) in
      let one : has.m ≡ m = one_map has.m m from.left has.dump (record {
        can = can_dump CLASSES SIZE_MAX opens.table file m b opens.opens;
        same = same ∙ put_whole out after sink_told none dumps;
      }) in
      subst (λ (x : Map). OpensFor k names new.disk.file x (laid_book x)) one (has.opens disk_told)

  -- ---- when it is put

  sound_end : (end : Result (Unit {0}) StopReason) (bytes : List ℕ) → EndsDump file bytes end
      → IsSoundMap m b → (status_at end ≡ DISK_FAILED → ⊥) → (status_at end ≡ SINK_FAILED → ⊥)
      → (status_at end ≡ NO_FILE → ⊥) → (status_at end ≡ DONE) ⊎ (status_at end ≡ NO_MEMORY)
  sound_end (Ok x) bytes by sound disk sink there = inl refl
  sound_end (Err stop.NoMemory) bytes by sound disk sink there = inr refl
  sound_end (Err stop.Disk) bytes by sound disk sink there = absurd (disk refl)
  sound_end (Err stop.Sink) bytes by sound disk sink there = absurd (sink refl)
  sound_end (Err stop.NoFile) bytes by sound disk sink there = absurd (there refl)
  sound_end (Err stop.Damaged) bytes by sound disk sink there =
      let map = read_to_one_map file m by.map b by.book reads by.reads in
      let book = read_to_one_book file m by.map b by.book reads by.reads in
      absurd (by.so.0 (subst (λ (x : Map × Book). IsSoundMap x.0 x.1) (λ i. (map i, book i)) sound))
  sound_end (Err why) bytes by sound disk sink there =
      absurd (read_or_not (is_logged file) reads.table file m b by.0.fault reads.opens by.0.first)

  pub sound_dumped : (name : List ℕ) (status : ℕ) (old new : Devices) → old.disk.file ≡ file
      → IsSoundMap m b → DumpPromise file status old.sink new.sink
      → HasCauses old.disk new.disk old.sink new.sink (status ≡ DISK_FAILED) (status ≡ SINK_FAILED)
      (status ≡ DONE)
      → IsMounted name false new.disk.last_mount (status ≡ DISK_FAILED) (status ≡ NO_FILE)
      → new.disk.last_mount ≡ mounted name false There → IsCalm old.disk.faults new.disk.faults
      → IsCalm old.sink.faults new.sink.faults → (status ≡ DONE) ⊎ (status ≡ NO_MEMORY)
  sound_dumped name status old new same sound p causes mount there calm sink_calm =
      subst (λ n. (n ≡ DONE) ⊎ (n ≡ NO_MEMORY)) (sym p.same_status)
      (sound_end p.end p.bytes p.by sound
      (λ is. not_disk name status old new causes mount there calm sink_calm (p.same_status ∙ is))
      (λ is. not_sink name status old new causes mount there calm sink_calm (p.same_status ∙ is))
      (λ is. not_absent name status old new causes mount there calm sink_calm (p.same_status ∙ is)))
