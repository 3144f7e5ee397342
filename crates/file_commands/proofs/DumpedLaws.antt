-- How `dump` ends: as its stream did, or before it put any byte.
use Rattle.std.specs.Prelude.{◌≡◌, ◌≢◌, ℕ, List, [], ◌++◌, length, Ok, Err, IsTrue, refl}
use Rattle.std.proofs.Common.{arith, ap, sym, ◌∙◌, subst, inl, inr, append_assoc, append-nil}
use Rattle.std.proofs.lemmas.List.{take_all}
use Rattle.std.specs.FinMap as fin
use Rattle.disk_face.specs.States.{State}
use Rattle.disk_face.specs.Streams.{SinkState}
use Rattle.command_face.specs.Mounting.{IsNotThere}
use Rattle.size_class.specs.declared.TheConstants.{CLASSES, SIZE_MAX}
use Rattle.slot_codec.specs.Spelling.{head_len}
use Rattle.map_model.specs.Maps.{Map}
use Rattle.segment_layout.specs.Books.{Book, with_digests}
use Rattle.table_rules.specs.Opening.{placed_table}
use Rattle.table_rules.specs.Tables.{book_of}
use Rattle.placement_model.specs.Reads.{read_at}
use Rattle.reopen.specs.Loads.{IsReadAs, digests_loaded, table_seen}
use Rattle.reopen.specs.declared.state.Loaded.{Loaded}
use Rattle.dump_stream.specs.Dumping.{PutsDump, sound_front}
use Rattle.dump_stream.specs.Dumps.{dump_line, dump_text, objects_text}
use Rattle.dump_stream.specs.declared.putting.DumpFault.TheVariants as fault
use Rattle.command_face.specs.declared.stop.StopReason.{StopReason}
use Rattle.command_face.specs.declared.stop.StopReason.TheVariants as stop
use Rattle.command_face.specs.Refusing.{IsNotRead}
use Rattle.file_commands.specs.Getting.{StopsAs}
use Rattle.file_commands.specs.Dumped.{Dumps, EndsDump, IsOfMap}

-- ---- as its stream did

module _ (file : List ℕ) (x : Loaded CLASSES) (from : IsReadAs file x) (old new : SinkState) where
  abbrev m : Map
  m = read_at (head_len x.block.names) file x.table.now

  abbrev b : Book
  b = with_digests (digests_loaded x) (book_of (placed_table CLASSES SIZE_MAX file
      (table_seen x (digests_loaded x))))

  of_map : (holds : Map → Book → Type 0) → holds m b → IsOfMap file holds
  of_map holds so = record {
    map = m;
    book = b;
    reads = record { table = table_seen x (digests_loaded x); opens = from };
    so = so;
  }

  pub dumps_all : {T : Type 0} (u : T) → PutsDump CLASSES (digests_loaded x) m old new (Ok u)
      → Dumps file old new (Ok tt)
  dumps_all u p = record {
    bytes = dump_text CLASSES m;
    ends = of_map _ (p.sound, refl);
    puts = λ told. record { all = (p.puts told (λ is. absurd (cc))).all; front = tt };
    cut = λ told is. absurd (cc);
  }

  pub dumps_front : {T : Type 0} → PutsDump {T = T} CLASSES (digests_loaded x) m old new (Err fault.Damaged)
      → Dumps file old new (Err stop.Damaged)
  dumps_front p =
      let bytes = dump_line CLASSES m ++ objects_text (sound_front b.digests (fin.entries m)) in
      let all : IsTrue old.tells → new.given ≡ old.given ++ bytes = λ told. p.stops told refl
      ∙ append_assoc old.given (dump_line CLASSES m) (objects_text (sound_front b.digests (fin.entries m))) in
      record {
        bytes = bytes;
        ends = of_map _ (p.damaged refl, refl);
        puts = λ told. record {
          all = tt;
          front = (
            length bytes,
            omega arith,
            all told ∙ ap (λ (s : List ℕ). old.given ++ s) (sym (take_all (length bytes) bytes
                (omega arith))),
          );
        };
        cut = λ told is. all told;
      }

  pub dumps_until_disk : {T : Type 0} → PutsDump {T = T} CLASSES (digests_loaded x) m old new (Err fault.Disk)
      → Dumps file old new (Err stop.Disk)
  dumps_until_disk p = record {
    bytes = dump_text CLASSES m;
    ends = inl (of_map _ refl);
    puts = λ told. record { all = tt; front = (p.puts told (λ is. absurd (cc))).front };
    cut = λ told is. absurd (cc);
  }

  pub dumps_until_sink : {T : Type 0} → PutsDump {T = T} CLASSES (digests_loaded x) m old new (Err fault.Sink)
      → Dumps file old new (Err stop.Sink)
  dumps_until_sink p = record {
    bytes = dump_text CLASSES m;
    ends = of_map _ refl;
    puts = λ told. record { all = tt; front = (p.puts told (λ is. absurd (cc))).front };
    cut = λ told is. absurd (cc);
  }

-- ---- before it put any byte

-- for a reason that leaves no bytes
pub dumps_none : (file : List ℕ) (state : SinkState) (why : StopReason) → why ≢ stop.Damaged
    → EndsDump file [] (Err why) → Dumps file state state (Err why)
dumps_none file state why other ends = record {
  bytes = [];
  ends = ends;
  puts = λ told. record { all = tt; front = (0, omega arith, sym (append-nil state.given)) };
  cut = λ told is. absurd (let e : why ≡ stop.Damaged = cc in other e);
}

-- a file that isn't read shows no damaged object
pub none_damaged : (file : List ℕ) (why : StopReason) → StopsAs (IsNotRead file) why → why ≢ stop.Damaged
none_damaged file why is same =
    let refused = subst (StopsAs (IsNotRead file)) same is in
    let bad = refused.same in absurd (cc)

-- the file isn't read
pub ends_unread : (file : List ℕ) (why : StopReason) → why ≢ stop.Sink → why ≢ stop.NoFile
    → why ≢ stop.Damaged → StopsAs (IsNotRead file) why → EndsDump file [] (Err why)
ends_unread file stop.Disk sink gone damaged is = inr refl
ends_unread file stop.Sink sink gone damaged is = absurd (sink refl)
ends_unread file stop.NoFile sink gone damaged is = absurd (gone refl)
ends_unread file stop.Damaged sink gone damaged is = absurd (damaged refl)
ends_unread file stop.NoMemory sink gone damaged is = refl
ends_unread file why sink gone damaged is = (is, refl)

-- the file isn't there, or its mount failed
pub dumps_unmounted : (name : List ℕ) (before after : State) (file : List ℕ) (state : SinkState)
    (why : StopReason) → IsNotThere name before after (why ≡ stop.Disk) (why ≡ stop.NoFile)
    → Dumps file state state (Err why)
dumps_unmounted name before after file state why is = elim is as (λ _. Dumps file state state (Err why)) [
  | inl failed ↦ subst (λ (w : StopReason). Dumps file state state (Err w)) (sym failed.0)
      (dumps_none file state stop.Disk (λ e. absurd (cc)) (inr refl))
  | inr absent ↦ subst (λ (w : StopReason). Dumps file state state (Err w)) (sym absent.0)
      (dumps_none file state stop.NoFile (λ e. absurd (cc)) refl)
]
