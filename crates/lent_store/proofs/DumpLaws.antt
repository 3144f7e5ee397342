-- What a dump that is put into memory of its own, of a view of a file, copies.
use Rattle.std.proofs.Common.{arith, ap, ◌≡◌, ◌∙◌, subst, sym, ℕ, List, [], ◌∷◌}
use Rattle.std.proofs.lemmas.List.{length-take-le}
use Rattle.std.specs.Prelude.{length, ◌+◌, ◌<◌, ◌≤◌, ◌++◌, drop, min, slice_index, take, Result, Err, IsTrue}
use Rattle.disk_face.specs.Counts.{Rose, last}
use Rattle.disk_face.specs.States as disk
use Rattle.disk_face.specs.Streams.{SinkState}
use Rattle.size_class.specs.declared.TheConstants.{CLASSES}
use Rattle.slot_codec.specs.Spelling.{head_len}
use Rattle.placement_model.specs.Reads.{read_at}
use Rattle.reopen.specs.declared.state.Loaded.{Loaded}
use Rattle.dump_stream.specs.Dumping.{DumpsLoaded}
use Rattle.dump_stream.specs.Dumps.{dump_text}
use Rattle.dump_stream.specs.declared.putting.DumpFault.{DumpFault}
use Rattle.dump_stream.specs.declared.putting.DumpFault.TheVariants as why
use Rattle.lent_store.specs.declared.stream.DumpStop.TheVariants as stop
use Rattle.lent_store.specs.Streams.{CopiesDump}

-- a view that was only read has refused no call
pub never_fails : {P : Type 0} (before now : ℕ) → before ≡ 0 → min now last ≡ min before last
    → Rose before now → P
never_fails before now none same rose = absurd (omega (arith, none, same, rose))

-- what was put into memory of which this is the room
module _ {room held : ℕ} {put : List ℕ} where
  put_is : (text : List ℕ) → held ∷ put ≡ (room ∷ []) ++ text → put ≡ text
  put_is text is = ap (drop 1) is

  room_is : (text : List ℕ) → held ∷ put ≡ (room ∷ []) ++ text → held ≡ room
  room_is text is = ap (λ (l : List ℕ). slice_index l 0) is

  -- a text that didn't fit is longer
  put_short : (text : List ℕ) {n : ℕ} → room ≡ n + 1 → held ≤ length put
      → ((m : ℕ) × (m ≤ length text) × (held ∷ put ≡ (room ∷ []) ++ take m text)) → n < length text
  put_short text {n} is full front =
      omega (
        arith,
        is,
        full,
        front.1,
        room_is (take front.0 text) front.2,
        ap length (put_is (take front.0 text) front.2),
        length-take-le front.0 text front.1,
      )

-- A dump of a file was put into memory, that had this room and nothing in it: where it didn't fit it is
-- longer.
module _ (x : Loaded CLASSES) (file : List ℕ) (before after : disk.State) (given now : SinkState)
    (result : Result (Unit {0}) DumpFault) (d : DumpsLoaded x before after given now result)
    (told : IsTrue before.tells) (same : before.file ≡ file) (heard : IsTrue given.tells) (room held : ℕ)
    (put : List ℕ) (none : given.given ≡ room ∷ []) (is_put : now.given ≡ held ∷ put) (out : List ℕ) where
  abbrev text_of_file : List ℕ → List ℕ
  text_of_file f = dump_text CLASSES (read_at (head_len x.block.names) f x.table.now)

  pub sink_stops : result ≡ Err why.Sink → given.faults ≡ 0 → room ≡ length out + 1
      → (0 < now.faults → held ≤ length put) → CopiesDump x file out (Err stop.Short)
  sink_stops is calm long full =
      let cut = subst (λ (r : Result (Unit {0}) DumpFault). DumpsLoaded x before after given now r) is d in
      let front = ((cut.puts told).puts heard (λ bad. absurd (cc))).front in
      let same_front : held ∷ put ≡ (room ∷ []) ++ take front.0 (text_of_file before.file) =
      sym is_put ∙ front.2 ∙ ap (λ (l : List ℕ). l ++ take front.0 (text_of_file before.file)) none in
      let rose = d.causes.sink_cause.rose is in
      subst (λ (f : List ℕ). length out < length (text_of_file f)) same
      (put_short {room = room} {held = held} {put = put} (text_of_file before.file) long
      (full (omega (arith, rose, calm))) (front.0, front.1, same_front))
