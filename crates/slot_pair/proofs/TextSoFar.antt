-- How far the loop over the pieces of a text has come.
use Rattle.std.specs.Prelude.{◌≡◌, ℕ, ◌+◌, ◌*◌, ◌<◌, ◌≤◌, IsTrue, List, [], ◌++◌, drop, length, min, take, refl}
use Rattle.std.proofs.Common.{◌∙◌, ap, arith, length-drop, subst, sym}
use Rattle.std.proofs.lemmas.List.{append-nil, drop-drop, length-take, length-take-le, take-append-drop, take_all}
use Rattle.std.proofs.Math.Seq.{take-add}
use Rattle.byte_ranges.specs.Ranges.{bytes_at, overwritten}
use Rattle.byte_ranges.proofs.RangeLaws.{bytes_at-overwritten, overwritten-pieces}
use Rattle.disk_face.specs.Counts.{counted, last}
use Rattle.disk_face.specs.Frames.{AfterWrite, Asks, call_weight}
use Rattle.disk_face.specs.States.{State}
use Rattle.disk_face.specs.Writes.{WritesWithin}
use Rattle.slot_codec.specs.Changes.{Change, gone_of, moves_of, puts_of}
use Rattle.slot_codec.specs.Entries.{entry_room}
use Rattle.slot_codec.specs.Rows.{AreChanges, Rows}
use Rattle.slot_codec.specs.declared.codec.Header.{Header}
use Rattle.slot_codec.specs.declared.entry.EntryHead.{EntryHead}
use Rattle.slot_pair.specs.Appends.{head_for}
use Rattle.slot_pair.specs.Pieces.{entry_items, text_from, unwritten}
use Rattle.slot_pair.specs.declared.entry.Spelled.{Spelled}
use Rattle.slot_pair.proofs.PieceLaws.{items_are_text, length-entry_text}
use Rattle.slot_pair.proofs.SpelledLaws.{HoldsPiece, behind_piece, first_piece}
use Rattle.disk_face.proofs.FrameLaws.{asks_then}
use Rattle.disk_face.proofs.WriteLaws.{within-none, within-trans, within-wider, within-write}

-- so many pieces of 57,344 bytes of a text with `room` bytes are written at a position, by one call each
pub record TextSoFar (start room : ℕ) (text : List ℕ) (pieces : ℕ) (old new : State) : Type 0 where
  pub writes : WritesWithin start room old new
  pub file : IsTrue old.tells → new.file ≡ overwritten old.file start (take (57344 * pieces) text)
  pub calls : new.turn ≡ counted old.turn pieces
  pub calm : new.faults ≡ old.faults
  pub asks : Asks (call_weight * pieces + min (57344 * pieces) room) 0 old new

-- none is
pub none_so_far : (start room : ℕ) (text : List ℕ) (a : State) → IsTrue a.is_ready → a.turn ≤ last
    → TextSoFar start room text 0 a a
none_so_far start room text a ready fits = record {
  writes = within-none start room a ready;
  file = λ told. sym (unwritten_file a.file start);
  calls = omega (arith, fits);
  calm = refl;
  asks = record { weight = omega arith; longest = omega arith };
}
  where
    unwritten_file : (file : List ℕ) (start : ℕ) → overwritten file start [] ≡ file
    unwritten_file file start =
        let none : start + 0 ≡ start = omega arith in
        ap (λ t. t ++ drop (start + 0) file) (append-nil (take start file))
        ∙ ap (λ k. take start file ++ drop k file) none
        ∙ take-append-drop start file

-- the bytes of a piece, where the text has some there
pub record IsPiece (room : ℕ) (text : List ℕ) (pieces : ℕ) (bytes : List ℕ) : Type 0 where
  pub some : 57344 * pieces < room
  pub long : length text ≡ room
  pub bytes_are : bytes ≡ bytes_at text (57344 * pieces) 57344

pub length-piece : {room : ℕ} {text : List ℕ} {pieces : ℕ} {bytes : List ℕ} → IsPiece room text pieces bytes
    → 57344 * pieces + length bytes ≡ min (57344 * (pieces + 1)) room
length-piece {room} {text} {pieces} {bytes} is = omega (
  arith,
  is.some,
  is.long,
  ap length is.bytes_are,
  length-take 57344 (drop (57344 * pieces) text),
  length-drop (57344 * pieces) text,
)

-- a write of one, failed or not
pub piece_writes : {start room : ℕ} {text : List ℕ} {pieces at : ℕ} {bytes : List ℕ} {a b c : State}
    → TextSoFar start room text pieces a b → IsPiece room text pieces bytes → at ≡ start + 57344 * pieces
    → AfterWrite at (length bytes) b c → WritesWithin start room a c
piece_writes {start} {room} so_far is place w = within-trans so_far.writes
    (within-wider start room (omega (arith, place)) (omega (arith, place, length-piece is)) (within-write w))

pub piece_asks : {start room : ℕ} {text : List ℕ} {pieces at : ℕ} {bytes : List ℕ} {a b c : State}
    → TextSoFar start room text pieces a b → IsPiece room text pieces bytes
    → AfterWrite at (length bytes) b c
    → Asks (call_weight * (pieces + 1) + min (57344 * (pieces + 1)) room) 0 a c
piece_asks so_far is w =
    asks_then so_far.asks w.asks (omega (arith, length-piece is, is.some)) (omega arith) (omega arith)

-- and where it didn't fail
pub piece_written : {start room : ℕ} {text : List ℕ} {pieces at : ℕ} {bytes : List ℕ} {a b c : State}
    → TextSoFar start room text pieces a b → IsPiece room text pieces bytes → at ≡ start + 57344 * pieces
    → AfterWrite at (length bytes) b c → (IsTrue a.tells → start + room ≤ length a.file)
    → (IsTrue b.tells → c.file ≡ overwritten b.file at bytes) → c.faults ≡ b.faults
    → TextSoFar start room text (pieces + 1) a c
piece_written {start} {room} {text} {pieces} {at} {bytes} {a} {b} {c} so_far is place w within written calm =
    record {
      writes = piece_writes so_far is place w;
      file = λ told.
          let front = take (57344 * pieces) text in
          let long : length front ≡ 57344 * pieces =
          length-take-le (57344 * pieces) text (omega (arith, is.some, is.long)) in
          let behind_front : at ≡ start + length front = omega (arith, place, long) in
          let next : 57344 * pieces + 57344 ≡ 57344 * (pieces + 1) = omega arith in
          written (subst IsTrue (sym so_far.writes.stays.told) told)
          ∙ ap (λ file. overwritten file at bytes) (so_far.file told)
          ∙ ap (λ k. overwritten (overwritten a.file start front) k bytes) behind_front
          ∙ overwritten-pieces a.file start front bytes
          (omega (arith, long, length-piece is, within told))
          ∙ ap (λ t. overwritten a.file start (front ++ t)) is.bytes_are
          ∙ ap (overwritten a.file start) (sym (take-add (57344 * pieces) 57344 text)
          ∙ ap (λ k. take k text) next);
      calls = omega (arith, w.one_turn, so_far.calls);
      calm = calm ∙ so_far.calm;
      asks = piece_asks so_far is w;
    }

-- all are
pub text_stands : {start room : ℕ} {text : List ℕ} {pieces : ℕ} {a b : State}
    → TextSoFar start room text pieces a b → length text ≡ room → room ≤ 57344 * pieces → IsTrue a.tells
    → start + room ≤ length a.file → bytes_at b.file start room ≡ text
text_stands {start} {room} {text} {pieces} {a} {b} so_far long all told within =
    let whole : b.file ≡ overwritten a.file start text = so_far.file told
    ∙ ap (overwritten a.file start) (take_all (57344 * pieces) text (omega (arith, long, all))) in
    ap (λ file. bytes_at file start room) whole
    ∙ ap (bytes_at (overwritten a.file start text) start) (sym long)
    ∙ bytes_at-overwritten a.file start text (omega (arith, long, within))

-- the front of a buffer that holds a piece
pub is_piece : {s : Spelled} {buf : List ℕ} {items : List (List ℕ)} {room : ℕ} {text : List ℕ} {pieces : ℕ}
    → HoldsPiece s buf items (drop (57344 * pieces) text) → (n : ℕ) → n ≡ min s.held 57344
    → length text ≡ room → 57344 * pieces < room → IsPiece room text pieces (take n buf)
is_piece has n is long some = record { some = some; long = long; bytes_are = first_piece has n is }

-- what isn't written once so many pieces are
pub record HoldsRest (s : Spelled) (buf : List ℕ) (items : List (List ℕ)) (pieces : ℕ) : Type 0 where
  pub text : unwritten s buf items ≡ drop (57344 * pieces) (text_from 0 items)
  pub within : s.held ≤ length buf

pub after_piece : {s : Spelled} {buf : List ℕ} {items : List (List ℕ)} (pieces : ℕ)
    → HoldsPiece s buf items (drop (57344 * pieces) (text_from 0 items)) → (n : ℕ) → n ≡ min s.held 57344
    → (t : Spelled) (rest : List ℕ) → t.items ≡ s.items → take t.held rest ≡ drop n (take s.held buf)
    → t.held ≤ length rest → HoldsRest t rest items (pieces + 1)
after_piece {s} {buf} {items} pieces has n is t rest same moved within =
    let text = text_from 0 items in
    let next : 57344 * pieces + 57344 ≡ 57344 * (pieces + 1) = omega arith in
    record {
      text = ap (λ k. take t.held rest ++ text_from k items) same
          ∙ ap (λ front. front ++ text_from s.items items) moved
          ∙ behind_piece has n is
          ∙ drop-drop 57344 (57344 * pieces) text
          ∙ ap (λ k. drop k text) next;
      within = within;
    }

-- how long the items of an entry are
pub length-items : (rows : Rows) (h : Header) (cs : List Change) (head : EntryHead) → head ≡ head_for h cs
    → AreChanges rows (moves_of cs) (gone_of cs) (puts_of cs)
    → length (text_from 0 (entry_items h cs)) ≡ entry_room head
length-items rows h cs head is are = ap length (items_are_text h cs) ∙ length-entry_text rows h cs are
    ∙ ap entry_room (sym is)
