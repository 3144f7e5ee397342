-- What is noted of an opening, and the store that a file is which was formatted.
use Rattle.std.proofs.Common.{◌≡◌, ◌∙◌, ap, arith, inl, inr, refl, subst, sym, ℕ, List, []}
use Rattle.std.specs.Prelude.{true, false, IsErr, IsTrue, OnErr, OnOk, Ok, Err, Result, length}
use Rattle.std.specs.FinMap as fin
use Rattle.disk_face.specs.declared.DiskFault.{DiskFault}
use Rattle.disk_face.specs.Frames.{Unchanged}
use Rattle.disk_face.specs.Moments.{Leaves, Rests}
use Rattle.disk_face.specs.States as disk
use Rattle.disk_face.proofs.MomentLaws.{Leaves-trans, Leaves-weaken}
use Rattle.disk_history.specs.Histories.{EndedBy}
use Rattle.lent_disk.specs.Disks.{lent_state}
use Rattle.lent_disk.specs.Notings.{IsLog, Noting, lent}
use Rattle.lent_disk.specs.Rooms.{Filing, Logging}
use Rattle.slot_codec.specs.Choice as choice
use Rattle.slot_codec.specs.Spelling.{head_len}
use Rattle.slot_codec.specs.declared.codec.Kind.TheVariants.{Settled}
use Rattle.slot_pair.specs.Formats.{HasFirstTable, IsNoStoreOrEmpty, first_header, first_in_use, first_table, formatted_file}
use Rattle.slot_pair.specs.declared.find.SlotFault.TheVariants as slot
use Rattle.slot_pair.proofs.FormatLaws.{length-formatted}
use Rattle.size_class.specs.declared.TheConstants.{CLASSES, SIZE_MAX}
use Rattle.map_model.specs.Maps.{Map}
use Rattle.segment_layout.specs.Books.{Book, empty_book, with_digests}
use Rattle.table_rules.specs.Opening.{OpensBy, placed_table}
use Rattle.table_rules.specs.Rules.{FirstBroken}
use Rattle.table_rules.specs.Tables.{book_of, map_of}
use Rattle.table_rules.proofs.FirstLaws.{valid_breaks_none}
use Rattle.reopen.specs.Refusals.{RefusesToOpen}
use Rattle.reopen.specs.declared.fault.OpenFault.{OpenFault}
use Rattle.reopen.specs.declared.fault.OpenFault.TheVariants as fault
use Rattle.store_model.specs.Connection.{StoreValue}
use Rattle.store_model.specs.Opened.{IsOpening, SameOnFound, state_at}
use Rattle.lent_store.specs.Made.{IsFormatImage, IsMade, LacksToFormat, NotMade}
use Rattle.lent_store.specs.Noted.{IsNotedOf, StopsFrom}
use Rattle.dump_stream.proofs.FirstLaws.{first_opens}
use Rattle.lent_store.proofs.NotedLaws.{noted_since}
use Rattle.store_model.proofs.OpeningLaws.{alike_itself}
use Rattle.load_stream.proofs.ImageLaws.{empty_for}

-- of a file that was lent
pub opening_noted : (file : List ℕ) (room log_room : ℕ) (s : StoreValue) (n : Noting)
    → (lent_state n).last_mount ≡ (lent_state (lent file room log_room)).last_mount
    → IsLog n.start n.history n.text → EndedBy n.history.turn n.history.calls
    → IsNotedOf file (record { store = s; noting = n })
opening_noted file room log_room s n same log ended = record {
  log = noted_since (lent file room log_room) n same log;
  ended = ended;
}

unrefused : {P : Type 0} (k names : ℕ) (file : List ℕ) (why : choice.SlotRefusal) → HasFirstTable k names file
    → choice.table_of file ≡ Err why → P
unrefused k names file why first is = absurd (let e = sym first.table ∙ is in cc)

module _ (k names : ℕ) (file : List ℕ) (first : HasFirstTable k names file) where
  opens : OpensBy CLASSES SIZE_MAX (first_table k names) file fin.empty empty_book
  opens = first_opens k names file first

  one_table : (t : choice.SlotTable) → choice.table_of file ≡ Ok t → t ≡ first_table k names
  one_table t is = let e : Ok t ≡ Ok (first_table k names) = sym is ∙ first.table in cc

  -- it isn't refused for what it has
  pub not_made : (room : Filing) (log : Logging) (why : OpenFault) → RefusesToOpen CLASSES file why
      → (why ≡ fault.Slot slot.Disk → LacksToFormat names room log) → NotMade names room log why
  not_made room log fault.NoMemory is lacks = inl refl
  not_made room log (fault.Slot slot.Disk) is lacks = inr (refl, lacks refl)
  not_made room log (fault.Slot slot.Short) is lacks = unrefused k names file choice.too_short first is
  not_made room log (fault.Slot slot.Unformatted) is lacks =
      unrefused k names file choice.unformatted first is
  not_made room log (fault.Slot slot.NoGate) is lacks = unrefused k names file choice.no_gate first is
  not_made room log (fault.Slot slot.SameSequence) is lacks =
      unrefused k names file choice.same_sequence first is
  not_made room log (fault.Slot (slot.Codec f at)) is lacks =
      unrefused k names file (choice.codec f at) first is
  not_made room log (fault.Table broken) is lacks =
      absurd (valid_breaks_none (placed_table CLASSES SIZE_MAX file
      (first_table k names)) broken.rule broken.at opens.valid
      (subst (λ (t : choice.SlotTable). FirstBroken (placed_table CLASSES SIZE_MAX file t) broken.rule
      broken.at) (one_table is.table is.read) is.first))

  no_map : (t : choice.SlotTable) (m : Map) (b : Book) → OpensBy CLASSES SIZE_MAX t file m b → m ≡ fin.empty
  no_map t m b is = is.same_map
      ∙ ap (λ (x : choice.SlotTable). map_of (head_len x.chosen.block.names) file x.records)
      (one_table t is.read)
      ∙ sym opens.same_map

  no_book : (t : choice.SlotTable) (m : Map) (b : Book) → OpensBy CLASSES SIZE_MAX t file m b → b ≡ empty_book
  no_book t m b is = is.same_book
      ∙ ap (λ (x : choice.SlotTable). with_digests x.digests (book_of (placed_table CLASSES SIZE_MAX file x)))
      (one_table t is.read)
      ∙ sym opens.same_book

settled : (k names : ℕ) → (first_table k names).chosen.header.kind ≡ Settled
unfolding first_header
settled k names = refl

-- an opening of such a file leaves it alone
pub left_alone : (k names : ℕ) (before now : disk.State) (result : Result StoreValue OpenFault)
    → before.file ≡ formatted_file k names → HasFirstTable k names before.file → IsTrue before.tells
    → IsOpening CLASSES before now result → Unchanged before now
left_alone k names before now result is first told opening =
    (opening.found told (first_table k names) fin.empty empty_book (opens k names before.file first)).alone
    (settled k names) (omega (arith, length-formatted k names, ap length is))

-- and what a crash leaves of both is no store, or an empty one
module _ (k names : ℕ) (before : disk.State) (s : StoreValue) (n : Noting)
    (is : before.file ≡ formatted_file k names) (first : HasFirstTable k names before.file)
    (told : IsTrue before.tells) (opening : IsOpening CLASSES before (lent_state n) (Ok s)) where
  pub made_left : (start : disk.State) → Rests before
      → Leaves start before (IsNoStoreOrEmpty k names) → Leaves start (lent_state n) (IsFormatImage k names)
  made_left start rests left = Leaves-trans
      (Leaves-weaken (IsFormatImage k names) format_image left)
      (Leaves-weaken (IsFormatImage k names)
      (λ image may. inr (empty_for k names image (subst (HasFirstTable k names) (sym (rests image may))
      first)))
      (left_alone k names before (lent_state n) (Ok s) is first told opening).since)
    where
      format_image : (image : List ℕ) → IsNoStoreOrEmpty k names image → IsFormatImage k names image
      format_image image (inl none) = inl none
      format_image image (inr is_first) = inr (empty_for k names image is_first)

-- a store that was opened of such a file
pub made : (k names : ℕ) (before : disk.State) (s : StoreValue) (n : Noting)
    → before.file ≡ formatted_file k names → HasFirstTable k names before.file → Rests before
    → IsTrue before.tells → IsOpening CLASSES before (lent_state n) (Ok s)
    → IsNotedOf [] (record { store = s; noting = n })
    → StopsFrom [] (IsFormatImage k names) (record { store = s; noting = n })
    → IsMade k names (record { store = s; noting = n })
made k names before s n is first rests told opening noted stops =
    let t = first_table k names in
    let file = before.file in
    let found = opening.found told t fin.empty empty_book (opens k names file first) in
    let same = (left_alone k names before (lent_state n) (Ok s) is first told opening).same_file told in
    let o = opening.opened told in
    let over = opening.over told in
    let slot : choice.slot_in_use (lent_state n).file ≡ Ok (first_in_use k names) =
    ap choice.slot_in_use same ∙ first.in_use in
    let in_use : s.in_use ≡ first_in_use k names =
    (let e : Ok s.in_use ≡ Ok (first_in_use k names) = sym over.checkpoint.slot ∙ slot in cc) in
    record {
      file = same ∙ is;
      in_use = in_use;
      state = o.state ∙ ap (λ (m : Map). state_at m o.b s.in_use.sequence)
          (no_map k names file first o.table o.m o.b o.found)
          ∙ ap (λ (b : Book). state_at fin.empty b s.in_use.sequence)
          (no_book k names file first o.table o.m o.b o.found)
          ∙ ap (λ (u : choice.InUse). state_at fin.empty empty_book u.sequence) in_use;
      fresh = opening.fresh;
      over = over;
      rests = found.rests (λ image may. subst (SameOnFound t file) (sym (rests image may))
          (alike_itself t file));
      noted = noted;
      stops = stops;
    }

-- what is answered where the file was formatted first
pub format_refused : {before now : disk.State} (k names : ℕ) (room : Filing) (log : Logging) (why : OpenFault)
    → IsTrue before.tells → HasFirstTable k names before.file → IsOpening CLASSES before now (Err why)
    → (why ≡ fault.Slot slot.Disk → LacksToFormat names room log) → NotMade names room log why
format_refused {before} k names room log why told first opening lacks =
    not_made k names before.file first room log why (opening.refused told) lacks

-- and what a call has done that answered
pub done_ok : {P : Type 0} (result : Result (Unit {0}) DiskFault) → (IsErr result → ⊥) → OnOk result P → P
done_ok (Ok u) calm p = p
done_ok (Err f) calm p = absurd (calm refl)

pub failed_err : {P : Type 0} (result : Result (Unit {0}) DiskFault) → IsErr result → OnErr result P → P
failed_err (Ok u) bad p = absurd (let e : false ≡ true = bad in cc)
failed_err (Err f) bad p = p
