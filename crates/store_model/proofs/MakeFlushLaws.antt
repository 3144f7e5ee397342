-- The device calls of a flush, from the growing of the file to the first move.
use Rattle.std.specs.Prelude.{◌≡◌, ◌⊎◌, ℕ, ◌+◌, ◌-◌, ◌*◌, ◌≤◌, List, [], length, Option, Some, None, IsTrue, refl}
use Rattle.std.proofs.Common.{arith, sym, ◌∙◌, ap, subst, inl, inr}
use Rattle.std.specs.FinMap as fin
use Rattle.byte_ranges.specs.Ranges.{overwritten, resized}
use Rattle.disk_face.specs.States as disk
use Rattle.disk_face.specs.Frames.{AfterLength}
use Rattle.disk_face.specs.Moments.{Leaves}
use Rattle.disk_face.specs.Writes.{KeepsDisk, WritesWithin}
use Rattle.disk_face.proofs.FrameLaws.{Stays-trans}
use Rattle.slot_codec.specs.Choice as choice
use Rattle.slot_codec.specs.Reading.{is_version}
use Rattle.slot_codec.specs.Spelling.{cap}
use Rattle.map_model.specs.Maps.{Map}
use Rattle.map_model.specs.Requests.{Change, changed}
use Rattle.segment_layout.specs.Books.{with_digests}
use Rattle.segment_layout.specs.Shapes.{end_of}
use Rattle.table_rules.specs.Tables.{book_of}
use Rattle.placement_model.specs.Laid.{laid}
use Rattle.table_rules.proofs.SequenceLaws.{sequence_of_table}
use Rattle.extent_table.specs.declared.spot.Spot.{Spot}
use Rattle.extent_table.specs.Extents.{Spots}
use Rattle.placement_model.specs.Reads.{AreNamed, LiesApart, read_at}
use Rattle.map_model.proofs.MapLaws.{insert-remove}
use Rattle.placement_model.proofs.ReadLaws.{AreNamed-remove, read_at-put}
use Rattle.flush_model.specs.declared.item.Item.{Item}
use Rattle.flush_model.specs.Phases.{PlanState}
use Rattle.flush_run.specs.Calls.{piece_calls}
use Rattle.flush_run.specs.FlushFrames.{IsMidFlush, FlushFrame, ContentHolds, IsFreeSpace, IsOldOrNew, LeavesOldOrNew, OpensEither}
use Rattle.flush_run.specs.Loops.{phase_header}
use Rattle.flush_run.specs.Parts.{FitsVersion, HandsValue}
use Rattle.flush_run.specs.Runs.{CanRun, HasRun}
use Rattle.flush_run.proofs.CallLaws.{calls_none, calls_then, calls_wider}
use Rattle.flush_run.proofs.FlightLaws.{checkpoint_sequence, content_written, left_written, opens_written}
use Rattle.flush_run.proofs.LeftLaws.{left_then}
use Rattle.flush_run.proofs.MoveLaws.{content_grown, left_grown, moved_within, opens_grown}
use Rattle.store_model.specs.Lifting.{BeginsLift}
use Rattle.store_model.specs.Sized.{object_size}
use Rattle.store_model.specs.Flushing.{CanMakeFlush, HasMadeFlush, IsAtStart, BeforeChange, book_before, bytes_of, flight_of, spots_after, lift_start}
use Rattle.store_model.proofs.DigestLaws.{next_digests}

-- the size of a new object is the number of its bytes
size_of_bytes : (c : Change) → object_size c.object ≡ length (bytes_of c)
size_of_bytes c = by c.object
  where
    by : (o : Option (List ℕ)) → object_size o ≡ length (bytes_of (record { name = []; object = o }))
    by None = refl
    by (Some object) = refl

-- what opens is old or new
opens_either : (f : FlushFrame) (kept : Spots) (file : List ℕ) (may_leave : List ℕ → Type 0)
    → (o : OpensEither f kept file may_leave) → (most : ℕ) → o.t.chosen.header.sequence ≤ most
    → length file ≤ f.base + f.reach → IsOldOrNew f most file
opens_either f kept file may_leave o most few low = record {
  m = o.m;
  b = o.b;
  either = o.checkpoint.either;
  opens = record { table = o.t; opens = o.opens };
  sequence = sequence_of_table file o.t most o.opens.read few;
  longest = low;
}

module _ {classes : ℕ} {x0 : HandsValue} {c : Change} {g : BeforeChange} {x : HandsValue} {p :
    PlanState} {place : ℕ}
    {bytes : List ℕ} {a : disk.State} (can : CanMakeFlush classes x0 c g x (lift_start p place) bytes a) where
  abbrev k : ℕ
  k = x0.in_use.block.k

  abbrev reach : ℕ
  reach = p.numbers.reach

  abbrev f : FlushFrame
  f = flight_of classes x0 c reach g

  abbrev end : ℕ
  end = end_of k x0.caps

  -- the flight of what stays
  abbrev without : FlushFrame
  without = record f { new_map = fin.remove g.map c.name }

  abbrev stays : Spots
  stays = fin.remove x0.table.now c.name

  size_is : object_size c.object ≡ length bytes
  size_is = size_of_bytes c ∙ ap length can.object

  same_base : x.base ≡ x0.base
  same_base = ap (λ (y : HandsValue). y.base) can.begun.rest

  same_in_use : x.in_use ≡ x0.in_use
  same_in_use = ap (λ (y : HandsValue). y.in_use) can.begun.rest

  same_version : x.version ≡ x0.version
  same_version = ap (λ (y : HandsValue). y.version) can.begun.rest

  -- no more names are live than a table of the version has records
  fits : FitsVersion x
  fits = record {
    plain = ap (λ (y : HandsValue). y.has_logs) can.begun.rest ∙ can.may.plain;
    known = subst (λ v. IsTrue (is_version v)) (sym same_version) can.may.version;
    few = subst (λ n. fin.len x.table.now ≤ n)
        (λ i. cap ((sym same_in_use) i).block.names ((sym same_version) i))
        (omega (arith, can.begun.few, can.begun.cap, can.may.cap));
  }

  -- the sequence before any save, and one more
  abbrev most : ℕ
  most = x.in_use.sequence + 1

  named : AreNamed stays
  named = AreNamed-remove x0.table.now c.name can.may.before.table.now_named

  free : IsFreeSpace stays x0.table.kept place (length bytes)
  free = subst (λ (n : ℕ). IsFreeSpace stays x0.table.kept place n) size_is can.begun.free

  -- ---- the moves may begin

  begins : BeginsLift f x.caps x.grid x.in_use x.table x.spans p
  begins = can.begun.lifts g can.sized

  pub can_run : (d : disk.State) → (IsTrue d.tells → IsMidFlush f x.in_use x.table d) → CanRun classes f x p d
  can_run d flies = record {
    lifts = record {
      goes = record {
        hands = begins.hands;
        version = fits;
        book = ap (λ (ds : Option Map). with_digests ds (book_of (laid f.classes f.size_max x.in_use.block.k
            f.reach (phase_header p x.caps x.grid) x.table.now)))
            (can.begun.digests ∙ sym (next_digests k g.map (book_before classes x0) c)) ∙ begins.book;
        same_base = sym same_base;
        divisor = can.begun.divisor;
        same_classes = refl;
        same_max = refl;
        whole = can.begun.whole;
        wide = can.may.before.both.now_laid.top;
        limit = can.may.before.small;
        guard = omega (
          arith,
          ap (λ (y : HandsValue). y.room) can.begun.rest,
          can.may.room,
          can.begun.names,
          can.may.before.names,
        );
        flies = flies;
      };
      low = begins.low;
    };
    fresh = omega (arith, can.fresh, ap (λ u. u.sequence) same_in_use);
    moving = λ fresh. omega (arith, can.fresh, ap (λ u. u.sequence) same_in_use);
  }

  -- ---- the file grows

  module _ (told : IsTrue a.tells) where
    abbrev at : IsAtStart classes x0 c reach g a
    at = can.start told

    few_at : at.opens.t.chosen.header.sequence ≤ most
    few_at = omega (
      arith,
      checkpoint_sequence (record f { reach = end }) x0.in_use x0.table.kept a.file a.may_leave
          at.content.slot
          at.opens,
      ap (λ (u : choice.InUse). u.sequence) same_in_use,
    )

    module _ (len : ℕ) (len_is : len ≡ x.base + reach) {b : disk.State} (grows : AfterLength len a b) where
      here : len ≡ f.base + f.reach
      here = len_is ∙ ap (λ n. n + reach) same_base

      grows_here : AfterLength (f.base + f.reach) a b
      grows_here = subst (λ n. AfterLength n a b) here grows

      -- what was left meanwhile, whichever length the content has
      abbrev as_grown : disk.State
      as_grown = record b { file = resized a.file (f.base + f.reach) }

      grown_since : IsTrue f.is_at_rest → Leaves a b (IsOldOrNew f most)
      grown_since rests =
          let l = left_grown f end can.begun.longer a as_grown at.content.same_length refl x0.table.kept
          grows_here.images at.opens most few_at (record {
            later = grows_here.time.later;
            each = grows_here.time.each;
            keeps = grows_here.time.keeps;
          }) rests in
          record { later = l.later; each = l.each }

      unchanged_left : b.file ≡ a.file → LeavesOldOrNew f most a b
      unchanged_left same fresh = (
        grown_since,
        subst (IsOldOrNew f most) (sym same) (record {
          m = at.opens.m;
          b = at.opens.b;
          either = at.opens.checkpoint.either;
          opens = record { table = at.opens.t; opens = at.opens.opens };
          sequence = sequence_of_table a.file at.opens.t most at.opens.opens.read few_at;
          longest = omega (arith, at.content.same_length, can.begun.longer);
        }),
      )

      module _ (is : b.file ≡ resized a.file len) where
        is_here : b.file ≡ resized a.file (f.base + f.reach)
        is_here = is ∙ ap (resized a.file) here

        grown : OpensEither f x0.table.kept b.file b.may_leave
        grown = opens_grown f end can.begun.longer a b at.content.same_length is_here x0.table.kept
            grows_here.images at.opens

        grown_content : ContentHolds without x0.in_use stays b.file
        grown_content = content_grown without end can.begun.longer a b at.content.same_length is_here
            x0.in_use stays named at.content

        few_grown : grown.t.chosen.header.sequence ≤ most
        few_grown = omega (
          arith,
          checkpoint_sequence f x0.in_use x0.table.kept b.file b.may_leave grown_content.slot grown,
          ap (λ (u : choice.InUse). u.sequence) same_in_use,
        )

        pub grown_left : LeavesOldOrNew f most a b
        grown_left fresh = (
          left_grown f end can.begun.longer a b at.content.same_length is_here x0.table.kept grows_here.images
              at.opens most few_at grows_here.time,
          opens_either f x0.table.kept b.file b.may_leave grown most few_grown
              (omega (arith, grown_content.same_length)),
        )

        pub write_within : x.base + place + length bytes ≤ length b.file
        write_within = omega (arith, same_base, grown_content.same_length, can.begun.within, size_is)

        -- ---- the new object is written

        module _ {d : disk.State} (writes : WritesWithin (x.base + place) (length bytes) b d)
            (told_there : IsTrue b.tells) where
          writes_here : WritesWithin (f.base + place) (length bytes) b d
          writes_here = subst (λ n. WritesWithin (n + place) (length bytes) b d) same_base writes

          after : OpensEither f x0.table.kept d.file d.may_leave
          after = opens_written f stays x0.table.kept place (length bytes) can.may.before.table.kept_named
              free (writes_here.others told_there) writes_here grown

          content_after : ContentHolds without x0.in_use stays d.file
          content_after = content_written without x0.in_use stays b.file d.file place (length bytes) named
              free.live (writes_here.others told_there) grown_content

          few_after : after.t.chosen.header.sequence ≤ most
          few_after = omega (
            arith,
            checkpoint_sequence f x0.in_use x0.table.kept d.file d.may_leave content_after.slot after,
            ap (λ (u : choice.InUse). u.sequence) same_in_use,
          )

          pub written_left : LeavesOldOrNew f most a d
          written_left = left_then (omega arith) grown_left (λ fresh. (
            left_written f most stays x0.table.kept place (length bytes) can.may.before.table.kept_named free
                (writes_here.others told_there) writes_here grown few_grown,
            opens_either f x0.table.kept d.file d.may_leave after most few_after
                (omega (arith, content_after.same_length)),
          ))

          module _ (written : d.file ≡ overwritten b.file (x.base + place) bytes) where
            written_here : d.file ≡ overwritten b.file (f.base + place) bytes
            written_here = written ∙ ap (λ n. overwritten b.file (n + place) bytes) same_base

            at_hand : (o : Option (List ℕ)) → c.object ≡ o
                → ContentHolds f x0.in_use (spots_after (record c { object = o }) x0.table.now place) d.file
            at_hand None is = record {
              base = content_after.base;
              slot = content_after.slot;
              same_length = content_after.same_length;
              within = content_after.within;
              live = content_after.live
                  ∙ ap (λ (o : Option (List ℕ)). changed (record c { object = o }) g.map) (sym is);
            }
            at_hand (Some object) is =
                let same_bytes : object ≡ bytes =
                ap (λ (o : Option (List ℕ)). bytes_of (record c { object = o })) (sym is) ∙ can.object in
                let spot : Spot = record { place = place; size = length object } in
                let within_b : (q : List ℕ) (s : Spot) → fin.get stays q ≡ Some s
                → f.base + s.place + s.size ≤ length b.file = λ q s there.
                omega (arith, grown_content.within q s there, grown_content.same_length) in
                record {
                  base = content_after.base;
                  slot = content_after.slot;
                  same_length = content_after.same_length;
                  within = subst (λ (m : Spots). (q : List ℕ) (s : Spot) → fin.get m q ≡ Some s
                      → s.place + s.size ≤ f.reach) (insert-remove x0.table.now c.name spot)
                      (moved_within f.reach stays c.name spot content_after.within
                      (omega (arith, can.begun.within, size_is, ap length same_bytes)));
                  live = ap (λ (m : Spots). read_at f.base d.file m)
                      (sym (insert-remove x0.table.now c.name spot))
                      ∙ ap (λ (xs : List ℕ). read_at f.base xs (fin.insert stays c.name spot))
                      (written_here ∙ ap (overwritten b.file (f.base + place)) (sym same_bytes))
                      ∙ read_at-put f.base place b.file object stays c.name named can.name
                      (omega (
                        arith,
                        grown_content.same_length,
                        can.begun.within,
                        size_is,
                        ap length same_bytes,
                      ))
                      within_b
                      (subst (λ (n : ℕ). (q : List ℕ) (s : Spot) → fin.get stays q ≡ Some s
                      → LiesApart place n s) (sym (ap length same_bytes)) free.live)
                      ∙ ap (λ (m : Map). fin.insert m c.name object) grown_content.live
                      ∙ insert-remove g.map c.name object
                      ∙ ap (λ (o : Option (List ℕ)). changed (record c { object = o }) g.map) (sym is);
                }

            pub written_flies : IsMidFlush f x.in_use x.table d
            written_flies = subst (λ u. IsMidFlush f u x.table d) (sym same_in_use) (record {
              content = subst (λ (m : Spots). ContentHolds f x0.in_use m d.file) (sym can.begun.now)
                  (at_hand c.object refl);
              opens = λ fresh. subst (λ (m : Spots). OpensEither f m d.file d.may_leave)
                  (sym can.begun.kept) after;
            })

      pub grow_failed : (b.file ≡ a.file) ⊎ (b.file ≡ resized a.file len) → LeavesOldOrNew f most a b
      grow_failed (inl same) = unchanged_left same
      grow_failed (inr is) = grown_left is

-- ---- what was made

-- a flush was made after the growing and the write
pub flown_then : {b : ℕ} {items : List Item} {first mid now : disk.State} {x x2 : HandsValue}
    → KeepsDisk first mid → first.faults ≤ mid.faults → mid.turn ≤ first.turn + 2
    → HasRun b items mid now x x2 → x2.in_use.sequence ≤ x.in_use.sequence + 2 * x.in_use.block.k
    → HasMadeFlush b items first now x x2
flown_then {b} {items} {first} {mid} {now} {x} {x2} kept faults few r saves = record {
  keeps = record {
    disk = record {
      no_turn_back = omega (arith, kept.no_turn_back, r.keeps.disk.no_turn_back);
      stays = Stays-trans kept.stays r.keeps.disk.stays;
    };
    later = omega (arith, faults, r.keeps.later);
    names = r.keeps.names;
    cap = r.keeps.cap;
    keys = r.keeps.keys;
    digests = r.keeps.digests;
    block = r.keeps.block;
    same_form = r.keeps.same_form;
    version = r.keeps.version;
    divisor = r.keeps.divisor;
    room = r.keeps.room;
    asked = r.keeps.asked;
    buffer = r.keeps.buffer;
    base = r.keeps.base;
  };
  sizes = r.sizes;
  later = r.later;
  lower = r.lower;
  few = r.few;
  few_saves = saves;
  most = calls_wider first.turn now.turn now.turn x.moved x2.moved (2 + (piece_calls + 2)) (piece_calls + 4)
      (0 + (x2.in_use.sequence - x.in_use.sequence + 1)) (x2.in_use.sequence - x.in_use.sequence + 1)
      (fin.len x.table.now)
      (calls_then first.turn mid.turn now.turn x.moved x.moved x2.moved 2 (piece_calls + 2) 0
      (x2.in_use.sequence - x.in_use.sequence + 1) (fin.len x.table.now)
      (calls_wider first.turn first.turn mid.turn x.moved x.moved 0 2 0 0 (fin.len x.table.now)
      (calls_none first.turn x.moved (fin.len x.table.now)) (omega arith) (omega (arith, few))) r.most)
      (omega arith) (omega arith);
}
