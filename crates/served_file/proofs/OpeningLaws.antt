-- What mounting and opening a file leave that opens by a table.
use Rattle.std.specs.Prelude.{◌≡◌, ℕ, ◌+◌, ◌*◌, ◌^◌, ◌<◌, ◌≤◌, nat_lt, false, List, length, Result, Ok, IsTrue}
use Rattle.std.proofs.Common.{arith, ap, sym, ◌∙◌, subst}
use Rattle.std.proofs.Math.Nat.{le-max_left, le-max_right, max-le}
use Rattle.std.proofs.lemmas.Bool.{le-ltb, cond-false}
use Rattle.disk_face.specs.Counts.{counted}
use Rattle.disk_face.specs.States.{IsLawful, State}
use Rattle.disk_face.specs.Frames.{AfterMount}
use Rattle.disk_face.specs.Moments.{Leaves, LeftOnly}
use Rattle.disk_face.proofs.MomentLaws.{Leaves-call, Leaves-trans}
use Rattle.size_class.specs.declared.TheConstants.{CLASSES, SIZE_MAX}
use Rattle.slot_codec.specs.Choice as choice
use Rattle.slot_codec.specs.declared.codec.Kind.{Kind}
use Rattle.slot_codec.specs.declared.codec.Kind.TheVariants as kind
use Rattle.map_model.specs.Maps.{Map}
use Rattle.segment_layout.specs.Books.{Book, book_end}
use Rattle.table_rules.specs.Opening.{OpensBy}
use Rattle.table_rules.specs.Sequences.{HasSequenceUpTo}
use Rattle.table_rules.proofs.SequenceLaws.{sequence_wider}
use Rattle.store_model.specs.Connection.{IsOver, StoreValue, RestsOnTable, base_of, state_of}
use Rattle.store_model.specs.Stores.{IsStore}
use Rattle.store_model.specs.Opened.{ContinuesFrom, IsFoundImage, IsOpened, IsOpening, LeavesRoom, OpenCallsOf, OpensFound, RestsOnFound, SameOnFound, found_base, most_by, most_found, state_at, turn_after_cut}
use Rattle.store_model.proofs.OpeningLaws.{FoundSame, found_image, found_one}
use Rattle.reopen.specs.declared.fault.OpenFault.{OpenFault}
use Rattle.ask_session.specs.Runs.{most_sequence}
use Rattle.served_file.specs.Served.{BeginsFrom, most_left, turn_opened}

-- an image that an opening left has a sequence that a call may leave
pub found_numbered : (t : choice.SlotTable) (m : Map) (b : Book) (longest k : ℕ) (image : List ℕ)
    → IsFoundImage CLASSES t m b longest image → HasSequenceUpTo (most_left k t) image
found_numbered t m b longest k image is =
    sequence_wider (most_found t) (most_left k t) image (le-max_left (most_found t) (2 ^ 61 + 2 * k))
    is.sequence

-- and so do those that requests leave after it
pub requests_low : (t : choice.SlotTable) (k q : ℕ) → q ≤ most_found t → most_sequence k q ≤ most_left k t
requests_low t k q low =
    let first : q ≤ most_left k t = omega (arith, low, le-max_left (most_found t) (2 ^ 61 + 2 * k)) in
    max-le first (le-max_right (most_found t) (2 ^ 61 + 2 * k))

-- what a state begins with is as low
begins_low : (k : Kind) (found q : ℕ) → BeginsFrom k found q → q ≤ most_by k found
begins_low kind.Settled found q is = omega (arith, is)
begins_low kind.Moving found q is = omega (arith, is.1)

pub start_low : (t : choice.SlotTable) (k q : ℕ) → BeginsFrom t.chosen.header.kind t.chosen.header.sequence q
    → q ≤ most_left k t
start_low t k q is = omega (
  arith,
  begins_low t.chosen.header.kind t.chosen.header.sequence q is,
  le-max_left (most_found t) (2 ^ 61 + 2 * k),
)

-- no call cuts a file that ends with its layout
pub exact_turn : (t : choice.SlotTable) (b : Book) (old : State)
    → length old.file ≡ found_base t + book_end t.chosen.block.k b → turn_opened t b old ≡ old.turn
exact_turn t b old exact =
    let far = found_base t + book_end t.chosen.block.k b in
    cond-false (nat_lt far (length old.file)) (counted old.turn 2) old.turn
    (le-ltb far (length old.file) (omega (arith, exact)))

-- A store was opened over the file that a call began with.
pub record Opened (t : choice.SlotTable) (m : Map) (b : Book) (old a : State) (s : StoreValue) : Type 0 where
  pub state : state_of s a.file ≡ state_at m b s.in_use.sequence
  pub block : s.in_use.block ≡ t.chosen.block
  pub sequence : BeginsFrom t.chosen.header.kind t.chosen.header.sequence s.in_use.sequence
  pub continues : ContinuesFrom t.chosen.header.kind t.chosen.header.sequence s.in_use.sequence
  pub most : s.in_use.sequence ≤ most_found t
  pub over : IsOver CLASSES s a.file
  pub sound : IsStore CLASSES s
  pub unbroken : s.is_broken ≡ false
  pub left : LeavesRoom t → RestsOnFound t old → Leaves old a (IsFoundImage CLASSES t m b (length old.file))
  pub rests : RestsOnFound t old → RestsOnTable (base_of s) s.kept a
  pub turn : t.chosen.header.kind ≡ kind.Settled → a.turn ≡ turn_opened t b old
  pub told : IsTrue a.tells
  pub later : old.turn ≤ a.turn
  pub faults : old.faults ≤ a.faults

begins_of : (k : Kind) (found q : ℕ) → ContinuesFrom k found q → BeginsFrom k found q
begins_of kind.Settled found q is = is
begins_of kind.Moving found q is = (omega (arith, is.0), omega (arith, is.1))

most_of : (k : Kind) (found q : ℕ) → ContinuesFrom k found q → q ≤ most_by k found
most_of kind.Settled found q is = omega (arith, is)
most_of kind.Moving found q is = omega (arith, is.1)

turn_of : (k : Kind) (t : choice.SlotTable) (m : Map) (b : Book) (file : List ℕ) (first now : ℕ)
    (s : StoreValue)
    → OpenCallsOf k t m b file first now s → k ≡ kind.Settled
    → now ≡ turn_after_cut (found_base t + book_end t.chosen.block.k b) file first
turn_of kind.Settled t m b file first now s is settled = is
turn_of kind.Moving t m b file first now s is settled = absurd (cc)

module _ (t : choice.SlotTable) (m : Map) (b : Book) (old first : State) (mount : AfterMount old first)
    (told : IsTrue old.tells) (o : OpensBy CLASSES SIZE_MAX t old.file m b) where
  pub told_first : IsTrue first.tells
  told_first = mount.told ∙ told

  pub file_first : first.file ≡ old.file
  file_first = mount.same_file told

  pub opens_first : OpensBy CLASSES SIZE_MAX t first.file m b
  opens_first = subst (λ (f : List ℕ). OpensBy CLASSES SIZE_MAX t f m b) (sym file_first) o

  pub rests_first : RestsOnFound t old → RestsOnFound t first
  rests_first rests image left = subst (λ (f : List ℕ). SameOnFound t f image) (sym file_first)
      (rests image (mount.images image left))

  pub left_first : RestsOnFound t old → Leaves old first (IsFoundImage CLASSES t m b (length old.file))
  left_first rests = Leaves-call (IsFoundImage CLASSES t m b (length old.file)) mount.time
      (λ image left. found_image CLASSES t old.file m b o image (rests image (mount.images image left)))

  module _ (a : State) where
    -- what an opening leaves meanwhile, whether it fails or not
    pub left_opening : (result : Result StoreValue OpenFault) → IsOpening CLASSES first a result
        → LeavesRoom t → RestsOnFound t old
        → Leaves old a (IsFoundImage CLASSES t m b (length old.file))
    left_opening result opening room rests = Leaves-trans (left_first rests)
        (subst (λ (f : List ℕ). Leaves first a (IsFoundImage CLASSES t m b (length f))) file_first
        ((opening.found told_first t m b opens_first).left room (rests_first rests)))

    pub opened_by : (s : StoreValue) → first.faults ≡ old.faults → IsOpening CLASSES first a (Ok s)
        → Opened t m b old a s
    opened_by s calm opening =
        let found : OpensFound CLASSES t m b first a (Ok s) = opening.found told_first t m b opens_first in
        let is : IsOpened CLASSES first.file a.file s = opening.opened told_first in
        let one : FoundSame is.table t is.m m is.b b =
        found_one CLASSES is.table t first.file is.m m is.b b is.found opens_first in
        let continues = subst (λ (x : choice.SlotTable). ContinuesFrom x.chosen.header.kind
        x.chosen.header.sequence s.in_use.sequence) one.same_table is.continues in
        record {
          state = is.state ∙ (λ i. state_at (one.same_map i) (one.same_book i) s.in_use.sequence);
          block = is.block ∙ ap (λ (x : choice.SlotTable). x.chosen.block) one.same_table;
          continues = continues;
          most = most_of t.chosen.header.kind t.chosen.header.sequence s.in_use.sequence continues;
          sequence = begins_of t.chosen.header.kind t.chosen.header.sequence s.in_use.sequence continues;
          over = opening.over told_first;
          sound = opening.fresh.store;
          unbroken = opening.fresh.whole;
          left = left_opening (Ok s) opening;
          rests = λ rests. found.rests (rests_first rests);
          turn = λ settled. turn_of t.chosen.header.kind t m b first.file first.turn a.turn s
              found.calls settled
              ∙ (λ i. turn_after_cut (found_base t + book_end t.chosen.block.k b) (file_first i)
              (mount.same_turn i));
          told = opening.frame.stays.told ∙ told_first;
          later = omega (arith, mount.same_turn, opening.frame.no_turn_back);
          faults = omega (arith, calm, opening.cause.later);
        }
