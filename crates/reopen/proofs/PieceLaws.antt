-- Records that are read from a disk in pieces.
use Rattle.std.specs.Prelude.{◌≡◌, refl, ℕ, ◌+◌, ◌-◌, ◌*◌, ◌≤◌, List, [], ◌++◌, map, Option, None, IsTrue}
use Rattle.std.specs.FinMap as fin
use Rattle.std.proofs.Common.{arith, ap, ◌∙◌, sym, subst}
use Rattle.byte_ranges.specs.Ranges.{bytes_at}
use Rattle.byte_ranges.proofs.RangeLaws.{bytes_at-append}
use Rattle.disk_face.specs.Frames.{Unchanged}
use Rattle.disk_face.specs.States.{State}
use Rattle.disk_face.proofs.FrameLaws.{Unchanged-trans, unchanged_itself}
use Rattle.slot_codec.specs.Choice.{read_records}
use Rattle.slot_codec.specs.declared.codec.Record.{Record}
use Rattle.slot_pair.specs.Finding.{Refuses}
use Rattle.slot_pair.specs.declared.find.SlotFault.{SlotFault}
use Rattle.extent_table.specs.Extents.{Extents, Spots, records_of, with_digest}
use Rattle.placement_model.specs.Orders.{SetSoFar}
use Rattle.placement_model.proofs.OrderLaws.{set_none}
use Rattle.reopen.specs.Records.{AreSet, ReadSoFar, ReadThrough, SetPiece, all_records, rows}
use Rattle.reopen.proofs.RecordLaws.{all_from_none, all_to_none}

-- no record is set in an empty map
pub set_empty : (spots : Spots) → spots ≡ fin.empty → SetSoFar spots None (records_of spots)
set_empty spots empty = subst (λ (s : Spots). SetSoFar s None (records_of s)) (sym empty)
    (subst (λ rs. SetSoFar fin.empty None rs) (sym set_none.records) set_none)

-- before the first piece
pub read_none : (version l at count : ℕ) (old : Extents) (d : State) → IsTrue d.is_ready → old.now ≡ fin.empty
    → ReadThrough (rows version l at count) 0 None old old d d
read_none version l at count old d ready empty =
    let set = set_empty old.now empty in
    let none : fin.len old.now ≡ 0 = ap (λ (s : Spots). fin.len s) empty ∙ set_none.count in
    record {
      few = omega arith;
      set = set;
      counted = none;
      kept = refl;
      names = refl;
      read = λ told.
          let all : count ≡ count - 0 = omega arith in
          let place : at ≡ at + l * 0 = omega arith in
          record {
            records = [];
            same = ap (map (with_digest old.digests)) (ap records_of empty ∙ set_none.records);
            read = sym (all_from_none version count (bytes_at d.file at (l * count)) at None)
                ∙ ap (λ k. all_records version [] k (bytes_at d.file at (l * k)) at None) all
                ∙ ap (λ p. all_records version [] (count - 0)
                (bytes_at d.file p (l * (count - 0))) p None) place;
          };
      frame = unchanged_itself d ready;
      calm = refl;
    }

-- what is still to be read begins with the next piece
next_piece : (version l : ℕ) (done : List Record) (file : List ℕ) (at left n : ℕ) (before : Option (List ℕ))
    → n ≤ left → all_records version done left (bytes_at file at (l * left)) at before
    ≡ all_records version done (n + (left - n)) (bytes_at file at (l * n)
    ++ bytes_at file (at + l * n) (l * (left - n))) at before
next_piece version l done file at left n before few =
    let count : left ≡ n + (left - n) = omega (arith, few) in
    let long : l * left ≡ l * n + l * (left - n) = ap (λ k. l * k) count ∙ omega arith in
    ap (λ k. all_records version done k (bytes_at file at (l * left)) at before) count
    ∙ ap (λ m. all_records version done (n + (left - n)) (bytes_at file at m) at before) long
    ∙ ap (λ (xs : List ℕ). all_records version done (n + (left - n)) xs at before)
    (bytes_at-append file at (l * n) (l * (left - n)))

-- one piece more
read_on : (version l : ℕ) (file : List ℕ) (at count done n : ℕ) (last after : Option (List ℕ))
    (old new : Extents)
    → done + n ≤ count → ReadSoFar (rows version l at count) file done last old
    → SetPiece (rows version l (at + l * done) n) (bytes_at file (at + l * done) (l * n)) last after old new
    → ReadSoFar (rows version l at count) file (done + n) after new
read_on version l file at count done n last after old new few t piece =
    let left = count - done in
    let rest = count - (done + n) in
    let p = at + l * done in
    let count_is : left - n ≡ rest = omega (arith, few) in
    let place : p + l * n ≡ at + l * (done + n) = omega arith in
    let more : List ℕ = bytes_at file (p + l * n) (l * (left - n)) in
    let records = t.records ++ piece.done in
    record {
      records = records;
      same = piece.same ∙ ap (λ rs. rs ++ piece.done) t.same;
      read = t.read ∙ next_piece version l t.records file p left n last (omega (arith, few))
          ∙ piece.read t.records (left - n) more
          ∙ ap (λ k. all_records version records k (bytes_at file (p + l * n) (l * k)) (p + l * n) after)
          count_is
          ∙ ap (λ q. all_records version records rest (bytes_at file q (l * rest)) q after) place;
    }

pub read_more : (version l at count done n : ℕ) (last after : Option (List ℕ)) (old now new : Extents)
    (first current next : State) → done + n ≤ count
    → ReadThrough (rows version l at count) done last old now first current
    → SetSoFar new.now after (records_of new.now) → fin.len new.now ≡ fin.len now.now + n
    → new.kept ≡ now.kept → new.names ≡ now.names
    → (IsTrue current.tells → SetPiece (rows version l (at + l * done) n)
    (bytes_at current.file (at + l * done) (l * n)) last after now new)
    → Unchanged current next → next.faults ≡ current.faults
    → ReadThrough (rows version l at count) (done + n) after old new first next
read_more version l at count done n last after old now new first current next few t set counted kept names
    piece
    frame calm =
    record {
      few = few;
      set = set;
      counted = omega (arith, counted, t.counted);
      kept = kept ∙ t.kept;
      names = names ∙ t.names;
      read = λ told.
          let told' : IsTrue current.tells = subst IsTrue (sym t.frame.stays.told) told in
          read_on version l first.file at count done n last after now new few (t.read told)
          (subst (λ (file : List ℕ). SetPiece (rows version l (at + l * done) n)
          (bytes_at file (at + l * done) (l * n)) last after now new) (t.frame.same_file told) (piece told'));
      frame = Unchanged-trans t.frame frame;
      calm = calm ∙ t.calm;
    }

-- a piece is refused
pub read_refused : (version l at count done n : ℕ) (last : Option (List ℕ)) (old now : Extents)
    (first current : State) (why : SlotFault) → done + n ≤ count
    → ReadThrough (rows version l at count) done last old now first current → IsTrue first.tells
    → (IsTrue current.tells → (front : List Record) (m : ℕ) (more : List ℕ)
    → Refuses (all_records version front (n + m) (bytes_at current.file (at + l * done) (l * n) ++ more)
    (at + l * done) last) why)
    → Refuses (read_records version count (bytes_at first.file at (l * count)) at None) why
read_refused version l at count done n last old now first current why few t told piece =
    let told' : IsTrue current.tells = subst IsTrue (sym t.frame.stays.told) told in
    let same = t.frame.same_file told in
    let so_far = t.read told in
    let left = count - done in
    let p = at + l * done in
    let more : List ℕ = bytes_at first.file (p + l * n) (l * (left - n)) in
    let bad = subst (λ (file : List ℕ). Refuses (all_records version so_far.records (n + (left - n))
    (bytes_at file p (l * n) ++ more) p last) why) same (piece told' so_far.records (left - n) more) in
    subst (λ x. Refuses x why)
    (sym (so_far.read
    ∙ next_piece version l so_far.records first.file p left n last (omega (arith, few)))) bad

-- after the last piece
pub read_all : (version l at count done : ℕ) (last : Option (List ℕ)) (old now : Extents)
    (first current : State) → count ≤ done
    → ReadThrough (rows version l at count) done last old now first current
    → IsTrue first.tells
    → AreSet (read_records version count (bytes_at first.file at (l * count)) at None) now
read_all version l at count done last old now first current end t told =
    let none : count - done ≡ 0 = omega (arith, end) in
    let p = at + l * done in
    let so_far = t.read told in
    record {
      records = so_far.records;
      read = so_far.read
          ∙ ap (λ k. all_records version so_far.records k (bytes_at first.file p (l * k)) p last) none
          ∙ all_to_none version so_far.records (bytes_at first.file p (l * 0)) p last;
      same = so_far.same;
    }
