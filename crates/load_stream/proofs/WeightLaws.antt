-- What the writes of a load ask, piece by piece and object by object.
use Rattle.std.specs.Prelude.{◌≡◌, ℕ, zero, suc, ◌+◌, ◌*◌, ◌<◌, ◌≤◌, List, [], ◌∷◌, ◌++◌, length, map, slice_index, sum}
use Rattle.std.proofs.Common.{arith, ap, sym, ◌∙◌, inl, inr, subst}
use Rattle.std.proofs.Math.Nat.{mul-le-mul_left}
use Rattle.std.specs.FinMap as fin
use Rattle.std.proofs.lemmas.Bool.{cases_eq, cases_lt}
use Rattle.byte_ranges.specs.Lists.{sum_below}
use Rattle.disk_face.specs.Frames.{Asks, call_weight}
use Rattle.disk_face.specs.States.{State}
use Rattle.disk_face.proofs.FrameLaws.{asks_nothing, asks_then}
use Rattle.size_class.specs.Classes.{class_of, width}
use Rattle.size_class.proofs.ClassLaws.{class_below}
use Rattle.slot_codec.specs.Spelling.{record_len}
use Rattle.slot_pair.specs.Saves.{save_weight}
use Rattle.map_model.specs.Weights.{Entry}
use Rattle.segment_layout.proofs.BalanceLaws.{bytes_in, bytes_in-none, bytes_in-other, bytes_in-same}
use Rattle.segment_layout.proofs.BookLaws.{length-volumes_of_sizes}
use Rattle.segment_layout.proofs.SumLaws.{sum_below_agree, sum_below_le, sum_below_one, sum_places}
use Rattle.data_area.specs.Pieces.{HasMade, pieces}
use Rattle.data_area.proofs.PieceLaws.{pieces_more, pieces_rise}
use Rattle.extent_table.specs.Extents.{Extents, rolled}
use Rattle.extent_table.proofs.ExtentLaws.{records_of-few}
use Rattle.flush_run.proofs.RolledLaws.{rolled_count}
use Rattle.dump_stream.specs.Loading.{filled_by}
use Rattle.load_stream.specs.Steps.{AsksForOne, HasRoom}
use Rattle.load_stream.specs.Weights.{objects_weight, write_weight}
use Rattle.load_stream.proofs.PlaceLaws.{filled_more}

-- ---- piece by piece

-- behind whole pieces one more is counted
one_more : (first now len size done n : ℕ) → done < size → 0 < n → n ≤ len
    → HasMade first now len size done → pieces len (done + n) ≡ pieces len done + 1
one_more first now len size done n less some fits made =
    let whole : done ≡ len * pieces len done =
    elim made.row [ inl end ↦ absurd (omega (arith, end, less)) | inr row ↦ row ] in
    ap (λ (x : ℕ). pieces len (x + n)) whole ∙ pieces_more len (pieces len done) n some fits

-- no piece yet
pub piece_none : (len : ℕ) → 0 < len → (a : State) → Asks (write_weight len 0) 0 a a
piece_none len some a = asks_then (asks_nothing a) (asks_nothing a) (omega arith) (omega arith) (omega arith)

-- one piece more, written or not
pub piece_asked : (turn after len size done n m : ℕ) (first a b : State) → done < size → 0 < n → n ≤ len
    → m ≡ n → HasMade turn after len size done → Asks (write_weight len done) 0 first a
    → Asks (call_weight + m) 0 a b → Asks (write_weight len (done + n)) 0 first b
piece_asked turn after len size done n m first a b less some fits same made asked more =
    asks_then asked more (omega (arith, same, one_more turn after len size done n less some fits made))
    (omega arith) (omega arith)

-- no more than all pieces ask
pub piece_most : (len size done : ℕ) (first now : State) → 0 < len → done ≤ size
    → Asks (write_weight len done) 0 first now → Asks (write_weight len size) 0 first now
piece_most len size done first now some upto asked = asks_then asked (asks_nothing now)
    (omega (arith, upto, pieces_rise len done size some upto)) (omega arith) (omega arith)

-- ---- object by object

-- nothing was asked
pub asks_none : (volumes filled : List ℕ) (a : State) → AsksForOne volumes filled a a
asks_none volumes filled a = record {
  size = 0;
  room = λ some. absurd (omega (arith, some));
  asks = asks_then (asks_nothing a) (asks_nothing a) (omega arith) (omega arith) (omega arith);
}

-- an object for which there is room
pub asks_one : (volumes filled : List ℕ) (len size : ℕ) (a b : State) → len ≡ 65536
    → HasRoom volumes filled size → Asks (write_weight len size) 0 a b → AsksForOne volumes filled a b
asks_one volumes filled len size a b same room asked = record {
  size = size;
  room = room;
  asks = subst (λ (n : ℕ). Asks (write_weight n size) 0 a b) same asked;
}

-- so many bytes more in their class
total_more : (xs : List ℕ) (size : ℕ) → sum_below width (λ c. slice_index xs c + bytes_in c size)
    ≡ sum_below width (λ c. slice_index xs c) + size
total_more xs zero =
    let same = sum_below_agree width (λ c. slice_index xs c + bytes_in c 0) (λ c. slice_index xs c)
    (λ c low. omega (arith, bytes_in-none c)) in
    omega (arith, same)
total_more xs (suc n) = omega (
  arith,
  sum_below_one width (class_of (suc n)) (λ c. slice_index xs c + bytes_in c (suc n)) (λ c. slice_index xs c)
      (class_below (suc n))
      (λ c other. omega (arith, bytes_in-other c (suc n) (λ same. other (sym same)))),
  bytes_in-same (suc n) (omega arith),
)

-- with an object for which there is room, all are within the volumes
pub total_room : (volumes filled : List ℕ) (size : ℕ) → length volumes ≡ width → length filled ≡ width
    → ((c : ℕ) → slice_index filled c ≤ slice_index volumes c) → HasRoom volumes filled size
    → sum filled + size ≤ sum volumes
total_room volumes filled size wide full each room = omega (
  arith,
  sum_places volumes width wide,
  sum_places filled width full,
  total_more filled size,
  sum_below_le width (λ c. slice_index filled c + bytes_in c size) (λ c. slice_index volumes c)
      (λ c low. fits c),
)
  where
    fits : (c : ℕ) → slice_index filled c + bytes_in c size ≤ slice_index volumes c
    fits c = elim (cases_lt 0 size) [
      | inr none ↦
          let nothing : size ≡ 0 = omega (arith, none) in
          omega (arith, each c, ap (bytes_in c) nothing, bytes_in-none c)
      | inl some ↦ elim (cases_eq (class_of size) c) [
        | inr other ↦ omega (arith, each c, bytes_in-other c size other)
        | inl same ↦ omega (
          arith,
          room some,
          bytes_in-same size some,
          ap (λ x. bytes_in x size) same,
          ap (λ x. slice_index filled x) same,
          ap (λ x. slice_index volumes x) same,
        )
      ]
    ]

pub filled_full : (es : List Entry) → length (filled_by es) ≡ width
filled_full es = length-volumes_of_sizes (map (λ (e : Entry). length e.1) es)

-- the bytes of objects and of one more
pub filled_total : (es : List Entry) (e : Entry)
    → sum (filled_by (es ++ e ∷ [])) ≡ sum (filled_by es) + length e.1
filled_total es e =
    sum_places (filled_by (es ++ e ∷ [])) width (filled_full (es ++ e ∷ []))
    ∙ sum_below_agree width (λ c. slice_index (filled_by (es ++ e ∷ [])) c)
    (λ c. slice_index (filled_by es) c + bytes_in c (length e.1)) (λ c low. filled_more es e c)
    ∙ total_more (filled_by es) (length e.1)
    ∙ ap (λ (n : ℕ). n + length e.1) (sym (sum_places (filled_by es) width (filled_full es)))

-- an object more asks at most a piece more than the whole pieces of its bytes
pub one_weight : (n volume size : ℕ)
    → objects_weight n volume + write_weight 65536 size ≤ objects_weight (n + 1) (volume + size)
one_weight n volume size = omega arith

-- fewer objects of fewer bytes ask no more
pub less_weight : (n m volume all : ℕ) → n ≤ m → volume ≤ all → objects_weight n volume ≤ objects_weight m all
less_weight n m volume all few low = omega (arith, few, low)

-- ---- the save

-- a table has no more records than names
pub save_asked : (version : ℕ) (e : Extents) (a b : State) → version ≡ 1
    → Asks (save_weight version (length (rolled e.now e.digests))) 0 a b
    → Asks (save_weight 1 (fin.len e.now)) 0 a b
save_asked version e a b same asked =
    let n = length (rolled e.now e.digests) in
    let one : Asks (save_weight 1 n) 0 a b = subst (λ (v : ℕ). Asks (save_weight v n) 0 a b) same asked in
    let few : n ≤ fin.len e.now = omega (arith, rolled_count e.now e.digests, records_of-few e.now) in
    asks_then one (asks_nothing b) (omega (arith, few, mul-le-mul_left (record_len 1) few)) (omega arith)
    (omega arith)
