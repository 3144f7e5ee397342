-- One record more is read and set.
use Rattle.std.specs.Prelude.{◌≡◌, refl, ℕ, suc, ◌+◌, ◌-◌, ◌*◌, ◌<◌, ◌≤◌, true, not, if◌then◌else◌, List, [], ◌∷◌, ◌++◌, length, take, drop, Option, Some, Result, Ok, Err}
use Rattle.std.specs.FinMap as fin
use Rattle.std.proofs.Common.{arith, ap, ◌∙◌, sym, subst, length-append}
use Rattle.std.proofs.lemmas.Bool.{not-false}
use Rattle.std.proofs.lemmas.List.{append_assoc, append-nil, drop-append-le, drop-drop, length-drop, length-take-le, take-append-drop, take_at}
use Rattle.std.proofs.Math.Nat.{mul-le-mul_left}
use Rattle.byte_ranges.specs.Ranges.{bytes_at}
use Rattle.byte_ranges.specs.Lists.{◌>>=◌}
use Rattle.slot_codec.specs.Choice as choice
use Rattle.slot_codec.specs.Choice.{SlotRefusal, first_record, placed_at, plain, read_records, record_after, rises}
use Rattle.slot_codec.specs.Names.{IsName}
use Rattle.slot_codec.specs.Reading.{read_record}
use Rattle.slot_codec.specs.Spelling.{digest_len, record_len}
use Rattle.slot_codec.proofs.StepLaws.{bind_ok, from_ok, guard_ok}
use Rattle.slot_codec.specs.declared.codec.Record.{Record}
use Rattle.slot_codec.specs.declared.codec.CodecFault.{CodecFault}
use Rattle.slot_codec.specs.declared.codec.CodecFault.TheVariants as codec
use Rattle.slot_pair.specs.Finding.{Refuses}
use Rattle.slot_pair.specs.declared.find.SlotFault.TheVariants as fault
use Rattle.extent_table.specs.Extents.{Extents, Spots, records_of, rolled}
use Rattle.extent_table.proofs.RollLaws.{rolled-push}
use Rattle.placement_model.specs.Orders.{SetSoFar, spot_of}
use Rattle.placement_model.proofs.OrderLaws.{set_more}
use Rattle.reopen.specs.Records.{SetThrough, all_records, rows}
use Rattle.slot_pair.proofs.RefusalLaws.{refuses_on}

-- a record that is read behind a name rises above it
pub rises_after : (version : ℕ) (bytes : List ℕ) (before : Option (List ℕ)) (r : Record)
    → record_after version bytes before ≡ Ok r → rises before r.name ≡ true
rises_after version bytes before r h =
    let read = bind_ok (read_record version bytes)
    (λ (x : Record). if not (rises before x.name) then Err codec.Order else Ok x) r h in
    let rising = guard_ok (not (rises before read.0.name)) codec.Order (Ok read.0) r read.2 in
    let same : read.0 ≡ r = from_ok read.0 r rising.1 in
    ap (λ (x : Record). rises before x.name) (sym same) ∙ not-false _ rising.0

abbrev onto : List Record → Result (List Record) SlotRefusal → Result (List Record) SlotRefusal
onto done r = r >>= λ rest. Ok (done ++ rest)

onto_one : (done : List Record) (r : Record) (rest : Result (List Record) SlotRefusal)
    → onto done (rest >>= λ rs. Ok (r ∷ rs)) ≡ onto (done ++ (r ∷ [])) rest
onto_one done r (Ok rs) = ap Ok (sym (append_assoc done (r ∷ []) rs))
onto_one done r (Err e) = refl

-- the record that stands first in a text was read
one_read : (version : ℕ) (done : List Record) (k : ℕ) (text : List ℕ) (at : ℕ) (before : Option (List ℕ))
    (r : Record) → record_after version (take (record_len version) text) before ≡ Ok r
    → all_records version done (suc k) text at before
    ≡ all_records version (done ++ r ∷ []) k (drop (record_len version) text) (at + record_len version)
    (Some r.name)
unfolding all_records
one_read version done k text at before r read =
    let l = record_len version in
    let rest = read_records version k (drop l text) (at + l) (Some r.name) in
    let first : first_record version text at before ≡ Ok r = ap (placed_at at) read in
    let next : read_records version (suc k) text at before ≡ (rest >>= λ rs. Ok (r ∷ rs)) =
    ap (λ (x : Result Record SlotRefusal). x >>= λ s. read_records version k (drop l text) (at + l)
    (Some s.name) >>= λ rs. Ok (s ∷ rs)) first in
    ap (onto done) next ∙ onto_one done r rest

-- the record that stands first in a text is refused
one_bad : (version : ℕ) (done : List Record) (k : ℕ) (text : List ℕ) (at : ℕ) (before : Option (List ℕ))
    (f : CodecFault) → record_after version (take (record_len version) text) before ≡ Err f
    → Refuses (all_records version done (suc k) text at before) (fault.Codec f at)
unfolding all_records
one_bad version done k text at before f read =
    let l = record_len version in
    let first : Refuses (first_record version text at before) (fault.Codec f at) = ap (placed_at at) read in
    refuses_on (read_records version (suc k) text at before) (λ rest. Ok (done ++ rest)) (fault.Codec f at)
    (refuses_on (first_record version text at before) (λ s. read_records version k (drop l text) (at + l)
    (Some s.name) >>= λ rs. Ok (s ∷ rs)) (fault.Codec f at) first)

-- the front and the back of what is left of a text, with more behind it
front_of : (l : ℕ) (text more : List ℕ) (from : ℕ) → from + l ≤ length text
    → take l (drop from text ++ more) ≡ bytes_at text from l
front_of l text more from within =
    let left = drop from text in
    let enough : l ≤ length left = omega (arith, within, length-drop from text) in
    let long : length (take l left) ≡ l = length-take-le l left enough in
    let split : left ++ more ≡ take l left ++ (drop l left ++ more) =
    ap (λ (xs : List ℕ). xs ++ more) (sym (take-append-drop l left))
    ∙ append_assoc (take l left) (drop l left) more in
    ap (take l) split ∙ take_at (take l left) (drop l left ++ more) l long

back_of : (l : ℕ) (text more : List ℕ) (from : ℕ) → from + l ≤ length text
    → drop l (drop from text ++ more) ≡ drop (from + l) text ++ more
back_of l text more from within =
    let left = drop from text in
    drop-append-le l left more (omega (arith, within, length-drop from text))
    ∙ ap (λ (xs : List ℕ). xs ++ more) (drop-drop l from text)

-- before the first record
pub through_none : (version l : ℕ) (text : List ℕ) (at n : ℕ) (before : Option (List ℕ)) (old : Extents)
    → SetSoFar old.now before (records_of old.now)
    → SetThrough (rows version l at n) text 0 before before old old
through_none version l text at n before old set = record {
  set = set;
  count = omega arith;
  kept = refl;
  names = refl;
  done = [];
  same = sym (append-nil (rolled old.now old.digests));
  read = λ front m more.
      let count : n + m ≡ n - 0 + m = omega arith in
      let place : at ≡ at + l * 0 = omega arith in
      let none : l * 0 ≡ 0 = omega arith in
      ap (λ fs. all_records version fs (n + m) (text ++ more) at before) (sym (append-nil front))
      ∙ ap (λ k. all_records version (front ++ []) k (text ++ more) at before) count
      ∙ ap (λ p. all_records version (front ++ []) (n - 0 + m) (text ++ more) p before) place
      ∙ ap (λ j. all_records version (front ++ []) (n - 0 + m) (drop j text ++ more) (at + l * 0) before)
      (sym none);
}

-- where the next record stands
pub behind_is : (l i n : ℕ) (text : List ℕ) → i < n → length text ≡ l * n → l * i + l ≤ length text
behind_is l i n text low long =
    let next : i + 1 ≤ n = omega (arith, low) in
    omega (arith, mul-le-mul_left l next, long)

-- what is still to be read, with one record in front
next_is : (version l : ℕ) (done : List Record) (text : List ℕ) (at n i : ℕ) (before : Option (List ℕ)) (m : ℕ)
    (more : List ℕ)
    → i < n → all_records version done (n - i + m) (drop (l * i) text ++ more) (at + l * i) before
    ≡ all_records version done (suc (n - (i + 1) + m)) (drop (l * i) text ++ more) (at + l * i) before
next_is version l done text at n i before m more low =
    let e : n - i + m ≡ suc (n - (i + 1) + m) = omega (arith, low) in
    ap (λ k. all_records version done k (drop (l * i) text ++ more) (at + l * i) before) e

here : (version l : ℕ) (text more : List ℕ) (i n : ℕ) (before : Option (List ℕ))
    (said : Result Record CodecFault) → i < n → length text ≡ l * n
    → record_after version (bytes_at text (l * i) l) before ≡ said
    → record_after version (take l (drop (l * i) text ++ more)) before ≡ said
here version l text more i n before said low long read =
    ap (λ (xs : List ℕ). record_after version xs before)
    (front_of l text more (l * i) (behind_is l i n text low long)) ∙ read

-- the same for a length that is that of the version
one_set : (version l : ℕ) → l ≡ record_len version → (done : List Record) (k : ℕ) (text : List ℕ) (at : ℕ)
    (before : Option (List ℕ)) (r : Record) → record_after version (take l text) before ≡ Ok r
    → all_records version done (suc k) text at before
    ≡ all_records version (done ++ r ∷ []) k (drop l text) (at + l) (Some r.name)
one_set version l is done k text at before r =
    subst (λ (l : ℕ). record_after version (take l text) before ≡ Ok r
    → all_records version done (suc k) text at before
    ≡ all_records version (done ++ r ∷ []) k (drop l text) (at + l) (Some r.name)) (sym is)
    (one_read version done k text at before r)

one_refused : (version l : ℕ) → l ≡ record_len version → (done : List Record) (k : ℕ) (text : List ℕ) (at : ℕ)
    (before : Option (List ℕ)) (f : CodecFault) → record_after version (take l text) before ≡ Err f
    → Refuses (all_records version done (suc k) text at before) (fault.Codec f at)
one_refused version l is done k text at before f =
    subst (λ (l : ℕ). record_after version (take l text) before ≡ Err f
    → Refuses (all_records version done (suc k) text at before) (fault.Codec f at)) (sym is)
    (one_bad version done k text at before f)

-- one record more
pub through_more : (version l : ℕ) → l ≡ record_len version → (text : List ℕ) (at n i : ℕ)
    (before last : Option (List ℕ)) (old now new : Extents)
    (r : Record) → i < n → length text ≡ l * n → SetThrough (rows version l at n) text i before last old now
    → record_after version (bytes_at text (l * i) l) last ≡ Ok r → IsName r.name
    → length r.digest ≡ digest_len → new.now ≡ fin.insert now.now r.name (spot_of r)
    → new.digests ≡ fin.insert now.digests r.name r.digest → new.kept ≡ now.kept → new.names ≡ now.names
    → SetThrough (rows version l at n) text (i + 1) before (Some r.name) old new
through_more version l len text at n i before last old now new r low long t read is whole inserted digested
    kept names =
    let more = set_more now.now last (records_of now.now) r t.set is
    (rises_after version (bytes_at text (l * i) l) last r read) in
    let spots = fin.insert now.now r.name (spot_of r) in
    let count : fin.len spots ≡ fin.len old.now + (i + 1) = omega (
      arith,
      more.count,
      length-append (records_of now.now) (plain r ∷ []),
      t.set.count,
      t.count,
    ) in
    record {
      set = subst (λ (s : Spots). SetSoFar s (Some r.name) (records_of s)) (sym inserted)
          (subst (λ rs. SetSoFar spots (Some r.name) rs) (sym more.records) more);
      count = ap (λ (s : Spots). fin.len s) inserted ∙ count;
      kept = kept ∙ t.kept;
      names = names ∙ t.names;
      done = t.done ++ r ∷ [];
      same = (λ j. rolled (inserted j) (digested j)) ∙ rolled-push now.now now.digests r whole more.records
          ∙ ap (λ rs. rs ++ r ∷ []) t.same ∙ append_assoc (rolled old.now old.digests) t.done (r ∷ []);
      read = λ front m others.
          let left = drop (l * i) text ++ others in
          let k = n - (i + 1) + m in
          let on : at + l * i + l ≡ at + l * (i + 1) = omega arith in
          let step : l * i + l ≡ l * (i + 1) = omega arith in
          let back : drop l left ≡ drop (l * (i + 1)) text ++ others =
          back_of l text others (l * i) (behind_is l i n text low long)
          ∙ ap (λ j. drop j text ++ others) step in
          let read_so = front ++ t.done in
          let all = front ++ (t.done ++ r ∷ []) in
          t.read front m others ∙ next_is version l read_so text at n i last m others low
          ∙ one_set version l len read_so k left (at + l * i) last r
          (here version l text others i n last (Ok r) low long read)
          ∙ ap (λ fs. all_records version fs k (drop l left) (at + l * i + l) (Some r.name))
          (append_assoc front t.done (r ∷ []))
          ∙ ap (λ (xs : List ℕ). all_records version all k xs (at + l * i + l) (Some r.name)) back
          ∙ ap (λ p. all_records version all k (drop (l * (i + 1)) text ++ others) p (Some r.name)) on;
    }

-- the next record is refused
pub through_refused : (version l : ℕ) → l ≡ record_len version → (text : List ℕ) (at n i : ℕ)
    (before last : Option (List ℕ)) (old now : Extents)
    (f : CodecFault) (p : ℕ) → i < n → length text ≡ l * n
    → SetThrough (rows version l at n) text i before last old now
    → record_after version (bytes_at text (l * i) l) last ≡ Err f → p ≡ at + l * i
    → (front : List Record) (m : ℕ) (more : List ℕ)
    → Refuses (all_records version front (n + m) (text ++ more) at before) (fault.Codec f p)
through_refused version l len text at n i before last old now f p low long t read place front m more =
    let left = drop (l * i) text ++ more in
    let done = front ++ t.done in
    let bad : Refuses (all_records version done (suc (n - (i + 1) + m)) left (at + l * i) last)
    (fault.Codec f (at + l * i)) = one_refused version l len done (n - (i + 1) + m) left (at + l * i) last f
    (here version l text more i n last (Err f) low long read) in
    t.read front m more ∙ next_is version l done text at n i last m more low ∙ bad
    ∙ ap (λ q. Err (choice.codec f q)) (sym place)

-- ---- the first and the last of all records

pub all_from_none : (version n : ℕ) (text : List ℕ) (at : ℕ) (before : Option (List ℕ))
    → all_records version [] n text at before ≡ read_records version n text at before
unfolding all_records
all_from_none version n text at before = onto_none (read_records version n text at before)
  where
    onto_none : (r : Result (List Record) SlotRefusal) → onto [] r ≡ r
    onto_none (Ok rs) = refl
    onto_none (Err e) = refl

pub all_to_none : (version : ℕ) (done : List Record) (text : List ℕ) (at : ℕ) (before : Option (List ℕ))
    → all_records version done 0 text at before ≡ Ok done
unfolding all_records
all_to_none version done text at before = ap (λ (rs : List Record). Ok rs) (append-nil done)
