-- A formatted file, while it is filled: what it and its images stand for, up to the save and after it.
use Rattle.std.specs.Prelude.{◌≡◌, ◌⊎◌, ℕ, ◌+◌, ◌≤◌, List, ◌++◌, length, slice_index, sum, Result, Err, IsTrue}
use Rattle.std.proofs.Common.{arith, ap, sym, ◌∙◌, inl, inr, subst, append-nil}
use Rattle.std.specs.FinMap as fin
use Rattle.std.proofs.lemmas.List.{length-map}
use Rattle.byte_ranges.specs.Ranges.{resized}
use Rattle.byte_ranges.proofs.RangeLaws.{length-resized, resized-index}
use Rattle.disk_face.specs.Counts.{counted}
use Rattle.disk_face.specs.States.{State}
use Rattle.disk_face.specs.Frames.{AfterLength, Asks}
use Rattle.disk_face.specs.Moments.{Leaves, Rests}
use Rattle.disk_face.specs.Writes.{WritesWithin}
use Rattle.disk_face.proofs.FrameLaws.{asks_nothing, asks_then}
use Rattle.disk_face.proofs.MomentLaws.{Leaves-trans, Leaves-weaken}
use Rattle.size_class.specs.declared.TheConstants.{SIZE_MAX}
use Rattle.slot_codec.specs.Readable.{IsSuperBlock}
use Rattle.slot_codec.specs.Spelling.{head_len}
use Rattle.slot_codec.specs.declared.codec.Record.{Record}
use Rattle.slot_codec.specs.declared.codec.SuperBlock.{SuperBlock}
use Rattle.slot_pair.specs.Formats.{HasFirstTable}
use Rattle.slot_pair.specs.Saves.{IsAlikeBelow, save_calls, save_weight}
use Rattle.map_model.specs.Weights.{Entry}
use Rattle.segment_layout.specs.Layouts.{caps_of, divisor_of}
use Rattle.segment_layout.specs.Shapes.{end_of}
use Rattle.placement_model.specs.Reads.{read_at}
use Rattle.dump_stream.specs.Dumps.{objects_text}
use Rattle.dump_stream.specs.Loading.{AllFollow, filled_by}
use Rattle.dump_stream.specs.Placing.{IsPlacing}
use Rattle.extent_table.specs.Extents.{Extents, record_of, records_of, rolled}
use Rattle.extent_table.proofs.ExtentLaws.{records_of-all}
use Rattle.flush_run.proofs.RolledLaws.{rolled_count}
use Rattle.load_stream.specs.declared.fault.LoadFault.{LoadFault}
use Rattle.load_stream.specs.declared.fault.LoadFault.TheVariants as why
use Rattle.load_stream.specs.declared.plan.Plan.{Plan}
use Rattle.load_stream.specs.declared.plan.SoFar.{SoFar}
use Rattle.load_stream.specs.Images.{StaysEmpty}
use Rattle.load_stream.specs.Saved.{IsEmptyLike, IsEmptyOrLaid, IsLaidBeside, IsPlanFor, LeavesRead, MapRead, OpensEmpty, OpensFor, OpensLaid, OpensRead, ReadsBody, StopsBody, laid_with}
use Rattle.load_stream.specs.Standing.{StandInOrder}
use Rattle.load_stream.specs.Steps.{LoadsAll, Passed, StopsIn}
use Rattle.load_stream.specs.Weights.{fill_weight, objects_weight}
use Rattle.load_stream.proofs.LoopLaws.{loads_count}
use Rattle.load_stream.proofs.ImageLaws.{empty_begins, empty_for, empty_resized, empty_written, first_long}

-- the file that stays the empty store opens to the empty map
pub stays_open : (k names : ℕ) (start now : State) → StaysEmpty k names start now → IsTrue now.tells
    → OpensEmpty k names now.file
stays_open k names start now e told = empty_for k names now.file (e.file told)

pub stays_left : (k names : ℕ) (start now : State) → StaysEmpty k names start now
    → Leaves start now (OpensEmpty k names)
stays_left k names start now e = Leaves-weaken (OpensEmpty k names)
    (λ image had. empty_for k names image had) e.since

-- each image is like the content below the data part
pub alike_below : (k names n at m : ℕ) (s0 s1 s2 : State) → Rests s0 → HasFirstTable k names s0.file
    → head_len names ≤ n → s1.file ≡ resized s0.file n → AfterLength n s0 s1 → head_len names ≤ at
    → IsTrue s1.tells → WritesWithin at m s1 s2
    → (image : List ℕ) → s2.may_leave image → IsAlikeBelow (head_len names) s2.file image
alike_below k names n at m s0 s1 s2 rests first high is w low told x image left =
    let was = x.images image left in
    let one = w.images was.0 was.1 in
    let base : ℕ = head_len names in
    let start = first_long first in
    let whole : one.0 ≡ s0.file = rests one.0 one.1 in
    let long1 : base ≤ length was.0 = elim one.2.either as (λ _. base ≤ length was.0) [
      | inl kept ↦ omega (arith, kept, ap length whole, start)
      | inr new ↦ omega (arith, new, high)
    ] in
    record {
      long = omega (arith, long1, was.2.same_length);
      bytes = λ i below.
          sym ((x.others told).below i (omega (arith, below, low)))
          ∙ ap (λ (f : List ℕ). slice_index f i) is
          ∙ resized-index s0.file n i (omega (arith, below, high)) (omega (arith, below, start))
          ∙ ap (λ (f : List ℕ). slice_index f i) (sym whole)
          ∙ sym (one.2.bytes i (omega (arith, below, high)) (omega (arith, below, start, ap length whole))
          (omega (arith, below, long1)))
          ∙ was.2.below i (omega (arith, below, low));
    }

-- ---- all objects

module _ (p : Plan) (now : SoFar) (x : Passed) (first state : State) (told : IsTrue first.tells)
    (l : LoadsAll p now x first state) where
  -- the map that was read
  pub map_read : MapRead p x (read_at p.base state.file now.load.now)
  map_read =
      let is = l.to.read told in
      record {
        count = ap length is ∙ l.to.same_count;
        follow = subst (AllFollow SIZE_MAX (caps_of p.layout)) (sym is) l.to.follow;
        filled = ap filled_by is ∙ sym l.to.filled ∙ l.whole;
        whole = λ t. l.to.whole t ∙ ap (λ (xs : List ℕ). objects_text l.to.objects ++ xs) (l.ended t)
            ∙ append-nil (objects_text l.to.objects) ∙ ap objects_text (sym is);
        ended = l.ended;
      }

  pub laid_beside : (k names : ℕ) → divisor_of p.layout ≡ k → p.base ≡ head_len names
      → HasFirstTable k names state.file → p.base + end_of k (caps_of p.layout) ≡ length state.file
      → IsLaidBeside k names p now.load state.file
  laid_beside k names divisor base had long = record {
    objects = l.to.objects;
    placing = subst (λ (j : ℕ). IsPlacing SIZE_MAX j (caps_of p.layout) l.to.objects now.load.now) divisor
        l.to.placing;
    filled = sym l.to.filled ∙ l.whole;
    first = had;
    long = subst (λ (b : ℕ). b + end_of k (caps_of p.layout) ≡ length state.file) base long;
  }

  -- what opens as laid out opens to it
  pub opens_read : (k names : ℕ) → divisor_of p.layout ≡ k → p.base ≡ head_len names
      → p.base + end_of k (caps_of p.layout) ≡ length state.file → (image : List ℕ)
      → OpensLaid k names (caps_of p.layout) now.load state.file image → OpensRead k names p x image
  opens_read k names divisor base long image laid =
      let is = l.to.read told in
      let by : (o : OpensFor k names image (read_at p.base state.file now.load.now)
      (laid_with (caps_of p.layout))) × (o.table.records ≡ records_of now.load.now) =
      subst (λ (b : ℕ). (o : OpensFor k names image (read_at b state.file now.load.now)
      (laid_with (caps_of p.layout))) × (o.table.records ≡ records_of now.load.now)) (sym base)
      (laid.opens, laid.same_records) in
      record {
        objects = read_at p.base state.file now.load.now;
        read = map_read;
        opens = by.0;
        places = subst (λ (z : ℕ × (List Entry × List Record)).
            StandInOrder z.0 (caps_of p.layout) z.1.0 z.1.1)
            (λ i. (divisor i, (sym is i, sym by.1 i))) l.to.places;
        ends = omega (arith, laid.same_length, long, base);
      }

-- ---- where it stops

pub stops_due : (p : Plan) (input : List ℕ) (n : ℕ) → StopsIn (caps_of p.layout) p.head.count input n
    → StopsBody p input n
stops_due p input n s = record {
  objects = s.objects;
  rest = s.rest;
  same_number = s.same_number;
  few = omega (arith, s.due);
  follow = s.follow;
  whole = s.whole;
  due = λ low. s.none;
  ended = λ all. absurd (omega (arith, all, s.due));
}

-- ---- a file that is filled

-- A formatted file was made as long as the layout of a plan, or failed to be.
pub record IsGrown (k names : ℕ) (p : Plan) (s0 s1 : State) : Type 0 where
  pub plan : IsPlanFor k names p
  pub told : IsTrue s0.tells
  pub rests : Rests s0
  pub first : HasFirstTable k names s0.file
  pub after : AfterLength (p.base + end_of (divisor_of p.layout) (caps_of p.layout)) s0 s1
  pub either : (s1.file ≡ s0.file)
      ⊎ (s1.file ≡ resized s0.file (p.base + end_of (divisor_of p.layout) (caps_of p.layout)))

-- It was, and then all objects of a dump were written into it, and these are their table's names.
pub record IsFilled (k names : ℕ) (p : Plan) (s0 s1 s2 : State) (now : SoFar) (x : Passed) (e : Extents)
    : Type 0 where
  pub grown : IsGrown k names p s0 s1
  pub grew : s1.file ≡ resized s0.file (p.base + end_of (divisor_of p.layout) (caps_of p.layout))
  pub writes : WritesWithin p.base (end_of (divisor_of p.layout) (caps_of p.layout)) s1 s2
  pub all : LoadsAll p now x s1 s2
  pub same : e ≡ now.load

pub grown_of : (b : SuperBlock) (p : Plan) (s0 s1 : State) → IsSuperBlock b → IsPlanFor b.k b.names p
    → (IsTrue s0.tells → HasFirstTable b.k b.names s0.file) → (IsTrue s0.tells → Rests s0)
    → AfterLength (p.base + end_of (divisor_of p.layout) (caps_of p.layout)) s0 s1
    → (IsTrue s0.tells → (s1.file ≡ s0.file)
    ⊎ (s1.file ≡ resized s0.file (p.base + end_of (divisor_of p.layout) (caps_of p.layout))))
    → IsTrue s0.tells → IsGrown b.k b.names p s0 s1
grown_of b p s0 s1 ranges plan first rests after either told = record {
  plan = plan;
  told = told;
  rests = rests told;
  first = first told;
  after = after;
  either = either told;
}

module _ (k names : ℕ) (p : Plan) (s0 s1 : State) (h : IsGrown k names p s0 s1) where
  grown : StaysEmpty k names s0 s1
  grown = empty_resized k names (p.base + end_of (divisor_of p.layout) (caps_of p.layout)) s0 s0 s1
      (omega (arith, h.plan.base)) (empty_begins k names s0 h.rests h.first) h.after (λ _. h.either)

  told1 : IsTrue s1.tells
  told1 = subst IsTrue (sym h.after.stays.told) h.told

  pub grown_file : OpensEmpty k names s1.file
  grown_file = stays_open k names s0 s1 grown told1

  pub grown_left : Leaves s0 s1 (OpensEmpty k names)
  grown_left = stays_left k names s0 s1 grown

  -- and then written behind its head
  module _ (s2 : State)
      (w : WritesWithin p.base (end_of (divisor_of p.layout) (caps_of p.layout)) s1 s2) where
    pub filled : StaysEmpty k names s0 s2
    filled = empty_written k names p.base (end_of (divisor_of p.layout) (caps_of p.layout)) s0 s1 s2
        (omega (arith, h.plan.base)) grown w

    pub filled_told : IsTrue s2.tells
    filled_told = subst IsTrue (sym w.stays.told) told1

    pub filled_file : OpensEmpty k names s2.file
    filled_file = stays_open k names s0 s2 filled filled_told

    pub filled_left : Leaves s0 s2 (OpensEmpty k names)
    filled_left = stays_left k names s0 s2 filled

-- Once all objects were written: what the save asks, and what the file and its images are after it.
module _ (k names : ℕ) (p : Plan) (s0 s1 s2 : State) (now : SoFar) (x : Passed) (e : Extents)
    (h : IsFilled k names p s0 s1 s2 now x e) where
  stays : StaysEmpty k names s0 s2
  stays = filled k names p s0 s1 h.grown s2 h.writes

  told_before : IsTrue s1.tells
  told_before = told1 k names p s0 s1 h.grown

  pub saved_told : IsTrue s2.tells
  saved_told = filled_told k names p s0 s1 h.grown s2 h.writes

  -- each image of it is an empty store, like the content below the data part
  pub saved_like : (image : List ℕ) → s2.may_leave image → IsEmptyLike k names s2.file image
  saved_like image left = record {
    first = stays.images image left;
    alike = alike_below k names (p.base + end_of (divisor_of p.layout) (caps_of p.layout)) p.base
        (end_of (divisor_of p.layout) (caps_of p.layout)) s0 s1 s2 h.grown.rests h.grown.first
        (omega (arith, h.grown.plan.base)) h.grew h.grown.after (omega (arith, h.grown.plan.base)) told_before
        h.writes image left;
  }

  long : p.base + end_of k (caps_of p.layout) ≡ length s2.file
  long = omega (
    arith,
    (h.writes.others told_before).same_length,
    ap length h.grew,
    length-resized s0.file (p.base + end_of (divisor_of p.layout) (caps_of p.layout)),
    ap (λ (j : ℕ). end_of j (caps_of p.layout)) h.grown.plan.divisor,
  )

  pub saved_beside : IsLaidBeside k names p e s2.file
  saved_beside = subst (λ (t : Extents). IsLaidBeside k names p t s2.file) (sym h.same)
      (laid_beside p now x s1 s2 told_before h.all k names h.grown.plan.divisor h.grown.plan.base
      (stays.file saved_told) long)

  pub saved_read : (image : List ℕ) → OpensLaid k names (caps_of p.layout) e s2.file image
      → OpensRead k names p x image
  saved_read image opens = opens_read p now x s1 s2 told_before h.all k names h.grown.plan.divisor
      h.grown.plan.base long image
      (subst (λ (t : Extents). OpensLaid k names (caps_of p.layout) t s2.file image) h.same opens)

  pub saved_either : (image : List ℕ) → IsEmptyOrLaid k names p e s2.file image
      → OpensEmpty k names image ⊎ OpensRead k names p x image
  saved_either image (inl empty) = inl empty
  saved_either image (inr laid) = inr (saved_read image laid)

  pub saved_left : (s3 : State) → Leaves s2 s3 (IsEmptyOrLaid k names p e s2.file)
      → Leaves s0 s3 (λ image. OpensEmpty k names image ⊎ OpensRead k names p x image)
  saved_left s3 left = Leaves-trans
      (Leaves-weaken (λ image. OpensEmpty k names image ⊎ OpensRead k names p x image)
      (λ image empty. inl empty) (filled_left k names p s0 s1 h.grown s2 h.writes))
      (Leaves-weaken (λ image. OpensEmpty k names image ⊎ OpensRead k names p x image) saved_either left)

-- ---- what was read, and the changing calls

-- The file grew by one call, the objects were written, and their table was saved.
pub reads_body : (p : Plan) (now : SoFar) (x : Passed) (e : Extents) (s0 s1 s2 s3 : State)
    → LoadsAll p now x s1 s2 → e ≡ now.load → s1.turn ≡ counted s0.turn 1
    → s3.turn ≡ counted s2.turn (save_calls (length (rolled e.now e.digests))) → ReadsBody p 1 x s0 s3
reads_body p now x e s0 s1 s2 s3 l same grew saved =
    let es = l.to.objects in
    let records : length (rolled e.now e.digests) ≡ length es =
    rolled_count e.now e.digests
    ∙ ap (λ (t : Extents). length (records_of t.now)) same
    ∙ ap length (records_of-all now.load.now l.to.placing.named)
    ∙ length-map (fin.entries now.load.now) record_of
    ∙ sym (fin.len-entries now.load.now)
    ∙ loads_count p now x p.head.count s1 s2 l.to ∙ sym l.to.same_count in
    record {
      objects = es;
      count = l.to.same_count;
      follow = l.to.follow;
      filled = sym l.to.filled ∙ l.whole;
      whole = λ t. l.to.whole t ∙ ap (λ (xs : List ℕ). objects_text es ++ xs) (l.ended t)
          ∙ append-nil (objects_text es);
      ended = l.ended;
      made = omega (arith, grew, l.to.made (omega (arith, grew)), saved, ap save_calls records);
    }

-- ---- what is asked

module _ (p : Plan) (s0 s1 : State)
    (grew : AfterLength (p.base + end_of (divisor_of p.layout) (caps_of p.layout)) s0 s1) where
  abbrev AsksFill : State → Type 0
  AsksFill now = Asks (fill_weight p.head.count (sum (caps_of p.layout)))
      (p.base + end_of (divisor_of p.layout) (caps_of p.layout)) s0 now

  -- by the file that grew
  pub grown_asks : AsksFill s1
  grown_asks = asks_then grew.asks (asks_nothing s1) (omega arith) (omega arith) (omega arith)

  -- by the objects too
  module _ (s2 : State) (wrote : Asks (objects_weight p.head.count (sum (caps_of p.layout))) 0 s1 s2) where
    pub filled_asks : AsksFill s2
    filled_asks = asks_then grew.asks wrote (omega arith) (omega arith) (omega arith)

    -- and by the save of their table
    pub saved_asks : (now : SoFar) (x : Passed) (e : Extents) (s3 : State) → LoadsAll p now x s1 s2
        → e ≡ now.load → Asks (save_weight 1 (fin.len e.now)) 0 s2 s3 → AsksFill s3
    saved_asks now x e s3 l same saved =
        let count : fin.len e.now ≡ p.head.count =
        ap (λ (t : Extents). fin.len t.now) same ∙ loads_count p now x p.head.count s1 s2 l.to in
        let rest : Asks (objects_weight p.head.count (sum (caps_of p.layout)) + save_weight 1 p.head.count) 0
        s1 s3 =
        asks_then wrote (subst (λ (n : ℕ). Asks (save_weight 1 n) 0 s2 s3) count saved) (omega arith)
        (omega arith) (omega arith) in
        asks_then grew.asks rest (omega arith) (omega arith) (omega arith)

-- ---- what a fault leaves

pub leaves_empty : (k names : ℕ) (p : Plan) (x : Passed) (file : List ℕ) (fault : LoadFault)
    (result : Result Unit LoadFault)
    → result ≡ Err fault → OpensEmpty k names file → LeavesRead k names p x file result
leaves_empty k names p x file fault result is empty = subst (LeavesRead k names p x file) (sym is) (of fault)
  where
    of : (f : LoadFault) → LeavesRead k names p x file (Err f)
    of (why.Line n) = empty
    of (why.TooMany n) = empty
    of why.NoMemory = empty
    of why.Disk = inl empty
    of why.Source = empty
