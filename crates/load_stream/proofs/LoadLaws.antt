-- What a load says of the whole input and the file, by what its steps say of what follows the first line.
use Rattle.std.specs.Prelude.{◌≡◌, ◌⊎◌, ℕ, ◌+◌, ◌≤◌, zero, suc, Bool, List, [], ◌∷◌, ◌++◌, codes, length, sum, Result, Ok, Err, IsTrue, OnOk, refl}
use Rattle.std.proofs.Common.{arith, ap, sym, ◌∙◌, inl, inr, subst, append-nil, append_assoc}
use Rattle.std.specs.FinMap as fin
use Rattle.disk_face.specs.Counts.{counted}
use Rattle.disk_face.specs.Frames.{Asks}
use Rattle.disk_face.specs.States.{State}
use Rattle.disk_face.specs.Moments.{Leaves}
use Rattle.disk_face.proofs.MomentLaws.{Leaves-trans, Leaves-weaken}
use Rattle.size_class.specs.declared.TheConstants.{CLASSES, SIZE_MAX}
use Rattle.slot_codec.specs.Spelling.{head_len}
use Rattle.slot_pair.specs.Formats.{IsNoStoreOrEmpty}
use Rattle.slot_pair.specs.Saves.{save_calls}
use Rattle.map_model.specs.Maps.{Map, name_cmp}
use Rattle.map_model.specs.Weights.{Entry}
use Rattle.segment_layout.specs.Books.{volumes}
use Rattle.segment_layout.specs.Layouts.{caps_of, divisor_of}
use Rattle.segment_layout.specs.Shapes.{end_of}
use Rattle.dump_stream.specs.Dumps.{IsDumpOf, objects_text}
use Rattle.dump_stream.specs.Heads.{IsHead, head_line, volumes_of_head}
use Rattle.dump_stream.specs.Loading.{AllFollow, BeginsNone, ReadsTo}
use Rattle.load_stream.specs.declared.fault.LoadFault.{LoadFault}
use Rattle.load_stream.specs.declared.fault.LoadFault.TheVariants as why
use Rattle.load_stream.specs.declared.plan.Plan.{Plan}
use Rattle.load_stream.specs.Faults.{IsFirstFault, IsLineOrDevice}
use Rattle.load_stream.specs.Loaded.{AnswersLoad, AsksLoaded, AsksToLoad, IsEmptyOrDump, IsLoadImage, LeavesLoaded, LoadsWhole, OpensDump, TellsFew, TellsTooMany}
use Rattle.load_stream.specs.Saved.{IsEmptyOrRead, IsNoneOrRead, IsPlanFor, LeavesNew, LeavesRead, OpensEmpty, OpensFor, OpensRead, ReadsBody, StopsBody, laid_with}
use Rattle.load_stream.specs.Standing.{StandInOrder}
use Rattle.load_stream.specs.Steps.{Passed, object_calls, passed}
use Rattle.load_stream.specs.Weights.{load_weight}
use Rattle.load_stream.proofs.ImageLaws.{empty_for}
use Rattle.load_stream.proofs.StopLaws.{lines_are, read_is_dump, sorted_follow, volumes_filled}

-- ---- with the format before

pub none_or_empty : (k names : ℕ) (p : Plan) (x : Passed) (image : List ℕ)
    → IsNoStoreOrEmpty k names image → IsNoneOrRead k names p x image
none_or_empty k names p x image (inl none) = inl none
none_or_empty k names p x image (inr first) =
    inr (inl (empty_for k names image first))

pub formatted_left : (k names : ℕ) (p : Plan) (x : Passed) (s0 s1 s2 : State)
    → Leaves s0 s1 (IsNoStoreOrEmpty k names)
    → Leaves s1 s2 (λ image. OpensEmpty k names image ⊎ OpensRead k names p x image)
    → Leaves s0 s2 (IsNoneOrRead k names p x)
formatted_left k names p x s0 s1 s2 before after = Leaves-trans
    (Leaves-weaken (IsNoneOrRead k names p x) (none_or_empty k names p x) before)
    (Leaves-weaken (IsNoneOrRead k names p x) (λ image is. inr is) after)

pub leaves_new : (k names : ℕ) (p : Plan) (x : Passed) (file : List ℕ) (result : Result Unit LoadFault)
    → LeavesRead k names p x file result → LeavesNew k names p x file result
leaves_new k names p x file (Ok done) leaves = leaves
leaves_new k names p x file (Err (why.Line n)) leaves = leaves
leaves_new k names p x file (Err (why.TooMany n)) leaves = leaves
leaves_new k names p x file (Err why.NoMemory) leaves = leaves
leaves_new k names p x file (Err why.Disk) leaves = inr leaves
leaves_new k names p x file (Err why.Source) leaves = leaves

-- a load that ended past the format leaves a store
pub leaves_store : (k names : ℕ) (p : Plan) (x : Passed) (file : List ℕ) (result : Result Unit LoadFault)
    → LeavesRead k names p x file result → IsEmptyOrRead k names p x file
leaves_store k names p x file (Ok done) leaves = inr leaves
leaves_store k names p x file (Err (why.Line n)) leaves = inl leaves
leaves_store k names p x file (Err (why.TooMany n)) leaves = inl leaves
leaves_store k names p x file (Err why.NoMemory) leaves = inl leaves
leaves_store k names p x file (Err why.Disk) leaves = leaves
leaves_store k names p x file (Err why.Source) leaves = inl leaves

-- ---- what was read

-- the same after the ten calls of a format
pub reads_new : (p : Plan) (x : Passed) (s0 s1 s2 : State) (result : Result Unit LoadFault)
    → s1.turn ≡ counted s0.turn 10 → OnOk result (ReadsBody p 1 x s1 s2)
    → OnOk result (ReadsBody p 11 x s0 s2)
reads_new p x s0 s1 s2 (Err fault) formatted read = tt
reads_new p x s0 s1 s2 (Ok done) formatted read = record {
  objects = read.objects;
  count = read.count;
  follow = read.follow;
  filled = read.filled;
  whole = read.whole;
  ended = read.ended;
  made = omega (arith, formatted, read.made);
}

-- names that rise are those of a map
abbrev map_of_read : {p : Plan} {more : ℕ} {x : Passed} {first now : State}
    → ReadsBody p more x first now → Map
map_of_read r = fin.from_sorted {R = name_cmp} r.objects

is_of_read : {p : Plan} {more : ℕ} {x : Passed} {first now : State} (r : ReadsBody p more x first now)
    → fin.entries (map_of_read r) ≡ r.objects
is_of_read {p} r = fin.entries-from_sorted name_cmp r.objects
    (sorted_follow SIZE_MAX (caps_of p.layout) r.objects r.follow)

none_behind : (a b : List ℕ) → a ++ b ≡ [] → b ≡ []
none_behind [] b is = is
none_behind (x ∷ a) b is = absurd (omega (arith, ap length is))

-- ---- behind a first line

module _ (k names : ℕ) (p : Plan) (plan : IsPlanFor k names p)
    (head : IsHead CLASSES p.head.count (volumes_of_head p.head)) (tells heard : Bool) (same : heard ≡ tells)
    (before mid : List ℕ)
    (line : IsTrue tells → before ≡ head_line CLASSES p.head.count (volumes_of_head p.head) ++ 10 ∷ mid) where
  reads_to : (objects : List Entry) (rest : List ℕ) → length objects ≤ p.head.count
      → AllFollow SIZE_MAX (caps_of p.layout) objects → mid ≡ objects_text objects ++ rest → IsTrue tells
      → ReadsTo CLASSES SIZE_MAX before p.head.count (caps_of p.layout) objects rest
  reads_to objects rest few follow is t = record {
    head = subst (IsHead CLASSES p.head.count) (sym plan.caps) head;
    few = few;
    each = follow;
    whole = line t
        ∙ ap (λ (xs : List ℕ). head_line CLASSES p.head.count (volumes_of_head p.head) ++ 10 ∷ xs) is
        ∙ sym (lines_are CLASSES p.head.count (volumes_of_head p.head) objects rest)
        ∙ ap (λ (vs : List ℕ). head_line CLASSES p.head.count vs ++ codes "\n"
        ++ objects_text objects ++ rest)
        (sym plan.caps);
  }

  whole_text : (objects : List Entry) → mid ≡ objects_text objects → mid ≡ objects_text objects ++ []
  whole_text objects is = is ∙ sym (append-nil (objects_text objects))

  module _ (ahead left : List ℕ) where
    opened : (image : List ℕ) → OpensRead k names p (passed heard mid (ahead ++ left)) image
        → OpensDump k names (passed tells before left) image
    opened image o =
        let es = fin.entries o.objects in
        let vols = volumes_filled o.objects ∙ o.read.filled in
        let by : (f : OpensFor k names image o.objects (laid_with (volumes o.objects)))
        × StandInOrder k (volumes o.objects) es f.table.records =
        subst (λ (vs : List ℕ). (f : OpensFor k names image o.objects (laid_with vs))
        × StandInOrder k vs es f.table.records) (sym vols) (o.opens, o.places) in
        record {
          objects = o.objects;
          dump = λ t. read_is_dump CLASSES SIZE_MAX p.head.count before (caps_of p.layout) es
              (reads_to es [] (omega (arith, o.read.count)) o.read.follow
              (whole_text es (o.read.whole (subst IsTrue (sym same) t))) t)
              o.read.count o.read.filled o.objects refl;
          ended = λ t. none_behind ahead left (o.read.ended (subst IsTrue (sym same) t));
          opens = by.0;
          places = by.1;
          ends = o.ends ∙ ap (λ (vs : List ℕ). head_len names + end_of k vs) (sym vols);
        }

    pub store_loaded : (image : List ℕ) → IsEmptyOrRead k names p (passed heard mid (ahead ++ left)) image
        → IsEmptyOrDump k names (passed tells before left) image
    store_loaded image (inl empty) = inl empty
    store_loaded image (inr read) = inr (opened image read)

    pub image_loaded : (image : List ℕ) → IsNoneOrRead k names p (passed heard mid (ahead ++ left)) image
        → IsLoadImage k names (passed tells before left) image
    image_loaded image (inl none) = inl none
    image_loaded image (inr store) = inr (store_loaded image store)

    pub file_loaded : (file : List ℕ) (result : Result Unit LoadFault) → IsLineOrDevice result
        → LeavesNew k names p (passed heard mid (ahead ++ left)) file result
        → LeavesLoaded k names (passed tells before left) file result
    file_loaded file (Ok done) only leaves = opened file leaves
    file_loaded file (Err (why.Line zero)) only leaves = absurd (omega (arith, only))
    file_loaded file (Err (why.Line (suc n))) only leaves = leaves
    file_loaded file (Err (why.TooMany n)) only leaves = absurd only
    file_loaded file (Err why.NoMemory) only leaves = absurd only
    file_loaded file (Err why.Disk) only leaves = image_loaded file leaves
    file_loaded file (Err why.Source) only leaves = inr leaves

  -- a first line stands in front, and there is room for as many names
  abbrev pub tells_few : IsTrue tells → TellsFew names before
  tells_few t = record {
    count = p.head.count;
    begins = record {
      volumes = volumes_of_head p.head;
      rest = mid;
      head = head;
      whole = line t
          ∙ sym (append_assoc (head_line CLASSES p.head.count (volumes_of_head p.head)) (codes "\n") mid);
    };
    few = plan.few;
  }

  -- what was asked is what a load of this input asks
  asks_to_load : (first now : State) → IsTrue tells
      → Asks (load_weight p.head.count (sum (caps_of p.layout)))
      (p.base + end_of (divisor_of p.layout) (caps_of p.layout)) first now
      → AsksToLoad k names before first now
  asks_to_load first now t asked = record {
    tells = tells_few t;
    asks = subst (λ (x : List ℕ × (ℕ × ℕ)). Asks (load_weight p.head.count (sum x.0))
        (x.1.0 + end_of x.1.1 x.0) first now)
        (λ i. (plan.caps i, (plan.base i, plan.divisor i))) asked;
  }

  pub asks_body : (first now : State) (result : Result Unit LoadFault) → IsTrue tells
      → Asks (load_weight p.head.count (sum (caps_of p.layout)))
      (p.base + end_of (divisor_of p.layout) (caps_of p.layout)) first now
      → AsksLoaded k names before first now result
  asks_body first now (Ok done) t asked = asks_to_load first now t asked
  asks_body first now (Err (why.Line n)) t asked = tt
  asks_body first now (Err (why.TooMany n)) t asked = tt
  asks_body first now (Err why.NoMemory) t asked = tt
  asks_body first now (Err why.Disk) t asked = asks_to_load first now t asked
  asks_body first now (Err why.Source) t asked = tt

  -- the map that was read
  dumped : (more : ℕ) (after : List ℕ) (first now : State)
      (r : ReadsBody p more (passed heard mid after) first now)
      → IsTrue tells → IsDumpOf CLASSES SIZE_MAX (map_of_read r) before
  dumped more after first now r t = read_is_dump CLASSES SIZE_MAX p.head.count before (caps_of p.layout)
      r.objects
      (reads_to r.objects [] (omega (arith, r.count)) r.follow
      (whole_text r.objects (r.whole (subst IsTrue (sym same) t))) t) r.count r.filled (map_of_read r)
      (is_of_read r)

  few_read : (more : ℕ) (after : List ℕ) (first now : State)
      (r : ReadsBody p more (passed heard mid after) first now) → fin.len (map_of_read r) ≤ names
  few_read more after first now r =
      omega (arith, fin.len-entries (map_of_read r), ap length (is_of_read r), r.count, plan.few)

  pub whole_body : (ahead left : List ℕ) (first now : State) (result : Result Unit LoadFault)
      → OnOk result (ReadsBody p 11 (passed heard mid (ahead ++ left)) first now)
      → OnOk result (LoadsWhole names (passed tells before left) first now)
  whole_body ahead left first now (Err fault) read = tt
  whole_body ahead left first now (Ok done) read = record {
    objects = map_of_read read;
    few = few_read 11 (ahead ++ left) first now read;
    dump = dumped 11 (ahead ++ left) first now read;
    ended = λ t. none_behind ahead left (read.ended (subst IsTrue (sym same) t));
    made = read.made ∙ ap (λ (n : ℕ). counted first.turn n) (omega (
      arith,
      ap object_calls (is_of_read read),
      ap save_calls (fin.len-entries (map_of_read read) ∙ ap length (is_of_read read)),
    ));
  }

  pub answers_body : (after : List ℕ) (first now : State) (result : Result Unit LoadFault)
      → IsLineOrDevice result
      → IsTrue tells → ((n : ℕ) → result ≡ Err (why.Line n) → StopsBody p mid n)
      → OnOk result (ReadsBody p 11 (passed heard mid after) first now) → AnswersLoad names before result
  answers_body after first now (Ok done) only t stops read = record {
    objects = map_of_read read;
    dump = dumped 11 after first now read t;
    few = few_read 11 after first now read;
  }
  answers_body after first now (Err (why.Line zero)) only t stops read = absurd (omega (arith, only))
  answers_body after first now (Err (why.Line (suc n))) only t stops read =
      let s = stops (suc n) refl in
      record {
        at = record {
          count = p.head.count;
          volumes = caps_of p.layout;
          objects = s.objects;
          rest = s.rest;
          reads = reads_to s.objects s.rest s.few s.follow s.whole t;
          same_number = s.same_number;
          due = s.due;
          ended = s.ended;
        };
        few = plan.few;
      }
  answers_body after first now (Err (why.TooMany n)) only t stops read = absurd only
  answers_body after first now (Err why.NoMemory) only t stops read = absurd only
  answers_body after first now (Err why.Disk) only t stops read = tells_few t
  answers_body after first now (Err why.Source) only t stops read = tt

-- ---- at the first line

pub answers_first : (U : Type 0) (names : ℕ) (input : List ℕ) (fault : LoadFault)
    (result : Result Unit LoadFault)
    → result ≡ Err fault → IsFirstFault {T = U} (Err fault)
    → ((n : ℕ) → fault ≡ why.Line n → BeginsNone CLASSES input)
    → ((n : ℕ) → fault ≡ why.TooMany n → TellsTooMany names input n) → AnswersLoad names input result
answers_first U names input fault result is only none many =
    subst (AnswersLoad names input) (sym is) (of fault only none many)
  where
    of : (f : LoadFault) → IsFirstFault {T = U} (Err f)
        → ((n : ℕ) → f ≡ why.Line n → BeginsNone CLASSES input)
        → ((n : ℕ) → f ≡ why.TooMany n → TellsTooMany names input n) → AnswersLoad names input (Err f)
    of (why.Line zero) only none many = none zero refl
    of (why.Line (suc n)) only none many = absurd (omega (arith, only))
    of (why.TooMany n) only none many = many n refl
    of why.NoMemory only none many = absurd only
    of why.Disk only none many = absurd only
    of why.Source only none many = tt

-- where nothing was asked, none of these faults is the disk's
pub asks_first : (U : Type 0) (k names : ℕ) (input : List ℕ) (first now : State) (fault : LoadFault)
    (result : Result Unit LoadFault) → result ≡ Err fault → IsFirstFault {T = U} (Err fault)
    → AsksLoaded k names input first now result
asks_first U k names input first now fault result is only =
    subst (AsksLoaded k names input first now) (sym is) (of fault only)
  where
    of : (f : LoadFault) → IsFirstFault {T = U} (Err f) → AsksLoaded k names input first now (Err f)
    of (why.Line n) only = tt
    of (why.TooMany n) only = tt
    of why.NoMemory only = tt
    of why.Disk only = absurd only
    of why.Source only = tt
