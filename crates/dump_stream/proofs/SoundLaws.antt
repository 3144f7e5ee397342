-- Objects up to the first that is spoilt.
use Rattle.std.specs.Prelude.{◌≡◌, ℕ, zero, suc, ◌+◌, ◌≤◌, true, false, List, [], ◌∷◌, ◌++◌, length, take, slice_get, Option, Some, Result, Err, Ok, IsTrue, OnOk}
use Rattle.std.proofs.Common.{arith, ap, sym, ◌∙◌, subst}
use Rattle.std.proofs.lemmas.Bool.{cond-true, cond-false}
use Rattle.std.proofs.lemmas.List.{take_all}
use Rattle.std.specs.FinMap as fin
use Rattle.std.specs.Result.{IsErr}
use Rattle.map_model.specs.Maps.{Map}
use Rattle.map_model.specs.Weights.{Entry}
use Rattle.disk_face.specs.Streams.{Puts, SinkState}
use Rattle.segment_layout.specs.Books.{differs}
use Rattle.dump_stream.specs.Dumps.{dump_line, object_text, objects_text}
use Rattle.dump_stream.specs.Dumping.{AreSound, Gathers, GathersIfSound, PutsDump, PutsIfSound, PutsSound, is_spoilt, sound_front}
use Rattle.dump_stream.specs.declared.putting.DumpFault.{DumpFault}
use Rattle.dump_stream.specs.declared.putting.DumpFault.TheVariants as faults
use Rattle.dump_stream.proofs.GatherLaws.{failed, failed_same, gathers_end, gathers_front, gathers_stop, gathers_then}
use Rattle.dump_stream.proofs.PutLaws.{front_wider, objects_stop, put_then, text_more}

module _ (digests : Option Map) where
  -- one more that isn't
  sound_more : (es : List Entry) (n : ℕ) (e : Entry) → slice_get es n ≡ Some e
      → AreSound digests (take n es) → is_spoilt digests e ≡ false → AreSound digests (take (suc n) es)
  sound_more [] n e is sound one = absurd (cc)
  sound_more (x ∷ es) zero e is sound one =
      let same : x ≡ e = cc in
      (ap (is_spoilt digests) same ∙ one, tt)
  sound_more (x ∷ es) (suc n) e is sound one = (sound.0, sound_more es n e is sound.1 one)

  pub sound_next : (es : List Entry) (n : ℕ) (e : Entry) → slice_get es n ≡ Some e
      → AreSound digests (take n es) → is_spoilt digests e ≡ false → AreSound digests (take (n + 1) es)
  sound_next es n e is sound one =
      let next : suc n ≡ n + 1 = omega arith in
      subst (λ (k : ℕ). AreSound digests (take k es)) next (sound_more es n e is sound one)

  -- those in front of one that is
  pub front_is : (es : List Entry) (n : ℕ) (e : Entry) → slice_get es n ≡ Some e
      → AreSound digests (take n es) → is_spoilt digests e ≡ true → sound_front digests es ≡ take n es
  front_is [] n e is sound spoilt = absurd (cc)
  front_is (x ∷ es) zero e is sound spoilt =
      let same : x ≡ e = cc in
      cond-true (is_spoilt digests x) [] (x ∷ sound_front digests es)
      (ap (is_spoilt digests) same ∙ spoilt)
  front_is (x ∷ es) (suc n) e is sound spoilt =
      cond-false (is_spoilt digests x) [] (x ∷ sound_front digests es) sound.0
      ∙ ap (λ (ys : List Entry). x ∷ ys) (front_is es n e is sound.1 spoilt)

  -- then not all are sound
  pub not_all : (es : List Entry) (n : ℕ) (e : Entry) → slice_get es n ≡ Some e
      → is_spoilt digests e ≡ true → AreSound digests es → ⊥
  not_all [] n e is spoilt sound = absurd (cc)
  not_all (x ∷ es) zero e is spoilt sound =
      let same : x ≡ e = cc in
      absurd (let bad : true ≡ false = sym spoilt ∙ ap (is_spoilt digests) (sym same) ∙ sound.0 in cc)
  not_all (x ∷ es) (suc n) e is spoilt sound = not_all es n e is spoilt sound.1

-- ---- what is put

-- The objects in front of the n-th were gathered.
module _ (digests : Option Map) (es : List Entry) (before mid : SinkState) (n : ℕ) (held : List ℕ)
    (same_told : mid.tells ≡ before.tells)
    (first : IsTrue before.tells → Gathers [] (objects_text (take n es)) before.given mid.given held)
    (sound : AreSound digests (take n es)) where
  there : IsTrue before.tells → IsTrue mid.tells
  there told = subst IsTrue (sym same_told) told

  module _ (e : Entry) (is : slice_get es n ≡ Some e) (now : SinkState) (buffer : List ℕ) where
    -- a fault at the next
    pub stopped : {T : Type 0} (why : DumpFault)
        → GathersIfSound (is_spoilt digests e) held (object_text e) mid now buffer (Err why)
        → PutsSound {T = T} digests es before now (Err why)
    stopped {T} why x = record {
      puts = λ told other. record {
        all = tt;
        front = objects_stop es n e is before.given now.given
            (gathers_front [] (objects_text (take n es)) before.given mid.given held (first told)
            (object_text e) now.given
            (x.front (there told) (λ bad. other (failed_same ℕ T why faults.Damaged bad))));
      };
      stops = λ told bad. gathers_stop [] (objects_text (take n es)) before.given mid.given held
          (first told) now.given (x.stops (there told) (back bad))
          ∙ ap (λ (ys : List Entry). before.given ++ objects_text ys)
          (sym (front_is digests es n e is sound (x.damaged (back bad))));
      damaged = λ bad all. not_all digests es n e is (x.damaged (back bad)) all;
      sound = tt;
    }
      where
        back : failed T why ≡ failed T faults.Damaged → failed ℕ why ≡ failed ℕ faults.Damaged
        back = failed_same T ℕ why faults.Damaged

    -- it was gathered
    pub gathered_next : (k : ℕ)
        → GathersIfSound (is_spoilt digests e) held (object_text e) mid now buffer (Ok k)
        → IsTrue before.tells
        → Gathers [] (objects_text (take (n + 1) es)) before.given now.given (take k buffer)
    gathered_next k done told =
        subst (λ (s : List ℕ). Gathers [] s before.given now.given (take k buffer))
        (sym (text_more es n e is))
        (gathers_then [] (objects_text (take n es)) before.given mid.given held (first told) (object_text e)
        now.given (take k buffer) (done.gathers (there told)))

  -- none is left, and what was held was put, or a front of it
  pub put_all : {T : Type 0} (now : SinkState) (result : Result T DumpFault)
      → ((result ≡ Err faults.Damaged) → ⊥) → length es ≤ n
      → (IsTrue mid.tells → Puts mid.given now.given held result)
      → PutsSound digests es before now result
  put_all {T} now result other end last = record {
    puts = λ told isnt. rw all_is at (gathers_end [] (objects_text (take n es)) before.given mid.given held
        (first told) now.given result (last (there told)));
    stops = λ told is. absurd (other is);
    damaged = λ is. absurd (other is);
    sound = all_sound result;
  }
    where
      all_is : take n es ≡ es
      all_is = take_all n es end

      all_sound : (end : Result T DumpFault) → OnOk end (AreSound digests es)
      all_sound (Ok x) = subst (AreSound digests) all_is sound
      all_sound (Err why) = tt

-- ---- one object

module _ (digest : Option (List ℕ)) (object text : List ℕ) (before after : SinkState)
    (sound : differs digest (Some object) ≡ false) where
  -- it was put whose digest was found right, or a front of it
  pub put_sound : {T : Type 0} (result : Result T DumpFault) → ((result ≡ Err faults.Damaged) → ⊥)
      → (IsTrue before.tells → Puts before.given after.given text result)
      → PutsIfSound digest object text before after result
  put_sound (Ok x) other puts = record {
    puts = λ told is. puts told;
    nothing = λ is. absurd (cc);
    damaged = λ is. absurd (cc);
    sound = sound;
  }
  put_sound (Err why) other puts = record {
    puts = λ told is. puts told;
    nothing = λ is. absurd (other is);
    damaged = λ is. absurd (other is);
    sound = tt;
  }

-- ---- a whole dump

module _ (C : ℕ) (digests : Option Map) (m : Map) (before after : SinkState) where
  -- the sink failed within the first line
  pub cut_in_line : {T : Type 0} (result : Result T DumpFault) → IsErr result
      → ((result ≡ Err faults.Damaged) → ⊥)
      → (IsTrue before.tells → Puts before.given after.given (dump_line C m) result)
      → PutsDump C digests m before after result
  cut_in_line (Ok x) is other puts = absurd (cc)
  cut_in_line (Err why) is other puts = record {
    puts = λ told isnt. record {
      all = tt;
      front = front_wider before.given after.given (dump_line C m) (objects_text (fin.entries m))
          (puts told).front;
    };
    stops = λ told is. absurd (other is);
    damaged = λ is. absurd (other is);
    sound = tt;
  }

  -- the objects were put behind it, or a front of them
  pub put_behind : {T : Type 0} (mid : SinkState) (result : Result T DumpFault)
      → mid.tells ≡ before.tells → (IsTrue before.tells → mid.given ≡ before.given ++ dump_line C m)
      → PutsSound digests (fin.entries m) mid after result → PutsDump C digests m before after result
  put_behind mid result same line objects = record {
    puts = λ told other. put_then before.given mid.given after.given (dump_line C m)
        (objects_text (fin.entries m)) result (line told) (objects.puts (subst IsTrue (sym same) told) other);
    stops = λ told is. objects.stops (subst IsTrue (sym same) told) is
        ∙ ap (λ (xs : List ℕ). xs ++ objects_text (sound_front digests (fin.entries m))) (line told);
    damaged = objects.damaged;
    sound = objects.sound;
  }
