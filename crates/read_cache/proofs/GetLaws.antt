-- What a get leaves and gives, by the way that it takes.
use Rattle.std.specs.Prelude.{◌≡◌, ℕ, ◌+◌, nat_lt, Bool, true, false, ◌&&◌, if◌then◌else◌, List, [], length, replicate, Option, Some, None, is_some, option_map, Result, Ok, Err, IfOk, IfSome, IsTrue, OnErr, OnOk, refl}
use Rattle.std.proofs.Common.{arith, ap, sym, ◌∙◌, subst, inl, inr, append-nil, length-append}
use Rattle.std.proofs.lemmas.Bool.{cond-true, cond-false}
use Rattle.std.proofs.lemmas.List.{length-replicate}
use Rattle.std.specs.FinMap as fin
use Rattle.std.specs.Map.{lookup}
use Rattle.disk_face.specs.Devices.{devices}
use Rattle.disk_face.specs.Frames.{Unchanged}
use Rattle.disk_face.specs.States as disk
use Rattle.disk_face.specs.Streams.{Puts, SinkState}
use Rattle.slot_codec.specs.Names.{is_name}
use Rattle.slot_pair.specs.Finding.{HasDiskCause}
use Rattle.map_model.specs.Requests as ask
use Rattle.segment_layout.specs.Books.{differs, is_damaged}
use Rattle.extent_table.specs.declared.spot.Spot.{Spot}
use Rattle.placement_model.specs.Reads.{object_at}
use Rattle.store_model.specs.Connection.{IsConnected, StoreValue, base_of, limits_of, state_of}
use Rattle.store_model.specs.States.{object_in, refusal}
use Rattle.store_model.specs.Stores.{IsStanding, IsStore}
use Rattle.store_model.proofs.HalfLaws.{standing_of}
use Rattle.store_model.proofs.StoreLaws.{now_lies}
use Rattle.store_model.specs.declared.answers.Moment.TheVariants as moment
use Rattle.store_model.specs.declared.answers.Refusal.{Refusal}
use Rattle.store_model.specs.declared.answers.Refusal.TheVariants as why
use Rattle.store_model.specs.Answers.{AnswersFetch, AnswersNumber, AnswersRead, AnswersSpot, facts_at, refusal_for, refused_by, size_at}
use Rattle.store_model.specs.Readings.{IsRead, digest_read, spot_read}
use Rattle.data_area.specs.Causes.{HasSinkCause}
use Rattle.store_model.specs.Reads.{GivesObject, IsJudged}
use Rattle.store_model.proofs.AnsweredLaws.{live_if, number_refused, object_size, refusal_at, served_is, some_there}
use Rattle.data_area.proofs.CauseLaws.{calm_disk, calm_sink, sink_cause_as}
use Rattle.store_model.proofs.ReadLaws.{found_damaged, found_object, read_found, read_refused}
use Rattle.store_model.proofs.ReadingLaws.{IsFound, whole_if_served}
use Rattle.store_model.proofs.StepLaws.{read_reply}
use Rattle.read_cache.specs.Coherence.{IsHeld}
use Rattle.read_cache.specs.Gets.{ListsGet, is_sink, size_got}
use Rattle.read_cache.specs.declared.got.Got.{Got}
use Rattle.read_cache.specs.Lists.{Listing, after_drop, after_get, after_hit, after_miss, listed, longest}
use Rattle.read_cache.specs.Lists as lists
use Rattle.read_cache.proofs.AnswerLaws.{get_reply}
use Rattle.read_cache.proofs.ListLaws.{lookup-promoted, some_found}

-- ---- an object that is there

-- where it stands
pub found_now : {classes : ℕ} (s : StoreValue) (name : List ℕ) → refused_by s (ask.get name) ≡ None
    → IsStore classes s → (x : Spot) × IsFound s (ask.get name) x
found_now s name none sound =
    let whole = whole_if_served s.is_broken (option_map refusal_for (refusal
    (limits_of s) (facts_at s (ask.get name)) (ask.get name))) none in
    let there = some_there s.now name (fin.get s.now name) refl (live_if (is_name name)
    (fin.contains_key s.now name) (served_is s (ask.get name) whole none)) in
    (there.0, record { served = none; whole = whole; there = there.1; stands = standing_of s sound })

-- how long it is
pub long_now : {classes : ℕ} (s : StoreValue) (d : disk.State) (name : List ℕ) (x : Spot)
    → IsFound s (ask.get name) x → IsStore classes s → IsConnected classes s d → IsTrue d.tells
    → length (object_in (state_of s d.file).map name) ≡ size_at (fin.get s.now name)
long_now s d name x f sound over told = object_size (base_of s) d.file s.now name sound.now.named
    (now_lies s d.file sound (over.over f.whole told)) (ap is_some f.there)

-- what is listed is the object, which isn't damaged
split : (b : Bool) (x y : List ℕ) → ask.found x ≡ read_reply b (ask.found y) → (b ≡ false) × (x ≡ y)
split true x y e = absurd (cc)
split false x y e = (refl, (cc))

-- Bytes are those that a name's object has, and aren't damaged.
pub record AreOf (s : StoreValue) (d : disk.State) (name bytes : List ℕ) (x : Spot) : Type 0 where
  pub same : bytes ≡ object_in (state_of s d.file).map name
  pub fine : differs (digest_read s (ask.get name)) (Some (object_at (base_of s) d.file x)) ≡ false

pub held_is : {classes : ℕ} (s : StoreValue) (d : disk.State) (name bytes : List ℕ) (x : Spot)
    → IsFound s (ask.get name) x → IsStore classes s → IsHeld s d (name, bytes) → IsTrue d.tells
    → AreOf s d name bytes x
held_is s d name bytes x f sound h told =
    let none = refusal_at s d.file (ask.get name) sound ∙ served_is s (ask.get name) f.whole f.served in
    let two = split (is_damaged s.book (state_of s d.file).map name) bytes
    (object_in (state_of s d.file).map name)
    (sym (h.answered told) ∙ get_reply (limits_of s) (state_of s d.file) name none) in
    record {
      same = two.1;
      fine = sym (found_damaged s d.file f.stands moment.Now name x f.there) ∙ two.0;
    }

-- ---- bytes that were put

back : (r : Result Got Refusal) → size_got r ≡ Err why.Sink → r ≡ Err why.Sink
back (Ok got) is = absurd (cc)
back (Err w) is = let e : w ≡ why.Sink = cc in ap (λ (y : Refusal). Err y) e

puts_got : (bytes before now : List ℕ) (r : Result Got Refusal) → Puts before now bytes r
    → Puts before now bytes (size_got r)
puts_got bytes before now (Ok got) p = record { all = p.all; front = tt }
puts_got bytes before now (Err w) p = record { all = tt; front = p.front }

-- what is given where bytes are put, or a front of them where the sink fails
module _ (bytes : List ℕ) where
  -- a get that put them answers how many they are, or that the sink failed
  pub record PutsThem (out after : SinkState) (result : Result Got Refusal) : Type 0 where
    pub size : IfOk result (λ got. got.size ≡ length bytes)
    pub only : OnErr result (result ≡ Err why.Sink)
    pub puts : IsTrue out.tells → Puts out.given after.given bytes result
    pub cause : HasSinkCause why.Sink out after result

  module _ {out after : SinkState} where
    answers : (n : ℕ) (r : Result Got Refusal) → length bytes ≡ n → PutsThem out after r
        → AnswersRead None n (size_got r)
    answers n (Ok got) long h = inl (ap (λ (m : ℕ). Ok m) (h.size ∙ long))
    answers n (Err w) long h = inr (inr (inl (let same = h.only in let e : w ≡ why.Sink = cc in
        ap (λ (y : Refusal). Err y) e)))

    only_sink : (r : Result Got Refusal) (y : Refusal) → PutsThem out after r → size_got r ≡ Err y
        → y ≡ why.Sink
    only_sink (Ok got) y h is = absurd (cc)
    only_sink (Err w) y h is = let same = h.only in let e : y ≡ why.Sink = cc in e

    numbered : (r : Result Got Refusal) → PutsThem out after r → IsTrue out.tells
        → IfOk (size_got r) (λ n. length after.given ≡ length out.given + 0 + n)
    numbered (Ok got) h told = omega (
      arith,
      ap length (h.puts told).all,
      length-append out.given bytes,
      h.size,
    )
    numbered (Err w) h told = tt

    gives : (tells : Bool) (object : List ℕ) (r : Result Got Refusal) → PutsThem out after r
        → (IsTrue tells → bytes ≡ object) → IsTrue out.tells
        → GivesObject None tells object out.given after.given 0 (size_got r)
    gives tells object r h same told = record {
      none = λ some. absurd (cc);
      damaged = λ is. absurd (let e : why.Damaged ≡ why.Sink = only_sink r why.Damaged h is in cc);
      front = λ _ disk_told. subst (λ (o : List ℕ). Puts out.given after.given o (size_got r))
          (same disk_told) (puts_got bytes out.given after.given r (h.puts told));
      number = numbered r h told;
    }

module _ (s : StoreValue) (name : List ℕ) (x : Spot) (f : IsFound s (ask.get name) x)
    (a d : disk.State) where
  pub object_is : object_in (state_of s a.file).map name ≡ object_at (base_of s) a.file x
  object_is = found_object s a.file f.stands moment.Now name x f.there

  -- a get that put the bytes of the object
  pub read_put : (bytes : List ℕ) (out after : SinkState) (result : Result Got Refusal)
      → length bytes ≡ size_at (fin.get s.now name)
      → (IsTrue a.tells → AreOf s a name bytes x) → Unchanged a d → d.faults ≡ a.faults
      → PutsThem bytes out after result
      → IsRead (ask.get name) [] s s (devices a out) (devices d after) (size_got result)
  read_put bytes out after result long are same calm h = read_found s a moment.Now name [] x f s d out after
      (size_got result) (answers bytes x.size result (long ∙ ap size_at f.there) h)
      (λ told. record {
        fine = always (size_got result) (are told).fine;
        damaged = λ is. absurd (
            let e : why.Damaged ≡ why.Sink = only_sink bytes result why.Damaged h is in cc);
      })
      (λ told bad. absurd (let e : true ≡ false = sym bad ∙ (are told).fine in cc))
      (gives bytes a.tells (object_at (base_of s) a.file x) result h (λ told. (are told).same ∙ object_is))
      refl same
      (calm_disk (λ is. absurd (let e : why.Disk ≡ why.Sink = only_sink bytes result why.Disk h is in cc))
      calm)
      (sink_cause_as h.cause (back result) (ap size_got))
    where
      always : {P : Type 0} (r : Result ℕ Refusal) → P → OnOk r P
      always (Ok n) p = p
      always (Err w) p = tt

  -- one that stopped before anything was put
  pub read_stopped : (out : SinkState) (w : Refusal)
      → AnswersFetch (refused_by s (ask.get name)) (size_at (fin.get s.now name)) (Err w)
      → (IsTrue a.tells → IsJudged {T = ℕ} (digest_read s (ask.get name)) (object_in (state_of s a.file).map
      name) (Err w)) → Unchanged a d → HasDiskCause {T = ℕ} why.Disk a.faults d.faults (Err w)
      → IsRead (ask.get name) [] s s (devices a out) (devices d out) (Err w)
  read_stopped out w answer judged same cause = read_found s a moment.Now name [] x f s d out out (Err w)
      (answered
      (subst (λ (o : Option Refusal). AnswersFetch o (size_at (fin.get s.now name)) (Err w)) f.served
      answer))
      (λ told. subst (λ (o : List ℕ). IsJudged {T = ℕ} (digest_read s (ask.get name)) o (Err w)) object_is
      (judged told))
      (λ told bad. refl)
      (λ told. record {
        none = λ some. refl;
        damaged = λ is. refl;
        front = λ _ _. record { all = tt; front = (0, omega arith, sym (append-nil out.given)) };
        number = tt;
      })
      refl same cause (calm_sink (λ is. not_sink (subst (λ (o : Option Refusal). AnswersFetch o (size_at
      (fin.get s.now name)) (Err w)) f.served answer) is) refl refl)
    where
      answered : {n m : ℕ} → AnswersFetch None n (Err w) → AnswersRead None m (Err w)
      answered (inl is) = absurd (cc)
      answered (inr (inl is)) = inr (inl is)
      answered (inr (inr is)) = inr (inr (inr is))

      not_sink : {n : ℕ} → AnswersFetch None n (Err w) → ◌≡◌ {A = Result ℕ Refusal} (Err w) (Err why.Sink) → ⊥
      not_sink (inl is) sink = absurd (cc)
      not_sink (inr (inl is)) sink = absurd (let e : why.Disk ≡ why.Sink = cc in cc)
      not_sink (inr (inr is)) sink = absurd (let e : why.Damaged ≡ why.Sink = cc in cc)

-- what was fetched
pub fetched_size : (o : Option Refusal) (n m : ℕ) → o ≡ None → AnswersFetch o n (Ok m) → m ≡ n
fetched_size None n m none (inl is) = cc
fetched_size None n m none (inr (inl is)) = absurd (cc)
fetched_size None n m none (inr (inr is)) = absurd (cc)
fetched_size (Some x) n m none is = absurd (cc)

pub fetched_are : (s : StoreValue) (name bytes : List ℕ) (x : Spot)
    → IsFound s (ask.get name) x → (a : disk.State)
    → bytes ≡ object_in (state_of s a.file).map name
    → differs (digest_read s (ask.get name)) (Some (object_in (state_of s a.file).map name)) ≡ false
    → AreOf s a name bytes x
fetched_are s name bytes x f a same fine = record {
  same = same;
  fine = ap (λ (o : List ℕ). differs (digest_read s (ask.get name)) (Some o))
      (sym (object_is s name x f a a)) ∙ fine;
}

-- how many bytes a get answers that isn't refused
pub read_size : (s : StoreValue) (name : List ℕ) (n : ℕ) (r : Result Got Refusal)
    → refused_by s (ask.get name) ≡ None → AnswersRead (refused_by s (ask.get name)) n (size_got r)
    → IfOk (size_got r) (λ m. m ≡ n)
read_size s name n r none answer = by (size_got r)
    (subst (λ (o : Option Refusal). AnswersRead o n (size_got r))
    none answer)
  where
    by : (y : Result ℕ Refusal) → AnswersRead None n y → IfOk y (λ m. m ≡ n)
    by (Ok m) (inl is) = cc
    by (Ok m) (inr (inl is)) = absurd (cc)
    by (Ok m) (inr (inr (inl is))) = absurd (cc)
    by (Ok m) (inr (inr (inr is))) = absurd (cc)
    by (Err w) is = tt

pub entered_size : (bytes : List ℕ) (r : Result Got Refusal)
    → IfOk r (λ got. got ≡ record { size = length bytes; hit = false; cached = got.cached })
    → IfOk r (λ got. got.size ≡ length bytes)
entered_size bytes (Ok got) is = ap (λ (x : Got). x.size) is
entered_size bytes (Err w) is = tt

-- what was listed, and is at the front now
module _ (name : List ℕ) (old new : Listing) (found : true ≡ is_some (listed old name))
    (list : new ≡ after_hit name old) where
  abbrev pub hit_object : List ℕ
  hit_object = (some_found (listed old name) (sym found)).0

  pub hit_old : listed old name ≡ Some hit_object
  hit_old = (some_found (listed old name) (sym found)).1

  pub hit_new : listed new name ≡ Some hit_object
  hit_new = ap (λ (l : Listing). listed l name) list
      ∙ lookup-promoted (lists.is_name name) old.pairs ∙ hit_old

  pub hit_got : (r : Result Got Refusal) → IfOk r (λ got. IfSome (listed new name)
      (λ bytes. got ≡ record { size = length bytes; hit = true; cached = true }))
      → IfOk r (λ got. got ≡ record { size = length hit_object; hit = true; cached = true })
  hit_got (Ok got) is = subst (λ (o : Option (List ℕ)). IfSome o
      (λ bytes. got ≡ record { size = length bytes; hit = true; cached = true })) hit_new is
  hit_got (Err w) is = tt

  pub hit_puts : (out after : SinkState) (r : Result Got Refusal) → IfOk r (λ got. IfSome (listed new name)
      (λ bytes. got ≡ record { size = length bytes; hit = true; cached = true }))
      → OnErr r (r ≡ Err why.Sink)
      → (IsTrue out.tells → IfSome (listed new name) (λ bytes. Puts out.given after.given bytes r))
      → HasSinkCause why.Sink out after r → PutsThem hit_object out after r
  hit_puts out after r is only puts cause = record {
    size = sized r (hit_got r is);
    only = only;
    puts = λ told. subst (λ (o : Option (List ℕ)). IfSome o (λ bytes. Puts out.given after.given bytes r))
        hit_new (puts told);
    cause = cause;
  }
    where
      sized : (y : Result Got Refusal)
          → IfOk y (λ got. got ≡ record { size = length hit_object; hit = true; cached = true })
          → IfOk y (λ got. got.size ≡ length hit_object)
      sized (Ok got) same = ap (λ (z : Got). z.size) same
      sized (Err w) same = tt

-- a get that is refused
pub read_none : (s : StoreValue) (name : List ℕ) (a : disk.State) (out : SinkState) (n : ℕ)
    (w : Refusal) → AnswersNumber (refused_by s (ask.get name)) n (Err w)
    → (s.is_broken ≡ false → IsStanding s) → IsTrue a.is_ready
    → IsRead (ask.get name) [] s s (devices a out) (devices a out) (Err w)
read_none s name a out n w answer stands ready =
    let is = number_refused (refused_by s (ask.get name)) n w answer in
    read_refused s a moment.Now name [] w (subst (λ (o : Option Refusal). AnswersSpot o
    (spot_read s (ask.get name)) (Err w)) (sym is) refl) stands ready out

-- ---- lists

-- bytes as many as an object has, which are the object's where the disk tells it
some_bytes : (tells : Bool) (size : ℕ) (object : List ℕ) → (IsTrue tells → length object ≡ size)
    → (bytes : List ℕ) × (length bytes ≡ size) × (IsTrue tells → bytes ≡ object)
some_bytes true size object long = (object, long refl, λ told. refl)
some_bytes false size object long =
    (replicate size 0, length-replicate size 0, λ told. absurd (cc))

module _ (name object : List ℕ) (old new : Listing) where
  -- a hit
  pub lists_hit : {told : Type 0} (bytes : List ℕ) (r : Result Got Refusal)
      → lookup (lists.is_name name) old.pairs ≡ Some bytes → (told → bytes ≡ object)
      → new ≡ after_hit name old
      → IfOk r (λ got. got ≡ record { size = length bytes; hit = true; cached = true })
      → OnErr r (r ≡ Err why.Sink) → ListsGet told name object old new r
  lists_hit bytes (Ok got) there same list is only = record {
    bytes = bytes;
    dropped = false;
    long = sym (ap (λ (x : Got). x.size) is);
    same = same;
    list = list ∙ sym (cond-true (is_some (listed old name)) (after_hit name old) _ (ap is_some there));
    hit = ap (λ (x : Got). x.hit) is ∙ sym (ap is_some there);
    cached = ap (λ (x : Got). x.cached) is ∙ sym (ap (λ (l : Listing). is_some (listed l name)) list
        ∙ ap is_some (lookup-promoted (lists.is_name name) old.pairs ∙ there));
  }
  lists_hit bytes (Err w) there same list is only =
      let e : w ≡ why.Sink = cc in
      list ∙ sym (cond-true (is_sink w && is_some (listed old name)) (after_hit name old) old
      (ap (λ (x : Refusal). is_sink x && is_some (listed old name)) e ∙ ap is_some there))

  module _ (none : is_some (listed old name) ≡ false) where
    -- an answer that isn't Ok leaves the list
    pub lists_none : (told : Type 0) (w : Refusal) → new ≡ old → ListsGet told name object old new (Err w)
    lists_none told w same = same ∙ by (is_sink w) (is_some (listed old name)) none
      where
        by : (b c : Bool) → c ≡ false → old ≡ (if b && c then after_hit name old else old)
        by true true is = absurd (cc)
        by true false is = refl
        by false c is = refl

    -- an object that is too long
    pub lists_passed : (tells : Bool) (size : ℕ) (r : Result Got Refusal)
        → (IsTrue tells → length object ≡ size) → IfOk (size_got r) (λ n. n ≡ size)
        → IfOk r (λ got. got ≡ record { size = got.size; hit = false; cached = false })
        → nat_lt longest size ≡ true → new ≡ old → ListsGet (IsTrue tells) name object old new r
    lists_passed tells size (Ok got) long sized is big same =
        let bytes = some_bytes tells size object long in
        record {
          bytes = bytes.0;
          dropped = false;
          long = bytes.1 ∙ sym sized;
          same = bytes.2;
          list = same ∙ sym (cond-false (is_some (listed old name)) (after_hit name old) _ none
              ∙ cond-true (nat_lt longest (length bytes.0)) old _
              (ap (nat_lt longest) bytes.1 ∙ big));
          hit = ap (λ (x : Got). x.hit) is ∙ sym none;
          cached = ap (λ (x : Got). x.cached) is ∙ sym (ap (λ (l : Listing). is_some (listed l name)) same
              ∙ none);
        }
    lists_passed tells size (Err w) long sized is big same = lists_none (IsTrue tells) w same
