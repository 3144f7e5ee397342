-- A batch that a store begins, goes on with, and ends.
use Rattle.std.specs.Prelude.{◌≡◌, ℕ, ◌+◌, ◌^◌, ◌≤◌, List, [], ◌∷◌, ◌++◌, length, None, Result, Ok, Err, refl}
use Rattle.std.proofs.Common.{arith, ap, sym, ◌∙◌, subst, inl, inr, append-nil}
use Rattle.std.specs.FinMap as fin
use Rattle.std.specs.List.{AllByRecursion}
use Rattle.size_class.specs.declared.TheConstants.{SIZE_MAX}
use Rattle.slot_codec.specs.Spelling.{cap}
use Rattle.slot_codec.specs.declared.codec.SuperBlock.{SuperBlock}
use Rattle.map_model.specs.Maps.{Map}
use Rattle.map_model.specs.Requests as ask
use Rattle.map_model.specs.Requests.{Change, Request, changed}
use Rattle.map_model.proofs.MapLaws.{remove-insert}
use Rattle.ask_text.specs.Inputs.{request_text}
use Rattle.store_model.specs.Connection.{live_cap}
use Rattle.store_model.specs.Quiet.{del_of, put_of}
use Rattle.store_model.specs.Answers.{refused_by}
use Rattle.batch_model.specs.Batches.{IsBatch, IsPart, applied, batch_name, batch_text}
use Rattle.batch_model.specs.Fits.{made}
use Rattle.batch_model.specs.Parts.{CanStand, IsNoPart}
use Rattle.batch_model.proofs.AppliedLaws.{applied-append, remove-absent}
use Rattle.batch_model.proofs.KeptLaws.{kept_changed}
use Rattle.batch_model.proofs.NextLaws.{IsNext, cons_append, made-append, made_beside, next_part, no_part}
use Rattle.batch_model.proofs.ViewLaws.{leaves_batch}
use Rattle.batch_core.specs.Doing.{Batch, CanBegin, CanDo, CanEnd, CanGo, GoesOrStops, IsBatchMap, IsDoing, all_changes, begun, ended, half_done, requests_for}
use Rattle.batch_core.specs.Going.{Goes, Going, Stops}
use Rattle.batch_core.specs.Making.{CanMake, Makes, left_by, most_raised, raised_by}
use Rattle.batch_core.specs.StoresOn.{StandsFor, StoreOn}
use Rattle.batch_core.proofs.FitsLaws.{can_change, del_refused, keep_refused, part, put_refused, room_for}
use Rattle.batch_core.proofs.GoesLaws.{can_go_then, goes_none, goes_one, goes_then, going, raised_low, stops_one, stops_then}
use Rattle.store_model.proofs.SizedLaws.{sized_len}

-- ---- the same, said otherwise

-- the same requests to the same map, of which no fewer raise the sequence
pub goes_as : {classes : ℕ} (Such : Map → Type 0) (x y : StoreOn) (g : Going) (requests : List Request)
    (n : ℕ) (m : Map) → g.requests ≡ requests → g.made ≤ n → g.map ≡ m → Goes classes Such x y g
    → Goes classes Such x y (going requests n m)
goes_as {classes} Such x y g requests n m same_requests low same_map first =
    subst (λ (rs : List Request). Goes classes Such x y (going rs n m)) same_requests
    (subst (λ (z : Map). Goes classes Such x y (going g.requests n z)) same_map (record {
      ran = first.ran;
      stands = first.stands;
      kept = first.kept;
      rests = first.rests;
      left = first.left;
      block = first.block;
      version = first.version;
      reach = omega (arith, first.reach, low);
      most = first.most;
      unbroken = first.unbroken;
      sound = first.sound;
      over = first.over;
      calm = first.calm;
      frame = first.frame;
    }))

-- as many names may be live
pub same_cap : {classes : ℕ} (Such : Map → Type 0) (x y : StoreOn) (g : Going)
    → Goes classes Such x y g → live_cap y.store ≡ live_cap x.store
same_cap Such x y g first = λ i. cap (ap (λ (u : SuperBlock). u.names) first.block i) (first.version i)

-- requests, and then others, by the answer of those
pub then_or : {classes : ℕ} {T E : Type 0} (b : Batch) (x y z : StoreOn) (g h : Going)
    → Goes classes (IsBatchMap b) x y g → (r : Result T E) → GoesOrStops classes b y z h r
    → GoesOrStops classes b x z (going (g.requests ++ h.requests) (g.made + h.made) h.map) r
then_or b x y z g h first (Ok u) second = goes_then (IsBatchMap b) x y z g first h second
then_or b x y z g h first (Err e) second = stops_then (IsBatchMap b) x y z g first second

-- one request, by its answer
pub one_or : {classes : ℕ} {T E : Type 0} (b : Batch) (x y : StoreOn) (r : Request) (m : Map)
    → IsBatchMap b (left_by r m) → x.store.in_use.sequence + most_raised ≤ 2 ^ 61 → (answer : Result T E)
    → Makes classes r x y m answer
    → GoesOrStops classes b x y (going (r ∷ []) (raised_by r m) (left_by r m)) answer
one_or b x y r m such early (Ok u) k = goes_one (IsBatchMap b) x y r m such early u k
one_or b x y r m such early (Err e) k = stops_one (IsBatchMap b) x y r m such early e k

pub as_or : {T E : Type 0} (classes : ℕ) (b : Batch) (x y : StoreOn) (g : Going) (requests : List Request)
    (n : ℕ) (m : Map) (r : Result T E) → g.requests ≡ requests → g.made ≤ n → g.map ≡ m
    → GoesOrStops classes b x y g r → GoesOrStops classes b x y (going requests n m) r
as_or classes b x y g requests n m (Ok u) same low is first =
    goes_as (IsBatchMap b) x y g requests n m same low is first
as_or classes b x y g requests n m (Err e) same low is first = first

-- a map of a batch, by how far it is
pub half_map : (b : Batch) (finished others : List Change) → b.changes ≡ finished ++ others
    → IsBatchMap b (half_done b finished)
half_map b finished others split = inl (finished, others, split, refl)

-- ---- the beginning

module _ {classes : ℕ} (x : StoreOn) (text : List ℕ) (b : Batch) (can : CanBegin classes x text b) where
  text_short : length text ≤ SIZE_MAX
  text_short = omega (arith, can.batch.short, ap length (can.batch.whole ∙ append-nil (batch_text b.changes)))

  pub begin_may : refused_by x.store (ask.change (put_of batch_name text)) ≡ None
  begin_may = put_refused x can.go (omega (arith, can.early)) batch_name text refl text_short
      (room_for x can.go (omega (arith, can.early)) batch_name
      (λ gone. omega (arith, can.room, sized_len b.map x.store.now can.stands.sized)))

  module _ {T E : Type 0} (y : StoreOn) where
    begin_or : (answer : Result T E) → Makes classes (ask.change (put_of batch_name text)) x y b.map answer
        → GoesOrStops classes b x y (going (ask.change (put_of batch_name b.text) ∷ []) 1 (half_done b []))
        answer
    begin_or answer k = as_or classes b x y _ (ask.change (put_of batch_name b.text) ∷ []) 1 (half_done b [])
        answer refl (raised_low (ask.change (put_of batch_name b.text)) b.map) refl
        (one_or b x y (ask.change (put_of batch_name b.text)) b.map (half_map b [] b.changes refl)
        (omega (arith, can.early)) answer
        (subst (λ (t : List ℕ). Makes classes (ask.change (put_of batch_name t)) x y b.map answer)
        (sym can.same_text) k))

    module _ (u : T) (k : Makes {T = T} {E = E} classes (ask.change (put_of batch_name text)) x y b.map
        (Ok u)) where
      begun_one : Goes classes (IsBatchMap b) x y
          (going (ask.change (put_of batch_name b.text) ∷ []) 1 (half_done b []))
      begun_one = begin_or (Ok u) k

      pub begun_go : CanGo classes y
      begun_go = can_go_then (IsBatchMap b) x y y _ begun_one

      pub begun_stands : StandsFor y (half_done b [])
      begun_stands = begun_one.stands

      pub begun_keep : refused_by y.store ask.keep ≡ None
      begun_keep = keep_refused y begun_go (omega (arith, begun_one.reach, can.early))

      pub begun_or : {U F : Type 0} (z : StoreOn) (answer : Result U F)
          → Makes classes ask.keep y z (half_done b []) answer
          → GoesOrStops classes b x z (begun b) answer
      begun_or z answer k = then_or b x y z _ _ begun_one answer
          (one_or b y z ask.keep (half_done b []) (half_map b [] b.changes refl)
          (omega (arith, begun_one.reach, can.early)) answer k)

    pub begin_stops : (e : E)
        → Makes {T = T} {E = E} classes (ask.change (put_of batch_name text)) x y b.map (Err e)
        → Stops classes (IsBatchMap b) x y
    begin_stops e k = begin_or (Err e) k

-- ---- the end

module _ {classes : ℕ} (x : StoreOn) (b : Batch) (can : CanEnd classes x b) where
  pub end_may : CanMake x.store (ask.change (del_of batch_name))
  end_may = del_refused x can.go (omega (arith, can.early)) batch_name refl

  gone : left_by (ask.change (del_of batch_name)) (half_done b b.changes) ≡ applied b.changes b.map
  gone = remove-insert (applied b.changes b.map) batch_name b.text
      ∙ remove-absent (applied b.changes b.map) batch_name
      (leaves_batch b.changes b.map can.batch.parts ∙ can.free)

  all_gone : IsBatchMap b (applied b.changes b.map)
  all_gone = inr refl

  module _ {T E : Type 0} (y : StoreOn) where
    end_or : (answer : Result T E)
        → Makes classes (ask.change (del_of batch_name)) x y (half_done b b.changes) answer
        → GoesOrStops classes b x y (going (ask.change (del_of batch_name) ∷ []) 1 (applied b.changes b.map))
        answer
    end_or answer k = as_or classes b x y _ (ask.change (del_of batch_name) ∷ []) 1 (applied b.changes b.map)
        answer refl (raised_low (ask.change (del_of batch_name)) (half_done b b.changes)) gone
        (one_or b x y (ask.change (del_of batch_name)) (half_done b b.changes) (inr gone)
        (omega (arith, can.early)) answer k)

    module _ (u : T) (k : Makes {T = T} {E = E} classes (ask.change (del_of batch_name)) x y
        (half_done b b.changes) (Ok u)) where
      ended_one : Goes classes (IsBatchMap b) x y
          (going (ask.change (del_of batch_name) ∷ []) 1 (applied b.changes b.map))
      ended_one = end_or (Ok u) k

      pub ended_go : CanGo classes y
      ended_go = can_go_then (IsBatchMap b) x y y _ ended_one

      pub ended_stands : StandsFor y (applied b.changes b.map)
      ended_stands = ended_one.stands

      pub ended_keep : refused_by y.store ask.keep ≡ None
      ended_keep = keep_refused y ended_go (omega (arith, ended_one.reach, can.early))

      pub ended_or : {U F : Type 0} (z : StoreOn) (answer : Result U F)
          → Makes classes ask.keep y z (applied b.changes b.map) answer
          → GoesOrStops classes b x z (ended b) answer
      ended_or z answer k = then_or b x y z _ _ ended_one answer
          (one_or b y z ask.keep (applied b.changes b.map) all_gone
          (omega (arith, ended_one.reach, can.early)) answer k)

    pub end_stops : (e : E) → Makes {T = T} {E = E} classes (ask.change (del_of batch_name)) x y
        (half_done b b.changes) (Err e) → Stops classes (IsBatchMap b) x y
    end_stops e k = end_or (Err e) k

-- ---- the changes

requests_push : (changes : List Change) (c : Change)
    → requests_for (changes ++ c ∷ []) ≡ requests_for changes ++ ask.change c ∷ []
requests_push [] c = refl
requests_push (d ∷ changes) c = ap (λ (rs : List Request). ask.change d ∷ rs) (requests_push changes c)

module _ {classes : ℕ} (x : StoreOn) (text : List ℕ) (b : Batch) (can : CanDo classes x text b) where
  batch : IsBatch b.text b.changes
  batch = subst (λ (t : List ℕ). IsBatch t b.changes) (sym can.same_text) can.batch

  pub doing_none : IsDoing classes b x x text
  doing_none = record {
    finished = [];
    others = b.changes;
    split = refl;
    text = can.batch.whole ∙ append-nil (batch_text b.changes);
    goes = goes_none (IsBatchMap b) x (half_done b []) can.go can.stands;
  }

  module _ (y : StoreOn) (rest behind : List ℕ) (is : IsDoing classes b x y rest) (d : Change)
      (stands : CanStand d) (read : rest ≡ request_text (ask.change d) ++ behind) where
    others_parts : AllByRecursion IsPart is.others
    others_parts = behind_parts is.finished is.others
        (subst (λ (cs : List Change). AllByRecursion IsPart cs) is.split can.batch.parts)
      where
        behind_parts : (a c : List Change) → AllByRecursion IsPart (a ++ c) → AllByRecursion IsPart c
        behind_parts [] c all = all
        behind_parts (e ∷ a) c all = behind_parts a c all.1

    next : IsNext d behind is.others
    next = next_part rest behind d is.others stands others_parts is.text read

    split_next : b.changes ≡ is.finished ++ d ∷ next.others
    split_next = is.split ∙ ap (λ (cs : List Change). is.finished ++ cs) next.first

    made_low : made is.finished b.map ≤ made b.changes b.map
    made_low = omega (
      arith,
      ap (λ (cs : List Change). made cs b.map) is.split,
      made-append is.finished is.others b.map,
    )

    pub doing_go : CanGo classes y
    doing_go = can_go_then (IsBatchMap b) x y y _ is.goes

    doing_early : y.store.in_use.sequence + most_raised ≤ 2 ^ 61
    doing_early = omega (arith, is.goes.reach, can.early, made_low)

    pub doing_may : CanMake y.store (ask.change d)
    doing_may = can_change b (live_cap x.store) batch can.free can.fits is.finished d next.others split_next y
        doing_go is.goes.stands (sym (same_cap (IsBatchMap b) x y _ is.goes))
        (omega (arith, is.goes.reach, can.early, made_low))

    is_part : IsPart d
    is_part = part b (live_cap x.store) batch can.free can.fits is.finished d next.others split_next

    -- the map with this change done too
    map_next : left_by (ask.change d) (half_done b is.finished) ≡ half_done b (is.finished ++ d ∷ [])
    map_next = kept_changed (applied is.finished b.map) b.text d is_part
        ∙ ap (λ (m : Map). fin.insert m batch_name b.text) (sym (applied-append is.finished (d ∷ []) b.map))

    such : IsBatchMap b (left_by (ask.change d) (half_done b is.finished))
    such = inl (
      is.finished ++ d ∷ [],
      next.others,
      split_next ∙ cons_append is.finished d next.others,
      map_next,
    )

    made_next : made is.finished b.map + raised_by (ask.change d) (half_done b is.finished)
        ≤ made (is.finished ++ d ∷ []) b.map
    made_next = omega (
      arith,
      made-append is.finished (d ∷ []) b.map,
      made_beside d (applied is.finished b.map) b.text is_part,
    )

    pub doing_more : {T E : Type 0} (z : StoreOn) (u : T)
        → Makes {T = T} {E = E} classes (ask.change d) y z (half_done b is.finished) (Ok u)
        → IsDoing classes b x z behind
    doing_more z u k = record {
      finished = is.finished ++ d ∷ [];
      others = next.others;
      split = split_next ∙ cons_append is.finished d next.others;
      text = next.rest;
      goes = goes_as (IsBatchMap b) x z _ (requests_for (is.finished ++ d ∷ []))
          (made (is.finished ++ d ∷ []) b.map) (half_done b (is.finished ++ d ∷ []))
          (sym (requests_push is.finished d)) made_next map_next
          (goes_then (IsBatchMap b) x y z _ is.goes _ (goes_one (IsBatchMap b) y z (ask.change d)
          (half_done b is.finished) such doing_early u k));
    }

    pub doing_stops : {T E : Type 0} (z : StoreOn) (e : E)
        → Makes {T = T} {E = E} classes (ask.change d) y z (half_done b is.finished) (Err e)
        → Stops classes (IsBatchMap b) x z
    doing_stops z e k = stops_then (IsBatchMap b) x y z _ is.goes (stops_one (IsBatchMap b) y z (ask.change d)
        (half_done b is.finished) such doing_early e k)

  pub doing_done : (y : StoreOn) (rest : List ℕ) → IsDoing classes b x y rest → IsNoPart rest
      → Goes classes (IsBatchMap b) x y (all_changes b)
  doing_done y rest is none =
      let ended : is.others ≡ [] = no_part rest is.others
      (others_all is.finished is.others
      (subst (λ (cs : List Change). AllByRecursion IsPart cs) is.split can.batch.parts)) is.text none in
      let all : is.finished ≡ b.changes = sym (is.split ∙ ap (λ (cs : List Change). is.finished ++ cs) ended
      ∙ append-nil is.finished) in
      subst (λ (cs : List Change). Goes classes (IsBatchMap b) x y (going (requests_for cs) (made cs b.map)
      (half_done b cs))) all is.goes
    where
      others_all : (a c : List Change) → AllByRecursion IsPart (a ++ c) → AllByRecursion IsPart c
      others_all [] c all = all
      others_all (e ∷ a) c all = others_all a c all.1

  -- and then it can be ended
  pub can_end : (y : StoreOn) → Goes classes (IsBatchMap b) x y (all_changes b) → CanEnd classes y b
  can_end y first = record {
    go = can_go_then (IsBatchMap b) x y y _ first;
    batch = batch;
    free = can.free;
    stands = first.stands;
    early = omega (arith, first.reach, can.early);
  }
