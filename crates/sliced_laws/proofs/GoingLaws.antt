-- What holds of a store and its disk between a begin and the last step of its flush.
use Rattle.std.specs.Prelude.{◌≡◌, ◌⊎◌, ℕ, ◌+◌, ◌-◌, ◌*◌, ◌≤◌, Bool, true, false, if◌then◌else◌, List, [], ◌∷◌, length, option_map, Option, Some, Ok, IsTrue, refl}
use Rattle.std.proofs.Common.{arith, ap, sym, ◌∙◌, subst, inl, inr}
use Rattle.std.proofs.lemmas.Bool.{cases_Bool, cond-false, cond-true}
use Rattle.std.specs.FinMap as fin
use Rattle.disk_face.specs.Moments.{Leaves}
use Rattle.disk_face.specs.States as disk
use Rattle.disk_face.specs.Writes.{KeepsDisk}
use Rattle.disk_face.proofs.FrameLaws.{Stays-trans}
use Rattle.disk_face.proofs.MomentLaws.{Leaves-trans, Leaves-weaken}
use Rattle.size_class.specs.declared.TheConstants.{SIZE_MAX}
use Rattle.slot_codec.specs.Choice.{InUse}
use Rattle.slot_codec.specs.Spelling.{head_len}
use Rattle.slot_codec.specs.declared.codec.SuperBlock.{SuperBlock}
use Rattle.slot_pair.specs.Saves.{next_in_use}
use Rattle.map_model.specs.Requests.{Change}
use Rattle.map_model.specs.Weights.{same_name}
use Rattle.map_model.proofs.MapLaws.{name_order, same_name-is}
use Rattle.segment_layout.specs.Books.{Book}
use Rattle.segment_layout.specs.Bounds.{Loose}
use Rattle.table_rules.specs.Opening.{Opens}
use Rattle.table_rules.specs.Sequences.{HasSequenceUpTo}
use Rattle.extent_table.specs.declared.spot.Spot.{Spot}
use Rattle.extent_table.specs.Extents.{Spots}
use Rattle.flush_run.specs.Calls.{CallsSoFar}
use Rattle.flush_run.specs.FlushFrames.{FlushFrame}
use Rattle.flush_run.specs.Parts.{SameSizes, size_in}
use Rattle.flush_run.proofs.CallLaws.{calls_none, calls_then, calls_wider}
use Rattle.flush_run.proofs.FlightLaws.{checkpoint_sequence, image_is_old_or_new}
use Rattle.flush_run.proofs.SizeLaws.{sizes_len}
use Rattle.store_model.specs.Sized.{IsSizedBy}
use Rattle.store_model.proofs.SizedLaws.{sized_read}
use Rattle.store_model.specs.declared.answers.Begun.TheVariants as begun
use Rattle.store_model.specs.declared.answers.Progress.TheVariants as progress
use Rattle.store_model.specs.Begins.{BeginsFlush, HoldsFlush, origin_of}
use Rattle.store_model.specs.Changes.{NothingChanged}
use Rattle.store_model.specs.Flushes.{IsFlushImage, book_after, map_after, names_after, size_after}
use Rattle.store_model.specs.Keeps.{now_map}
use Rattle.store_model.specs.Steps.{IsStep, MovesOne}
use Rattle.store_model.proofs.MadeFlushLaws.{len_after}
use Rattle.store_model.specs.Connection.{FlushInHand, IsConnected, RestsOnTable, StoreValue, base_of, kept_map}
use Rattle.store_model.specs.Halves.{HalfAgrees, IsHalfImage, frame_at}
use Rattle.store_model.specs.Quiet.{asked_after}
use Rattle.store_model.specs.Stores.{IsStore}
use Rattle.store_model.proofs.HalfLaws.{half_image, half_read}
use Rattle.store_model.proofs.StoreLaws.{now_lies}
use Rattle.sliced_laws.specs.Sliced.{GoesThrough, Pass, Passes, Point, moves}

-- ---- a save, and a move

pub pair_block : (saved : Bool) (u u0 : InUse) → u ≡ (if saved then next_in_use u0 else u0)
    → u.block ≡ u0.block
pair_block true u u0 is = ap (λ (x : InUse). x.block) is
pair_block false u u0 is = ap (λ (x : InUse). x.block) is

pub pair_later : (saved : Bool) (u u0 : InUse) → u ≡ (if saved then next_in_use u0 else u0)
    → u0.sequence ≤ u.sequence
pair_later true u u0 is = omega (arith, ap (λ (x : InUse). x.sequence) is)
pair_later false u u0 is = omega (arith, ap (λ (x : InUse). x.sequence) is)

-- an object that stands elsewhere has its size
size_put : (spots : Spots) (name : List ℕ) (spot : Spot) (place : ℕ) → fin.get spots name ≡ Some spot
    → SameSizes spots (fin.insert spots name (record { place = place; size = spot.size }))
size_put spots name spot place is q = elim (cases_Bool (same_name q name)) [
  | inl same ↦
      let k : q ≡ name = same_name-is q name same in
      ap size_at (fin.get-insert name_order spots name there q
      ∙ cond-true (same_name q name) (Some there) (fin.get spots q) same)
      ∙ sym (ap size_at (ap (fin.get spots) k ∙ is))
  | inr other ↦
      ap size_at (fin.get-insert name_order spots name there q
      ∙ cond-false (same_name q name) (Some there) (fin.get spots q) other)
]
  where
    there : Spot
    there = record { place = place; size = spot.size }

    size_at : Option Spot → Option ℕ
    size_at o = option_map (λ (x : Spot). x.size) o

-- ---- between two steps

-- A flush is in hand that began with a change, and so many steps are left. Each name has an object of the
-- size that the change leaves it, the disk half agrees, and the saves, the calls and the images since it
-- began are those of a flush.
pub record IsGoingOn (classes : ℕ) (c : Change) (old : StoreValue) (before : disk.State) (h : FlushInHand)
    (n : ℕ) (s : StoreValue) (d : disk.State) : Type 0 where
  pub is : s.in_hand ≡ Some (record h { left = n })
  pub block : s.in_use.block ≡ old.in_use.block
  pub sizes : (name : List ℕ) → size_in s.now name ≡ size_after old c name
  pub names : fin.len s.now ≡ names_after old c
  pub asked : s.asked ≡ asked_after old c
  pub later : old.in_use.sequence ≤ s.in_use.sequence
  pub few : s.in_use.sequence ≤ old.in_use.sequence + 2 * old.in_use.block.k
  pub calls : CallsSoFar before.turn d.turn old.moved s.moved 2 (s.in_use.sequence - old.in_use.sequence)
      (names_after old c)
  pub half : IsTrue before.tells → (rests : Bool)
      → (IsTrue rests → RestsOnTable (base_of old) old.kept before)
      → HalfAgrees classes s (record h { left = n }) (origin_of old c before.file rests) d
  pub images : IsTrue before.tells → RestsOnTable (base_of old) old.kept before
      → Leaves before d (IsFlushImage classes old c before.file)
  pub frame : KeepsDisk before d
  pub calm : d.faults ≡ before.faults

module _ {C : ℕ} (c : Change) (a : StoreValue) (d0 : disk.State) (over : IsConnected C a d0)
    (store : IsStore C a) (whole : a.is_broken ≡ false) (f : StoreValue) (h : FlushInHand)
    (held : HoldsFlush c a f h) where
  pub sized_before : IsTrue d0.tells → IsSizedBy (now_map a d0.file) a.now
  sized_before told = sized_read (base_of a) d0.file a.now store.now.named
      (now_lies a d0.file store (over.over whole told))

  pub book_is : IsTrue d0.tells → h.book_after ≡ book_after a c d0.file
  book_is told = held.book (now_map a d0.file) (sized_before told)

  -- an image of a flush in hand is one of the change
  pub flush_image : IsTrue d0.tells → (s : StoreValue) → s.in_use.block ≡ a.in_use.block → (n : ℕ)
      (rests : Bool) (image : List ℕ)
      → IsHalfImage C s (record h { left = n }) (origin_of a c d0.file rests) image
      → IsFlushImage C a c d0.file image
  flush_image told s block n rests image i = record {
    opens = elim i.opens as (λ _. Opens C SIZE_MAX image (kept_map a d0.file) a.kept_book
        ⊎ Opens C SIZE_MAX image (map_after a c d0.file) (book_after a c d0.file)) [
          | inl old ↦ inl old
          | inr new ↦ inr (subst (λ (b : Book). Opens C SIZE_MAX image (map_after a c d0.file) b)
              (book_is told) new)
        ];
    sequence =
        let same : h.began + 2 * s.in_use.block.k + 1 ≡ a.in_use.sequence + 2 * a.in_use.block.k + 1 =
        omega (arith, held.began, ap (λ (b : SuperBlock). b.k) block) in
        subst (λ m. HasSequenceUpTo m image) same i.sequence;
    loose = subst (λ (b : SuperBlock). Loose b.k (length image - head_len b.names) (now_map a d0.file)
        (map_after a c d0.file)) block i.loose;
  }

  -- ---- the begin

  pub begin_going : (d : disk.State) → BeginsFlush C c a f d0 d (Ok begun.InHand)
      → f.in_hand ≡ Some h → IsGoingOn C c a d0 h h.left f d
  begin_going d x is = record {
    is = is;
    block = ap (λ (u : InUse). u.block) x.pair;
    sizes = held.sizes;
    names = ap (λ (m : Spots). fin.len m) held.places ∙ len_after a c held.place;
    asked = held.asked;
    later = omega (arith, ap (λ (u : InUse). u.sequence) x.pair);
    few = omega (arith, ap (λ (u : InUse). u.sequence) x.pair);
    calls = subst (λ r. CallsSoFar d0.turn d.turn a.moved r 2 (f.in_use.sequence - a.in_use.sequence)
        (names_after a c)) (sym x.moved)
        (calls_wider d0.turn d0.turn d.turn a.moved a.moved 0 2 0 (f.in_use.sequence - a.in_use.sequence)
        (names_after a c) (calls_none d0.turn a.moved (names_after a c)) (omega arith)
        (omega (arith, x.calls)));
    half = λ told rests given. x.half told rests given h is;
    images = x.left;
    frame = x.frame;
    calm = x.cause.calm;
  }

  module _ (n : ℕ) (s : StoreValue) (d : disk.State) (g : IsGoingOn C c a d0 h n s d) where
    abbrev pub left_now : FlushInHand
    left_now = record h { left = n }

    told_now : IsTrue d0.tells → IsTrue d.tells
    told_now told = subst IsTrue (sym g.frame.stays.told) told

    -- ---- a read

    -- what a crash may leave now is an image of the change
    image_now : (told : IsTrue d0.tells) → RestsOnTable (base_of a) a.kept d0 → (image : List ℕ)
        → d.may_leave image → IsFlushImage C a c d0.file image
    image_now told rests image may =
        let o = origin_of a c d0.file true in
        let half = g.half told true (λ _. rests) in
        let frame : FlushFrame = frame_at C s left_now o in
        let e = half.flies.opens refl in
        let most = s.in_use.sequence in
        let low = checkpoint_sequence frame s.in_use s.kept d.file d.may_leave half.flies.content.slot e in
        let old_or_new = image_is_old_or_new frame e.t s.kept e.m e.b most d.file image (omega (arith, low))
        e.checkpoint (e.images refl image may) in
        flush_image told s g.block n true image (half_image s left_now o half.loose most
        (omega (arith, g.few, held.began, ap (λ (b : SuperBlock). b.k) g.block)) image old_or_new)

    read_here : (d' : disk.State) → NothingChanged s s d d' → IsGoingOn C c a d0 h n s d'
    read_here d' r = record {
      is = g.is;
      block = g.block;
      sizes = g.sizes;
      names = g.names;
      asked = g.asked;
      later = g.later;
      few = g.few;
      calls = subst (λ t. CallsSoFar d0.turn t a.moved s.moved 2 (s.in_use.sequence - a.in_use.sequence)
          (names_after a c)) (sym r.same_disk.same_turn) g.calls;
      half = λ told rests given. half_read r.same_disk (told_now told) (g.half told rests given);
      images = λ told rests. Leaves-trans (g.images told rests)
          (Leaves-weaken (IsFlushImage C a c d0.file) (image_now told rests) r.same_disk.since);
      frame = record {
        no_turn_back = omega (arith, g.frame.no_turn_back, r.same_disk.same_turn);
        stays = Stays-trans g.frame.stays r.same_disk.stays;
      };
      calm = r.same_faults ∙ g.calm;
    }

    pub read_going : (s' : StoreValue) (d' : disk.State) → NothingChanged s s' d d'
        → IsGoingOn C c a d0 h n s' d'
    read_going s' d' r = subst (λ x. IsGoingOn C c a d0 h n x d') (sym r.same_store)
        (read_here d' (record { same_store = refl; same_disk = r.same_disk; same_faults = r.same_faults }))

    -- ---- a step that moves

    pub moves_here : (s' : StoreValue) (d' : disk.State) → IsStep C s s' d d' (Ok progress.Moved)
        → MovesOne s s' left_now d d'
    moves_here s' d' st = st.makes left_now g.is

    pub move_going : (s' : StoreValue) (d' : disk.State) (st : IsStep C s s' d d' (Ok progress.Moved))
        → IsGoingOn C c a d0 h (moves_here s' d' st).left s' d'
    move_going s' d' st =
        let m = moves_here s' d' st in
        let su = st.sums left_now g.is in
        let same_sizes : SameSizes s.now s'.now = subst (λ x. SameSizes s.now x) (sym m.now_there)
        (size_put s.now m.name m.spot m.place m.there) in
        let later : s.in_use.sequence ≤ s'.in_use.sequence = pair_later m.saved s'.in_use s.in_use m.pair in
        let block : s'.in_use.block ≡ s.in_use.block = pair_block m.saved s'.in_use s.in_use m.pair in
        record {
          is = m.in_hand;
          block = block ∙ g.block;
          sizes = λ q. same_sizes q ∙ g.sizes q;
          names = sizes_len s.now s'.now same_sizes ∙ g.names;
          asked = ap (λ (x : StoreValue). x.asked) m.rest ∙ g.asked;
          later = omega (arith, g.later, later);
          few = omega (arith, su.few_saves, held.began, ap (λ (b : SuperBlock). b.k) g.block);
          calls = calls_wider d0.turn d'.turn d'.turn a.moved s'.moved 2 2
              (s.in_use.sequence - a.in_use.sequence + (s'.in_use.sequence - s.in_use.sequence + 0))
              (s'.in_use.sequence - a.in_use.sequence) (names_after a c)
              (calls_then d0.turn d.turn d'.turn a.moved s.moved s'.moved 2 0
              (s.in_use.sequence - a.in_use.sequence) (s'.in_use.sequence - s.in_use.sequence + 0)
              (names_after a c) g.calls
              (subst (λ k. CallsSoFar d.turn d'.turn s.moved s'.moved 0
              (s'.in_use.sequence - s.in_use.sequence + 0) k) g.names su.calls))
              (omega (arith, g.later, later)) (omega arith);
          half = λ told rests given.
              let sh = st.half (told_now told) left_now (origin_of a c d0.file rests) g.is
              (g.half told rests given) in
              let all : Some sh.hand ≡ Some left_now = sym sh.is ∙ g.is in
              let same : sh.hand ≡ left_now = (cc) in
              subst (λ k. HalfAgrees C s' (record k { left = m.left }) (origin_of a c d0.file rests) d') same
              (sh.on m.left (subst (λ k. s'.in_hand ≡ Some (record k { left = m.left })) (sym same)
              m.in_hand));
          images = λ told rests.
              let sh = st.half (told_now told) left_now (origin_of a c d0.file true) g.is
              (g.half told true (λ _. rests)) in
              let all : Some sh.hand ≡ Some left_now = sym sh.is ∙ g.is in
              let same : sh.hand ≡ left_now = (cc) in
              Leaves-trans (g.images told rests) (Leaves-weaken (IsFlushImage C a c d0.file)
              (λ image i. flush_image told s g.block n true image
              (subst (λ k. IsHalfImage C s k (origin_of a c d0.file true) image) same i)) (sh.left refl));
          frame = record {
            no_turn_back = omega (arith, g.frame.no_turn_back, st.frame.no_turn_back);
            stays = Stays-trans g.frame.stays st.frame.stays;
          };
          calm = st.cause.calm ∙ g.calm;
        }

  -- ---- one pass after another

  module _ {D : Type 0} (state : D → disk.State) where
    pub record Reaches (n most : ℕ) (p : Point D) : Type 0 where
      pub left : ℕ
      pub going : IsGoingOn C c a d0 h left p.store (state p.disk)
      pub fewer : n + left ≤ most

    one_pass : (is_step : Bool) (p q : Point D) (n : ℕ) → IsGoingOn C c a d0 h n p.store (state p.disk)
        → Passes state C is_step p q → Reaches (if is_step then 1 else 0) n q
    one_pass true p q n g pass =
        let m = moves_here n p.store (state p.disk) g q.store (state q.disk) pass in
        record {
          left = m.left;
          going = move_going n p.store (state p.disk) g q.store (state q.disk) pass;
          fewer = omega (arith, m.fewer);
        }
    one_pass false p q n g pass = record {
      left = n;
      going = read_going n p.store (state p.disk) g q.store (state q.disk) pass;
      fewer = omega arith;
    }

    pub all_passes : (passes : List (Pass D)) (p q : Point D) (n : ℕ)
        → IsGoingOn C c a d0 h n p.store (state p.disk)
        → GoesThrough state C p passes q → Reaches (moves passes) n q
    all_passes [] p q n g same = subst (λ x. Reaches 0 n x) (sym same)
        (record { left = n; going = g; fewer = omega arith })
    all_passes (pass ∷ rest) p q n g goes =
        let one = one_pass pass.is_step p pass.after n g goes.0 in
        let others = all_passes rest pass.after q one.left one.going goes.1 in
        record {
          left = others.left;
          going = others.going;
          fewer = omega (arith, one.fewer, others.fewer);
        }
