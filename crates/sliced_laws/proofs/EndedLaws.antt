-- The last step of a flush, and what the flush comes to.
use Rattle.std.specs.Prelude.{◌≡◌, ℕ, ◌+◌, ◌-◌, ◌*◌, ◌<◌, ◌≤◌, true, false, List, slice_index, Some, Result, Ok, Err, IsTrue, refl}
use Rattle.std.proofs.Common.{arith, ap, sym, ◌∙◌, subst}
use Rattle.disk_face.specs.Counts.{Rose}
use Rattle.disk_face.specs.Moments.{Leaves}
use Rattle.disk_face.specs.States as disk
use Rattle.disk_face.specs.Writes.{KeepsDisk}
use Rattle.disk_face.proofs.FrameLaws.{Stays-trans}
use Rattle.disk_face.proofs.MomentLaws.{Leaves-trans, Leaves-weaken}
use Rattle.size_class.specs.declared.TheConstants.{SIZE_MAX}
use Rattle.slot_codec.specs.declared.codec.SuperBlock.{SuperBlock}
use Rattle.map_model.specs.Maps.{Map}
use Rattle.map_model.specs.Requests.{Change, changed}
use Rattle.segment_layout.specs.Books.{Book, volumes}
use Rattle.table_rules.specs.Opening.{Opens}
use Rattle.flush_run.specs.Calls.{CallsSoFar, piece_calls}
use Rattle.flush_run.specs.Parts.{size_in}
use Rattle.flush_run.proofs.CallLaws.{calls_then, calls_wider}
use Rattle.store_model.specs.Sized.{IsSizedBy}
use Rattle.store_model.specs.declared.answers.Progress.{Progress}
use Rattle.store_model.specs.declared.answers.Progress.TheVariants as progress
use Rattle.store_model.specs.declared.answers.Refusal.{Refusal}
use Rattle.store_model.specs.Begins.{HoldsFlush, origin_of}
use Rattle.store_model.specs.Flushes.{ChangesByFlush, IsFlush, IsFlushImage, book_after, flush_boundary, map_after, names_after}
use Rattle.store_model.specs.Keeps.{now_map}
use Rattle.store_model.specs.Steps.{IsStep, Settles, StepsHalf, StopsFlush, SumsOfStep, failed_of, more_of}
use Rattle.store_model.proofs.MadeFlushLaws.{sized_after, sizes_after}
use Rattle.store_model.specs.Connection.{FlushInHand, IsConnected, RestsOnTable, StoreValue, base_of}
use Rattle.store_model.specs.Halves.{IsHalfImage}
use Rattle.store_model.specs.Stores.{IsStore}
use Rattle.sliced_laws.proofs.GoingLaws.{IsGoingOn, book_is, flush_image, sized_before}

module _ {C : ℕ} (c : Change) (a : StoreValue) (d0 : disk.State) (over : IsConnected C a d0)
    (store : IsStore C a) (whole : a.is_broken ≡ false) (f : StoreValue) (h : FlushInHand)
    (held : HoldsFlush c a f h) (n : ℕ) (s : StoreValue) (d : disk.State) (g : IsGoingOn C c a d0 h n s d)
    (t : StoreValue) (e : disk.State) where
  abbrev pub left_now : FlushInHand
  left_now = record h { left = n }

  told_now : IsTrue d0.tells → IsTrue d.tells
  told_now told = subst IsTrue (sym g.frame.stays.told) told

  -- ---- whatever the last step answers

  module _ (result : Result Progress Refusal) (st : IsStep C s t d e result)
      (later : s.in_use.sequence ≤ t.in_use.sequence) where
    su : SumsOfStep s t left_now d e result
    su = st.sums left_now g.is

    few_saves_is : t.in_use.sequence ≤ a.in_use.sequence + 2 * a.in_use.block.k
    few_saves_is = omega (arith, su.few_saves, held.began, ap (λ (b : SuperBlock). b.k) g.block)

    calls_are : CallsSoFar d0.turn e.turn a.moved t.moved (2 + more_of result)
        (s.in_use.sequence - a.in_use.sequence + (t.in_use.sequence - s.in_use.sequence + failed_of result))
        (names_after a c)
    calls_are = calls_then d0.turn d.turn e.turn a.moved s.moved t.moved 2 (more_of result)
        (s.in_use.sequence - a.in_use.sequence) (t.in_use.sequence - s.in_use.sequence + failed_of result)
        (names_after a c) g.calls
        (subst (λ k. CallsSoFar d.turn e.turn s.moved t.moved (more_of result)
        (t.in_use.sequence - s.in_use.sequence + failed_of result) k) g.names su.calls)

    lower_is : (q : ℕ) → q < flush_boundary a c → slice_index t.moved q ≡ slice_index a.moved q
    lower_is q low = su.lower q (omega (arith, low, held.boundary))
        ∙ ap (λ (r : List ℕ). slice_index r q) held.moved_then

    sized_now : (m : Map) → IsSizedBy m a.now → IsSizedBy (changed c m) s.now
    sized_now m sized q = sized_after m a.now c held.place sized q ∙ sizes_after a c held.place q
        ∙ sym (g.sizes q)

    few_by_size_is : (m : Map) → IsSizedBy m a.now → (q : ℕ)
        → slice_index t.moved q ≤ slice_index a.moved q + 2 * slice_index (volumes (changed c m)) q
    few_by_size_is m sized q = omega (
      arith,
      su.few (changed c m) (sized_now m sized) q,
      ap (λ (r : List ℕ). slice_index r q) held.moved_then,
    )

    few_is : IsTrue d0.tells → (q : ℕ) → slice_index t.moved q
        ≤ slice_index a.moved q + 2 * slice_index (volumes (map_after a c d0.file)) q
    few_is told = few_by_size_is (now_map a d0.file) (sized_before c a d0 over store whole f h held told)

    frame_is : KeepsDisk d0 e
    frame_is = record {
      no_turn_back = omega (arith, g.frame.no_turn_back, st.frame.no_turn_back);
      stays = Stays-trans g.frame.stays st.frame.stays;
    }

    content_is : IsTrue d0.tells → IsFlushImage C a c d0.file e.file
    content_is told =
        let o = origin_of a c d0.file false in
        let sh = st.half (told_now told) left_now o g.is
        (g.half told false (λ t. absurd (let e : false ≡ true = t in cc))) in
        let all : Some sh.hand ≡ Some left_now = sym sh.is ∙ g.is in
        let same : sh.hand ≡ left_now = (cc) in
        flush_image c a d0 over store whole f h held told s g.block n false e.file
        (subst (λ k. IsHalfImage C s k o e.file) same sh.content)

    left_is : IsTrue d0.tells → RestsOnTable (base_of a) a.kept d0
        → Leaves d0 e (IsFlushImage C a c d0.file)
    left_is told rests =
        let o = origin_of a c d0.file true in
        let sh = st.half (told_now told) left_now o g.is (g.half told true (λ _. rests)) in
        let all : Some sh.hand ≡ Some left_now = sym sh.is ∙ g.is in
        let same : sh.hand ≡ left_now = (cc) in
        Leaves-trans (g.images told rests) (Leaves-weaken (IsFlushImage C a c d0.file)
        (λ image i. flush_image c a d0 over store whole f h held told s g.block n true image
        (subst (λ k. IsHalfImage C s k o image) same i)) (sh.left refl))

  -- ---- what stands was settled

  module _ (st : IsStep C s t d e (Ok progress.Settled)) where
    m : Settles s t left_now d e
    m = st.makes left_now g.is

    risen : t.in_use.sequence ≡ s.in_use.sequence + 1
    risen = ap (λ (x : StoreValue). x.in_use.sequence) m.rest

    later : s.in_use.sequence ≤ t.in_use.sequence
    later = omega (arith, risen)

    pub settled_value : ChangesByFlush c a t
    settled_value = record {
      same_block = ap (λ (x : StoreValue). x.in_use.block) m.rest ∙ g.block;
      sizes = λ q. ap (λ (x : StoreValue). size_in x.now q) m.rest ∙ g.sizes q;
      book = λ map sized. ap (λ (x : StoreValue). x.book) m.rest ∙ held.book map sized;
      kept = ap (λ (x : StoreValue). x.kept) m.rest ∙ sym (ap (λ (x : StoreValue). x.now) m.rest);
      kept_book = ap (λ (x : StoreValue). x.kept_book) m.rest
          ∙ sym (ap (λ (x : StoreValue). x.book) m.rest);
      asked = ap (λ (x : StoreValue). x.asked) m.rest ∙ g.asked;
      saved = omega (arith, risen, g.later);
    }

    sh : IsTrue d0.tells → StepsHalf C (origin_of a c d0.file false) s t d e (Ok progress.Settled)
    sh told = st.half (told_now told) left_now (origin_of a c d0.file false) g.is
        (g.half told false (λ t. absurd (let e : false ≡ true = t in cc)))

    pub settled_opens : IsTrue d0.tells
        → Opens C SIZE_MAX e.file (map_after a c d0.file) (book_after a c d0.file)
    settled_opens told =
        let x = sh told in
        let all : Some x.hand ≡ Some left_now = sym x.is ∙ g.is in
        let same : x.hand ≡ left_now = (cc) in
        subst (λ (b : Book). Opens C SIZE_MAX e.file (map_after a c d0.file) b)
        (ap (λ (k : FlushInHand). k.book_after) same ∙ book_is c a d0 over store whole f h held told)
        (x.on).0

    pub settled_flush : IsFlush C c a t d0 e (Ok (record { kept = true }))
    settled_flush = record {
      value = settled_value;
      opened = settled_opens;
      content = content_is (Ok progress.Settled) st later;
      left = left_is (Ok progress.Settled) st later;
      rests = λ told. (sh told).on.1;
      on_table = λ told. (sh told).on.2;
      few_saves = few_saves_is (Ok progress.Settled) st later;
      calls = calls_wider d0.turn e.turn e.turn a.moved t.moved 4 4
          (s.in_use.sequence - a.in_use.sequence + (t.in_use.sequence - s.in_use.sequence + 0))
          (t.in_use.sequence - a.in_use.sequence) (names_after a c) (calls_are (Ok progress.Settled) st later)
          (omega (arith, g.later, later)) (omega arith);
      most = calls_wider d0.turn e.turn e.turn a.moved t.moved 4 (piece_calls + 4)
          (s.in_use.sequence - a.in_use.sequence + (t.in_use.sequence - s.in_use.sequence + 0))
          (t.in_use.sequence - a.in_use.sequence + 1) (names_after a c)
          (calls_are (Ok progress.Settled) st later) (omega (arith, g.later, later)) (omega arith);
      lower = lower_is (Ok progress.Settled) st later;
      few = few_is (Ok progress.Settled) st later;
      few_by_size = few_by_size_is (Ok progress.Settled) st later;
      frame = frame_is (Ok progress.Settled) st later;
      cause = record {
        later = omega (arith, st.cause.later, g.calm);
        rose = tt;
        calm = st.cause.calm ∙ g.calm;
      };
    }

  -- ---- the disk failed

  module _ (fault : Refusal) (st : IsStep C s t d e (Err fault)) where
    pub stopped_flush : IsFlush C c a t d0 e (Err fault)
    stopped_flush =
        let m : StopsFlush s t d e = st.makes left_now g.is in
        record {
          value = tt;
          opened = λ told. tt;
          content = content_is (Err fault) st m.later;
          left = left_is (Err fault) st m.later;
          rests = λ told. tt;
          on_table = λ told. tt;
          few_saves = few_saves_is (Err fault) st m.later;
          calls = tt;
          most = calls_wider d0.turn e.turn e.turn a.moved t.moved (2 + (piece_calls + 2)) (piece_calls + 4)
              (s.in_use.sequence - a.in_use.sequence + (t.in_use.sequence - s.in_use.sequence + 1))
              (t.in_use.sequence - a.in_use.sequence + 1) (names_after a c)
              (calls_are (Err fault) st m.later) (omega (arith, g.later, m.later)) (omega arith);
          lower = lower_is (Err fault) st m.later;
          few = few_is (Err fault) st m.later;
          few_by_size = few_by_size_is (Err fault) st m.later;
          frame = frame_is (Err fault) st m.later;
          cause = record {
            later = omega (arith, st.cause.later, g.calm);
            rose = subst (λ k. Rose k e.faults) g.calm st.cause.rose;
            calm = tt;
          };
        }
