-- A step of the flush in hand: how the desk goes on.
use Rattle.std.specs.Prelude.{◌≡◌, ℕ, ◌+◌, Some, None, Ok, Err, IsTrue, refl, ◌≤◌, Bool, true, false}
use Rattle.std.specs.FinMap as fin
use Rattle.std.proofs.Common.{arith, ap, sym, ◌∙◌, subst, inl, inr}
use Rattle.disk_face.specs.States as disk
use Rattle.size_class.specs.declared.TheConstants.{SIZE_MAX}
use Rattle.slot_codec.specs.declared.codec.SuperBlock.{SuperBlock}
use Rattle.table_rules.specs.Opening.{Opens}
use Rattle.store_model.specs.declared.answers.Progress.{Progress}
use Rattle.store_model.specs.declared.answers.Progress.TheVariants as progress
use Rattle.store_model.specs.declared.answers.Refusal.{Refusal}
use Rattle.store_model.specs.declared.answers.Refusal.TheVariants as why
use Rattle.store_model.specs.Answers as store
use Rattle.store_model.specs.Steps.{AnswersStep, IsStep, MovesOne, Settles}
use Rattle.store_model.specs.Connection.{FlushInHand, IsOver, StoreValue, state_of}
use Rattle.store_model.specs.Halves.{HalfAgrees, IsHalfway, Origin}
use Rattle.sliced_laws.proofs.GoingLaws.{pair_block, pair_later}
use Rattle.sliced_laws.proofs.SlicedLaws.{opens_once}
use Rattle.ask_text.specs.declared.ends.End.TheVariants as ends
use Rattle.desk_model.specs.Desks.{Desk, Flush}
use Rattle.slot_pair.specs.Saves.{save_calls}
use Rattle.flush_run.specs.MadeMoves.{calls_of_save}
use Rattle.desk_core.specs.Playing.{StepsFlush, left_of}
use Rattle.desk_core.specs.Shows.{ShowsFlush, ShowsStore}
use Rattle.desk_core.proofs.HandLaws.{no_hand, same_flush, same_hand}
use Rattle.desk_core.proofs.StepImageLaws.{failed_leaves, moved_leaves, settled_leaves}

-- a save or none makes at most the calls of a save
save_most : (saved : Bool) (n : ℕ) → calls_of_save saved n ≤ save_calls n
save_most true n = omega arith
save_most false n = omega arith

module _ {C : ℕ} (session : ℕ) (s t : StoreValue) (a d : disk.State) (half : IsHalfway C s a) where
  abbrev h : FlushInHand
  h = half.hand

  -- the map that a file gives is the one of after, whatever the flush began with
  now_is : (o : Origin) → HalfAgrees C s h o a → (state_of s a.file).map ≡ o.after
  now_is o at = at.flies.content.live

  -- what is shown of a flush in hand
  shown_flush : (desk : Desk) (f : Flush) → desk.hand ≡ Some f → ShowsStore s session a.file desk
      → ShowsFlush s session a.file h desk.state f
  shown_flush desk f is shown =
      let x = shown.held h half.is in
      subst (λ (y : Flush). ShowsFlush s session a.file h desk.state y) (same_flush x.1 is) x.2

  -- ---- a step that moved an object

  module _ (st : IsStep C s t a d (Ok progress.Moved)) where
    m : MovesOne s t h a d
    m = st.makes h half.is

    moved_map : IsTrue a.tells → (state_of s a.file).map ≡ (state_of t d.file).map
    moved_map told =
        let o = half.half told in
        let x = st.half told h o.0 half.is o.1 in
        let same : x.hand ≡ h = same_hand x.is half.is in
        let goes : HalfAgrees C t (record h { left = m.left }) o.0 d =
        subst (λ (k : FlushInHand). HalfAgrees C t (record k { left = m.left }) o.0 d) same
        (x.on m.left (subst (λ (k : FlushInHand). t.in_hand ≡ Some (record k { left = m.left })) (sym same)
        m.in_hand)) in
        now_is o.0 o.1 ∙ sym goes.flies.content.live

    moved_shows : IsTrue a.tells → (desk : Desk) (f : Flush) → ShowsFlush s session a.file h desk.state f
        → ShowsStore t session d.file (record desk { hand = Some (record f { left = m.left }) })
    moved_shows told desk f x = record {
      idle = λ none. absurd (no_hand m.in_hand none);
      held = λ k is.
          subst (λ (y : FlushInHand). (g : Flush) × (Some (record f { left = m.left }) ≡ Some g)
          × ShowsFlush t session d.file y desk.state g) (same_hand m.in_hand is) (
            record f { left = m.left },
            refl,
            record {
              of = x.of;
              left = omega arith;
              least = x.least;
              most = omega (
                arith,
                x.most,
                ap (λ (b : SuperBlock). b.k) (pair_block m.saved t.in_use s.in_use m.pair),
              );
              later = omega (arith, x.later, pair_later m.saved t.in_use s.in_use m.pair);
              map = x.map ∙ moved_map told;
              kept = x.kept;
              book = x.book;
              kept_book = x.kept_book;
            },
          );
    }

    pub step_moved : StepsFlush C session s t a d (Ok progress.Moved)
    step_moved = record {
      steps = λ told desk f is shown.
          let x = shown_flush desk f is shown in (
            record desk { hand = Some (record f { left = m.left }) },
            (m.left, m.some, omega (arith, m.fewer, x.left), refl),
            moved_shows told desk f x,
          );
      images = λ told desk shown. moved_leaves session s t a d half told desk shown st;
      over = st.over;
      fewer = λ is. omega (
        arith,
        m.fewer,
        ap left_of m.in_hand,
        ap left_of half.is,
      );
      calls = inr (inr (m.spot.size, m.row, omega (arith, m.turns, save_most m.saved (fin.len s.now))));
      broken = st.broken;
      block = λ calm. pair_block m.saved t.in_use s.in_use m.pair;
      frame = st.frame;
      only = tt;
      cause = record {
        later = st.cause.later;
        rose = λ is. absurd (cc);
        calm = λ other. st.cause.calm;
      };
    }

  -- ---- a step that settled what stands

  module _ (st : IsStep C s t a d (Ok progress.Settled)) where
    n : Settles s t h a d
    n = st.makes h half.is

    risen : t.in_use.sequence ≡ s.in_use.sequence + 1
    risen = ap (λ (x : StoreValue). x.in_use.sequence) n.rest

    over : IsTrue a.tells → IsOver C t d.file
    over told = st.over.over st.broken (subst IsTrue (sym st.frame.stays.told) told)

    settled_map : IsTrue a.tells → (state_of s a.file).map ≡ (state_of t d.file).kept
    settled_map told =
        let o = half.half told in
        let x = st.half told h o.0 half.is o.1 in
        let new = over told in
        let opened : Opens C SIZE_MAX d.file (state_of t d.file).kept t.kept_book =
        record { table = new.table; opens = new.checkpoint.opens } in
        now_is o.0 o.1 ∙ (opens_once C SIZE_MAX d.file o.0.after (state_of t d.file).kept
        x.hand.book_after t.kept_book (x.on).0 opened).0

    kept_is_now : (state_of t d.file).kept ≡ (state_of t d.file).map
    kept_is_now = ap (λ (y : StoreValue). (state_of (record t { kept = y.kept; now = y.now }) d.file).kept)
        n.rest
        ∙ sym (ap (λ (y : StoreValue). (state_of (record t { kept = y.kept; now = y.now }) d.file).map)
        n.rest)

    settled_state : IsTrue a.tells → (desk : Desk) (f : Flush) → ShowsFlush s session a.file h desk.state f
        → record desk.state { sequence = t.in_use.sequence } ≡ state_of t d.file
    settled_state told desk f x =
        let kept : desk.state.map ≡ (state_of t d.file).kept = x.map ∙ settled_map told in
        let book : desk.state.book ≡ t.book = x.book ∙ sym (ap (λ (y : StoreValue). y.book) n.rest) in
        let kept_book : desk.state.kept_book ≡ t.kept_book = x.kept_book
        ∙ sym (ap (λ (y : StoreValue). y.kept_book) n.rest) in
        λ i. record {
          map = (kept ∙ kept_is_now) i;
          kept = (x.kept ∙ kept) i;
          book = book i;
          kept_book = kept_book i;
          sequence = t.in_use.sequence;
        }

    pub step_settled : StepsFlush C session s t a d (Ok progress.Settled)
    step_settled = record {
      steps = λ told desk f is shown.
          let x = shown_flush desk f is shown in
          let q = t.in_use.sequence in (
            record desk { state = record desk.state { sequence = q }; hand = None },
            (
              q,
              omega (arith, x.least, x.later, risen),
              omega (arith, x.most, (st.sums h half.is).few_saves),
              refl,
            ),
            record {
              idle = λ none. (refl, settled_state told desk f x);
              held = λ k some. absurd (no_hand some (ap (λ (y : StoreValue). y.in_hand) n.rest));
            },
          );
      images = λ told desk shown. settled_leaves session s t a d half told desk shown st;
      over = st.over;
      fewer = λ is. absurd (cc);
      calls = inr (inl (omega (arith, n.turns)));
      broken = st.broken;
      block = λ calm. ap (λ (y : StoreValue). y.in_use.block) n.rest;
      frame = st.frame;
      only = tt;
      cause = record {
        later = st.cause.later;
        rose = λ is. absurd (cc);
        calm = λ other. st.cause.calm;
      };
    }

  -- ---- the disk failed

  module _ (fault : Refusal) (st : IsStep C s t a d (Err fault)) where
    fault_is : fault ≡ why.Disk
    fault_is = by st.answer
      where
        by : AnswersStep (Err fault) → fault ≡ why.Disk
        by (inl e) = absurd (cc)
        by (inr (inl e)) = absurd (cc)
        by (inr (inr e)) = (cc)

    pub step_failed : StepsFlush C session s t a d (Err ends.Disk)
    step_failed = record {
      steps = λ told desk f is shown. refl;
      images = λ told desk shown. failed_leaves session s t a d half told desk shown fault st;
      over = st.over;
      fewer = λ is. absurd (cc);
      calls = inr (inl (omega (arith, (st.makes h half.is).turns)));
      broken = st.broken ∙ ap store.is_disk fault_is;
      block = λ calm. absurd (cc);
      frame = st.frame;
      only = refl;
      cause = record {
        later = st.cause.later;
        rose = λ is. st.cause.rose;
        calm = λ other. absurd (other refl);
      };
    }

-- whatever a step came to that didn't fail
pub step_goes : {C : ℕ} (session : ℕ) (s t : StoreValue) (a d : disk.State) → IsHalfway C s a
    → (p : Progress) → IsStep C s t a d (Ok p) → StepsFlush C session s t a d (Ok p)
step_goes session s t a d half progress.Moved st = step_moved session s t a d half st
step_goes session s t a d half progress.Settled st = step_settled session s t a d half st
