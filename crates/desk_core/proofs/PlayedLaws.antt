-- Events that are answered one after another.
use Rattle.std.specs.Prelude.{◌≡◌, ℕ, ◌+◌, ◌≤◌, true, false, List, [], ◌∷◌, ◌++◌, flat_map, Ok, IsTrue, refl}
use Rattle.std.specs.List.{AllByRecursion}
use Rattle.std.proofs.Common.{arith, ap, sym, ◌∙◌, subst, inl, inr, append_assoc, append-nil, length-append}
use Rattle.std.proofs.lemmas.Grind.{flat_map-append}
use Rattle.std.proofs.lemmas.Bool.{cases_Bool}
use Rattle.disk_face.specs.Counts.{counted, last}
use Rattle.disk_face.proofs.FrameLaws.{Stays-trans, unchanged_itself}
use Rattle.disk_face.proofs.MomentLaws.{Leaves-none, Leaves-trans, Leaves-weaken}
use Rattle.size_class.specs.declared.TheConstants.{SIZE_MAX}
use Rattle.slot_codec.specs.declared.codec.SuperBlock.{SuperBlock}
use Rattle.store_model.specs.Connection.{limits_of}
use Rattle.store_model.specs.States.{Limits}
use Rattle.ask_text.specs.Ends.{is_budget}
use Rattle.ask_text.specs.declared.ends.End.{End}
use Rattle.ask_text.specs.declared.ends.End.TheVariants as ends
use Rattle.ask_text.specs.declared.ends.Turn.TheVariants as turn
use Rattle.ask_session.specs.Outside.{Outside}
use Rattle.desk_model.specs.Answers.{Answer, answer_text}
use Rattle.desk_model.specs.Desks.{Desk, EventStep, Plays, last_desk}
use Rattle.desk_model.specs.Events.{Event, IsEvent, event_text}
use Rattle.desk_core.specs.Benches.{Bench, unread}
use Rattle.desk_core.specs.Images.{Checkpoint, IsDeskImage, RestsFrom, settled_before}
use Rattle.desk_core.specs.Ready.{MayGoOn}
use Rattle.desk_core.specs.Runs.{EndsIn, HasPlayed}
use Rattle.desk_core.specs.Shows.{Shows}
use Rattle.desk_core.specs.Turns.{IsDeskTurn, KeepsBench, PlaysEvent}
use Rattle.desk_core.proofs.RunImageLaws.{image_last, images_more, settled_more}

-- ---- lists that grow at their end

last_more : (d t : Desk) (ds : List Desk) → last_desk d (ds ++ t ∷ []) ≡ t
last_more d t [] = refl
last_more d t (u ∷ ds) = last_more u t ds

events_more : (es : List Event) (e : Event) → AllByRecursion IsEvent es → IsEvent e
    → AllByRecursion IsEvent (es ++ e ∷ [])
events_more [] e all is = (is, tt)
events_more (x ∷ es) e all is = (all.0, events_more es e all.1 is)

plays_more : (limits : Limits) (d t : Desk) (es : List Event) (answers : List Answer) (ds : List Desk)
    (e : Event) (a : Answer) → Plays limits d es answers ds → EventStep limits (last_desk d ds) e a t
    → Plays limits d (es ++ e ∷ []) (answers ++ a ∷ []) (ds ++ t ∷ [])
plays_more limits d t [] [] [] e a plays step = (step, tt)
plays_more limits d t (x ∷ es) (y ∷ answers) (u ∷ ds) e a plays step =
    (plays.0, plays_more limits u t es answers ds e a plays.1 step)
plays_more limits d t [] [] (u ∷ ds) e a plays step = absurd plays
plays_more limits d t [] (y ∷ answers) ds e a plays step = absurd plays
plays_more limits d t (x ∷ es) [] ds e a plays step = absurd plays
plays_more limits d t (x ∷ es) (y ∷ answers) [] e a plays step = absurd plays

-- a text behind those of a list
texts_more : {A : Type 0} (f : A → List ℕ) (xs : List A) (x : A) (front rest : List ℕ)
    → front ++ (flat_map f xs ++ (f x ++ rest)) ≡ front ++ (flat_map f (xs ++ x ∷ []) ++ rest)
texts_more f xs x front rest =
    ap (λ (ys : List ℕ). front ++ ys)
    (sym (append_assoc (flat_map f xs) (f x) rest)
    ∙ ap (λ (ys : List ℕ). (flat_map f xs ++ ys) ++ rest) (sym (append-nil (f x)))
    ∙ ap (λ (ys : List ℕ). ys ++ rest) (sym (flat_map-append f xs (x ∷ []))))

-- ---- events

pub played_none : {C : ℕ} (b : Bench) (o : Outside) → MayGoOn C b o.disk → b.events ≤ last
    → HasPlayed C b b o o 0
played_none {C} b o may low = record {
  events = [];
  count = refl;
  each = tt;
  whole = λ told. refl;
  plays = λ told d shown. record {
    answers = [];
    desks = [];
    plays = tt;
    shown = shown;
    puts = λ sink. sym (append-nil o.sink.given);
    left = λ k rests. Leaves-none o.disk (IsDeskImage C k d []);
    rests = λ k rests. rests;
  };
  answered = omega (arith, low);
  fresh = may.fresh;
  unbroken = may.whole;
  readable = may.over;
  block = refl;
  frame = record { no_turn_back = omega arith; stays = (unchanged_itself o.disk may.ready).stays };
  source_told = refl;
  source_calm = refl;
  disk_calm = refl;
  sink_told = refl;
  sink_calm = refl;
}

pub played_more : {C : ℕ} (old b new : Bench) (before mid now : Outside) (n : ℕ)
    → HasPlayed C old b before mid n → PlaysEvent C b new mid now (Ok tt)
    → KeepsBench C b new mid now turn.Answered → new.events ≡ counted b.events 1 → new.ended ≡ false
    → HasPlayed C old new before now (n + 1)
played_more {C} old b new before mid now n ran x keeps counts fresh = record {
  events = ran.events ++ x.event ∷ [];
  count = omega (arith, length-append ran.events (x.event ∷ []), ran.count);
  each = events_more ran.events x.event ran.each x.is_event;
  whole = λ told. ran.whole told
      ∙ ap (λ (xs : List ℕ). flat_map event_text ran.events ++ xs)
      (x.whole (subst IsTrue (sym ran.source_told)
      told))
      ∙ texts_more event_text ran.events x.event [] (unread new now.source);
  plays = λ told d shown.
      let p = ran.plays told d shown in
      let y = x.plays (subst IsTrue (sym ran.frame.stays.told) told) (last_desk d p.desks) p.shown in
      let one = λ (k : Checkpoint) (rests : RestsFrom C old.store before.disk k). x.images
      (subst IsTrue (sym ran.frame.stays.told) told) (last_desk d p.desks) p.shown
      (settled_before k d p.desks) (p.rests k rests) y.answer y.desk y.step in
      record {
        answers = p.answers ++ y.answer ∷ [];
        desks = p.desks ++ y.desk ∷ [];
        plays = plays_more (limits_of old.store) d y.desk ran.events p.answers p.desks x.event y.answer
            p.plays
            (subst (λ (l : Limits). EventStep l (last_desk d p.desks) x.event y.answer y.desk) same_limits
            y.step);
        shown = subst (λ (k : Desk). Shows new now.disk.file k) (sym (last_more d y.desk p.desks))
            (y.shown refl);
        puts = λ sink.
            (y.puts (subst IsTrue (sym ran.sink_told) sink)).all
            ∙ ap (λ (xs : List ℕ). xs ++ answer_text y.answer) (p.puts sink)
            ∙ append_assoc before.sink.given (flat_map answer_text p.answers) (answer_text y.answer)
            ∙ ap (λ (xs : List ℕ). before.sink.given ++ (flat_map answer_text p.answers ++ xs))
            (sym (append-nil (answer_text y.answer)))
            ∙ texts_more answer_text p.answers y.answer before.sink.given []
            ∙ ap (λ (xs : List ℕ). before.sink.given ++ xs)
            (append-nil (flat_map answer_text (p.answers ++ y.answer ∷ [])));
        left = λ k rests. Leaves-trans
            (Leaves-weaken (IsDeskImage C k d (p.desks ++ y.desk ∷ []))
            (images_more C k d p.desks y.desk) (p.left k rests))
            (Leaves-weaken (IsDeskImage C k d (p.desks ++ y.desk ∷ [])) (image_last C k d p.desks y.desk)
            (one k rests).left);
        rests = λ k rests. subst (λ (c : Checkpoint). RestsFrom C new.store now.disk c)
            (sym (settled_more k d p.desks y.desk)) ((one k rests).rests refl);
      };
  answered = omega (arith, counts, ran.answered);
  fresh = fresh;
  unbroken = elim (cases_Bool new.store.is_broken) [
    | inl bad ↦ absurd (let e : false ≡ true = keeps.broken bad in cc)
    | inr fine ↦ fine
  ];
  readable = keeps.readable;
  block = keeps.block refl ∙ ran.block;
  frame = record {
    no_turn_back = omega (arith, ran.frame.no_turn_back, keeps.frame.no_turn_back);
    stays = Stays-trans ran.frame.stays keeps.frame.stays;
  };
  source_told = keeps.told ∙ ran.source_told;
  source_calm = keeps.source_cause.calm refl ∙ ran.source_calm;
  disk_calm = keeps.disk_cause.calm (λ is. absurd (cc)) ∙ ran.disk_calm;
  sink_told = keeps.sink_cause.told ∙ ran.sink_told;
  sink_calm = keeps.sink_cause.calm (λ is. absurd (cc)) ∙ ran.sink_calm;
}
  where
    same_limits : limits_of b.store ≡ limits_of old.store
    same_limits = ap (λ (s : SuperBlock). record { k = s.k; names = s.names; size_max = SIZE_MAX }) ran.block

-- ---- the end

pub ends_in : (C n : ℕ) (b new : Bench) (before now : Outside) (end : End)
    → IsDeskTurn C b new before now (turn.Ended end) → KeepsBench C b new before now (turn.Ended end)
    → new.events ≡ b.events → EndsIn C n b new before now end
ends_in C n b new before now ends.End t k e = record { turns = t; keeps = k; events = e }
ends_in C n b new before now ends.Line t k e = record { turns = t; keeps = k; events = e }
ends_in C n b new before now ends.Disk t k e = record { turns = t; keeps = k; events = e }
ends_in C n b new before now ends.Source t k e = record { turns = t; keeps = k; events = e }
ends_in C n b new before now ends.Sink t k e = record { turns = t; keeps = k; events = e }
ends_in C n b new before now ends.Budget t k e = absurd t

-- a turn doesn't end a desk for its budget
pub no_budget : {A : Type 0} (C : ℕ) (b new : Bench) (before now : Outside) (end : End)
    → IsDeskTurn C b new before now (turn.Ended end) → is_budget end ≡ true → A
no_budget C b new before now ends.End t is = absurd (let e : false ≡ true = is in cc)
no_budget C b new before now ends.Line t is = absurd (let e : false ≡ true = is in cc)
no_budget C b new before now ends.Disk t is = absurd (let e : false ≡ true = is in cc)
no_budget C b new before now ends.Source t is = absurd (let e : false ≡ true = is in cc)
no_budget C b new before now ends.Sink t is = absurd (let e : false ≡ true = is in cc)
no_budget C b new before now ends.Budget t is = absurd t
