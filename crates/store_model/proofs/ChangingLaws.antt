-- A put or a removal, from what comes of it: it is refused, or it is served.
use Rattle.std.specs.Prelude.{◌≡◌, ℕ, Bool, true, false, ◌||◌, if◌then◌else◌, Option, Some, None, option_map, Result, Err, IsTrue, refl}
use Rattle.std.proofs.Common.{ap, arith, sym, ◌∙◌, subst}
use Rattle.disk_face.specs.States as disk
use Rattle.disk_face.specs.Frames.{Unchanged}
use Rattle.disk_face.proofs.MomentLaws.{Leaves-none}
use Rattle.map_model.specs.Requests as ask
use Rattle.map_model.specs.Requests.{Change, Refused}
use Rattle.segment_layout.specs.Books.{is_quiet}
use Rattle.store_model.specs.declared.answers.Refusal.{Refusal}
use Rattle.store_model.specs.declared.answers.Refusal.TheVariants as why
use Rattle.store_model.specs.declared.answers.Done.{Done}
use Rattle.store_model.specs.Answers.{AnswersChange, facts_at, is_disk, is_disk_fault, refusal_for, refused_by}
use Rattle.store_model.specs.Changing.{IsChange}
use Rattle.store_model.specs.Connection.{IsConnected, StoreValue, limits_of}
use Rattle.store_model.specs.Flushes.{ServesChange}
use Rattle.store_model.specs.Quiet.{charges_of}
use Rattle.store_model.specs.States.{refusal}
use Rattle.store_model.proofs.ReadingLaws.{whole_if_served}
use Rattle.store_model.proofs.RefusedLaws.{answers_refused, not_none, not_some}
use Rattle.disk_face.proofs.FrameLaws.{unchanged_itself}

-- a refusal is no fault of the disk
pub stays_broken : (broken : Bool) (o : Option Refused) (refused : Refusal)
    → (if broken then Some why.Broken else option_map refusal_for o) ≡ Some refused
    → broken ≡ (broken || is_disk refused)
stays_broken true o refused is = refl
stays_broken false None refused is = absurd (cc)
stays_broken false (Some w) refused is =
    let same : refusal_for w ≡ refused = (cc) in none w ∙ ap is_disk same
  where
    none : (x : Refused) → false ≡ is_disk (refusal_for x)
    none ask.bad_name = refl
    none ask.too_long = refl
    none ask.missing = refl
    none ask.damaged = refl
    none ask.full = refl
    none ask.worn = refl

pub change_refused : {classes : ℕ} (c : Change) (s : StoreValue) (a : disk.State) (refused : Refusal)
    → refused_by s (ask.change c) ≡ Some refused → IsTrue a.is_ready → IsConnected classes s a
    → IsChange classes c s s a a (Err refused)
change_refused c s a refused is ready over = record {
  answer = answers_refused (is_quiet (charges_of s c)) (refused_by s (ask.change c)) refused is;
  refused = λ some. record { same_store = refl; same_disk = unchanged_itself a ready; same_faults = refl };
  quiet = λ none quiet. not_none (refused_by s (ask.change c)) refused is none;
  flush = λ none needs_flush. not_none (refused_by s (ask.change c)) refused is none;
  over = over;
  broken = stays_broken s.is_broken (refusal (limits_of s) (facts_at s (ask.change c)) (ask.change c)) refused
      is;
}

pub change_served : {classes : ℕ} (c : Change) (old new : StoreValue) (before now : disk.State)
    (result : Result Done Refusal) → refused_by old (ask.change c) ≡ None
    → ServesChange classes c old new before now result → IsChange classes c old new before now result
change_served c old new before now result none serves = record {
  answer = subst (λ (o : Option Refusal). AnswersChange (is_quiet (charges_of old c)) o result) (sym none)
      serves.answer;
  refused = λ some. not_some (refused_by old (ask.change c)) none some;
  quiet = λ _. serves.quiet;
  flush = λ _. serves.flush;
  over = serves.over;
  broken = serves.broken ∙ ap (λ (b : Bool). b || is_disk_fault result) (sym (whole_if_served old.is_broken
      (option_map refusal_for (refusal (limits_of old) (facts_at old (ask.change c)) (ask.change c))) none));
}
