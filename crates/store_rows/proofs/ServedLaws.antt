-- A store and its disk go on together.
use Rattle.std.specs.Prelude.{◌≡◌, List, ℕ, Bool, true, false, Option, Some, None, Result, Ok, Err, IsNone, IsSome, IsTrue, OnErr, OnOk}
use Rattle.std.proofs.Common.{ap, rules, sym, subst, ◌∙◌}
use Rattle.disk_face.specs.States as disk
use Rattle.disk_face.specs.Frames.{Stays}
use Rattle.map_model.specs.Requests.{Change}
use Rattle.size_class.specs.declared.TheConstants.{CLASSES}
use Rattle.store_model.specs.declared.answers.Refusal.{Refusal}
use Rattle.store_model.specs.declared.answers.Done.{Done}
use Rattle.store_model.specs.Changes.{IsQuietChange, NothingChanged}
use Rattle.store_model.specs.Changing.{IsChange}
use Rattle.store_model.specs.Connection.{IsConnected, IsOver, StoreValue}
use Rattle.store_model.specs.Flushes.{IsFlush}
use Rattle.store_model.specs.Keeps.{KeepsNow}
use Rattle.store_rows.specs.Served.{MayServe}

served_on : (old new : StoreValue) (before now : disk.State) → MayServe old before → Stays before now
    → IsConnected CLASSES new now → MayServe new now
served_on old new before now served stays over = record {
  ready = stays.ready;
  tells = subst IsTrue (sym stays.told) served.tells;
  over = over;
}

-- after a put or a removal, whatever comes of it
pub served_after : (c : Change) (old new : StoreValue) (before now : disk.State)
    (result : Result Done Refusal) → MayServe old before → IsChange CLASSES c old new before now result
    → MayServe new now
served_after c old new before now result served x =
    served_on old new before now served (stays _ _ x.refused x.quiet x.flush) x.over
  where
    stays : (refused : Option Refusal) (is_quiet : Bool)
        → (IsSome refused → NothingChanged old new before now)
        → (IsNone refused → is_quiet ≡ true → IsQuietChange CLASSES c old new before now result)
        → (IsNone refused → is_quiet ≡ false → IsFlush CLASSES c old new before now result) → Stays before now
    stays (Some why) is_quiet is_refused quiet flush = (is_refused (search rules)).same_disk.stays
    stays None true is_refused quiet flush = (quiet (search rules) (search rules)).frame.stays
    stays None false is_refused quiet flush = (flush (search rules) (search rules)).frame.stays

-- after a checkpoint is saved, or refused
pub served_kept : (refused : Option Refusal) (old new : StoreValue) (before now : disk.State)
    (result : Result Done Refusal) → MayServe old before
    → (IsSome refused → NothingChanged old new before now)
    → (IsNone refused → KeepsNow CLASSES old new before now result) → IsConnected CLASSES new now
    → MayServe new now
served_kept (Some why) old new before now result served is_refused kept over =
    served_on old new before now served (is_refused (search rules)).same_disk.stays over
served_kept None old new before now result served is_refused kept over =
    served_on old new before now served (kept (search rules)).frame.stays over

-- after going back, or where that is refused
pub served_back : {T : Type 0} (result : Result T Refusal) (old new : StoreValue) (d : disk.State)
    → MayServe old d → OnErr result (new ≡ old)
    → OnOk result (new ≡ record old { now = old.kept; book = old.kept_book })
    → ((file : List ℕ) → IsOver CLASSES old file → OnOk result (IsOver CLASSES new file)) → MayServe new d
served_back (Err why) old new d served same back over = subst (λ x. MayServe x d) (sym same) served
served_back (Ok x) old new d served same back over = record {
  ready = served.ready;
  tells = served.tells;
  over = record {
    idle = ap (λ (s : StoreValue). s.in_hand) back ∙ served.over.idle;
    over = λ whole told. over d.file
        (served.over.over (sym (ap (λ (s : StoreValue). s.is_broken) back) ∙ whole) told);
  };
}
