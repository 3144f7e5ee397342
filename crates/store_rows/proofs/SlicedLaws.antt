-- A store of which a flush may be in hand goes on with its disk.
use Rattle.std.specs.Prelude.{◌≡◌, Bool, true, false, Option, Some, None, Result, Ok, Err, IsNone, IsSome, IsTrue}
use Rattle.std.proofs.Common.{rules, sym, subst, inl, inr}
use Rattle.disk_face.specs.States as disk
use Rattle.disk_face.specs.Frames.{Stays, Unchanged}
use Rattle.disk_face.specs.Writes.{KeepsDisk}
use Rattle.map_model.specs.Requests.{Change}
use Rattle.size_class.specs.declared.TheConstants.{CLASSES}
use Rattle.store_model.specs.declared.answers.Begun.{Begun}
use Rattle.store_model.specs.declared.answers.Begun.TheVariants as begun
use Rattle.store_model.specs.declared.answers.Done.{Done}
use Rattle.store_model.specs.declared.answers.Progress.{Progress}
use Rattle.store_model.specs.declared.answers.Progress.TheVariants as progress
use Rattle.store_model.specs.declared.answers.Refusal.{Refusal}
use Rattle.store_model.specs.Begins.{AfterBegin, BeginsChange, BeginsFlush}
use Rattle.store_model.specs.Changes.{IsQuietChange, NothingChanged}
use Rattle.store_model.specs.Changing.{IsChange}
use Rattle.store_model.specs.Flushes.{IsFlush}
use Rattle.store_model.specs.Steps.{AfterStep}
use Rattle.store_model.specs.Connection.{IsOver, StoreValue}
use Rattle.store_model.specs.Halves.{IsHalfway, IsReadable}
use Rattle.store_model.proofs.HalfLaws.{halfway_read}
use Rattle.store_rows.specs.Served.{MayStep}

module _ (s : StoreValue) (d : disk.State) (may : MayStep s d) where
  -- a flush is in hand
  pub steps_half : IsSome s.in_hand → IsHalfway CLASSES s d
  steps_half some = elim may.over as (λ _. IsHalfway CLASSES s d) [
    | inl over ↦ absurd (let e : false ≡ true = subst (λ o. IsSome o) over.idle some in cc)
    | inr half ↦ half
  ]

  on : (new : StoreValue) (now : disk.State) → Stays d now → IsReadable CLASSES new now → MayStep new now
  on new now stays over = record {
    ready = stays.ready;
    over = over;
  }

  -- after a begin, whatever comes of it
  pub after_begin : (c : Change) (new : StoreValue) (now : disk.State) (result : Result Begun Refusal)
      → BeginsChange CLASSES c s new d now result → MayStep new now
  after_begin c new now result x = on new now (stays _ _ x.refused x.quiet x.flush) (either result x.over)
    where
      stays : (refused : Option Refusal) (is_quiet : Bool)
          → (IsSome refused → NothingChanged s new d now)
          → (IsNone refused → is_quiet ≡ true → IsQuietChange CLASSES c s new d now result)
          → (IsNone refused → is_quiet ≡ false → BeginsFlush CLASSES c s new d now result) → Stays d now
      stays (Some why) is_quiet is_refused quiet flush = (is_refused (search rules)).same_disk.stays
      stays None true is_refused quiet flush = (quiet (search rules) (search rules)).frame.stays
      stays None false is_refused quiet flush = (flush (search rules) (search rules)).frame.stays

      either : (r : Result Begun Refusal) → AfterBegin CLASSES new now r → IsReadable CLASSES new now
      either (Ok begun.InHand) half = inr half
      either (Ok begun.Done) over = inl over
      either (Err refused) over = inl over

  -- after a put by one call, whatever comes of it
  pub after_put : (c : Change) (new : StoreValue) (now : disk.State) (result : Result Done Refusal)
      → IsChange CLASSES c s new d now result → MayStep new now
  after_put c new now result x = on new now (stays _ _ x.refused x.quiet x.flush) (inl x.over)
    where
      stays : (refused : Option Refusal) (is_quiet : Bool)
          → (IsSome refused → NothingChanged s new d now)
          → (IsNone refused → is_quiet ≡ true → IsQuietChange CLASSES c s new d now result)
          → (IsNone refused → is_quiet ≡ false → IsFlush CLASSES c s new d now result) → Stays d now
      stays (Some why) is_quiet is_refused quiet flush = (is_refused (search rules)).same_disk.stays
      stays None true is_refused quiet flush = (quiet (search rules) (search rules)).frame.stays
      stays None false is_refused quiet flush = (flush (search rules) (search rules)).frame.stays

  -- after a step, whatever comes of it
  pub after_step : (new : StoreValue) (now : disk.State) (result : Result Progress Refusal)
      → KeepsDisk d now → AfterStep CLASSES new now result → MayStep new now
  after_step new now result frame over = on new now frame.stays (either result over)
    where
      either : (r : Result Progress Refusal) → AfterStep CLASSES new now r → IsReadable CLASSES new now
      either (Ok progress.Moved) half = inr half
      either (Ok progress.Settled) over = inl over
      either (Err refused) over = inl over

  -- after a read
  pub after_read : (new : StoreValue) (now : disk.State) → new ≡ s → Unchanged d now → MayStep new now
  after_read new now same frame = subst (λ x. MayStep x now) (sym same)
      (on s now frame.stays (either may.over))
    where
      either : IsReadable CLASSES s d → IsReadable CLASSES s now
      either (inr half) = inr (halfway_read frame half)
      either (inl over) = inl (record {
        idle = over.idle;
        over = λ whole told.
            let before : IsTrue d.tells = subst IsTrue frame.stays.told told in
            subst (λ f. IsOver CLASSES s f) (sym (frame.same_file before)) (over.over whole before);
      })
