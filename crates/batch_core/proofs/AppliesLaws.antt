-- What `apply` does at each of its ends.
use Rattle.std.specs.Prelude.{◌≡◌, ◌≢◌, ℕ, ◌<◌, Bool, true, false, ◌||◌, List, [], length, None, Result, Ok, Err, IsTrue, refl}
use Rattle.std.proofs.Common.{arith, ap, sym, ◌∙◌, subst, inr}
use Rattle.std.specs.FinMap as fin
use Rattle.disk_face.specs.Frames.{Unchanged}
use Rattle.disk_face.specs.States as disk
use Rattle.disk_face.proofs.MomentLaws.{Leaves-none}
use Rattle.map_model.specs.Maps.{Map}
use Rattle.map_model.specs.Requests.{Change}
use Rattle.data_area.proofs.CauseLaws.{calm_disk}
use Rattle.batch_model.specs.Batches.{IsBatch, batch_name}
use Rattle.batch_model.proofs.TextLaws.{batch_one}
use Rattle.batch_core.specs.Answers.{Applies, IsBegun, IsJudged, applied_to, requests_of}
use Rattle.batch_core.specs.Doing.{Batch, CanApply, CanGo, IsBatchMap, IsKeptNow, all_applied, worn_from}
use Rattle.batch_core.specs.Going.{Goes, Stops}
use Rattle.batch_core.specs.StoresOn.{StandsFor, StoreOn}
use Rattle.batch_core.specs.declared.fault.BatchFault.{BatchFault}
use Rattle.batch_core.specs.declared.fault.BatchFault.TheVariants as fault
use Rattle.batch_core.proofs.ApplyLaws.{can_apply, few_made_by, goes_begun, stops_begun}
use Rattle.disk_face.proofs.FrameLaws.{unchanged_itself}

-- ---- nothing was begun

-- ---- an empty text

pub some_of_length : (text : List ℕ) → (length text ≡ 0 → ⊥) → text ≢ []
some_of_length text other none = other (ap length none)

-- ---- a batch

module _ {classes : ℕ} (x : StoreOn) (text : List ℕ) (go : CanGo classes x)
    (free : fin.get x.store.now batch_name ≡ None) (judged : IsJudged false x.store text (Ok tt))
    (some : text ≢ []) where
  early : x.store.in_use.sequence < worn_from
  early = judged.1 (inr some)

  abbrev pub batch_of : Map → Batch
  batch_of m = record { text = text; changes = judged.0.changes; map = m }

  pub can : (m : Map) → StandsFor x m → CanApply classes x text (batch_of m)
  can m stands = can_apply x text go free judged.0 some early m stands

  module _ (y : StoreOn) where
    -- for the map of the state
    begun_as : (result : Result Bool BatchFault) → (m : Map) → StandsFor x m → IsTrue x.disk.tells
        → IsBegun classes (batch_of m) (requests_of text judged.0.changes) x y result
        → (changes : List Change) → IsBatch text changes
        → IsBegun classes (applied_to x text changes) (requests_of text changes) x y result
    begun_as result m stands told is changes batch =
        subst (λ (cs : List Change). IsBegun classes (applied_to x text cs) (requests_of text cs) x y result)
        (batch_one text judged.0.changes changes judged.0.batch batch)
        (subst (λ (n : Map). IsBegun classes (batch_of n) (requests_of text judged.0.changes) x y result)
        (sym (stands.told told)) is)

    pub done_applies : (m : Map) (stands : StandsFor x m)
        → Goes classes (IsBatchMap (batch_of m)) x y (all_applied (batch_of m)) → IsKeptNow y.store
        → Applies classes text x y (Ok true)
    done_applies m stands goes kept = record {
      answer = ((go.whole, some, judged.0), early);
      same = λ bad. absurd (cc);
      begun = λ _ told. begun_as (Ok true) m stands told (goes_begun x y (batch_of m) judged.0.batch
          (can m stands).free (all_applied (batch_of m)) refl told (Ok true) goes (omega (
            arith,
            few_made_by x false (batch_of m) go judged.0.batch (can m stands).fits,
          )) kept);
      over = goes.over;
      broken = goes.unbroken ∙ ap (λ (b : Bool). b || false) (sym go.whole);
      sound = goes.sound;
      frame = goes.frame;
      cause = calm_disk (λ is. cc) goes.calm;
    }

    pub failed_applies : (m : Map) (stands : StandsFor x m)
        → Stops classes (IsBatchMap (batch_of m)) x y → Applies classes text x y (Err fault.Disk)
    failed_applies m stands stops = record {
      answer = ((go.whole, some, judged.0), early);
      same = λ bad. absurd (cc);
      begun = λ _ told. begun_as (Err fault.Disk) m stands told (stops_begun x y (batch_of m) judged.0.batch
          (can m stands).free (all_applied (batch_of m)) refl told (Err fault.Disk) (λ is. cc) stops);
      over = record {
        idle = stops.idle;
        over = λ whole. absurd (let e : true ≡ false = sym stops.broken ∙ whole in cc);
      };
      broken = stops.broken ∙ ap (λ (b : Bool). b || true) (sym go.whole);
      sound = tt;
      frame = stops.frame;
      cause = record {
        later = stops.later;
        rose = λ is. stops.rose;
        calm = λ other. absurd (other refl);
      };
    }
