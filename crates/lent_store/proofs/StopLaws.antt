-- What a stopped replay leaves of a file whose calls a store has noted.
use Rattle.std.proofs.Common.{arith, ◌≡◌, ◌∙◌, refl, subst, sym, inl, inr, ℕ, List, []}
use Rattle.std.specs.Prelude.{◌⊎◌, ◌<◌, ◌-◌, ◌^◌, Some, IsSome, IsNone, IsTrue, Ok, Result, length}
use Rattle.disk_face.specs.Moments.{Leaves, Only}
use Rattle.disk_face.specs.States as disk
use Rattle.disk_face.proofs.ImageLaws.{image_synced}
use Rattle.disk_face.proofs.MomentLaws.{Leaves-weaken}
use Rattle.size_class.specs.declared.TheConstants.{CLASSES, SIZE_MAX}
use Rattle.slot_codec.specs.Choice as choice
use Rattle.disk_history.specs.Histories.{MayLeave, fresh}
use Rattle.disk_history.specs.Lawful.{only_now_law}
use Rattle.lent_disk.specs.Disks.{lent_state}
use Rattle.lent_disk.specs.Notings.{Noting, lent}
use Rattle.lent_disk.proofs.StopLaws.{spelled_stop}
use Rattle.map_model.specs.Maps.{Map}
use Rattle.map_model.specs.Requests as ask
use Rattle.map_model.specs.Requests.{Change}
use Rattle.segment_layout.specs.Books.{Book, is_quiet}
use Rattle.table_rules.specs.Opening.{OpensBy}
use Rattle.store_model.specs.declared.answers.Done.{Done}
use Rattle.store_model.specs.declared.answers.Refusal.{Refusal}
use Rattle.store_model.specs.declared.answers.Begun.{Begun}
use Rattle.store_model.specs.declared.answers.Progress.{Progress}
use Rattle.store_model.specs.Answers.{refused_by}
use Rattle.store_model.specs.Begins.{BeginsChange}
use Rattle.store_model.specs.Changes.{NothingChanged}
use Rattle.store_model.specs.Changing.{IsChange}
use Rattle.store_model.specs.Keeps.{KeepsNow, OpensToKeptOrNow}
use Rattle.store_model.specs.Steps.{StepsHalf}
use Rattle.store_model.specs.Upgrades.{idle_answer}
use Rattle.store_model.specs.Connection.{FlushInHand}
use Rattle.store_model.specs.Halves.{IsHalfImage, Origin}
use Rattle.store_model.specs.Opened.{IsFoundImage, IsOpening, LeavesRoom, SameOnFound}
use Rattle.store_model.specs.Quiet.{charges_of}
use Rattle.lent_store.specs.Embedded.{Embedded, disk_before, disk_of, file_in}
use Rattle.lent_store.specs.Noted.{IsChangeImage, IsNoted, IsNotedOf, RestsOnKept, StopsAt, StopsFrom}
use Rattle.lent_store.specs.Upgraded.{IsUpgradeImage, IsUpgraded}
use Rattle.lent_store.proofs.Cases.{by_cases, by_bool, by_option}
use Rattle.store_model.proofs.OpeningLaws.{alike_itself}

-- by what the call left since it began
module _ (old new : Embedded) (noted : IsNoted old new) (low : old.noting.history.turn < 2 ^ 64 - 1) where
  pub stops : (P Q : List ℕ → Type 0)
      → ((image : List ℕ) → P image → MayLeave old.noting.history image ⊎ Q image)
      → Leaves (disk_before old) (disk_of new) P → StopsAt old new Q
  stops P Q weaker left calls image spells fits is =
      elim (left.each old.noting.history.turn image (omega (arith, low))
      (spelled_stop old.noting.history new.noting.history new.noting.text calls image noted.log noted.ended
      spells fits is)) as (λ _. MayLeave old.noting.history image ⊎ Q image) [
        | inl past ↦ inl (only_now_law old.noting.history image low past)
        | inr now ↦ weaker image now
      ]

  pub stopped_change : (c : Change) (result : Result Done Refusal)
      → IsChange CLASSES c old.store new.store (disk_before old) (disk_of new) result → RestsOnKept old
      → StopsAt old new (IsChangeImage c old)
  stopped_change c result is rests = by_cases (refused_by old.store (ask.change c))
      (λ h. stops (MayLeave old.noting.history) (IsChangeImage c old) (λ image p. inl p)
      (is.refused h).same_disk.since)
      (λ h. by_bool (is_quiet (charges_of old.store c))
      (λ q. stops _ (IsChangeImage c old) (λ image p. inr (inl p)) ((is.quiet h q).left refl rests))
      (λ q. stops _ (IsChangeImage c old) (λ image p. inr (inr p)) ((is.flush h q).left refl rests)))

  pub stopped_keep : (result : Result Done Refusal)
      → (IsSome (refused_by old.store ask.keep)
      → NothingChanged old.store new.store (disk_before old) (disk_of new))
      → (IsNone (refused_by old.store ask.keep)
      → KeepsNow CLASSES old.store new.store (disk_before old) (disk_of new) result) → RestsOnKept old
      → StopsAt old new (OpensToKeptOrNow CLASSES old.store (file_in old))
  stopped_keep result refused kept rests = by_cases (refused_by old.store ask.keep)
      (λ h. stops (MayLeave old.noting.history) (OpensToKeptOrNow CLASSES old.store (file_in old))
      (λ image p. inl p) (refused h).same_disk.since)
      (λ h. stops _ (OpensToKeptOrNow CLASSES old.store (file_in old)) (λ image p. inr p)
      ((kept h).left refl rests))

  pub stopped_upgrade : (result : Result Done Refusal) → IsUpgraded old new result → RestsOnKept old
      → StopsAt old new (IsUpgradeImage old)
  stopped_upgrade result is rests = by_option (idle_answer old.store)
      (λ h. stops (MayLeave old.noting.history) (IsUpgradeImage old) (λ image p. inl p)
      (is.idle h).same_disk.since)
      (λ none. stops _ (IsUpgradeImage old) (λ image p. inr p) ((is.upgrades none).left refl rests))

  pub stopped_begin : (c : Change) (result : Result Begun Refusal)
      → BeginsChange CLASSES c old.store new.store (disk_before old) (disk_of new) result → RestsOnKept old
      → StopsAt old new (IsChangeImage c old)
  stopped_begin c result is rests = by_cases (refused_by old.store (ask.change c))
      (λ h. stops (MayLeave old.noting.history) (IsChangeImage c old) (λ image p. inl p)
      (is.refused h).same_disk.since)
      (λ h. by_bool (is_quiet (charges_of old.store c))
      (λ q. stops _ (IsChangeImage c old) (λ image p. inr (inl p)) ((is.quiet h q).left refl rests))
      (λ q. stops _ (IsChangeImage c old) (λ image p. inr (inr p)) ((is.flush h q).left refl rests)))

  pub stopped_step : (h : FlushInHand) (o : Origin) (result : Result Progress Refusal)
      → old.store.in_hand ≡ Some h → IsTrue o.is_at_rest
      → StepsHalf CLASSES o old.store new.store (disk_before old) (disk_of new) result
      → StopsAt old new (IsHalfImage CLASSES old.store h o)
  stopped_step h o result hand rests is =
      let same : is.hand ≡ h = (let e : Some is.hand ≡ Some h = sym is.is ∙ hand in cc) in
      stops (IsHalfImage CLASSES old.store is.hand o) (IsHalfImage CLASSES old.store h o)
      (λ image p. inr (subst (λ (x : FlushInHand). IsHalfImage CLASSES old.store x o image) same p))
      (is.left rests)

-- ---- of a log that began on a file at rest

pub stops_from : (file : List ℕ) (room log_room : ℕ) (P : List ℕ → Type 0) (s : Embedded) → IsNotedOf file s
    → P file → Leaves (lent_state (lent file room log_room)) (disk_of s) P → StopsFrom file P s
stops_from file room log_room P s noted at_first left calls image spells fits is =
    elim (left.each 0 image (omega arith)
    (spelled_stop (fresh file) s.noting.history s.noting.text calls image noted.log noted.ended spells
    fits is)) as (λ _. P image) [
      | inl past ↦ subst P (sym (image_synced file image
          (only_now_law (fresh file) image (omega arith) past))) at_first
      | inr now ↦ now
    ]

-- what began on a file that was lent without bytes
pub from_none : (before : Noting) (room log_room : ℕ) (now : disk.State) (P : List ℕ → Type 0)
    → before ≡ lent [] room log_room
    → (Only [] (lent_state before).may_leave → Leaves (lent_state before) now P)
    → Leaves (lent_state (lent [] room log_room)) now P
from_none before room log_room now P is left =
    subst (λ (n : Noting). Leaves (lent_state n) now P) is
    (left (subst (λ (n : Noting). Only [] (lent_state n).may_leave) (sym is) (image_synced [])))

pub stopped_opening : (file : List ℕ) (room log_room : ℕ) (s : Embedded) (t : choice.SlotTable) (m : Map)
    (b : Book) → IsOpening CLASSES (lent_state (lent file room log_room)) (disk_of s) (Ok s.store)
    → IsNotedOf file s → OpensBy CLASSES SIZE_MAX t file m b → LeavesRoom t
    → StopsFrom file (λ image. (image ≡ file) ⊎ IsFoundImage CLASSES t m b (length file) image) s
stopped_opening file room log_room s t m b is noted opens reach =
    stops_from file room log_room (λ image. (image ≡ file) ⊎ IsFoundImage CLASSES t m b (length file) image) s
    noted (inl refl)
    (Leaves-weaken (λ image. (image ≡ file) ⊎ IsFoundImage CLASSES t m b (length file) image)
    (λ image found. inr found) ((is.found refl t m b opens).left reach
    (λ image may. subst (SameOnFound t file) (sym (image_synced file image may)) (alike_itself t file))))
