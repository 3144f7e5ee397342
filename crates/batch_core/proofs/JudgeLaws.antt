-- Why a batch isn't begun.
use Rattle.std.specs.Prelude.{◌≡◌, ℕ, Bool, true, false, if◌then◌else◌, List, Err, refl}
use Rattle.std.proofs.Common.{sym, subst}
use Rattle.store_model.specs.Connection.{StoreValue}
use Rattle.batch_model.specs.Batches.{StopsAt}
use Rattle.batch_model.proofs.NextLaws.{stops_no_batch}
use Rattle.batch_core.specs.Answers.{IsJudged}
use Rattle.batch_core.specs.declared.fault.BatchFault.{BatchFault}
use Rattle.batch_core.specs.declared.fault.BatchFault.TheVariants as fault

-- a text that is no batch
pub judged_text : (again : Bool) (s : StoreValue) (text : List ℕ) (n : ℕ) (w : BatchFault)
    → w ≡ (if again then fault.NoBatch else fault.Line n) → StopsAt text n → IsJudged again s text (Err w)
judged_text true s text n w is stops = subst (λ (x : BatchFault). IsJudged true s text (Err x)) (sym is)
    (refl, stops_no_batch text n stops)
judged_text false s text n w is stops = subst (λ (x : BatchFault). IsJudged false s text (Err x)) (sym is)
    (refl, stops)
