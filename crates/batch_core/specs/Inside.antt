-- What a batcher's contracts see of its fields.
use Rattle.std.specs.Prelude.{◌≡◌, ℕ, None, vec_len}
use Rattle.size_class.specs.declared.TheConstants.{SIZE_MAX}
use Rattle.store_model.specs.Connection.{StoreValue}
use Rattle.batch_core.specs.declared.batcher.Batcher.TheInside.{Inside}

-- its store
abbrev pub store_in : {C : ℕ} → Inside C → StoreValue
store_in b = b.store

-- Its text is as long as the longest object, and no flush of its store is in hand.
pub record IsReadyIn {C : ℕ} (b : Inside C) : Type 0 where
  pub long : vec_len b.text ≡ SIZE_MAX
  pub idle : (store_in b).in_hand ≡ None
