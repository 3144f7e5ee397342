-- A store's own fields, out of the boxes in which some stand.
use Rattle.std.specs.Prelude.{ℕ}
use Rattle.store_model.specs.Inside.{HoldsAt, Inside, seen}
use Rattle.store_core.specs.declared.store.Store.TheInside as store
use Rattle.store_model.specs.Connection.{StoreValue}

abbrev pub unboxed : {C : ℕ} → store.Inside C → Inside C
unboxed s = record { hands = s.hands.value; kept_layout = s.kept_layout.value; broken = s.broken }

abbrev pub kept_in : {C : ℕ} → store.Inside C → StoreValue
kept_in s = seen s.flush s.began (unboxed s)

abbrev pub IsWholeIn : {C : ℕ} → store.Inside C → Type 0
IsWholeIn s = HoldsAt s.flush s.began (unboxed s)
