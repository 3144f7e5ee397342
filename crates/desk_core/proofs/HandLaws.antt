-- Flushes in hand are one.
use Rattle.std.specs.Prelude.{◌≡◌, Option, Some, None}
use Rattle.std.proofs.Common.{sym, ◌∙◌}
use Rattle.store_model.specs.Connection.{FlushInHand}
use Rattle.desk_model.specs.Desks.{Flush}

pub same_hand : {a b : FlushInHand} {o : Option FlushInHand} → o ≡ Some a → o ≡ Some b → a ≡ b
same_hand one two = let all : Some _ ≡ Some _ = sym one ∙ two in (cc)

pub no_hand : {a : FlushInHand} {o : Option FlushInHand} → o ≡ Some a → o ≡ None → ⊥
no_hand one none = let all : Some _ ≡ None = sym one ∙ none in (cc)

pub same_flush : {a b : Flush} {o : Option Flush} → o ≡ Some a → o ≡ Some b → a ≡ b
same_flush one two = let all : Some _ ≡ Some _ = sym one ∙ two in (cc)
