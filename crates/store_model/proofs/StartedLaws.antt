-- A change that isn't quiet, from the store's fields: what it needs to be made in the table and the layout.
use Rattle.std.specs.Prelude.{◌≡◌, ℕ, List, [], Bool, false, Option, None, length}
use Rattle.std.proofs.Common.{ap, sym, ◌∙◌, subst}
use Rattle.map_model.specs.Requests as ask
use Rattle.store_model.specs.declared.charge.ChargeResult.{ChargeResult}
use Rattle.segment_layout.specs.Books.{is_quiet}
use Rattle.segment_layout.specs.declared.layout.Layout.{Layout}
use Rattle.flush_run.specs.Parts.{parts_of}
use Rattle.flush_run.specs.declared.phase.Phase.{Phase}
use Rattle.store_model.specs.Answers.{refused_by}
use Rattle.store_model.specs.Inside.{Inside}
use Rattle.store_model.specs.Charges.{CanPut, ChargesParts, ChargesStore, change_of}
use Rattle.store_model.specs.Connection.{StoreValue}
use Rattle.store_model.specs.Flushing.{MayBegin, NeedsFlushAt}
use Rattle.store_model.specs.Quiet.{charges_of}
use Rattle.store_model.proofs.CopyChargesLaws.{can_put, change_loud, charges_parts}
use Rattle.store_model.proofs.FlushChangeLaws.{is_served}
use Rattle.store_model.proofs.FlushLaws.{may_begin}
use Rattle.store_model.proofs.InsideLaws.{AtRest}

-- What it needs to be made in the table and the layout.
pub record CanStart {C : ℕ} (s : Inside C) (name bytes : List ℕ) (comes : Bool) (layout : Layout C)
    (outcome : ChargeResult) : Type 0 where
  pub can : CanPut (parts_of s.hands) name bytes comes
  pub before : (kept_grid : List (List ℕ)) × MayBegin C kept_grid (parts_of s.hands)
  pub charged : ChargesParts (parts_of s.hands) name (length bytes) layout outcome
  pub loud : NeedsFlushAt (parts_of s.hands) name (length bytes)

pub can_start : {C : ℕ} {flush : Option (Phase C)} {s : Inside C} {t : StoreValue} {layout : Layout C}
    {outcome : ChargeResult} (r : AtRest flush s t) (name bytes : List ℕ) (comes : Bool)
    → (comes ≡ false → bytes ≡ []) → refused_by t (ask.change (change_of name bytes comes)) ≡ None
    → ChargesStore t name (length bytes) layout outcome
    → is_quiet (charges_of t (change_of name bytes comes)) ≡ false
    → CanStart s name bytes comes layout outcome
can_start {s = s} {t} {layout} {outcome} r name bytes comes nothing served charged needs_flush =
    let change = change_of name bytes comes in
    let unbroken : s.broken ≡ false = ap (λ (x : StoreValue). x.is_broken) r.view
    ∙ (is_served t change served).whole in
    record {
      can = can_put s r.whole unbroken name bytes comes nothing
          (subst (λ (x : StoreValue). refused_by x (ask.change change) ≡ None) (sym r.view) served);
      before = (_, may_begin s r.whole unbroken);
      charged = charges_parts s r.whole unbroken name bytes
          (subst (λ (x : StoreValue). ChargesStore x name (length bytes) layout outcome) (sym r.view)
          charged);
      loud = change_loud s r.whole unbroken name bytes comes nothing
          (subst (λ (x : StoreValue). is_quiet (charges_of x change) ≡ false) (sym r.view) needs_flush);
    }
