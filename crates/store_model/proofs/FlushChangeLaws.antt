-- A change that isn't quiet, from the store before to the one after its flush.
use Rattle.std.specs.Prelude.{◌≡◌, ℕ, ◌+◌, ◌-◌, ◌*◌, ◌≤◌, ◌<◌, ◌^◌, true, false, List, Option, Some, None, Ok, Err, IsTrue, refl}
use Rattle.std.proofs.Common.{ap, arith, sym, ◌∙◌, subst, inl, inr}
use Rattle.std.specs.FinMap as fin
use Rattle.disk_face.specs.States as disk
use Rattle.disk_face.specs.Counts.{HasCause}
use Rattle.size_class.specs.Rows.{cells_of}
use Rattle.slot_codec.specs.Names.{IsName}
use Rattle.logged_pair.specs.Slots.{used_in}
use Rattle.map_model.specs.Requests as ask
use Rattle.map_model.specs.Requests.{Change}
use Rattle.segment_layout.specs.Books.{is_quiet}
use Rattle.flush_model.specs.Phases.{PlanState}
use Rattle.flush_run.specs.declared.hands.Hands.{Hands}
use Rattle.flush_run.specs.Calls.{CallsSoFar}
use Rattle.flush_run.specs.FlushFrames.{LeavesOldOrNew}
use Rattle.flush_run.specs.Parts.{HandsValue, parts_of}
use Rattle.flush_run.specs.Settling.{FlushEnds}
use Rattle.store_model.specs.declared.answers.Refusal.TheVariants as why
use Rattle.store_model.specs.Answers.{facts_at, refused_by}
use Rattle.store_model.specs.Connection.{IsConnected, IsOver, StoreValue, limits_of}
use Rattle.store_model.specs.Flushes.{ServesChange}
use Rattle.store_model.specs.Flushing.{BeforeChange, CanMakeFlush, HasMadeFlush, IsBegun, bytes_of, flight_of, lift_start}
use Rattle.store_model.specs.Inside.{Inside, IsWhole, kept_of}
use Rattle.store_model.specs.Quiet.{charges_of}
use Rattle.store_model.specs.States.{refusal}
use Rattle.store_model.proofs.FlushDoneLaws.{done_over, done_seen, done_whole, failed_seen, step_seen}
use Rattle.store_model.proofs.FlushLaws.{some_flight}
use Rattle.store_model.proofs.MadeFlushLaws.{IsFlown}
use Rattle.store_model.proofs.PlanLaws.{del_served, put_served}
use Rattle.store_model.proofs.ServeLaws.{serves_flushed}

-- What is known of a store that serves a change, be it a put or a removal.
pub record IsServed (s : StoreValue) (c : Change) : Type 0 where
  pub whole : s.is_broken ≡ false
  pub named : IsName c.name
  pub fresh : s.in_use.sequence < 2 ^ 61
  pub calm : refusal (limits_of s) (facts_at s (ask.change c)) (ask.change c) ≡ None

pub is_served : (s : StoreValue) (c : Change) → refused_by s (ask.change c) ≡ None → IsServed s c
is_served s c = by c.object
  where
    by : (o : Option (List ℕ)) → refused_by s (ask.change (record { name = c.name; object = o })) ≡ None
        → IsServed s (record { name = c.name; object = o })
    by None is =
        let d = del_served s c.name is in
        record { whole = d.whole; named = d.named; fresh = d.fresh; calm = d.calm }
    by (Some object) is =
        let p = put_served s c.name object is in
        record { whole = p.whole; named = p.named; fresh = p.fresh; calm = p.calm }

module _ {C : ℕ} (s : Inside C) (t : StoreValue) (is : kept_of s ≡ t) (whole : IsWhole s) (c : Change)
    (served : refused_by t (ask.change c) ≡ None) (a : disk.State) (over : IsConnected C t a)
    (hands1 : Hands C) (p : PlanState) (place : ℕ) (bytes : List ℕ)
    (begun : IsBegun C (parts_of s.hands) c (parts_of hands1) p place) (object : bytes_of c ≡ bytes) where
  can : IsServed t c
  can = is_served t c served

  unbroken : s.broken ≡ false
  unbroken = ap (λ (x : StoreValue). x.is_broken) is ∙ can.whole

  fresh : (used_in s.hands.slots).sequence < 2 ^ 61
  fresh = omega (arith, can.fresh, ap (λ (x : StoreValue). x.in_use.sequence) is)

  over_here : IsTrue a.tells → IsOver C (kept_of s) a.file
  over_here told = subst (λ (x : StoreValue). IsOver C x a.file) (sym is) (over.over can.whole told)

  pub flush_can_run : (x : HandsValue) × (e : Change) × (g : BeforeChange)
      × CanMakeFlush C x e g (parts_of hands1) (lift_start p place) bytes a
  flush_can_run =
      let any = some_flight s whole unbroken c (parts_of hands1) p place bytes begun can.named object fresh a
      over_here in
      (parts_of s.hands, c, any.0, any.1)

  module _ (hands2 : Hands C) (d : disk.State)
      (left : (x : HandsValue) (e : Change) (g : BeforeChange)
      → CanMakeFlush C x e g (parts_of hands1) (lift_start p place) bytes a
      → IsTrue a.tells → LeavesOldOrNew (flight_of C x e p.numbers.reach g)
      ((used_in hands2.slots).sequence + 1) a d)
      (made : HasMadeFlush p.numbers.boundary p.items a d (parts_of hands1) (parts_of hands2))
      (needs_flush : is_quiet (charges_of t c) ≡ false) where
    flown : IsFlown s c hands1 p place bytes hands2 a d
    flown = record {
      whole = whole;
      unbroken = unbroken;
      begun = begun;
      name = can.named;
      object = object;
      fresh = fresh;
      over = over_here;
      left = left;
      made = made;
    }

    pub flush_failed : {E : Type 0} (fault : E) → HasCause {T = Unit {0}} a.faults d.faults (Err fault)
        → ServesChange C c t (kept_of (record s {
          hands = hands2;
          kept_layout = hands2.layout;
          broken = true;
        })) a d (Err why.Disk)
    flush_failed fault cause = serves_flushed needs_flush (inr refl)
        (failed_seen s c hands1 p place bytes hands2 a d flown t is why.Disk fault cause) (λ told. tt)
        (record { idle = refl; over = λ sound. absurd (cc) }) refl

    module _ (ends : (x : HandsValue) (e : Change) (g : BeforeChange)
        → CanMakeFlush C x e g (parts_of hands1) (lift_start p place) bytes a
        → FlushEnds C (flight_of C x e p.numbers.reach g) (parts_of hands2) d)
        (low : (used_in hands1.slots).sequence + 1 ≤ (used_in hands2.slots).sequence)
        (high : (used_in hands2.slots).sequence ≤ (used_in hands1.slots).sequence
        + 2 * (used_in hands1.slots).block.k)
      where
        pub flush_done_whole : IsWhole (record s { hands = hands2; kept_layout = hands2.layout })
        flush_done_whole = done_whole s c hands1 p place bytes hands2 a d flown ends low high

        pub flush_done : {E : Type 0}
            → CallsSoFar a.turn d.turn (cells_of hands1.ledger.moved) (cells_of hands2.ledger.moved) 4
            ((used_in hands2.slots).sequence - (used_in hands1.slots).sequence) (fin.len hands1.table.now)
            → HasCause {T = Unit {0}} {E = E} a.faults d.faults (Ok tt)
            → ServesChange C c t (kept_of (record s { hands = hands2; kept_layout = hands2.layout })) a d
            (Ok (record { kept = true }))
        flush_done calls cause = serves_flushed needs_flush (inl refl)
            (done_seen s c hands1 p place bytes hands2 a d flown t is ends low high _ calls cause)
            (λ told. step_seen s c hands1 p place bytes hands2 a d flown t is ends low high told can.calm
            needs_flush)
            (record {
              idle = refl;
              over = λ sound told. done_over s c hands1 p place bytes hands2 a d flown ends low high
                  (sym made.keeps.disk.stays.told ∙ told);
            }) unbroken
