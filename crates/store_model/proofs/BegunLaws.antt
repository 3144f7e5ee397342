-- A change that isn't quiet was made in the table and the layout: a flush may begin.
use Rattle.std.specs.Prelude.{◌≡◌, ◌⊎◌, ℕ, ◌+◌, ◌^◌, ◌<◌, ◌≤◌, Bool, false, cond, is_some, List, ◌++◌, fold, length, Option, Some, None, IsSome}
use Rattle.std.proofs.Common.{arith, sym, ◌∙◌, ap, subst, inl, inr}
use Rattle.std.proofs.lemmas.Bool.{cases_Bool, cond-false, cond-true}
use Rattle.std.proofs.lemmas.List.Sums.{fold-append}
use Rattle.std.specs.FinMap as fin
use Rattle.size_class.specs.Classes.{class_of}
use Rattle.size_class.specs.declared.TheConstants.{SIZE_MAX}
use Rattle.slot_codec.specs.Choice.{Digests}
use Rattle.slot_codec.specs.Names.{IsName}
use Rattle.map_model.proofs.MapLaws.{get-remove_here, insert-remove, name_order}
use Rattle.segment_layout.specs.Books.{is_quiet, some_size}
use Rattle.segment_layout.specs.Shapes.{end_of}
use Rattle.extent_table.specs.declared.spot.Spot.{Spot}
use Rattle.extent_table.specs.Extents.{Extents, Spots}
use Rattle.placement_model.specs.Quiet.{PlacedTo}
use Rattle.flush_model.specs.Phases.{PlanState}
use Rattle.flush_model.specs.Plans.{numbers_of}
use Rattle.flush_run.specs.Hands.{suffix_items}
use Rattle.flush_run.specs.Shelved.{phase_now}
use Rattle.flush_plan.specs.Shelves.{course_of}
use Rattle.flush_run.specs.Parts.{HandsValue, saved_digests}
use Rattle.placement_model.specs.Tried.{between, new_charged}
use Rattle.store_model.specs.Charging.{PlacesNew}
use Rattle.store_model.specs.Starts.{IsLoud, IsWith, IsWithout}
use Rattle.store_model.proofs.LaidEndLaws.{end_small, most_end}
use Rattle.store_model.specs.Digested.{IsDigestFor}
use Rattle.store_model.specs.Flushing.{CanStartAt, IsBegun, NeedsFlushAt, IsStarted, MayBegin, StartsPlaced, StartsWaiting, TakesOut}
use Rattle.store_model.specs.Quiet.{added, del_of, put_of, sizes_at}
use Rattle.store_model.proofs.ChargedLaws.{ChargesTo, can_start_at, started_at, is_loud, places_here}
use Rattle.store_model.proofs.StartingLaws.{HasDigest, del_starts, begun_removed, put_starts, begun_placed, placed_low, wait_starts, wait_some, wait_high, begun_waiting}

module _ {classes : ℕ} {kept_grid : List (List ℕ)} {x0 : HandsValue} (may : MayBegin classes kept_grid x0)
    (name : List ℕ) where
  abbrev k : ℕ
  k = x0.in_use.block.k

  abbrev old : Option Spot
  old = fin.get x0.table.now name

  -- ---- from the steps of the change

  -- once the name is gone there is room for it
  pub room_for : (gone : Extents) → IsWithout name x0.table gone
      → IsSome (fin.get x0.table.now name) ⊎ (fin.len x0.table.now < x0.table.cap)
      → fin.len gone.now < gone.cap
  room_for gone without room =
      let m = x0.table.now in
      let r = fin.remove m name in
      let s : Spot = record { place = 0; size = 0 } in
      let one : fin.len (fin.insert r name s) ≡ fin.len r + 1 = fin.len-insert name_order r name s
      ∙ cond-false (fin.contains_key r name) (fin.len r) (fin.len r + 1)
      (ap is_some (get-remove_here m name)) in
      let two : fin.len (fin.insert r name s) ≡ cond (fin.contains_key m name) (fin.len m) (fin.len m + 1) =
      ap (λ (x : Spots). fin.len x) (insert-remove m name s) ∙ fin.len-insert name_order m name s in
      let few = may.few in
      let len = ap (λ (x : Spots). fin.len x) without.now in
      let all_live : gone.cap ≡ x0.table.cap = without.cap in
      elim room as (λ _. fin.len gone.now < gone.cap) [
        | inl there ↦ omega (
          arith,
          one,
          two,
          cond-true (fin.contains_key m name) (fin.len m) (fin.len m + 1) there,
          few,
          len,
          all_live,
        )
        | inr low ↦ elim (cases_Bool (fin.contains_key m name)) as (λ _. fin.len gone.now < gone.cap) [
          | inl held ↦ omega (
            arith,
            one,
            two,
            cond-true (fin.contains_key m name) (fin.len m) (fin.len m + 1) held,
            low,
            len,
            all_live,
          )
          | inr absent ↦ omega (
            arith,
            one,
            two,
            cond-false (fin.contains_key m name) (fin.len m) (fin.len m + 1) absent,
            low,
            len,
            all_live,
          )
        ]
      ]

  pub end_is_low : end_of k x0.caps ≤ most_end
  end_is_low = end_small classes SIZE_MAX k x0.caps x0.grid x0.table.now may.before.both.now_laid
      x0.in_use.block.names may.before.block.divisor_low may.before.block.names_high may.before.small
      (omega (arith, may.before.table.now_room, may.before.names))

  module _ (x1 : HandsValue) (out : TakesOut name x0 x1) where
    rest_divisor : x1.divisor ≡ x0.divisor
    rest_divisor = ap (λ (x : HandsValue). x.divisor) out.rest

    rest_caps : x1.caps ≡ x0.caps
    rest_caps = ap (λ (x : HandsValue). x.caps) out.rest

    rest_grid : x1.grid ≡ x0.grid
    rest_grid = ap (λ (x : HandsValue). x.grid) out.rest

    -- ---- a removal

    module _ (o : Option Spot) (o_is : o ≡ old) (k2 : ℕ) (caps2 : List ℕ) (after : List (List ℕ))
        (gone : Bool) (place : Option ℕ) (class b : ℕ)
        (ch : ChargesTo x1 o 0 k2 caps2 after gone place class b)
        (needs_flush : NeedsFlushAt x0 name 0) where
      del_loud : IsLoud k x0.caps x0.grid old 0 after b
      del_loud = is_loud may name x1 rest_divisor rest_caps rest_grid o o_is 0 k2 caps2 after gone
          place class b ch needs_flush

      del_k : k2 ≡ k
      del_k = ch.divisor ∙ rest_divisor ∙ may.divisor

      del_caps : caps2 ≡ x0.caps
      del_caps = ch.caps_are ∙ rest_caps

      pub del_ready : CanStartAt classes b k2 caps2 after x1.table
      del_ready = can_start_at kept_grid x0 x1.spans
          (del_starts may name x1.table x1.spans x1.asked out.without out.frees after b del_loud) del_k
          del_caps

      pub del_begun : (p : PlanState) → IsStarted b k2 caps2 x1.table p
          → IsBegun classes x0 (del_of name) (record x1 { divisor = k2; caps = caps2; grid = after }) p 0
      del_begun p st = subst (λ (y : HandsValue). IsBegun classes x0 (del_of name) y p 0)
          (sym ((λ i. record x1 { divisor = ch.divisor i; caps = ch.caps_are i; grid = after })
          ∙ ap (λ (y : HandsValue). record y { grid = after }) out.rest))
          (begun_removed may name x1.table x1.spans x1.asked out.without out.frees after b del_loud p
          (started_at del_k del_caps st) out.asked out.digests)

    -- ---- a put

    module _ (is : IsName name) (object : List ℕ) (small : length object ≤ SIZE_MAX) (moved asked : List ℕ)
        (moved_is : moved ≡ x1.moved) (asked_is : asked ≡ fold added x1.asked (some_size (length object)))
        (o : Option Spot) (o_is : o ≡ old) (k2 : ℕ) (caps2 : List ℕ) (after : List (List ℕ)) (gone : Bool)
        (place : Option ℕ) (class b : ℕ)
        (ch : ChargesTo x1 o (length object) k2 caps2 after gone place class b)
        (needs_flush : NeedsFlushAt x0 name (length object)) where
      abbrev object_len : ℕ
      object_len = length object

      put_loud : IsLoud k x0.caps x0.grid old object_len after b
      put_loud = is_loud may name x1 rest_divisor rest_caps rest_grid o o_is object_len k2 caps2 after gone
          place class b ch needs_flush

      put_k : k2 ≡ k
      put_k = ch.divisor ∙ rest_divisor ∙ may.divisor

      put_caps : caps2 ≡ x0.caps
      put_caps = ch.caps_are ∙ rest_caps

      put_places : PlacesNew k x0.caps (between k x0.caps x0.grid old) object_len after place
      put_places = places_here may name x1 rest_divisor rest_caps rest_grid o o_is object_len k2 caps2 after
          gone place class b ch needs_flush

      put_sums : asked ≡ fold added x0.asked (sizes_at old ++ some_size object_len)
      put_sums = asked_is ∙ ap (λ (a : List ℕ). fold added a (some_size object_len)) out.asked
          ∙ sym (fold-append added x0.asked (sizes_at old) (some_size object_len))

      digest_is : (put : Extents) (digest : List ℕ) → put.digests ≡ fin.insert x1.table.digests name digest
          → IsDigestFor (saved_digests x0) object digest → HasDigest x0 name object put
      digest_is put digest same own = record {
        digest = digest;
        same = same ∙ ap (λ (d : Digests). fin.insert d name digest) out.digests
            ∙ insert-remove x0.table.digests name digest;
        own = own;
      }

      abbrev charged_parts : HandsValue
      charged_parts = record x1 { divisor = k2; caps = caps2; grid = after; moved = moved; asked = asked }

      charged_is : charged_parts ≡ record x0 {
        table = x1.table;
        grid = after;
        spans = x1.spans;
        asked = asked;
      }
      charged_is = (λ i. record x1 {
        divisor = ch.divisor i;
        caps = ch.caps_are i;
        grid = after;
        moved = moved_is i;
        asked = asked;
      }) ∙ ap (λ (y : HandsValue). record y { grid = after; asked = asked }) out.rest

      -- whose object found room
      module _ (at : ℕ) (found : place ≡ Some at) where
        put_placed : PlacedTo k x0.caps (between k x0.caps x0.grid old) object_len after at
        put_placed = subst (PlacesNew k x0.caps (between k x0.caps x0.grid old) object_len after)
            found put_places

        pub placed_ready : (key : ℕ) (put : Extents)
            → IsWith name (record { place = at; size = object_len }) key x1.table put
            → CanStartAt classes b k2 caps2 after put
        placed_ready key put joins = can_start_at kept_grid x0 x1.spans
            (put_starts may name x1.table x1.spans asked out.without out.frees after b is object small
            put_loud at put_placed key put joins) put_k put_caps

        pub placed_ends : at + object_len < 2 ^ 48
        placed_ends = omega (
          arith,
          placed_low may name x1.table x1.spans asked out.without out.frees after b is object small
              put_loud at put_placed,
          end_is_low,
        )

        pub placed_begun : (x : HandsValue) (p : PlanState) (at2 : ℕ) → at2 ≡ at
            → {digest : List ℕ}
            → StartsPlaced b name digest (record { place = at; size = object_len }) charged_parts x p
            → IsDigestFor (saved_digests x0) object digest → fin.len x1.table.now < x1.table.cap
            → IsBegun classes x0 (put_of name object) x p at2
        placed_begun x p at2 same {digest} st own room =
            subst (λ (n : ℕ). IsBegun classes x0 (put_of name object) x p n)
            (sym same) (subst (λ (y : HandsValue). IsBegun classes x0 (put_of name object) y p at)
            (sym (st.rest ∙ ap (λ (y : HandsValue). record y { table = x.table }) charged_is))
            (begun_placed may name x1.table x1.spans asked out.without out.frees after b is object small
            put_loud at put_placed st.key x.table st.joins p (started_at put_k put_caps st.started) put_sums
            (digest_is x.table digest st.digests own) room))

      -- whose object waits
      module _ (found : place ≡ None) where
        put_missed : is_quiet (new_charged k x0.caps (between k x0.caps x0.grid old) object_len) ≡ false
        put_missed = (subst (PlacesNew k x0.caps (between k x0.caps x0.grid old) object_len after) found
            put_places).0

        pub waiting_ready : CanStartAt classes b k2 caps2 after x1.table
        waiting_ready = can_start_at kept_grid x0 x1.spans
            (wait_starts may name x1.table x1.spans asked out.without out.frees after b is object small
            put_loud put_missed)
            put_k put_caps

        pub waiting_some : 1 ≤ object_len
        waiting_some = wait_some may name x1.table x1.spans asked out.without out.frees after b is object
            small put_loud put_missed

        pub waiting_high : b ≤ class_of object_len
        waiting_high = wait_high may name x1.table x1.spans asked out.without out.frees after b is object
            small put_loud put_missed

        pub waiting_new : fin.get x1.table.now name ≡ None
        waiting_new = ap (λ (m : Spots). fin.get m name) out.without.now ∙ get-remove_here x0.table.now name

        pub waiting_begun : (x : HandsValue) (p : PlanState) (at : ℕ)
            → {digest : List ℕ} → StartsWaiting b name digest object_len at charged_parts x p
            → IsDigestFor (saved_digests x0) object digest → fin.len x1.table.now < x1.table.cap
            → IsBegun classes x0 (put_of name object) x p at
        waiting_begun x p at {digest} st own room =
            subst (λ (y : HandsValue). IsBegun classes x0 (put_of name object) y p at)
            (sym (st.rest ∙ ap (λ (y : HandsValue). record y { table = x.table }) charged_is))
            (begun_waiting may name x1.table x1.spans asked out.without out.frees after b is object small
            put_loud put_missed at st.key x.table st.joins p
            (st.value ∙ (λ i. phase_now (course_of (put_k i) (put_caps i)
            (numbers_of (put_k i) (put_caps i) b (suffix_items b x1.table) object_len) object_len) x.table))
            st.ends put_sums (digest_is x.table digest st.digests own) room)
