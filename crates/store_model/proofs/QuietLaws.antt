-- What a quiet put and a removal do, as steps and over a file.
use Rattle.std.specs.Prelude.{◌≡◌, ℕ, ◌+◌, ◌*◌, ◌≤◌, Bool, true, if◌then◌else◌, List, [], ◌++◌, fold, length, Option, None, refl}
use Rattle.std.proofs.Common.{arith, ap, sym, ◌∙◌, subst}
use Rattle.std.proofs.lemmas.List.{append-nil}
use Rattle.std.specs.FinMap as fin
use Rattle.byte_ranges.specs.Ranges.{SameOutside, overwritten}
use Rattle.byte_ranges.proofs.RangeLaws.{overwritten-outside}
use Rattle.size_class.specs.declared.TheConstants.{SIZE_MAX}
use Rattle.map_model.specs.Requests as ask
use Rattle.map_model.specs.Requests.{Change, changed}
use Rattle.map_model.specs.Maps.{Map}
use Rattle.segment_layout.specs.Books.{Book, digests_after, is_quiet, next_book, some_size, with_digests}
use Rattle.segment_layout.specs.Shapes.{end_of}
use Rattle.extent_table.specs.declared.spot.Spot.{Spot}
use Rattle.extent_table.specs.Extents.{Spots}
use Rattle.placement_model.specs.LaidOut.{shown_book}
use Rattle.placement_model.specs.Quiet.{QuietTo, gone_items}
use Rattle.placement_model.specs.Reads.{read_at}
use Rattle.placement_model.proofs.NextQuietLaws.{book_gone, book_put, next_quiet}
use Rattle.placement_model.proofs.ReadLaws.{read_at-put, read_at-remove}
use Rattle.store_model.specs.Connection.{IsOver, StoreValue, SameOnTable, base_of, limits_of, state_of}
use Rattle.store_model.specs.Changes.{ChangesQuietly}
use Rattle.store_model.specs.Plans.{IsDelPlan, IsPutPlan}
use Rattle.store_model.specs.Digested.{IsDigestFor, digested_book, digests_with}
use Rattle.store_model.specs.Quiet.{added, charges_of, del_of, put_of, sizes_at}
use Rattle.store_model.specs.States.{Facts, Limits, Served, State, Step, facts_of, no_saves, refusal, served}
use Rattle.store_model.specs.Stores.{IsStore}
use Rattle.store_model.proofs.DigestLaws.{next_with, quiet_with, with_own}
use Rattle.store_model.proofs.ChangeLaws.{apart_kept, apart_now, place_ends, with_now}
use Rattle.store_model.proofs.OverLaws.{checkpoint_again, kept_map_again, same_written}
use Rattle.store_model.proofs.PlanLaws.{DelServed, PutServed, charged_quietly, del_served, put_served}
use Rattle.store_model.proofs.StepLaws.{facts_same}
use Rattle.store_model.proofs.RequestLaws.{served_by, step_to}
use Rattle.store_model.proofs.StoreLaws.{now_lies}

-- ---- steps

-- a quiet change is a step to the map and the book of after
pub change_step : (limits : Limits) (s after : State) (c : Change)
    → refusal limits (facts_of s (ask.change c)) (ask.change c) ≡ None
    → (next_book limits.k s.map s.book c).quiet ≡ true → after.map ≡ changed c s.map → after.kept ≡ s.kept
    → after.book ≡ (next_book limits.k s.map s.book c).book → after.kept_book ≡ s.kept_book
    → after.sequence ≡ s.sequence → Step limits s (ask.change c) ask.done after
change_step limits s after c none quiet map kept book kept_book sequence =
    let next = next_book limits.k s.map s.book c in
    let m = changed c s.map in
    let is : served limits s (ask.change c) ≡ record {
      reply = ask.done;
      state = record s { map = m; book = next.book };
      saves = no_saves;
    } = served_by limits s (ask.change c) None none
    ∙ ap (λ (b : Bool). let r : Served = if b then record {
      reply = ask.done;
      state = record s { map = m; book = next.book };
      saves = no_saves;
    } else record {
      reply = ask.kept;
      state = record s { map = m; kept = m; book = next.book; kept_book = next.book };
      saves = record { least = 1; most = 2 * limits.k + 1 };
    } in r) quiet in
    step_to limits s after (ask.change c) _ is map kept book kept_book (omega (arith, sequence))
    (omega (arith, sequence))

-- a store with other places, in a layout of the same capacities, is over the same file
pub over_beside : {classes : ℕ} (s : StoreValue) (file : List ℕ) (now : Spots) (book : Book) (asked : List ℕ)
    → book.caps ≡ s.book.caps → IsOver classes s file
    → IsOver classes (record s { now = now; book = book; asked = asked }) file
over_beside s file now book asked caps o = record {
  table = o.table;
  checkpoint = record {
    slot = o.checkpoint.slot;
    records = o.checkpoint.records;
    opens = o.checkpoint.opens;
  };
  same_length = omega (arith, o.same_length, ap (end_of s.in_use.block.k) caps);
}

module _ {classes : ℕ} (s : StoreValue) (h : IsStore classes s) where
  abbrev k : ℕ
  k = s.in_use.block.k

  abbrev base : ℕ
  base = base_of s

  -- the book of a store by its layout
  abbrev shown : Book
  shown = shown_book classes SIZE_MAX k s.book.caps s.book.grid s.now

  -- ---- a put

  module _ (name object : List ℕ) (k' : ℕ) (caps : List ℕ) (grid : List (List ℕ)) (spot : Spot)
      (plan : IsPutPlan s name object name k' caps grid spot) where
    abbrev placed : Spot
    placed = record { place = spot.place; size = length object }

    spot_is : spot ≡ placed
    spot_is = λ i. record { place = spot.place; size = plan.size i }

    can : PutServed s name object
    can = put_served s name object plan.served

    quietly : QuietTo k s.book.caps s.book.grid
        (gone_items k s.book.caps (fin.get s.now name) ++ some_size (length object)) grid
    quietly = charged_quietly s name object grid spot.place plan.charged

    abbrev asked : List ℕ
    asked = fold added s.asked (sizes_at (fin.get s.now name) ++ some_size spot.size)

    abbrev digests : Option Map
    digests = digests_after (put_of name object) s.book.digests

    -- what the store is then
    abbrev put_store : StoreValue
    put_store = with_now classes s (fin.insert s.now name spot) digests grid asked

    -- with its own digest
    pub put_entered : (digest : List ℕ) → IsDigestFor s.book.digests object digest → (new : StoreValue)
        → new ≡ with_now classes s (fin.insert s.now name spot) (digests_with name digest s.book.digests) grid
        asked
        → new ≡ put_store
    put_entered digest own new is = is ∙ ap (λ (ds : Option Map). with_now classes s
        (fin.insert s.now name spot) ds grid asked) (with_own s.book.digests name object digest own)

    pub put_value : (new : StoreValue) → new ≡ put_store → ChangesQuietly classes (put_of name object) s new
    put_value new is = subst (ChangesQuietly classes (put_of name object) s) (sym is) (record {
      places = (spot.place, plan.charged, ap (λ (x : Spot). fin.insert s.now name x) spot_is);
      rest = λ i. record s {
        now = fin.insert s.now name spot;
        book = digested_book classes k s.book.caps (quietly.after_is i) (fin.insert s.now name spot)
            digests;
        asked = fold added s.asked (sizes_at (fin.get s.now name) ++ some_size (plan.size i));
      };
    })

    module _ (file b : List ℕ) (over : IsOver classes s file)
        (written : b ≡ overwritten file (base + spot.place) object) where
      fits : base + spot.place + length object ≤ length file
      fits = omega (
        arith,
        over.same_length,
        place_ends s h name (length object) spot.place grid plan.charged,
      )

      alike : SameOnTable base s.kept file b
      alike = same_written base spot.place (length object) s.kept file b
          (subst (λ (f : List ℕ). SameOutside (base + spot.place) (length object) file f) (sym written)
          (overwritten-outside file (base + spot.place) object fits))
          (apart_kept s h name (length object) spot.place grid plan.charged)

      pub put_over : (new : StoreValue) → new ≡ put_store → IsOver classes new b
      put_over new is =
          let c = checkpoint_again s h file over b alike in
          subst (λ (x : StoreValue). IsOver classes x b) (sym is) (record {
            table = over.table;
            checkpoint = record { slot = c.slot; records = c.records; opens = c.opens };
            same_length = alike.same_length ∙ over.same_length;
          })

      map_is : read_at base b (fin.insert s.now name spot) ≡ fin.insert (read_at base file s.now) name object
      map_is = (λ i. read_at base (written i) (fin.insert s.now name (spot_is i)))
          ∙ read_at-put base spot.place file object s.now name h.now.named can.named fits
          (now_lies s file h over)
          (apart_now s h name (length object) spot.place grid plan.charged)

      pub put_step : (new : StoreValue) → new ≡ put_store
          → Step (limits_of s) (state_of s file) (ask.change (put_of name object)) ask.done (state_of new b)
      put_step new is =
          let c = put_of name object in
          let m = read_at base file s.now in
          let laid = next_quiet classes SIZE_MAX k s.book.caps s.book.grid s.now h.now base file
          (now_lies s file h over) c in
          let book = book_put classes SIZE_MAX k s.book.caps s.book.grid s.now h.now base file
          (now_lies s file h over) name object plan.charged.mid grid spot.place can.named can.small
          plan.charged.gone plan.charged.placed in
          subst (λ (x : StoreValue). Step (limits_of s) (state_of s file) (ask.change c) ask.done
          (state_of x b))
          (sym is)
          (change_step (limits_of s) (state_of s file) (state_of put_store b) c
          (ap (λ (f : Facts). refusal (limits_of s) f (ask.change c))
          (facts_same s file (ask.change c) h.now.named h.kept.named) ∙ can.calm)
          (ap (λ (x : Book). (next_book k m x c).quiet) h.now_book
          ∙ quiet_with k m shown c s.book.digests ∙ laid ∙ quietly.quiet) map_is
          (kept_map_again s h file over b alike)
          (ap (λ (x : Spot). digested_book classes k s.book.caps grid (fin.insert s.now name x) digests)
          spot_is
          ∙ sym (ap (λ (x : Book). (next_book k m x c).book) h.now_book
          ∙ next_with k m shown c s.book.digests ∙ ap (λ (x : Book). with_digests digests x) book)) refl
          refl)

  -- ---- a removal

  module _ (name n : List ℕ) (k' : ℕ) (caps : List ℕ) (grid : List (List ℕ))
      (plan : IsDelPlan s name n k' caps grid) where
    gone_can : DelServed s name
    gone_can = del_served s name plan.served

    gone_quietly : QuietTo k s.book.caps s.book.grid
        (gone_items k s.book.caps (fin.get s.now name) ++ []) grid
    gone_quietly = subst (λ items. QuietTo k s.book.caps s.book.grid items grid)
        (sym (append-nil (gone_items k s.book.caps (fin.get s.now name)))) plan.charged

    -- what the store is then, by its name or by the plan's
    abbrev without : List ℕ → StoreValue
    without q = with_now classes s (fin.remove s.now q) (digests_after (del_of q) s.book.digests) grid
        (fold added s.asked (sizes_at (fin.get s.now q)))

    abbrev del_store : StoreValue
    del_store = without name

    pub del_value : (new : StoreValue) → new ≡ without n → ChangesQuietly classes (del_of name) s new
    del_value new is = subst (ChangesQuietly classes (del_of name) s)
        (sym (is ∙ ap without plan.same_name)) (record {
          places = refl;
          rest = λ i. record s {
            now = fin.remove s.now name;
            book = digested_book classes k s.book.caps (gone_quietly.after_is i) (fin.remove s.now name)
                (digests_after (del_of name) s.book.digests);
            asked = fold added s.asked (sym (append-nil (sizes_at (fin.get s.now name))) i);
          };
        })

    module _ (file : List ℕ) (over : IsOver classes s file) where
      pub del_step : (new : StoreValue) → new ≡ without n
          → Step (limits_of s) (state_of s file) (ask.change (del_of name)) ask.done (state_of new file)
      del_step new is =
          let c = del_of name in
          let m = read_at base file s.now in
          let laid = next_quiet classes SIZE_MAX k s.book.caps s.book.grid s.now h.now base file
          (now_lies s file h over) c in
          let book = book_gone classes SIZE_MAX k s.book.caps s.book.grid s.now h.now base file
          (now_lies s file h over) name grid plan.charged in
          subst (λ (x : StoreValue). Step (limits_of s) (state_of s file) (ask.change c) ask.done
          (state_of x file))
          (sym (is ∙ ap without plan.same_name))
          (change_step (limits_of s) (state_of s file) (state_of del_store file) c
          (ap (λ (f : Facts). refusal (limits_of s) f (ask.change c))
          (facts_same s file (ask.change c) h.now.named h.kept.named) ∙ gone_can.calm)
          (ap (λ (x : Book). (next_book k m x c).quiet) h.now_book
          ∙ quiet_with k m shown c s.book.digests ∙ laid ∙ gone_quietly.quiet)
          (read_at-remove base file s.now name h.now.named) refl
          (sym (ap (λ (x : Book). (next_book k m x c).book) h.now_book
          ∙ next_with k m shown c s.book.digests
          ∙ ap (λ (x : Book). with_digests (digests_after c s.book.digests) x) book)) refl refl)

-- whether a change is quiet is what the book says
pub quiet_by_book : (classes : ℕ) (s : StoreValue) (file : List ℕ) (c : Change) → IsStore classes s
    → IsOver classes s file → (next_book s.in_use.block.k (state_of s file).map s.book c).quiet
    ≡ is_quiet (charges_of s c)
quiet_by_book classes s file c h over =
    ap (λ (x : Book). (next_book s.in_use.block.k (state_of s file).map x c).quiet) h.now_book
    ∙ quiet_with s.in_use.block.k (state_of s file).map (shown_book classes SIZE_MAX s.in_use.block.k
    s.book.caps s.book.grid s.now) c s.book.digests
    ∙ next_quiet classes SIZE_MAX s.in_use.block.k s.book.caps s.book.grid s.now h.now (base_of s) file
    (now_lies s file h over) c
