-- A batch that is applied: that a store can, and what it comes to.
use Rattle.std.specs.Prelude.{◌≡◌, ◌≢◌, ◌⊎◌, ℕ, ◌+◌, ◌<◌, ◌≤◌, Bool, true, false, List, [], ◌∷◌, length, is_some, replicate, Option, Some, None, Result, Ok, IsTrue, refl}
use Rattle.std.proofs.Common.{arith, ap, sym, ◌∙◌, subst, inl, inr, append-nil}
use Rattle.std.proofs.lemmas.List.{length-replicate}
use Rattle.std.specs.FinMap as fin
use Rattle.size_class.specs.declared.TheConstants.{SIZE_MAX}
use Rattle.slot_codec.proofs.CapLaws.{cap-low}
use Rattle.map_model.specs.Maps.{Map}
use Rattle.map_model.specs.Requests.{Change}
use Rattle.extent_table.specs.declared.spot.Spot.{Spot}
use Rattle.segment_layout.specs.Books.{Book, book_end, version_of}
use Rattle.table_rules.specs.Opening.{Opens}
use Rattle.table_rules.specs.Sequences.{HasSequenceUpTo}
use Rattle.table_rules.proofs.SequenceLaws.{sequence_wider}
use Rattle.placement_model.specs.Reads.{EndWithin, read_at}
use Rattle.placement_model.proofs.LaidOutLaws.{laid_within}
use Rattle.store_model.proofs.SizedLaws.{sized_read, sized_len}
use Rattle.store_model.specs.Connection.{StoreValue, base_of, live_cap}
use Rattle.store_model.proofs.OverLaws.{kept_image, same_itself}
use Rattle.store_model.proofs.StoreLaws.{now_lies}
use Rattle.batch_model.specs.Batches.{IsBatch, applied, batch_name, batch_text}
use Rattle.batch_model.specs.Fits.{counted_misfit, made, misfit}
use Rattle.batch_model.proofs.CountLaws.{counted_is}
use Rattle.batch_model.proofs.FitLaws.{never_unfit}
use Rattle.batch_model.proofs.MadeLaws.{few_made}
use Rattle.batch_model.proofs.ViewLaws.{leaves_batch}
use Rattle.batch_core.specs.Answers.{HasFit, IsBatchDone, IsBegun}
use Rattle.batch_core.specs.declared.fault.BatchFault.{BatchFault}
use Rattle.batch_core.specs.Doing.{Batch, CanApply, CanBegin, CanDo, CanGo, IsBatchMap, IsKeptNow, begun, misfit_in, worn_from}
use Rattle.batch_core.specs.Going.{Goes, Going, Stops, most_after}
use Rattle.batch_core.specs.Making.{OpensAs, OpensToLast}
use Rattle.batch_core.specs.StoresOn.{StandsFor, StoreOn, state_on}
use Rattle.batch_core.proofs.DoLaws.{same_cap}
use Rattle.batch_core.proofs.FitsLaws.{counts_of}
use Rattle.batch_core.proofs.GoesLaws.{can_go_then}
use Rattle.batch_core.proofs.RequestLaws.{sized_live}

-- ---- a map that a store stands for

-- a file with a byte wherever the store has one
abbrev blank : StoreValue → List ℕ
blank s = replicate (base_of s + book_end s.in_use.block.k s.book) 0

-- there is one on any disk
pub stands_some : {classes : ℕ} (x : StoreOn) → CanGo classes x → (m : Map) × StandsFor x m
stands_some {classes} x go = by x.disk.tells refl
  where
    s : StoreValue
    s = x.store

    within : EndWithin (base_of s) (blank s) s.now
    within =
        let long : length (blank s) ≡ base_of s + book_end s.in_use.block.k s.book =
        length-replicate {A = ℕ} (base_of s + book_end s.in_use.block.k s.book) 0 in
        laid_within classes SIZE_MAX s.in_use.block.k s.book.caps s.book.grid s.now go.sound.now
        (base_of s) (blank s) (omega (arith, long))

    by : (tells : Bool) → x.disk.tells ≡ tells → (m : Map) × StandsFor x m
    by true is = (
      (state_on x).map,
      record {
        sized = sized_read (base_of s) x.disk.file s.now go.sound.now.named
            (now_lies s x.disk.file go.sound (go.over.over go.whole (subst IsTrue (sym is) refl)));
        told = λ told. refl;
      },
    )
    by false is = (
      read_at (base_of s) (blank s) s.now,
      record {
        sized = sized_read (base_of s) (blank s) s.now go.sound.now.named within;
        told = λ told. absurd (let bad : IsTrue false = subst IsTrue is told in cc);
      },
    )

-- a name that the store hasn't, the map hasn't
pub stands_absent : (x : StoreOn) (m : Map) (name : List ℕ) → StandsFor x m
    → fin.get x.store.now name ≡ None → fin.get m name ≡ None
stands_absent x m name stands none = by (fin.get m name) refl
  where
    by : (o : Option (List ℕ)) → fin.get m name ≡ o → fin.get m name ≡ None
    by None e = e
    by (Some object) e = absurd (let bad : true ≡ false = sym (ap is_some e)
        ∙ sized_live m x.store.now name stands.sized ∙ ap is_some none in cc)

-- and the other way
pub absent_stands : (x : StoreOn) (m : Map) (name : List ℕ) → StandsFor x m
    → fin.get m name ≡ None → fin.get x.store.now name ≡ None
absent_stands x m name stands none = by (fin.get x.store.now name) refl
  where
    by : (o : Option Spot) → fin.get x.store.now name ≡ o → fin.get x.store.now name ≡ None
    by None e = e
    by (Some spot) e = absurd (let bad : true ≡ false = sym (ap is_some e)
        ∙ sym (sized_live m x.store.now name stands.sized) ∙ ap is_some none in cc)

-- ---- what fits

-- by the names of the store and their count a batch fits its map
pub fits_map : (x : StoreOn) (m : Map) (changes : List Change) (text : List ℕ) → StandsFor x m
    → IsBatch text changes
    → misfit_in false x.store changes ≡ misfit false (live_cap x.store) m changes
fits_map x m changes text stands batch =
    (λ i. counted_misfit false (live_cap x.store) (λ name. sym (sized_live m x.store.now name stands.sized) i)
    (sym (sized_len m x.store.now stands.sized) i) changes)
    ∙ counted_is false (live_cap x.store) m changes batch.rises

text_none : (changes : List Change) → changes ≡ [] → batch_text changes ≡ []
text_none changes is = ap batch_text is

pub can_apply : {classes : ℕ} (x : StoreOn) (text : List ℕ) → CanGo classes x
    → fin.get x.store.now batch_name ≡ None → (fit : HasFit false x.store text) → text ≢ []
    → x.store.in_use.sequence < worn_from → (m : Map) → StandsFor x m
    → CanApply classes x text (record { text = text; changes = fit.changes; map = m })
can_apply x text go free fit some early m stands = record {
  go = go;
  same_text = refl;
  batch = fit.batch;
  some = λ none. some (fit.batch.whole ∙ append-nil (batch_text fit.changes) ∙ text_none fit.changes none);
  free = stands_absent x m batch_name stands free;
  stands = stands;
  fits = sym (fits_map x m fit.changes text stands fit.batch) ∙ fit.fits;
  early = early;
}

-- ---- room for the requests

-- a batch that fits makes few requests
few_requests : {classes : ℕ} (x : StoreOn) (again : Bool) (b : Batch) → CanGo classes x
    → IsBatch b.text b.changes → b.changes ≢ [] → misfit again (live_cap x.store) b.map b.changes ≡ None
    → made b.changes b.map ≤ 131072
few_requests x again b go batch some fits =
    let counts = counts_of again (live_cap x.store) b.map b.changes fits some in
    omega (
      arith,
      few_made b.changes b.map batch.rises,
      counts [] b.changes refl,
      counts b.changes [] (sym (append-nil b.changes)),
      cap-low x.store.in_use.block.names (version_of x.store.book),
      go.sound.block.names_high,
    )

-- also one of no changes
pub few_made_by : {classes : ℕ} (x : StoreOn) (again : Bool) (b : Batch) → CanGo classes x
    → IsBatch b.text b.changes → misfit again (live_cap x.store) b.map b.changes ≡ None
    → made b.changes b.map ≤ 131072
few_made_by {classes} x again b go batch fits = by b.changes refl
  where
    by : (cs : List Change) → b.changes ≡ cs → made b.changes b.map ≤ 131072
    by [] is = omega (arith, ap (λ (xs : List Change). made xs b.map) is)
    by (c ∷ cs) is = few_requests x again b go batch
        (λ none. let bad : c ∷ cs ≡ [] = sym is ∙ none in cc) fits

module _ {classes : ℕ} (x : StoreOn) (text : List ℕ) (b : Batch) (can : CanApply classes x text b) where
  pub apply_begin : CanBegin classes x text b
  apply_begin = record {
    go = can.go;
    same_text = can.same_text;
    batch = can.batch;
    free = can.free;
    stands = can.stands;
    room = counts_of false (live_cap x.store) b.map b.changes can.fits can.some [] b.changes refl;
    early = omega (arith, can.early);
  }

  own : IsBatch b.text b.changes
  own = subst (λ (t : List ℕ). IsBatch t b.changes) (sym can.same_text) can.batch

  pub apply_do : (y : StoreOn) → Goes classes (IsBatchMap b) x y (begun b) → CanDo classes y text b
  apply_do y first = record {
    go = can_go_then (IsBatchMap b) x y y _ first;
    same_text = can.same_text;
    batch = can.batch;
    free = can.free;
    stands = first.stands;
    fits = subst (λ (n : ℕ). misfit true n b.map b.changes ≡ None)
        (sym (same_cap (IsBatchMap b) x y _ first))
        (never_unfit (live_cap x.store) b.map [] b.changes can.batch.rises can.fits);
    early = omega (arith, first.reach, can.early, few_made_by x false b can.go own can.fits);
  }

-- ---- what it comes to

module _ {classes : ℕ} (x y : StoreOn) (b : Batch) (batch : IsBatch b.text b.changes)
    (free : fin.get b.map batch_name ≡ None) (g : Going) (same : g.map ≡ applied b.changes b.map)
    (told : IsTrue x.disk.tells) where
  pub batch_done : Goes classes (IsBatchMap b) x y g → g.made ≤ 131076 → IsKeptNow y.store
      → IsBatchDone classes b g.requests x y
  batch_done first few kept =
      let told_now : IsTrue y.disk.tells = subst IsTrue (sym first.frame.stays.told) told in
      let over = first.over.over first.unbroken told_now in
      let now : (state_on y).map ≡ applied b.changes b.map = first.stands.told told_now ∙ same in
      record {
        ran = first.ran told;
        same_map = now;
        kept = ap (read_at (base_of y.store) y.disk.file) kept.0 ∙ now;
        kept_book = kept.1;
        block = first.block;
        same_cap = same_cap (IsBatchMap b) x y g first;
        reach = omega (arith, first.reach, few);
        gone = leaves_batch b.changes b.map batch.parts ∙ free;
        opens = record { table = over.table; opens = over.checkpoint.opens };
        rests = first.rests told;
        all = λ rest image may. (kept_image y.store first.sound y.disk.file over image
            (first.rests told rest image may)).opens;
      }

  -- the content's sequence is that of the store
  low_now : Goes classes (IsBatchMap b) x y g → HasSequenceUpTo (most_after x) y.disk.file
  low_now first =
      let told_now : IsTrue y.disk.tells = subst IsTrue (sym first.frame.stays.told) told in
      sequence_wider y.store.in_use.sequence (most_after x) y.disk.file first.most
      (kept_image y.store first.sound y.disk.file (first.over.over first.unbroken told_now) y.disk.file
      (same_itself (base_of y.store) y.store.kept y.disk.file)).sequence

  pub goes_begun : (result : Result Bool BatchFault) → Goes classes (IsBatchMap b) x y g → g.made ≤ 131076
      → IsKeptNow y.store → IsBegun classes b g.requests x y result
  goes_begun result first few kept = record {
    done = λ ok. batch_done first few kept;
    left = first.left told;
    content = record {
      opens = elim (first.kept told) as (λ _. OpensToLast classes x y.disk.file
          ⊎ ((m : Map) × IsBatchMap b m × OpensAs classes (version_of x.store.book) m y.disk.file)) [
            | inl before ↦ inl (subst
                (λ (m : Map). Opens classes SIZE_MAX y.disk.file m x.store.kept_book) before.0
                (subst (λ (k : Book). Opens classes SIZE_MAX y.disk.file (state_on y).kept k) before.1
                (batch_done first few kept).opens))
            | inr such ↦ inr (
              (state_on y).kept,
              such.0,
              record {
                book = y.store.kept_book;
                opens = (batch_done first few kept).opens;
                same_version = such.1;
              },
            )
          ];
      sequence = low_now first;
    };
  }

  pub stops_begun : (result : Result Bool BatchFault) → result ≢ Ok true
      → Stops classes (IsBatchMap b) x y → IsBegun classes b g.requests x y result
  stops_begun result other stops = record {
    done = λ ok. absurd (other ok);
    left = stops.left told;
    content = stops.content told;
  }
