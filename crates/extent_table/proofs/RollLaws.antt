-- The records of a table with their digests: without them they are those of the map, and in version 2 they
-- give the digests of the table.
use Rattle.std.proofs.Common.{◌≡◌, ℕ, zero, suc, ◌<◌, ◌≤◌, Bool, true, false, cond, List, [], ◌∷◌, ◌++◌, map, filter, length, Option, Some, None, is_some, option_map, refl, ap, sym, ◌∙◌, arith}
use Rattle.std.proofs.lemmas.Cmp.{nat_list_cmp_total, tied_itself}
use Rattle.std.proofs.lemmas.List.{length-map, map-append}
use Rattle.std.proofs.lemmas.Option.{slice_get-map}
use Rattle.std.specs.List.{slice_get}
use Rattle.std.specs.Ordering.{eq_by_cmp, is_eq, is_lt}
use Rattle.std.specs.FinMap as fin
use Rattle.std.specs.FinMap.{nat_cmp-IsAntisymmetric, slice_cmp-IsAntisymmetric}
use Rattle.slot_codec.specs.Names.{is_name, name_cmp}
use Rattle.slot_codec.specs.Choice.{Digests, digest_entry, digests_in, plain}
use Rattle.slot_codec.specs.Spelling.{digest_len, has_digests}
use Rattle.slot_codec.specs.declared.codec.Record.{Record}
use Rattle.extent_table.specs.declared.spot.Spot.{Spot}
use Rattle.extent_table.specs.Extents.{Spots, Extents, IsTable, digest_or_zeros, digests_seen, record_of, records_of, rolled, with_digest}
use Rattle.extent_table.specs.Rising.{records_of-rise}
use Rattle.extent_table.proofs.ExtentLaws.{records_of-all, records_of-few, records_of-nth}
use Rattle.extent_table.proofs.MapLemmas.{tie_of}
use Rattle.slot_codec.proofs.OrderLemmas.{not_tied}

plain_rows : (digests : Digests) (es : List (List ℕ × Spot))
    → map plain (map (with_digest digests) (map record_of es)) ≡ map record_of es
plain_rows digests [] = refl
plain_rows digests (e ∷ es) = ap (λ rs. record_of e ∷ rs) (plain_rows digests es)

-- without their digests the records are those of the map
pub rolled-plain : (spots : Spots) (digests : Digests) → map plain (rolled spots digests) ≡ records_of spots
rolled-plain spots digests = plain_rows digests (filter (λ e. is_name e.0) (fin.entries spots))

pub rolled-few : (e : Extents) → IsTable e → length (rolled e.now e.digests) ≤ e.names
rolled-few e table =
    omega (
      arith,
      length-map (records_of e.now) (with_digest e.digests),
      records_of-few e.now,
      table.now_room,
    )

-- a digest of 32 bytes stays
pub digest_stays : (d : List ℕ) → length d ≡ digest_len → digest_or_zeros (Some d) ≡ d
digest_stays d is = rw is refl

-- the record of a rank is that of the entry, with its digest
pub rolled-nth : (e : Extents) → IsTable e → (n : ℕ) (name : List ℕ) (spot : Spot) (digest : List ℕ)
    → slice_get (fin.entries e.now) n ≡ Some (name, spot) → fin.get e.digests name ≡ Some digest
    → slice_get (rolled e.now e.digests) n
    ≡ Some (record (record_of (name, spot)) { digest = digest })
rolled-nth e table n name spot digest entry is =
    slice_get-map (with_digest e.digests) (records_of e.now) n
    ∙ ap (option_map (with_digest e.digests)) (records_of-nth e.now table.now_named n (name, spot) entry)
    ∙ ap (λ d. Some (record (record_of (name, spot)) { digest = d }))
    (ap digest_or_zeros is ∙ digest_stays digest (table.digests.long name digest is))

-- the digests of the names of a list, each under its own name
find_rows : (digests : Digests) (q : List ℕ) (es : List (List ℕ × Spot))
    → fin.find name_cmp q (map digest_entry (map (with_digest digests) (map record_of es)))
    ≡ cond (is_some (fin.find name_cmp q es)) (Some (digest_or_zeros (fin.get digests q))) None
find_rows digests q [] = refl
find_rows digests q (e ∷ es) = by_tie (find_rows digests q es) (eq_by_cmp name_cmp q e.0) refl
  where
    rest : Option (List ℕ)
    rest = fin.find name_cmp q (map digest_entry (map (with_digest digests) (map record_of es)))

    here : Option (List ℕ)
    here = Some (digest_or_zeros (fin.get digests q))

    by_tie : rest ≡ cond (is_some (fin.find name_cmp q es)) here None → (b : Bool)
        → eq_by_cmp name_cmp q e.0 ≡ b
        → cond b (Some (digest_or_zeros (fin.get digests e.0))) rest
        ≡ cond (is_some (cond b (Some e.1) (fin.find name_cmp q es))) here None
    by_tie later true is = ap (λ d. Some (digest_or_zeros d))
        (fin.get_tied nat_list_cmp_total digests q e.0 (tie_of (name_cmp q e.0) is))
    by_tie later false is = later

-- in version 2 the records give the digests that they were made with
pub rolled-digests : (e : Extents) → IsTable e → digests_in 2 (rolled e.now e.digests) ≡ Some e.digests
rolled-digests e table =
    ap Some (fin.same_map nat_list_cmp_total (slice_cmp-IsAntisymmetric nat_cmp-IsAntisymmetric)
    (fin.from_entries (map digest_entry (rolled e.now e.digests))) e.digests each)
  where
    here : (q : List ℕ) (d : Option (List ℕ)) → fin.get e.digests q ≡ d
        → cond (is_some d) (Some (digest_or_zeros d)) None ≡ d
    here q None is = refl
    here q (Some d) is = ap Some (digest_stays d (table.digests.long q d is))

    each : (q : List ℕ)
        → fin.get (fin.from_entries {R = name_cmp} (map digest_entry (rolled e.now e.digests))) q
        ≡ fin.get e.digests q
    each q =
        fin.get-from_entries nat_list_cmp_total (map digest_entry (rolled e.now e.digests)) q
        ∙ ap (λ rs. fin.find name_cmp q (map digest_entry (map (with_digest e.digests) rs)))
        (records_of-all e.now table.now_named)
        ∙ find_rows e.digests q (fin.entries e.now)
        ∙ ap (λ (s : Option Spot). cond (is_some s) (Some (digest_or_zeros (fin.get e.digests q))) None)
        (sym (fin.get-entries e.now q))
        ∙ ap (λ b. cond b (Some (digest_or_zeros (fin.get e.digests q))) None) (sym (table.digests.named q))
        ∙ here q (fin.get e.digests q) refl

-- and in each version those that such a table has
pub rolled-seen : (version : ℕ) (e : Extents) → IsTable e
    → digests_in version (rolled e.now e.digests) ≡ digests_seen version e.digests
rolled-seen version e table =
    ap (λ (ds : Option Digests). cond (has_digests version) ds None) (rolled-digests e table)

-- ---- one name more, behind all others

-- an earlier record has the digest that it had
earlier : (digests : Digests) (name digest : List ℕ) (rs : List Record)
    → ((i : ℕ) (r : Record) → slice_get rs i ≡ Some r → is_lt (name_cmp r.name name) ≡ true)
    → map (with_digest (fin.insert digests name digest)) rs ≡ map (with_digest digests) rs
earlier digests name digest [] low = refl
earlier digests name digest (r ∷ rs) low =
    let same : fin.get (fin.insert digests name digest) r.name ≡ fin.get digests r.name =
    fin.get-insert nat_list_cmp_total digests name digest r.name
    ∙ ap (λ b. cond b (Some digest) (fin.get digests r.name)) (not_tied _ (low 0 r refl)) in
    let rest = earlier digests name digest rs (λ i s is. low (suc i) s is) in
    λ i. record r { digest = digest_or_zeros (same i) } ∷ rest i

got_before : (xs ys : List Record) (i : ℕ) (r : Record) → slice_get xs i ≡ Some r
    → (i < length xs) × (slice_get (xs ++ ys) i ≡ Some r)
got_before [] ys i r is = absurd (cc)
got_before (x ∷ xs) ys zero r is = (omega arith, is)
got_before (x ∷ xs) ys (suc i) r is = let p = got_before xs ys i r is in (omega (arith, p.0), p.1)

got_last : (xs : List Record) (r : Record) → slice_get (xs ++ r ∷ []) (length xs) ≡ Some r
got_last [] r = refl
got_last (x ∷ xs) r = got_last xs r

-- a record that is set behind all others comes last, with its digest
pub rolled-push : (spots : Spots) (digests : Digests) (r : Record) → length r.digest ≡ digest_len
    → records_of (fin.insert spots r.name (record { place = r.place; size = r.size }))
    ≡ records_of spots ++ plain r ∷ []
    → rolled (fin.insert spots r.name (record { place = r.place; size = r.size }))
    (fin.insert digests r.name r.digest) ≡ rolled spots digests ++ r ∷ []
rolled-push spots digests r long more =
    let later = fin.insert spots r.name (record { place = r.place; size = r.size }) in
    let found : fin.get (fin.insert digests r.name r.digest) r.name ≡ Some r.digest =
    fin.get-insert nat_list_cmp_total digests r.name r.digest r.name
    ∙ ap (λ o. cond (is_eq o) (Some r.digest) (fin.get digests r.name))
    (tied_itself nat_list_cmp_total r.name) in
    let digest = ap digest_or_zeros found ∙ digest_stays r.digest long in
    let rs = records_of spots in
    let low : (i : ℕ) (s : Record) → slice_get rs i ≡ Some s → is_lt (name_cmp s.name r.name) ≡ true =
    λ i s is. let p = got_before rs (plain r ∷ []) i s is in
    (records_of-rise later).rising i (length rs) s (plain r) p.0
    (ap (λ xs. slice_get xs i) more ∙ p.1) (ap (λ xs. slice_get xs (length rs)) more ∙ got_last rs (plain r))
    in
    ap (map (with_digest (fin.insert digests r.name r.digest))) more
    ∙ map-append (with_digest (fin.insert digests r.name r.digest)) rs (plain r ∷ [])
    ∙ ap (λ xs. xs ++ with_digest (fin.insert digests r.name r.digest) (plain r) ∷ [])
    (earlier digests r.name r.digest rs low)
    ∙ (λ i. rolled spots digests ++ record r { digest = digest i } ∷ [])
