-- A record has one spelling, and reading is its inverse.
use Rattle.std.proofs.Common.{◌≡◌, ◌↔◌, ℕ, ◌+◌, ◌-◌, ◌<◌, ◌≤◌, ◌^◌, true, false, not, ◌&&◌, inl, inr, List, [], ◌∷◌, ◌++◌, length, refl, sym, ap, ◌∙◌, subst, arith, length-append}
use Rattle.std.proofs.lemmas.Bool.{and_from, and_parts, lt-ltb, ltb-true, not-false, not_from_true, cases_Bool, cond-true, cond-false}
use Rattle.std.proofs.lemmas.List.{append-nil, take_all, length-replicate}
use Rattle.std.specs.Prelude.{if◌then◌else◌, Ok, Err}
use Rattle.byte_ranges.specs.Ranges.{bytes_at}
use Rattle.byte_ranges.proofs.RangeLaws.{length-bytes_at}
use Rattle.slot_codec.specs.Names.{IsName, name_bytes}
use Rattle.slot_codec.proofs.NameLaws.{NameParts, name_from_parts, name_front, name_is, name_named, name_parts, name_stands}
use Rattle.slot_codec.proofs.NameLemmas.{name_short}
use Rattle.slot_codec.proofs.PartLaws.{StandsAt, bytes_at-more, number_spelled, stands_bytes, stands_left, stands_number, stands_right, stands_whole}
use Rattle.slot_codec.proofs.CapLaws.{record_len-long, record_len-low, record_len-short}
use Rattle.slot_codec.specs.Readable.{IsDigest, IsRecord}
use Rattle.slot_codec.specs.Reading.{digest_at, is_in_range, number_at, read_name, read_record, record_of}
use Rattle.slot_codec.specs.Spelling.{AreBytes, digest_bytes, has_digests, number, record_bytes, record_len, zeros}
use Rattle.slot_codec.proofs.StepLaws.{bind_from, bind_ok, from_ok, guard_from, guard_ok}
use Rattle.slot_codec.specs.declared.codec.Record.{Record}
use Rattle.slot_codec.specs.declared.codec.CodecFault.TheVariants as fault

-- what bytes have that are read as a record
pub record RecordParts (version : ℕ) (bytes : List ℕ) (r : Record) : Type 0 where
  pub name_parts : NameParts bytes r.name
  pub place : number_at bytes 64 ≡ r.place
  pub size : number_at bytes 72 ≡ r.size
  pub digest : digest_at version bytes ≡ r.digest
  pub fits : IsRecord r

-- what is known of a record that is read: its name is read, and its numbers are in range
record ReadParts (version : ℕ) (bytes : List ℕ) (r : Record) : Type 0 where
  named : read_name bytes ≡ Ok r.name
  is : record_of version bytes ≡ r
  place : r.place < 2 ^ 48
  size : r.size < 2 ^ 48

read_parts : (version : ℕ) (bytes : List ℕ) (r : Record) → read_record version bytes ≡ Ok r
    → ReadParts version bytes r
unfolding read_record
read_parts version bytes r h =
    let o = record_of version bytes in
    let a = bind_ok (read_name bytes)
    (λ name. if not (is_in_range o.place && is_in_range o.size) then Err fault.Range else Ok o) r h in
    let c = guard_ok (not (is_in_range o.place && is_in_range o.size)) _ _ r a.2 in
    let ranges = and_parts (is_in_range o.place) (is_in_range o.size) (not-false _ c.0) in
    let parts : ReadParts version bytes o = record {
      named = a.1 ∙ ap Ok (sym (name_is bytes a.0 a.1));
      is = refl;
      place = ltb-true o.place (2 ^ 48) ranges.0;
      size = ltb-true o.size (2 ^ 48) ranges.1;
    } in
    subst (ReadParts version bytes) (from_ok o r c.1) parts

-- what is read as a record is in range
pub record_fits : (version : ℕ) (bytes : List ℕ) (r : Record) → read_record version bytes ≡ Ok r → IsRecord r
record_fits version bytes r h =
    let p = read_parts version bytes r h in
    record { named = name_named bytes r.name p.named; place = p.place; size = p.size }

pub record_parts : (version : ℕ) (bytes : List ℕ) (r : Record) → 80 ≤ length bytes
    → read_record version bytes ≡ Ok r → RecordParts version bytes r
record_parts version bytes r long h =
    let p = read_parts version bytes r h in
    let n = name_parts bytes r.name (omega (arith, long)) p.named in
    record {
      name_parts = n;
      place = ap (λ x. x.place) p.is;
      size = ap (λ x. x.size) p.is;
      digest = ap (λ x. x.digest) p.is;
      fits = record_fits version bytes r h;
    }

-- what stands behind the first 80 bytes is the spelling of the digest
digest_spelled : (version : ℕ) (bytes digest : List ℕ) → length bytes ≡ record_len version
    → digest_at version bytes ≡ digest → bytes ≡ bytes_at bytes 0 80 ++ digest_bytes version digest
unfolding digest_at
digest_spelled version bytes digest len is =
    elim (cases_Bool (has_digests version)) [
      | inl two ↦
          let whole : length bytes ≤ 112 = omega (arith, len, record_len-long version two) in
          let behind : bytes_at bytes 80 32 ≡ digest =
          sym (cond-true (has_digests version) (bytes_at bytes 80 32) (zeros 32) two) ∙ is in
          sym (take_all 112 bytes whole) ∙ sym (bytes_at-more bytes 0 80 32)
          ∙ ap (λ xs. bytes_at bytes 0 80 ++ xs) (behind ∙ sym (cond-true (has_digests version) digest [] two))
      | inr other ↦
          let whole : length bytes ≤ 80 = omega (arith, len, record_len-short version other) in
          sym (take_all 80 bytes whole) ∙ sym (append-nil (bytes_at bytes 0 80))
          ∙ ap (λ xs. bytes_at bytes 0 80 ++ xs) (sym (cond-false (has_digests version) digest [] other))
    ]

-- what is read as a record is its spelling
pub record_spelled : (version : ℕ) (bytes : List ℕ) (r : Record) → length bytes ≡ record_len version
    → AreBytes bytes → read_record version bytes ≡ Ok r → bytes ≡ record_bytes version r
record_spelled version bytes r len are h =
    let long : 80 ≤ length bytes = omega (arith, len, record_len-low version) in
    let p = record_parts version bytes r long h in
    let named : bytes_at bytes 0 64 ≡ name_bytes r.name =
    name_front bytes r.name (omega (arith, long)) p.name_parts in
    let place : bytes_at bytes 64 8 ≡ number r.place = sym (number_spelled bytes 64 are (omega (arith, long)))
    ∙ ap number p.place in
    let size : bytes_at bytes 72 8 ≡ number r.size = sym (number_spelled bytes 72 are (omega (arith, long)))
    ∙ ap number p.size in
    let short : bytes_at bytes 0 80 ≡ name_bytes r.name ++ number r.place ++ number r.size =
    sym (bytes_at-more bytes 0 72 8)
    ∙ ap (λ x. x ++ bytes_at bytes 72 8) (sym (bytes_at-more bytes 0 64 8))
    ∙ ap (λ x. x ++ bytes_at bytes 64 8 ++ bytes_at bytes 72 8) named
    ∙ ap (λ x. name_bytes r.name ++ x ++ bytes_at bytes 72 8) place
    ∙ ap (λ x. name_bytes r.name ++ number r.place ++ x) size
    in
    digest_spelled version bytes r.digest len p.digest
    ∙ ap (λ xs. xs ++ digest_bytes version r.digest) short

-- the digest that is read, by what is known of the bytes
pub digest_fits : (version : ℕ) (bytes : List ℕ) → length bytes ≡ record_len version
    → IsDigest version (digest_at version bytes)
unfolding digest_at
digest_fits version bytes len =
    elim (cases_Bool (has_digests version)) [
      | inl two ↦
          let is : digest_at version bytes
          ≡ bytes_at bytes 80 32 = cond-true (has_digests version) (bytes_at bytes 80 32) (zeros 32) two in
          record {
            len = ap length is ∙ length-bytes_at bytes 80 32
                (omega (arith, len, record_len-long version two));
            plain = λ other. let no : true ≡ false = sym two ∙ other in cc;
          }
      | inr other ↦
          let is : digest_at version bytes
          ≡ zeros 32 = cond-false (has_digests version) (bytes_at bytes 80 32) (zeros 32) other in
          record { len = ap length is; plain = λ _. is }
    ]

-- and what has these parts is read
pub record_from_parts : (version : ℕ) (bytes : List ℕ) (r : Record) → RecordParts version bytes r
    → read_record version bytes ≡ Ok r
unfolding read_record
record_from_parts version bytes r p =
    let name = p.name_parts.text in
    let place = p.place in
    let size = p.size in
    let digest = p.digest in
    let place_low : is_in_range (number_at bytes 64) ≡ true = ap is_in_range place
    ∙ lt-ltb r.place (2 ^ 48) p.fits.place in
    let size_low : is_in_range (number_at bytes 72) ≡ true = ap is_in_range size
    ∙ lt-ltb r.size (2 ^ 48) p.fits.size in
    bind_from (read_name bytes) _ r.name (name_from_parts bytes r.name p.name_parts)
    ∙ guard_from _ fault.Range _ (not_from_true _ (and_from _ _ place_low size_low))
    ∙ λ i. Ok (record { name = name i; place = place i; size = size i; digest = digest i })

-- so is what these parts make
pub record_made : (version : ℕ) (bytes name : List ℕ) (place size : ℕ) (digest : List ℕ)
    → read_name bytes ≡ Ok name → place ≡ number_at bytes 64 → size ≡ number_at bytes 72
    → digest ≡ digest_at version bytes → place < 2 ^ 48 → size < 2 ^ 48
    → Ok (record { name = name; place = place; size = size; digest = digest }) ≡ read_record version bytes
unfolding read_record
record_made version bytes name place size digest read place_is size_is digest_is low small =
    let o = record_of version bytes in
    let place_low : is_in_range (number_at bytes 64) ≡ true = lt-ltb _ (2 ^ 48) (omega (arith, low, place_is)) in
    let size_low : is_in_range (number_at bytes 72) ≡ true = lt-ltb _ (2 ^ 48) (omega (arith, small, size_is)) in
    let all : read_record version bytes ≡ Ok o =
    bind_from (read_name bytes)
    (λ name. if not (is_in_range o.place && is_in_range o.size) then Err fault.Range else Ok o) name read
    ∙ guard_from _ fault.Range _ (not_from_true _ (and_from _ _ place_low size_low)) in
    sym (all ∙ λ i. Ok (record {
      name = name_is bytes name read i;
      place = sym place_is i;
      size = sym size_is i;
      digest = sym digest_is i;
    }))

-- what has the spelling of a digest behind a record has the digest
digest_stands : (version : ℕ) (bytes digest : List ℕ) → IsDigest version digest
    → StandsAt bytes 80 (digest_bytes version digest) → digest_at version bytes ≡ digest
unfolding digest_at
digest_stands version bytes digest fits all =
    elim (cases_Bool (has_digests version)) [
      | inl two ↦
          let is : digest_bytes version digest ≡ digest = cond-true (has_digests version) digest [] two in
          cond-true (has_digests version) (bytes_at bytes 80 32) (zeros 32) two
          ∙ stands_bytes bytes 80 32 digest fits.len (subst (StandsAt bytes 80) is all)
      | inr other ↦ cond-false (has_digests version) (bytes_at bytes 80 32) (zeros 32) other
          ∙ sym (fits.plain other)
    ]

-- what has the spelling of a record at its start has these parts
pub record_stands : (version : ℕ) (bytes : List ℕ) (r : Record) → IsRecord r → IsDigest version r.digest
    → StandsAt bytes 0 (record_bytes version r) → RecordParts version bytes r
record_stands version bytes r fits digested whole =
    let n = length r.name in
    let short : n ≤ 63 = name_short r.name fits.named in
    let front = n ∷ r.name in
    let named = front ++ zeros (63 - n) in
    let padded : length named ≡ 64 = omega
    (arith, short, length-append front (zeros (63 - n)), length-replicate {A = ℕ} (63 - n) 0) in
    let placed : length (named ++ number r.place)
    ≡ 72 = omega (arith, padded, length-append named (number r.place)) in
    let sized : length (named ++ number r.place ++ number r.size)
    ≡ 80 = omega (arith, placed, length-append (named ++ number r.place) (number r.size)) in
    let all = stands_left bytes 0 (named ++ number r.place ++ number r.size) (digest_bytes version r.digest)
    whole in
    let three = stands_left bytes 0 (named ++ number r.place) (number r.size) all in
    let two = stands_left bytes 0 named (number r.place) three in
    record {
      name_parts = name_stands bytes r.name fits.named two;
      place = stands_number bytes 64 r.place (omega (arith, fits.place))
          (stands_right bytes 0 64 named (number r.place) (omega (arith, padded)) three);
      size = stands_number bytes 72 r.size (omega (arith, fits.size))
          (stands_right bytes 0 72 (named ++ number r.place) (number r.size) (omega (arith, placed)) all);
      digest = digest_stands version bytes r.digest digested
          (stands_right bytes 0 80 (named ++ number r.place ++ number r.size)
          (digest_bytes version r.digest) (omega (arith, sized)) whole);
      fits = fits;
    }

-- the spelling of a record in range is read as it
pub record_read : (version : ℕ) (r : Record) → IsRecord r → IsDigest version r.digest
    → read_record version (record_bytes version r) ≡ Ok r
record_read version r fits digested = record_from_parts version (record_bytes version r) r
    (record_stands version (record_bytes version r) r fits digested (stands_whole (record_bytes version r)))

-- the length of a record's spelling
length-digest_bytes : (version : ℕ) (digest : List ℕ) → length digest ≡ 32
    → 80 + length (digest_bytes version digest) ≡ record_len version
length-digest_bytes version digest len =
    elim (cases_Bool (has_digests version)) [
      | inl two ↦ omega (
        arith,
        ap length (cond-true (has_digests version) digest [] two),
        len,
        record_len-long version two,
      )
      | inr other ↦ omega (
        arith,
        ap length (cond-false (has_digests version) digest [] other),
        record_len-short version other,
      )
    ]

pub length-record_bytes : (version : ℕ) (r : Record) → IsName r.name → length r.digest ≡ 32
    → length (record_bytes version r) ≡ record_len version
length-record_bytes version r named digested =
    let n = length r.name in
    let front = n ∷ r.name in
    let padded = front ++ zeros (63 - n) in
    let short : n ≤ 63 = name_short r.name named in
    let long : length padded ≡ 64 = omega
    (arith, short, length-append front (zeros (63 - n)), length-replicate {A = ℕ} (63 - n) 0) in
    let placed : length (padded ++ number r.place)
    ≡ 72 = omega (arith, long, length-append padded (number r.place)) in
    let sized : length (padded ++ number r.place ++ number r.size)
    ≡ 80 = omega (arith, placed, length-append (padded ++ number r.place) (number r.size)) in
    length-append (padded ++ number r.place ++ number r.size) (digest_bytes version r.digest)
    ∙ ap (λ k. k + length (digest_bytes version r.digest)) sized
    ∙ length-digest_bytes version r.digest digested

-- bytes are read as a record exactly where they are the spelling of one in range
pub record_exact : (version : ℕ) (bytes : List ℕ) (r : Record) → length bytes ≡ record_len version
    → AreBytes bytes → (read_record version bytes ≡ Ok r)
    ↔ (IsRecord r × IsDigest version r.digest × (bytes ≡ record_bytes version r))
record_exact version bytes r len are = (
  λ h.
      let p = record_parts version bytes r (omega (arith, len, record_len-low version)) h in (
        p.fits,
        subst (IsDigest version) p.digest
            (digest_fits version bytes len),
        record_spelled version bytes r len are h,
      ),
  λ s. ap (read_record version) s.2
      ∙ record_read version r s.0 s.1,
)
