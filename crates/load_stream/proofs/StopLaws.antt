-- An input stops being a dump at one object.
use Rattle.std.specs.Prelude.{◌≡◌, ℕ, zero, suc, ◌^◌, ◌<◌, ◌≤◌, Bool, true, false, T, ◌&&◌, slice_index, sum_by, Option, List, [], ◌∷◌, ◌++◌, codes, length, take, map, refl}
use Rattle.std.proofs.Common.{arith, ap, sym, ◌∙◌, inl, inr, subst, append-nil, append_assoc}
use Rattle.std.proofs.lemmas.Bool.{and_parts, cases_lt}
use Rattle.std.proofs.lemmas.Grind.{flat_map-append}
use Rattle.std.proofs.lemmas.List.{append_cancel_left, length-take-le, map-append}
use Rattle.std.proofs.lemmas.List.Sums.{sum_by-append}
use Rattle.std.specs.Ordering.{is_lt}
use Rattle.std.specs.FinMap.Entries.{below_all}
use Rattle.std.specs.FinMap as fin
use Rattle.std.specs.List.{AllByRecursion}
use Rattle.size_class.specs.Classes.{width}
use Rattle.slot_codec.specs.Choice.{rises}
use Rattle.slot_codec.proofs.RollLaws.{name_lt-trans}
use Rattle.map_model.specs.Maps.{Map, name_cmp}
use Rattle.map_model.specs.Weights.{Entry}
use Rattle.segment_layout.specs.Books.{volumes, volumes_of_sizes}
use Rattle.segment_layout.proofs.BalanceLaws.{bytes_in}
use Rattle.segment_layout.proofs.BookLaws.{volumes_of_sizes-index}
use Rattle.dump_stream.specs.Heads.{IsHead, head_line}
use Rattle.dump_stream.specs.Dumps.{CanDump, IsDumpOf, IsObject, object_text, objects_text}
use Rattle.dump_stream.specs.Loading.{AllFollow, MayFollow, ReadsTo, StopsAt, filled_by, last_name}
use Rattle.dump_stream.proofs.HeadLaws.{head_of_map, head_one}
use Rattle.dump_stream.proofs.TextLaws.{objects_one}

-- objects that may stand there are objects
each_object : (size_max : ℕ) (es : List Entry)
    → ((before after : List Entry) (e : Entry) → es ≡ before ++ e ∷ after → IsObject size_max e)
    → AllByRecursion (IsObject size_max) es
each_object size_max [] each = tt
each_object size_max (x ∷ xs) each = (
  each [] xs x refl,
  each_object size_max xs (λ before after e is. each (x ∷ before) after e
      (ap (λ (s : List Entry). x ∷ s) is)),
)

pub follow_objects : (size_max : ℕ) (volumes : List ℕ) (es : List Entry) → AllFollow size_max volumes es
    → AllByRecursion (IsObject size_max) es
follow_objects size_max volumes es each = each_object size_max es (λ before after e is.
    let may = each before after e is in record { named = may.named; small = may.small })

objects_take : (size_max n : ℕ) (es : List Entry) → AllByRecursion (IsObject size_max) es
    → AllByRecursion (IsObject size_max) (take n es)
objects_take size_max zero es each = tt
objects_take size_max (suc n) [] each = tt
objects_take size_max (suc n) (e ∷ es) each = (each.0, objects_take size_max n es each.1)

-- the object at a place, with those before it and behind it
record Parted (n : ℕ) (es : List Entry) : Type 0 where
  pub at : Entry
  pub behind : List Entry
  pub whole : es ≡ take n es ++ at ∷ behind

parted : (n : ℕ) (es : List Entry) → n < length es → Parted n es
parted n [] low = absurd (omega (arith, low))
parted zero (e ∷ es) low = record { at = e; behind = es; whole = refl }
parted (suc n) (e ∷ es) low =
    let p = parted n es (omega (arith, low)) in
    record { at = p.at; behind = p.behind; whole = ap (λ (s : List Entry). e ∷ s) p.whole }

-- what stands behind the first line
pub lines_are : (C count : ℕ) (volumes : List ℕ) (es : List Entry) (rest : List ℕ)
    → head_line C count volumes ++ codes "\n" ++ objects_text es ++ rest
    ≡ head_line C count volumes ++ 10 ∷ (objects_text es ++ rest)
lines_are C count volumes es rest =
    append_assoc (head_line C count volumes ++ codes "\n") (objects_text es) rest
    ∙ append_assoc (head_line C count volumes) (codes "\n") (objects_text es ++ rest)

texts_part : (n : ℕ) (es : List Entry) (p : Parted n es) (rest : List ℕ)
    → objects_text es ++ rest
    ≡ objects_text (take n es) ++ (object_text p.at ++ (objects_text p.behind ++ rest))
texts_part n es p rest =
    ap (λ (s : List Entry). objects_text s ++ rest) p.whole
    ∙ ap (λ (s : List ℕ). s ++ rest) (flat_map-append object_text (take n es) (p.at ∷ p.behind))
    ∙ append_assoc (objects_text (take n es)) (object_text p.at ++ objects_text p.behind) rest
    ∙ ap (λ (s : List ℕ). objects_text (take n es) ++ s) (append_assoc (object_text p.at)
    (objects_text p.behind) rest)

module _ (C size_max : ℕ) (few : C ≤ width) (fits : size_max < 2 ^ 32) (input : List ℕ) where
  -- two readings have one first line, and go on with the same text
  module _ (count m : ℕ) (vs ws : List ℕ) (es fs : List Entry) (rest others : List ℕ)
      (a : ReadsTo C size_max input count vs es rest) (b : ReadsTo C size_max input m ws fs others) where
    one_head : (count ≡ m) × ((vs ≡ ws) × (objects_text es ++ rest ≡ objects_text fs ++ others))
    one_head =
        let head = head_one C count m vs ws (10 ∷ (objects_text es ++ rest))
        (10 ∷ (objects_text fs ++ others)) few
        a.head b.head (omega arith) (omega arith)
        (sym (lines_are C count vs es rest) ∙ sym a.whole ∙ b.whole ∙ lines_are C m ws fs others) in
        (head.0, (head.1.0, append_cancel_left (10 ∷ []) _ _ head.1.1))

  -- it doesn't stop where another reading goes on
  not_before : (n : ℕ) (a : StopsAt C size_max input n) (count : ℕ) (vs : List ℕ) (es : List Entry)
      (rest : List ℕ) → ReadsTo C size_max input count vs es rest → length a.objects < length es → ⊥
  not_before n a count vs es rest b less =
      let head = one_head a.count count a.volumes vs a.objects es a.rest rest a.reads b in
      let k = length a.objects in
      let p = parted k es less in
      let one = objects_one size_max a.objects (take k es) a.rest
      (object_text p.at ++ (objects_text p.behind ++ rest)) fits
      (sym (length-take-le k es (omega (arith, less))))
      (follow_objects size_max a.volumes a.objects a.reads.each)
      (objects_take size_max k es (follow_objects size_max vs es b.each))
      (head.1.1 ∙ texts_part k es p rest) in
      let may : MayFollow size_max a.volumes a.objects p.at =
      subst (λ (ws : List ℕ). MayFollow size_max ws a.objects p.at) (sym head.1.0)
      (subst (λ (fs : List Entry). MayFollow size_max vs fs p.at) (sym one.0)
      (b.each (take k es) p.behind p.at p.whole)) in
      a.due (omega (arith, less, b.few, head.0)) p.at (objects_text p.behind ++ rest) may one.1

  -- an input stops at one object
  pub stops_once : (n m : ℕ) → StopsAt C size_max input n → StopsAt C size_max input m → n ≡ m
  stops_once n m a b = elim (cases_lt (length a.objects) (length b.objects)) [
    | inl less ↦ absurd (not_before n a b.count b.volumes b.objects b.rest b.reads less)
    | inr other ↦ elim (cases_lt (length b.objects) (length a.objects)) [
      | inl more ↦ absurd (not_before m b a.count a.volumes a.objects a.rest a.reads more)
      | inr both ↦ omega (arith, other, both, a.same_number, b.same_number)
    ]
  ]

  -- and not where all of it was read
  pub read_never_stops : (n count : ℕ) (vs : List ℕ) (es : List Entry)
      → ReadsTo C size_max input count vs es []
      → length es ≡ count → filled_by es ≡ vs → StopsAt C size_max input n → ⊥
  read_never_stops n count vs es reads all filled a =
      let head = one_head a.count count a.volumes vs a.objects es a.rest [] a.reads reads in
      elim (cases_lt (length a.objects) (length es)) [
        | inl less ↦ not_before n a count vs es [] reads less
        | inr other ↦
            let same : length a.objects ≡ length es = omega (arith, other, a.reads.few, head.0, all) in
            let one = objects_one size_max a.objects es a.rest [] fits same
            (follow_objects size_max a.volumes a.objects a.reads.each)
            (follow_objects size_max vs es reads.each) head.1.1 in
            a.ended (same ∙ all ∙ sym head.0) (ap filled_by one.0 ∙ filled ∙ sym head.1.0) one.1
      ]

-- ---- an input that was read to its end is a dump

sizes_twice : (es : List Entry) → map length (map (λ (e : Entry). e.1) es)
    ≡ map (λ (e : Entry). length e.1) es
sizes_twice [] = refl
sizes_twice (e ∷ es) = ap (λ (s : List ℕ). length e.1 ∷ s) (sizes_twice es)

pub volumes_filled : (m : Map) → volumes m ≡ filled_by (fin.entries m)
volumes_filled m = ap volumes_of_sizes (sizes_twice (fin.entries m))

pub read_is_dump : (C size_max count : ℕ) (input vs : List ℕ) (es : List Entry)
    → ReadsTo C size_max input count vs es [] → length es ≡ count → filled_by es ≡ vs → (m : Map)
    → fin.entries m ≡ es → IsDumpOf C size_max m input
read_is_dump C size_max count input vs es reads all filled m is =
    let len : fin.len m ≡ count = fin.len-entries m ∙ ap length is ∙ all in
    let vols : volumes m ≡ vs =
    ap (λ (xs : List Entry). volumes_of_sizes (map length (map (λ (e : Entry). e.1) xs))) is
    ∙ ap volumes_of_sizes (sizes_twice es) ∙ filled in
    record {
      can = record {
        few = omega (arith, len, reads.head.few);
        each = subst (AllByRecursion (IsObject size_max)) (sym is)
            (follow_objects size_max vs es reads.each);
      };
      same = reads.whole
          ∙ append-nil (head_line C count vs ++ codes "\n" ++ objects_text es)
          ∙ (λ i. head_line C (sym len i) (sym vols i) ++ codes "\n" ++ objects_text (sym is i));
    }

-- ---- a dump is read to its end

last_same : (x y : Entry) (b : List Entry) → last_name (x ∷ y ∷ b) ≡ last_name (y ∷ b)
last_same x y [] = refl
last_same x y (z ∷ b) = rw (last_same y z b) (last_same x z b)

true_of : (b : Bool) → T b → b ≡ true
true_of true t = refl
true_of false t = absurd t

sorted_rises : (before after : List Entry) (e : Entry)
    → fin.is_sorted name_cmp (before ++ e ∷ after) ≡ true → rises (last_name before) e.0 ≡ true
sorted_rises [] after e s = refl
sorted_rises (x ∷ []) after e s =
    let all = and_parts (below_all name_cmp x.0 (e ∷ after)) (fin.is_sorted name_cmp (e ∷ after)) s in
    (and_parts (is_lt (name_cmp x.0 e.0)) (below_all name_cmp x.0 after) all.0).0
sorted_rises (x ∷ y ∷ b) after e s =
    let all = and_parts (below_all name_cmp x.0 (y ∷ b ++ e ∷ after))
    (fin.is_sorted name_cmp (y ∷ b ++ e ∷ after))
    s in
    ap (λ (o : Option (List ℕ)). rises o e.0) (last_same x y b) ∙ sorted_rises (y ∷ b) after e all.1

-- and what rises so is sorted
RisesFrom : List Entry → Type 0
RisesFrom es = (before after : List Entry) (e : Entry) → es ≡ before ++ e ∷ after
    → rises (last_name before) e.0 ≡ true

rises_later : (x y : Entry) (zs : List Entry) → RisesFrom (x ∷ y ∷ zs) → RisesFrom (y ∷ zs)
unfolding RisesFrom
rises_later x y zs each [] after e is = refl
rises_later x y zs each (b ∷ before) after e is =
    ap (λ (o : Option (List ℕ)). rises o e.0) (sym (last_same x b before))
    ∙ each (x ∷ b ∷ before) after e (ap (λ (es : List Entry). x ∷ es) is)

both : {a b : Bool} → a ≡ true → b ≡ true → a && b ≡ true
both {a} {b} x y = ap (λ (c : Bool). c && b) x ∙ y

below_later : (a b : List ℕ) (es : List Entry) → is_lt (name_cmp a b) ≡ true
    → below_all name_cmp b es ≡ true → below_all name_cmp a es ≡ true
below_later a b [] less all = refl
below_later a b (e ∷ es) less all =
    let parts = and_parts (is_lt (name_cmp b e.0)) (below_all name_cmp b es) all in
    both (name_lt-trans a b e.0 less parts.0) (below_later a b es less parts.1)

sorted_from : (es : List Entry) → RisesFrom es → fin.is_sorted name_cmp es ≡ true
unfolding RisesFrom
sorted_from [] each = refl
sorted_from (x ∷ []) each = refl
sorted_from (x ∷ y ∷ zs) each =
    let rest = sorted_from (y ∷ zs) (rises_later x y zs each) in
    let less : is_lt (name_cmp x.0 y.0) ≡ true = each (x ∷ []) zs y refl in
    let far = (and_parts (below_all name_cmp y.0 zs) (fin.is_sorted name_cmp zs) rest).0 in
    both (both less (below_later x.0 y.0 zs less far)) rest

pub sorted_follow : (size_max : ℕ) (volumes : List ℕ) (es : List Entry) → AllFollow size_max volumes es
    → T (fin.is_sorted name_cmp es)
unfolding RisesFrom
sorted_follow size_max volumes es each =
    subst T (sym (sorted_from es (λ before after e is. (each before after e is).rises))) tt

object_in : (size_max : ℕ) (before after : List Entry) (e : Entry)
    → AllByRecursion (IsObject size_max) (before ++ e ∷ after) → IsObject size_max e
object_in size_max [] after e each = each.0
object_in size_max (x ∷ before) after e each = object_in size_max before after e each.1

filled_front : (front back : List Entry) (c : ℕ) → slice_index (filled_by front) c
    ≤ slice_index (filled_by (front ++ back)) c
filled_front front back c = omega (
  arith,
  volumes_of_sizes-index (map (λ (e : Entry). length e.1) front) c,
  volumes_of_sizes-index (map (λ (e : Entry). length e.1) (front ++ back)) c,
  ap (λ (xs : List ℕ). sum_by (λ size. bytes_in c size) xs)
      (map-append (λ (e : Entry). length e.1) front back),
  sum_by-append (λ size. bytes_in c size) (map (λ (e : Entry). length e.1) front)
      (map (λ (e : Entry). length e.1) back),
)

pub entries_follow : (size_max : ℕ) (m : Map) → CanDump size_max m
    → AllFollow size_max (filled_by (fin.entries m)) (fin.entries m)
entries_follow size_max m can before after e is =
    let object = object_in size_max before after e (subst (AllByRecursion (IsObject size_max)) is can.each) in
    let whole : fin.entries m ≡ (before ++ e ∷ []) ++ after =
    is ∙ sym (append_assoc before (e ∷ []) after) in
    record {
      named = object.named;
      rises = sorted_rises before after e (ap (fin.is_sorted name_cmp) (sym is)
          ∙ true_of (fin.is_sorted name_cmp (fin.entries m)) (fin.entries_sorted m));
      small = object.small;
      room = λ c. omega (
        arith,
        filled_front (before ++ e ∷ []) after c,
        ap (λ (es : List Entry). slice_index (filled_by es) c) whole,
      );
    }

pub dump_reads : (C size_max : ℕ) (m : Map) (input : List ℕ) → C ≤ width → size_max < 2 ^ C
    → IsDumpOf C size_max m input
    → ReadsTo C size_max input (fin.len m) (filled_by (fin.entries m)) (fin.entries m) []
dump_reads C size_max m input few top d =
    let vols : volumes m ≡ filled_by (fin.entries m) = volumes_filled m in
    record {
      head = subst (IsHead C (fin.len m)) vols (head_of_map C size_max m few top d.can);
      few = omega (arith, fin.len-entries m);
      each = entries_follow size_max m d.can;
      whole = d.same
          ∙ ap (λ (vs : List ℕ). head_line C (fin.len m) vs ++ codes "\n"
          ++ objects_text (fin.entries m)) vols
          ∙ sym (append-nil (head_line C (fin.len m) (filled_by (fin.entries m)) ++ codes "\n"
          ++ objects_text (fin.entries m)));
    }

-- so no dump stops at an object
pub dump_never_stops : (C size_max n : ℕ) (m : Map) (input : List ℕ) → C ≤ width → size_max < 2 ^ C
    → size_max < 2 ^ 32 → IsDumpOf C size_max m input → StopsAt C size_max input n → ⊥
dump_never_stops C size_max n m input few top fits d a =
    read_never_stops C size_max few fits input n (fin.len m) (filled_by (fin.entries m)) (fin.entries m)
    (dump_reads C size_max m input few top d) (sym (fin.len-entries m)) refl a
