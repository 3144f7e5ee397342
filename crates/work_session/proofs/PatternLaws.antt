-- An object of a job is a part of the bytes that count up.
use Rattle.std.specs.Prelude.{◌≡◌, ℕ, zero, suc, ◌+◌, ◌%◌, ◌<◌, ◌≤◌, ◌==◌, nat_lt, Bool, true, false, if◌then◌else◌, List, [], ◌∷◌, drop, length, take, slice_index, slice_set, Option, Some, None}
use Rattle.std.proofs.Common.{arith, ap, sym, ◌∙◌, subst, inl, inr, length-drop}
use Rattle.std.proofs.lemmas.List.{get_or-drop, get_or-set_other, get_or-set_same, get_or-take, length-take-le}
use Rattle.std.proofs.lemmas.Bool.{cases_eq}
use Rattle.std.proofs.lemmas.Grind.{same_number_lists}
use Rattle.byte_ranges.proofs.ListLaws.{length-map_below, map_below-index}
use Rattle.rand_pcg.specs.Lcg.{Lcg}
use Rattle.rand_pcg.specs.Pcg.{pcg32}
use Rattle.map_model.specs.Requests as ask
use Rattle.map_model.specs.Requests.{Request}
use Rattle.work_maker.specs.Jobs.{counting_bytes, job_drawn, jobs_from, name_drawn}
use Rattle.work_maker.specs.Making.{asked_by, jobs_left}
use Rattle.work_maker.specs.declared.job.Job.{Job}
use Rattle.work_maker.specs.declared.job.Job.TheVariants as job
use Rattle.work_maker.specs.declared.work.Work.{Work}
use Rattle.work_session.specs.Jobs.{IsPattern, IsShort}

pub part_is : (pattern : List ℕ) (first size : ℕ) → IsPattern pattern → first < 256 → size ≤ 8192
    → take size (drop first pattern) ≡ counting_bytes first size
part_is pattern first size p low short =
    let long : length (take size (drop first pattern)) ≡ size =
    length-take-le size (drop first pattern) (omega (arith, length-drop first pattern, p.long)) in
    same_number_lists (take size (drop first pattern)) (counting_bytes first size)
    (long ∙ sym (length-map_below (λ t. (first + t) % 256) size))
    (λ i h.
    let within : i < size = omega (arith, h, long) in
    get_or-take size (drop first pattern) i 0 within ∙ get_or-drop first pattern i 0
    ∙ p.each (first + i) (omega (arith, within, low, short))
    ∙ sym (map_below-index (λ t. (first + t) % 256) size i within))

-- ---- objects are short

abbrev IsShortObject : Option (List ℕ) → Type 0
IsShortObject None = Unit {0}
IsShortObject (Some object) = length object ≤ 8192

abbrev IsShortRequest : Request → Type 0
IsShortRequest (ask.change c) = IsShortObject c.object
IsShortRequest (ask.get name) = Unit {0}
IsShortRequest (ask.old name) = Unit {0}
IsShortRequest ask.keep = Unit {0}
IsShortRequest ask.back = Unit {0}
IsShortRequest ask.list = Unit {0}
IsShortRequest ask.stat = Unit {0}

short_job : (x : Job) → IsShortRequest (asked_by x) → IsShort x
short_job (job.Put name size first) short = omega (
  arith,
  short,
  length-map_below (λ t.
      (first + t) % 256) size,
)
short_job (job.Del name) short = tt
short_job (job.Get name) short = tt
short_job job.Keep short = tt

short_drawn : (names i x y z : ℕ) → IsShortRequest (job_drawn names i x y z)
short_drawn names i x y z = by (nat_lt (y % 8) 5) (y % 8 == 5) (y % 8 == 6)
  where
    by : (a b c : Bool) → IsShortRequest (
        if a then ask.change (record {
          name = name_drawn names x;
          object = Some (counting_bytes i
              (1 + z % 8192));
        })
        else if b then ask.change (record { name = name_drawn names x; object = None })
        else if c then ask.get (name_drawn names x) else ask.keep)
    by true b c = omega (arith, length-map_below (λ t. (i + t) % 256) (1 + z % 8192))
    by false true c = tt
    by false false true = tt
    by false false false = tt

first_is : (x y : Request) (xs ys : List Request) → x ∷ xs ≡ y ∷ ys → x ≡ y
first_is x y xs ys same = cc

short_from : (names i n : ℕ) (words : Lcg) (x : Job) (rest : List Request)
    → jobs_from names i n words ≡ asked_by x ∷ rest → IsShort x
short_from names i zero words x rest is =
    short_job x (subst IsShortRequest (first_is ask.keep (asked_by x) [] rest is) tt)
short_from names i (suc n) words x rest is =
    let x' = pcg32 words in
    let y' = pcg32 x'.1 in
    let z' = pcg32 y'.1 in
    short_job x (subst IsShortRequest (first_is (job_drawn names i x'.0 y'.0 z'.0) (asked_by x)
    (jobs_from names (i + 1) n z'.1) rest is) (short_drawn names i x'.0 y'.0 z'.0))

pub short_next : (work : Work) (x : Job) (rest : List Request) → jobs_left work ≡ asked_by x ∷ rest
    → IsShort x
short_next work x rest is = by work.is_done is
  where
    by : (b : Bool) → (if b then [] else jobs_from work.names work.next work.draws work.words)
        ≡ asked_by x ∷ rest
        → IsShort x
    by true none = absurd (cc)
    by false some = short_from work.names work.next work.draws work.words x rest some

-- ---- making the bytes

pub more_bytes : (bytes : List ℕ) (j : ℕ) → j < length bytes
    → ((i : ℕ) → i < j → slice_index bytes i ≡ i % 256) → (i : ℕ) → i < j + 1
    → slice_index (slice_set bytes j (j % 256)) i ≡ i % 256
more_bytes bytes j within so_far i low = elim (cases_eq i j) [
  | inr other ↦ get_or-set_other bytes j i (j % 256) 0 other ∙ so_far i (omega (arith, low, other))
  | inl same ↦ ap (slice_index (slice_set bytes j (j % 256))) same
      ∙ get_or-set_same bytes j (j % 256) 0 within
      ∙ ap (λ (n : ℕ). n % 256) (sym same)
]
