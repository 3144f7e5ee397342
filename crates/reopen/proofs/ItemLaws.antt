-- Items that are taken one after another, and in pieces.
use Rattle.std.proofs.Common.{◌≡◌, ℕ, zero, suc, ◌+◌, ◌-◌, ◌*◌, ◌<◌, ◌≤◌, List, length, IsTrue, refl, ap, sym, ◌∙◌, subst, arith}
use Rattle.std.specs.Prelude.{Result, Ok, Err}
use Rattle.std.proofs.Math.Nat.{mul-le-mul_left}
use Rattle.byte_ranges.specs.Ranges.{bytes_at}
use Rattle.byte_ranges.specs.Lists.{◌>>=◌}
use Rattle.byte_ranges.proofs.RangeLaws.{bytes_at-within}
use Rattle.disk_face.specs.Frames.{Unchanged}
use Rattle.disk_face.specs.States.{State}
use Rattle.disk_face.proofs.FrameLaws.{Unchanged-trans, unchanged_itself}
use Rattle.slot_codec.specs.Choice.{SlotRefusal, codec, placed_at}
use Rattle.slot_codec.specs.Items.{read_items}
use Rattle.slot_codec.specs.declared.codec.CodecFault.{CodecFault}
use Rattle.slot_codec.specs.declared.codec.Header.{Header}
use Rattle.slot_codec.proofs.StepLaws.{bind_from}
use Rattle.slot_pair.specs.Finding.{Refuses}
use Rattle.slot_pair.specs.declared.find.SlotFault.{SlotFault}
use Rattle.slot_pair.specs.declared.find.SlotFault.TheVariants as fault
use Rattle.slot_pair.proofs.RefusalLaws.{refuses_on}
use Rattle.extent_table.specs.Extents.{Extents}
use Rattle.reopen.specs.Items.{KeepsMaking, Passing, Stands, Taken, item_len, item_step, items_len, read_part}
use Rattle.reopen.specs.declared.items.Items.{Items}
use Rattle.reopen.specs.declared.items.Progress.{Progress}

-- ---- what is kept

pub keeps_nothing : (cap : ℕ) (header : Header) (load : Extents) → KeepsMaking cap header header load load
keeps_nothing cap header load = record {
  cells = refl;
  ranges = λ h. h;
  load = record { names = refl; cap = refl; kept = refl; kept_digests = refl };
  table = λ h. h;
  few = λ h. h;
}

pub keeps_on : (cap : ℕ) (a b c : Header) (x y z : Extents) → KeepsMaking cap a b x y → KeepsMaking cap b c y
    z
    → KeepsMaking cap a c x z
keeps_on cap a b c x y z first second = record {
  cells = second.cells ∙ ap (λ (h : Header). record h { caps = c.caps; used = c.used }) first.cells;
  ranges = λ h. second.ranges (first.ranges h);
  load = record {
    names = second.load.names ∙ first.load.names;
    cap = second.load.cap ∙ first.load.cap;
    kept = second.load.kept ∙ first.load.kept;
    kept_digests = second.load.kept_digests ∙ first.load.kept_digests;
  };
  table = λ h. second.table (first.table h);
  few = λ h. second.few (first.few h);
}

-- ---- a list of items in two parts

split_first : {S : Type 0} (o : Result S SlotRefusal) (f g h : S → Result S SlotRefusal)
    → ((t : S) → f t ≡ (g t >>= h)) → (o >>= f) ≡ (o >>= g >>= h)
split_first (Ok t) f g h same = same t
split_first (Err e) f g h same = refl

-- n items are the first i of them, and then the others
pub items_split : {S : Type 0} (step : S → List ℕ → Result S CodecFault) (len i m n : ℕ) → i + m ≡ n
    → (file : List ℕ) (at : ℕ) (s : S) → read_items step len n file at s
    ≡ (read_items step len i file at s >>= λ t. read_items step len m file (at + len * i) t)
items_split step len zero m n is file at s =
    let same : n ≡ m = omega (arith, is) in
    let here : at ≡ at + len * 0 = omega arith in
    ap (λ k. read_items step len k file at s) same ∙ ap (λ p. read_items step len m file p s) here
items_split step len (suc i) m zero is file at s = absurd (omega (arith, is))
items_split step len (suc i) m (suc n) is file at s =
    let less : i + m ≡ n = omega (arith, is) in
    let there : (at + len) + len * i ≡ at + len * suc i = omega arith in
    split_first (placed_at at (step s (bytes_at file at len))) (λ t. read_items step len n file (at + len) t)
    (λ t. read_items step len i file (at + len) t) (λ t. read_items step len m file (at + len * suc i) t)
    (λ t. items_split step len i m n less file (at + len) t
    ∙ ap (λ p. read_items step len i file (at + len) t >>= λ u. read_items step len m file p u) there)

-- one item more
pub items_more : {S : Type 0} (step : S → List ℕ → Result S CodecFault) (len i : ℕ) (file : List ℕ) (at : ℕ)
    (s t u : S) → read_items step len i file at s ≡ Ok t → step t (bytes_at file (at + len * i) len) ≡ Ok u
    → read_items step len (i + 1) file at s ≡ Ok u
items_more step len i file at s t u before here =
    items_split step len i 1 (i + 1) refl file at s
    ∙ bind_from (read_items step len i file at s) (λ v. read_items step len 1 file (at + len * i) v) t before
    ∙ ap (λ o. placed_at (at + len * i) o >>= λ v. Ok v) here

-- an item is refused
pub items_bad : {S : Type 0} (step : S → List ℕ → Result S CodecFault) (len i n : ℕ) (file : List ℕ) (at : ℕ)
    (s t : S) (f : CodecFault) → i < n → read_items step len i file at s ≡ Ok t
    → step t (bytes_at file (at + len * i) len) ≡ Err f
    → read_items step len n file at s ≡ Err (codec f (at + len * i))
items_bad step len i n file at s t f less before here =
    let there = at + len * i in
    items_split step len i (suc (n - (i + 1))) n (omega (arith, less)) file at s
    ∙ bind_from (read_items step len i file at s)
    (λ v. read_items step len (suc (n - (i + 1))) file there v) t before
    ∙ ap (λ o. placed_at there o >>= λ v. read_items step len (n - (i + 1)) file (there + len) v) here

-- ---- the items of a text

-- Of the items of a text the first i were taken, wherever the text stands.
pub record TakenThrough (items : Items) (cap : ℕ) (text : List ℕ) (i : ℕ) (progress now : Progress)
    (before header : Header) (old new : Extents) : Type 0
  where
    pub keeps : KeepsMaking cap before header old new
    pub taken : (file : List ℕ) (p : Passing) → bytes_at file items.at (items_len items) ≡ text
        → Stands items.part cap p progress before old
        → Taken items.part cap (read_items (item_step items.part) (item_len items.part) i file items.at p) now
        header new

pub taken_none : (items : Items) (cap : ℕ) (text : List ℕ) (progress : Progress) (header : Header)
    (load : Extents) → TakenThrough items cap text 0 progress progress header header load load
taken_none items cap text progress header load = record {
  keeps = keeps_nothing cap header load;
  taken = λ file p there stands. record { passing = p; read = refl; stands = stands };
}

-- the item of a text is that of the file
item_there : (len i n : ℕ) (file text : List ℕ) (at : ℕ) → i < n → bytes_at file at (len * n) ≡ text
    → bytes_at text (len * i) len ≡ bytes_at file (at + len * i) len
item_there len i n file text at less there =
    let far : i + 1 ≤ n = omega (arith, less) in
    let within : len * i + len ≤ len * n = omega (arith, mul-le-mul_left len far) in
    ap (λ (xs : List ℕ). bytes_at xs (len * i) len) (sym there)
    ∙ bytes_at-within file at (len * n) (len * i) len within

-- where an item of a text ends
pub item_within : (len i n : ℕ) (text : List ℕ) → i < n → length text ≡ len * n → len * i + len ≤ length text
item_within len i n text less long =
    let far : i + 1 ≤ n = omega (arith, less) in
    omega (arith, mul-le-mul_left len far, long)

pub taken_more : (items : Items) (cap : ℕ) (text : List ℕ) (i : ℕ) (first progress now : Progress)
    (before header after : Header) (old load new : Extents) → i < items.count
    → TakenThrough items cap text i first progress before header old load
    → KeepsMaking cap header after load new
    → (item : List ℕ) → item ≡ bytes_at text (item_len items.part * i) (item_len items.part)
    → ((p : Passing) → Stands items.part cap p progress header load
    → Taken items.part cap (item_step items.part p item) now after new)
    → TakenThrough items cap text (i + 1) first now before after old new
taken_more items cap text i first progress now before header after old load new less t keeps item is taken =
    let part = items.part in
    let len = item_len part in
    record {
      keeps = keeps_on cap before header after old load new t.keeps keeps;
      taken = λ file p there stands.
          let was = t.taken file p there stands in
          let one = taken was.passing was.stands in
          let same = is ∙ item_there len i items.count file text items.at less there in
          record {
            passing = one.passing;
            read = items_more (item_step part) len i file items.at p was.passing one.passing was.read
                (ap (item_step part was.passing) (sym same) ∙ one.read);
            stands = one.stands;
          };
    }

pub taken_bad : (items : Items) (cap : ℕ) (text : List ℕ) (i : ℕ) (first progress : Progress)
    (before header : Header) (old load : Extents) (f : CodecFault) → i < items.count
    → TakenThrough items cap text i first progress before header old load
    → (item : List ℕ) → item ≡ bytes_at text (item_len items.part * i) (item_len items.part)
    → ((p : Passing) → Stands items.part cap p progress header load → item_step items.part p item ≡ Err f)
    → (file : List ℕ) (p : Passing) → bytes_at file items.at (items_len items) ≡ text
    → Stands items.part cap p first before old
    → Refuses (read_part items file p) (fault.Codec f (items.at + item_len items.part * i))
taken_bad items cap text i first progress before header old load f less t item is refused file p there stands
    =
    let part = items.part in
    let len = item_len part in
    let was = t.taken file p there stands in
    let same = is ∙ item_there len i items.count file text items.at less there in
    items_bad (item_step part) len i items.count file items.at p was.passing f less was.read
    (ap (item_step part was.passing) (sym same) ∙ refused was.passing was.stands)

-- all of them
pub taken_all : (items : Items) (cap : ℕ) (text : List ℕ) (i : ℕ) (first progress : Progress)
    (before header : Header) (old load : Extents) → items.count ≤ i → i ≤ items.count
    → TakenThrough items cap text i first progress before header old load
    → (file : List ℕ) (p : Passing) → bytes_at file items.at (items_len items) ≡ text
    → Stands items.part cap p first before old
    → Taken items.part cap (read_part items file p) progress header load
taken_all items cap text i first progress before header old load end few t file p there stands =
    let part = items.part in
    let was = t.taken file p there stands in
    let all : items.count ≡ i = omega (arith, end, few) in
    record {
      passing = was.passing;
      read = ap (λ n. read_items (item_step part) (item_len part) n file items.at p) all ∙ was.read;
      stands = was.stands;
    }

-- ---- the items of a file, in pieces

-- Of the items that stand on a disk the first were taken.
pub record TakenSoFar (items : Items) (cap done : ℕ) (progress now : Progress) (before header : Header)
    (old new : Extents) (first later : State) : Type 0
  where
    pub few : done ≤ items.count
    pub keeps : KeepsMaking cap before header old new
    pub taken : IsTrue first.tells → (p : Passing) → Stands items.part cap p progress before old
        → Taken items.part cap (read_items (item_step items.part) (item_len items.part) done first.file
        items.at p) now header new
    pub frame : Unchanged first later
    pub calm : later.faults ≡ first.faults

pub so_far_none : (items : Items) (cap : ℕ) (progress : Progress) (header : Header) (load : Extents) (d :
    State)
    → IsTrue d.is_ready → TakenSoFar items cap 0 progress progress header header load load d d
so_far_none items cap progress header load d ready = record {
  few = omega arith;
  keeps = keeps_nothing cap header load;
  taken = λ told p stands. record { passing = p; read = refl; stands = stands };
  frame = unchanged_itself d ready;
  calm = refl;
}

-- the piece behind the items that were taken, of so many bytes each
abbrev pub piece_behind : Items → ℕ → ℕ → ℕ → Items
piece_behind items len done n = record { part = items.part; at = items.at + len * done; count = n }

pub so_far_more : (items : Items) (cap len done n : ℕ) (start progress now : Progress)
    (before header after : Header) (old load new : Extents) (first current next : State)
    → len ≡ item_len items.part → done + n ≤ items.count
    → TakenSoFar items cap done start progress before header old load first current
    → KeepsMaking cap header after load new
    → (IsTrue current.tells → (p : Passing) → Stands items.part cap p progress header load
    → Taken items.part cap (read_part (piece_behind items len done n) current.file p) now after new)
    → Unchanged current next → next.faults ≡ current.faults
    → TakenSoFar items cap (done + n) start now before after old new first next
so_far_more items cap len done n start progress now before header after old load new first current next is
    few t
    keeps
    taken
    frame calm =
    let part = items.part in
    let each = item_len part in
    record {
      few = few;
      keeps = keeps_on cap before header after old load new t.keeps keeps;
      taken = λ told p stands.
          let told' : IsTrue current.tells = subst IsTrue (sym t.frame.stays.told) told in
          let was = t.taken told p stands in
          let more = taken told' was.passing was.stands in
          record {
            passing = more.passing;
            read = items_split (item_step part) each done n (done + n) refl first.file items.at p
                ∙ bind_from (read_items (item_step part) each done first.file items.at p)
                (λ q. read_items (item_step part) each n first.file (items.at + each * done) q) was.passing
                was.read
                ∙ ap (λ l. read_part (piece_behind items l done n) first.file was.passing) (sym is)
                ∙ ap (λ file. read_part (piece_behind items len done n) file was.passing)
                (sym (t.frame.same_file told))
                ∙ more.read;
            stands = more.stands;
          };
      frame = Unchanged-trans t.frame frame;
      calm = calm ∙ t.calm;
    }

-- a piece is refused
pub so_far_bad : (items : Items) (cap len done n : ℕ) (start progress : Progress) (before header : Header)
    (old load : Extents) (first current : State) (why : SlotFault) → len ≡ item_len items.part
    → done + n ≤ items.count
    → TakenSoFar items cap done start progress before header old load first current
    → (IsTrue current.tells → (p : Passing) → Stands items.part cap p progress header load
    → Refuses (read_part (piece_behind items len done n) current.file p) why)
    → IsTrue first.tells → (p : Passing) → Stands items.part cap p start before old
    → Refuses (read_part items first.file p) why
so_far_bad items cap len done n start progress before header old load first current why is few t refused told
    p
    stands =
    let part = items.part in
    let each = item_len part in
    let told' : IsTrue current.tells = subst IsTrue (sym t.frame.stays.told) told in
    let was = t.taken told p stands in
    let there = items.at + each * done in
    let rest = items.count - (done + n) in
    let here = subst (λ file. Refuses (read_part (piece_behind items len done n) file was.passing) why)
    (t.frame.same_file told) (refused told' was.passing was.stands) in
    let bad = subst (λ l. Refuses (read_part (piece_behind items l done n) first.file was.passing) why) is
    here in
    let all : read_part items first.file p
    ≡ (read_items (item_step part) each n first.file there was.passing
    >>= λ q. read_items (item_step part) each rest first.file (there + each * n) q) =
    items_split (item_step part) each done (n + rest) items.count (omega (arith, few)) first.file items.at p
    ∙ bind_from (read_items (item_step part) each done first.file items.at p)
    (λ q. read_items (item_step part) each (n + rest) first.file there q) was.passing was.read
    ∙ items_split (item_step part) each n rest (n + rest) refl first.file there was.passing in
    subst (λ r. Refuses r why) (sym all)
    (refuses_on (read_items (item_step part) each n first.file there was.passing)
    (λ q. read_items (item_step part) each rest first.file (there + each * n) q) why bad)

-- all items were taken
pub so_far_all : (items : Items) (cap done : ℕ) (start progress : Progress) (before header : Header)
    (old load : Extents) (first current : State) → items.count ≤ done
    → TakenSoFar items cap done start progress before header old load first current
    → IsTrue first.tells → (p : Passing) → Stands items.part cap p start before old
    → Taken items.part cap (read_part items first.file p) progress header load
so_far_all items cap done start progress before header old load first current end t told p stands =
    let part = items.part in
    let was = t.taken told p stands in
    let all : items.count ≡ done = omega (arith, end, t.few) in
    record {
      passing = was.passing;
      read = ap (λ n. read_items (item_step part) (item_len part) n first.file items.at p) all ∙ was.read;
      stands = was.stands;
    }
