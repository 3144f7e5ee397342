-- A load says one thing of an input.
use Rattle.std.specs.Prelude.{◌≡◌, ℕ, ◌≤◌, zero, suc, List, ◌∷◌, ◌++◌, codes, Result, Ok, Err, IsOk, refl}
use Rattle.std.proofs.Common.{arith, ap, sym, ◌∙◌, subst, append_assoc}
use Rattle.std.specs.FinMap as fin
use Rattle.size_class.specs.declared.TheConstants.{CLASSES, SIZE_MAX}
use Rattle.map_model.specs.Maps.{Map}
use Rattle.map_model.specs.Weights.{Entry}
use Rattle.dump_stream.specs.Dumps.{IsDumpOf, objects_text}
use Rattle.dump_stream.specs.Heads.{head_line}
use Rattle.dump_stream.specs.Loading.{BeginsNone, BeginsWith, ReadsTo}
use Rattle.dump_stream.proofs.HeadLaws.{head_one}
use Rattle.load_stream.specs.declared.fault.LoadFault.{LoadFault}
use Rattle.load_stream.specs.declared.fault.LoadFault.TheVariants as why
use Rattle.load_stream.specs.Loaded.{AnswersLoad, IsDumpWithin, Judges, StopsBelow, TellsFew, TellsTooMany}
use Rattle.load_stream.proofs.StopLaws.{dump_never_stops, dump_reads, stops_once}

-- ---- the first line

line_in : {input : List ℕ} {n : ℕ} (b : BeginsWith CLASSES input n)
    → input ≡ head_line CLASSES n b.volumes ++ 10 ∷ b.rest
line_in {input} {n} b = b.whole ∙ append_assoc (head_line CLASSES n b.volumes) (codes "\n") b.rest

begins_once : (input : List ℕ) (m n : ℕ) → BeginsWith CLASSES input m → BeginsWith CLASSES input n → m ≡ n
begins_once input m n a b =
    (head_one CLASSES m n a.volumes b.volumes (10 ∷ a.rest) (10 ∷ b.rest) (omega arith) a.head b.head
    (omega arith)
    (omega arith) (sym (line_in a) ∙ line_in b)).0

reads_begins : {input : List ℕ} {count : ℕ} {vs rest : List ℕ} {es : List Entry}
    → ReadsTo CLASSES SIZE_MAX input count vs es rest → BeginsWith CLASSES input count
reads_begins {input} {count} {vs} {rest} {es} r = record {
  volumes = vs;
  rest = objects_text es ++ rest;
  head = r.head;
  whole = r.whole ∙ append_assoc (head_line CLASSES count vs ++ codes "\n") (objects_text es) rest;
}

-- ---- what excludes what

module _ (names : ℕ) (input : List ℕ) where
  dump_begins : (d : IsDumpWithin names input) → BeginsWith CLASSES input (fin.len d.objects)
  dump_begins d = reads_begins (dump_reads CLASSES SIZE_MAX d.objects input (omega arith) (omega arith)
      d.dump)

  dump_stops : (n : ℕ) → IsDumpWithin names input → StopsBelow names input n → ⊥
  dump_stops n d s = dump_never_stops CLASSES SIZE_MAX n d.objects input (omega arith) (omega arith)
      (omega arith)
      d.dump s.at

  many_begins : {n m : ℕ} → m ≤ names → BeginsWith CLASSES input m → TellsTooMany names input n → ⊥
  many_begins {n} {m} few b t = omega (arith, few, t.more, begins_once input m n b t.begins)

  -- a first line for whose names there is room is one, and not of too many
  pub few_first : TellsFew names input
      → (BeginsNone CLASSES input → ⊥) × ((n : ℕ) → TellsTooMany names input n → ⊥)
  few_first t = (λ none. none t.count t.begins, λ n many. many_begins t.few t.begins many)

  pub answers_once : (a b : Result Unit LoadFault) → Judges a → Judges b → AnswersLoad names input a
      → AnswersLoad names input b → a ≡ b
  answers_once (Ok x) (Ok y) j k p q = refl
  answers_once (Ok x) (Err (why.Line zero)) j k p q = absurd (q (fin.len p.objects) (dump_begins p))
  answers_once (Ok x) (Err (why.Line (suc n))) j k p q = absurd (dump_stops (suc n) p q)
  answers_once (Ok x) (Err (why.TooMany n)) j k p q = absurd (many_begins p.few (dump_begins p) q)
  answers_once (Err (why.Line zero)) (Ok y) j k p q = absurd (p (fin.len q.objects) (dump_begins q))
  answers_once (Err (why.Line (suc n))) (Ok y) j k p q = absurd (dump_stops (suc n) q p)
  answers_once (Err (why.TooMany n)) (Ok y) j k p q = absurd (many_begins q.few (dump_begins q) p)
  answers_once (Err (why.Line zero)) (Err (why.Line zero)) j k p q = refl
  answers_once (Err (why.Line zero)) (Err (why.Line (suc n))) j k p q =
      absurd (p q.at.count (reads_begins q.at.reads))
  answers_once (Err (why.Line (suc n))) (Err (why.Line zero)) j k p q =
      absurd (q p.at.count (reads_begins p.at.reads))
  answers_once (Err (why.Line (suc n))) (Err (why.Line (suc m))) j k p q = ap (λ (i : ℕ). Err (why.Line i))
      (stops_once CLASSES SIZE_MAX (omega arith) (omega arith) input (suc n) (suc m) p.at q.at)
  answers_once (Err (why.Line zero)) (Err (why.TooMany n)) j k p q = absurd (p n q.begins)
  answers_once (Err (why.TooMany n)) (Err (why.Line zero)) j k p q = absurd (q n p.begins)
  answers_once (Err (why.Line (suc n))) (Err (why.TooMany m)) j k p q =
      absurd (many_begins p.few (reads_begins p.at.reads) q)
  answers_once (Err (why.TooMany m)) (Err (why.Line (suc n))) j k p q =
      absurd (many_begins q.few (reads_begins q.at.reads) p)
  answers_once (Err (why.TooMany n)) (Err (why.TooMany m)) j k p q =
      ap (λ (i : ℕ). Err (why.TooMany i)) (begins_once input n m p.begins q.begins)
  answers_once (Err why.NoMemory) b j k p q = absurd j
  answers_once (Err why.Disk) b j k p q = absurd j
  answers_once (Err why.Source) b j k p q = absurd j
  answers_once a (Err why.NoMemory) j k p q = absurd k
  answers_once a (Err why.Disk) j k p q = absurd k
  answers_once a (Err why.Source) j k p q = absurd k

  pub dump_loads : (m : Map) (a : Result Unit LoadFault) → Judges a → IsDumpOf CLASSES SIZE_MAX m input
      → fin.len m ≤ names → AnswersLoad names input a → IsOk a
  dump_loads m a j d few p = subst IsOk (answers_once (Ok tt) a tt j
      (record { objects = m; dump = d; few = few }) p) refl
