-- A map has one dump, and no dump is the front of another one.
use Rattle.std.specs.Prelude.{◌≡◌, ℕ, ◌^◌, ◌<◌, ◌≤◌, ◌&&◌, nat_le, nat_lt, List, [], ◌∷◌, ◌++◌, codes, length, refl, unwrap_or}
use Rattle.std.proofs.Common.{arith, sym, ap, ◌∙◌, append-nil, append_assoc}
use Rattle.std.proofs.lemmas.Bool.{and_from, and_parts, le-leb, leb-true}
use Rattle.std.proofs.lemmas.List.{append_cancel_left}
use Rattle.std.specs.List.{AllByRecursion, list_all}
use Rattle.std.specs.FinMap as fin
use Rattle.size_class.specs.Classes.{width}
use Rattle.size_class.specs.declared.TheConstants.{CLASSES, SIZE_MAX}
use Rattle.slot_codec.specs.Names.{IsName, is_name_byte}
use Rattle.map_model.specs.Maps.{Map}
use Rattle.map_model.specs.Requests as request
use Rattle.map_model.specs.Requests.{Change, Request}
use Rattle.map_model.specs.Weights.{Entry}
use Rattle.segment_layout.specs.Books.{volumes}
use Rattle.ask_text.specs.Inputs.{HasText}
use Rattle.ask_text.specs.Words.{IsWord}
use Rattle.ask_text.proofs.InputLaws.{text_one, named_word}
use Rattle.dump_stream.specs.Heads.{head_line}
use Rattle.dump_stream.specs.Dumps.{CanDump, IsDumpOf, IsObject, dump_text, object_text, objects_text, put_of}
use Rattle.dump_stream.proofs.HeadLaws.{head_of_map, head_one}

-- the put of an object has a text
pub object_has_text : (size_max : ℕ) (e : Entry) → size_max < 2 ^ 32 → IsObject size_max e
    → HasText (put_of e)
object_has_text size_max e fits is = (named_word e.0 is.named, omega (arith, is.small, fits))

name_put : Request → List ℕ
name_put (request.change c) = c.name
name_put _ = []

object_put : Request → List ℕ
object_put (request.change c) = unwrap_or c.object []
object_put _ = []

same_put : (e f : Entry) → put_of e ≡ put_of f → e ≡ f
unfolding name_put object_put
same_put e f is =
    let name : e.0 ≡ f.0 = ap name_put is in
    let object : e.1 ≡ f.1 = ap object_put is in
    λ i. (name i, object i)

texts_are : (e : Entry) (es : List Entry) (s : List ℕ)
    → objects_text (e ∷ es) ++ s ≡ object_text e ++ (objects_text es ++ s)
texts_are e es s = append_assoc (object_text e) (objects_text es) s

-- as many objects in front of a text are one list of objects
pub objects_one : (size_max : ℕ) (es fs : List Entry) (s t : List ℕ) → size_max < 2 ^ 32
    → length es ≡ length fs → AllByRecursion (IsObject size_max) es → AllByRecursion (IsObject size_max) fs
    → objects_text es ++ s ≡ objects_text fs ++ t → (es ≡ fs) × (s ≡ t)
objects_one size_max [] [] s t fits same a b h = (refl, h)
objects_one size_max [] (f ∷ fs) s t fits same a b h = absurd (omega (arith, same))
objects_one size_max (e ∷ es) [] s t fits same a b h = absurd (omega (arith, same))
objects_one size_max (e ∷ es) (f ∷ fs) s t fits same a b h =
    let one = text_one (put_of e) (put_of f) (objects_text es ++ s) (objects_text fs ++ t)
    (object_has_text size_max e fits a.0) (object_has_text size_max f fits b.0)
    (sym (texts_are e es s) ∙ h ∙ texts_are f fs t) in
    let rest = objects_one size_max es fs s t fits (omega (arith, same)) a.1 b.1 one.1 in
    let first : e ≡ f = same_put e f one.0 in
    let others : es ≡ fs = rest.0 in
    (λ i. first i ∷ others i, rest.1)

dump_is : (C : ℕ) (m : Map) (s : List ℕ) → dump_text C m ++ s
    ≡ head_line C (fin.len m) (volumes m) ++ 10 ∷ (objects_text (fin.entries m) ++ s)
dump_is C m s =
    append_assoc (head_line C (fin.len m) (volumes m) ++ codes "\n") (objects_text (fin.entries m)) s
    ∙ append_assoc (head_line C (fin.len m) (volumes m)) (codes "\n") (objects_text (fin.entries m) ++ s)

-- two dumps in front of one text are of one map
pub dump_one : (C size_max : ℕ) (m n : Map) (s t : List ℕ) → C ≤ width → size_max < 2 ^ C → size_max < 2 ^ 32
    → CanDump size_max m → CanDump size_max n → dump_text C m ++ s ≡ dump_text C n ++ t → (m ≡ n) × (s ≡ t)
dump_one C size_max m n s t few top fits a b h =
    let head = head_one C (fin.len m) (fin.len n) (volumes m) (volumes n) (10 ∷ (objects_text
    (fin.entries m) ++ s))
    (10 ∷ (objects_text (fin.entries n) ++ t)) few (head_of_map C size_max m few top a)
    (head_of_map C size_max n few top b) (omega arith) (omega arith) (sym (dump_is C m s) ∙ h
    ∙ dump_is C n t) in
    let behind : objects_text (fin.entries m) ++ s ≡ objects_text (fin.entries n) ++ t =
    append_cancel_left (10 ∷ []) _ _ head.1.1 in
    let all = objects_one size_max (fin.entries m) (fin.entries n) s t fits
    (sym (fin.len-entries m) ∙ head.0 ∙ fin.len-entries n) a.each b.each behind in
    (fin.same_entries_map m n all.0, all.1)

-- a text is the dump of one map
pub one_map : (m n : Map) (text : List ℕ) → IsDumpOf CLASSES SIZE_MAX m text
    → IsDumpOf CLASSES SIZE_MAX n text → m ≡ n
one_map m n text a b = (dump_one CLASSES SIZE_MAX m n [] [] (omega arith) (omega arith) (omega arith) a.can
    b.can (append-nil (dump_text CLASSES m) ∙ sym a.same ∙ b.same ∙ sym (append-nil (dump_text CLASSES n)))).0
