-- Reading one record more, and refusals that go on.
use Rattle.std.specs.Prelude.{◌≡◌, refl, ℕ, suc, ◌+◌, ◌-◌, ◌<◌, List, [], ◌∷◌, ◌++◌, length, map, take, drop, Option, Some, Result, Ok, Err, IfErr, OnOk}
use Rattle.std.proofs.Common.{arith, ap, ◌∙◌, sym, subst}
use Rattle.std.proofs.lemmas.List.{take_all, append_assoc, length-drop}
use Rattle.byte_ranges.specs.Lists.{◌>>=◌}
use Rattle.slot_codec.specs.Choice.{SlotRefusal, first_record, placed_at, plain, read_records, record_after}
use Rattle.slot_codec.specs.Spelling.{record_len}
use Rattle.slot_codec.specs.declared.codec.Record.{Record}
use Rattle.slot_codec.specs.declared.codec.CodecFault.{CodecFault}
use Rattle.slot_pair.specs.Finding.{Refuses}
use Rattle.slot_pair.specs.declared.find.SlotFault.{SlotFault}
use Rattle.slot_pair.specs.declared.find.SlotFault.TheVariants as fault
use Rattle.slot_pair.proofs.RefusalLaws.{refuses_on}
use Rattle.plain_layout.specs.Refusals.{RefusesBy, behind}
use Rattle.plain_layout.specs.declared.opened.Refusal.{Refusal}
use Rattle.plain_layout.specs.declared.opened.Refusal.TheVariants as refusal

-- what is refused stays refused when one goes on
pub refuses_by_on : {A B : Type 0} (r : Result A SlotRefusal) (f : A → Result B SlotRefusal) (why : Refusal)
    → RefusesBy r why → RefusesBy (r >>= f) why
refuses_by_on r f (refusal.Slot g) h = refuses_on r f g h
refuses_by_on r f (refusal.Rule number at) h = h
refuses_by_on r f refusal.NoMemory h = h

-- what the next record's bytes say, at their position
pub next_read : (version : ℕ) (text : List ℕ) (at : ℕ) (before : Option (List ℕ)) (r : Record)
    → Ok r ≡ record_after version (take (record_len version) text) before
    → first_record version text at before ≡ Ok r
next_read version text at before r is = ap (λ said. placed_at at said) (sym is)

pub next_refused : (version : ℕ) (text : List ℕ) (at : ℕ) (before : Option (List ℕ)) (f : CodecFault)
    → Err f ≡ record_after version (take (record_len version) text) before
    → Refuses (first_record version text at before) (fault.Codec f at)
next_refused version text at before f is = ap (λ said. placed_at at said) (sym is)

-- after the first record, the others
rest_of : ℕ → ℕ → List ℕ → ℕ → Record → Result (List Record) SlotRefusal
rest_of version n text at r =
    read_records version n (drop (record_len version) text) (at + record_len version) (Some r.name)

then_rest : ℕ → ℕ → List ℕ → ℕ → Record → Result (List Record) SlotRefusal
then_rest version n text at r = rest_of version n text at r >>= λ rest. Ok (r ∷ rest)

one_step : (version n : ℕ) (text : List ℕ) (at : ℕ) (before : Option (List ℕ))
    → read_records version (suc n) text at before
    ≡ (first_record version text at before >>= then_rest version n text at)
unfolding then_rest rest_of
one_step version n text at before = refl

read_step : (version count : ℕ) (text : List ℕ) (at : ℕ) (before : Option (List ℕ)) → 0 < count
    → read_records version count text at before
    ≡ (first_record version text at before >>= then_rest version (count - 1) text at)
read_step version count text at before some =
    let e : count ≡ suc (count - 1) = omega (arith, some) in
    ap (λ n. read_records version n text at before) e ∙ one_step version (count - 1) text at before

read_step-good : (version count : ℕ) (text : List ℕ) (at : ℕ) (before : Option (List ℕ)) (r : Record)
    → 0 < count → first_record version text at before ≡ Ok r
    → read_records version count text at before
    ≡ (rest_of version (count - 1) text at r >>= λ rest. Ok (r ∷ rest))
unfolding then_rest
read_step-good version count text at before r some good = read_step version count text at before some
    ∙ ap (λ x. x >>= then_rest version (count - 1) text at) good

pub read_step-bad : (version count : ℕ) (text : List ℕ) (at : ℕ) (before : Option (List ℕ)) (why : SlotFault)
    → 0 < count → Refuses (first_record version text at before) why
    → Refuses (read_records version count text at before) why
read_step-bad version count text at before why some bad =
    subst (λ x. Refuses x why) (sym (read_step version count text at before some))
    (refuses_on (first_record version text at before) (then_rest version (count - 1) text at) why bad)

behind_one : (old : List Record) (r : Record) (rest : Result (List Record) SlotRefusal)
    → behind old (rest >>= λ rs. Ok (r ∷ rs)) ≡ behind (old ++ (plain r ∷ [])) rest
behind_one old r (Ok rs) = ap Ok (sym (append_assoc old (plain r ∷ []) (map plain rs)))
behind_one old r (Err e) = refl

-- the text behind the first bytes
behind_first : (l : ℕ) (text : List ℕ) → take (length text - l) (drop l text) ≡ drop l text
behind_first l text = let h : length (drop l text) ≡ length text - l = length-drop l text in
    take_all (length text - l) (drop l text) (omega (arith, h))

-- what is read of the others, which have so many bytes each, behind a name
others : (version l count : ℕ) → List ℕ → ℕ → List ℕ → Result (List Record) SlotRefusal
others version l count text at name =
    read_records version (count - 1) (take (length text - l) (drop l text)) (at + l) (Some name)

rest_of_others : (version l count : ℕ) → l ≡ record_len version → (text : List ℕ) (at : ℕ) (r : Record)
    → rest_of version (count - 1) text at r ≡ others version l count text at r.name
unfolding rest_of others
rest_of_others version l count len text at r =
    ap (λ k. read_records version (count - 1) (drop k text) (at + k) (Some r.name)) (sym len)
    ∙ ap (λ t. read_records version (count - 1) t (at + l) (Some r.name)) (sym (behind_first l text))

whole : (version l count : ℕ) → l ≡ record_len version → (text : List ℕ) (at : ℕ)
    (before : Option (List ℕ)) (r : Record) → 0 < count → first_record version text at before ≡ Ok r
    → read_records version count text at before
    ≡ (others version l count text at r.name >>= λ rest. Ok (r ∷ rest))
whole version l count len text at before r some good =
    read_step-good version count text at before r some good
    ∙ ap (λ x. x >>= λ rest. Ok (r ∷ rest)) (rest_of_others version l count len text at r)

pub read_more : (version l count : ℕ) → l ≡ record_len version → (text : List ℕ) (at : ℕ)
    (before : Option (List ℕ)) (r : Record)
    (old new : List Record) (name : List ℕ) → 0 < count → first_record version text at before ≡ Ok r
    → new ≡ old ++ (plain r ∷ []) → name ≡ r.name
    → behind old (read_records version count text at before)
    ≡ behind new (read_records version (count - 1) (take (length text - l) (drop l text)) (at + l)
    (Some name))
unfolding others
read_more version l count len text at before r old new name some good more named =
    ap (behind old) (whole version l count len text at before r some good)
    ∙ behind_one old r (others version l count text at r.name)
    ∙ ap (λ rs. behind rs (others version l count text at r.name)) (sym more)
    ∙ ap (λ n. behind new (others version l count text at n)) (sym named)

pub refused_more : (version l count : ℕ) → l ≡ record_len version → (text : List ℕ) (at : ℕ)
    (before : Option (List ℕ)) (r : Record)
    (name : List ℕ) (why : Refusal) → 0 < count → first_record version text at before ≡ Ok r → name ≡ r.name
    → RefusesBy (read_records version (count - 1) (take (length text - l) (drop l text)) (at + l)
    (Some name)) why
    → RefusesBy (read_records version count text at before) why
unfolding others
refused_more version l count len text at before r name why some good named bad =
    let here : RefusesBy (others version l count text at r.name) why =
    subst (λ n. RefusesBy (others version l count text at n) why) named bad in
    subst (λ x. RefusesBy x why) (sym (whole version l count len text at before r some good))
    (refuses_by_on (others version l count text at r.name) (λ rest. Ok (r ∷ rest)) why here)

-- from a clause of an answer to another
pub on_err : {A E : Type 0} (result : Result A E) (P Q : E → Type 0) → ((e : E) → P e → Q e) → IfErr result P
    → IfErr result Q
on_err (Ok x) P Q f h = h
on_err (Err e) P Q f h = f e h

pub on_ok : {A E : Type 0} (result : Result A E) (P Q : Type 0) → (P → Q) → OnOk result P → OnOk result Q
on_ok (Ok x) P Q f h = f h
on_ok (Err e) P Q f h = h
