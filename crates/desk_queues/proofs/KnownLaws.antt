-- The bytes of rings are the texts of one list of requests for each session.
use Rattle.std.specs.Prelude.{◌≡◌, ℕ, suc, ◌<◌, List, [], ◌∷◌, length, slice_index_or, refl}
use Rattle.std.proofs.Common.{arith, ap, sym, ◌∙◌, length-append}
use Rattle.std.specs.List.{AllByRecursion}
use Rattle.map_model.specs.Requests.{Request}
use Rattle.ask_text.specs.Inputs.{HasText, request_text}
use Rattle.ask_text.proofs.InputLaws.{text_one, text_some}
use Rattle.desk_model.specs.Desks.{texts_of}
use Rattle.desk_model.specs.Events.{sessions}
use Rattle.desk_queues.specs.Queues.{Holds, Queued}

-- texts are those of one list
texts_once : (q p : List Request) → AllByRecursion HasText q → AllByRecursion HasText p
    → texts_of q ≡ texts_of p → q ≡ p
texts_once [] [] a b is = refl
texts_once [] (s ∷ p) a b is =
    absurd (omega (arith, text_some s, ap length is, length-append (request_text s) (texts_of p)))
texts_once (r ∷ q) [] a b is =
    absurd (omega (arith, text_some r, ap length is, length-append (request_text r) (texts_of q)))
texts_once (r ∷ q) (s ∷ p) a b is =
    let one = text_one r s (texts_of q) (texts_of p) a.0 b.0 is in
    let rest = texts_once q p a.1 b.1 one.1 in
    λ i. one.0 i ∷ rest i

-- lists that agree at each place
same_lists : (qs ps : List (List Request)) → length qs ≡ length ps
    → ((s : ℕ) → s < length qs → slice_index_or qs s [] ≡ slice_index_or ps s []) → qs ≡ ps
same_lists [] [] long each = refl
same_lists [] (p ∷ ps) long each = absurd (omega (arith, long))
same_lists (q ∷ qs) [] long each = absurd (omega (arith, long))
same_lists (q ∷ qs) (p ∷ ps) long each =
    let first : q ≡ p = each 0 (omega arith) in
    let rest = same_lists qs ps (omega (arith, long)) (λ s within. each (suc s) (omega arith)) in
    λ i. first i ∷ rest i

pub holds_once : (v : Queued) (qs others : List (List Request)) → Holds v qs → Holds v others → qs ≡ others
holds_once v qs others h g = same_lists qs others (h.queues ∙ sym g.queues) (λ s within.
    let few : s < sessions = omega (arith, within, h.queues) in
    let its = h.each s few in
    let other = g.each s few in
    texts_once (slice_index_or qs s []) (slice_index_or others s []) its.each other.each
    (sym its.texts ∙ other.texts))
