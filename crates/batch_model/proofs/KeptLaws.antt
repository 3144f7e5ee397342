-- A map in which a batch is kept, and a change of it.
use Rattle.std.specs.Prelude.{◌≡◌, ℕ, false, cond, List, Some, None}
use Rattle.std.proofs.Common.{ap, sym, ◌∙◌, inl, inr}
use Rattle.std.proofs.lemmas.Bool.{cases_Bool, cond-true, cond-false}
use Rattle.std.specs.FinMap as fin
use Rattle.map_model.specs.Maps.{Map}
use Rattle.map_model.specs.Requests.{Change, changed}
use Rattle.map_model.specs.Weights.{same_name}
use Rattle.map_model.proofs.MapLaws.{name_order, names_differ, same_name-is}
use Rattle.batch_model.specs.Batches.{IsPart, batch_name}
use Rattle.batch_model.specs.Views.{unbatched}
use Rattle.batch_model.proofs.AppliedLaws.{get-changed}

-- a map that keeps a text is that text put into the map without it
pub kept_again : (m : Map) (text : List ℕ) → fin.get m batch_name ≡ Some text
    → fin.insert (unbatched m) batch_name text ≡ m
kept_again m text there = fin.same_map name_order names_differ (fin.insert (unbatched m) batch_name text) m
    (λ q. fin.get-insert name_order (unbatched m) batch_name text q
    ∙ ap (cond (same_name q batch_name) (Some text)) (fin.get-remove name_order m batch_name q)
    ∙ elim (cases_Bool (same_name q batch_name))
    as (λ _. cond (same_name q batch_name) (Some text) (cond (same_name q batch_name) None (fin.get m q))
    ≡ fin.get m q) [
      | inl same ↦ cond-true (same_name q batch_name) (Some text) _ same
          ∙ sym (ap (fin.get m) (same_name-is q batch_name same) ∙ there)
      | inr other ↦ cond-false (same_name q batch_name) (Some text) _ other
          ∙ cond-false (same_name q batch_name) None (fin.get m q) other
    ])

-- a part of a batch is done to the rest of the map
pub kept_changed : (m : Map) (text : List ℕ) (c : Change) → IsPart c
    → changed c (fin.insert m batch_name text) ≡ fin.insert (changed c m) batch_name text
kept_changed m text c part = fin.same_map name_order names_differ (changed c (fin.insert m batch_name text))
    (fin.insert (changed c m) batch_name text)
    (λ q. get-changed c (fin.insert m batch_name text) q
    ∙ ap (cond (same_name q c.name) c.object) (fin.get-insert name_order m batch_name text q)
    ∙ at q
    ∙ sym (fin.get-insert name_order (changed c m) batch_name text q
    ∙ ap (cond (same_name q batch_name) (Some text)) (get-changed c m q)))
  where
    at : (q : List ℕ)
        → cond (same_name q c.name) c.object (cond (same_name q batch_name) (Some text) (fin.get m q))
        ≡ cond (same_name q batch_name) (Some text) (cond (same_name q c.name) c.object (fin.get m q))
    at q = elim (cases_Bool (same_name q batch_name))
        as (λ _. cond (same_name q c.name) c.object (cond (same_name q batch_name) (Some text) (fin.get m q))
        ≡ cond (same_name q batch_name) (Some text) (cond (same_name q c.name) c.object (fin.get m q))) [
          | inl same ↦
              let away : same_name q c.name ≡ false =
              ap (λ (n : List ℕ). same_name n c.name) (same_name-is q batch_name same) ∙ part.other in
              cond-false (same_name q c.name) c.object _ away
              ∙ cond-true (same_name q batch_name) (Some text) (fin.get m q) same
              ∙ sym (cond-true (same_name q batch_name) (Some text) _ same)
          | inr other ↦
              ap (cond (same_name q c.name) c.object)
              (cond-false (same_name q batch_name) (Some text) (fin.get m q) other)
              ∙ sym (cond-false (same_name q batch_name) (Some text) _ other)
        ]
