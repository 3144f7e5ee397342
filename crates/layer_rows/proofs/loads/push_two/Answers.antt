use Rattle.std.proofs.Common.{◌≡◌, List, ℕ, Bool, true, false, Some, cond, Less, refl, sym, ap, ◌∙◌, rules}
use Rattle.std.specs.FinMap as fin
use Rattle.std.specs.FinMap.{gets, nat_cmp-IsAntisymmetric, slice_cmp-IsAntisymmetric}
use Rattle.std.specs.Ordering.{eq_by_cmp, is_eq}
use Rattle.std.specs.declared.cmp.Ordering.{Ordering}
use Rattle.std.specs.declared.cmp.Ordering.TheVariants.{Equal, Greater}
use Rattle.std.proofs.lemmas.Cmp.{nat_list_cmp_total}
use Rattle.slot_codec.specs.Names.{name_cmp}
use Rattle.extent_table.specs.declared.spot.Spot.{Spot}
use Rattle.extent_table.specs.Extents.{Spots}
use Rattle.layer_rows.proofs.loads.push_two.Goals as goal

tie_of : (r : Ordering) → is_eq r ≡ true → r ≡ Equal
tie_of Less e = absurd (cc)
tie_of Equal e = refl
tie_of Greater e = absurd (cc)

-- what comes behind the one name of a map comes behind all of it
behind_one : (before after : Spots) (name next other : List ℕ) (spot there : Spot) → before ≡ fin.empty
    → after ≡ fin.insert before name spot → name_cmp name next ≡ Less → fin.get after other ≡ Some there
    → name_cmp other next ≡ Less
behind_one before after name next other spot there none is less at =
    ap (λ n. name_cmp n next) (tied (eq_by_cmp name_cmp other name) refl
    (sym (fin.get-insert nat_list_cmp_total fin.empty name spot other)
    ∙ ap (λ m. fin.get (fin.insert m name spot) other) (sym none) ∙ ap (λ m. fin.get m other) (sym is) ∙ at))
    ∙ less
  where
    tied : (b : Bool) → eq_by_cmp name_cmp other name ≡ b
        → cond b (Some spot) (fin.get (fin.empty {R = name_cmp}) other) ≡ Some there → other ≡ name
    tied true e h =
        slice_cmp-IsAntisymmetric nat_cmp-IsAntisymmetric other name (tie_of (name_cmp other name) e)
    tied false e h = absurd (let none = sym (fin.get-empty name_cmp other) ∙ h in cc)

pub push-behind-requires-clause-room : goal.push-behind-requires-clause-room
push-behind-requires-clause-room c = grind (rules, gets)

pub push-behind-requires-clause-behind : goal.push-behind-requires-clause-behind
push-behind-requires-clause-behind c = λ other there at. grind (rules, gets)

pub push-before-requires-clause-room : goal.push-before-requires-clause-room
push-before-requires-clause-room c = grind (rules, gets)

pub push-before-requires-clause-behind : goal.push-before-requires-clause-behind
push-before-requires-clause-behind c = λ other there at.
    behind_one _ _ _ _ other _ there (search rules) c.push-behind.ensures.now (search rules) at
