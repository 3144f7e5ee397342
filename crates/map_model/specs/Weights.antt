-- Sums over the entries of a map from names, each weighed by its name and its value, whatever its values are.
use Rattle.std.specs.Prelude.{ℕ, Bool, List, length, sum_by, Option, Some, None}
use Rattle.std.specs.Ordering.{eq_by_cmp}
use Rattle.std.specs.FinMap as fin
use Rattle.map_model.specs.Maps.{Map, name_cmp}

-- the weight of all entries together
abbrev pub weights : {X : Type 0} → ((List ℕ × X) → ℕ) → fin.FinMap name_cmp X → ℕ
weights f m = sum_by f (fin.entries m)

-- the weight of the entry of one name, or 0
abbrev pub weight : {X : Type 0} → ((List ℕ × X) → ℕ) → List ℕ → Option X → ℕ
weight f name None = 0
weight f name (Some v) = f (name, v)

abbrev pub weight_at : {X : Type 0} → ((List ℕ × X) → ℕ) → fin.FinMap name_cmp X → List ℕ → ℕ
weight_at f m name = weight f name (fin.get m name)

-- whether two names are one
abbrev pub same_name : List ℕ → List ℕ → Bool
same_name a b = eq_by_cmp name_cmp a b

-- a name and its object
abbrev pub Entry : Type 0
Entry = List ℕ × List ℕ

abbrev pub size_of_entry : Entry → ℕ
size_of_entry e = length e.1

-- the size of a name's object, or 0
abbrev pub size_at : Map → List ℕ → ℕ
size_at m name = weight_at size_of_entry m name
