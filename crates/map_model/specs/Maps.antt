-- Maps from names to byte strings.
use Rattle.std.specs.Prelude.{ℕ, List, length, max, fold, sum_by}
use Rattle.std.specs.Ordering.{nat_cmp}
use Rattle.std.specs.Cmp.Lexicographic.{slice_cmp}
use Rattle.std.specs.FinMap as fin
use Rattle.std.specs.declared.cmp.Ordering.{Ordering}

-- names are in order by their bytes, and a front of a name is less
abbrev pub name_cmp : List ℕ → List ℕ → Ordering
name_cmp = slice_cmp nat_cmp

-- what a store holds: a byte string for each name
abbrev pub Map : Type 0
Map = fin.FinMap name_cmp (List ℕ)

-- how many bytes the objects have together
abbrev pub volume : Map → ℕ
volume m = sum_by length (fin.values m)

-- the size of the largest object, or 0
abbrev pub largest : Map → ℕ
largest m = fold (λ n object. max n (length object)) 0 (fin.values m)
