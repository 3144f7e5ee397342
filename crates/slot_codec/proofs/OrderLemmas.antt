-- What the order of two things says of them.
use Rattle.std.specs.Prelude.{◌≡◌, true, false, refl}
use Rattle.std.proofs.Common.{ap}
use Rattle.std.specs.Ordering.{is_eq, is_lt, ordering_reverse}
use Rattle.std.specs.declared.cmp.Ordering.{Ordering}
use Rattle.std.specs.declared.cmp.Ordering.TheVariants.{Less, Equal, Greater}

pub is_less : (o : Ordering) → is_lt o ≡ true → o ≡ Less
is_less Less h = refl
is_less Equal h = absurd (cc)
is_less Greater h = absurd (cc)

-- what is less isn't tied
pub not_tied : (o : Ordering) → is_lt o ≡ true → is_eq o ≡ false
not_tied Less h = refl
not_tied Equal h = absurd (cc)
not_tied Greater h = absurd (cc)

-- nor is what is greater
pub not_tied_back : (r s : Ordering) → s ≡ ordering_reverse r → is_lt r ≡ true → is_eq s ≡ false
not_tied_back Less s back low = ap is_eq back
not_tied_back Equal s back low = absurd (cc)
not_tied_back Greater s back low = absurd (cc)
