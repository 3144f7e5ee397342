-- Which request a line and an object are.
use Rattle.std.proofs.Common.{◌≡◌, ℕ, ◌≤◌, List, length, take, ap, sym, ◌∙◌, subst, refl, Option, Some, None}
use Rattle.size_class.specs.declared.TheConstants.{SIZE_MAX}
use Rattle.map_model.specs.Requests.{Change, Request}
use Rattle.map_model.specs.Requests as request
use Rattle.store_model.specs.Quiet.{del_of, put_of}
use Rattle.ask_text.specs.Asks.{ask_of, change_ask}
use Rattle.ask_text.specs.declared.ask.Ask.{Ask}
use Rattle.ask_text.specs.declared.ask.Ask.TheVariants as ask
use Rattle.ask_session.specs.Inputs.{HasBody}

-- a put, and its object
pub record IsPut (r : Request) (name : List ℕ) (size : ℕ) (body : List ℕ) : Type 0 where
  pub object : List ℕ
  pub is : r ≡ request.change (put_of name object)
  pub long : length object ≡ size
  pub held : size ≤ SIZE_MAX → take size body ≡ object

changed_put : (c : Change) (o : Option (List ℕ)) (name body : List ℕ) (size : ℕ) → c.object ≡ o
    → change_ask c.name o ≡ ask.Put name size
    → HasBody body (request.change (record { name = c.name; object = o }))
    → IsPut (request.change c) name size body
changed_put c None name body size is asked has = absurd (cc)
changed_put c (Some object) name body size is asked has =
    let same : c.name ≡ name = (cc) in
    let long : length object ≡ size = (cc) in
    record {
      object = object;
      is = λ i. request.change (record { name = same i; object = is i });
      long = long;
      held = λ small. ap (λ (n : ℕ). take n body) (sym long)
          ∙ has (subst (λ (n : ℕ). n ≤ SIZE_MAX) (sym long) small);
    }

pub put_is : (r : Request) (name body : List ℕ) (size : ℕ) → ask_of r ≡ ask.Put name size → HasBody body r
    → IsPut r name size body
put_is (request.change c) name body size asked has = changed_put c c.object name body size refl asked has
put_is (request.get n) name body size asked has = absurd (cc)
put_is (request.old n) name body size asked has = absurd (cc)
put_is request.keep name body size asked has = absurd (cc)
put_is request.back name body size asked has = absurd (cc)
put_is request.list name body size asked has = absurd (cc)
put_is request.stat name body size asked has = absurd (cc)

changed_del : (c : Change) (o : Option (List ℕ)) (name : List ℕ) → c.object ≡ o
    → change_ask c.name o ≡ ask.Del name
    → request.change c ≡ request.change (del_of name)
changed_del c None name is asked =
    let same : c.name ≡ name = (cc) in λ i. request.change (record { name = same i; object = is i })
changed_del c (Some object) name is asked = absurd (cc)

pub del_is : (r : Request) (name : List ℕ) → ask_of r ≡ ask.Del name → r ≡ request.change (del_of name)
del_is (request.change c) name asked = changed_del c c.object name refl asked
del_is (request.get n) name asked = absurd (cc)
del_is (request.old n) name asked = absurd (cc)
del_is request.keep name asked = absurd (cc)
del_is request.back name asked = absurd (cc)
del_is request.list name asked = absurd (cc)
del_is request.stat name asked = absurd (cc)

-- a number for each kind of line, 0 for those of changes
abbrev kind : Ask → ℕ
kind (ask.Put n k) = 0
kind (ask.Del n) = 0
kind (ask.Get n) = 1
kind (ask.Old n) = 2
kind ask.Keep = 3
kind ask.Back = 4
kind ask.List = 5
kind ask.Stat = 6

change_kind : (name : List ℕ) (o : Option (List ℕ)) → kind (change_ask name o) ≡ 0
change_kind name None = refl
change_kind name (Some object) = refl

no_change : (c : Change) (a : Ask) → (kind a ≡ 0 → ⊥) → ask_of (request.change c) ≡ a → ⊥
no_change c a other asked = other (sym (ap kind asked) ∙ change_kind c.name c.object)

pub get_is : (r : Request) (name : List ℕ) → ask_of r ≡ ask.Get name → r ≡ request.get name
get_is (request.change c) name asked = absurd (no_change c (ask.Get name) (λ e. absurd (cc)) asked)
get_is (request.get n) name asked = let e : n ≡ name = (cc) in ap request.get e
get_is (request.old n) name asked = absurd (cc)
get_is request.keep name asked = absurd (cc)
get_is request.back name asked = absurd (cc)
get_is request.list name asked = absurd (cc)
get_is request.stat name asked = absurd (cc)

pub old_is : (r : Request) (name : List ℕ) → ask_of r ≡ ask.Old name → r ≡ request.old name
old_is (request.change c) name asked = absurd (no_change c (ask.Old name) (λ e. absurd (cc)) asked)
old_is (request.get n) name asked = absurd (cc)
old_is (request.old n) name asked = let e : n ≡ name = (cc) in ap request.old e
old_is request.keep name asked = absurd (cc)
old_is request.back name asked = absurd (cc)
old_is request.list name asked = absurd (cc)
old_is request.stat name asked = absurd (cc)

pub keep_is : (r : Request) → ask_of r ≡ ask.Keep → r ≡ request.keep
keep_is (request.change c) asked = absurd (no_change c ask.Keep (λ e. absurd (cc)) asked)
keep_is (request.get n) asked = absurd (cc)
keep_is (request.old n) asked = absurd (cc)
keep_is request.keep asked = refl
keep_is request.back asked = absurd (cc)
keep_is request.list asked = absurd (cc)
keep_is request.stat asked = absurd (cc)

pub back_is : (r : Request) → ask_of r ≡ ask.Back → r ≡ request.back
back_is (request.change c) asked = absurd (no_change c ask.Back (λ e. absurd (cc)) asked)
back_is (request.get n) asked = absurd (cc)
back_is (request.old n) asked = absurd (cc)
back_is request.keep asked = absurd (cc)
back_is request.back asked = refl
back_is request.list asked = absurd (cc)
back_is request.stat asked = absurd (cc)

pub list_is : (r : Request) → ask_of r ≡ ask.List → r ≡ request.list
list_is (request.change c) asked = absurd (no_change c ask.List (λ e. absurd (cc)) asked)
list_is (request.get n) asked = absurd (cc)
list_is (request.old n) asked = absurd (cc)
list_is request.keep asked = absurd (cc)
list_is request.back asked = absurd (cc)
list_is request.list asked = refl
list_is request.stat asked = absurd (cc)

pub stat_is : (r : Request) → ask_of r ≡ ask.Stat → r ≡ request.stat
stat_is (request.change c) asked = absurd (no_change c ask.Stat (λ e. absurd (cc)) asked)
stat_is (request.get n) asked = absurd (cc)
stat_is (request.old n) asked = absurd (cc)
stat_is request.keep asked = absurd (cc)
stat_is request.back asked = absurd (cc)
stat_is request.list asked = absurd (cc)
stat_is request.stat asked = refl
