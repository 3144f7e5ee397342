-- What a get is answered depends on its name's object and digest alone, and these stay in most requests.
use Rattle.std.specs.Prelude.{◌≡◌, ℕ, Bool, true, false, not, List, [], ◌∷◌, ◌++◌, Option, Some, None, option_map, is_some, refl}
use Rattle.std.proofs.Common.{ap, sym, ◌∙◌, inl, inr}
use Rattle.std.proofs.lemmas.Bool.{cases_Bool, cond-false}
use Rattle.std.specs.FinMap as fin
use Rattle.std.specs.Cmp.Lexicographic.{bytes_decides}
use Rattle.sha2.specs.Sha256.{sha256}
use Rattle.map_model.specs.Maps.{Map}
use Rattle.map_model.specs.Requests as ask
use Rattle.map_model.specs.Requests.{Change, Refused, Reply, Request, changed}
use Rattle.map_model.specs.Weights.{same_name}
use Rattle.map_model.proofs.MapLaws.{name_order, same_name-is}
use Rattle.segment_layout.specs.Books.{Book, differs, digests_after, is_damaged, next_book}
use Rattle.store_model.specs.Digested.{digest_of}
use Rattle.store_model.specs.States.{Limits, Served, State, Step, facts_of, first_refusal, name_test, object_in, refusal, served, served_change}
use Rattle.store_model.proofs.DigestLaws.{next_digests}
use Rattle.store_model.proofs.RequestLaws.{served_by}
use Rattle.store_model.proofs.StepLaws.{read_reply}
use Rattle.read_cache.specs.Lists.{is_name}

-- two states have the same object under a name, which is to have the same digest
pub record SameAt (name : List ℕ) (s t : State) : Type 0 where
  pub object : fin.get t.map name ≡ fin.get s.map name
  pub digest : digest_of t.book.digests name ≡ digest_of s.book.digests name

-- ---- what a get is answered

damaged_by : (book : Book) (m : Map) (name : List ℕ)
    → is_damaged book m name ≡ differs (digest_of book.digests name) (fin.get m name)
damaged_by book m name = elim book.digests as (λ ds. is_damaged (record book { digests = ds }) m name
    ≡ differs (digest_of ds name) (fin.get m name)) [
      | None ↦ refl
      | Some ds ↦ refl
    ]

-- the reply to a get, by what it depends on
pub get_reply : (l : Limits) (s : State) (name : List ℕ)
    → refusal l (facts_of s (ask.get name)) (ask.get name) ≡ None
    → (served l s (ask.get name)).reply
    ≡ read_reply (is_damaged s.book s.map name) (ask.found (object_in s.map name))
get_reply l s name is = ap (λ (x : Served). x.reply) (served_by l s (ask.get name) None is)

pub get_alike : (l k : Limits) (s t : State) (name : List ℕ) → SameAt name s t
    → (served k t (ask.get name)).reply ≡ (served l s (ask.get name)).reply
get_alike l k s t name same = by (refusal l (facts_of s (ask.get name)) (ask.get name)) refl
  where
    refusals : refusal k (facts_of t (ask.get name)) (ask.get name)
        ≡ refusal l (facts_of s (ask.get name)) (ask.get name)
    refusals = ap (λ (o : Option (List ℕ)). first_refusal (name_test name
        ++ (not (is_some o), ask.missing) ∷ [])) same.object

    objects : object_in t.map name ≡ object_in s.map name
    objects = rw same.object refl

    damaged : is_damaged t.book t.map name ≡ is_damaged s.book s.map name
    damaged = damaged_by t.book t.map name
        ∙ ap (λ (d : Option (List ℕ)). differs d (fin.get t.map name)) same.digest
        ∙ ap (differs (digest_of s.book.digests name)) same.object
        ∙ sym (damaged_by s.book s.map name)

    by : (o : Option Refused) → refusal l (facts_of s (ask.get name)) (ask.get name) ≡ o
        → (served k t (ask.get name)).reply ≡ (served l s (ask.get name)).reply
    by None is = get_reply k t name (refusals ∙ is)
        ∙ ap (λ (b : Bool). read_reply b (ask.found (object_in t.map name))) damaged
        ∙ ap (λ (o : List ℕ). read_reply (is_damaged s.book s.map name) (ask.found o)) objects
        ∙ sym (get_reply l s name is)
    by (Some why) is = ap (λ (x : Served). x.reply) (served_by k t (ask.get name) (Some why) (refusals ∙ is))
        ∙ sym (ap (λ (x : Served). x.reply) (served_by l s (ask.get name) (Some why) is))

-- ---- changes and keeps

-- a change leaves what stands under other names
pub other_name : (name q : List ℕ) → is_name name q ≡ false → same_name q name ≡ false
other_name name q other = elim (cases_Bool (same_name q name)) as (λ _. same_name q name ≡ false) [
  | inl same ↦ absurd (let bad : is_name name q ≡ true =
      (bytes_decides name q).1 (sym (same_name-is q name same)) in
      let no : true ≡ false = sym bad ∙ other in cc)
  | inr is ↦ is
]

pub get_other : (c : Change) (m : Map) (q : List ℕ) → is_name c.name q ≡ false
    → fin.get (changed c m) q ≡ fin.get m q
get_other c m q other = by c.object
  where
    away : same_name q c.name ≡ false
    away = other_name c.name q other

    by : (object : Option (List ℕ)) → fin.get (changed (record { name = c.name; object = object }) m) q
        ≡ fin.get m q
    by None = fin.get-remove name_order m c.name q ∙ cond-false (same_name q c.name) None (fin.get m q) away
    by (Some object) = fin.get-insert name_order m c.name object q
        ∙ cond-false (same_name q c.name) (Some object) (fin.get m q) away

digest_other : (c : Change) (ds : Option Map) (q : List ℕ) → is_name c.name q ≡ false
    → digest_of (digests_after c ds) q ≡ digest_of ds q
digest_other c None q other = refl
digest_other c (Some ds) q other =
    get_other (record { name = c.name; object = option_map sha256 c.object }) ds q other

module _ (limits : Limits) (s t : State) (reply : Reply) (q : List ℕ) where
  same_in : (r : Request) → Step limits s r reply t
      → (x : Served) → served limits s r ≡ x → SameAt q s x.state → SameAt q s t
  same_in r step x is same = record {
    object = ap (λ (y : State). fin.get y.map q) step.state
        ∙ ap (λ (y : Served). fin.get y.state.map q) is ∙ same.object;
    digest = ap (λ (y : State). digest_of y.book.digests q) step.state
        ∙ ap (λ (y : Served). digest_of y.state.book.digests q) is ∙ same.digest;
  }

  same_itself : SameAt q s s
  same_itself = record { object = refl; digest = refl }

  pub keep_same : Step limits s ask.keep reply t → SameAt q s t
  keep_same step = by (refusal limits (facts_of s ask.keep) ask.keep) refl
    where
      by : (o : Option Refused) → refusal limits (facts_of s ask.keep) ask.keep ≡ o → SameAt q s t
      by None is = same_in ask.keep step _ (served_by limits s ask.keep None is)
          (record { object = refl; digest = refl })
      by (Some why) is = same_in ask.keep step _ (served_by limits s ask.keep (Some why) is) same_itself

  pub change_same : (c : Change) → is_name c.name q ≡ false → Step limits s (ask.change c) reply t
      → SameAt q s t
  change_same c other step = by (refusal limits (facts_of s (ask.change c)) (ask.change c)) refl
    where
      map_is : (b : Bool) → (next_book limits.k s.map s.book c).quiet ≡ b
          → (served_change limits s c).state.map ≡ changed c s.map
      map_is true is = rw is refl
      map_is false is = rw is refl

      book_is : (b : Bool) → (next_book limits.k s.map s.book c).quiet ≡ b
          → (served_change limits s c).state.book ≡ (next_book limits.k s.map s.book c).book
      book_is true is = rw is refl
      book_is false is = rw is refl

      made : SameAt q s (served_change limits s c).state
      made = record {
        object = ap (λ (m : Map). fin.get m q) (map_is (next_book limits.k s.map s.book c).quiet refl)
            ∙ get_other c s.map q other;
        digest = ap (λ (b : Book). digest_of b.digests q)
            (book_is (next_book limits.k s.map s.book c).quiet refl)
            ∙ ap (λ (ds : Option Map). digest_of ds q) (next_digests limits.k s.map s.book c)
            ∙ digest_other c s.book.digests q other;
      }

      by : (o : Option Refused) → refusal limits (facts_of s (ask.change c)) (ask.change c) ≡ o → SameAt q s t
      by None is = same_in (ask.change c) step _ (served_by limits s (ask.change c) None is)
          made
      by (Some why) is = same_in (ask.change c) step _ (served_by limits s (ask.change c) (Some why) is)
          same_itself
