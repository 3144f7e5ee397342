-- What the event `serve` of a session comes to.
use Rattle.std.specs.Prelude.{◌≡◌, ◌↔◌, ◌⊎◌, ℕ, ◌<◌, ◌≤◌, ◌==◌, Bool, true, false, not, ◌&&◌, ◌||◌, is_some, List, [], ◌∷◌, length, codes, slice_set, Option, Some, None, Result, IfSome, IsTrue, refl}
use Rattle.std.proofs.Common.{arith, ap, sym, ◌∙◌, subst, inl, inr, length-append}
use Rattle.disk_face.specs.Devices.{devices}
use Rattle.disk_face.specs.States as disk
use Rattle.disk_face.specs.Streams.{SinkState}
use Rattle.map_model.specs.Requests as ask
use Rattle.map_model.specs.Requests.{Change, Request}
use Rattle.store_model.specs.Connection.{FlushInHand, IsConnected, StoreValue, limits_of}
use Rattle.store_model.specs.Halves.{IsReadable}
use Rattle.store_model.specs.States.{Limits}
use Rattle.ask_text.specs.Asks.{ask_of, change_ask}
use Rattle.ask_text.specs.Inputs.{request_text}
use Rattle.ask_text.specs.declared.ask.Ask.{Ask}
use Rattle.ask_text.specs.declared.ends.End.{End}
use Rattle.ask_session.specs.Inputs.{size_asked}
use Rattle.desk_model.specs.Answers as answer
use Rattle.desk_model.specs.Answers.{Answer}
use Rattle.desk_model.specs.Desks.{Desk, Flush, ServesFirst, ServesIf, TakesIf, begins, is_read, queue_of, ring, texts_of, waits}
use Rattle.desk_model.specs.Events.{line_for, sessions}
use Rattle.desk_queues.specs.Queues.{Holds, Queued, StandsIn, requests_at}
use Rattle.desk_core.specs.Images.{Checkpoint, LeavesFrom, LeavesStep, kept_of, settled_of}
use Rattle.desk_core.specs.Playing.{CallsOnce, KeepsGoing, PlaysOne, TakesRequest, owned}
use Rattle.desk_core.specs.Shows.{ShowsParts, ShowsStore}
use Rattle.desk_core.specs.Telling.{PutsAll, is_read_ask}
use Rattle.desk_core.proofs.ImageLaws.{takes_kept}
use Rattle.desk_core.proofs.SaidLaws.{long_text}
use Rattle.desk_model.proofs.StepLaws.{reads_of}

pub either_low : (n of session : ℕ) → (n ≡ of) ⊎ (n ≡ session) → of < sessions → session < sessions
    → n < sessions
either_low n of session (inl e) a b = omega (arith, e, a)
either_low n of session (inr e) a b = omega (arith, e, b)

-- whether nothing waits, by a test of it
pub is_none : (b : Bool) (q : List Request) → (IsTrue b ↔ (q ≡ [])) → b ≡ true → q ≡ []
is_none b q is true_is = is.0 (subst IsTrue (sym true_is) refl)

pub not_none : (b : Bool) (q : List Request) → (IsTrue b ↔ (q ≡ [])) → b ≡ false → q ≡ [] → ⊥
not_none b q is false_is none = let e : true ≡ false = sym (is.1 none) ∙ false_is in absurd (cc)

-- ---- requests and their lines

change_no_read : (name : List ℕ) (o : Option (List ℕ)) → is_read_ask (change_ask name o) ≡ false
change_no_read name None = refl
change_no_read name (Some object) = refl

read_ask : (r : Request) → is_read_ask (ask_of r) ≡ is_read r
read_ask (ask.change c) = change_no_read c.name c.object
read_ask (ask.get name) = refl
read_ask (ask.old name) = refl
read_ask ask.keep = refl
read_ask ask.back = refl
read_ask ask.list = refl
read_ask ask.stat = refl

takes_queues : (b : Bool) (limits : Limits) (session : ℕ) (r : Request) (rest : List Request) (d : Desk)
    (x : Answer) (d' : Desk) → TakesIf b limits session r rest d x d'
    → d'.queues ≡ slice_set d.queues session rest
takes_queues true limits session r rest d x d' is = ap (λ (y : Desk). y.queues) is.1
takes_queues false limits session r rest d x d' is = ap (λ (y : Desk). y.queues) is.2

-- how long the object is that a waiting request has
pub object_fits : (q : Queued) (qs : List (List Request)) (session : ℕ) → session < sessions → Holds q qs
    → (r : Request) (rest : List Request) → requests_at qs session ≡ r ∷ rest
    → IfSome (size_asked (ask_of r)) (λ n. n ≤ ring)
object_fits q qs session low holds r rest is = by (size_asked (ask_of r)) refl
  where
    by : (o : Option ℕ) → size_asked (ask_of r) ≡ o → IfSome o (λ n. n ≤ ring)
    by None e = tt
    by (Some n) e =
        let h = holds.each session low in
        omega (
          arith,
          h.short,
          ap length h.texts,
          ap (λ (xs : List Request). length (texts_of xs)) is,
          length-append (request_text r) (texts_of rest),
          long_text r n (sym e),
        )

module _ (session : ℕ) (q0 q1 : Queued) (s t : StoreValue) (of now_of : ℕ) (a d : disk.State)
    (out after : SinkState) (result : Result (Unit {0}) End) where
  abbrev IsServed : Type 0
  IsServed = IsTrue a.tells → (desk : Desk) → Holds q0 desk.queues → ShowsStore s of a.file desk
      → PlaysOne (ServesFirst (queue_of desk session) (limits_of s) session desk)
      (ShowsParts q1 t now_of d.file) out after result

  -- nothing waits
  pub empty_serves : ((qs : List (List Request)) → Holds q0 qs → requests_at qs session ≡ [])
      → q1 ≡ q0 → t ≡ s → now_of ≡ of → d ≡ a → PutsAll (line_for (codes "empty") session) out after result
      → IsServed
  empty_serves none same_queues same of_same still p told desk holds shown = record {
    answer = answer.empty session;
    desk = desk;
    step = subst (λ (q : List Request). ServesFirst q (limits_of s) session desk (answer.empty session) desk)
        (sym (none desk.queues holds)) (refl, refl);
    shown = λ calm. still_shown;
    puts = p.put;
  }
    where
      still_shown : ShowsParts q1 t now_of d.file desk
      still_shown = record {
        queues = subst (λ (q : Queued). Holds q desk.queues) (sym same_queues) holds;
        store = subst (λ (x : StoreValue). ShowsStore x now_of d.file desk) (sym same)
            (subst (λ (n : ℕ). ShowsStore s n d.file desk) (sym of_same)
            (subst (λ (y : disk.State). ShowsStore s of y.file desk) (sym still) shown));
      }

  module _ (some : (qs : List (List Request)) → Holds q0 qs → requests_at qs session ≡ [] → ⊥) (reads : Bool)
      (read_is : (qs : List (List Request)) (r : Request) (rest : List Request) → Holds q0 qs
      → requests_at qs session ≡ r ∷ rest → reads ≡ is_read r) where
    -- whether the first request waits
    waits_as : (desk : Desk) → Holds q0 desk.queues → ShowsStore s of a.file desk → (r : Request)
        (rest : List Request) → requests_at desk.queues session ≡ r ∷ rest
        → waits desk.hand session r ≡ (is_some s.in_hand && ((of == session) || not reads))
    waits_as desk holds shown r rest is = by s.in_hand refl
      where
        by : (o : Option FlushInHand) → s.in_hand ≡ o
            → waits desk.hand session r ≡ (is_some o && ((of == session) || not reads))
        by None e = ap (λ (h : Option Flush). waits h session r) (shown.idle e).0
        by (Some h) e =
            let k = shown.held h e in
            ap (λ (x : Option Flush). waits x session r) k.1
            ∙ ap (λ (n : ℕ). (n == session) || not (is_read r)) k.2.of
            ∙ ap (λ (b : Bool). (of == session) || not b) (sym (read_is desk.queues r rest holds is))

    -- the first request has to wait
    pub wait_serves : (is_some s.in_hand && ((of == session) || not reads)) ≡ true
        → q1 ≡ q0 → t ≡ s → now_of ≡ of → d ≡ a → PutsAll (line_for (codes "wait") session) out after result
        → IsServed
    wait_serves busy same_queues same of_same still p told desk holds shown = record {
      answer = answer.wait session;
      desk = desk;
      step = by (requests_at desk.queues session) refl;
      shown = λ calm. record {
        queues = subst (λ (q : Queued). Holds q desk.queues) (sym same_queues) holds;
        store = subst (λ (x : StoreValue). ShowsStore x now_of d.file desk) (sym same)
            (subst (λ (n : ℕ). ShowsStore s n d.file desk) (sym of_same)
            (subst (λ (y : disk.State). ShowsStore s of y.file desk) (sym still) shown));
      };
      puts = p.put;
    }
      where
        by : (q : List Request) → requests_at desk.queues session ≡ q
            → ServesFirst q (limits_of s) session desk (answer.wait session) desk
        by [] e = absurd (some desk.queues holds e)
        by (r ∷ rest) e = subst (λ (b : Bool). ServesIf b (limits_of s) session r rest desk
            (answer.wait session) desk) (sym (waits_as desk holds shown r rest e ∙ busy)) (refl, refl)

    module _ {C : ℕ} (line : Ask) (text : List ℕ)
        (asks : (qs : List (List Request)) (r : Request) (rest : List Request) → Holds q0 qs
        → requests_at qs session ≡ r ∷ rest → line ≡ ask_of r)
        (stands : (qs : List (List Request)) (r : Request) (rest : List Request) → Holds q0 qs
        → requests_at qs session ≡ r ∷ rest → StandsIn text r)
        (taken : (r : Request) → ask_of r ≡ line → StandsIn text r
        → TakesRequest C session r (owned s of) (owned t now_of) (devices a out)
        (devices d after) result) where
      takes_of : (qs : List (List Request)) (r : Request) (rest : List Request) → Holds q0 qs
          → requests_at qs session ≡ r ∷ rest
          → TakesRequest C session r (owned s of) (owned t now_of) (devices a out) (devices d after) result
      takes_of qs r rest holds is = taken r (sym (asks qs r rest holds is)) (stands qs r rest holds is)

      -- the first request is taken
      pub take_serves : (is_some s.in_hand && ((of == session) || not reads)) ≡ false
          → ((qs : List (List Request)) (r : Request) (rest : List Request) → Holds q0 qs
          → requests_at qs session ≡ r ∷ rest → Holds q1 (slice_set qs session rest)) → IsServed
      take_serves free left told desk holds shown = by (requests_at desk.queues session) refl
        where
          by : (q : List Request) → requests_at desk.queues session ≡ q
              → PlaysOne (ServesFirst q (limits_of s) session desk) (ShowsParts q1 t now_of d.file) out after
              result
          by [] e = absurd (some desk.queues holds e)
          by (r ∷ rest) e =
              let calm = waits_as desk holds shown r rest e ∙ free in
              let x = (takes_of desk.queues r rest holds e).plays told desk rest shown calm in
              record {
                answer = x.answer;
                desk = x.desk;
                step = subst (λ (b : Bool). ServesIf b (limits_of s) session r rest desk x.answer x.desk)
                    (sym calm) x.step;
                shown = λ fine. record {
                  queues = subst (λ (qs : List (List Request)). Holds q1 qs)
                      (sym (takes_queues (begins (limits_of s) desk.state r) (limits_of s) session r rest desk
                      x.answer x.desk x.step)) (left desk.queues r rest holds e);
                  store = x.shown fine;
                };
                puts = x.puts;
              }

      -- what a crash may leave meanwhile
      pub take_images : (is_some s.in_hand && ((of == session) || not reads)) ≡ false → IsTrue a.tells
          → (desk : Desk) → Holds q0 desk.queues → ShowsStore s of a.file desk
          → LeavesStep C (ServesFirst (queue_of desk session) (limits_of s) session desk) s t a d desk result
      take_images free told desk holds shown k rests said next step =
          by (requests_at desk.queues session) refl step
        where
          by : (q : List Request) → requests_at desk.queues session ≡ q
              → ServesFirst q (limits_of s) session desk said next
              → LeavesFrom C t a d (settled_of k desk) (kept_of next.state) result
          by [] e is = absurd (some desk.queues holds e)
          by (r ∷ rest) e is =
              let calm = waits_as desk holds shown r rest e ∙ free in
              let takes : TakesIf (begins (limits_of s) desk.state r) (limits_of s) session r rest desk said
              next = subst (λ (b : Bool). ServesIf b (limits_of s) session r rest desk said next) calm is in
              subst (λ (y : Checkpoint). LeavesFrom C t a d (settled_of k desk) y result)
              (sym (takes_kept (begins (limits_of s) desk.state r) (limits_of s) session r rest desk said next
              takes))
              ((takes_of desk.queues r rest holds e).images told desk shown calm k rests)

      pub take_goes : (qs : List (List Request)) → Holds q0 qs
          → KeepsGoing C s t (devices a out) (devices d after) result
      take_goes qs holds = by (requests_at qs session) refl
        where
          by : (q : List Request) → requests_at qs session ≡ q
              → KeepsGoing C s t (devices a out) (devices d after) result
          by [] e = absurd (some qs holds e)
          by (r ∷ rest) e = (takes_of qs r rest holds e).goes

      pub take_calls : (qs : List (List Request)) → Holds q0 qs → CallsOnce s t a d
      take_calls qs holds = by (requests_at qs session) refl
        where
          by : (q : List Request) → requests_at qs session ≡ q → CallsOnce s t a d
          by [] e = absurd (some qs holds e)
          by (r ∷ rest) e = (takes_of qs r rest holds e).calls

      pub take_of : (qs : List (List Request)) → Holds q0 qs → (now_of ≡ of) ⊎ (now_of ≡ session)
      take_of qs holds = by (requests_at qs session) refl
        where
          by : (q : List Request) → requests_at qs session ≡ q → (now_of ≡ of) ⊎ (now_of ≡ session)
          by [] e = absurd (some qs holds e)
          by (r ∷ rest) e = (takes_of qs r rest holds e).of_is

-- ---- what a taken request may ask

module _ (session : ℕ) (low : session < sessions) (q0 : Queued) (s : StoreValue) (of : ℕ)
    (some : (qs : List (List Request)) → Holds q0 qs → requests_at qs session ≡ [] → ⊥) (reads : Bool)
    (read_is : (qs : List (List Request)) (r : Request) (rest : List Request) → Holds q0 qs
    → requests_at qs session ≡ r ∷ rest → reads ≡ is_read r) (line : Ask)
    (asks : (qs : List (List Request)) (r : Request) (rest : List Request) → Holds q0 qs
    → requests_at qs session ≡ r ∷ rest → line ≡ ask_of r) (qs : List (List Request)) (holds : Holds q0 qs)
  where
    pub take_room : (n : ℕ) → ring ≤ n → IfSome (size_asked line) (λ m. m ≤ n)
    take_room n wide = by (requests_at qs session) refl
      where
        wider : (o : Option ℕ) → IfSome o (λ m. m ≤ ring) → IfSome o (λ m. m ≤ n)
        wider None fits = tt
        wider (Some m) fits = omega (arith, fits, wide)

        by : (q : List Request) → requests_at qs session ≡ q → IfSome (size_asked line) (λ m. m ≤ n)
        by [] e = absurd (some qs holds e)
        by (r ∷ rest) e = subst (λ (l : Ask). IfSome (size_asked l) (λ m. m ≤ n))
            (sym (asks qs r rest holds e))
            (wider (size_asked (ask_of r)) (object_fits q0 qs session low holds r rest e))

    pub take_free : {C : ℕ} (a : disk.State) → (is_some s.in_hand && ((of == session) || not reads)) ≡ false
        → IsReadable C s a → is_read_ask line ≡ false → IsConnected C s a
    take_free a free (inl idle) no_read = idle
    take_free {C} a free (inr half) no_read = by (requests_at qs session) refl
      where
        hand_free : ((of == session) || not reads) ≡ false
        hand_free = subst (λ (o : Option FlushInHand). (is_some o && ((of == session) || not reads)) ≡ false)
            half.is free

        by : (q : List Request) → requests_at qs session ≡ q → IsConnected C s a
        by [] e = absurd (some qs holds e)
        by (r ∷ rest) e = absurd (let yes : true ≡ false = sym (reads_of (of == session) reads hand_free)
            ∙ read_is qs r rest holds e ∙ sym (read_ask r)
            ∙ ap is_read_ask (sym (asks qs r rest holds e)) ∙ no_read in cc)
