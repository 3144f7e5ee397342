-- The worked script, event by event.
use Rattle.std.specs.Prelude.{◌≡◌, ℕ, ◌+◌, ◌*◌, ◌<◌, ◌≤◌, nat_lt, Bool, true, false, if◌then◌else◌, List, [], ◌∷◌, ◌++◌, codes, flat_map, length, Option, Some, None, refl}
use Rattle.std.proofs.Common.{arith, ap, sym, ◌∙◌, subst, inl, inr}
use Rattle.std.proofs.lemmas.Fmt.{decimal_digit, decimal_step}
use Rattle.std.specs.FinMap as fin
use Rattle.std.specs.FinSet as set
use Rattle.std.specs.Fmt.{decimal}
use Rattle.byte_ranges.specs.Lists.{below}
use Rattle.size_class.specs.Classes.{class_of, zero_row, zero_grid}
use Rattle.slot_codec.specs.Spelling.{cap, record_len}
use Rattle.map_model.specs.Maps.{Map, name_cmp}
use Rattle.map_model.specs.Requests as ask
use Rattle.map_model.specs.Requests.{Change, Reply, changed}
use Rattle.map_model.proofs.MapLaws.{name_order}
use Rattle.segment_layout.specs.Books.{Book, charge_all, is_quiet, item_of, next_book, old_item}
use Rattle.store_model.specs.States.{Served, State, Step, facts_of, object_in, refusal, served}
use Rattle.store_model.proofs.RequestLaws.{served_by}
use Rattle.desk_model.proofs.ServedLaws.{read_at_any, read_of}
use Rattle.desk_model.specs.Desks.{Desk, Flush, Moves, Plays, SaysIf, TakesIf, begins, end_lines, flush_by, has_room, last_desk, new_desk, with_queue}
use Rattle.desk_model.specs.Answers as answer
use Rattle.desk_model.specs.Answers.{answer_text}
use Rattle.desk_model.specs.Events.{event_text}
use Rattle.desk_model.specs.Worked.{get_b, put_c, worked_answers, worked_book, worked_events, worked_limits, worked_map, worked_puts, worked_script, worked_state}

abbrev change_c : Change
change_c = record { name = codes "c"; object = Some (codes "klmno") }

-- ---- the map before and after

c_missing : fin.get worked_map (codes "c") ≡ None
c_missing = fin.get-from_sorted name_cmp _ (codes "c") tt

b_there : fin.get worked_map (codes "b") ≡ Some (codes "abcdefghij")
b_there = fin.get-from_sorted name_cmp _ (codes "b") tt

two_names : fin.len worked_map ≡ 2
two_names = fin.len-entries worked_map ∙ ap length (fin.entries-from_sorted name_cmp _ tt)

abbrev map_c : Map
map_c = changed change_c worked_map

b_stays : fin.get map_c (codes "b") ≡ Some (codes "abcdefghij")
b_stays = fin.get-insert name_order worked_map (codes "c") (codes "klmno") (codes "b") ∙ b_there

three_names : fin.len map_c ≡ 3
three_names = fin.len-insert name_order worked_map (codes "c") (codes "klmno")
    ∙ rw (c_missing, two_names) refl

-- ---- the put

accepted_c : refusal worked_limits (facts_of worked_state put_c) put_c ≡ None
unfolding cap record_len
accepted_c = rw (c_missing, two_names) refl

-- what charges nothing beside the new object
nothing_old : (b : Bool) (o : Option (List ℕ)) → o ≡ None → (if b then [] else item_of o) ≡ []
nothing_old true o is = refl
nothing_old false o is = ap item_of is

no_room : (items : List ℕ) → items ≡ []
    → is_quiet (charge_all 9 worked_book.caps worked_book.grid (items ++ 5 ∷ [])) ≡ false
unfolding class_of zero_row zero_grid below
no_room items is = ap (λ xs. is_quiet (charge_all 9 worked_book.caps worked_book.grid (xs ++ 5 ∷ []))) is

loud_c : (next_book 9 worked_map worked_book change_c).quiet ≡ false
unfolding next_book
loud_c = no_room (old_item worked_map worked_book (codes "c"))
    (nothing_old (set.contains worked_book.buffered (codes "c")) (fin.get worked_map (codes "c")) c_missing)

abbrev book_c : Book
book_c = (next_book 9 worked_map worked_book change_c).book

abbrev state_c : State
state_c = record worked_state { map = map_c; kept = map_c; book = book_c; kept_book = book_c }

served_c : served worked_limits worked_state put_c ≡ record {
  reply = ask.kept;
  state = state_c;
  saves = record { least = 1; most = 19 };
}
served_c = served_by worked_limits worked_state put_c None accepted_c ∙ rw loud_c refl

abbrev sv : Served
sv = served worked_limits worked_state put_c

state_is : sv.state ≡ state_c
state_is = ap (λ (v : Served). v.state) served_c

begins_c : begins worked_limits worked_state put_c ≡ true
begins_c = ap (λ (v : Served). nat_lt 0 v.saves.least) served_c

-- ---- the get and the keep

no_digests : book_c.digests ≡ None
unfolding next_book
no_digests = refl

object_b : (m : Map) → fin.get m (codes "b") ≡ Some (codes "abcdefghij")
    → object_in m (codes "b") ≡ codes "abcdefghij"
object_b m is = rw is refl

get_in : (s : State) → s ≡ state_c
    → (served worked_limits s get_b).reply ≡ ask.found (codes "abcdefghij")
get_in s is = rw is (rw (b_stays, no_digests) (ap ask.found (object_b map_c b_stays)))

-- ---- the desks

abbrev flush_c : Flush
flush_c = flush_by worked_limits worked_state 0 put_c

flush_long : flush_c.left ≡ 7
flush_long = ap (λ (v : Served). 2 * fin.len v.state.map + 1) served_c ∙ rw three_names refl

abbrev said_c : Desk
said_c = with_queue (new_desk worked_state) 0 (put_c ∷ [])

abbrev said_b : Desk
said_b = with_queue said_c 1 (get_b ∷ [])

abbrev begun : Desk
begun = record (with_queue said_b 0 []) { state = sv.state; hand = Some flush_c }

abbrev left_by : ℕ → Desk → Desk
left_by n d = record d { hand = Some (record flush_c { left = n }) }

abbrev got_b : Desk
got_b = with_queue (left_by 6 begun) 1 []

abbrev said_keep : Desk
said_keep = with_queue got_b 1 (ask.keep ∷ [])

abbrev settled : Desk
settled = record said_keep { state = record sv.state { sequence = 4 }; hand = None }

abbrev kept : Desk
kept = record (with_queue settled 1 []) {
  state = record (served worked_limits settled.state ask.keep).state { sequence = 5 };
}

pub worked_desks : List Desk
worked_desks =
    said_c ∷ said_b ∷ begun ∷ left_by 6 begun ∷ got_b ∷ got_b ∷ said_keep ∷ said_keep ∷
    left_by 5 said_keep ∷ left_by 4 said_keep ∷ left_by 3 said_keep ∷ left_by 2 said_keep ∷
    settled ∷ settled ∷ kept ∷ []

room_c : has_room (new_desk worked_state) 0 put_c ≡ true
room_c = rw (decimal_digit 5 (omega arith)) refl

move_on : (d : Desk) (n m : ℕ) → m < n → 1 ≤ m
    → Moves (record flush_c { left = n }) d answer.moved (left_by m d)
move_on d n m fewer some =
    record { says = refl; left = m; some = some; fewer = fewer; desk = refl }

first_move : Moves flush_c begun answer.moved (left_by 6 begun)
first_move =
    record { says = refl; left = 6; some = omega arith; fewer = omega (arith, flush_long); desk = refl }

last_keep : Step worked_limits settled.state ask.keep ask.kept kept.state
last_keep = record { replied = refl; state = refl; low = omega arith; high = omega arith }

pub worked_plays : Plays worked_limits (new_desk worked_state) worked_events worked_answers worked_desks
unfolding worked_desks
worked_plays =
    let got : (served worked_limits sv.state get_b).reply ≡ ask.found (codes "abcdefghij") =
    get_in sv.state state_is in
    let least = ap (λ (v : Served). v.saves.least) served_c in
    let most = ap (λ (v : Served). v.saves.most) served_c in (
      subst (λ b. SaysIf b 0 put_c (new_desk worked_state) (answer.queued 0) said_c) (sym room_c)
          (refl, refl),
      (
        (refl, refl),
        (
          subst (λ b. TakesIf b worked_limits 0 put_c [] said_b (answer.begun 0) begun) (sym begins_c)
              (refl, refl),
          (
            inl first_move,
            (
              (
                ap (answer.to 1) (sym got),
                read_at_any (read_of worked_limits sv.state get_b refl) sv.state.sequence,
                refl,
              ),
              (
                (refl, refl),
                (
                  (refl, refl),
                  (
                    (refl, refl),
                    (
                      inl (move_on said_keep 6 5 (omega arith) (omega arith)),
                      (
                        inl (move_on (left_by 5 said_keep) 5 4 (omega arith) (omega arith)),
                        (
                          inl (move_on (left_by 4 said_keep) 4 3 (omega arith) (omega arith)),
                          (
                            inl (move_on (left_by 3 said_keep) 3 2 (omega arith) (omega arith)),
                            (
                              inr (record {
                                says = refl;
                                sequence = 4;
                                low = omega (arith, least);
                                high = omega (arith, most);
                                desk = refl;
                              }),
                              (
                                (refl, refl),
                                (
                                  (
                                    refl,
                                    last_keep,
                                    refl,
                                  ),
                                  tt,
                                ),
                              ),
                            ),
                          ),
                        ),
                      ),
                    ),
                  ),
                ),
              ),
            ),
          ),
        ),
      ),
    )

-- ---- the texts

ten : decimal 10 ≡ codes "10"
ten = decimal_step 10 (omega arith) (omega arith) ∙ rw (decimal_digit 1 (omega arith)) refl

pub worked_input : flat_map event_text worked_events ≡ worked_script
worked_input = rw
    (decimal_digit 0 (omega arith), decimal_digit 1 (omega arith), decimal_digit 5 (omega arith))
    refl

pub worked_output : flat_map answer_text worked_answers
    ++ end_lines (last_desk (new_desk worked_state) worked_desks)
    ≡ worked_puts
unfolding worked_desks
worked_output = rw (decimal_digit 0 (omega arith), decimal_digit 1 (omega arith), ten) refl
