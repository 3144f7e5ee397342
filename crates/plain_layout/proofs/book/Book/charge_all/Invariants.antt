use Rattle.std.proofs.Common.{◌≡◌, ◌<◌, take}
use Rattle.segment_layout.specs.Books.{charge_all, is_quiet, trigger}
use Rattle.plain_layout.specs.Changes.{finds_last}
use Rattle.plain_layout.proofs.book.Book.charge_all.Given as goal

abbrev pub invariant-items : goal.invariant-items
invariant-items l = record {
  quiet : l.quiet ≡ is_quiet (charge_all l.initial.self.k l.initial.self.caps l.initial.self.used
      (take l.item-index l.items));
  trigger : l.trigger ≡ trigger (charge_all l.initial.self.k l.initial.self.caps l.initial.self.used
      (take l.item-index l.items));
  small : l.trigger < 32;
  last : l.found_last ≡ finds_last (charge_all l.initial.self.k l.initial.self.caps l.initial.self.used
      (take l.item-index l.items));
  used : l.self.used ≡ (charge_all l.initial.self.k l.initial.self.caps l.initial.self.used
      (take l.item-index l.items)).grid;
  divisor : l.self.k ≡ l.initial.self.k;
  caps : l.self.caps ≡ l.initial.self.caps;
}
