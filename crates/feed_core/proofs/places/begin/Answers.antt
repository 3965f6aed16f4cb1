use Rattle.std.proofs.Common.{◌≡◌, Some, subst, arith}
use Rattle.ss_text.specs.Texts.{text_eq}
use Rattle.indexmap.specs.IndexMap.{get}
use Rattle.feed_core.proofs.places.begin.Goals as goal

pub returns-clause-room : goal.returns-clause-room
returns-clause-room c = record {
  list = c.in_ok-list.list;
  is = subst (λ k. get text_eq c.insert.new.self k ≡ Some c.in_ok-list.list) c.in_ok-copy.ensures c.in_ok-insert.ensures.updates.1;
  room = omega (arith, c.in_ok-list.ensures.len, c.in_ok-list.ensures.capacity);
}
