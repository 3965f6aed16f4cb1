use Rattle.std.proofs.Common.{◌≡◌, ◌+◌, ℕ, Bool, true, false, rules, refl, sym, ◌∙◌, ap, subst, arith, slice_set}
use Rattle.std.specs.Prelude.{◌&&◌, not, if◌then◌else◌, insert}
use Rattle.ss_text.specs.Ascending.{with_element}
use Rattle.std.specs.Option.{option_map_or}
use Rattle.std.specs.List.Sorted.{IsStrictlySortedBy}
use Rattle.std.proofs.lemmas.Fn.{always_returns_same}
use Rattle.ss_text.specs.Keys.{IsPlaceOf, IsPlaceFor}
use Rattle.ss_text.proofs.KeyLemmas.{IsKeyOrder, ascends_placed}
use Rattle.counts.specs.declared.tally.Tally.{Tally}
use Rattle.counts.specs.Counted.{keys_of}
use Rattle.counts.proofs.TallyLemmas.{tally_of, place_of, place_for, found, missing, with_there, with_placed, keys_set, find_set, find_inserted, grown}
use Rattle.counts.proofs.net.count.Given as given
use Rattle.counts.proofs.net.count.Goals as goal

turned : (b : Bool) → ◌≡◌ {A = ℕ} (if b then 0 else 1) (if not b then 1 else 0)
turned true = refl
turned false = refl

module _ (g : given.Over) where
  order : IsKeyOrder g.K.Ord.cmp g.K.PartialEq.eq
  order = record { total = g.met.K.Ord.total; same = g.met.K.Key.same; ties = g.met.K.Ord.matches_eq }

module _ (g : given.Over) (c : goal.After-index_mut g) where
  counted : (f : Tally _ → ℕ) → option_map_or f (tally_of (order g) c.args.tallies.now.items c.args.m.key) 0 ≡ f c.index_mut.result.now
  counted f =
      let ts = c.args.tallies.now.items in
      let position = c.in-Ok.ensures.position (λ (t : Tally _). g.K.Ord.cmp t.key c.args.m.key) (always_returns_same _ _ _ (λ a r h called. search rules)) in
      let at = place_of (order g) c.args.m.key ts c.in-Ok.place c.requires.ascend c.deref.result.now c.deref.ensures.value c.in-Ok.ensures.bound position in
      ap (λ t. option_map_or f t 0) (found (order g) c.args.m.key ts c.in-Ok.place c.requires.ascend at c.index_mut.result.now) ∙ ap f (sym c.index_mut.ensures.value)

pub count-requires-clause-ups : goal.count-requires-clause-ups
count-requires-clause-ups g c = let is = counted g c (λ t. t.ups) in omega (arith, is, c.requires.ups)

pub count-requires-clause-downs : goal.count-requires-clause-downs
count-requires-clause-downs g c = let is = counted g c (λ t. t.downs) in omega (arith, is, c.requires.downs)

module _ (g : given.Over) (c : goal.After-drop-m g) where
  there : IsPlaceOf (λ (t : Tally _). t.key) c.args.m.key c.args.tallies.now.items c.in-Ok.place
  there =
      let position = c.in-Ok.ensures.position (λ (t : Tally _). g.K.Ord.cmp t.key c.args.m.key) (always_returns_same _ _ _ (λ a r h called. search rules)) in
      place_of (order g) c.args.m.key c.args.tallies.now.items c.in-Ok.place c.requires.ascend c.deref.result.now c.deref.ensures.value c.in-Ok.ensures.bound position

  key_is : c.count.new.self.key ≡ c.args.m.key
  key_is = ap (λ (t : Tally _). t.key) c.count.ensures ∙ ap (λ (t : Tally _). t.key) c.index_mut.ensures.value ∙ there.has_key c.index_mut.result.now

  own : IsPlaceOf (λ (t : Tally _). t.key) c.count.new.self.key c.args.tallies.now.items c.in-Ok.place
  own = subst (λ k. IsPlaceOf (λ (t : Tally _). t.key) k c.args.tallies.now.items c.in-Ok.place) (sym key_is) there

  same_keys : keys_of (slice_set c.args.tallies.now.items c.in-Ok.place c.count.new.self) ≡ keys_of c.args.tallies.now.items
  same_keys = keys_set (order g) c.count.new.self c.args.tallies.now.items c.in-Ok.place own

  more : (f : Tally _ → ℕ) (b : Bool) → f c.count.new.self ≡ f c.index_mut.result.now + (if b then 1 else 0) → (q : _)
      → option_map_or f (tally_of (order g) (slice_set c.args.tallies.now.items c.in-Ok.place c.count.new.self) q) 0 ≡ option_map_or f (tally_of (order g) c.args.tallies.now.items q) 0 + (if b && g.K.PartialEq.eq q c.args.m.key then 1 else 0)
  more f b is =
      let ts = c.args.tallies.now.items in
      let before : option_map_or f (tally_of (order g) ts c.args.m.key) 0 ≡ f c.index_mut.result.now =
      ap (λ t. option_map_or f t 0) (found (order g) c.args.m.key ts c.in-Ok.place c.requires.ascend there c.index_mut.result.now) ∙ ap f (sym c.index_mut.ensures.value) in
      grown (order g) f b c.count.new.self c.args.tallies.now.items (slice_set c.args.tallies.now.items c.in-Ok.place c.count.new.self) c.args.m.key key_is
      (find_set (order g) c.count.new.self c.args.tallies.now.items c.in-Ok.place c.requires.ascend own) (is ∙ ap (λ n. n + (if b then 1 else 0)) (sym before))

pub returns-in-Ok-clause-ascend : goal.returns-in-Ok-clause-ascend
returns-in-Ok-clause-ascend g c = subst (IsStrictlySortedBy g.K.Ord.cmp) (sym (same_keys g c)) c.requires.ascend

pub returns-in-Ok-clause-keys : goal.returns-in-Ok-clause-keys
returns-in-Ok-clause-keys g c = same_keys g c ∙ with_there (order g) c.args.m.key c.args.tallies.now.items c.in-Ok.place c.requires.ascend (there g c)

pub returns-in-Ok-clause-ups : goal.returns-in-Ok-clause-ups
returns-in-Ok-clause-ups g c = more g c (λ t. t.ups) c.args.m.up (ap (λ (t : Tally _). t.ups) c.count.ensures)

pub returns-in-Ok-clause-downs : goal.returns-in-Ok-clause-downs
returns-in-Ok-clause-downs g c = more g c (λ t. t.downs) (not c.args.m.up) (ap (λ (t : Tally _). t.downs) c.count.ensures ∙ ap (λ n. c.index_mut.result.now.downs + n) (turned c.args.m.up))

module _ (g : given.Over) (c : goal.In_ok-insert-in-Err g) where
  key_new : c.of.result.key ≡ c.args.m.key
  key_new = ap (λ (t : Tally _). t.key) c.of.ensures

  gap : IsPlaceFor g.K.Ord.cmp (λ (t : Tally _). t.key) c.args.m.key c.args.tallies.now.items c.in-Err.place
  gap =
      let position = c.in-Err.ensures.position (λ (t : Tally _). g.K.Ord.cmp t.key c.args.m.key) (always_returns_same _ _ _ (λ a r h called. search rules)) in
      place_for (order g) c.args.m.key c.args.tallies.now.items c.in-Err.place c.requires.ascend c.deref.result.now c.deref.ensures.value c.in-Err.ensures.bound position

  own_gap : IsPlaceFor g.K.Ord.cmp (λ (t : Tally _). t.key) c.of.result.key c.args.tallies.now.items c.in-Err.place
  own_gap = subst (λ k. IsPlaceFor g.K.Ord.cmp (λ (t : Tally _). t.key) k c.args.tallies.now.items c.in-Err.place) (sym key_new) gap

  new_more : (f : Tally _ → ℕ) (b : Bool) → f c.of.result ≡ (if b then 1 else 0) → (q : _)
      → option_map_or f (tally_of (order g) (insert c.args.tallies.now.items c.in-Err.place c.of.result) q) 0 ≡ option_map_or f (tally_of (order g) c.args.tallies.now.items q) 0 + (if b && g.K.PartialEq.eq q c.args.m.key then 1 else 0)
  new_more f b is =
      let none = missing (order g) c.args.m.key c.args.tallies.now.items c.in-Err.place c.requires.ascend gap in
      grown (order g) f b c.of.result c.args.tallies.now.items (insert c.args.tallies.now.items c.in-Err.place c.of.result) c.args.m.key key_new
      (find_inserted (order g) c.of.result c.args.tallies.now.items c.in-Err.place own_gap)
      (rw none (omega (arith, is)))

pub returns-in_ok-insert-in-Err-clause-ascend : goal.returns-in_ok-insert-in-Err-clause-ascend
returns-in_ok-insert-in-Err-clause-ascend g c =
    let ascends = ascends_placed (order g) (λ (t : Tally _). t.key) c.of.result c.args.tallies.now.items c.in-Err.place c.requires.ascend (own_gap g c) in
    rw c.in_ok-insert-in-Err.ensures.items ascends

pub returns-in_ok-insert-in-Err-clause-keys : goal.returns-in_ok-insert-in-Err-clause-keys
returns-in_ok-insert-in-Err-clause-keys g c =
    let placed = with_placed (order g) c.of.result c.args.tallies.now.items c.in-Err.place (own_gap g c) in
    rw c.in_ok-insert-in-Err.ensures.items (placed ∙ ap (λ k. with_element g.K.Ord.cmp k (keys_of c.args.tallies.now.items)) (key_new g c))

pub returns-in_ok-insert-in-Err-clause-ups : goal.returns-in_ok-insert-in-Err-clause-ups
returns-in_ok-insert-in-Err-clause-ups g c =
    let counted = new_more g c (λ t. t.ups) c.args.m.up (ap (λ (t : Tally _). t.ups) c.of.ensures) in
    rw c.in_ok-insert-in-Err.ensures.items counted

pub returns-in_ok-insert-in-Err-clause-downs : goal.returns-in_ok-insert-in-Err-clause-downs
returns-in_ok-insert-in-Err-clause-downs g c =
    let counted = new_more g c (λ t. t.downs) (not c.args.m.up) (ap (λ (t : Tally _). t.downs) c.of.ensures ∙ turned c.args.m.up) in
    rw c.in_ok-insert-in-Err.ensures.items counted
