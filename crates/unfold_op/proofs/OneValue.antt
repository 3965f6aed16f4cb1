-- Facts without a conflict have at most one value for each place, and so has each part of them.
use Rattle.std.proofs.Common.{◌≡◌, ◌∷◌, [], Bool, true, false, cond, List, Option, Some, None, refl, sym, ◌∙◌, ap}
use Rattle.std.specs.Prelude.{◌&&◌, ◌||◌, is_some, option_to_list, slice_get}
use Rattle.std.specs.List.{list_any, filter_map, cons_option}
use Rattle.std.proofs.lemmas.Bool.{false≢true}
use Rattle.ss_text.specs.Texts.{Text, text_eq, text_cmp}
use Rattle.ss_text.specs.Ascending.{ascending}
use Rattle.ss_text.proofs.KeyLemmas.{text_order, equal_is, equal_itself}
use Rattle.ss_text.proofs.PairLemmas.{any_ascending}
use Rattle.flow_law.specs.declared.refused.Clash.{Clash}
use Rattle.flow_law.specs.Facts.{Fact, Spot, spots_of, values_at, facts_of, clash_of, conflict}
use Rattle.flow_law.specs.Labelled.{AllBear}
use Rattle.flow_law.proofs.Entries.{spot_eq, spot_order}
use Rattle.unfold_op.specs.Touched.{Place}
use Rattle.unfold_op.proofs.TouchedLines.{passes, any_value}
use Rattle.unfold_op.proofs.Present.{has_entry}
use Rattle.unfold_op.proofs.NetConflict.{at_spot, clash_at, clash_named, all_own, at_most_one}

-- where the first clash of spots is none, each has none
none_given : (h : Spot → Option Clash) (ss : List Spot) → slice_get (filter_map h ss) 0 ≡ None → (s : Spot) → (list_any (spot_eq s) ss && is_some (h s)) ≡ false
none_given h [] e s = refl
none_given h (x ∷ ss) e s = by_clash (h x) refl e (λ rest. none_given h ss rest s)
  where
    by_same : (b : Bool) → spot_eq s x ≡ b → h x ≡ None → (list_any (spot_eq s) ss && is_some (h s)) ≡ false → ((b || list_any (spot_eq s) ss) && is_some (h s)) ≡ false
    by_same true t is rest = ap is_some (ap h (equal_is spot_order s x t) ∙ is)
    by_same false t is rest = rest

    by_clash : (o : Option Clash) → h x ≡ o → slice_get (cons_option o (filter_map h ss)) 0 ≡ None → (slice_get (filter_map h ss) 0 ≡ None → (list_any (spot_eq s) ss && is_some (h s)) ≡ false) → (list_any (spot_eq s) (x ∷ ss) && is_some (h s)) ≡ false
    by_clash None is e rest = by_same (spot_eq s x) refl is (rest e)
    by_clash (Some c) is e rest = absurd (cc)

-- facts without a conflict have no clash
pub no_clash : (fs : List Fact) → conflict fs ≡ None → (s : Spot) → clash_at fs s ≡ None
unfolding conflict
no_clash fs e s = is_none (clash_at fs s) (sym (clash_named fs s) ∙ none_given (clash_at fs) (spots_of fs) e s)
  where
    is_none : (o : Option Clash) → is_some o ≡ false → o ≡ None
    is_none None h = refl
    is_none (Some c) h = absurd (cc)

-- and facts without a clash have no conflict
none_first : (h : Spot → Option Clash) → ((s : Spot) → h s ≡ None) → (ss : List Spot) → filter_map h ss ≡ []
none_first h none [] = refl
none_first h none (s ∷ ss) = rw (none s) (none_first h none ss)

no_conflict : (fs : List Fact) → ((s : Spot) → clash_at fs s ≡ None) → conflict fs ≡ None
unfolding conflict
no_conflict fs none = ap (λ (cs : List Clash). slice_get cs 0) (none_first (clash_at fs) none (spots_of fs))

-- values that do not clash are all the same
one_of : (s : Spot) (vs : List Text) (v w : Text) → clash_of s vs ≡ None → list_any (text_eq v) vs ≡ true → list_any (text_eq w) vs ≡ true → v ≡ w
one_of s [] v w none has other = absurd (false≢true has)
one_of s (a ∷ []) v w none has other = equal_is text_order v a (alone (text_eq v a) has) ∙ sym (equal_is text_order w a (alone (text_eq w a) other))
  where
    alone : (b : Bool) → (b || false) ≡ true → b ≡ true
    alone true h = refl
    alone false h = h
one_of s (a ∷ b ∷ rest) v w none has other = absurd (cc)

same_value : (s : Spot) (vs : List Text) (v w : Text) → clash_of s (ascending text_cmp vs) ≡ None → list_any (text_eq v) vs ≡ true → list_any (text_eq w) vs ≡ true → v ≡ w
same_value s vs v w none has other = one_of s (ascending text_cmp vs) v w none (any_ascending text_order v vs ∙ has) (any_ascending text_order w vs ∙ other)

-- nor do some of them
fewer_values : (s : Spot) (vs ws : List Text) → clash_of s (ascending text_cmp vs) ≡ None → ((v : Text) → list_any (text_eq v) ws ≡ true → list_any (text_eq v) vs ≡ true) → clash_of s (ascending text_cmp ws) ≡ None
fewer_values s vs [] none among = refl
fewer_values s vs (a ∷ ws) none among = at_most_one s (a ∷ ws) (Some a) first
  where
    here : list_any (text_eq a) vs ≡ true
    here = among a (ap (λ b. b || list_any (text_eq a) ws) (equal_itself text_order a))

    first : (v : Text) → list_any (text_eq v) (a ∷ ws) ≡ list_any (text_eq v) (option_to_list (Some a))
    first v = by_test (text_eq v a) refl (list_any (text_eq v) ws) refl
      where
        by_test : (b : Bool) → text_eq v a ≡ b → (c : Bool) → list_any (text_eq v) ws ≡ c → (b || c) ≡ (b || false)
        by_test true e c l = refl
        by_test false e false l = refl
        by_test false e true l =
            let there : list_any (text_eq v) vs ≡ true = among v (rw (e, l) refl) in
            let same : v ≡ a = same_value s vs v a none there here in
            absurd (false≢true (sym e ∙ ap (λ (w : Text). text_eq w a) same ∙ equal_itself text_order a))

-- the values of a spot stay where a fact comes
values_stay : (f : Fact) (fs : List Fact) (s : Spot) (v : Text) → list_any (text_eq v) (at_spot fs s) ≡ true → list_any (text_eq v) (at_spot (f ∷ fs) s) ≡ true
values_stay f fs s v has = any_value (text_eq v) (s.1, s.2) (facts_of s.0 (f ∷ fs)) ∙ by_test (text_eq s.0 f.label) (sym (any_value (text_eq v) (s.1, s.2) (facts_of s.0 fs)) ∙ has)
  where
    later : (a : Bool) → (a || true) ≡ true
    later true = refl
    later false = refl

    by_test : (b : Bool) → list_any (passes (text_eq v) (s.1, s.2)) (facts_of s.0 fs) ≡ true → list_any (passes (text_eq v) (s.1, s.2)) (cond b (f ∷ facts_of s.0 fs) (facts_of s.0 fs)) ≡ true
    by_test true h = ap (λ b. passes (text_eq v) (s.1, s.2) f || b) h ∙ later (passes (text_eq v) (s.1, s.2) f)
    by_test false h = h

-- facts without one still have no conflict
pub clean_behind : (f : Fact) (fs : List Fact) → conflict (f ∷ fs) ≡ None → conflict fs ≡ None
clean_behind f fs none = no_conflict fs (λ s. fewer_values s (at_spot (f ∷ fs) s) (at_spot fs s) (no_clash (f ∷ fs) none s) (values_stay f fs s))

-- facts of one label have one value for a place
pub one_value : (label : Text) (fs : List Fact) → AllBear label fs → conflict fs ≡ None → (p : Place) (v w : Text) → has_entry fs (p, v) ≡ true → has_entry fs (p, w) ≡ true → v ≡ w
one_value label fs bear none p v w has other =
    same_value (label, p.0, p.1) (at_spot fs (label, p.0, p.1)) v w (no_clash fs none (label, p.0, p.1)) (among v ∙ has) (among w ∙ other)
  where
    among : (u : Text) → list_any (text_eq u) (at_spot fs (label, p.0, p.1)) ≡ has_entry fs (p, u)
    among u = ap (λ (gs : List Fact). list_any (text_eq u) (values_at gs p.0 p.1)) (all_own label fs bear) ∙ any_value (text_eq u) p fs
