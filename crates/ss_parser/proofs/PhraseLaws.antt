-- What holds of each phrase, and that it holds of phrases made from others.
use Rattle.std.proofs.Common.{◌≡◌, Bool, true, false, List, [], ◌∷◌, ◌++◌, Option, Some, None, ◌⊎◌, refl, sym, ◌∙◌, ap, subst, inl, inr, ⊎_elim, append_assoc, unwrap_or, cond, true≢false, drop}
use Rattle.std.specs.Prelude.{MatchBool}
use Rattle.ss_parser.specs.Phrases.{Phrase, next, passes, token, token_reads, token_stops, gives, ◌>>=◌, by_next, Listed, last, more, ListStops, here, later, listed, limit}

-- tokens after done, and a value, so that a phrase is read whatever follows, if that may follow
pub record Completes {L A : Type 0} (p : Phrase L A) (may_follow : Option L → Bool) (done : List L) : Type 0 where
  pub rest : List L
  pub value : A
  pub reads : (us : List L) → may_follow (next us) ≡ true → p.reads (done ++ (rest ++ us)) value us

-- a phrase reads tokens at the front, and looks at one more at most
pub record Front {L A : Type 0} (p : Phrase L A) (may_follow : Option L → Bool) (ts : List L) (a : A) (rest : List L) : Type 0 where
  pub first : L
  pub done : List L
  pub is : ts ≡ first ∷ (done ++ rest)
  pub again : (us : List L) → (next rest ≡ next us) ⊎ (may_follow (next us) ≡ true) → p.reads (first ∷ (done ++ us)) a us

-- where a phrase stops, the tokens before begin one, and the next token alone decides that it stops
pub record Stuck {L A : Type 0} (p : Phrase L A) (may_follow : Option L → Bool) (deep : Bool) (ts rest : List L) : Type 0 where
  pub done : List L
  pub is : ts ≡ done ++ rest
  pub again : (us : List L) → next rest ≡ next us → p.stops deep (done ++ us) us
  pub goes_on : Completes p may_follow done

-- some phrase begins with the sample
pub record Laws {L A : Type 0} (p : Phrase L A) (may_follow : Option L → Bool) (sample : L) : Type 0 where
  pub some : List L
  pub value : A
  pub some_reads : (us : List L) → may_follow (next us) ≡ true → p.reads (sample ∷ (some ++ us)) value us
  pub front : (ts : List L) (a : A) (rest : List L) → p.reads ts a rest → Front p may_follow ts a rest
  pub stuck : (deep : Bool) (ts rest : List L) → p.stops deep ts rest → Stuck p may_follow deep ts rest
  pub not_both : (deep : Bool) (ts : List L) (a : A) (rest stop : List L) → p.reads ts a rest → p.stops deep ts stop → ⊥
  pub one : (ts : List L) (a b : A) (rest rest' : List L) → p.reads ts a rest → p.reads ts b rest' → (a ≡ b) × (rest ≡ rest')

abbrev pub always : {L : Type 0} → Option L → Bool
always o = true

pub next_append : {L : Type 0} (done xs ys : List L) → next xs ≡ next ys → next (done ++ xs) ≡ next (done ++ ys)
next_append [] xs ys e = e
next_append (x ∷ done) xs ys e = refl

-- one token
module _ {L A : Type 0} (f : L → Option A) where
  token_front : (ts : List L) (a : A) (rest : List L) → token_reads f ts a rest → Front (token f) always ts a rest
  token_front [] a rest r = absurd r
  token_front (t ∷ ts) a rest r = record { first = t; done = []; is = ap (λ us. t ∷ us) r.1; again = λ us h. (r.0, refl) }

  token_again : (t : L) → f t ≡ None → (vs : List L) → Some t ≡ next vs → token_stops f false vs vs
  token_again t e [] h = refl
  token_again t e (v ∷ vs) h = (subst (λ x. f x ≡ None) (ap (λ o. unwrap_or o t) h) e, refl)

  token_end_again : (vs : List L) → next {L = L} [] ≡ next vs → token_stops f false vs vs
  token_end_again [] h = refl
  token_end_again (v ∷ vs) h = cc

  module _ (sample : L) (value : A) (fits : f sample ≡ Some value) where
    token_goes_on : Completes (token f) always []
    token_goes_on = record { rest = sample ∷ []; value = value; reads = λ us h. (fits, refl) }

    token_stuck : (deep : Bool) (ts rest : List L) → token_stops f deep ts rest → Stuck (token f) always deep ts rest
    token_stuck true ts rest s = absurd s
    token_stuck false [] rest s = record { done = []; is = s; again = λ us h. token_end_again us (ap next s ∙ h); goes_on = token_goes_on }
    token_stuck false (t ∷ ts) rest s = record { done = []; is = s.1; again = λ us h. token_again t s.0 us (ap next s.1 ∙ h); goes_on = token_goes_on }

    token_not_both : (deep : Bool) (ts : List L) (a : A) (rest stop : List L) → token_reads f ts a rest → token_stops f deep ts stop → ⊥
    token_not_both true ts a rest stop r s = s
    token_not_both false [] a rest stop r s = r
    token_not_both false (t ∷ ts) a rest stop r s = let e : Some a ≡ None = sym r.0 ∙ s.0 in cc

    token_one : (ts : List L) (a b : A) (rest rest' : List L) → token_reads f ts a rest → token_reads f ts b rest' → (a ≡ b) × (rest ≡ rest')
    token_one [] a b rest rest' r s = absurd r
    token_one (t ∷ ts) a b rest rest' r s = (ap (λ o. unwrap_or o a) (sym r.0 ∙ s.0), sym r.1 ∙ s.1)

    pub token_laws : Laws (token f) always sample
    token_laws = record {
      some = [];
      value = value;
      some_reads = λ us h. (fits, refl);
      front = token_front;
      stuck = token_stuck;
      not_both = token_not_both;
      one = token_one;
    }

-- one phrase, and then another
module _ {L A B : Type 0} (p : Phrase L A) (f : A → Phrase L B) (p_ok q_ok : Option L → Bool) (p_sample q_sample : L) (lp : Laws p p_ok p_sample) (lf : (a : A) → Laws (f a) q_ok q_sample) (fits : p_ok (Some q_sample) ≡ true) where
  then_front : (ts : List L) (b : B) (rest : List L) → (p >>= f).reads ts b rest → Front (p >>= f) q_ok ts b rest
  then_front ts b rest (a, mid, r1, r2) =
      let one = lp.front ts a mid r1 in
      let two = (lf a).front mid b rest r2 in
      record {
        first = one.first;
        done = one.done ++ (two.first ∷ two.done);
        is = one.is ∙ ap (λ m. one.first ∷ (one.done ++ m)) two.is ∙ ap (λ m. one.first ∷ m) (sym (append_assoc one.done (two.first ∷ two.done) rest));
        again = λ us h. subst (λ m. (p >>= f).reads (one.first ∷ m) b us) (sym (append_assoc one.done (two.first ∷ two.done) us))
            (a, two.first ∷ (two.done ++ us), one.again (two.first ∷ (two.done ++ us)) (inl (ap next two.is)), two.again us h);
      }

  module _ (ts rest : List L) (a : A) (mid : List L) (r1 : p.reads ts a mid) where
    completes_behind : (done : List L) → mid ≡ done ++ rest → Completes (f a) q_ok done → Completes (p >>= f) q_ok ((lp.front ts a mid r1).first ∷ ((lp.front ts a mid r1).done ++ done))
    completes_behind [] e c =
        let one = lp.front ts a mid r1 in
        let l = lf a in
        record {
          rest = q_sample ∷ l.some;
          value = l.value;
          reads = λ us h. subst (λ m. (p >>= f).reads (one.first ∷ m) l.value us) (sym (append_assoc one.done [] (q_sample ∷ (l.some ++ us))))
              (a, q_sample ∷ (l.some ++ us), one.again (q_sample ∷ (l.some ++ us)) (inr fits), l.some_reads us h);
        }
    completes_behind (x ∷ done) e c =
        let one = lp.front ts a mid r1 in
        record {
          rest = c.rest;
          value = c.value;
          reads = λ us h. subst (λ m. (p >>= f).reads (one.first ∷ m) c.value us) (sym (append_assoc one.done (x ∷ done) (c.rest ++ us)))
              (a, x ∷ (done ++ (c.rest ++ us)), one.again (x ∷ (done ++ (c.rest ++ us))) (inl (ap next e)), c.reads us h);
        }

  then_stuck : (deep : Bool) (ts rest : List L) → (p >>= f).stops deep ts rest → Stuck (p >>= f) q_ok deep ts rest
  then_stuck deep ts rest (inl s) =
      let at = lp.stuck deep ts rest s in
      let c = at.goes_on in
      let l = lf c.value in
      record {
        done = at.done;
        is = at.is;
        again = λ us h. inl (at.again us h);
        goes_on = record {
          rest = c.rest ++ (q_sample ∷ l.some);
          value = l.value;
          reads = λ us h. subst (λ m. (p >>= f).reads (at.done ++ m) l.value us) (sym (append_assoc c.rest (q_sample ∷ l.some) us))
              (c.value, q_sample ∷ (l.some ++ us), c.reads (q_sample ∷ (l.some ++ us)) fits, l.some_reads us h);
        };
      }
  then_stuck deep ts rest (inr (a, mid, r1, s2)) =
      let one = lp.front ts a mid r1 in
      let at = (lf a).stuck deep mid rest s2 in
      record {
        done = one.first ∷ (one.done ++ at.done);
        is = one.is ∙ ap (λ m. one.first ∷ (one.done ++ m)) at.is ∙ ap (λ m. one.first ∷ m) (sym (append_assoc one.done at.done rest));
        again = λ us h. subst (λ m. (p >>= f).stops deep (one.first ∷ m) us) (sym (append_assoc one.done at.done us))
            (inr (a, at.done ++ us, one.again (at.done ++ us) (inl (ap next at.is ∙ next_append at.done rest us h)), at.again us h));
        goes_on = completes_behind ts rest a mid r1 at.done at.is at.goes_on;
      }

  then_not_both : (deep : Bool) (ts : List L) (b : B) (rest stop : List L) → (p >>= f).reads ts b rest → (p >>= f).stops deep ts stop → ⊥
  then_not_both deep ts b rest stop (a, mid, r1, r2) (inl s) = lp.not_both deep ts a mid stop r1 s
  then_not_both deep ts b rest stop (a, mid, r1, r2) (inr (a', mid', r1', s2)) =
      let same = lp.one ts a' a mid' mid r1' r1 in
      (lf a).not_both deep mid b rest stop r2 (subst (λ m. (f a).stops deep m stop) same.1 (subst (λ x. (f x).stops deep mid' stop) same.0 s2))

  then_one : (ts : List L) (b b' : B) (rest rest' : List L) → (p >>= f).reads ts b rest → (p >>= f).reads ts b' rest' → (b ≡ b') × (rest ≡ rest')
  then_one ts b b' rest rest' (a, mid, r1, r2) (a', mid', r1', r2') =
      let same = lp.one ts a' a mid' mid r1' r1 in
      (lf a).one mid b b' rest rest' r2 (subst (λ m. (f a).reads m b' rest') same.1 (subst (λ x. (f x).reads mid' b' rest') same.0 r2'))

  pub then_laws : Laws (p >>= f) q_ok p_sample
  then_laws =
      let l = lf lp.value in
      record {
        some = lp.some ++ (q_sample ∷ l.some);
        value = l.value;
        some_reads = λ us h. subst (λ m. (p >>= f).reads (p_sample ∷ m) l.value us) (sym (append_assoc lp.some (q_sample ∷ l.some) us))
            (lp.value, q_sample ∷ (l.some ++ us), lp.some_reads (q_sample ∷ (l.some ++ us)) fits, l.some_reads us h);
        front = then_front;
        stuck = then_stuck;
        not_both = then_not_both;
        one = then_one;
      }

-- the value of a phrase, changed
module _ {L A B : Type 0} (p : Phrase L A) (g : A → B) (ok : Option L → Bool) (sample : L) (lp : Laws p ok sample) where
  pub mapped_laws : Laws (p >>= λ a. gives (g a)) ok sample
  mapped_laws = record {
    some = lp.some;
    value = g lp.value;
    some_reads = λ us h. (lp.value, us, lp.some_reads us h, (refl, refl));
    front = λ ts b rest r.
        let one = lp.front ts r.0 r.1 r.2 in
        record {
          first = one.first;
          done = one.done;
          is = one.is ∙ ap (λ m. one.first ∷ (one.done ++ m)) r.3.1;
          again = λ us h. (r.0, us, one.again us (⊎_elim (λ e. inl (ap next r.3.1 ∙ e)) inr h), (r.3.0, refl));
        };
    stuck = λ deep ts rest s. mapped_stuck deep ts rest s;
    not_both = λ deep ts b rest stop r s. mapped_not_both deep ts b rest stop r s;
    one = λ ts b b' rest rest' r r'.
        let same = lp.one ts r.0 r'.0 r.1 r'.1 r.2 r'.2 in
        (sym r.3.0 ∙ ap g same.0 ∙ r'.3.0, sym r.3.1 ∙ same.1 ∙ r'.3.1);
  }
    where
      mapped_stuck : (deep : Bool) (ts rest : List L) → (p >>= λ a. gives (g a)).stops deep ts rest → Stuck (p >>= λ a. gives (g a)) ok deep ts rest
      mapped_stuck deep ts rest (inl s) =
          let at = lp.stuck deep ts rest s in
          record {
            done = at.done;
            is = at.is;
            again = λ us h. inl (at.again us h);
            goes_on = record { rest = at.goes_on.rest; value = g at.goes_on.value; reads = λ us h. (at.goes_on.value, us, at.goes_on.reads us h, (refl, refl)) };
          }
      mapped_stuck deep ts rest (inr s) = absurd s.3

      mapped_not_both : (deep : Bool) (ts : List L) (b : B) (rest stop : List L) → (p >>= λ a. gives (g a)).reads ts b rest → (p >>= λ a. gives (g a)).stops deep ts stop → ⊥
      mapped_not_both deep ts b rest stop r (inl s) = lp.not_both deep ts r.0 r.1 stop r.2 s
      mapped_not_both deep ts b rest stop r (inr s) = s.3

-- phrases between commas
abbrev pub after_list : {L : Type 0} → (L → Bool) → (Option L → Bool) → Option L → Bool
after_list comma ok o = cond (passes comma o) false (ok o)

pub no_comma : (b c : Bool) → cond b false c ≡ true → (b ≡ false) × (c ≡ true)
no_comma true c e = absurd (true≢false (sym e))
no_comma false c e = (refl, e)

module _ {L A : Type 0} (comma : L → Bool) (p : Phrase L A) (ok : Option L → Bool) (sample : L) (lp : Laws p ok sample) where
  list_front : (ts : List L) (all : List A) (rest : List L) → Listed comma p ts all rest → Front (listed comma p) (after_list comma ok) ts all rest
  list_front ts all rest (last {a = a} r ends) =
      let one = lp.front ts a rest r in
      record {
        first = one.first;
        done = one.done;
        is = one.is;
        again = λ us h. ⊎_elim
            (λ e. last (one.again us (inl e)) (sym (ap (passes comma) e) ∙ ends))
            (λ e. let b = no_comma _ _ e in last (one.again us (inr b.1)) b.0) h;
      }
  list_front ts all rest (more {us = us} {c = c} {a = a} {all = others} r goes l) =
      let one = lp.front ts a (c ∷ us) r in
      let two = list_front us others rest l in
      record {
        first = one.first;
        done = one.done ++ (c ∷ two.first ∷ two.done);
        is = one.is ∙ ap (λ m. one.first ∷ (one.done ++ (c ∷ m))) two.is ∙ ap (λ m. one.first ∷ m) (sym (append_assoc one.done (c ∷ two.first ∷ two.done) rest));
        again = λ vs h. subst (λ m. Listed comma p (one.first ∷ m) all vs) (sym (append_assoc one.done (c ∷ two.first ∷ two.done) vs))
            (more (one.again (c ∷ two.first ∷ (two.done ++ vs)) (inl refl)) goes (two.again vs h));
      }

  list_stuck : (deep : Bool) (ts rest : List L) → ListStops comma p deep ts rest → Stuck (listed comma p) (after_list comma ok) deep ts rest
  list_stuck deep ts rest (here s) =
      let at = lp.stuck deep ts rest s in
      record {
        done = at.done;
        is = at.is;
        again = λ us h. here (at.again us h);
        goes_on = record {
          rest = at.goes_on.rest;
          value = at.goes_on.value ∷ [];
          reads = λ us h. let b = no_comma _ _ h in last (at.goes_on.reads us b.1) b.0;
        };
      }
  list_stuck deep ts rest (later {us = us} {c = c} {a = a} r goes ls) =
      let one = lp.front ts a (c ∷ us) r in
      let at = list_stuck deep us rest ls in
      let d = c ∷ at.done in
      record {
        done = one.first ∷ (one.done ++ d);
        is = one.is ∙ ap (λ m. one.first ∷ (one.done ++ (c ∷ m))) at.is ∙ ap (λ m. one.first ∷ m) (sym (append_assoc one.done d rest));
        again = λ vs h. subst (λ m. ListStops comma p deep (one.first ∷ m) vs) (sym (append_assoc one.done d vs))
            (later (one.again (c ∷ (at.done ++ vs)) (inl refl)) goes (at.again vs h));
        goes_on = record {
          rest = at.goes_on.rest;
          value = a ∷ at.goes_on.value;
          reads = λ vs h. subst (λ m. Listed comma p (one.first ∷ m) (a ∷ at.goes_on.value) vs) (sym (append_assoc one.done d (at.goes_on.rest ++ vs)))
              (more (one.again (c ∷ (at.done ++ (at.goes_on.rest ++ vs))) (inl refl)) goes (at.goes_on.reads vs h));
        };
      }

  -- what begins with a comma passes
  comma_next : (rest us : List L) (c : L) → rest ≡ c ∷ us → comma c ≡ true → passes comma (next rest) ≡ false → ⊥
  comma_next rest us c e goes ends = true≢false (sym goes ∙ (sym (ap (λ m. passes comma (next m)) e) ∙ ends))

  list_not_both : (deep : Bool) (ts ts' : List L) (all : List A) (rest stop : List L) → ts ≡ ts' → Listed comma p ts all rest → ListStops comma p deep ts' stop → ⊥
  list_not_both deep ts ts' all rest stop e (last {a = a} r ends) (here s) = lp.not_both deep ts a rest stop r (subst (λ m. p.stops deep m stop) (sym e) s)
  list_not_both deep ts ts' all rest stop e (last {a = a} r ends) (later {us = us} {c = c} {a = b} r' goes ls) =
      comma_next rest us c (lp.one ts a b rest (c ∷ us) r (subst (λ m. p.reads m b (c ∷ us)) (sym e) r')).1 goes ends
  list_not_both deep ts ts' all rest stop e (more {us = us} {c = c} {a = a} r goes l) (here s) = lp.not_both deep ts a (c ∷ us) stop r (subst (λ m. p.stops deep m stop) (sym e) s)
  list_not_both deep ts ts' all rest stop e (more {us = us} {c = c} {a = a} {all = others} r goes l) (later {us = us'} {c = c'} {a = b} r' goes' ls) =
      list_not_both deep us us' others rest stop (ap (drop 1) (lp.one ts a b (c ∷ us) (c' ∷ us') r (subst (λ m. p.reads m b (c' ∷ us')) (sym e) r')).1) l ls

  list_one : (ts ts' : List L) (all all' : List A) (rest rest' : List L) → ts ≡ ts' → Listed comma p ts all rest → Listed comma p ts' all' rest' → (all ≡ all') × (rest ≡ rest')
  list_one ts ts' all all' rest rest' e (last {a = a} r ends) (last {a = b} r' ends') =
      let same = lp.one ts a b rest rest' r (subst (λ m. p.reads m b rest') (sym e) r') in
      (ap (λ x. x ∷ []) same.0, same.1)
  list_one ts ts' all all' rest rest' e (last {a = a} r ends) (more {us = us} {c = c} {a = b} r' goes l) =
      absurd (comma_next rest us c (lp.one ts a b rest (c ∷ us) r (subst (λ m. p.reads m b (c ∷ us)) (sym e) r')).1 goes ends)
  list_one ts ts' all all' rest rest' e (more {us = us} {c = c} {a = a} r goes l) (last {a = b} r' ends) =
      absurd (comma_next rest' us c (lp.one ts b a rest' (c ∷ us) (subst (λ m. p.reads m b rest') (sym e) r') r).1 goes ends)
  list_one ts ts' all all' rest rest' e (more {us = us} {c = c} {a = a} {all = others} r goes l) (more {us = us'} {c = c'} {a = b} {all = others'} r' goes' l') =
      let same = lp.one ts a b (c ∷ us) (c' ∷ us') r (subst (λ m. p.reads m b (c' ∷ us')) (sym e) r') in
      let after = list_one us us' others others' rest rest' (ap (drop 1) same.1) l l' in
      (λ i. same.0 i ∷ after.0 i, after.1)

  pub list_laws : Laws (listed comma p) (after_list comma ok) sample
  list_laws = record {
    some = lp.some;
    value = lp.value ∷ [];
    some_reads = λ us h. let b = no_comma _ _ h in last (lp.some_reads us b.1) b.0;
    front = list_front;
    stuck = list_stuck;
    not_both = λ deep ts all rest stop r s. list_not_both deep ts ts all rest stop refl r s;
    one = λ ts all all' rest rest' r r'. list_one ts ts all all' rest rest' refl r r';
  }

-- one phrase where the next token passes, and else another
module _ {L A : Type 0} (test : L → Bool) (p q : Phrase L A) (ok : Option L → Bool) (p_sample q_sample : L) (lp : Laws p ok p_sample) (lq : Laws q ok q_sample) (fits : test p_sample ≡ true) where
  read_at : (b : Bool) (ts : List L) (a : A) (rest : List L) → passes test (next ts) ≡ b → MatchBool b (p.reads ts a rest) (q.reads ts a rest) → (by_next test p q).reads ts a rest
  read_at b ts a rest e r = subst (λ c. MatchBool c (p.reads ts a rest) (q.reads ts a rest)) (sym e) r

  stop_at : (deep b : Bool) (ts rest : List L) → passes test (next ts) ≡ b → MatchBool b (p.stops deep ts rest) (q.stops deep ts rest) → (by_next test p q).stops deep ts rest
  stop_at deep b ts rest e s = subst (λ c. MatchBool c (p.stops deep ts rest) (q.stops deep ts rest)) (sym e) s

  front_at : (b : Bool) (ts : List L) (a : A) (rest : List L) → passes test (next ts) ≡ b → MatchBool b (p.reads ts a rest) (q.reads ts a rest) → Front (by_next test p q) ok ts a rest
  front_at true ts a rest e r =
      let one = lp.front ts a rest r in
      record {
        first = one.first;
        done = one.done;
        is = one.is;
        again = λ us h. read_at true (one.first ∷ (one.done ++ us)) a us (sym (ap (λ m. passes test (next m)) one.is) ∙ e) (one.again us h);
      }
  front_at false ts a rest e r =
      let one = lq.front ts a rest r in
      record {
        first = one.first;
        done = one.done;
        is = one.is;
        again = λ us h. read_at false (one.first ∷ (one.done ++ us)) a us (sym (ap (λ m. passes test (next m)) one.is) ∙ e) (one.again us h);
      }

  some_at : (us : List L) → ok (next us) ≡ true → (by_next test p q).reads (p_sample ∷ (lp.some ++ us)) lp.value us
  some_at us h = read_at true (p_sample ∷ (lp.some ++ us)) lp.value us fits (lp.some_reads us h)

  p_completes : (done : List L) → ((x : L) (d : List L) → done ≡ x ∷ d → test x ≡ true) → Completes p ok done → Completes (by_next test p q) ok done
  p_completes [] e c = record { rest = p_sample ∷ lp.some; value = lp.value; reads = some_at }
  p_completes (x ∷ d) e c = record { rest = c.rest; value = c.value; reads = λ us h. read_at true (x ∷ (d ++ (c.rest ++ us))) c.value us (e x d refl) (c.reads us h) }

  q_completes : (done : List L) → ((x : L) (d : List L) → done ≡ x ∷ d → test x ≡ false) → Completes q ok done → Completes (by_next test p q) ok done
  q_completes [] e c = record { rest = p_sample ∷ lp.some; value = lp.value; reads = some_at }
  q_completes (x ∷ d) e c = record { rest = c.rest; value = c.value; reads = λ us h. read_at false (x ∷ (d ++ (c.rest ++ us))) c.value us (e x d refl) (c.reads us h) }

  first_is : (ts done rest : List L) (b : Bool) → passes test (next ts) ≡ b → ts ≡ done ++ rest → (x : L) (d : List L) → done ≡ x ∷ d → test x ≡ b
  first_is ts done rest b e is x d eq = sym (ap (λ m. passes test (next (m ++ rest))) eq) ∙ (sym (ap (λ m. passes test (next m)) is) ∙ e)

  stuck_at : (deep b : Bool) (ts rest : List L) → passes test (next ts) ≡ b → MatchBool b (p.stops deep ts rest) (q.stops deep ts rest) → Stuck (by_next test p q) ok deep ts rest
  stuck_at deep true ts rest e s =
      let at = lp.stuck deep ts rest s in
      record {
        done = at.done;
        is = at.is;
        again = λ us h. stop_at deep true (at.done ++ us) us (sym (ap (passes test) (next_append at.done rest us h)) ∙ (sym (ap (λ m. passes test (next m)) at.is) ∙ e)) (at.again us h);
        goes_on = p_completes at.done (first_is ts at.done rest true e at.is) at.goes_on;
      }
  stuck_at deep false ts rest e s =
      let at = lq.stuck deep ts rest s in
      record {
        done = at.done;
        is = at.is;
        again = λ us h. stop_at deep false (at.done ++ us) us (sym (ap (passes test) (next_append at.done rest us h)) ∙ (sym (ap (λ m. passes test (next m)) at.is) ∙ e)) (at.again us h);
        goes_on = q_completes at.done (first_is ts at.done rest false e at.is) at.goes_on;
      }

  not_both_at : (deep b : Bool) (ts : List L) (a : A) (rest stop : List L) → MatchBool b (p.reads ts a rest) (q.reads ts a rest) → MatchBool b (p.stops deep ts stop) (q.stops deep ts stop) → ⊥
  not_both_at deep true ts a rest stop r s = lp.not_both deep ts a rest stop r s
  not_both_at deep false ts a rest stop r s = lq.not_both deep ts a rest stop r s

  one_at : (b : Bool) (ts : List L) (a a' : A) (rest rest' : List L) → MatchBool b (p.reads ts a rest) (q.reads ts a rest) → MatchBool b (p.reads ts a' rest') (q.reads ts a' rest') → (a ≡ a') × (rest ≡ rest')
  one_at true ts a a' rest rest' r r' = lp.one ts a a' rest rest' r r'
  one_at false ts a a' rest rest' r r' = lq.one ts a a' rest rest' r r'

  pub by_next_laws : Laws (by_next test p q) ok p_sample
  by_next_laws = record {
    some = lp.some;
    value = lp.value;
    some_reads = some_at;
    front = λ ts a rest r. front_at (passes test (next ts)) ts a rest refl r;
    stuck = λ deep ts rest s. stuck_at deep (passes test (next ts)) ts rest refl s;
    not_both = λ deep ts a rest stop r s. not_both_at deep (passes test (next ts)) ts a rest stop r s;
    one = λ ts a a' rest rest' r r'. one_at (passes test (next ts)) ts a a' rest rest' r r';
  }

-- a phrase where the next token passes, and else nothing, or what would be nested too deep
module _ {L A : Type 0} (test opens : L → Bool) (p : Phrase L A) (ok : Option L → Bool) (sample : L) (lp : Laws p ok sample) (fits : test sample ≡ true) where
  limited_reads : (ts : List L) (a : A) (rest : List L) → passes test (next ts) ≡ true → p.reads ts a rest → (by_next test p (limit opens)).reads ts a rest
  limited_reads ts a rest e r = subst (λ c. MatchBool c (p.reads ts a rest) ⊥) (sym e) r

  limited_front : (b : Bool) (ts : List L) (a : A) (rest : List L) → passes test (next ts) ≡ b → MatchBool b (p.reads ts a rest) ⊥ → Front (by_next test p (limit opens)) ok ts a rest
  limited_front false ts a rest e r = absurd r
  limited_front true ts a rest e r =
      let one = lp.front ts a rest r in
      record {
        first = one.first;
        done = one.done;
        is = one.is;
        again = λ us h. limited_reads (one.first ∷ (one.done ++ us)) a us (sym (ap (λ m. passes test (next m)) one.is) ∙ e) (one.again us h);
      }

  limited_some : (us : List L) → ok (next us) ≡ true → (by_next test p (limit opens)).reads (sample ∷ (lp.some ++ us)) lp.value us
  limited_some us h = limited_reads (sample ∷ (lp.some ++ us)) lp.value us fits (lp.some_reads us h)

  limited_completes : (done : List L) → ((x : L) (d : List L) → done ≡ x ∷ d → test x ≡ true) → Completes p ok done → Completes (by_next test p (limit opens)) ok done
  limited_completes [] e c = record { rest = sample ∷ lp.some; value = lp.value; reads = limited_some }
  limited_completes (x ∷ d) e c = record { rest = c.rest; value = c.value; reads = λ us h. limited_reads (x ∷ (d ++ (c.rest ++ us))) c.value us (e x d refl) (c.reads us h) }

  limited_stuck : (deep b : Bool) (ts rest : List L) → passes test (next ts) ≡ b → MatchBool b (p.stops deep ts rest) ((ts ≡ rest) × (passes opens (next ts) ≡ deep)) → Stuck (by_next test p (limit opens)) ok deep ts rest
  limited_stuck deep true ts rest e s =
      let at = lp.stuck deep ts rest s in
      record {
        done = at.done;
        is = at.is;
        again = λ us h. subst (λ c. MatchBool c (p.stops deep (at.done ++ us) us) ((at.done ++ us ≡ us) × (passes opens (next (at.done ++ us)) ≡ deep)))
            (sym (sym (ap (passes test) (next_append at.done rest us h)) ∙ (sym (ap (λ m. passes test (next m)) at.is) ∙ e))) (at.again us h);
        goes_on = limited_completes at.done (λ x d eq. sym (ap (λ m. passes test (next (m ++ rest))) eq) ∙ (sym (ap (λ m. passes test (next m)) at.is) ∙ e)) at.goes_on;
      }
  limited_stuck deep false ts rest e s =
      record {
        done = [];
        is = s.0;
        again = λ us h. subst (λ c. MatchBool c (p.stops deep us us) ((us ≡ us) × (passes opens (next us) ≡ deep)))
            (sym (sym (ap (passes test) (ap next s.0 ∙ h)) ∙ e)) (refl, sym (ap (passes opens) (ap next s.0 ∙ h)) ∙ s.1);
        goes_on = record { rest = sample ∷ lp.some; value = lp.value; reads = limited_some };
      }

  limited_not_both : (deep b : Bool) (ts : List L) (a : A) (rest stop : List L) → MatchBool b (p.reads ts a rest) ⊥ → MatchBool b (p.stops deep ts stop) ((ts ≡ stop) × (passes opens (next ts) ≡ deep)) → ⊥
  limited_not_both deep true ts a rest stop r s = lp.not_both deep ts a rest stop r s
  limited_not_both deep false ts a rest stop r s = r

  limited_one : (b : Bool) (ts : List L) (a a' : A) (rest rest' : List L) → MatchBool b (p.reads ts a rest) ⊥ → MatchBool b (p.reads ts a' rest') ⊥ → (a ≡ a') × (rest ≡ rest')
  limited_one true ts a a' rest rest' r r' = lp.one ts a a' rest rest' r r'
  limited_one false ts a a' rest rest' r r' = absurd r

  pub limited_laws : Laws (by_next test p (limit opens)) ok sample
  limited_laws = record {
    some = lp.some;
    value = lp.value;
    some_reads = limited_some;
    front = λ ts a rest r. limited_front (passes test (next ts)) ts a rest refl r;
    stuck = λ deep ts rest s. limited_stuck deep (passes test (next ts)) ts rest refl s;
    not_both = λ deep ts a rest stop r s. limited_not_both deep (passes test (next ts)) ts a rest stop r s;
    one = λ ts a a' rest rest' r r'. limited_one (passes test (next ts)) ts a a' rest rest' r r';
  }

-- a phrase, and another behind it where the next token passes
module _ {L A B : Type 0} (p : Phrase L A) (test : L → Bool) (f : A → Phrase L B) (g : A → B) (p_sample q_sample : L) (lp : Laws p always p_sample) (lf : (a : A) → Laws (f a) always q_sample) where
  tail_reads : (b : Bool) (a : A) (mid : List L) (v : B) (rest : List L) → passes test (next mid) ≡ b → MatchBool b ((f a).reads mid v rest) ((g a ≡ v) × (mid ≡ rest)) → (by_next test (f a) (gives (g a))).reads mid v rest
  tail_reads b a mid v rest e r = subst (λ c. MatchBool c ((f a).reads mid v rest) ((g a ≡ v) × (mid ≡ rest))) (sym e) r

  maybe_front : (b : Bool) (ts : List L) (v : B) (rest : List L) (a : A) (mid : List L) → p.reads ts a mid → passes test (next mid) ≡ b → MatchBool b ((f a).reads mid v rest) ((g a ≡ v) × (mid ≡ rest)) → Front (p >>= λ x. by_next test (f x) (gives (g x))) (after_list test always) ts v rest
  maybe_front true ts v rest a mid r1 e r2 =
      let one = lp.front ts a mid r1 in
      let two = (lf a).front mid v rest r2 in
      record {
        first = one.first;
        done = one.done ++ (two.first ∷ two.done);
        is = one.is ∙ ap (λ m. one.first ∷ (one.done ++ m)) two.is ∙ ap (λ m. one.first ∷ m) (sym (append_assoc one.done (two.first ∷ two.done) rest));
        again = λ us h. subst (λ m. (p >>= λ x. by_next test (f x) (gives (g x))).reads (one.first ∷ m) v us) (sym (append_assoc one.done (two.first ∷ two.done) us)) (
          a,
          two.first ∷ (two.done ++ us),
          one.again (two.first ∷ (two.done ++ us)) (inr refl),
          tail_reads true a (two.first ∷ (two.done ++ us)) v us (sym (ap (λ m. passes test (next m)) two.is) ∙ e) (two.again us (inr refl)),
        );
      }
  maybe_front false ts v rest a mid r1 e r2 =
      let one = lp.front ts a mid r1 in
      record {
        first = one.first;
        done = one.done;
        is = one.is ∙ ap (λ m. one.first ∷ (one.done ++ m)) r2.1;
        again = λ us h.
            let ends = ⊎_elim (λ (k : next rest ≡ next us). ap (passes test) (sym k) ∙ (sym (ap (λ m. passes test (next m)) r2.1) ∙ e)) (λ (k : after_list test always (next us) ≡ true). (no_comma _ _ k).0) h in
            (a, us, one.again us (inr refl), tail_reads false a us v us ends (r2.0, refl));
      }

  maybe_some : (a : A) (ts us : List L) → p.reads ts a us → after_list test always (next us) ≡ true → (p >>= λ x. by_next test (f x) (gives (g x))).reads ts (g a) us
  maybe_some a ts us r h = (a, us, r, tail_reads false a us (g a) us (no_comma _ _ h).0 (refl, refl))

  module _ (ts rest : List L) (a : A) (mid : List L) (r1 : p.reads ts a mid) (e : passes test (next mid) ≡ true) where
    maybe_completes : (done : List L) → mid ≡ done ++ rest → Completes (f a) always done → Completes (p >>= λ x. by_next test (f x) (gives (g x))) (after_list test always) ((lp.front ts a mid r1).first ∷ ((lp.front ts a mid r1).done ++ done))
    maybe_completes [] is c =
        let one = lp.front ts a mid r1 in
        record {
          rest = [];
          value = g a;
          reads = λ us h. subst (λ m. (p >>= λ x. by_next test (f x) (gives (g x))).reads (one.first ∷ m) (g a) us) (sym (append_assoc one.done [] us)) (maybe_some a (one.first ∷ (one.done ++ us)) us (one.again us (inr refl)) h);
        }
    maybe_completes (x ∷ done) is c =
        let one = lp.front ts a mid r1 in
        record {
          rest = c.rest;
          value = c.value;
          reads = λ us h. subst (λ m. (p >>= λ y. by_next test (f y) (gives (g y))).reads (one.first ∷ m) c.value us) (sym (append_assoc one.done (x ∷ done) (c.rest ++ us))) (
            a,
            x ∷ (done ++ (c.rest ++ us)),
            one.again (x ∷ (done ++ (c.rest ++ us))) (inr refl),
            tail_reads true a (x ∷ (done ++ (c.rest ++ us))) c.value us (sym (ap (λ m. passes test (next m)) is) ∙ e) (c.reads us refl),
          );
        }

  maybe_behind : (deep b : Bool) (ts rest : List L) (a : A) (mid : List L) → p.reads ts a mid → passes test (next mid) ≡ b → MatchBool b ((f a).stops deep mid rest) ⊥ → Stuck (p >>= λ x. by_next test (f x) (gives (g x))) (after_list test always) deep ts rest
  maybe_behind deep false ts rest a mid r1 e s = absurd s
  maybe_behind deep true ts rest a mid r1 e s =
      let one = lp.front ts a mid r1 in
      let at = (lf a).stuck deep mid rest s in
      record {
        done = one.first ∷ (one.done ++ at.done);
        is = one.is ∙ ap (λ m. one.first ∷ (one.done ++ m)) at.is ∙ ap (λ m. one.first ∷ m) (sym (append_assoc one.done at.done rest));
        again = λ us h. subst (λ m. (p >>= λ x. by_next test (f x) (gives (g x))).stops deep (one.first ∷ m) us) (sym (append_assoc one.done at.done us))
            (inr (
              a,
              at.done ++ us,
              one.again (at.done ++ us) (inr refl),
              subst (λ c. MatchBool c ((f a).stops deep (at.done ++ us) us) ⊥) (sym (sym (ap (passes test) (next_append at.done rest us h)) ∙ (sym (ap (λ m. passes test (next m)) at.is) ∙ e))) (at.again us h),
            ));
        goes_on = maybe_completes ts rest a mid r1 e at.done at.is at.goes_on;
      }

  maybe_stuck : (deep : Bool) (ts rest : List L) → (p >>= λ x. by_next test (f x) (gives (g x))).stops deep ts rest → Stuck (p >>= λ x. by_next test (f x) (gives (g x))) (after_list test always) deep ts rest
  maybe_stuck deep ts rest (inl s) =
      let at = lp.stuck deep ts rest s in
      let c = at.goes_on in
      record {
        done = at.done;
        is = at.is;
        again = λ us h. inl (at.again us h);
        goes_on = record { rest = c.rest; value = g c.value; reads = λ us h. maybe_some c.value (at.done ++ (c.rest ++ us)) us (c.reads us refl) h };
      }
  maybe_stuck deep ts rest (inr (a, mid, r1, s2)) = maybe_behind deep (passes test (next mid)) ts rest a mid r1 refl s2

  tail_not_both : (deep b : Bool) (a : A) (mid : List L) (v : B) (rest stop : List L) → MatchBool b ((f a).reads mid v rest) ((g a ≡ v) × (mid ≡ rest)) → MatchBool b ((f a).stops deep mid stop) ⊥ → ⊥
  tail_not_both deep true a mid v rest stop r s = (lf a).not_both deep mid v rest stop r s
  tail_not_both deep false a mid v rest stop r s = s

  maybe_not_both : (deep : Bool) (ts : List L) (v : B) (rest stop : List L) → (p >>= λ x. by_next test (f x) (gives (g x))).reads ts v rest → (p >>= λ x. by_next test (f x) (gives (g x))).stops deep ts stop → ⊥
  maybe_not_both deep ts v rest stop (a, mid, r1, r2) (inl s) = lp.not_both deep ts a mid stop r1 s
  maybe_not_both deep ts v rest stop (a, mid, r1, r2) (inr (a', mid', r1', s2)) =
      let same = lp.one ts a' a mid' mid r1' r1 in
      tail_not_both deep (passes test (next mid)) a mid v rest stop r2
      (subst (λ m. (by_next test (f a) (gives (g a))).stops deep m stop) same.1 (subst (λ x. (by_next test (f x) (gives (g x))).stops deep mid' stop) same.0 s2))

  tail_one : (b : Bool) (a : A) (mid : List L) (v v' : B) (rest rest' : List L) → MatchBool b ((f a).reads mid v rest) ((g a ≡ v) × (mid ≡ rest)) → MatchBool b ((f a).reads mid v' rest') ((g a ≡ v') × (mid ≡ rest')) → (v ≡ v') × (rest ≡ rest')
  tail_one true a mid v v' rest rest' r r' = (lf a).one mid v v' rest rest' r r'
  tail_one false a mid v v' rest rest' r r' = (sym r.0 ∙ r'.0, sym r.1 ∙ r'.1)

  maybe_one : (ts : List L) (v v' : B) (rest rest' : List L) → (p >>= λ x. by_next test (f x) (gives (g x))).reads ts v rest → (p >>= λ x. by_next test (f x) (gives (g x))).reads ts v' rest' → (v ≡ v') × (rest ≡ rest')
  maybe_one ts v v' rest rest' (a, mid, r1, r2) (a', mid', r1', r2') =
      let same = lp.one ts a' a mid' mid r1' r1 in
      tail_one (passes test (next mid)) a mid v v' rest rest' r2
      (subst (λ m. (by_next test (f a) (gives (g a))).reads m v' rest') same.1 (subst (λ x. (by_next test (f x) (gives (g x))).reads mid' v' rest') same.0 r2'))

  pub maybe_laws : Laws (p >>= λ x. by_next test (f x) (gives (g x))) (after_list test always) p_sample
  maybe_laws = record {
    some = lp.some;
    value = g lp.value;
    some_reads = λ us h. maybe_some lp.value (p_sample ∷ (lp.some ++ us)) us (lp.some_reads us refl) h;
    front = λ ts v rest r. maybe_front (passes test (next r.1)) ts v rest r.0 r.1 r.2 refl r.3;
    stuck = maybe_stuck;
    not_both = maybe_not_both;
    one = maybe_one;
  }

-- a phrase that may be followed by more may be followed by less
pub narrower : {L A : Type 0} (p : Phrase L A) (ok less : Option L → Bool) (sample : L) → ((o : Option L) → less o ≡ true → ok o ≡ true) → Laws p ok sample → Laws p less sample
narrower p ok less sample fits l = record {
  some = l.some;
  value = l.value;
  some_reads = λ us h. l.some_reads us (fits _ h);
  front = λ ts a rest r. let one = l.front ts a rest r in record { first = one.first; done = one.done; is = one.is; again = λ us h. one.again us (⊎_elim inl (λ k. inr (fits _ k)) h) };
  stuck = λ deep ts rest s. let at = l.stuck deep ts rest s in record {
    done = at.done;
    is = at.is;
    again = at.again;
    goes_on = record { rest = at.goes_on.rest; value = at.goes_on.value; reads = λ us h. at.goes_on.reads us (fits _ h) };
  };
  not_both = l.not_both;
  one = l.one;
}
