-- A phrase that may be nested deeper reads what the narrower one reads, stops where that stops unless it is for the depth, and goes past where it is.
use Rattle.std.proofs.Common.{◌≡◌, Bool, true, false, List, [], ◌∷◌, ◌++◌, Option, Some, refl, sym, ◌∙◌, ap, subst, inl, inr, append_assoc}
use Rattle.std.specs.Prelude.{MatchBool}
use Rattle.ss_parser.specs.Phrases.{Phrase, next, passes, token, gives, ◌>>=◌, by_next, Listed, last, more, ListStops, here, later, listed, limit}
use Rattle.ss_parser.proofs.PhraseLaws.{Laws, after_list, no_comma, next_append}

-- with one more token than before rest a phrase can go on to its end
pub record GoesPast {L A : Type 0} (p : Phrase L A) (ok : Option L → Bool) (ts rest : List L) : Type 0 where
  pub done : List L
  pub one : L
  pub left : List L
  pub is_rest : rest ≡ one ∷ left
  pub is : ts ≡ done ++ rest
  pub some : List L
  pub value : A
  pub reads : (us : List L) → ok (next us) ≡ true → p.reads (done ++ (one ∷ (some ++ us))) value us

pub record Wider {L A : Type 0} (p q : Phrase L A) (ok : Option L → Bool) : Type 0 where
  pub reads : (ts : List L) (a : A) (rest : List L) → p.reads ts a rest → q.reads ts a rest
  pub stops : (ts rest : List L) → p.stops false ts rest → q.stops false ts rest
  pub goes : (ts rest : List L) → p.stops true ts rest → GoesPast q ok ts rest

-- a phrase that nothing stops for its depth
abbrev pub IsShallow : {L A : Type 0} → Phrase L A → Type 0
IsShallow {L} p = (ts rest : List L) → p.stops true ts rest → ⊥

pub token_shallow : {L A : Type 0} (f : L → Option A) → IsShallow (token f)
token_shallow f ts rest s = s

pub gives_shallow : {L A : Type 0} (a : A) → IsShallow {L = L} (gives a)
gives_shallow a ts rest s = s

pub then_shallow : {L A B : Type 0} (p : Phrase L A) (f : A → Phrase L B) → IsShallow p → ((a : A) → IsShallow (f a)) → IsShallow (p >>= f)
then_shallow p f hp hf ts rest (inl s) = hp ts rest s
then_shallow p f hp hf ts rest (inr (a, mid, r, s)) = hf a mid rest s

either_shallow : {L A : Type 0} (b : Bool) (p q : Phrase L A) (ts rest : List L) → IsShallow p → IsShallow q → MatchBool b (p.stops true ts rest) (q.stops true ts rest) → ⊥
either_shallow true p q ts rest hp hq s = hp ts rest s
either_shallow false p q ts rest hp hq s = hq ts rest s

pub by_next_shallow : {L A : Type 0} (test : L → Bool) (p q : Phrase L A) → IsShallow p → IsShallow q → IsShallow (by_next test p q)
by_next_shallow test p q hp hq ts rest s = either_shallow (passes test (next ts)) p q ts rest hp hq s

module _ {L A : Type 0} (comma : L → Bool) (p : Phrase L A) (hp : IsShallow p) where
  list_not_deep : (ts rest : List L) → ListStops comma p true ts rest → ⊥
  list_not_deep ts rest (here s) = hp ts rest s
  list_not_deep ts rest (later {us = us} r goes s) = list_not_deep us rest s

  pub listed_shallow : IsShallow (listed comma p)
  listed_shallow = list_not_deep

-- what a phrase stops at for its depth passes
abbrev pub StopsAt : {L A : Type 0} → (L → Bool) → Phrase L A → Type 0
StopsAt {L} test p = (ts rest : List L) → p.stops true ts rest → passes test (next rest) ≡ true

pub shallow_stops : {L A : Type 0} (test : L → Bool) (p : Phrase L A) → IsShallow p → StopsAt test p
shallow_stops test p h ts rest s = absurd (h ts rest s)

pub then_stops_at : {L A B : Type 0} (test : L → Bool) (p : Phrase L A) (f : A → Phrase L B) → StopsAt test p → ((a : A) → StopsAt test (f a)) → StopsAt test (p >>= f)
then_stops_at test p f hp hf ts rest (inl s) = hp ts rest s
then_stops_at test p f hp hf ts rest (inr (a, mid, r, s)) = hf a mid rest s

either_stops : {L A : Type 0} (b : Bool) (test : L → Bool) (p q : Phrase L A) (ts rest : List L) → StopsAt test p → StopsAt test q → MatchBool b (p.stops true ts rest) (q.stops true ts rest) → passes test (next rest) ≡ true
either_stops true test p q ts rest hp hq s = hp ts rest s
either_stops false test p q ts rest hp hq s = hq ts rest s

pub by_next_stops_at : {L A : Type 0} (test first : L → Bool) (p q : Phrase L A) → StopsAt test p → StopsAt test q → StopsAt test (by_next first p q)
by_next_stops_at test first p q hp hq ts rest s = either_stops (passes first (next ts)) test p q ts rest hp hq s

module _ {L A : Type 0} (test comma : L → Bool) (p : Phrase L A) (hp : StopsAt test p) where
  list_stops_at : (ts rest : List L) → ListStops comma p true ts rest → passes test (next rest) ≡ true
  list_stops_at ts rest (here s) = hp ts rest s
  list_stops_at ts rest (later {us = us} r goes s) = list_stops_at us rest s

  pub listed_stops_at : StopsAt test (listed comma p)
  listed_stops_at = list_stops_at

pub limit_stops_at : {L : Type 0} (A : Type 0) (test : L → Bool) → StopsAt test (limit {L = L} {A = A} test)
limit_stops_at A test ts rest s = subst (λ m. passes test (next m) ≡ true) s.0 s.1

-- such a phrase is as wide as it is
pub shallow_wider : {L A : Type 0} (p : Phrase L A) (ok : Option L → Bool) → IsShallow p → Wider p p ok
shallow_wider p ok h = record { reads = λ ts a rest r. r; stops = λ ts rest s. s; goes = λ ts rest s. absurd (h ts rest s) }

module _ {L A B : Type 0} (p p' : Phrase L A) (f f' : A → Phrase L B) (p_ok q_ok : Option L → Bool) (p_sample q_sample : L) (wp : Wider p p' p_ok) (wf : (a : A) → Wider (f a) (f' a) q_ok) (lp : Laws p' p_ok p_sample) (lf : (a : A) → Laws (f' a) q_ok q_sample) (fits : p_ok (Some q_sample) ≡ true) where
  then_stops : (ts rest : List L) → (p >>= f).stops false ts rest → (p' >>= f').stops false ts rest
  then_stops ts rest (inl s) = inl (wp.stops ts rest s)
  then_stops ts rest (inr (a, mid, r, s)) = inr (a, mid, wp.reads ts a mid r, (wf a).stops mid rest s)

  then_goes : (ts rest : List L) → (p >>= f).stops true ts rest → GoesPast (p' >>= f') q_ok ts rest
  then_goes ts rest (inl s) =
      let g = wp.goes ts rest s in
      let l = lf g.value in
      record {
        done = g.done;
        one = g.one;
        left = g.left;
        is_rest = g.is_rest;
        is = g.is;
        some = g.some ++ (q_sample ∷ l.some);
        value = l.value;
        reads = λ us h. subst (λ m. (p' >>= f').reads (g.done ++ (g.one ∷ m)) l.value us) (sym (append_assoc g.some (q_sample ∷ l.some) us))
            (g.value, q_sample ∷ (l.some ++ us), g.reads (q_sample ∷ (l.some ++ us)) fits, l.some_reads us h);
      }
  then_goes ts rest (inr (a, mid, r, s)) =
      let front = lp.front ts a mid (wp.reads ts a mid r) in
      let g = (wf a).goes mid rest s in
      record {
        done = front.first ∷ (front.done ++ g.done);
        one = g.one;
        left = g.left;
        is_rest = g.is_rest;
        is = front.is ∙ ap (λ m. front.first ∷ (front.done ++ m)) g.is ∙ ap (λ m. front.first ∷ m) (sym (append_assoc front.done g.done rest));
        some = g.some;
        value = g.value;
        reads = λ us h. subst (λ m. (p' >>= f').reads (front.first ∷ m) g.value us) (sym (append_assoc front.done g.done (g.one ∷ (g.some ++ us))))
            (a, g.done ++ (g.one ∷ (g.some ++ us)), front.again (g.done ++ (g.one ∷ (g.some ++ us))) (inl (ap next g.is ∙ next_append g.done rest (g.one ∷ (g.some ++ us)) (ap next g.is_rest))), g.reads us h);
      }

  pub then_wider : Wider (p >>= f) (p' >>= f') q_ok
  then_wider = record {
    reads = λ ts b rest r. (r.0, r.1, wp.reads ts r.0 r.1 r.2, (wf r.0).reads r.1 b rest r.3);
    stops = then_stops;
    goes = then_goes;
  }

module _ {L A B : Type 0} (p p' : Phrase L A) (g : A → B) (ok : Option L → Bool) (w : Wider p p' ok) where
  mapped_stops : (ts rest : List L) → (p >>= λ a. gives (g a)).stops false ts rest → (p' >>= λ a. gives (g a)).stops false ts rest
  mapped_stops ts rest (inl s) = inl (w.stops ts rest s)
  mapped_stops ts rest (inr s) = absurd s.3

  mapped_goes : (ts rest : List L) → (p >>= λ a. gives (g a)).stops true ts rest → GoesPast (p' >>= λ a. gives (g a)) ok ts rest
  mapped_goes ts rest (inl s) =
      let h = w.goes ts rest s in
      record {
        done = h.done;
        one = h.one;
        left = h.left;
        is_rest = h.is_rest;
        is = h.is;
        some = h.some;
        value = g h.value;
        reads = λ us k. (h.value, us, h.reads us k, (refl, refl));
      }
  mapped_goes ts rest (inr s) = absurd s.3

  pub mapped_wider : Wider (p >>= λ a. gives (g a)) (p' >>= λ a. gives (g a)) ok
  mapped_wider = record { reads = λ ts b rest r. (r.0, r.1, w.reads ts r.0 r.1 r.2, r.3); stops = mapped_stops; goes = mapped_goes }

module _ {L A : Type 0} (comma : L → Bool) (p p' : Phrase L A) (ok : Option L → Bool) (sample : L) (w : Wider p p' ok) (lp : Laws p' ok sample) where
  list_reads : (ts : List L) (all : List A) (rest : List L) → Listed comma p ts all rest → Listed comma p' ts all rest
  list_reads ts all rest (last {a = a} r ends) = last (w.reads ts a rest r) ends
  list_reads ts all rest (more {us = us} {c = c} {a = a} {all = others} r goes l) = more (w.reads ts a (c ∷ us) r) goes (list_reads us others rest l)

  list_stops : (ts rest : List L) → ListStops comma p false ts rest → ListStops comma p' false ts rest
  list_stops ts rest (here s) = here (w.stops ts rest s)
  list_stops ts rest (later {us = us} {c = c} {a = a} r goes s) = later (w.reads ts a (c ∷ us) r) goes (list_stops us rest s)

  list_goes : (ts rest : List L) → ListStops comma p true ts rest → GoesPast (listed comma p') (after_list comma ok) ts rest
  list_goes ts rest (here s) =
      let g = w.goes ts rest s in
      record {
        done = g.done;
        one = g.one;
        left = g.left;
        is_rest = g.is_rest;
        is = g.is;
        some = g.some;
        value = g.value ∷ [];
        reads = λ us h. let b = no_comma _ _ h in last (g.reads us b.1) b.0;
      }
  list_goes ts rest (later {us = us} {c = c} {a = a} r goes s) =
      let front = lp.front ts a (c ∷ us) (w.reads ts a (c ∷ us) r) in
      let g = list_goes us rest s in
      let d = c ∷ g.done in
      record {
        done = front.first ∷ (front.done ++ d);
        one = g.one;
        left = g.left;
        is_rest = g.is_rest;
        is = front.is ∙ ap (λ m. front.first ∷ (front.done ++ (c ∷ m))) g.is ∙ ap (λ m. front.first ∷ m) (sym (append_assoc front.done d rest));
        some = g.some;
        value = a ∷ g.value;
        reads = λ vs h. subst (λ m. Listed comma p' (front.first ∷ m) (a ∷ g.value) vs) (sym (append_assoc front.done d (g.one ∷ (g.some ++ vs))))
            (more (front.again (c ∷ (g.done ++ (g.one ∷ (g.some ++ vs)))) (inl refl)) goes (g.reads vs h));
      }

  pub list_wider : Wider (listed comma p) (listed comma p') (after_list comma ok)
  list_wider = record { reads = list_reads; stops = list_stops; goes = list_goes }

module _ {L A : Type 0} (test : L → Bool) (p p' q q' : Phrase L A) (ok : Option L → Bool) (wp : Wider p p' ok) (wq : Wider q q' ok) where
  next_reads : (b : Bool) (ts : List L) (a : A) (rest : List L) → MatchBool b (p.reads ts a rest) (q.reads ts a rest) → MatchBool b (p'.reads ts a rest) (q'.reads ts a rest)
  next_reads true ts a rest r = wp.reads ts a rest r
  next_reads false ts a rest r = wq.reads ts a rest r

  next_stops : (b : Bool) (ts rest : List L) → MatchBool b (p.stops false ts rest) (q.stops false ts rest) → MatchBool b (p'.stops false ts rest) (q'.stops false ts rest)
  next_stops true ts rest s = wp.stops ts rest s
  next_stops false ts rest s = wq.stops ts rest s

  same_test : (ts done rest : List L) (one : L) (left further : List L) → ts ≡ done ++ rest → rest ≡ one ∷ left → passes test (next (done ++ (one ∷ further))) ≡ passes test (next ts)
  same_test ts done rest one left further is is_rest =
      ap (passes test) (sym (ap next is ∙ next_append done rest (one ∷ further) (ap next is_rest)))

  next_goes : (b : Bool) (ts rest : List L) → passes test (next ts) ≡ b → MatchBool b (p.stops true ts rest) (q.stops true ts rest) → GoesPast (by_next test p' q') ok ts rest
  next_goes true ts rest e s =
      let g = wp.goes ts rest s in
      record {
        done = g.done;
        one = g.one;
        left = g.left;
        is_rest = g.is_rest;
        is = g.is;
        some = g.some;
        value = g.value;
        reads = λ us h. subst (λ c. MatchBool c (p'.reads (g.done ++ (g.one ∷ (g.some ++ us))) g.value us) (q'.reads (g.done ++ (g.one ∷ (g.some ++ us))) g.value us))
            (sym (same_test ts g.done rest g.one g.left (g.some ++ us) g.is g.is_rest ∙ e)) (g.reads us h);
      }
  next_goes false ts rest e s =
      let g = wq.goes ts rest s in
      record {
        done = g.done;
        one = g.one;
        left = g.left;
        is_rest = g.is_rest;
        is = g.is;
        some = g.some;
        value = g.value;
        reads = λ us h. subst (λ c. MatchBool c (p'.reads (g.done ++ (g.one ∷ (g.some ++ us))) g.value us) (q'.reads (g.done ++ (g.one ∷ (g.some ++ us))) g.value us))
            (sym (same_test ts g.done rest g.one g.left (g.some ++ us) g.is g.is_rest ∙ e)) (g.reads us h);
      }

  pub by_next_wider : Wider (by_next test p q) (by_next test p' q') ok
  by_next_wider = record {
    reads = λ ts a rest r. next_reads (passes test (next ts)) ts a rest r;
    stops = λ ts rest s. next_stops (passes test (next ts)) ts rest s;
    goes = λ ts rest s. next_goes (passes test (next ts)) ts rest refl s;
  }

-- a phrase that may be followed by more may be followed by less
pub less_wide : {L A : Type 0} (p q : Phrase L A) (ok less : Option L → Bool) → ((o : Option L) → less o ≡ true → ok o ≡ true) → Wider p q ok → Wider p q less
less_wide p q ok less fits w = record {
  reads = w.reads;
  stops = w.stops;
  goes = λ ts rest s. let g = w.goes ts rest s in record {
    done = g.done;
    one = g.one;
    left = g.left;
    is_rest = g.is_rest;
    is = g.is;
    some = g.some;
    value = g.value;
    reads = λ us h. g.reads us (fits _ h);
  };
}
