-- The walk over terms, where fewer folds are kept than stand before.
use Rattle.std.proofs.Common.{◌≡◌, ◌≢◌, ◌<◌, ◌+◌, ◌∷◌, ◌++◌, [], ℕ, List, Option, Some, None, refl, sym, ap, ◌∙◌, length, map, take, drop, get_or, append_assoc, append-nil}
use Rattle.std.specs.List.{flat_map}
use Rattle.std.proofs.lemmas.List.{take_more, drop_more}
use Rattle.std.proofs.lemmas.List.Concat.{flat_map-append}
use Rattle.ss_text.proofs.PlaceLemmas.{map_last}
use Rattle.view_def.specs.Conditions.{more, condition_of, conditions_of}
use Rattle.view_def.specs.RawConditions.{raw_of, raws}
use Rattle.view_def.specs.declared.typed.Cond.{Cond}
use Rattle.view_def.specs.declared.written.RawCond.{RawCond}
use Rattle.view_def.specs.declared.written.RawTerm.{RawTerm}
use Rattle.view_def.specs.declared.written.RawTerm.TheVariants as raw
use Rattle.view_def.specs.declared.written.RawDecl.{RawDecl}
use Rattle.var_typing.specs.declared.fault.TypeFault.{TypeFault}
use Rattle.var_typing.specs.declared.fault.TypeFault.TheVariants as fault
use Rattle.var_typing.specs.declared.folds.Fold.{Fold}
use Rattle.var_typing.specs.Folds.{has_other, fold_of, SameOthers}
use Rattle.var_typing.specs.Refusals.{◌or_else◌}
use Rattle.var_typing.specs.Scope.{tuple_fault, name_fault}
use Rattle.var_typing.specs.Terms.{term_fault, term_folds, terms_fault, terms_in, terms_in_each, typed_condition, typed_conditions}
use Rattle.var_typing.proofs.FoldLemmas.{two_folds_same, same_append}
use Rattle.var_typing.proofs.WalkLemmas.{after_none, at_some, map_pushed}

module _ (ds : List RawDecl) where
  pub term_same : (these those : List Fold) → SameOthers these those → (t : RawTerm) → term_fault ds these t ≡ term_fault ds those t
  term_same these those same (raw.Lone x) = refl
  term_same these those same (raw.Dot x a) =
      ap (λ (f : Option TypeFault). tuple_fault ds (length ds) x or_else name_fault ds (length ds) a or_else f) (two_folds_same these those same x (fold_of ds x a))
  term_same these those same (raw.Literal t) = refl

  pub terms_same : (these those : List Fold) → SameOthers these those → (ts : List RawTerm) → terms_fault ds these ts ≡ terms_fault ds those ts
  terms_same these those same [] = refl
  terms_same these those same (t ∷ ts) =
      ap (λ (f : Option TypeFault). f or_else terms_fault ds (these ++ term_folds ds t) ts) (term_same these those same t)
      ∙ ap (λ (f : Option TypeFault). term_fault ds those t or_else f) (terms_same (these ++ term_folds ds t) (those ++ term_folds ds t) (same_append these those (term_folds ds t) (those ++ term_folds ds t) same (λ f. refl)) ts)

  -- terms after terms
  pub terms_fault-append : (folds : List Fold) (ts us : List RawTerm) → terms_fault ds folds (ts ++ us) ≡ (terms_fault ds folds ts or_else terms_fault ds (folds ++ flat_map (term_folds ds) ts) us)
  terms_fault-append folds [] us = ap (λ (fs : List Fold). terms_fault ds fs us) (sym (append-nil folds))
  terms_fault-append folds (t ∷ ts) us =
      ap (λ (f : Option TypeFault). term_fault ds folds t or_else f) (terms_fault-append (folds ++ term_folds ds t) ts us
      ∙ ap (λ (fs : List Fold). terms_fault ds (folds ++ term_folds ds t) ts or_else terms_fault ds fs us) (append_assoc folds (term_folds ds t) (flat_map (term_folds ds) ts)))
      ∙ sym (or_else-assoc (term_fault ds folds t) (terms_fault ds (folds ++ term_folds ds t) ts) (terms_fault ds (folds ++ flat_map (term_folds ds) (t ∷ ts)) us))
    where
      or_else-assoc : (f g h : Option TypeFault) → ((f or_else g) or_else h) ≡ (f or_else (g or_else h))
      or_else-assoc None g h = refl
      or_else-assoc (Some f) g h = refl

  -- what is kept after some terms, and after more
  pub taken_more : (start folds after : List Fold) (ts us : List RawTerm) → SameOthers (start ++ flat_map (term_folds ds) ts) folds → SameOthers (folds ++ flat_map (term_folds ds) us) after
      → SameOthers (start ++ flat_map (term_folds ds) (ts ++ us)) after
  taken_more start folds after ts us h k f =
      ap (λ (fs : List Fold). has_other fs f) (ap (λ (fs : List Fold). start ++ fs) (flat_map-append (term_folds ds) ts us) ∙ sym (append_assoc start (flat_map (term_folds ds) ts) (flat_map (term_folds ds) us)))
      ∙ same_append (start ++ flat_map (term_folds ds) ts) folds (flat_map (term_folds ds) us) after h k f

  -- a term on
  module _ (folds after : List Fold) (ts : List RawTerm) (i : ℕ) (t : RawTerm) (lt : i < length ts) (at : t ≡ get_or ts i t) where
    pub term_passed : (whole : Option TypeFault) → terms_fault ds folds (drop i ts) ≡ whole → term_fault ds folds t ≡ None → SameOthers (folds ++ term_folds ds t) after → terms_fault ds after (drop (i + 1) ts) ≡ whole
    term_passed whole left h same =
        sym (terms_same (folds ++ term_folds ds t) after same (drop (i + 1) ts))
        ∙ sym (after_none (term_fault ds folds t) (terms_fault ds (folds ++ term_folds ds t) (drop (i + 1) ts)) h)
        ∙ ap (λ (u : RawTerm). terms_fault ds folds (u ∷ drop (i + 1) ts)) at
        ∙ ap (terms_fault ds folds) (sym (drop_more ts i t lt)) ∙ left

    pub term_taken : (start : List Fold) → SameOthers (start ++ flat_map (term_folds ds) (take i ts)) folds → SameOthers (folds ++ term_folds ds t) after
        → SameOthers (start ++ flat_map (term_folds ds) (take (i + 1) ts)) after
    term_taken start h k f =
        ap (λ (us : List RawTerm). has_other (start ++ flat_map (term_folds ds) us) f) (take_more ts i t lt ∙ ap (λ (u : RawTerm). take i ts ++ u ∷ []) (sym at))
        ∙ taken_more start folds after (take i ts) (t ∷ []) h (λ g. ap (λ (fs : List Fold). has_other (folds ++ fs) g) (append-nil (term_folds ds t)) ∙ k g) f

-- the terms in written members
abbrev pub terms_in_members : List RawCond → List RawTerm
terms_in_members cs = terms_in_each (raws (map raw_of cs))

terms_in_members-append : (cs es : List RawCond) → terms_in_members (cs ++ es) ≡ terms_in_members cs ++ terms_in_members es
terms_in_members-append [] es = refl
terms_in_members-append (c ∷ cs) es =
    ap (λ (ts : List RawTerm). terms_in (raw_of c) ++ ts) (terms_in_members-append cs es) ∙ sym (append_assoc (terms_in (raw_of c)) (terms_in_members cs) (terms_in_members es))

pub typed_members : (ds : List RawDecl) (cs : List RawCond) → conditions_of (map (λ (c : RawCond). typed_condition ds (raw_of c)) cs) ≡ typed_conditions ds (raws (map raw_of cs))
typed_members ds [] = refl
typed_members ds (c ∷ cs) = ap (λ es. more (typed_condition ds (raw_of c)) es) (typed_members ds cs)

-- a member on
module _ (ds : List RawDecl) (folds after : List Fold) (cs : List RawCond) (i : ℕ) (c : RawCond) (lt : i < length cs) (at : c ≡ get_or cs i c) where
  split_here : terms_in_members (drop i cs) ≡ terms_in (raw_of c) ++ terms_in_members (drop (i + 1) cs)
  split_here = ap terms_in_members (drop_more cs i c lt) ∙ ap (λ (e : RawCond). terms_in (raw_of e) ++ terms_in_members (drop (i + 1) cs)) (sym at)

  both : terms_fault ds folds (terms_in_members (drop i cs))
      ≡ (terms_fault ds folds (terms_in (raw_of c)) or_else terms_fault ds (folds ++ flat_map (term_folds ds) (terms_in (raw_of c))) (terms_in_members (drop (i + 1) cs)))
  both = ap (terms_fault ds folds) split_here ∙ terms_fault-append ds folds (terms_in (raw_of c)) (terms_in_members (drop (i + 1) cs))

  pub member_passed : (whole : Option TypeFault) → terms_fault ds folds (terms_in_members (drop i cs)) ≡ whole → terms_fault ds folds (terms_in (raw_of c)) ≡ None
      → SameOthers (folds ++ flat_map (term_folds ds) (terms_in (raw_of c))) after → terms_fault ds after (terms_in_members (drop (i + 1) cs)) ≡ whole
  member_passed whole left h same =
      sym (terms_same ds (folds ++ flat_map (term_folds ds) (terms_in (raw_of c))) after same (terms_in_members (drop (i + 1) cs)))
      ∙ sym (after_none (terms_fault ds folds (terms_in (raw_of c))) (terms_fault ds (folds ++ flat_map (term_folds ds) (terms_in (raw_of c))) (terms_in_members (drop (i + 1) cs))) h)
      ∙ sym both ∙ left

  pub member_refused : (whole : Option TypeFault) → terms_fault ds folds (terms_in_members (drop i cs)) ≡ whole → (f : TypeFault) → (f ≢ fault.NoMemory → terms_fault ds folds (terms_in (raw_of c)) ≡ Some f) → f ≢ fault.NoMemory → whole ≡ Some f
  member_refused whole left f h n =
      sym left ∙ both ∙ at_some (terms_fault ds folds (terms_in (raw_of c))) (terms_fault ds (folds ++ flat_map (term_folds ds) (terms_in (raw_of c))) (terms_in_members (drop (i + 1) cs))) f (h n)

  pub member_taken : (start : List Fold) → SameOthers (start ++ flat_map (term_folds ds) (terms_in_members (take i cs))) folds
      → SameOthers (folds ++ flat_map (term_folds ds) (terms_in (raw_of c))) after → SameOthers (start ++ flat_map (term_folds ds) (terms_in_members (take (i + 1) cs))) after
  member_taken start h k f =
      ap (λ (us : List RawTerm). has_other (start ++ flat_map (term_folds ds) us) f)
      (ap terms_in_members (take_more cs i c lt) ∙ terms_in_members-append (take i cs) (get_or cs i c ∷ []) ∙ ap (λ (e : RawCond). terms_in_members (take i cs) ++ (terms_in (raw_of e) ++ [])) (sym at) ∙ ap (λ (us : List RawTerm). terms_in_members (take i cs) ++ us) (append-nil (terms_in (raw_of c))))
      ∙ taken_more ds start folds after (terms_in_members (take i cs)) (terms_in (raw_of c)) h k f

  pub member_typed : (old : List Cond) (x : Cond) → map condition_of old ≡ map (λ (e : RawCond). typed_condition ds (raw_of e)) (take i cs) → condition_of x ≡ typed_condition ds (raw_of c)
      → map condition_of (old ++ x ∷ []) ≡ map (λ (e : RawCond). typed_condition ds (raw_of e)) (take (i + 1) cs)
  member_typed old x h k = map_last condition_of old x ∙ map_pushed (λ (e : RawCond). typed_condition ds (raw_of e)) cs i c (map condition_of old) (condition_of x) lt at h k

-- terms and more terms; a scope has these declarations, and a slice these terms
module _ (ds es : List RawDecl) (e : ds ≡ es) (folds after : List Fold) (ts ss us : List RawTerm) (t : ts ≡ ss) where
  parts : terms_fault es folds (ss ++ us) ≡ (terms_fault ds folds ts or_else terms_fault ds (folds ++ flat_map (term_folds ds) ts) us)
  parts = ap (λ (d : List RawDecl). terms_fault d folds (ss ++ us)) (sym e) ∙ ap (λ (s : List RawTerm). terms_fault ds folds (s ++ us)) (sym t) ∙ terms_fault-append ds folds ts us

  pub first_refused : (f : TypeFault) → (f ≢ fault.NoMemory → terms_fault ds folds ts ≡ Some f) → f ≢ fault.NoMemory → terms_fault es folds (ss ++ us) ≡ Some f
  first_refused f h n = parts ∙ at_some (terms_fault ds folds ts) (terms_fault ds (folds ++ flat_map (term_folds ds) ts) us) f (h n)

  pub then_more : terms_fault ds folds ts ≡ None → SameOthers (folds ++ flat_map (term_folds ds) ts) after → terms_fault es folds (ss ++ us) ≡ terms_fault ds after us
  then_more h same =
      parts ∙ after_none (terms_fault ds folds ts) (terms_fault ds (folds ++ flat_map (term_folds ds) ts) us) h ∙ terms_same ds (folds ++ flat_map (term_folds ds) ts) after same us
