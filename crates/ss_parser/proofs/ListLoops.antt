-- A loop over phrases between commas.
use Rattle.std.proofs.Common.{◌≡◌, ◌<◌, Bool, false, List, [], ◌∷◌, ◌++◌, length, map, Option, sym, ◌∙◌, ap, subst, arith, append_assoc, length-append}
use Rattle.std.proofs.lemmas.List.{map-append}
use Rattle.ss_lexer.specs.Lexemes.{Piece}
use Rattle.ss_parser.specs.Phrases.{Phrase, next, passes, Listed, last, more, ListStops, later}
use Rattle.ss_parser.specs.Parses.{Passes}
use Rattle.ss_parser.proofs.PhraseLaws.{Laws}

-- what is read or stops from now on does so behind what was read since the start
pub record GoesOn {A : Type 0} (comma : Piece → Bool) (p : Phrase Piece A) (start now : List Piece) (before : List A) : Type 0 where
  pub reads : (all : List A) (rest : List Piece) → Listed comma p now all rest → Listed comma p start (before ++ all) rest
  pub stops : (deep : Bool) (rest : List Piece) → ListStops comma p deep now rest → ListStops comma p deep start rest

module _ {A : Type 0} (comma : Piece → Bool) (p : Phrase Piece A) (start now mid rest : List Piece) (before after : List A) (a : A) (so_far : GoesOn comma p start now before) where
  pub list_last : p.reads now a mid → passes comma (next mid) ≡ false → rest ≡ mid → after ≡ before ++ a ∷ [] → Listed comma p start after rest
  list_last r ends e is =
      subst (λ m. Listed comma p start after m) (sym e)
      (subst (λ all. Listed comma p start all mid) (sym is) (so_far.reads (a ∷ []) mid (last r ends)))

  list_next : (ps : List Piece) → p.reads now a ps → Passes comma ps rest → after ≡ before ++ a ∷ [] → GoesOn comma p start rest after
  list_next [] r c is = absurd c
  list_next (q ∷ ps) r c is =
      let r' = subst (λ m. p.reads now a (q ∷ m)) c.1 r in
      record {
        reads = λ all end l. subst (λ m. Listed comma p start (m ++ all) end) (sym is)
            (subst (λ m. Listed comma p start m end) (sym (append_assoc before (a ∷ []) all)) (so_far.reads (a ∷ all) end (more r' c.0 l)));
        stops = λ deep end s. so_far.stops deep end (later r' c.0 s);
      }

  pub list_more : p.reads now a mid → Passes comma mid rest → after ≡ before ++ a ∷ [] → GoesOn comma p start rest after
  list_more r c is = list_next mid r c is

-- one more is seen behind the others
pub map_more : {A X : Type 0} (view : X → A) (xs ys : List X) (x : X) → ys ≡ xs ++ x ∷ [] → map view ys ≡ map view xs ++ view x ∷ []
map_more view xs ys x e = ap (map view) e ∙ map-append view xs (x ∷ [])

-- a phrase is not empty
pub list_shorter : {A : Type 0} (comma : Piece → Bool) (p : Phrase Piece A) (ok : Option Piece → Bool) (sample : Piece) (l : Laws p ok sample) (now mid rest : List Piece) (a : A) → p.reads now a mid → Passes comma mid rest → length rest < length now
list_shorter comma p ok sample l now [] rest a r c = absurd c
list_shorter comma p ok sample l now (q ∷ mid) rest a r c =
    let one = l.front now a (q ∷ mid) r in
    omega (arith, ap length one.is, length-append one.done (q ∷ mid), ap length c.1)
