-- The lines of an entry, one after another.
use Rattle.std.proofs.Common.{◌≡◌, ℕ, true, false, List, [], ◌∷◌, ◌++◌, Option, None, Some, refl, sym, ap, ◌∙◌, append_assoc}
use Rattle.std.specs.Prelude.{option_map, IsTrue}
use Rattle.std.specs.List.{AllByRecursion, list_all}
use Rattle.std.proofs.lemmas.Bool.{and_parts}
use Rattle.tab_lines.specs.Parts.{has, parts_at}
use Rattle.tab_lines.proofs.PartLemmas.{parts_first, one_part}
use Rattle.schema_model.specs.declared.change.Change.{Change}
use Rattle.schema_model.specs.Changes.{is_well_formed}
use Rattle.change_journal.specs.Spelled.{Group, said_by_line, put_first, said_by_lines, group_of}
use Rattle.change_journal.proofs.Spellings.{parts_clear, lines_spelled}

-- the changes that were read, and those that the rest says
abbrev pub behind : Group → List ℕ → Option Group
behind done rest = option_map (λ more. done ++ more) (said_by_lines (parts_at 10 rest))

onto : (done : Group) (change : Change) (o : Option Group) → option_map (λ more. (done ++ change ∷ []) ++ more) o ≡ option_map (λ more. done ++ more) (put_first (Some change) o)
onto done change None = refl
onto done change (Some more) = ap Some (append_assoc done (change ∷ []) more)

module _ (rest line after : List ℕ) (clear : has 10 line ≡ false) (is : rest ≡ line ++ 10 ∷ after) where
  split : said_by_lines (parts_at 10 rest) ≡ put_first (said_by_line line) (said_by_lines (parts_at 10 after))
  split = ap said_by_lines (ap (parts_at 10) is ∙ parts_first 10 line after clear)

  -- a line that an LF follows is read
  pub line_read : (text : List ℕ) (done now : Group) (change : Change) → Some change ≡ said_by_line line → behind done rest ≡ group_of text → now ≡ done ++ change ∷ [] → behind now after ≡ group_of text
  line_read text done now change said so_far added =
      ap (λ (g : Group). behind g after) added
      ∙ onto done change (said_by_lines (parts_at 10 after))
      ∙ ap (option_map (λ more. done ++ more)) (ap (λ (o : Option Change). put_first o (said_by_lines (parts_at 10 after))) said ∙ sym split)
      ∙ so_far

  -- or says no change
  pub line_refused : (text : List ℕ) (done : Group) → None ≡ said_by_line line → behind done rest ≡ group_of text → None ≡ group_of text
  line_refused text done said so_far =
      ap (λ (o : Option Change). option_map (λ more. done ++ more) (put_first o (said_by_lines (parts_at 10 after)))) said
      ∙ ap (option_map (λ more. done ++ more)) (sym split)
      ∙ so_far

module _ (rest : List ℕ) (clear : has 10 rest ≡ false) where
  last : said_by_lines (parts_at 10 rest) ≡ put_first (said_by_line rest) (Some [])
  last = ap said_by_lines (one_part 10 rest clear)

  -- and so is the last one
  pub last_read : (text : List ℕ) (done now : Group) (change : Change) → Some change ≡ said_by_line rest → behind done rest ≡ group_of text → now ≡ done ++ change ∷ [] → Some now ≡ group_of text
  last_read text done now change said so_far added =
      ap Some added ∙ ap (λ (o : Option Change). option_map (λ more. done ++ more) (put_first o (Some []))) said ∙ ap (option_map (λ more. done ++ more)) (sym last) ∙ so_far

  pub last_refused : (text : List ℕ) (done : Group) → None ≡ said_by_line rest → behind done rest ≡ group_of text → None ≡ group_of text
  last_refused text done said so_far =
      ap (λ (o : Option Change). option_map (λ more. done ++ more) (put_first o (Some []))) said ∙ ap (option_map (λ more. done ++ more)) (sym last) ∙ so_far

-- each change of a text can be said by a line
pub formed : (text : List ℕ) (group : Group) → group_of text ≡ Some group → AllByRecursion (λ (g : Change). IsTrue (is_well_formed g)) group
formed text group e = each group (lines_spelled (parts_at 10 text) group (parts_clear text) e).1
  where
    each : (gs : Group) → list_all is_well_formed gs ≡ true → AllByRecursion (λ (g : Change). IsTrue (is_well_formed g)) gs
    each [] h = tt
    each (g ∷ gs) h = let p = and_parts (is_well_formed g) (list_all is_well_formed gs) h in (p.0, each gs p.1)
