-- The output of a view that was kept up to date takes a folder like its own along.
use Rattle.std.proofs.Common.{◌≡◌, ◌≢◌, ◌≤◌, ◌-◌, ◌∷◌, ◌++◌, ◌∙◌, [], ℕ, List, Bool, true, false, Option, Some, None, refl, sym, ap, subst, length, map, take, drop, append-nil, append_assoc, arith}
use Rattle.std.specs.Prelude.{codes, option_map, unwrap_or, Result, Ok, Err}
use Rattle.std.specs.Option.{ForSome}
use Rattle.std.proofs.lemmas.List.{take-append-drop}
use Rattle.ss_text.specs.Texts.{Text, Row, is_in}
use Rattle.ss_text.proofs.KeyLemmas.{text_order, equal_is}
use Rattle.ss_text.proofs.PairLemmas.{any_ascending}
use Rattle.outside.specs.Streams.{with_bytes}
use Rattle.outside.specs.Tree.{Tree, file_at, files_of}
use Rattle.outside.specs.Effects.{Effect, World}
use Rattle.tab_lines.specs.Lines.{lines_of}
use Rattle.course.specs.declared.status.Verdict.TheVariants as verdict
use Rattle.course.specs.Answering.{Reply, Continues, Finishes, Ending}
use Rattle.schema_model.specs.Catalogue.{CatalogueValue}
use Rattle.view_def.specs.Profile.{IsViewOfProfile}
use Rattle.view_def.specs.Query.{Query}
use Rattle.flow_law.specs.declared.line.TableLine.{TableLine}
use Rattle.flow_law.specs.declared.shape.Shape.{Shape}
use Rattle.flow_law.specs.Lines.{label_of}
use Rattle.flow_law.specs.Tables.{TablesValue, table_of}
use Rattle.flow_law.proofs.ScriptLaw.{lines_passed}
use Rattle.change_script.specs.Applied.{applied}
use Rattle.view_meaning.specs.Meaning.{shape_of, meaning}
use Rattle.view_folder.specs.Files.{bytes_in, file_name, view_folder}
use Rattle.change_script.specs.Fits.{IsForm}
use Rattle.view_folder.specs.Held.{held}
use Rattle.view_folder.specs.Sync.{Holds, HoldsNamed}
use Rattle.view_folder.specs.TableFiles.{table_files, table_text}
use Rattle.view_folder.proofs.LaterLemmas.{file_name_csv, same_file, bytes_of_label}
use Rattle.view_session.specs.Session.{tables_of}
use Rattle.view_session.proofs.UpkeepLemmas.{meaning_in_order}
use Rattle.plain_commands.specs.Applying as applying
use Rattle.plain_commands.specs.Scripts.{script_said}
use Rattle.opened_view.specs.Answers.{Answer, answer, answers_to, finish}
use Rattle.plain_commands.specs.Applies.{IsApplied, apply_opening, named_by}
use Rattle.ss_top.specs.Commands.{Apply}
use Rattle.course.specs.Course.{by_lines}
use Rattle.view_stages.specs.Open.{OpenValue}
use Rattle.view_stages.specs.Opening.{IsDefinition}
use Rattle.upkeep_law.specs.Lists.{effects_by}
use Rattle.upkeep_law.specs.Promises.{EachTakes, IsMaintained, all_answers, effects_so_far, end_answers, opening_of, printed_by, TakesBy, view_behind}
use Rattle.upkeep_law.proofs.LineLemmas.{all_done, course_is, lines_followed}
use Rattle.view_stages.specs.Opened.{folder_of, view_at_first}
use Rattle.ss_top.specs.Runs.{of_view, course_of}
use Rattle.view_stages.specs.Stages.{DefinitionOrRefusal, files_of_view}
use Rattle.course.specs.declared.exit.Status.{Status}
use Rattle.opened_view.proofs.AnswerCases.{answer_query}
use Rattle.upkeep_law.proofs.TakeLemmas.{definition_of_profile, meaning_fits_form}
use Rattle.pipe_law.specs.Law.{HavePlainHeaders, IsPiped, PipedViewsFollow}
use Rattle.pipe_law.proofs.ApplyLemmas.{applied_both, keys_applied, tables_applied, takes_along}
use Rattle.pipe_law.proofs.CourseLemmas.{applying_ends}
use Rattle.pipe_law.proofs.FolderLemmas.{tables_read_back}
use Rattle.pipe_law.proofs.TellingLemmas.{IsTelling, answer_tells, end_tells, lines_in, opening_tells, telling_more, telling_says}

-- the form of a view
module _ (q : Query) (p : IsViewOfProfile q) where
  spot_within : (o : Option ℕ) → ForSome o (λ s. s ≤ length q.constants) → unwrap_or o (length q.constants) ≤ length q.constants
  spot_within None h = omega arith
  spot_within (Some s) h = h s refl

  is_form : IsForm (shape_of q)
  is_form = record { distinct = p.constants; spot = spot_within q.spot p.spot }

  some_constant : (constants : Row) → 1 ≤ length constants → constants ≢ []
  some_constant [] h = absurd (omega (arith, h))
  some_constant (c ∷ cs) h = λ e. cc e

  some_constants : q.constants ≢ []
  some_constants = some_constant q.constants p.some_constant

-- a folder of former tables, in which the files of the labels that a script names are those of the tables after it
module _ (folder : Text) (shape : Shape) (before after : TablesValue) (script : List TableLine) (t u : Tree) (holds : Holds folder (table_files shape before) t) (applies : applied shape before script ≡ Ok after)
    (named : HoldsNamed folder shape after (named_by script) t u) where
  file_among : (label : Text) (labels : List Text) → is_in (file_name label) (map file_name labels) ≡ is_in label labels
  file_among label [] = refl
  file_among label (l ∷ ls) = rw (same_file label l, file_among label ls) refl

  label_among : (label : Text) → is_in label (named_by script) ≡ is_in label (map label_of script)
  label_among label = any_ascending text_order label (map label_of script)

  unnamed_stays : (label : Text) → is_in label (named_by script) ≡ false → table_of before label ≡ table_of after label
  unnamed_stays label apart = sym (lines_passed label before script (sym (label_among label) ∙ apart)) ∙ ap (λ ts. table_of ts label) (tables_applied shape before after script applies)

  file_after : (label : Text) → file_at u folder (file_name label) ≡ option_map (table_text shape) (table_of after label)
  file_after label = by_label (is_in label (named_by script)) refl
    where
      by_label : (b : Bool) → is_in label (named_by script) ≡ b → file_at u folder (file_name label) ≡ option_map (table_text shape) (table_of after label)
      by_label true e = named.named label e
      by_label false e =
          named.unnamed (file_name label) (file_among label (named_by script) ∙ e) ∙ holds (file_name label) (file_name_csv label) ∙ bytes_of_label shape before label
          ∙ ap (option_map (table_text shape)) (unnamed_stays label e)

  holds_after : Holds folder (table_files shape after) u
  holds_after name csv =
      let label = take (length name - 4) name in
      let is : name ≡ file_name label = sym (take-append-drop (length name - 4) name) ∙ ap (λ (x : Text). label ++ x) (equal_is text_order (drop (length name - 4) name) (codes ".csv") csv) in
      ap (file_at u folder) is ∙ file_after label ∙ sym (bytes_of_label shape after label) ∙ ap (bytes_in (table_files shape after)) (sym is)

-- answers to lines
module _ (q : Query) (some : q.constants ≢ []) (first : TablesValue) where
  -- what was printed so far says a script that takes the first tables to those of the view
  record IsFollowing (es : List Effect) (o : OpenValue) : Type 0 where
    script : List TableLine
    tells : IsTelling es script
    takes : applied (shape_of q) first script ≡ Ok (tables_of o.session)
    same : o.session.query ≡ q

  following_more : (line : List ℕ) (es : List Effect) (o : OpenValue) → IsFollowing es o → TakesBy (shape_of o.session.query) (tables_of o.session) (tables_of (answer o line).view.session) (answer o line).said → IsFollowing (es ++ (answer o line).effects) (answer o line).view
  following_more line es o h taken =
      let a = answer o line in
      let takes = takes_along (shape_of q) (tables_of o.session) (tables_of a.view.session) a.said (subst (λ (x : Query). TakesBy (shape_of x) (tables_of o.session) (tables_of a.view.session) a.said) h.same taken) in
      let keys = keys_applied (shape_of q) (tables_of o.session) (tables_of a.view.session) (lines_in a.said) some takes in
      record {
        script = h.script ++ lines_in a.said;
        tells = telling_more es a.effects h.script (lines_in a.said) h.tells (answer_tells o line keys);
        takes = applied_both (shape_of q) first (tables_of o.session) (tables_of a.view.session) h.script (lines_in a.said) h.takes takes;
        same = answer_query o line ∙ h.same;
      }

  followed : (lines : List (List ℕ)) (es : List Effect) (o : OpenValue) → IsFollowing es o → EachTakes o (answers_to o lines) → IsFollowing (es ++ effects_by (answers_to o lines)) (view_behind o lines)
  followed [] es o h each = subst (λ (fs : List Effect). IsFollowing fs o) (sym (append-nil es)) h
  followed (line ∷ lines) es o h each =
      let p : OpenValue = (answer o line).view in
      subst (λ (fs : List Effect). IsFollowing fs (view_behind p lines)) (append_assoc es (answer o line).effects (effects_by (answers_to p lines)))
      (followed lines (es ++ (answer o line).effects) p (following_more line es o h each.0) each.1)

-- the first of all answers
takes_first : (o : OpenValue) (xs ys : List Answer) → EachTakes o (xs ++ ys) → EachTakes o xs
takes_first o [] ys h = tt
takes_first o (a ∷ xs) ys h = (h.0, takes_first a.view xs ys h.1)

module _ (name : Text) (bytes : Option (List ℕ)) (d : DefinitionOrRefusal) (t u : Tree) (lines : List (List ℕ)) (old new : World) (s : Status) (output : List ℕ) (did : IsMaintained d t lines old new s)
    (defined : IsDefinition name bytes d) (empty : old.output.held ≡ Some []) (printed : new.output.held ≡ Some output)
    (holds : Holds (folder_of did.opened.accepted) (files_of_view did.opened.catalogue did.opened.accepted.query) u) where
  abbrev q : Query
  q = did.opened.accepted.query

  abbrev c : CatalogueValue
  c = did.opened.catalogue

  abbrev e : CatalogueValue
  e = did.last.session.catalogue

  profile : IsViewOfProfile q
  profile = definition_of_profile name bytes did.opened.accepted (subst (IsDefinition name bytes) did.opened.defined defined)

  folder_holds : Holds (view_folder q.view_db) (table_files (shape_of q) (meaning c q)) u
  unfolding files_of_view
  folder_holds = holds

  opens : HavePlainHeaders (shape_of q) (meaning c q) → held (shape_of q) u (view_folder q.view_db) ≡ Ok (meaning c q)
  opens plain =
      tables_read_back (shape_of q) (meaning c q) (view_folder q.view_db) u (is_form q profile) (some_constants q profile) (meaning_in_order c q) (meaning_fits_form q profile c did.opened.unrefused) plain folder_holds

  abbrev o : OpenValue
  o = view_at_first did.opened

  abbrev all_effects : List Effect
  all_effects = effects_so_far t q c (all_answers o lines)

  -- the last view is that behind the lines
  abbrev state_in : Reply OpenValue → OpenValue
  state_in (Continues es p) = p
  state_in (Finishes es v) = o

  following : IsFollowing q (some_constants q profile) (meaning c q) (effects_by (answers_to o lines)) did.last
  following =
      subst (IsFollowing q (some_constants q profile) (meaning c q) (effects_by (answers_to o lines))) (ap state_in (sym (lines_followed lines o) ∙ did.answered))
      (followed q (some_constants q profile) (meaning c q) lines [] o (record { script = []; tells = opening_nothing; takes = refl; same = refl }) (takes_first o (answers_to o lines) (end_answers (view_behind o lines)) did.upheld.takes))
    where
      opening_nothing : IsTelling [] []
      opening_nothing = record { rows = []; fields = tt; text = refl; said = λ rest more h. h }

  effects_are : opening_of t q c ++ (effects_by (answers_to o lines) ++ (finish (view_behind o lines)).effects) ≡ all_effects
  effects_are = ap (λ (es : List Effect). opening_of t q c ++ es) (sym (all_done lines o ∙ ap (λ (e : Ending). e.effects) (course_is lines o)))

  tells_all : IsTelling all_effects following.script
  tells_all =
      let before = opening_tells (folder_of did.opened.accepted) (files_of_view c q) (files_of t (folder_of did.opened.accepted)) in
      subst (λ (es : List Effect). IsTelling es following.script) effects_are
      (telling_more (opening_of t q c) (effects_by (answers_to o lines) ++ (finish (view_behind o lines)).effects) [] following.script before
      (subst (IsTelling (effects_by (answers_to o lines) ++ (finish (view_behind o lines)).effects)) (append-nil following.script)
      (telling_more (effects_by (answers_to o lines)) (finish (view_behind o lines)).effects following.script [] following.tells (end_tells (view_behind o lines)))))

  output_is : output ≡ printed_by all_effects
  output_is = ap (λ (x : Option (List ℕ)). unwrap_or x output) (sym printed ∙ did.upheld.printed ∙ ap (with_bytes (printed_by all_effects)) empty)

  says : script_said (lines_of output) ≡ Some following.script
  says = ap (λ (x : List ℕ). script_said (lines_of x)) output_is ∙ telling_says all_effects following.script tells_all

  takes : applied (shape_of q) (meaning c q) following.script ≡ Ok (meaning e q)
  takes = following.takes ∙ ap (λ (x : Query). Ok (meaning e x)) following.same

  ends : HavePlainHeaders (shape_of q) (meaning c q) → (view : Text) → ((course_of (of_view Apply view u d)).whole (lines_of output)).status ≡ verdict.Done
  ends plain view =
      ap (λ (x : DefinitionOrRefusal). ((by_lines applying.step applying.finish (apply_opening u x)).whole (lines_of output)).status) did.opened.defined
      ∙ applying_ends q.view_db (shape_of q) u (lines_of output) following.script (meaning c q) (meaning e q) (opens plain) says takes

  -- where that was applied
  module _ (plain : HavePlainHeaders (shape_of q) (meaning c q)) (w v : World) (p : IsApplied d u (lines_of output) w v) where
    abbrev query_in : DefinitionOrRefusal → Query
    query_in (Ok a) = a.query
    query_in (Err fields) = q

    same_query : p.accepted.query ≡ q
    same_query = ap query_in (sym p.defined ∙ did.opened.defined)

    abbrev tables_in : {E : Type 0} → TablesValue → Result TablesValue E → TablesValue
    tables_in ts (Ok us) = us
    tables_in ts (Err f) = ts

    before_is : p.before ≡ meaning c q
    before_is = ap (tables_in p.before) (sym (subst (λ (x : Query). held (shape_of x) u (view_folder x.view_db) ≡ Ok p.before) same_query p.holds) ∙ opens plain)

    script_is : p.script ≡ following.script
    script_is = ap (λ (x : Option (List TableLine)). unwrap_or x p.script) (sym p.says ∙ says)

    after_is : p.after ≡ meaning e q
    after_is =
        ap (tables_in p.after)
        (sym p.applies ∙ ap (λ (x : Query). applied (shape_of x) p.before p.script) same_query ∙ ap (λ (ts : TablesValue). applied (shape_of q) ts p.script) before_is ∙ ap (applied (shape_of q) (meaning c q)) script_is ∙ takes)

    named : HoldsNamed (view_folder q.view_db) (shape_of q) (meaning e q) (named_by following.script) u p.tree
    named =
        subst (λ (x : Query). HoldsNamed (view_folder x.view_db) (shape_of x) (meaning e q) (named_by following.script) u p.tree) same_query
        (subst (λ (ts : TablesValue). HoldsNamed (folder_of p.accepted) (shape_of p.accepted.query) ts (named_by following.script) u p.tree) after_is
        (subst (λ (ls : List TableLine). HoldsNamed (folder_of p.accepted) (shape_of p.accepted.query) p.after (named_by ls) u p.tree) script_is p.files))

    leaves : Holds (view_folder q.view_db) (files_of_view e q) p.tree
    unfolding files_of_view
    leaves = holds_after (view_folder q.view_db) (shape_of q) (meaning c q) (meaning e q) following.script u p.tree folder_holds takes named

  is_piped : IsPiped d q c e u output
  is_piped = record { opens = opens; script = following.script; says = says; takes = takes; ends = ends; leaves = leaves }

pub views_follow : PipedViewsFollow
views_follow name bytes d t u lines old new s output did defined empty printed holds = is_piped name bytes d t u lines old new s output did defined empty printed holds
