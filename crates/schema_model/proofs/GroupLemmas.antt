-- Changes of rows that are made one after another.
use Rattle.std.proofs.Common.{◌≡◌, ◌<◌, ◌≤◌, ◌+◌, ◌∷◌, ◌++◌, ◌∙◌, ◌&&◌, ◌||◌, reverse, [], ℕ, zero, suc, Bool, true, false, List, Option, Some, None, refl, sym, ap, subst, arith, cond, map, length, slice_index_or, slice_set, IsSome, is_some, drop}
use Rattle.std.specs.Prelude.{if◌then◌else◌, find, IsTrue}
use Rattle.std.specs.List.{list_all, list_any, AllByRecursion}
use Rattle.std.specs.Option.{option_or}
use Rattle.std.proofs.lemmas.Bool.{false≢true}
use Rattle.std.proofs.lemmas.List.{length-map, reverse-append}
use Rattle.ss_text.specs.Texts.{Text, Row, text_eq}
use Rattle.ss_text.specs.Keys.{IsPlaceOf}
use Rattle.ss_text.specs.Places.{at_place, changed_where}
use Rattle.schema_model.specs.Catalogue.{RelationValue, DatabaseValue, CatalogueValue, database_value, relation_name, database_name, database_at, relation_of, row_count, with_row, with_relation_at}
use Rattle.schema_model.specs.Changes.{after, after_all, at_relation, at_relation_in, less_row, is_well_formed}
use Rattle.schema_model.specs.Refusals.{fault, group_fault}
use Rattle.schema_model.specs.Sound.{IsSound}
use Rattle.schema_model.specs.ListedRows.{IsNext}
use Rattle.schema_model.specs.States.{RelationState, DatabaseState, no_relation_state, plain_relation, plain_database, plain_databases, relation_state_at}
use Rattle.schema_model.specs.Edits.{relation_edited, FitsDatabase, FitsWaiting, FitsOwn, waiting_left, waits_in, own_left, own_in, rows_after}
use Rattle.schema_model.specs.Groups.{is_of_row, named, all_named, all_waits, waits_at, all_own, own_at, KeepsOwn, AreOwn, rows_edited, IsRowEdit}
use Rattle.schema_model.specs.declared.change.Change.{Change}
use Rattle.schema_model.specs.declared.change.Change.TheVariants.{Insert, Delete, AddAttribute, DropAttribute, RenameAttribute, CreateRelation, DropRelation, RenameRelation, CreateDatabase, DropDatabase, RenameDatabase}
use Rattle.schema_model.specs.declared.refusal.Refusal.{Refusal}
use Rattle.schema_model.specs.declared.edit.RelationEdit.{RelationEdit}
use Rattle.schema_model.specs.declared.edit.RelationEdit.TheVariants.{Add, Take, Sheet, Header}
use Rattle.schema_model.specs.declared.edit.RowEdit.{RowEdit}
use Rattle.schema_model.specs.declared.edit.DatabaseEdit.TheVariants as inner
use Rattle.schema_model.proofs.Seen.{at_seen, put_seen}
use Rattle.schema_model.proofs.ChangeLemmas.{changed_there}
use Rattle.schema_model.proofs.SoundAfter.{sound_after}
use Rattle.schema_model.proofs.CountAfter.{count_after}

both : (a b : Bool) → (a && b) ≡ true → (a ≡ true) × (b ≡ true)
both true b h = (refl, h)
both false b h = absurd (cc)

-- lists with one element changed
module _ {A : Type 0} where
  read_changed : (xs : List A) (i : ℕ) (d : A) (f : A → A) → i < length xs → slice_index_or (at_place i f xs) i d ≡ f (slice_index_or xs i d)
  read_changed [] i d f lt = absurd (omega arith)
  read_changed (x ∷ xs) zero d f lt = refl
  read_changed (x ∷ xs) (suc i) d f lt = read_changed xs i d f (omega arith)

  -- changed back
  changed_back : (f g : A → A) → ((x : A) → g (f x) ≡ x) → (xs : List A) (i : ℕ) → at_place i g (at_place i f xs) ≡ xs
  changed_back f g h [] i = refl
  changed_back f g h (x ∷ xs) zero = ap (λ y. y ∷ xs) (h x)
  changed_back f g h (x ∷ xs) (suc i) = ap (λ ys. x ∷ ys) (changed_back f g h xs i)

  pub unchanged : (f : A → A) → ((x : A) → f x ≡ x) → (xs : List A) (i : ℕ) → at_place i f xs ≡ xs
  unchanged f h [] i = refl
  unchanged f h (x ∷ xs) zero = ap (λ y. y ∷ xs) (h x)
  unchanged f h (x ∷ xs) (suc i) = ap (λ ys. x ∷ ys) (unchanged f h xs i)

  pub all_last : (p : A → Bool) (xs : List A) (x : A) → list_all p (xs ++ x ∷ []) ≡ true → (list_all p xs ≡ true) × (p x ≡ true)
  all_last p [] x h = (refl, (both (p x) true h).0)
  all_last p (y ∷ ys) x h =
      let parts = both (p y) (list_all p (ys ++ x ∷ [])) h in
      let rest = all_last p ys x parts.1 in
      (ap (λ (b : Bool). b && list_all p ys) parts.0 ∙ rest.0, rest.1)

map_changed : {A B : Type 0} (g : A → B) (p : A → Bool) (f : A → A) → ((x : A) → g (f x) ≡ g x) → (xs : List A) → map g (changed_where p f xs) ≡ map g xs
map_changed g p f h [] = refl
map_changed g p f h (x ∷ xs) = ap (λ y. y ∷ map g (changed_where p f xs)) (head (p x)) ∙ ap (λ ys. g x ∷ ys) (map_changed g p f h xs)
  where
    head : (b : Bool) → g (if b then f x else x) ≡ g x
    head true = h x
    head false = refl

-- changes of rows leave all names
names_left : (db rel : Text) (f : RelationValue → RelationValue) (c : CatalogueValue) → ((r : RelationValue) → relation_name (f r) ≡ relation_name r) → all_named (at_relation db rel f c) ≡ all_named c
names_left db rel f c h =
    map_changed named (λ (d : DatabaseValue). text_eq db d.name) (at_relation_in rel f)
    (λ d. ap (λ (ns : List Text). (d.name, ns)) (map_changed (λ (r : RelationValue). r.name) (λ (r : RelationValue). text_eq rel r.name) f h d.relations)) c

names_after : (c : CatalogueValue) (g : Change) → is_of_row g ≡ true → all_named (after c g) ≡ all_named c
names_after c (Insert db rel row) h = names_left db rel (with_row row) c (λ r. refl)
names_after c (Delete db rel row) h = names_left db rel (less_row row) c (λ r. refl)
names_after c (AddAttribute db rel name fill) h = absurd (cc)
names_after c (DropAttribute db rel name) h = absurd (cc)
names_after c (RenameAttribute db rel name to) h = absurd (cc)
names_after c (CreateRelation db rel attributes) h = absurd (cc)
names_after c (DropRelation db rel) h = absurd (cc)
names_after c (RenameRelation db rel to) h = absurd (cc)
names_after c (CreateDatabase db) h = absurd (cc)
names_after c (DropDatabase db) h = absurd (cc)
names_after c (RenameDatabase db to) h = absurd (cc)

pub names_after_all : (c : CatalogueValue) (gs : List Change) → list_all is_of_row gs ≡ true → all_named (after_all c gs) ≡ all_named c
names_after_all c [] h = refl
names_after_all c (g ∷ gs) h =
    let parts = both (is_of_row g) (list_all is_of_row gs) h in
    names_after_all (after c g) gs parts.1 ∙ names_after c g parts.0

formed_row : (g : Change) → is_of_row g ≡ true → IsTrue (is_well_formed g)
formed_row (Insert db rel row) h = refl
formed_row (Delete db rel row) h = refl
formed_row (AddAttribute db rel name fill) h = refl
formed_row (DropAttribute db rel name) h = refl
formed_row (RenameAttribute db rel name to) h = refl
formed_row (CreateRelation db rel attributes) h = absurd (cc)
formed_row (DropRelation db rel) h = refl
formed_row (RenameRelation db rel to) h = refl
formed_row (CreateDatabase db) h = refl
formed_row (DropDatabase db) h = refl
formed_row (RenameDatabase db to) h = refl

pub formed_rows : (gs : List Change) → list_all is_of_row gs ≡ true → AllByRecursion (λ g. IsTrue (is_well_formed g)) gs
formed_rows [] h = tt
formed_rows (g ∷ gs) h =
    let parts = both (is_of_row g) (list_all is_of_row gs) h in
    (formed_row g parts.0, formed_rows gs parts.1)

-- the last of some changes
pub after_last : (c : CatalogueValue) (gs : List Change) (g : Change) → after_all c (gs ++ g ∷ []) ≡ after (after_all c gs) g
after_last c [] g = refl
after_last c (x ∷ xs) g = after_last (after c x) xs g

pub first_none : (a b : Option Refusal) → option_or a b ≡ None → (a ≡ None) × (b ≡ None)
first_none None b h = (refl, h)
first_none (Some e) b h = absurd (cc)

pub fault_last : (c : CatalogueValue) (gs : List Change) (g : Change) → group_fault c (gs ++ g ∷ []) ≡ None → (group_fault c gs ≡ None) × (fault (after_all c gs) g ≡ None)
fault_last c [] g h = (refl, (first_none (fault c g) None h).0)
fault_last c (x ∷ xs) g h =
    let parts = first_none (fault c x) (group_fault (after c x) (xs ++ g ∷ [])) h in
    let rest = fault_last (after c x) xs g parts.1 in
    (ap (λ (o : Option Refusal). option_or o (group_fault (after c x) xs)) parts.0 ∙ rest.0, rest.1)

-- places among the same names
place_named : {A : Type 0} (key : A → Text) (k : Text) (xs ys : List A) (i : ℕ) → map key xs ≡ map key ys → IsPlaceOf key k xs i → IsPlaceOf key k ys i
place_named key k xs ys i e at =
    let within : i < length ys = omega (arith, at.within, length-map xs key, length-map ys key, ap length e) in
    record {
      within = within;
      has_key = λ d. sym (at_seen key ys i d (key d) within) ∙ ap (λ (ks : List Text). slice_index_or ks i (key d)) (sym e) ∙ at_seen key xs i d (key d) at.within ∙ at.has_key d;
    }

names_alone : (c : CatalogueValue) → map (λ (n : Text × List Text). n.0) (all_named c) ≡ map database_name c
names_alone [] = refl
names_alone (d ∷ c) = ap (λ (ns : List Text). d.name ∷ ns) (names_alone c)

module _ (c later : CatalogueValue) (same : all_named c ≡ all_named later) where
  databases_named : map database_name c ≡ map database_name later
  databases_named = sym (names_alone c) ∙ ap (map (λ (n : Text × List Text). n.0)) same ∙ names_alone later

  relations_named : (i : ℕ) → i < length c → i < length later → map relation_name (database_at i c).relations ≡ map relation_name (database_at i later).relations
  relations_named i lt lt_later =
      ap (λ (n : Text × List Text). n.1) (sym (at_seen named c i (database_value [] []) ([], []) lt))
      ∙ ap (λ (ns : List (Text × List Text)). (slice_index_or ns i ([], [])).1) same
      ∙ ap (λ (n : Text × List Text). n.1) (at_seen named later i (database_value [] []) ([], []) lt_later)

-- whether a relation is there is told by the names
module _ (db rel : Text) where
  abbrev there : List (Text × List Text) → Bool
  there [] = false
  there (n ∷ ns) = cond (text_eq db n.0) (list_any (text_eq rel) n.1) (there ns)

  relation_there : (rs : List RelationValue) → is_some (find (λ (r : RelationValue). text_eq rel r.name) rs) ≡ list_any (text_eq rel) (map (λ (r : RelationValue). r.name) rs)
  relation_there [] = refl
  relation_there (r ∷ rs) = by (text_eq rel r.name) refl (relation_there rs)
    where
      by : (b : Bool) → text_eq rel r.name ≡ b → is_some (find (λ (r : RelationValue). text_eq rel r.name) rs) ≡ list_any (text_eq rel) (map (λ (r : RelationValue). r.name) rs) → is_some (find (λ (r : RelationValue). text_eq rel r.name) (r ∷ rs)) ≡ list_any (text_eq rel) (map (λ (r : RelationValue). r.name) (r ∷ rs))
      by true e rest = rw e refl
      by false e rest = rw e rest

  told_by_names : (c : CatalogueValue) → is_some (relation_of c db rel) ≡ there (all_named c)
  told_by_names [] = refl
  told_by_names (d ∷ c) = by (text_eq db d.name) refl (told_by_names c)
    where
      by : (b : Bool) → text_eq db d.name ≡ b → is_some (relation_of c db rel) ≡ there (all_named c) → is_some (relation_of (d ∷ c) db rel) ≡ there (all_named (d ∷ c))
      by true e rest = rw e (relation_there d.relations)
      by false e rest = rw e rest

  pub not_missing : (c later : CatalogueValue) → all_named c ≡ all_named later → relation_of c db rel ≡ None → IsSome (relation_of later db rel) → ⊥
  not_missing c later same none some =
      let no : is_some (relation_of c db rel) ≡ false = ap is_some none in
      false≢true (sym no ∙ told_by_names c ∙ ap there same ∙ sym (told_by_names later) ∙ some)

-- an edit at the places of a relation makes the change of its row in each later catalogue
module _ (c : CatalogueValue) (db rel : Text) (i j : ℕ) (at : IsPlaceOf database_name db c i) (rel_at : IsPlaceOf relation_name rel (database_at i c).relations j) (later : CatalogueValue) (same : all_named c ≡ all_named later) (h : IsSound later) where
  db_later : IsPlaceOf database_name db later i
  db_later = place_named database_name db c later i (databases_named c later same) at

  rel_later : IsPlaceOf relation_name rel (database_at i later).relations j
  rel_later = place_named relation_name rel (database_at i c).relations (database_at i later).relations j (relations_named c later same i at.within db_later.within) rel_at

  pub row_makes : (f : RelationValue → RelationValue) → at_place i (with_relation_at j f) later ≡ at_relation db rel f later
  row_makes f = sym (changed_there later db rel i j h db_later rel_later f)

  pub row_counted : (edit : RelationEdit) (g : Change) → IsTrue (is_well_formed g) → fault later g ≡ None → at_place i (with_relation_at j (relation_edited edit)) later ≡ after later g → rows_edited edit (row_count later) ≡ rows_after later g
      → IsRowEdit later (record { db = i; rel = j; edit = edit })
  row_counted edit g formed none makes rows = record {
    database = db_later.within;
    relation = rel_later.within;
    counted = record {
      sound = subst IsSound (sym makes) (sound_after later g h formed none);
      count = rows ∙ sym (count_after later g h none) ∙ ap row_count (sym makes);
    };
  }

-- rows that are their own stay so, where those of one relation become so
keeps_there : (f : Bool → Bool) → f true ≡ true → (own : List Bool) (j k : ℕ) → IsTrue (slice_index_or own k false) → IsTrue (slice_index_or (at_place j f own) k false)
keeps_there f h [] j k e = e
keeps_there f h (o ∷ own) zero zero e = ap f e ∙ h
keeps_there f h (o ∷ own) zero (suc k) e = e
keeps_there f h (o ∷ own) (suc j) zero e = e
keeps_there f h (o ∷ own) (suc j) (suc k) e = keeps_there f h own j k e

keeps_at : (f : Bool → Bool) → f true ≡ true → (own : List (List Bool)) (i j : ℕ) → KeepsOwn own (at_place i (at_place j f) own)
keeps_at f h [] i j db rel e = e
keeps_at f h (here ∷ own) zero j zero rel e = keeps_there f h here j rel e
keeps_at f h (here ∷ own) zero j (suc db) rel e = e
keeps_at f h (here ∷ own) (suc i) j zero rel e = e
keeps_at f h (here ∷ own) (suc i) j (suc db) rel e = keeps_at f h own i j db rel e

edit_keeps : (edit : RelationEdit) → own_left edit true ≡ true
edit_keeps (Add row) = refl
edit_keeps (Take row) = refl
edit_keeps (Sheet attributes rows) = refl
edit_keeps (Header attributes) = refl

still_fits : (edit : RelationEdit) (own later : Bool) → (IsTrue own → IsTrue later) → FitsOwn edit own → FitsOwn edit later
still_fits (Add row) own later keeps h = tt
still_fits (Take row) own later keeps h = keeps h
still_fits (Sheet attributes rows) own later keeps h = tt
still_fits (Header attributes) own later keeps h = tt

pub still_own : (es : List RowEdit) (own later : List (List Bool)) → KeepsOwn own later → AreOwn es own → AreOwn es later
still_own [] own later keeps h = tt
still_own (e ∷ es) own later keeps h = (still_fits e.edit (own_at e.db e.rel own) (own_at e.db e.rel later) (keeps e.db e.rel) h.0, still_own es own later keeps h.1)

-- the rows that wait and those that are their own, of a database that was read and put back
module _ (ds : List DatabaseState) (i : ℕ) (shown new : DatabaseState) (lt : i < length ds) (is : shown ≡ slice_index_or ds i shown) where
  waits_are : slice_index_or (all_waits ds) i [] ≡ waits_in shown
  waits_are = at_seen waits_in ds i shown [] lt ∙ ap waits_in (sym is)

  pub waits_put : (j : ℕ) (asked row : Row) → j < length shown.relations → waits_in new ≡ at_place j (λ (ws : List Row). row ∷ ws) (waits_in shown) → asked ≡ row
      → IsNext asked (waits_at i j (all_waits (slice_set ds i new))) × (at_place i (at_place j (drop 1)) (all_waits (slice_set ds i new)) ≡ all_waits ds)
  waits_put j asked row within e same =
      let f : List Row → List Row = λ ws. row ∷ ws in
      let w = all_waits ds in
      let put : all_waits (slice_set ds i new) ≡ at_place i (at_place j f) w = put_seen waits_in (at_place j f) ds i shown new lt is e in
      let db_lt : i < length w = omega (arith, lt, length-map ds waits_in) in
      let rel_lt : j < length (slice_index_or w i []) = omega (arith, within, length-map shown.relations (λ (r : RelationState). r.waiting), ap length waits_are) in
      let next : waits_at i j (all_waits (slice_set ds i new)) ≡ row ∷ waits_at i j w
      = ap (waits_at i j) put ∙ ap (λ (x : List (List Row)). slice_index_or x j []) (read_changed w i [] (at_place j f) db_lt) ∙ read_changed (slice_index_or w i []) j [] f rel_lt in (
        next ∙ ap (λ (r : Row). r ∷ waits_at i j w) (sym same) ∙ ap (λ (ws : List Row). asked ∷ ws) (sym (ap (drop 1) next)),
        ap (at_place i (at_place j (drop 1))) put ∙ changed_back (at_place j f) (at_place j (drop 1)) (λ x. changed_back f (drop 1) (λ ws. refl) x j) w i,
      )

  pub within_shown : (j : ℕ) → j < length (database_at i (plain_databases ds)).relations → j < length shown.relations
  within_shown j within =
      let here : database_at i (plain_databases ds) ≡ plain_database shown = at_seen plain_database ds i shown (database_value [] []) lt ∙ ap plain_database (sym is) in
      omega (arith, within, ap (λ (d : DatabaseValue). length d.relations) here, length-map shown.relations plain_relation)

  own_is : slice_index_or (all_own ds) i [] ≡ own_in shown
  own_is = at_seen own_in ds i shown [] lt ∙ ap own_in (sym is)

  pub own_put : (j : ℕ) → j < length shown.relations → own_in new ≡ at_place j (λ own. true) (own_in shown) → IsTrue (own_at i j (all_own (slice_set ds i new))) × KeepsOwn (all_own ds) (all_own (slice_set ds i new))
  own_put j within e =
      let f : Bool → Bool = λ own. true in
      let own = all_own ds in
      let put : all_own (slice_set ds i new) ≡ at_place i (at_place j f) own = put_seen own_in (at_place j f) ds i shown new lt is e in
      let db_lt : i < length own = omega (arith, lt, length-map ds own_in) in
      let rel_lt : j < length (slice_index_or own i []) = omega (arith, within, length-map shown.relations (λ (r : RelationState). r.own), ap length own_is) in (
        ap (own_at i j) put ∙ ap (λ (x : List Bool). slice_index_or x j false) (read_changed own i [] (at_place j f) db_lt) ∙ read_changed (slice_index_or own i []) j false f rel_lt,
        subst (KeepsOwn own) (sym put) (keeps_at f refl own i j),
      )

  pub own_stays : (j : ℕ) (edit : RelationEdit) → own_in new ≡ at_place j (own_left edit) (own_in shown) → KeepsOwn (all_own ds) (all_own (slice_set ds i new))
  own_stays j edit e = subst (KeepsOwn (all_own ds)) (sym (put_seen own_in (at_place j (own_left edit)) ds i shown new lt is e)) (keeps_at (own_left edit) (edit_keeps edit) (all_own ds) i j)

  -- what an edit there asks
  pub edit_fits : (j : ℕ) (edit : RelationEdit) → j < length (database_at i (plain_databases ds)).relations → FitsWaiting edit (waits_at i j (all_waits ds)) → FitsOwn edit (own_at i j (all_own ds)) → FitsDatabase (inner.At j edit) shown
  edit_fits j edit within fits owns =
      let rel_lt = within_shown j within in
      let waits : waits_at i j (all_waits ds) ≡ (relation_state_at j shown).waiting
      = ap (λ (x : List (List Row)). slice_index_or x j []) waits_are ∙ at_seen (λ (r : RelationState). r.waiting) shown.relations j no_relation_state [] rel_lt in
      let own : own_at i j (all_own ds) ≡ (relation_state_at j shown).own
      = ap (λ (x : List Bool). slice_index_or x j false) own_is ∙ at_seen (λ (r : RelationState). r.own) shown.relations j no_relation_state false rel_lt in
      (rel_lt, (subst (FitsWaiting edit) waits fits, subst (FitsOwn edit) own owns))

  pub waits_left : (j : ℕ) (edit : RelationEdit) → waits_in new ≡ at_place j (waiting_left edit) (waits_in shown) → all_waits (slice_set ds i new) ≡ at_place i (at_place j (waiting_left edit)) (all_waits ds)
  waits_left j edit e = put_seen waits_in (at_place j (waiting_left edit)) ds i shown new lt is e

pub none_any : {A : Type 0} (p : A → Bool) (xs : List A) → false ≡ list_any p xs → find p xs ≡ None
none_any p [] h = refl
none_any p (x ∷ xs) h = by (p x) refl (none_any p xs)
  where
    by : (b : Bool) → p x ≡ b → (false ≡ list_any p xs → find p xs ≡ None) → find p (x ∷ xs) ≡ None
    by true e rest = absurd (false≢true (h ∙ ap (λ (b : Bool). b || list_any p xs) e))
    by false e rest = rw e (rest (h ∙ ap (λ (b : Bool). b || list_any p xs) e))

pub reverse_last : {A : Type 0} (xs : List A) (x : A) → reverse (xs ++ x ∷ []) ≡ x ∷ reverse xs
reverse_last xs x = reverse-append xs (x ∷ [])

pub none_left : {A : Type 0} (xs : List A) → length xs ≤ 0 → xs ≡ []
none_left [] h = refl
none_left (x ∷ xs) h = absurd (omega (arith, h))
