-- A change of one row moves the flat rows by what the row contributes, in every catalogue where the relation has its attributes.
use Rattle.std.proofs.Common.{◌≡◌, ◌<◌, ◌≤◌, ◌+◌, ℕ, List, [], ◌∷◌, ◌++◌, Bool, true, false, cond, refl, ap, sym, ◌∙◌, find, map, length, drop, get_or, suc, add-one, drop-cons, Option, Some, None, subst, IsTrue}
use Rattle.std.specs.Prelude.{option_map, option_and_then, ◌&&◌}
use Rattle.std.specs.List.{list_all}
use Rattle.ss_text.specs.Texts.{Text, Row, text_eq}
use Rattle.ss_text.specs.Places.{changed_where}
use Rattle.ss_text.proofs.KeyLemmas.{text_order, equal_is}
use Rattle.view_def.specs.declared.typed.Place.TheVariants.{Fixed, Var}
use Rattle.view_def.specs.declared.typed.Range.{Range}
use Rattle.view_def.specs.declared.typed.Range.TheVariants as range
use Rattle.operator_law.specs.declared.delta.Signed.{Signed}
use Rattle.operator_law.specs.Bags.{MovesBag, all_signed}
use Rattle.operator_law.proofs.SignedRows.{stays, moves_on}
use Rattle.fold_op.specs.declared.change.SheetChange.{SheetChange}
use Rattle.fold_op.specs.declared.change.SheetChange.TheVariants.{Up, Down}
use Rattle.fold_op.specs.Sheets.{SheetValue, IsSheet, FitsSheet, sheet_after}
use Rattle.fold_op.specs.Flat.{pick_value, fold_value}
use Rattle.fold_op.proofs.FlatLemmas.{pick_law}
use Rattle.fold_op.proofs.FoldLemmas.{fold_law}
use Rattle.unite_op.specs.NamedThings.{rows_behind, moves_behind}
use Rattle.unite_op.proofs.UniteLemmas.{moves_rows_behind, signed_behind}
use Rattle.schema_model.specs.Catalogue.{RelationValue, DatabaseValue, CatalogueValue, database_of, relation_in, relation_of, with_row}
use Rattle.schema_model.specs.Changes.{after, after_all, at_relation, at_relation_in, less_row}
use Rattle.schema_model.specs.Refusals.{fault}
use Rattle.schema_model.specs.Sound.{IsSound, IsDatabase, IsRelation}
use Rattle.schema_model.specs.declared.change.Change.{Change}
use Rattle.schema_model.specs.declared.change.Change.TheVariants.{Insert, Delete, AddAttribute, DropAttribute, RenameAttribute, CreateRelation, DropRelation, RenameRelation, CreateDatabase, DropDatabase, RenameDatabase}
use Rattle.schema_model.proofs.Asks.{insert_has, delete_has}
use Rattle.schema_model.proofs.SoundAfter.{sound_after}
use Rattle.schema_delta.specs.Flat.{flat, part, inside, goes_over, sheet_of, changed_relation, MovesFlat, MovesBetween}
use Rattle.schema_delta.specs.OneRow.{is_of_rows, header_of, SameHeaders, is_over_rows, row_part}
use Rattle.schema_delta.specs.declared.spec.FlatSpec.{FlatSpec}
use Rattle.schema_delta.proofs.FlatLaw.{part_moved, part_stays, changed_law, found_both, found_holds}
use Rattle.schema_delta.proofs.Asked.{stands, insert_fits, delete_fits}
use Rattle.schema_delta.proofs.GroupLemmas.{IsLeft, can_make, one_made, all_made}

-- a row that comes, or goes
abbrev row_change : Bool → Row → SheetChange
row_change true row = Up row
row_change false row = Down row

pick_moved : (w : Row) (x : SheetValue) (up : Bool) (row : Row) → IsSheet x → FitsSheet (row_change up row) x → MovesBag (pick_value w x) (all_signed up (pick_value w (x.0, row ∷ []))) (pick_value w (sheet_after (row_change up row) x))
pick_moved w x true row sheet fits = pick_law w x (Up row) sheet fits
pick_moved w x false row sheet fits = pick_law w x (Down row) sheet fits

fold_moved : (w : Row) (x : SheetValue) (up : Bool) (row : Row) → IsSheet x → FitsSheet (row_change up row) x → MovesBag (fold_value w x) (all_signed up (fold_value w (x.0, row ∷ []))) (fold_value w (sheet_after (row_change up row) x))
fold_moved w x true row sheet fits = fold_law w x (Up row) sheet fits
fold_moved w x false row sheet fits = fold_law w x (Down row) sheet fits

same_header : (x : SheetValue) (up : Bool) (row : Row) → x.0 ≡ (sheet_after (row_change up row) x).0
same_header x true row = refl
same_header x false row = refl

-- inside: the row moves what its own sheet gives, where the range goes over rows
inside_moved : (r : Range) (w : Row) (folded : Bool) (x : SheetValue) (up : Bool) (row : Row) → IsSheet x → FitsSheet (row_change up row) x
    → MovesBag (inside r w folded x) (all_signed up (cond (is_over_rows r) (inside r w folded (x.0, row ∷ [])) [])) (inside r w folded (sheet_after (row_change up row) x))
inside_moved range.Databases w folded x up row sheet fits = stays [] [] refl
inside_moved (range.Relations p) w folded x up row sheet fits = stays ([] ∷ []) ([] ∷ []) refl
inside_moved (range.Attributes p q) w folded x up row sheet fits = stays _ _ (ap (map (λ a. a ∷ [])) (same_header x up row))
inside_moved (range.Tuples p q) w true x up row sheet fits = fold_moved w x up row sheet fits
inside_moved (range.Tuples p q) w false x up row sheet fits = pick_moved w x up row sheet fits
inside_moved (range.Values p q (Fixed a)) w folded x up row sheet fits =
    subst (λ (ms : List Signed). MovesBag (rows_behind (a ∷ []) (pick_value (a ∷ []) x)) ms (rows_behind (a ∷ []) (pick_value (a ∷ []) (sheet_after (row_change up row) x))))
    (signed_behind up (a ∷ []) (pick_value (a ∷ []) (x.0, row ∷ [])))
    (moves_rows_behind (a ∷ []) (pick_value (a ∷ []) x) (pick_value (a ∷ []) (sheet_after (row_change up row) x)) (all_signed up (pick_value (a ∷ []) (x.0, row ∷ []))) (pick_moved (a ∷ []) x up row sheet fits))
inside_moved (range.Values p q (Var k)) w folded x up row sheet fits = fold_moved [] x up row sheet fits
inside_moved (range.Alias k a) w folded x up row sheet fits = stays [] [] refl

-- behind both names
part_by_row : (s : FlatSpec) (db : Text) (r : RelationValue) (up : Bool) (row : Row) → IsSheet (sheet_of r) → FitsSheet (row_change up row) (sheet_of r) → MovesBag (part s db r) (all_signed up (row_part s db r.name r.attributes row)) (part s db (changed_relation (row_change up row) r))
part_by_row s db r up row sheet fits = by (goes_over s.range db r.name) refl
  where
    names : Row
    names = db ∷ r.name ∷ []

    one : List Row
    one = inside s.range s.wanted s.folded (r.attributes, row ∷ [])

    behind : (b : Bool) → rows_behind names (cond b one []) ≡ cond b (rows_behind names one) []
    behind true = refl
    behind false = refl

    nothing : (b : Bool) → all_signed up (cond b [] []) ≡ []
    nothing true = refl
    nothing false = refl

    by : (b : Bool) → goes_over s.range db r.name ≡ b → MovesBag (part s db r) (all_signed up (cond (is_over_rows s.range) (cond (goes_over s.range db r.name) (rows_behind names one) []) [])) (part s db (changed_relation (row_change up row) r))
    by true over =
        let ms = all_signed up (cond (is_over_rows s.range) one []) in
        let moved = part_moved s db r (row_change up row) ms over (inside_moved s.range s.wanted s.folded (sheet_of r) up row sheet fits) in
        let is : moves_behind names ms ≡ all_signed up (cond (is_over_rows s.range) (cond (goes_over s.range db r.name) (rows_behind names one) []) []) =
        signed_behind up names (cond (is_over_rows s.range) one []) ∙ ap (all_signed up) (behind (is_over_rows s.range) ∙ ap (λ b. cond (is_over_rows s.range) (cond b (rows_behind names one) []) []) (sym over)) in
        subst (λ (ms : List Signed). MovesBag (part s db r) ms (part s db (changed_relation (row_change up row) r))) is moved
    by false over =
        let none : [] ≡ all_signed up (cond (is_over_rows s.range) (cond (goes_over s.range db r.name) (rows_behind names one) []) []) =
        sym (nothing (is_over_rows s.range)) ∙ ap (λ b. all_signed up (cond (is_over_rows s.range) (cond b (rows_behind names one) []) [])) (sym over) in
        subst (λ (ms : List Signed). MovesBag (part s db r) ms (part s db (changed_relation (row_change up row) r))) none (part_stays s db r (row_change up row) over)

-- what is found by its name bears it
found_key : {A : Type 0} (key : A → Text) (k : Text) (xs : List A) (x : A) → find (λ y. text_eq k (key y)) xs ≡ Some x → key x ≡ k
found_key key k [] x found = absurd (cc)
found_key key k (y ∷ xs) x found =
    elim (text_eq k (key y)) as (λ b. text_eq k (key y) ≡ b → cond b (Some y) (find (λ y. text_eq k (key y)) xs) ≡ Some x → key x ≡ k) [
      | true ↦ λ same is. let one : y ≡ x = cc in ap key (sym one) ∙ sym (equal_is text_order k (key y) same)
      | false ↦ λ _ is. found_key key k xs x is
    ] refl found

module _ (c : CatalogueValue) (db rel : Text) (r : RelationValue) (found : relation_of c db rel ≡ Some r) where
  found_named : r.name ≡ rel
  found_named = let both = found_both (database_of c db) (relation_in rel) r found in found_key (λ (r : RelationValue). r.name) rel both.0.relations r both.2

  found_sheet : IsSound c → IsSheet (sheet_of r)
  found_sheet sound =
      let both = found_both (database_of c db) (relation_in rel) r found in
      let d : IsDatabase both.0 = found_holds IsDatabase (λ (d : DatabaseValue). text_eq db d.name) c both.0 sound.databases both.1 in
      let is : IsRelation r = found_holds IsRelation (λ (r : RelationValue). text_eq rel r.name) both.0.relations r d.relations both.2 in
      record { distinct = is.header.distinct; fits = is.fits }

  has_header : header_of c db rel ≡ Some r.attributes
  has_header = ap (option_map (λ (r : RelationValue). r.attributes)) found

same_some : {A : Type 0} (a b : A) → Some a ≡ Some b → a ≡ b
same_some a b e = cc

-- and so in a whole catalogue
insert_law : (s : FlatSpec) (c : CatalogueValue) (db rel : Text) (row h : Row) → IsSound c → fault c (Insert db rel row) ≡ None → header_of c db rel ≡ Some h → MovesFlat c (Insert db rel row) s (all_signed true (row_part s db rel h row))
insert_law s c db rel row h sound none header =
    let at = (insert_has c db rel row none).at in
    let r : RelationValue = at.r in
    let found : relation_of c db rel ≡ Some r = stands c db rel at in
    let name : r.name ≡ rel = found_named c db rel r found in
    let same : r.attributes ≡ h = same_some r.attributes h (sym (has_header c db rel r found) ∙ header) in
    let moved = part_by_row s db r true row (found_sheet c db rel r found sound) (insert_fits c db rel r found row none) in
    let is : all_signed true (row_part s db r.name r.attributes row) ≡ all_signed true (row_part s db rel h row) =
    ap (λ n. all_signed true (row_part s db n r.attributes row)) name ∙ ap (λ k. all_signed true (row_part s db rel k row)) same in
    changed_law s c sound db rel r (with_row row) (all_signed true (row_part s db rel h row)) found
    (subst (λ (ms : List Signed). MovesBag (part s db r) ms (part s db (with_row row r))) is moved)

delete_law : (s : FlatSpec) (c : CatalogueValue) (db rel : Text) (row h : Row) → IsSound c → fault c (Delete db rel row) ≡ None → header_of c db rel ≡ Some h → MovesFlat c (Delete db rel row) s (all_signed false (row_part s db rel h row))
delete_law s c db rel row h sound none header =
    let at = (delete_has c db rel row none).at in
    let r : RelationValue = at.r in
    let found : relation_of c db rel ≡ Some r = stands c db rel at in
    let name : r.name ≡ rel = found_named c db rel r found in
    let same : r.attributes ≡ h = same_some r.attributes h (sym (has_header c db rel r found) ∙ header) in
    let moved = part_by_row s db r false row (found_sheet c db rel r found sound) (delete_fits c db rel r found row none) in
    let is : all_signed false (row_part s db r.name r.attributes row) ≡ all_signed false (row_part s db rel h row) =
    ap (λ n. all_signed false (row_part s db n r.attributes row)) name ∙ ap (λ k. all_signed false (row_part s db rel k row)) same in
    changed_law s c sound db rel r (less_row row) (all_signed false (row_part s db rel h row)) found
    (subst (λ (ms : List Signed). MovesBag (part s db r) ms (part s db (less_row row r))) is moved)

-- by the attributes that the relation has in another catalogue
module _ (s : FlatSpec) (e : CatalogueValue) (db rel : Text) (row : Row) (up : Bool) (ms : List Signed) (signed : (h : Row) → header_of e db rel ≡ Some h → ms ≡ all_signed up (row_part s db rel h row)) where
  pub inserted_as : up ≡ true → (c : CatalogueValue) → IsSound c → SameHeaders c e → fault c (Insert db rel row) ≡ None → MovesFlat c (Insert db rel row) s ms
  inserted_as is c sound same none =
      let at = (insert_has c db rel row none).at in
      let header = has_header c db rel at.r (stands c db rel at) in
      let law = insert_law s c db rel row at.r.attributes sound none header in
      subst (MovesBetween c (after c (Insert db rel row)) s) (sym (signed at.r.attributes (sym (same db rel) ∙ header) ∙ ap (λ u. all_signed u (row_part s db rel at.r.attributes row)) is)) law

  pub deleted_as : up ≡ false → (c : CatalogueValue) → IsSound c → SameHeaders c e → fault c (Delete db rel row) ≡ None → MovesFlat c (Delete db rel row) s ms
  deleted_as is c sound same none =
      let at = (delete_has c db rel row none).at in
      let header = has_header c db rel at.r (stands c db rel at) in
      let law = delete_law s c db rel row at.r.attributes sound none header in
      subst (MovesBetween c (after c (Delete db rel row)) s) (sym (signed at.r.attributes (sym (same db rel) ∙ header) ∙ ap (λ u. all_signed u (row_part s db rel at.r.attributes row)) is)) law

-- the relation is there in both
there_too : (o : Option RelationValue) (h : Row) → option_map (λ (r : RelationValue). r.attributes) o ≡ Some h → (r : RelationValue) × (o ≡ Some r)
there_too None h e = absurd (cc)
there_too (Some r) h e = (r, refl)

pub insert_there : (e : CatalogueValue) (db rel : Text) (row : Row) → (c : CatalogueValue) × SameHeaders c e × (fault c (Insert db rel row) ≡ None) → (r : RelationValue) × (relation_of e db rel ≡ Some r)
insert_there e db rel row has =
    let at = (insert_has has.0 db rel row has.2).at in
    there_too (relation_of e db rel) at.r.attributes (sym (has.1 db rel) ∙ has_header has.0 db rel at.r (stands has.0 db rel at))

pub delete_there : (e : CatalogueValue) (db rel : Text) (row : Row) → (c : CatalogueValue) × SameHeaders c e × (fault c (Delete db rel row) ≡ None) → (r : RelationValue) × (relation_of e db rel ≡ Some r)
delete_there e db rel row has =
    let at = (delete_has has.0 db rel row has.2).at in
    there_too (relation_of e db rel) at.r.attributes (sym (has.1 db rel) ∙ has_header has.0 db rel at.r (stands has.0 db rel at))

-- a change of rows leaves all attributes
seen_left : {A B : Type 0} (key : A → Text) (seen : A → B) (f : A → A) → ((x : A) → key (f x) ≡ key x) → ((x : A) → seen (f x) ≡ seen x) → (j k : Text) (xs : List A) → option_map seen (find (λ x. text_eq k (key x)) (changed_where (λ x. text_eq j (key x)) f xs)) ≡ option_map seen (find (λ x. text_eq k (key x)) xs)
seen_left key seen f keeps sees j k [] = refl
seen_left key seen f keeps sees j k (x ∷ xs) = here (seen_left key seen f keeps sees j k xs) (text_eq j (key x)) refl (text_eq k (key x)) refl
  where
    here : option_map seen (find (λ x. text_eq k (key x)) (changed_where (λ x. text_eq j (key x)) f xs)) ≡ option_map seen (find (λ x. text_eq k (key x)) xs)
        → (a : Bool) → text_eq j (key x) ≡ a → (b : Bool) → text_eq k (key x) ≡ b
        → option_map seen (find (λ x. text_eq k (key x)) (cond (text_eq j (key x)) (f x) x ∷ changed_where (λ x. text_eq j (key x)) f xs)) ≡ option_map seen (cond (text_eq k (key x)) (Some x) (find (λ x. text_eq k (key x)) xs))
    here others true d true e = rw (d, keeps x, e) (ap Some (sees x))
    here others true d false e = rw (d, keeps x, e) others
    here others false d true e = rw (d, e) refl
    here others false d false e = rw (d, e) others

abbrev header_in : Text → DatabaseValue → Option Row
header_in rel d = option_map (λ (r : RelationValue). r.attributes) (relation_in rel d)

joined : (rel : Text) (o : Option DatabaseValue) → option_map (λ (r : RelationValue). r.attributes) (option_and_then (relation_in rel) o) ≡ option_and_then (λ h. h) (option_map (header_in rel) o)
joined rel None = refl
joined rel (Some d) = refl

header_left : (c : CatalogueValue) (db rel : Text) (f : RelationValue → RelationValue) → ((r : RelationValue) → (f r).name ≡ r.name) → ((r : RelationValue) → (f r).attributes ≡ r.attributes) → SameHeaders (at_relation db rel f c) c
header_left c db rel f keeps sees d r =
    joined r (database_of (at_relation db rel f c) d)
    ∙ ap (option_and_then (λ h. h)) (seen_left (λ (x : DatabaseValue). x.name) (header_in r) (at_relation_in rel f) (λ x. refl) (λ x. seen_left (λ (y : RelationValue). y.name) (λ (y : RelationValue). y.attributes) f keeps sees rel r x.relations) db d c)
    ∙ sym (joined r (database_of c d))

headers_left : (c : CatalogueValue) (g : Change) → IsTrue (is_of_rows g) → SameHeaders (after c g) c
headers_left c (Insert db rel row) h = header_left c db rel (with_row row) (λ r. refl) (λ r. refl)
headers_left c (Delete db rel row) h = header_left c db rel (less_row row) (λ r. refl) (λ r. refl)
headers_left c (AddAttribute db rel name fill) h = absurd (cc)
headers_left c (DropAttribute db rel name) h = absurd (cc)
headers_left c (RenameAttribute db rel name to) h = absurd (cc)
headers_left c (CreateRelation db rel attributes) h = absurd (cc)
headers_left c (DropRelation db rel) h = absurd (cc)
headers_left c (RenameRelation db rel to) h = absurd (cc)
headers_left c (CreateDatabase db) h = absurd (cc)
headers_left c (DropDatabase db) h = absurd (cc)
headers_left c (RenameDatabase db to) h = absurd (cc)

-- what is left of changes of rows, and the moves of those before
pub record RowsWalk (c : CatalogueValue) (all : List Change) (s : FlatSpec) (i : ℕ) (ms : List Signed) : Type 0 where
  pub now : CatalogueValue
  pub moved : MovesBetween c now s ms
  pub left : IsLeft c all now i
  pub of_rows : list_all is_of_rows (drop i all) ≡ true
  pub sound : IsSound now
  pub same : SameHeaders now c

module _ (c : CatalogueValue) (all : List Change) (s : FlatSpec) (i : ℕ) (ms : List Signed) (walk : RowsWalk c all s i ms) where
  module _ (g : Change) (more : i < length all) (at : g ≡ get_or all i g) where
    next : drop i all ≡ g ∷ drop (i + 1) all
    next = drop-cons all i g more ∙ rw add-one (ap (λ (h : Change). h ∷ drop (suc i) all) (sym at))

    both_of_rows : (IsTrue (is_of_rows g)) × (list_all is_of_rows (drop (i + 1) all) ≡ true)
    both_of_rows = parts (is_of_rows g) (list_all is_of_rows (drop (i + 1) all)) (sym (ap (list_all is_of_rows) next) ∙ walk.of_rows)
      where
        parts : (a b : Bool) → (a && b) ≡ true → (a ≡ true) × (b ≡ true)
        parts true b e = (refl, e)
        parts false b e = absurd (cc)

    pub one_of_rows : IsTrue (is_of_rows g)
    one_of_rows = both_of_rows.0

    pub one_there : (k : CatalogueValue) × SameHeaders k c × (fault k g ≡ None)
    one_there = (walk.now, walk.same, (can_make c all walk.now i walk.left g more at).0)

    pub one_on : (ns : List Signed) → ((k : CatalogueValue) → IsSound k → SameHeaders k c → fault k g ≡ None → MovesFlat k g s ns) → RowsWalk c all s (i + 1) (ms ++ ns)
    one_on ns moves =
        let can = can_make c all walk.now i walk.left g more at in
        record {
          now = after walk.now g;
          moved = moves_on (flat c s) (flat walk.now s) (flat (after walk.now g) s) ms ns walk.moved (moves walk.now walk.sound walk.same can.0);
          left = one_made c all walk.now i walk.left g more at;
          of_rows = both_of_rows.1;
          sound = sound_after walk.now g walk.sound can.1 can.0;
          same = λ db rel. headers_left walk.now g both_of_rows.0 db rel ∙ walk.same db rel;
        }

  pub walked : length all ≤ i → MovesBetween c (after_all c all) s ms
  walked done = subst (λ (k : CatalogueValue). MovesBetween c k s ms) (all_made c all walk.now i walk.left done) walk.moved
