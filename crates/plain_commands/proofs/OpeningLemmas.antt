-- From the tables of a folder, or its fault, to what its opening did.
use Rattle.std.proofs.Common.{◌≡◌, ◌≤◌, ℕ, List, [], ◌∷◌, true, Some, arith, refl, sym, ap, ◌∙◌, subst}
use Rattle.std.specs.Prelude.{Result, Ok, Err, IsErrOf}
use Rattle.ss_text.specs.Texts.{Text, Row}
use Rattle.outside.specs.States.{StoreState, SinkState}
use Rattle.outside.specs.Reading.{OnlyRead}
use Rattle.outside.specs.Tree.{Tree}
use Rattle.outside.specs.Effects.{Effect, Contents, world_of, contents, performed, Partly}
use Rattle.outside.specs.declared.stop.Stop.{Stop}
use Rattle.outside.specs.declared.stop.Stop.TheVariants as stop
use Rattle.outside.specs.Blame.{Steady, SinkBlames, Blames}
use Rattle.outside.proofs.EffectLemmas.{only_read_does, unmoved}
use Rattle.outside.proofs.BlameLemmas.{sheet_blamed}
use Rattle.course.specs.Answering.{Reply, Continues, Finishes}
use Rattle.flow_law.specs.declared.shape.Shape.{Shape}
use Rattle.flow_law.specs.Tables.{TablesValue}
use Rattle.view_folder.specs.declared.held.TablesFault.{TablesFault}
use Rattle.view_folder.specs.Files.{view_folder}
use Rattle.view_folder.specs.Held.{held, is_refusal}
use Rattle.ss_print.specs.Printing.{refuses}
use Rattle.plain_commands.specs.Refused.{tables_fields}
use Rattle.plain_commands.specs.declared.opening.OpenedFolder.TheVariants.{Open, Refused}
use Rattle.plain_commands.specs.Applying.{ApplyState, just_read, by_folder, opening}
use Rattle.plain_commands.specs.Opening.{Opens}

-- a folder that was only read is as it was
pub unread : (es : List Effect) (a b : StoreState) (o : SinkState) → OnlyRead a b → Partly es (contents (world_of a o)) (contents (world_of b o))
unread es a b o read = unmoved es a b o read.tree read.writes

stayed : (a b : StoreState) (o : SinkState) → OnlyRead a b → contents (world_of b o) ≡ contents (world_of a o)
stayed a b o read = only_read_does {A = List Effect} a b o (Ok []) read

pub unread_whole : (r : Reply ApplyState) (a b : StoreState) (o : SinkState) (e : Stop) → OnlyRead a b → Opens r (world_of a o) (world_of b o) (Err e)
unread_whole (Continues es s) a b o e read = unread es a b o read
unread_whole (Finishes es v) a b o e read = unread es a b o read

-- a refusal that broke off is the sink's
pub unprinted : {A B : Type 0} (o p : SinkState) (e : Stop) → SinkBlames {A = A} o p (Err e) → IsErrOf {T = B} (Err e) stop.ReadFault → p ≡ o
unprinted o p stop.ReadFault b is = absurd b.because
unprinted o p stop.WriteFault b is = absurd (cc)
unprinted o p stop.NoMemory b is = absurd (cc)

steady_read : (a b : StoreState) (o : SinkState) → OnlyRead a b → Steady (world_of a o) (world_of b o)
steady_read a b o read = record { reads = read.steady; writes = same a.write_faults b.write_faults read.write_faults; prints = same o.faults o.faults refl }
  where
    same : (n m : ℕ) → m ≡ n → n ≤ m
    same n m e = omega (arith, e)

pub stop_blamed : (A B : Type 0) (a b : StoreState) (o p : SinkState) (e : Stop) → OnlyRead a b → SinkBlames {A = A} o p (Err e) → Blames {A = B} (world_of a o) (world_of b p) (Err e)
stop_blamed A B a b o p e read h = sheet_blamed A B (world_of a o) b o p e (steady_read a b o read) h

module _ (view_db : Text) (shape : Shape) (t : Tree) (a b : StoreState) where
  pub opened : (o : SinkState) (ts : TablesValue) (s : ApplyState) → held shape t (view_folder view_db) ≡ Ok ts → s ≡ just_read view_db shape ts → OnlyRead a b → Opens (opening view_db shape t) (world_of a o) (world_of b o) (Ok (Open s))
  opened o ts s is same read = subst (λ (r : Result TablesValue TablesFault). Opens (by_folder view_db shape r) (world_of a o) (world_of b o) (Ok (Open s))) (sym is) (stayed a b o read, same)

  module _ (o p : SinkState) (f : TablesFault) (fields : Row) (some : is_refusal f ≡ true) (holds : is_refusal f ≡ true → (u : Tree) → a.tree ≡ Some u → held shape u (view_folder view_db) ≡ Err f) (told : a.tree ≡ Some t) (are : fields ≡ tables_fields view_db f) (read : OnlyRead a b) where
    pub refused_so : contents (world_of b p) ≡ performed (refuses fields ∷ []) (contents (world_of b o)) → Opens (opening view_db shape t) (world_of a o) (world_of b p) (Ok Refused)
    refused_so does =
        let printed : contents (world_of b p) ≡ performed (refuses (tables_fields view_db f) ∷ []) (contents (world_of a o)) =
        does ∙ ap (λ (row : Row). performed (refuses row ∷ []) (contents (world_of b o))) are ∙ ap (performed (refuses (tables_fields view_db f) ∷ [])) (stayed a b o read) in
        subst (λ (r : Result TablesValue TablesFault). Opens (by_folder view_db shape r) (world_of a o) (world_of b p) (Ok Refused)) (sym (holds some t told)) (printed, refl)

    pub refusal_off : (e : Stop) → Partly (refuses fields ∷ []) (contents (world_of b o)) (contents (world_of b p)) → Opens (opening view_db shape t) (world_of a o) (world_of b p) (Err e)
    refusal_off e off =
        let partly : Partly (refuses (tables_fields view_db f) ∷ []) (contents (world_of a o)) (contents (world_of b p)) =
        subst (λ (c : Contents). Partly (refuses (tables_fields view_db f) ∷ []) c (contents (world_of b p))) (stayed a b o read) (subst (λ (row : Row). Partly (refuses row ∷ []) (contents (world_of b o)) (contents (world_of b p))) are off) in
        subst (λ (r : Result TablesValue TablesFault). Opens (by_folder view_db shape r) (world_of a o) (world_of b p) (Err e)) (sym (holds some t told)) partly
