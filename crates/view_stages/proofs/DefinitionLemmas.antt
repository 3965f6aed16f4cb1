-- What a definition is read as, once.
use Rattle.std.proofs.Common.{◌≡◌, ◌≢◌, inl, inr, ℕ, List, [], ◌∷◌, Option, None, Some, codes, refl, sym, ap, ◌∙◌}
use Rattle.std.specs.Prelude.{Ok, Err}
use Rattle.ss_text.specs.Texts.{Text}
use Rattle.view_def.specs.Query.{Query}
use Rattle.view_def.specs.Tree as tree
use Rattle.ss_parser.specs.Refused as grammar
use Rattle.ss_parser.specs.Refused.{HasReading}
use Rattle.ss_parser.proofs.EveryText.{every_text}
use Rattle.ss_parser.specs.declared.fault.ParseFault.{ParseFault}
use Rattle.ss_parser.specs.declared.fault.ParseFault.TheVariants as parse
use Rattle.ss_parser.proofs.Refusals.{one_refusal, read_not_refused}
use Rattle.var_typing.specs.Typed.{typed}
use Rattle.var_typing.specs.declared.fault.TypeFault.{TypeFault}
use Rattle.ss_print.specs.Fields.{parse_fields, type_fields}
use Rattle.view_stages.specs.Opening.{IsDefinition}
use Rattle.view_stages.specs.Stages.{DefinitionOrRefusal, ReadsAs, typed_or_refused}

pub has_type : (v : tree.ViewTree) (q : Query) → typed v ≡ Ok q → (let d : DefinitionOrRefusal = Ok (record { written = v; query = q }) in d ≡ typed_or_refused v)
unfolding typed_or_refused
has_type v q e = rw e refl

pub has_no_type : (v : tree.ViewTree) (f : TypeFault) → typed v ≡ Err f → (let d : DefinitionOrRefusal = Err (type_fields f) in d ≡ typed_or_refused v)
unfolding typed_or_refused
has_no_type v f e = rw e refl

-- bytes that are a view text are read as its tree is typed
pub read_as : (bytes : List ℕ) (v : tree.ViewTree) (r d : DefinitionOrRefusal) → grammar.IsRead bytes v → ((t : tree.ViewTree) → grammar.IsRead bytes t → v ≡ t) → r ≡ typed_or_refused v → ReadsAs bytes d → r ≡ d
unfolding ReadsAs
read_as bytes v r d read one is (inl (t, also, e)) = is ∙ ap typed_or_refused (one t also) ∙ sym e
read_as bytes v r d read one is (inr (f, some, refused, e)) = absurd (read_not_refused bytes v f some read refused)

-- bytes that are none are read as their refusal
pub refused_as : (bytes : List ℕ) (f : ParseFault) (d : DefinitionOrRefusal) → f ≢ parse.NoMemory → grammar.IsRefused bytes f → ((t : tree.ViewTree) → grammar.IsRead bytes t → f ≡ parse.NoMemory) → ReadsAs bytes d → Err (parse_fields f) ≡ d
unfolding ReadsAs
refused_as bytes f d some refused none (inl (t, read, e)) = absurd (some (none t read))
refused_as bytes f d some refused none (inr (g, also, h, e)) = ap (λ x. Err (parse_fields x)) (one_refusal bytes f g some also refused h) ∙ sym e

-- every text is read as something, so that each name has its definition over each tree
reading : (bytes : List ℕ) → HasReading bytes → (d : DefinitionOrRefusal) × ReadsAs bytes d
unfolding ReadsAs
reading bytes (inl (v, read)) = (typed_or_refused v, inl (v, read, refl))
reading bytes (inr (f, some, refused)) = (Err (parse_fields f), inr (f, some, refused, refl))

pub some_definition : (name : Text) (o : Option (List ℕ)) → (d : DefinitionOrRefusal) × IsDefinition name o d
some_definition name None = (Err (codes "no-definition" ∷ name ∷ []), refl)
some_definition name (Some bytes) = reading bytes (every_text bytes)
