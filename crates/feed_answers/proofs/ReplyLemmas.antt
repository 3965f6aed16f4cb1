-- A fresh change is answered by its reply.
use Rattle.std.proofs.Common.{◌≡◌, ◌∷◌, ◌∙◌, [], List, Option, None, Some, Ok, Err, refl, sym, ap}
use Rattle.std.specs.Prelude.{is_some, unwrap_or, if◌then◌else◌}
use Rattle.schema_model.specs.Changes.{after, after_all}
use Rattle.schema_model.specs.Refusals.{fault}
use Rattle.schema_model.specs.declared.change.Change.{Change}
use Rattle.schema_model.specs.declared.refusal.Refusal.{Refusal}
use Rattle.flow_law.specs.Facts.{illegal, conflict, first_refusal, refusal_by}
use Rattle.flow_law.specs.Script.{script}
use Rattle.flow_law.specs.Tables.{TablesValue}
use Rattle.flow_law.specs.declared.refused.IllegalLabel.{IllegalLabel}
use Rattle.flow_law.specs.declared.refused.Clash.{Clash}
use Rattle.view_meaning.specs.Meaning.{facts, meaning, shape_of}
use Rattle.apply_law.specs.Standing.{Idle}
use Rattle.apply_law.specs.Verdicts.{Makes, IsIllegal, Clashes, tables_in}
use Rattle.view_session.specs.Session.{SessionState, working}
use Rattle.view_session.specs.Verdicts.{standing_of, verdict_of, waiting_of, waiting_by}
use Rattle.ss_print.specs.Fields.{illegal_fields, clash_fields}
use Rattle.ss_print.specs.Printing.{prints_script}
use Rattle.view_stages.specs.Open.{OpenValue}
use Rattle.view_stages.specs.Stages.{refusal_of}
use Rattle.opened_view.specs.Answers.{Answer, Scripts, by_fault, by_view, changing, keeping, refusing}
use Rattle.feed_core.specs.Replies.{ReplyValue, reply_to, by_verdict}
use Rattle.feed_core.specs.Replies as reply
use Rattle.feed_answers.specs.Fields.{reply_refused_fields}

-- an idle session has no group, and nothing is proposed
idle_parts : (held proposed : Option (List Change)) → waiting_by held proposed ≡ Idle → (held ≡ None) × (proposed ≡ None)
idle_parts None None e = (refl, refl)
idle_parts None (Some gs) e = absurd (cc e)
idle_parts (Some hs) proposed e = absurd (cc e)

pub no_group : (s : SessionState) → waiting_of s ≡ Idle → s.held ≡ None
no_group s idle = (idle_parts s.held s.proposed idle).0

pub is_idle : (s : SessionState) → s.held ≡ None → s.proposed ≡ None → waiting_of s ≡ Idle
is_idle s alone idle = ap (λ (h : Option (List Change)). waiting_by h s.proposed) alone ∙ ap (λ (p : Option (List Change)). waiting_by None p) idle

pub none_proposed : (s : SessionState) → waiting_of s ≡ Idle → s.proposed ≡ None
none_proposed s idle = (idle_parts s.held s.proposed idle).1

-- the tables of a verdict that makes some are the meaning
made_tables : (new ts : TablesValue) (i : Option IllegalLabel) (k : Option Clash) → unwrap_or (first_refusal IsIllegal Clashes i k) (Makes new) ≡ Makes ts → ts ≡ new
made_tables new ts None None e = sym (ap tables_in e)
made_tables new ts (Some label) k e = absurd (cc e)
made_tables new ts None (Some clash) e = absurd (cc e)

pub tables_are : (s : SessionState) (ts : TablesValue) → verdict_of s.query s.catalogue ≡ Makes ts → ts ≡ meaning s.catalogue s.query
unfolding refusal_by
tables_are s ts e = made_tables (meaning s.catalogue s.query) ts (illegal (shape_of s.query) (facts s.catalogue s.query)) (conflict (facts s.catalogue s.query)) e

-- the answer by a reply
abbrev pub replied : OpenValue → Change → ReplyValue → Answer
replied o g (Ok lines) = record (changing o g) { said = Scripts lines; effects = prints_script lines ∷ [] }
replied o g (Err e) = refusing o (reply_refused_fields g e)

module _ (o : OpenValue) (g : Change) (old : TablesValue) (is : old ≡ meaning o.session.catalogue o.session.query) where
  by_refusal : (i : Option IllegalLabel) (k : Option Clash)
      → by_view o g (first_refusal illegal_fields clash_fields i k) ≡ replied o g (by_verdict old (unwrap_or (first_refusal IsIllegal Clashes i k) (Makes (meaning (after o.session.catalogue g) o.session.query))))
  by_refusal None None = ap (λ (ts : TablesValue). replied o g (Ok (script ts (meaning (after o.session.catalogue g) o.session.query)))) (sym is)
  by_refusal (Some label) k = refl
  by_refusal None (Some clash) = refl

  judged : by_view o g (refusal_of (after o.session.catalogue g) o.session.query) ≡ replied o g (by_verdict old (verdict_of o.session.query (after o.session.catalogue g)))
  unfolding refusal_of refusal_by
  judged = by_refusal (illegal (shape_of o.session.query) (facts (after o.session.catalogue g) o.session.query)) (conflict (facts (after o.session.catalogue g) o.session.query))

  by_first : (r : Option Refusal) → o.session.held ≡ None → by_fault o g r ≡ replied o g (reply.by_fault r (by_verdict old (verdict_of o.session.query (after o.session.catalogue g))))
  by_first (Some r) none = refl
  by_first None none = ap (λ (h : Option (List Change)). if is_some h then keeping o g else by_view o g (refusal_of (after o.session.catalogue g) o.session.query)) none ∙ judged

-- a change is answered by its reply, where no group is open and the view is not refused
pub fresh_is : (o : OpenValue) (g : Change) → o.session.held ≡ None → verdict_of o.session.query o.session.catalogue ≡ Makes (tables_in (verdict_of o.session.query o.session.catalogue))
    → by_fault o g (fault (working o.session) g) ≡ replied o g (reply_to (standing_of o.session) g)
fresh_is o g none made =
    ap (λ (h : Option (List Change)). by_fault o g (fault (after_all o.session.catalogue (unwrap_or h [])) g)) none
    ∙ by_first o g (tables_in (verdict_of o.session.query o.session.catalogue)) (tables_are o.session (tables_in (verdict_of o.session.query o.session.catalogue)) made) (fault o.session.catalogue g) none
