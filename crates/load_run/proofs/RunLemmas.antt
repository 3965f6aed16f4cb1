-- How a run goes on.
use Rattle.std.proofs.Common.{◌≡◌, ◌≢◌, ℕ, zero, suc, ◌+◌, Bool, true, false, ◌||◌, cond, length, Option, None, Some, refl, ap, subst, arith}
use Rattle.std.specs.Prelude.{is_some}
use Rattle.schema_model.specs.declared.change.Change.{Change}
use Rattle.schema_model.specs.declared.refusal.Refusal.{Refusal}
use Rattle.schema_model.specs.Changes.{after}
use Rattle.schema_model.specs.Refusals.{fault}
use Rattle.view_meaning.specs.Refusal.{refusal}
use Rattle.flow_law.specs.declared.refused.EvalFault.{EvalFault}
use Rattle.flow_law.specs.declared.refused.EvalFault.TheVariants as eval
use Rattle.view_session.specs.Session.{SessionState, moved, lines_to, IsAccepted, IsRefused}
use Rattle.view_session.specs.declared.fault.Refused.{Refused}
use Rattle.view_session.specs.declared.fault.Refused.TheVariants as refused
use Rattle.load_run.specs.Generator.{change_at}
use Rattle.load_run.specs.Runs.{RunState, is_refused, lines_of, session_after, counted, answered, ran}

pub ran_next : (seed n : ℕ) → ran seed (n + 1) ≡ answered (ran seed n) (change_at seed n)
ran_next seed n = subst (λ m. ran seed m ≡ answered (ran seed n) (change_at seed n)) (one_more n) refl
  where
    one_more : (m : ℕ) → suc m ≡ m + 1
    one_more m = omega arith

-- each change is counted once
counted_once : (r : RunState) (s : SessionState) (o : Option ℕ) (n : ℕ) → r.accepted + r.refused ≡ n → (counted r s o).accepted + (counted r s o).refused ≡ suc n
counted_once r s None n e = omega (arith, e)
counted_once r s (Some k) n e = omega (arith, e)

pub ran_counts : (seed n : ℕ) → (ran seed n).accepted + (ran seed n).refused ≡ n
ran_counts seed zero = refl
ran_counts seed (suc n) =
    let r = ran seed n in
    let g = change_at seed n in
    counted_once r (session_after r.session g) (lines_of r.session g) n (ran_counts seed n)

pub view_kept : (s : SessionState) (g : Change) → (session_after s g).query ≡ s.query
view_kept s g = elim (is_refused s g) as (λ b. (cond b s (moved s g)).query ≡ s.query) [ true ↦ refl | false ↦ refl ]

pub idle_kept : (s : SessionState) (g : Change) → s.held ≡ None → (session_after s g).held ≡ None
idle_kept s g h = elim (is_refused s g) as (λ b. (cond b s (moved s g)).held ≡ None) [ true ↦ h | false ↦ h ]

pub unproposed_kept : (s : SessionState) (g : Change) → s.proposed ≡ None → (session_after s g).proposed ≡ None
unproposed_kept s g h = elim (is_refused s g) as (λ b. (cond b s (moved s g)).proposed ≡ None) [ true ↦ h | false ↦ h ]

-- whether one of two refusals stands
neither : (o : Option Refusal) (p : Option EvalFault) → o ≡ None → p ≡ None → (is_some o || is_some p) ≡ false
neither None None a b = refl
neither (Some x) p a b = absurd (cc)
neither None (Some y) a b = absurd (cc)

first : (o : Option Refusal) (p : Option EvalFault) (x : Refusal) → o ≡ Some x → (is_some o || is_some p) ≡ true
first None p x a = absurd (cc)
first (Some y) p x a = refl

second : (o : Option Refusal) (p : Option EvalFault) (y : EvalFault) → p ≡ Some y → (is_some o || is_some p) ≡ true
second (Some x) p y b = refl
second None None y b = absurd (cc)
second None (Some x) y b = refl

module _ (s : SessionState) (g : Change) where
  abbrev lines : Bool → Option ℕ
  lines b = cond b None (Some (length (lines_to s (after s.catalogue g))))

  abbrev session : Bool → SessionState
  session b = cond b s (moved s g)

  accepted : IsAccepted s g → is_refused s g ≡ false
  accepted h = neither (fault s.catalogue g) (refusal (after s.catalogue g) s.query) h.change h.view

  pub accepted_lines : IsAccepted s g → lines_of s g ≡ lines false
  accepted_lines h = ap lines (accepted h)

  pub accepted_session : IsAccepted s g → session_after s g ≡ moved s g
  accepted_session h = ap session (accepted h)

  refused_so : (e : Refused) → IsRefused s g e → e ≢ refused.NoMemory → is_refused s g ≡ true
  refused_so (refused.Change r) h ne = first (fault s.catalogue g) (refusal (after s.catalogue g) s.query) r h
  refused_so (refused.Illegal l) h ne = second (fault s.catalogue g) (refusal (after s.catalogue g) s.query) (eval.Illegal l) h.1
  refused_so (refused.Conflict k) h ne = second (fault s.catalogue g) (refusal (after s.catalogue g) s.query) (eval.Conflict k) h.1
  refused_so refused.NoMemory h ne = absurd (ne refl)

  pub refused_lines : (e : Refused) → IsRefused s g e → e ≢ refused.NoMemory → lines_of s g ≡ None
  refused_lines e h ne = ap lines (refused_so e h ne)

  pub refused_session : (e : Refused) → IsRefused s g e → e ≢ refused.NoMemory → session_after s g ≡ s
  refused_session e h ne = ap session (refused_so e h ne)
