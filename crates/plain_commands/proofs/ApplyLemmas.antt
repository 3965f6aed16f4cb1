-- From the opening of a view's folder and the lines behind it to a run of `apply`.
use Rattle.std.proofs.Common.{◌≡◌, ◌≢◌, ℕ, true, false, List, [], Option, Some, refl, sym, ap, ◌∙◌, subst, inl, inr}
use Rattle.std.specs.Prelude.{Bool, Result, Ok, Err, IfOk, IfErr, IsErrOf}
use Rattle.outside.specs.States.{StoreState, SinkState}
use Rattle.outside.specs.Reading.{OnlyRead}
use Rattle.outside.specs.Effects.{World, world_of, contents, Partly}
use Rattle.outside.specs.declared.stop.Stop.{Stop}
use Rattle.outside.specs.declared.stop.Stop.TheVariants as stop
use Rattle.outside.proofs.EffectLemmas.{partly_more}
use Rattle.tab_lines.specs.Lines.{lines_of}
use Rattle.course.specs.declared.status.Verdict.{Verdict}
use Rattle.course.specs.declared.status.Verdict.TheVariants as verdict
use Rattle.course.specs.declared.status.Halt.{Halt}
use Rattle.course.specs.declared.status.Halt.TheVariants as halt
use Rattle.course.specs.Answering.{Reply, Continues, Finishes, ending, follow, course, Ran, AnsweredSome, EndedOver, IsReadOut, is_too_long}
use Rattle.course.specs.Answering as lines
use Rattle.plain_commands.specs.declared.opening.OpenedFolder.TheVariants as read
use Rattle.plain_commands.specs.Applying.{ApplyState, step, finish}
use Rattle.plain_commands.specs.Opening.{Opens}
use Rattle.plain_commands.proofs.CourseLemmas.{halts_so}
use Rattle.course.specs.Statuses.{can_apply}
use Rattle.course.specs.Idle.{IdleStop}
use Rattle.course.specs.Course.{RanBy, RanSome, Took, TookEnough, by_lines, verdict_status, status_of, is_done, IsReadWhole, IsWholeInput}
use Rattle.course.proofs.DriveLemmas.{went_on, ended_later, took_behind, enough_behind}
use Rattle.plain_commands.specs.declared.applying.Folder.TheVariants as folder
use Rattle.plain_commands.specs.Steps.{FolderOpens, IsFolderRefusal}

-- a folder was read, was refused, or was not read
pub folder_open : (r : Reply ApplyState) (old new : World) (s : ApplyState) → Opens r old new (Ok (read.Open s)) → FolderOpens r old new (Ok (folder.Open s))
folder_open (Continues es a) old new s h = h
folder_open (Finishes es v) old new s h = absurd h

pub folder_refused : (r : Reply ApplyState) (old new : World) → Opens r old new (Ok read.Refused) → FolderOpens r old new (Ok (folder.Ended verdict.BadCatalogue))
folder_refused (Continues es a) old new h = absurd h
folder_refused (Finishes es v) old new h = (h.0, sym h.1)

pub folder_stopped : (r : Reply ApplyState) (old new : World) (e : Stop) → Opens r old new (Err e) → FolderOpens r old new (Err e)
folder_stopped (Continues es a) old new e h = h
folder_stopped (Finishes es v) old new e h = h

pub nothing_read : (r : Reply ApplyState) (old new : World) (e : Stop) → Partly [] (contents old) (contents new) → FolderOpens r old new (Err e)
nothing_read (Continues es a) old new e h = partly_more [] es (contents old) (contents new) h
nothing_read (Finishes es v) old new e h = partly_more [] es (contents old) (contents new) h

pub idle_unprinted : {A : Type 0} (old new : StoreState) (o p : SinkState) (e : Stop) → OnlyRead old new → (IsErrOf {T = A} (Err e) stop.ReadFault → p ≡ o) → IdleStop e (world_of old o) (world_of new p)
idle_unprinted old new o p stop.ReadFault h same = record { store = h; output = same refl }
idle_unprinted old new o p stop.WriteFault h same = tt
idle_unprinted old new o p stop.NoMemory h same = tt

-- an opening that ended the run, and one that stopped
pub opening_ended : (r : Reply ApplyState) (bytes : List ℕ) (rest : Option (List ℕ)) (old new : World) (v : Verdict) → FolderOpens r old new (Ok (folder.Ended v)) → RanBy (by_lines step finish r) bytes rest old new (Ok v)
opening_ended (Finishes es w) bytes rest old new v h = h
opening_ended (Continues es s) bytes rest old new v h = absurd h

pub opening_stopped : (r : Reply ApplyState) (bytes : List ℕ) (rest : Option (List ℕ)) (old new : World) (e : Stop) → FolderOpens r old new (Err e) → RanBy (by_lines step finish r) bytes rest old new (Err (halt.Stopped e))
opening_stopped (Finishes es w) bytes rest old new e h = h
opening_stopped (Continues es s) bytes rest old new e h = partly_more es (course step finish s (lines_of bytes)).effects (contents old) (contents new) h

-- lines were applied to the tables of a folder
pub opening_drove : (r : Reply ApplyState) (s : ApplyState) (bytes : List ℕ) (rest : Option (List ℕ)) (old mid new : World) (x : Result Verdict Halt) → FolderOpens r old mid (Ok (folder.Open s)) → Ran step finish s bytes rest mid new x → RanBy (by_lines step finish r) bytes rest old new x
opening_drove (Finishes es w) s bytes rest old mid new x h ran = absurd h
opening_drove (Continues es p) s bytes rest old mid new x h ran = went_on step finish es p bytes rest old mid new x h.0 (subst (λ (y : ApplyState). Ran step finish y bytes rest mid new x) h.1 ran)

-- a run that was done read its whole input, since no line halted it
not_bad : (v : Verdict) → v ≡ verdict.BadCatalogue → is_done v ≡ true → ⊥
not_bad v e done = cc (e, done)

pub drove_whole : (s : ApplyState) (bytes : List ℕ) (before rest last : Option (List ℕ)) (old new : World) (r : Result Verdict Halt) → IfOk r (λ _. (bs : List ℕ) → before ≡ Some bs → IsReadOut step s bs rest last)
    → Ran step finish s bytes rest old new r → before ≡ Some bytes → IsWholeInput bytes rest r
drove_whole s bytes before rest last old new (Ok v) h ran e = λ done. by_reply (follow step (lines_of bytes) (Continues [] s)) refl ran.1 done
  where
    by_reply : (r : Reply ApplyState) → follow step (lines_of bytes) (Continues [] s) ≡ r → v ≡ (ending finish r).status → is_done v ≡ true → IsReadWhole bytes rest
    by_reply (Continues es a) f is done = (h bytes e).read es a f
    by_reply (Finishes es w) f is done = absurd (not_bad v (is ∙ (halts_so (lines_of bytes) s es w f).0) done)
drove_whole s bytes before rest last old new (Err x) h ran e = tt

pub ended_whole : (bytes : List ℕ) (rest : Option (List ℕ)) (v : Verdict) → IsFolderRefusal (folder.Ended v) → IsWholeInput bytes rest (Ok v)
ended_whole bytes rest v (inl e) = λ done. cc (e, done)
ended_whole bytes rest v (inr e) = λ done. cc (e, done)

-- what was taken of the input where the run ended
pub ended_enough : (r : Reply ApplyState) (bytes : List ℕ) (rest last : Option (List ℕ)) (old new : World) (v : Verdict) → FolderOpens r old new (Ok (folder.Ended v)) → TookEnough (by_lines step finish r) bytes rest last
ended_enough (Finishes es w) bytes rest last old new v h reads = absurd (cc)
ended_enough (Continues es s) bytes rest last old new v h reads = absurd h

drove_enough : (r : Reply ApplyState) (s : ApplyState) (bytes : List ℕ) (rest last : Option (List ℕ)) (old mid : World) → FolderOpens r old mid (Ok (folder.Open s)) → IsReadOut step s bytes rest last → TookEnough (by_lines step finish r) bytes rest last
drove_enough (Finishes es w) s bytes rest last old mid h read = absurd h
drove_enough (Continues es p) s bytes rest last old mid h read = enough_behind step finish es p bytes rest last (subst (λ (y : ApplyState). IsReadOut step y bytes rest last) h.1 read)

pub enough_applying : (r : Reply ApplyState) (s : ApplyState) (bytes : List ℕ) (before rest last : Option (List ℕ)) (old mid : World) (x : Result Verdict Halt) → FolderOpens r old mid (Ok (folder.Open s)) → before ≡ Some bytes
    → IfOk x (λ _. (bs : List ℕ) → before ≡ Some bs → IsReadOut step s bs rest last) → IfOk x (λ _. TookEnough (by_lines step finish r) bytes rest last)
enough_applying r s bytes before rest last old mid (Ok v) h e read = drove_enough r s bytes rest last old mid h (read bytes e)
enough_applying r s bytes before rest last old mid (Err y) h e read = tt

-- tables that were read are followed by the input
pub open_reads : {A : Type 0} (r : Reply ApplyState) (old mid : World) (s : ApplyState) → FolderOpens r old mid (Ok (folder.Open s)) → (by_lines step finish r).reads ≡ false → A
open_reads (Finishes es w) old mid s h none = absurd h
open_reads (Continues es p) old mid s h none = absurd (cc none)

-- what was done, whatever the input tells
pub some_ended : (r : Reply ApplyState) (old new : World) (v : Verdict) → FolderOpens r old new (Ok (folder.Ended v)) → RanSome (by_lines step finish r) old new (Ok v)
some_ended (Finishes es w) old new v h = record { lines = []; ran = h }
some_ended (Continues es s) old new v h = absurd h

pub some_stopped : (r : Reply ApplyState) (old new : World) (e : Stop) → FolderOpens r old new (Err e) → RanSome (by_lines step finish r) old new (Err (halt.Stopped e))
some_stopped (Finishes es w) old new e h = record { lines = []; ran = h }
some_stopped (Continues es s) old new e h = record { lines = []; ran = partly_more es (course step finish s []).effects (contents old) (contents new) h }

pub some_drove : (r : Reply ApplyState) (s : ApplyState) (old mid new : World) (x : Result Verdict Halt) → FolderOpens r old mid (Ok (folder.Open s)) → AnsweredSome step finish s mid new x → RanSome (by_lines step finish r) old new x
some_drove (Finishes es w) s old mid new x h ran = absurd h
some_drove (Continues es p) s old mid new x h ran = record { lines = ran.lines; ran = ended_later es (course step finish p ran.lines) old mid new x h.0 (subst (λ (y : ApplyState). EndedOver (course step finish y ran.lines) mid new x) h.1 ran.ran) }

-- what was taken of the input where it gave up
took_drove : (r : Reply ApplyState) (s : ApplyState) (bytes : List ℕ) (rest last : Option (List ℕ)) (old mid new : World) (long : Bool) → FolderOpens r old mid (Ok (folder.Open s)) → lines.TookLittle step finish s bytes rest last mid new long → Took (by_lines step finish r) bytes rest last old new long
took_drove (Finishes es w) s bytes rest last old mid new long h took = absurd h
took_drove (Continues es p) s bytes rest last old mid new long h took = took_behind step finish es p bytes rest last old mid new long h.0 (subst (λ (y : ApplyState). lines.TookLittle step finish y bytes rest last mid new long) h.1 took)

pub took_applying : (r : Reply ApplyState) (s : ApplyState) (bytes : List ℕ) (rest last : Option (List ℕ)) (old mid new : World) (x : Result Verdict Halt) → FolderOpens r old mid (Ok (folder.Open s))
    → IfErr x (λ h. lines.TookLittle step finish s bytes rest last mid new (is_too_long h)) → IfErr x (λ h. Took (by_lines step finish r) bytes rest last old new (is_too_long h))
took_applying r s bytes rest last old mid new (Ok v) h took = took
took_applying r s bytes rest last old mid new (Err e) h took = took_drove r s bytes rest last old mid new (is_too_long e) h took

-- the statuses of `apply`
pub refused_can : (v : Verdict) → IsFolderRefusal (folder.Ended v) → can_apply (verdict_status v) ≡ true
refused_can v (inl e) = ap (λ (w : Verdict). can_apply (verdict_status w)) e
refused_can v (inr e) = ap (λ (w : Verdict). can_apply (verdict_status w)) e

pub stopped_can : (e : Stop) → (let r : Result Verdict Halt = Err (halt.Stopped e) in can_apply (status_of r) ≡ true)
stopped_can stop.ReadFault = refl
stopped_can stop.WriteFault = refl
stopped_can stop.NoMemory = refl

course_can : (lines : List (List ℕ)) (s : ApplyState) → can_apply (verdict_status (course step finish s lines).status) ≡ true
course_can lines s = by_reply (follow step lines (Continues [] s)) refl
  where
    by_reply : (r : Reply ApplyState) → follow step lines (Continues [] s) ≡ r → can_apply (verdict_status (ending finish r).status) ≡ true
    by_reply (Continues es a) f = refl
    by_reply (Finishes es w) f = ap (λ (v : Verdict). can_apply (verdict_status v)) (halts_so lines s es w f).0

pub drove_can : (s : ApplyState) (w v : World) (r : Result Verdict Halt) → AnsweredSome step finish s w v r → r ≢ Err halt.DiskFault → can_apply (status_of r) ≡ true
drove_can s w v (Ok x) h never = ap (λ (y : Verdict). can_apply (verdict_status y)) h.ran.1 ∙ course_can h.lines s
drove_can s w v (Err halt.InputFault) h never = refl
drove_can s w v (Err halt.TooLong) h never = refl
drove_can s w v (Err halt.DiskFault) h never = absurd (never refl)
drove_can s w v (Err (halt.Stopped e)) h never = stopped_can e
