-- What an answer did and kept, by what became of its changes.
use Rattle.std.proofs.Common.{◌≡◌, ◌≢◌, ◌≤◌, ◌⊎◌, inl, inr, ℕ, Bool, true, List, [], ◌∷◌, Option, None, Some, refl, sym, ap, ◌∙◌, subst, arith}
use Rattle.std.specs.Prelude.{Result, Ok, Err, IfErr, OnOk}
use Rattle.ss_text.specs.Texts.{Row}
use Rattle.tab_lines.specs.Spelling.{unspell}
use Rattle.disk.specs.Disk.{DiskState}
use Rattle.outside.specs.States.{StoreState, SinkState}
use Rattle.outside.specs.Effects.{Effect, World, world_of, contents, performed, Does}
use Rattle.outside.specs.Blame.{Blames, SinkBlames}
use Rattle.outside.specs.declared.stop.Stop.{Stop}
use Rattle.outside.specs.declared.stop.Stop.TheVariants as stop
use Rattle.outside.proofs.BlameLemmas.{steady_none, steady_sheet, sheet_blamed, sink_no_read}
use Rattle.outside.proofs.EffectLemmas.{nothing_yet}
use Rattle.course.specs.declared.status.Verdict.{Verdict}
use Rattle.course.specs.declared.status.Verdict.TheVariants as verdict
use Rattle.course.specs.declared.status.LineStop.{LineStop}
use Rattle.course.specs.declared.status.LineStop.TheVariants as line_stop
use Rattle.course.specs.Answering.{Reply, Continues, Finishes, Answered}
use Rattle.course.specs.Keeping.{Entry, Log, LeavesNow, LineBlamesDisk}
use Rattle.change_journal.specs.Spelled.{Group}
use Rattle.change_journal.specs.Lines.{lines_in}
use Rattle.change_journal.specs.States.{JournalState}
use Rattle.flow_law.specs.declared.line.TableLine.{TableLine}
use Rattle.journal_log.specs.Logs.{log_of, IsReady, KeepsFirst}
use Rattle.journal_log.specs.Room.{lacks_room, appended_to}
use Rattle.journal_log.proofs.LogLemmas.{none_first, lacked_first, kept_then, not_kept}
use Rattle.ss_print.specs.Printing.{prints_script}
use Rattle.view_stages.specs.Open.{OpenValue}
use Rattle.opened_view.specs.Answers.{Answer, by_spelling, syncing_view}
use Rattle.opened_view.specs.Limits.{IsWithin}
use Rattle.journal_answers.specs.declared.view.JournalView.{JournalView}
use Rattle.journal_answers.specs.Answers.{answer, asked_of, by_room, made, made_by, replying}
use Rattle.journal_answers.specs.Steps.{Acts, TakesScript, TakesNone, said}

-- a call on the output, as one on the outside
pub sink_blames : {A : Type 0} (s : StoreState) (old new : SinkState) (r : Result A Stop) → SinkBlames old new r → Blames (world_of s old) (world_of s new) r
sink_blames s old new (Ok a) b = record { steady = steady_sheet (world_of s old) s old new (Ok a) (steady_none (world_of s old)) b; because = tt }
sink_blames {A = A} s old new (Err e) b = sheet_blamed A A (world_of s old) s old new e (steady_none (world_of s old)) b

pub sink_unread : {A : Type 0} (old new : SinkState) (r : Result A Stop) → SinkBlames old new r → IfErr r (λ e. e ≢ stop.ReadFault)
sink_unread old new (Ok a) b = tt
sink_unread old new (Err e) b = sink_no_read old new e b

module _ {D : Type 0} (state : D → DiskState) (left_since : D → ℕ → List ℕ → Type 0) (f : JournalView) where
  abbrev log : Log D
  log = log_of state left_since

  -- what is kept of changes
  abbrev notes : Group → List Entry
  notes gs = lines_in (appended_to f.journal.end gs)

  abbrev KeepsSome : {A : Type 0} → Group → D → D → Result A LineStop → Type 0
  KeepsSome gs d e r = (es : List Entry) → LeavesNow log es d → KeepsFirst log es (notes gs) d e r

  both : (n : JournalView) (v : OpenValue) (j : JournalState) → n.view ≡ v → n.journal ≡ j → n ≡ record { view = v; journal = j }
  both n v j e g = ap (λ (x : OpenValue). record { view = x; journal = n.journal }) e ∙ ap (λ (y : JournalState). record { view = v; journal = y }) g

  -- a call did what an answer does that makes no change
  quiet : {A : Type 0} (a : Answer) (d : D) (w v : World) (n : JournalView) (r : Result A Stop)
      → IsReady f.journal (state d) → Does a.effects w v r → OnOk r (n.view ≡ a.view) → n.journal ≡ f.journal → IfErr r (λ e. e ≢ stop.ReadFault) → Blames w v r → Acts state left_since f a [] d d w v n (said r)
  quiet a d w v n (Ok x) ready does view same unread blames = record {
    answered = (does, both n a.view f.journal view same);
    keeps = λ es leaves. kept_then log es [] d d w v x (Ok None) (none_first log es [] d x refl leaves);
    ready = λ e. subst (λ (j : JournalState). IsReady j (state d)) (sym same) ready;
    disk = record { later = omega arith; because = tt };
    no_read = tt;
    blames = record { steady = blames.steady; because = tt };
  }
  quiet a d w v n (Err e) ready does view same unread blames = record {
    answered = does;
    keeps = λ es leaves. kept_then log es [] d d w v e (Err (line_stop.Stopped e)) (none_first log es [] d e refl leaves);
    ready = λ is. absurd (cc);
    disk = record { later = omega arith; because = tt };
    no_read = λ is. unread (cc);
    blames = record { steady = blames.steady; because = blames.because };
  }

  pub quietly : {A : Type 0} (a : Answer) (gs : Group) (d : D) (w v : World) (n : JournalView) (r : Result A Stop) (out : Result (Option Verdict) LineStop) → out ≡ said r
      → gs ≡ [] → IsReady f.journal (state d) → Does a.effects w v r → OnOk r (n.view ≡ a.view) → n.journal ≡ f.journal → IfErr r (λ e. e ≢ stop.ReadFault) → Blames w v r → Acts state left_since f a gs d d w v n out
  quietly a gs d w v n r out is none ready does view same unread blames =
      subst (λ (x : Group). Acts state left_since f a x d d w v n out) (sym none)
      (subst (λ (x : Result (Option Verdict) LineStop). Acts state left_since f a [] d d w v n x) (sym is) (quiet a d w v n r ready does view same unread blames))

  -- memory lacked before all else
  pub lacked : (a : Answer) (gs : Group) (d : D) (w : World) (n : JournalView) → Acts state left_since f a gs d d w w n (Err (line_stop.Stopped stop.NoMemory))
  lacked a gs d w n = record {
    answered = stopped_same (replying f a gs) w n stop.NoMemory;
    keeps = λ es leaves. not_kept log es (notes gs) d d w w (line_stop.Stopped stop.NoMemory) (line_stop.Stopped stop.NoMemory) (lacked_first log es {A = Stop} (notes gs) d (line_stop.Stopped stop.NoMemory) leaves) refl;
    ready = λ is. absurd (cc);
    disk = record { later = omega arith; because = tt };
    no_read = λ is. absurd (cc);
    blames = record { steady = steady_none w; because = tt };
  }
    where
      stopped_same : (r : Reply JournalView) (w : World) (n : JournalView) (e : Stop) → Answered r w w n (Err (line_stop.Stopped e))
      stopped_same (Continues es b) w n e = nothing_yet es (contents w) (contents w) refl
      stopped_same (Finishes es v) w n e = nothing_yet es (contents w) (contents w) refl

  -- changes were kept and made, and then their script was printed, or printing stopped
  module _ (a : Answer) (gs : Group) (d e : D) (w v : World) where
    abbrev ActsAs : JournalView → Result (Option Verdict) LineStop → Type 0
    ActsAs n r = Acts state left_since f a gs d e w v n r

    printed : {A B : Type 0} (lines : List TableLine) (m n : JournalView) (x : B) (r : Result A Stop)
        → TakesScript f a gs m lines → KeepsSome gs d e (Ok x) → IsReady m.journal (state e) → (state d).faults ≤ (state e).faults
        → Does (prints_script lines ∷ []) w v r → n ≡ m → IfErr r (λ y. y ≢ stop.ReadFault) → Blames w v r → ActsAs n (said r)
    printed lines m n x (Ok y) took keeps ready later does same unread blames = record {
      answered = subst (λ (b : Bool). Answered (by_room f a gs b) w v n (Ok None)) (sym took.room) (subst (λ (es : List Effect). contents v ≡ performed es (contents w)) (sym took.prints) does, same ∙ took.took);
      keeps = λ es leaves. kept_then log es (notes gs) d e w v x (Ok None) (keeps es leaves);
      ready = λ is. subst (λ (k : JournalView). IsReady k.journal (state e)) (sym same) ready;
      disk = record { later = later; because = tt };
      no_read = tt;
      blames = record { steady = blames.steady; because = tt };
    }
    printed {A = A} lines m n x (Err y) took keeps ready later does same unread blames = record {
      answered = subst (λ (b : Bool). Answered (by_room f a gs b) w v n (Err (line_stop.Stopped y))) (sym took.room) (subst (λ (es : List Effect). Does {A = A} es w v (Err y)) (sym took.prints) does);
      keeps = λ es leaves. kept_then log es (notes gs) d e w v x (Err (line_stop.Stopped y)) (keeps es leaves);
      ready = λ is. absurd (cc);
      disk = record { later = later; because = tt };
      no_read = λ is. unread (cc);
      blames = record { steady = blames.steady; because = blames.because };
    }

    pub scripted : {A B : Type 0} (lines : List TableLine) (m n : JournalView) (x : B) (r : Result A Stop) (out : Result (Option Verdict) LineStop) → out ≡ said r
        → TakesScript f a gs m lines → KeepsSome gs d e (Ok x) → IsReady m.journal (state e) → (state d).faults ≤ (state e).faults
        → Does (prints_script lines ∷ []) w v r → n ≡ m → IfErr r (λ y. y ≢ stop.ReadFault) → Blames w v r → ActsAs n out
    scripted lines m n x r out is took keeps ready later does same unread blames = subst (ActsAs n) (sym is) (printed lines m n x r took keeps ready later does same unread blames)

  -- changes were refused, and then that was printed, or printing stopped
  told : {A B : Type 0} (a b : Answer) (gs : Group) (left : OpenValue) (behind : OpenValue → OpenValue) (d e : D) (w v : World) (m n : JournalView) (x : B) (r : Result A Stop)
      → TakesNone f a gs m b left → KeepsSome gs d e (Ok x) → IsReady m.journal (state e) → (state d).faults ≤ (state e).faults
      → Does b.effects w v r → OnOk r (n.view ≡ behind m.view) → behind left ≡ b.view → n.journal ≡ m.journal → IfErr r (λ y. y ≢ stop.ReadFault) → Blames w v r → Acts state left_since f a gs d e w v n (said r)
  told a b gs left behind d e w v m n x (Ok y) took keeps ready later does view ends same unread blames = record {
    answered = subst (λ (hs : Group). Answered (replying f a hs) w v n (Ok None)) (sym took.none)
        (subst (λ (c : Answer). Answered (replying f c []) w v n (Ok None)) (sym took.refuses) (does, both n b.view f.journal (view ∙ ap (λ (k : JournalView). behind k.view) took.stays ∙ ends) (same ∙ ap (λ (k : JournalView). k.journal) took.stays)));
    keeps = λ es leaves. kept_then log es (notes gs) d e w v x (Ok None) (keeps es leaves);
    ready = λ is. subst (λ (j : JournalState). IsReady j (state e)) (sym same) ready;
    disk = record { later = later; because = tt };
    no_read = tt;
    blames = record { steady = blames.steady; because = tt };
  }
  told a b gs left behind d e w v m n x (Err y) took keeps ready later does view ends same unread blames = record {
    answered = subst (λ (hs : Group). Answered (replying f a hs) w v n (Err (line_stop.Stopped y))) (sym took.none)
        (subst (λ (c : Answer). Answered (replying f c []) w v n (Err (line_stop.Stopped y))) (sym took.refuses) does);
    keeps = λ es leaves. kept_then log es (notes gs) d e w v x (Err (line_stop.Stopped y)) (keeps es leaves);
    ready = λ is. absurd (cc);
    disk = record { later = later; because = tt };
    no_read = λ is. unread (cc);
    blames = record { steady = blames.steady; because = blames.because };
  }

  pub refused : {A B : Type 0} (a b : Answer) (gs : Group) (left : OpenValue) (behind : OpenValue → OpenValue) (d e : D) (w v : World) (m n : JournalView) (x : B) (r : Result A Stop) (out : Result (Option Verdict) LineStop) → out ≡ said r
      → TakesNone f a gs m b left → KeepsSome gs d e (Ok x) → IsReady m.journal (state e) → (state d).faults ≤ (state e).faults
      → Does b.effects w v r → OnOk r (n.view ≡ behind m.view) → behind left ≡ b.view → n.journal ≡ m.journal → IfErr r (λ y. y ≢ stop.ReadFault) → Blames w v r → Acts state left_since f a gs d e w v n out
  refused a b gs left behind d e w v m n x r out is took keeps ready later does view ends same unread blames =
      subst (λ (y : Result (Option Verdict) LineStop). Acts state left_since f a gs d e w v n y) (sym is) (told a b gs left behind d e w v m n x r took keeps ready later does view ends same unread blames)

  -- the journal has no room for changes
  pub full : {B : Type 0} (a : Answer) (gs : Group) (d e : D) (w : World) (n : JournalView) (x : B) → lacks_room f.journal.end gs ≡ true → KeepsSome gs d e (Ok x) → (state d).faults ≤ (state e).faults
      → Acts state left_since f a gs d e w w n (Ok (Some verdict.JournalFull))
  full a gs d e w n x lacks keeps later = record {
    answered = subst (λ (b : Bool). Answered (by_room f a gs b) w w n (Ok (Some verdict.JournalFull))) (sym lacks) (refl, refl);
    keeps = λ es leaves. kept_then log es (notes gs) d e w w x (Ok (Some verdict.JournalFull)) (keeps es leaves);
    ready = λ is. absurd (cc);
    disk = record { later = later; because = tt };
    no_read = tt;
    blames = record { steady = steady_none w; because = tt };
  }

  -- the disk failed, or memory lacked
  module _ {B : Type 0} (a : Answer) (gs : Group) (d e : D) (w : World) (n : JournalView) where
    held_up : KeepsSome {A = B} gs d e (Err line_stop.DiskFault) → LineBlamesDisk {A = B} (state d).faults (state e).faults (Err line_stop.DiskFault) → Acts state left_since f a gs d e w w n (Err line_stop.DiskFault)
    held_up keeps blamed = record {
      answered = by_reply (replying f a gs);
      keeps = λ es leaves. not_kept log es (notes gs) d e w w line_stop.DiskFault line_stop.DiskFault (keeps es leaves) refl;
      ready = λ is. absurd (cc);
      disk = record { later = blamed.later; because = blamed.because };
      no_read = λ is. absurd (cc);
      blames = record { steady = steady_none w; because = tt };
    }
      where
        by_reply : (r : Reply JournalView) → Answered r w w n (Err line_stop.DiskFault)
        by_reply (Continues es b) = refl
        by_reply (Finishes es v) = refl

    lacked_memory : KeepsSome {A = B} gs d e (Err (line_stop.Stopped stop.NoMemory)) → LineBlamesDisk {A = B} (state d).faults (state e).faults (Err (line_stop.Stopped stop.NoMemory))
        → Acts state left_since f a gs d e w w n (Err (line_stop.Stopped stop.NoMemory))
    lacked_memory keeps blamed = record {
      answered = (lacked a gs d w n).answered;
      keeps = λ es leaves. not_kept log es (notes gs) d e w w (line_stop.Stopped stop.NoMemory) (line_stop.Stopped stop.NoMemory) (keeps es leaves) refl;
      ready = λ is. absurd (cc);
      disk = record { later = blamed.later; because = tt };
      no_read = λ is. absurd (cc);
      blames = record { steady = steady_none w; because = tt };
    }

    pub stopped : (x : LineStop) → (x ≡ line_stop.DiskFault) ⊎ (x ≡ line_stop.Stopped stop.NoMemory) → KeepsSome {A = B} gs d e (Err x) → LineBlamesDisk {A = B} (state d).faults (state e).faults (Err x) → Acts state left_since f a gs d e w w n (Err x)
    stopped x only keeps blamed = elim only [
      | inl is ↦ subst (λ (y : LineStop). Acts state left_since f a gs d e w w n (Err y)) (sym is)
          (held_up (subst (λ (y : LineStop). KeepsSome {A = B} gs d e (Err y)) is keeps) (subst (λ (y : LineStop). LineBlamesDisk {A = B} (state d).faults (state e).faults (Err y)) is blamed))
      | inr is ↦ subst (λ (y : LineStop). Acts state left_since f a gs d e w w n (Err y)) (sym is)
          (lacked_memory (subst (λ (y : LineStop). KeepsSome {A = B} gs d e (Err y)) is keeps) (subst (λ (y : LineStop). LineBlamesDisk {A = B} (state d).faults (state e).faults (Err y)) is blamed))
    ]

  -- the same of an answer by another name
  pub acts_as : (a b : Answer) (gs hs : Group) (d e : D) (w v : World) (n : JournalView) (r : Result (Option Verdict) LineStop) → a ≡ b → gs ≡ hs → Acts state left_since f b (made_by b.said hs) d e w v n r → Acts state left_since f a (made_by a.said gs) d e w v n r
  acts_as a b gs hs d e w v n r same asked h =
      subst (λ (x : Answer). Acts state left_since f x (made_by x.said gs) d e w v n r) (sym same) (subst (λ (xs : Group). Acts state left_since f b (made_by b.said xs) d e w v n r) (sym asked) h)

  -- the answer to a line, whose row was read or which spells none
  pub line_acts : (line : List ℕ) (x : Result Row ℕ) (d e : D) (w v : World) (n : JournalView) (r : Result (Option Verdict) LineStop) → unspell line ≡ x
      → Acts state left_since f (by_spelling syncing_view f.view x) (made_by (by_spelling syncing_view f.view x).said (asked_of f.view x)) d e w v n r → Acts state left_since f (answer f.view line) (made f.view line) d e w v n r
  line_acts line x d e w v n r is h = subst (λ (y : Result Row ℕ). Acts state left_since f (by_spelling syncing_view f.view y) (made_by (by_spelling syncing_view f.view y).said (asked_of f.view y)) d e w v n r) (sym is) h

-- the same of a bound by another name
pub within_as : (m k : Option ℕ) (i j : ℕ) → m ≡ k → IsWithin k i j → IsWithin m i j
within_as m k i j same h = λ n bound. h n (sym same ∙ bound)

pub unbounded : (m : Option ℕ) (i j : ℕ) → m ≡ None → IsWithin m i j
unbounded m i j none = λ n bound. absurd (cc (sym none ∙ bound))
