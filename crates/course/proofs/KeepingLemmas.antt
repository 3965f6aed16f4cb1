-- What a run keeps, line after line.
use Rattle.std.proofs.Common.{◌≡◌, ◌≢◌, ◌≤◌, ◌⊎◌, ℕ, true, false, List, [], ◌∷◌, ◌++◌, Option, None, Some, inl, inr, refl, sym, ap, ◌∙◌, subst, append_assoc, append-nil, arith}
use Rattle.std.specs.Prelude.{Result, Ok, Err}
use Rattle.outside.specs.Counts.{Rose}
use Rattle.outside.specs.Effects.{Effect, World, Contents, contents, performed}
use Rattle.outside.specs.declared.stop.Stop.{Stop}
use Rattle.outside.specs.declared.stop.Stop.TheVariants as stop
use Rattle.outside.proofs.EffectLemmas.{performed_append}
use Rattle.tab_lines.specs.Lines.{has_feed, lines_of, whole_lines}
use Rattle.tab_lines.specs.Taking.{LinesState, ahead, Unfinished, Answers, Reads}
use Rattle.tab_lines.specs.declared.lines.Next.TheVariants.{Line, End}
use Rattle.tab_lines.specs.declared.lines.ReadStop.{ReadStop}
use Rattle.tab_lines.specs.declared.lines.ReadStop.TheVariants as read
use Rattle.tab_lines.proofs.LineLemmas.{whole_first, whole_none}
use Rattle.course.specs.declared.status.Verdict.{Verdict}
use Rattle.course.specs.declared.status.LineStop.{LineStop}
use Rattle.course.specs.declared.status.LineStop.TheVariants as line_stop
use Rattle.course.specs.declared.status.Halt.{Halt}
use Rattle.course.specs.declared.status.Halt.TheVariants as halt
use Rattle.course.specs.Answering.{Reply, Continues, Finishes, prefixed, next_reply, follow, Answered, halt_of, halt_of_line}
use Rattle.course.specs.declared.no_disk.NoDisk.{NoDisk}
use Rattle.course.specs.Keeping.{Entry, Log, no_log, LeavesNow, HasFront, LeavesFrontNow, LeavesFronts, note_of, noted, Keeps, KeptAtEnd, KeptOver, AreFirst, AreTaken, DiskCause, BlamesDisk, LineBlamesDisk}
use Rattle.course.proofs.AnsweringLemmas.{goes, halts, further}
use Rattle.course.proofs.DrivingLemmas.{Answer, step_of}

module _ {A : Type 0} (step : A → List ℕ → Reply A) (note : A → List ℕ → List Entry) where
  pub noted_append : (ls ms : List (List ℕ)) (r : Reply A) → noted step note (ls ++ ms) r ≡ noted step note ls r ++ noted step note ms (follow step ls r)
  noted_append [] ms r = refl
  noted_append (l ∷ ls) ms r = ap (λ (t : List Entry). note_of note l r ++ t) (noted_append ls ms (next_reply step l r)) ∙ sym (append_assoc (note_of note l r) (noted step note ls (next_reply step l r)) (noted step note ms (follow step ls (next_reply step l r))))

  -- nothing is kept behind the end of a run
  pub noted_none : (ls : List (List ℕ)) (es : List Effect) (s : Verdict) → noted step note ls (Finishes es s) ≡ []
  noted_none [] es s = refl
  noted_none (l ∷ ls) es s = noted_none ls es s

  -- one line more
  pub noted_more : (start state : A) (lines : List (List ℕ)) (line : List ℕ) (es : List Effect) → follow step lines (Continues [] start) ≡ Continues es state → noted step note (lines ++ line ∷ []) (Continues [] start) ≡ noted step note lines (Continues [] start) ++ note state line
  noted_more start state lines line es goes_so =
      noted_append lines (line ∷ []) (Continues [] start)
      ∙ ap (λ (r : Reply A). noted step note lines (Continues [] start) ++ noted step note (line ∷ []) r) goes_so
      ∙ ap (λ (t : List Entry). noted step note lines (Continues [] start) ++ t) (append-nil (note state line))

  -- after a line that ends the run nothing more is kept
  pub noted_end : (start state : A) (lines more : List (List ℕ)) (line : List ℕ) (es fs : List Effect) (v : Verdict) → follow step lines (Continues [] start) ≡ Continues es state → step state line ≡ Finishes fs v
      → noted step note (lines ++ line ∷ more) (Continues [] start) ≡ noted step note (lines ++ line ∷ []) (Continues [] start)
  noted_end start state lines more line es fs v goes_so ends =
      noted_append lines (line ∷ more) (Continues [] start)
      ∙ ap (λ (r : Reply A). noted step note lines (Continues [] start) ++ noted step note (line ∷ more) r) goes_so
      ∙ ap (λ (t : List Entry). noted step note lines (Continues [] start) ++ (note state line ++ t)) (ap (λ (r : Reply A). noted step note more (prefixed es r)) ends ∙ noted_none more (es ++ fs) v)
      ∙ ap (λ (t : List Entry). noted step note lines (Continues [] start) ++ t) (append-nil (note state line))
      ∙ sym (noted_more start state lines line es goes_so)

module _ {D : Type 0} (log : Log D) where
  pub front_all : (es more : List Entry) (c : List ℕ) → log.reads c ≡ Some (es ++ more) → HasFront log.reads es more c
  front_all es more c is = record { front = more; rest = []; are = sym (append-nil more); hold = is }

  pub front_none : (es more : List Entry) (c : List ℕ) → log.reads c ≡ Some es → HasFront log.reads es more c
  front_none es more c is = record { front = []; rest = more; are = refl; hold = is ∙ ap Some (sym (append-nil es)) }

  -- a front of some is one of more
  pub front_more : (es ns ms : List Entry) (c : List ℕ) → HasFront log.reads es ns c → HasFront log.reads es (ns ++ ms) c
  front_more es ns ms c h = record { front = h.front; rest = h.rest ++ ms; are = ap (λ (t : List Entry). t ++ ms) h.are ∙ append_assoc h.front h.rest ms; hold = h.hold }

  -- and so is one of those that follow all of them
  pub front_later : (es ns ms : List Entry) (c : List ℕ) → HasFront log.reads (es ++ ns) ms c → HasFront log.reads es (ns ++ ms) c
  front_later es ns ms c h = record { front = ns ++ h.front; rest = h.rest; are = ap (λ (t : List Entry). ns ++ t) h.are ∙ sym (append_assoc ns h.front h.rest); hold = h.hold ∙ ap Some (append_assoc es ns h.front) }

  pub fronts_none : (es : List Entry) (d : D) → LeavesFronts log es [] d d
  fronts_none es d = record { later = omega arith; each = λ t c le since. inl since }

  -- at every moment since old, where a crash at first left just es
  pub at_every_moment : (es more : List Entry) (old new : D) → LeavesFronts log es more old new → LeavesNow log es old → (c : List ℕ) → log.left_since new (log.moment old) c → HasFront log.reads es more c
  at_every_moment es more old new h first c since = elim (h.each (log.moment old) c (omega arith) since) [ inl was ↦ front_none es more c (first c was) | inr front ↦ front ]

  pub fronts_then : (es ns ms : List Entry) (old now new : D) → LeavesFronts log es ns old now → LeavesFronts log (es ++ ns) ms now new → LeavesFronts log es (ns ++ ms) old new
  fronts_then es ns ms old now new a b = record {
    later = omega (arith, a.later, b.later);
    each = λ t c le since. elim (b.each t c (omega (arith, le, a.later)) since) [
      | inl was ↦ elim (a.each t c le was) [ inl first ↦ inl first | inr front ↦ inr (front_more es ns ms c front) ]
      | inr front ↦ inr (front_later es ns ms c front)
    ];
  }

-- where the reader of a told input stands behind some lines
pub record Ahead (bytes : List ℕ) (lines : List (List ℕ)) (reader : LinesState) (left : List ℕ) : Type 0 where
  pub taken : List ℕ
  pub split : bytes ≡ taken ++ left
  pub are : lines_of bytes ≡ lines ++ lines_of (ahead reader left)
  pub whole : reader.ended ≡ false → (more : List ℕ) → whole_lines (taken ++ more) ≡ lines ++ whole_lines (reader.left ++ more)

pub record Told (input rest : Option (List ℕ)) (lines : List (List ℕ)) (reader : LinesState) : Type 0 where
  pub at : (bytes : List ℕ) → input ≡ Some bytes → (left : List ℕ) × (rest ≡ Some left) × Ahead bytes lines reader left

told_starts : (input : Option (List ℕ)) (reader : LinesState) → reader ≡ record { taken = 0; left = []; ended = false } → Told input input [] reader
told_starts input reader is = rw is (record { at = λ bytes told. (bytes, told, record { taken = []; split = refl; are = refl; whole = λ going more. refl }) })

whole_behind : (taken left part line rest : List ℕ) (lines : List (List ℕ)) (more : List ℕ)
    → ((more : List ℕ) → whole_lines (taken ++ more) ≡ lines ++ whole_lines (left ++ more)) → has_feed line ≡ false → left ++ part ≡ line ++ 10 ∷ rest
    → whole_lines ((taken ++ part) ++ more) ≡ (lines ++ line ∷ []) ++ whole_lines (rest ++ more)
whole_behind taken left part line rest lines more whole clear is =
    ap whole_lines (append_assoc taken part more)
    ∙ whole (part ++ more)
    ∙ ap (λ (b : List ℕ). lines ++ whole_lines b) (sym (append_assoc left part more) ∙ ap (λ (b : List ℕ). b ++ more) is ∙ append_assoc line (10 ∷ rest) more)
    ∙ ap (λ (t : List (List ℕ)). lines ++ t) (whole_first line (rest ++ more) clear)
    ∙ sym (append_assoc lines (line ∷ []) (whole_lines (rest ++ more)))

told_more : {was last : Option (List ℕ)} (input rest later : Option (List ℕ)) (lines : List (List ℕ)) (line : List ℕ) (reader new_reader : LinesState) → Told input rest lines reader → Reads (Ok (Line line)) reader new_reader rest later was last → Answer (Ok (Line line)) reader new_reader rest later
    → Told input later (lines ++ line ∷ []) new_reader
told_more input rest later lines line reader new_reader t reads answer = record {
  at = λ bytes is.
      let was = t.at bytes is in
      let made = step_of (Ok (Line line)) reader new_reader was.0 rest later reads was.1 in
      let s = made.1 in
      let next = answer was.0 made.0 was.1 s.told in (
        made.0,
        s.told,
        record {
          taken = was.2.taken ++ s.part;
          split = was.2.split ∙ ap (λ (x : List ℕ). was.2.taken ++ x) s.split ∙ sym (append_assoc was.2.taken s.part made.0);
          are = was.2.are ∙ ap (λ (x : List (List ℕ)). lines ++ x) next ∙ sym (append_assoc lines (line ∷ []) (lines_of (ahead new_reader made.0)));
          whole = λ going after. elim s.answers.1 [
            | inl split ↦ whole_behind was.2.taken reader.left s.part line new_reader.left lines after (was.2.whole (s.going going)) s.answers.0 split
            | inr last ↦ let ended : new_reader.ended ≡ true = last.3 in absurd (cc)
          ];
        },
      );
}

-- the line under way is the next one
told_first : {was last : Option (List ℕ)} (input rest later : Option (List ℕ)) (lines : List (List ℕ)) (line : List ℕ) (reader new_reader : LinesState) → Told input rest lines reader → Reads (Ok (Line line)) reader new_reader rest later was last → Answer (Ok (Line line)) reader new_reader rest later
    → AreFirst input lines (line ∷ [])
told_first input rest later lines line reader new_reader t reads answer = record {
  told = λ bytes is.
      let was = t.at bytes is in
      let made = step_of (Ok (Line line)) reader new_reader was.0 rest later reads was.1 in
      let next = answer was.0 made.0 was.1 made.1.told in
      (lines_of (ahead new_reader made.0), was.2.are ∙ ap (λ (x : List (List ℕ)). lines ++ x) next ∙ sym (append_assoc lines (line ∷ []) (lines_of (ahead new_reader made.0))));
}

told_none : (input rest : Option (List ℕ)) (lines : List (List ℕ)) (reader : LinesState) → Told input rest lines reader → AreFirst input lines []
told_none input rest lines reader t = record {
  told = λ bytes is.
      let was = t.at bytes is in
      (lines_of (ahead reader was.0), was.2.are ∙ ap (λ (x : List (List ℕ)). x ++ lines_of (ahead reader was.0)) (sym (append-nil lines)));
}

-- no line is left
told_all : {was last : Option (List ℕ)} (input rest later : Option (List ℕ)) (lines : List (List ℕ)) (reader new_reader : LinesState) → Told input rest lines reader → Reads (Ok End) reader new_reader rest later was last → Answer (Ok End) reader new_reader rest later → (bytes : List ℕ) → input ≡ Some bytes → lines_of bytes ≡ lines
told_all input rest later lines reader new_reader t reads answer bytes is =
    let was = t.at bytes is in
    let made = step_of (Ok End) reader new_reader was.0 rest later reads was.1 in
    was.2.are ∙ ap (λ (x : List (List ℕ)). lines ++ x) (answer was.0 made.0 was.1 made.1.told) ∙ append-nil lines

-- the input gave out
told_taken : {was last : Option (List ℕ)} (input rest later : Option (List ℕ)) (lines : List (List ℕ)) (e : ReadStop) (reader new_reader : LinesState) → Told input rest lines reader → (reads : Reads (Err e) reader new_reader rest later was last)
    → ((seen : List ℕ) → Answers (Err e) seen new_reader → Unfinished seen new_reader) → AreTaken input later lines
told_taken input rest later lines e reader new_reader t reads unfinished = record {
  told = λ bytes is.
      let was = t.at bytes is in
      let made = step_of (Err e) reader new_reader was.0 rest later reads was.1 in
      let s = made.1 in
      let cut = unfinished (reader.left ++ s.part) s.answers in (
        was.2.taken ++ s.part,
        made.0,
        was.2.split ∙ ap (λ (x : List ℕ). was.2.taken ++ x) s.split ∙ sym (append_assoc was.2.taken s.part made.0),
        s.told,
        sym (was.2.whole (s.going cut.no_end) s.part ∙ ap (λ (x : List (List ℕ)). lines ++ x) (whole_none (reader.left ++ s.part) cut.no_line) ∙ append-nil lines),
      );
}

-- what was kept so far, of the lines that were answered
pub record KeptSoFar {D : Type 0} (log : Log D) (es entries : List Entry) (old now : D) : Type 0 where
  pub fronts : LeavesFronts log es entries old now
  pub leaves : LeavesNow log (es ++ entries) now

-- where a run stands: some lines were answered, and theirs was kept
pub record Keeping {A D : Type 0} (step : A → List ℕ → Reply A) (note : A → List ℕ → List Entry) (log : Log D) (start : A) (input : Option (List ℕ)) (old : D) (first : Contents) (state : A) (reader : LinesState) (rest : Option (List ℕ)) (now : D) (world : Contents) : Type 0 where
  pub lines : List (List ℕ)
  pub effects : List Effect
  pub told : Told input rest lines reader
  pub answered : follow step lines (Continues [] start) ≡ Continues effects state
  pub done : world ≡ performed effects first
  pub kept : (es : List Entry) → LeavesNow log es old → KeptSoFar log es (noted step note lines (Continues [] start)) old now

module _ {A D : Type 0} (step : A → List ℕ → Reply A) (note : A → List ℕ → List Entry) (log : Log D) (start : A) where
  pub keeping_starts : (input : Option (List ℕ)) (old : D) (first : Contents) (reader : LinesState) → reader ≡ record { taken = 0; left = []; ended = false } → Keeping step note log start input old first start reader input old first
  keeping_starts input old first reader is = record {
    lines = [];
    effects = [];
    told = told_starts input reader is;
    answered = refl;
    done = refl;
    kept = λ es now. record {
      fronts = fronts_none log es old;
      leaves = λ c since. now c since ∙ ap Some (sym (append-nil es));
    };
  }

  -- entries, then those of the lines that were answered, and then those of one more
  entries_more : (es : List Entry) (state : A) (lines : List (List ℕ)) (line : List ℕ) (fs : List Effect) → follow step lines (Continues [] start) ≡ Continues fs state
      → (es ++ noted step note lines (Continues [] start)) ++ note state line ≡ es ++ noted step note (lines ++ line ∷ []) (Continues [] start)
  entries_more es state lines line fs goes_so = append_assoc es (noted step note lines (Continues [] start)) (note state line) ∙ ap (λ (t : List Entry). es ++ t) (sym (noted_more step note start state lines line fs goes_so))

  fronts_more : (es : List Entry) (state : A) (lines : List (List ℕ)) (line : List ℕ) (fs : List Effect) (old now new : D) → follow step lines (Continues [] start) ≡ Continues fs state
      → LeavesFronts log es (noted step note lines (Continues [] start)) old now → LeavesFronts log (es ++ noted step note lines (Continues [] start)) (note state line) now new
      → LeavesFronts log es (noted step note (lines ++ line ∷ []) (Continues [] start)) old new
  fronts_more es state lines line fs old now new goes_so a b =
      subst (λ (t : List Entry). LeavesFronts log es t old new) (sym (noted_more step note start state lines line fs goes_so)) (fronts_then log es (noted step note lines (Continues [] start)) (note state line) old now new a b)

  -- after a line
  pub keeping_more : {was last : Option (List ℕ)} (input rest later : Option (List ℕ)) (old : D) (first : World) (state : A) (line : List ℕ) (reader new_reader : LinesState) (now new : D) (world next : World) (self : A)
      → Keeping step note log start input old (contents first) state reader rest now (contents world) → Reads (Ok (Line line)) reader new_reader rest later was last → Answer (Ok (Line line)) reader new_reader rest later → Answered (step state line) world next self (Ok None)
      → ((es : List Entry) → LeavesNow log es now → Keeps log es (note state line) now new world next (Ok None))
      → Keeping step note log start input old (contents first) self new_reader later new (contents next)
  keeping_more input rest later old first state line reader new_reader now new world next self k reads answer h keeps =
      let did = goes (step state line) world next self h in
      record {
        lines = k.lines ++ line ∷ [];
        effects = k.effects ++ did.0;
        told = told_more input rest later k.lines line reader new_reader k.told reads answer;
        answered = further step start state k.lines (line ∷ []) k.effects k.answered ∙ ap (prefixed k.effects) did.1;
        done = did.2 ∙ (ap (performed did.0) k.done ∙ sym (performed_append k.effects did.0 (contents first)));
        kept = λ es leaves.
            let so_far = k.kept es leaves in
            let kept = keeps (es ++ noted step note k.lines (Continues [] start)) so_far.leaves in
            let e = entries_more es state k.lines line k.effects k.answered in
            record {
              fronts = fronts_more es state k.lines line k.effects old now new k.answered so_far.fronts kept.fronts;
              leaves = λ c since. kept.kept c since ∙ ap Some e;
            };
      }

  -- however the answer to a line stopped, it kept all, or did nothing
  stop_kept : (es : List Entry) (input rest : Option (List ℕ)) (answered under_way : List (List ℕ)) (effects : List Effect) (state : A) (new : D) (old_world new_world : World) (e : LineStop)
      → LeavesNow log (es ++ noted step note (answered ++ under_way) (Continues [] start)) new
      ⊎ ((contents new_world ≡ performed effects (contents old_world)) × LeavesFrontNow log (es ++ noted step note answered (Continues [] start)) (noted step note under_way (Continues effects state)) new)
      → KeptAtEnd step note log start es input rest answered under_way effects state new old_world new_world (Err (halt_of_line e))
  stop_kept es input rest answered under_way effects state new old_world new_world (line_stop.Stopped e) h = h
  stop_kept es input rest answered under_way effects state new old_world new_world line_stop.DiskFault h = h

  -- the answer of a line stopped
  pub line_stops_kept : {was last : Option (List ℕ)} (input rest later : Option (List ℕ)) (old : D) (first : World) (state : A) (line : List ℕ) (reader new_reader : LinesState) (now new : D) (world next : World) (self : A) (e : LineStop)
      → Keeping step note log start input old (contents first) state reader rest now (contents world) → Reads (Ok (Line line)) reader new_reader rest later was last → Answer (Ok (Line line)) reader new_reader rest later
      → ((es : List Entry) → LeavesNow log es now → Keeps log es (note state line) now new world next (Err e))
      → (es : List Entry) → LeavesNow log es old → KeptOver step note log start es input later old new first next (Err (halt_of_line e))
  line_stops_kept input rest later old first state line reader new_reader now new world next self e k reads answer keeps es leaves =
      let so_far = k.kept es leaves in
      let kept = keeps (es ++ noted step note k.lines (Continues [] start)) so_far.leaves in
      record {
        answered = k.lines;
        under_way = line ∷ [];
        few = omega arith;
        effects = k.effects;
        state = state;
        first = told_first input rest later k.lines line reader new_reader k.told reads answer;
        goes = k.answered;
        fronts = fronts_more es state k.lines line k.effects old now new k.answered so_far.fronts kept.fronts;
        kept = stop_kept es input later k.lines (line ∷ []) k.effects state new first next e (
            elim kept.kept [
              | inl all_kept ↦ inl (λ c since. all_kept c since ∙ ap Some (entries_more es state k.lines line k.effects k.answered))
              | inr nothing ↦ inr (nothing.0 ∙ k.done, λ c since. subst (λ (t : List Entry). HasFront log.reads (es ++ noted step note k.lines (Continues [] start)) t c) (sym (append-nil (note state line))) (nothing.1 c since))
            ]
            );
      }

  -- a line ended the run
  pub line_ends_kept : {was last : Option (List ℕ)} (input rest later : Option (List ℕ)) (old : D) (first : World) (state : A) (line : List ℕ) (reader new_reader : LinesState) (now new : D) (world next : World) (self : A) (v : Verdict)
      → Keeping step note log start input old (contents first) state reader rest now (contents world) → Reads (Ok (Line line)) reader new_reader rest later was last → Answer (Ok (Line line)) reader new_reader rest later → Answered (step state line) world next self (Ok (Some v))
      → ((es : List Entry) → LeavesNow log es now → Keeps log es (note state line) now new world next (Ok (Some v)))
      → (es : List Entry) → LeavesNow log es old → KeptOver step note log start es input later old new first next (Ok v)
  line_ends_kept input rest later old first state line reader new_reader now new world next self v k reads answer h keeps es leaves =
      let so_far = k.kept es leaves in
      let kept = keeps (es ++ noted step note k.lines (Continues [] start)) so_far.leaves in
      let did = halts (step state line) world next self v h in
      let are = told_first input rest later k.lines line reader new_reader k.told reads answer in
      record {
        answered = k.lines;
        under_way = line ∷ [];
        few = omega arith;
        effects = k.effects;
        state = state;
        first = are;
        goes = k.answered;
        fronts = fronts_more es state k.lines line k.effects old now new k.answered so_far.fronts kept.fronts;
        kept = (
          λ c since. kept.kept c since ∙ ap Some (entries_more es state k.lines line k.effects k.answered),
          record {
            told = λ bytes is.
                let more = are.told bytes is in
                ap (λ (ls : List (List ℕ)). noted step note ls (Continues [] start)) (more.1 ∙ append_assoc k.lines (line ∷ []) more.0)
                ∙ noted_end step note start state k.lines more.0 line k.effects did.0 v k.answered did.1;
          },
        );
      }

  fronts_all : (es : List Entry) (lines : List (List ℕ)) (old now : D) → LeavesFronts log es (noted step note lines (Continues [] start)) old now → LeavesFronts log es (noted step note (lines ++ []) (Continues [] start)) old now
  fronts_all es lines old now a = subst (λ (ls : List (List ℕ)). LeavesFronts log es (noted step note ls (Continues [] start)) old now) (sym (append-nil lines)) a

  leaves_all : (es : List Entry) (lines : List (List ℕ)) (now : D) → LeavesNow log (es ++ noted step note lines (Continues [] start)) now → LeavesNow log (es ++ noted step note (lines ++ []) (Continues [] start)) now
  leaves_all es lines now h = λ c since. h c since ∙ ap (λ (ls : List (List ℕ)). Some (es ++ noted step note ls (Continues [] start))) (sym (append-nil lines))

  -- all lines were answered
  pub end_kept : {was last : Option (List ℕ)} (input rest later : Option (List ℕ)) (old : D) (first : World) (state : A) (reader new_reader : LinesState) (now : D) (world next : World) (v : Verdict)
      → Keeping step note log start input old (contents first) state reader rest now (contents world) → Reads (Ok End) reader new_reader rest later was last → Answer (Ok End) reader new_reader rest later
      → (es : List Entry) → LeavesNow log es old → KeptOver step note log start es input later old now first next (Ok v)
  end_kept input rest later old first state reader new_reader now world next v k reads answer es leaves =
      let so_far = k.kept es leaves in
      record {
        answered = k.lines;
        under_way = [];
        few = omega arith;
        effects = k.effects;
        state = state;
        first = told_none input rest k.lines reader k.told;
        goes = k.answered;
        fronts = fronts_all es k.lines old now so_far.fronts;
        kept = (
          leaves_all es k.lines now so_far.leaves,
          record { told = λ bytes is. ap (λ (ls : List (List ℕ)). noted step note ls (Continues [] start)) (told_all input rest later k.lines reader new_reader k.told reads answer bytes is ∙ sym (append-nil k.lines)) },
        );
      }

  -- nothing is under way where a run stopped between two lines
  pub stops_kept : (input rest later : Option (List ℕ)) (old : D) (first : World) (state : A) (reader : LinesState) (now : D) (world next : World) (e : Stop)
      → Keeping step note log start input old (contents first) state reader rest now (contents world)
      → (es : List Entry) → LeavesNow log es old → KeptOver step note log start es input later old now first next (Err (halt.Stopped e))
  stops_kept input rest later old first state reader now world next e k es leaves =
      let so_far = k.kept es leaves in
      record {
        answered = k.lines;
        under_way = [];
        few = omega arith;
        effects = k.effects;
        state = state;
        first = told_none input rest k.lines reader k.told;
        goes = k.answered;
        fronts = fronts_all es k.lines old now so_far.fronts;
        kept = inl (leaves_all es k.lines now so_far.leaves);
      }

  -- the reader gave up
  pub gave_out_kept : {was last : Option (List ℕ)} (input rest later : Option (List ℕ)) (old : D) (first : World) (state : A) (reader new_reader : LinesState) (now : D) (world : World) (e : ReadStop)
      → Keeping step note log start input old (contents first) state reader rest now (contents world) → Reads (Err e) reader new_reader rest later was last
      → (es : List Entry) → LeavesNow log es old → KeptOver step note log start es input later old now first world (Err (halt_of e))
  gave_out_kept input rest later old first state reader new_reader now world read.NoMemory k reads es leaves = stops_kept input rest later old first state reader now world world stop.NoMemory k es leaves
  gave_out_kept input rest later old first state reader new_reader now world read.ReadFault k reads es leaves =
      let so_far = k.kept es leaves in
      record {
        answered = k.lines;
        under_way = [];
        few = omega arith;
        effects = k.effects;
        state = state;
        first = told_none input rest k.lines reader k.told;
        goes = k.answered;
        fronts = fronts_all es k.lines old now so_far.fronts;
        kept = (so_far.leaves, told_taken input rest later k.lines read.ReadFault reader new_reader k.told reads (λ seen h. h.0), refl);
      }
  gave_out_kept input rest later old first state reader new_reader now world read.TooLong k reads es leaves =
      let so_far = k.kept es leaves in
      record {
        answered = k.lines;
        under_way = [];
        few = omega arith;
        effects = k.effects;
        state = state;
        first = told_none input rest k.lines reader k.told;
        goes = k.answered;
        fronts = fronts_all es k.lines old now so_far.fronts;
        kept = (so_far.leaves, told_taken input rest later k.lines read.TooLong reader new_reader k.told reads (λ seen h. h.0), refl);
      }

-- the disk is blamed of a whole run where it is of a line
pub disk_stops : (i j k : ℕ) (e : LineStop) → i ≤ j → LineBlamesDisk {A = Option Verdict} j k (Err e) → BlamesDisk {A = Verdict} i k (Err (halt_of_line e))
disk_stops i j k (line_stop.Stopped e) le b = record { later = omega (arith, le, b.later); because = tt }
disk_stops i j k line_stop.DiskFault le b = record { later = omega (arith, le, b.later); because = let rose : Rose j k = b.because in omega (arith, le, rose) }

pub disk_ends : (i j k : ℕ) (v : Verdict) (r : Result (Option Verdict) LineStop) → i ≤ j → LineBlamesDisk j k r → BlamesDisk {A = Verdict} i k (Ok v)
disk_ends i j k v r le b = record { later = omega (arith, le, b.later); because = tt }

pub disk_gave_out : (i j : ℕ) (e : ReadStop) → i ≤ j → BlamesDisk {A = Verdict} i j (Err (halt_of e))
disk_gave_out i j read.ReadFault le = record { later = le; because = tt }
disk_gave_out i j read.TooLong le = record { later = le; because = tt }
disk_gave_out i j read.NoMemory le = record { later = le; because = tt }

-- where there is no disk, nothing is kept
pub keeps_nothing : (es : List Entry) (old new : NoDisk) (old_world new_world : World) (r : Result (Option Verdict) LineStop) → Keeps no_log es [] old new old_world new_world r
keeps_nothing es old new old_world new_world (Ok v) = record { fronts = record { later = omega arith; each = λ t c le since. inl since }; kept = λ c since. absurd since }
keeps_nothing es old new old_world new_world (Err e) = record { fronts = record { later = omega arith; each = λ t c le since. inl since }; kept = inl (λ c since. absurd since) }

-- and no run is held up
pub never_held_up : (old new : NoDisk) (r : Result Verdict Halt) → BlamesDisk (no_log.faults old) (no_log.faults new) r → r ≢ Err halt.DiskFault
never_held_up old new r b is = let c : Rose 0 0 = subst (λ (x : Result Verdict Halt). DiskCause x 0 0) is b.because in omega (arith, c)
