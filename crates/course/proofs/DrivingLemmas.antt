-- Runs over an input that is read line by line.
use Rattle.std.proofs.Common.{◌≡◌, ◌<◌, ◌≤◌, ◌+◌, ◌-◌, ◌⊎◌, ◌==◌, ◌||◌, ℕ, Bool, true, false, List, [], ◌∷◌, ◌++◌, length, Option, None, Some, inl, inr, refl, sym, ap, ◌∙◌, subst, append_assoc, arith, length-append, append-nil}
use Rattle.std.specs.Prelude.{Result, Ok, Err}
use Rattle.outside.specs.Streams.{before, CameLast}
use Rattle.outside.specs.Effects.{Effect, World, Contents, contents, performed, Partly}
use Rattle.outside.specs.declared.stop.Stop.{Stop}
use Rattle.outside.specs.declared.stop.Stop.TheVariants as stop
use Rattle.outside.proofs.EffectLemmas.{performed_append, nothing_yet, partly_more}
use Rattle.tab_lines.specs.Lines.{has_feed, lines_of, whole_lines}
use Rattle.tab_lines.specs.Taking.{LinesState, ahead, Unfinished, most_taken, IsWithinLimit, IsTakenLine, Answers, Reads, IsNextOf}
use Rattle.tab_lines.specs.declared.lines.Next.{Next}
use Rattle.tab_lines.specs.declared.lines.Next.TheVariants.{Line, End}
use Rattle.tab_lines.specs.declared.lines.ReadStop.{ReadStop}
use Rattle.tab_lines.specs.declared.lines.ReadStop.TheVariants as read
use Rattle.tab_lines.proofs.LineLemmas.{has_append, whole_first, whole_none, lines_first, lines_last, some_line}
use Rattle.course.specs.declared.status.Verdict.{Verdict}
use Rattle.course.specs.declared.status.Halt.TheVariants as halt
use Rattle.course.specs.declared.status.LineStop.{LineStop}
use Rattle.course.specs.declared.status.LineStop.TheVariants as line_stop
use Rattle.course.specs.Answering.{Reply, Continues, Finishes, Ending, effects_of, prefixed, follow, course, Answered, Ended, CutOff, Ran, is_too_long, IsDue, TookLittle, IsReadWhole, EndedByLine, IsReadOut, halt_of, halt_of_line}
use Rattle.course.proofs.AnsweringLemmas.{Mid, further, goes, halts, stops, held_up, mid_course, mid_halt, mid_stop, mid_idle, mid_end, mid_no_more, course_goes_on, line_goes_on, as_halt}

-- the bytes of the lines that were answered: all that was taken but for what the reader holds
pub record Front (taken : List ℕ) (lines : List (List ℕ)) (reader : LinesState) : Type 0 where
  pub bytes : List ℕ
  pub seen : taken ≡ bytes ++ reader.left
  pub lines_are : lines ≡ lines_of bytes
  pub at_line : ((reader.ended ≡ true) × (reader.left ≡ [])) ⊎ ((more : List ℕ) → lines_of (bytes ++ more) ≡ lines ++ lines_of more)

-- some lines of an input were answered, and the reader holds or will take the others
pub record Reached {A : Type 0} (step : A → List ℕ → Reply A) (start : A) (bytes : List ℕ) (old : Contents) (state : A) (reader : LinesState) (left : List ℕ) (now : Contents) : Type 0 where
  pub taken : List ℕ
  pub lines : List (List ℕ)
  pub effects : List Effect
  pub split : bytes ≡ taken ++ left
  pub count : reader.taken ≡ length taken
  pub are : lines_of bytes ≡ lines ++ lines_of (ahead reader left)
  pub whole : reader.ended ≡ false → (more : List ℕ) → whole_lines (taken ++ more) ≡ lines ++ whole_lines (reader.left ++ more)
  pub end : reader.ended ≡ true → left ≡ []
  pub front : Front taken lines reader
  pub answered : follow step lines (Continues [] start) ≡ Continues effects state
  pub done : now ≡ performed effects old

-- where a run stands, if its input is told
pub record Stands {A : Type 0} (step : A → List ℕ → Reply A) (start : A) (input : Option (List ℕ)) (old : Contents) (state : A) (reader : LinesState) (rest : Option (List ℕ)) (now : Contents) : Type 0 where
  pub told : (bytes : List ℕ) → input ≡ Some bytes → (left : List ℕ) × (rest ≡ Some left) × Reached step start bytes old state reader left now

pub starts : {A : Type 0} (step : A → List ℕ → Reply A) (start : A) (input : Option (List ℕ)) (old : Contents) (reader : LinesState) → reader ≡ record { taken = 0; left = []; ended = false } → Stands step start input old start reader input old
starts step start input old reader is = rw is (record {
  told = λ bytes told. (
    bytes,
    told,
    record {
      taken = [];
      lines = [];
      effects = [];
      split = refl;
      count = refl;
      are = refl;
      whole = λ going more. refl;
      end = λ ended. absurd (cc);
      front = record { bytes = []; seen = refl; lines_are = refl; at_line = inr (λ more. refl) };
      answered = refl;
      done = refl;
    },
  );
})

-- what was taken of a told rest
took : (left part : List ℕ) (rest later : Option (List ℕ)) → rest ≡ Some left → rest ≡ before part later → (more : List ℕ) × (later ≡ Some more) × (left ≡ part ++ more)
took left part rest None is moved = absurd (cc)
took left part rest (Some more) is moved = (more, refl, cc)

-- an end that is not there now was not there before
still_going : (was is : Bool) → (was ≡ true → is ≡ true) → is ≡ false → was ≡ false
still_going true is stays going = let ended : is ≡ true = stays refl in absurd (cc)
still_going false is stays going = refl

last_none : (a b : List ℕ) → a ++ b ≡ [] → b ≡ []
last_none [] b h = h
last_none (x ∷ a) b h = absurd (cc)

-- nothing is left where a read answered 0
nothing_left : (was is : Bool) (left part more : List ℕ) → (was ≡ true → left ≡ []) → left ≡ part ++ more → (was ≡ false → is ≡ true → more ≡ []) → is ≡ true → more ≡ []
nothing_left true is left part more before_it split after_it ended = last_none part more (sym split ∙ before_it refl)
nothing_left false is left part more before_it split after_it ended = after_it refl ended

-- what a call took of the input, and what is left of it
pub record Step (r : Result Next ReadStop) (old new : LinesState) (left more : List ℕ) (later : Option (List ℕ)) : Type 0 where
  pub told : later ≡ Some more
  pub part : List ℕ
  pub split : left ≡ part ++ more
  pub count : new.taken ≡ old.taken + length part
  pub going : new.ended ≡ false → old.ended ≡ false
  pub end : (old.ended ≡ true → left ≡ []) → new.ended ≡ true → more ≡ []
  pub answers : Answers r (old.left ++ part) new

pub step_of : {was last : Option (List ℕ)} (r : Result Next ReadStop) (old new : LinesState) (left : List ℕ) (rest later : Option (List ℕ)) → Reads r old new rest later was last → rest ≡ Some left → (more : List ℕ) × Step r old new left more later
step_of r old new left rest later m is =
    let t = took left m.part rest later is m.moved in (
      t.0,
      record {
        told = t.1;
        part = m.part;
        split = t.2;
        count = m.counted;
        going = still_going old.ended new.ended m.ended;
        end = λ was ended. nothing_left old.ended new.ended left m.part t.0 was t.2 (λ going now. m.end going now t.0 t.1) ended;
        answers = m.answers;
      },
    )

-- what a reader has seen of an input and not answered: bytes without an LF, and then some that the last read gave, at most 65,536
pub record Seen (bytes : List ℕ) (last : Option (List ℕ)) : Type 0 where
  pub line : List ℕ
  pub piece : List ℕ
  pub are : bytes ≡ line ++ piece
  pub one_line : has_feed line ≡ false
  pub few : length piece ≤ 65536
  pub one_read : CameLast last piece

-- nothing was seen
pub none_seen : (reader : LinesState) (last : Option (List ℕ)) → reader ≡ record { taken = 0; left = []; ended = false } → Seen reader.left last
none_seen reader last is = rw is (record { line = []; piece = []; are = refl; one_line = refl; few = omega arith; one_read = λ given told. (given, sym (append-nil given)) })

seen_by : (left part : List ℕ) (was last : Option (List ℕ)) → Seen left was → IsTakenLine left part was last → Seen (left ++ part) last
seen_by left part was last s (inl none) = record { line = s.line; piece = s.piece; are = ap (λ (t : List ℕ). left ++ t) none.0 ∙ append-nil left ∙ s.are; one_line = s.one_line; few = s.few; one_read = subst (λ (o : Option (List ℕ)). CameLast o s.piece) (sym none.1) s.one_read }
seen_by left part was last s (inr taken) = record {
  line = left ++ taken.earlier;
  piece = taken.piece;
  are = ap (λ (t : List ℕ). left ++ t) taken.are ∙ sym (append_assoc left taken.earlier taken.piece);
  one_line = taken.no_line;
  few = taken.few;
  one_read = taken.given;
}

-- bytes without an LF do not reach past the first one
feed_after : (clear piece line rest : List ℕ) → has_feed clear ≡ false → clear ++ piece ≡ line ++ 10 ∷ rest → (front : List ℕ) × (piece ≡ front ++ 10 ∷ rest)
feed_after [] piece line rest none is = (line, is)
feed_after (b ∷ clear) piece [] rest none is = let feed : b ≡ 10 = cc in absurd (cc (rw feed at none))
feed_after (b ∷ clear) piece (c ∷ line) rest none is = feed_after clear piece line rest (or_false (b == 10) (has_feed clear) none) cc
  where
    or_false : (p q : Bool) → (p || q) ≡ false → q ≡ false
    or_false true q h = absurd (cc)
    or_false false q h = h

-- the end of what the last read gave
came_end : (last : Option (List ℕ)) (piece front rest : List ℕ) → CameLast last piece → piece ≡ front ++ rest → CameLast last rest
came_end last piece front rest came is = λ given told. let c = came given told in (c.0 ++ front, c.1 ∙ (ap (λ (t : List ℕ). c.0 ++ t) is ∙ sym (append_assoc c.0 front rest)))

-- the line that is answered, and what stands behind it
line_seen : (seen line : List ℕ) (last : Option (List ℕ)) (new : LinesState) → Seen seen last → Answers (Ok (Line line)) seen new → Seen seen last
line_seen seen line last new s h = elim h.1 [
  | inl whole ↦
      let behind = feed_after s.line s.piece line new.left s.one_line (sym s.are ∙ whole) in
      record { line = line; piece = 10 ∷ new.left; are = whole; one_line = h.0; few = omega (arith, ap length behind.1, length-append behind.0 (10 ∷ new.left), s.few); one_read = came_end last s.piece behind.0 (10 ∷ new.left) s.one_read behind.1 }
  | inr ends ↦ record { line = line; piece = []; are = ends.0 ∙ sym (append-nil line); one_line = h.0; few = omega arith; one_read = λ given told. (given, sym (append-nil given)) }
]

-- behind a line that is answered
left_came : (seen line : List ℕ) (last : Option (List ℕ)) (new : LinesState) → Seen seen last → Answers (Ok (Line line)) seen new → (length new.left ≤ 65536) × CameLast last new.left
left_came seen line last new s h = elim h.1 [
  | inl whole ↦
      let behind = feed_after s.line s.piece line new.left s.one_line (sym s.are ∙ whole) in (
        omega (arith, ap length behind.1, length-append behind.0 (10 ∷ new.left), s.few),
        came_end last s.piece (behind.0 ++ 10 ∷ []) new.left s.one_read (behind.1 ∙ sym (append_assoc behind.0 (10 ∷ []) new.left)),
      )
  | inr ends ↦ (omega (arith, ap length ends.2), subst (λ (bytes : List ℕ). CameLast last bytes) (sym ends.2) (λ given told. (given, sym (append-nil given))))
]

-- one line more was answered
pub seen_more : {rest later : Option (List ℕ)} (line : List ℕ) (reader new_reader : LinesState) (was last : Option (List ℕ)) → Seen reader.left was → Reads (Ok (Line line)) reader new_reader rest later was last → Seen new_reader.left last
seen_more line reader new_reader was last s reads =
    let came = left_came (reader.left ++ reads.part) line last new_reader (seen_by reader.left reads.part was last s reads.soon) reads.answers in
    record { line = []; piece = new_reader.left; are = refl; one_line = refl; few = came.0; one_read = came.1 }

-- where a reader gave up, it was due
due_by : (e : ReadStop) (taken seen : List ℕ) (new : LinesState) → Answers (Err e) seen new → new.taken ≡ length taken → IsDue (is_too_long (halt_of e)) taken seen
due_by read.ReadFault taken seen new h count = inl (omega (arith, h.1, count))
due_by read.TooLong taken seen new h count = (sym count ∙ h.1, h.0.no_line)
due_by read.NoMemory taken seen new h count = elim h.1 [ inl few ↦ inl (omega (arith, few, count)) | inr line ↦ inr line ]

or_true : (p : Bool) → (p || true) ≡ true
or_true true = refl
or_true false = refl

-- and where the answer to a line stopped
due_at_line : (e : LineStop) (line taken seen : List ℕ) (new : LinesState) → Answers (Ok (Line line)) seen new → IsWithinLimit new → new.taken ≡ length taken → IsDue (is_too_long (halt_of_line e)) taken seen
due_at_line e line taken seen new h within count = cases e (elim h.1 [
  | inl whole ↦ inr (ap has_feed whole ∙ has_append 10 line (10 ∷ new.left) ∙ or_true (has_feed line))
  | inr ends ↦ inl (omega (arith, within.ended ends.3, count))
])
  where
    cases : (e : LineStop) → (length taken < most_taken) ⊎ (has_feed seen ≡ true) → IsDue (is_too_long (halt_of_line e)) taken seen
    cases (line_stop.Stopped stop) due = due
    cases line_stop.DiskFault due = due

-- no line is left of an input that ended and was answered
line_left : (reader : LinesState) (left line : List ℕ) (later : List (List ℕ)) → reader.ended ≡ true → reader.left ≡ [] → lines_of (ahead reader left) ≡ line ∷ later → ⊥
line_left reader left line later ended none next =
    let nothing : ahead reader left ≡ [] = rw ended none in
    let no_lines : line ∷ later ≡ [] = sym next ∙ ap lines_of nothing in
    absurd (cc)

-- one line more, of which the last byte is an LF where the input did not end
front_more : (taken left part line : List ℕ) (lines later : List (List ℕ)) (reader new : LinesState) → Front taken lines reader → Answers (Ok (Line line)) (reader.left ++ part) new → lines_of (ahead reader left) ≡ line ∷ later
    → (f : Front (taken ++ part) (lines ++ line ∷ []) new) × (((front : List ℕ) × (f.bytes ≡ front ++ 10 ∷ [])) ⊎ ((new.ended ≡ true) × (new.left ≡ [])))
front_more taken left part line lines later reader new f h next = elim f.at_line [
  | inl over ↦ absurd (line_left reader left line later over.0 over.1 next)
  | inr at_line ↦ elim h.1 [
    | inl whole ↦ (
      record {
        bytes = f.bytes ++ line ++ 10 ∷ [];
        seen = taken_is whole ∙ sym (append_assoc (f.bytes ++ line) (10 ∷ []) new.left);
        lines_are = sym (ap lines_of (sym (append-nil (f.bytes ++ line ++ 10 ∷ []))) ∙ more_lines at_line [] ∙ append-nil (lines ++ line ∷ []));
        at_line = inr (more_lines at_line);
      },
      inl (f.bytes ++ line, refl),
    )
    | inr last ↦ (
      record {
        bytes = f.bytes ++ line;
        seen = ap (λ (t : List ℕ). t ++ part) f.seen ∙ append_assoc f.bytes reader.left part ∙ ap (λ (t : List ℕ). f.bytes ++ t) last.0 ∙ sym (append-nil (f.bytes ++ line)) ∙ ap (λ (t : List ℕ). f.bytes ++ line ++ t) (sym last.2);
        lines_are = sym (at_line line ∙ ap (λ (t : List (List ℕ)). lines ++ t) (lines_last line h.0 ∙ some_line line last.1));
        at_line = inl (last.3, last.2);
      },
      inr (last.3, last.2),
    )
  ]
]
  where
    taken_is : reader.left ++ part ≡ line ++ 10 ∷ new.left → taken ++ part ≡ f.bytes ++ line ++ 10 ∷ new.left
    taken_is whole = ap (λ (t : List ℕ). t ++ part) f.seen ∙ append_assoc f.bytes reader.left part ∙ ap (λ (t : List ℕ). f.bytes ++ t) whole ∙ sym (append_assoc f.bytes line (10 ∷ new.left))

    more_lines : ((rest : List ℕ) → lines_of (f.bytes ++ rest) ≡ lines ++ lines_of rest) → (rest : List ℕ) → lines_of ((f.bytes ++ line ++ 10 ∷ []) ++ rest) ≡ (lines ++ line ∷ []) ++ lines_of rest
    more_lines at_line rest =
        ap lines_of (append_assoc (f.bytes ++ line) (10 ∷ []) rest ∙ append_assoc f.bytes line (10 ∷ rest))
        ∙ at_line (line ++ 10 ∷ rest)
        ∙ ap (λ (t : List (List ℕ)). lines ++ t) (lines_first line rest h.0)
        ∙ sym (append_assoc lines (line ∷ []) (lines_of rest))

module _ {A : Type 0} (step : A → List ℕ → Reply A) (finish : A → Ending) (start : A) (bytes : List ℕ) where
  -- the lines that are left after those answered
  pub mid_of : (old : Contents) (state : A) (reader : LinesState) (left : List ℕ) (now : Contents) (more : List (List ℕ)) → Reached step start bytes old state reader left now → lines_of (ahead reader left) ≡ more → Mid step start (lines_of bytes) old state more now
  mid_of old state reader left now more r e = record { lines = r.lines; effects = r.effects; are = r.are ∙ ap (λ (t : List (List ℕ)). r.lines ++ t) e; answered = r.answered; done = r.done }

  whole_after : (taken left part line rest : List ℕ) (lines : List (List ℕ)) (more : List ℕ)
      → ((more : List ℕ) → whole_lines (taken ++ more) ≡ lines ++ whole_lines (left ++ more)) → has_feed line ≡ false → left ++ part ≡ line ++ 10 ∷ rest
      → whole_lines ((taken ++ part) ++ more) ≡ (lines ++ line ∷ []) ++ whole_lines (rest ++ more)
  whole_after taken left part line rest lines more whole clear is =
      ap whole_lines (append_assoc taken part more)
      ∙ whole (part ++ more)
      ∙ ap (λ (b : List ℕ). lines ++ whole_lines b) (sym (append_assoc left part more) ∙ ap (λ (b : List ℕ). b ++ more) is ∙ append_assoc line (10 ∷ rest) more)
      ∙ ap (λ (t : List (List ℕ)). lines ++ t) (whole_first line (rest ++ more) clear)
      ∙ sym (append_assoc lines (line ∷ []) (whole_lines (rest ++ more)))

  -- after a line
  pub reached_more : (old : Contents) (state : A) (line left more : List ℕ) (later : Option (List ℕ)) (reader new_reader : LinesState) (now new : Contents) (self : A) (es : List Effect)
      → Reached step start bytes old state reader left now → Step (Ok (Line line)) reader new_reader left more later → lines_of (ahead reader left) ≡ line ∷ lines_of (ahead new_reader more)
      → step state line ≡ Continues es self → new ≡ performed es now → Reached step start bytes old self new_reader more new
  reached_more old state line left more later reader new_reader now new self es r s next is done = record {
    taken = r.taken ++ s.part;
    lines = r.lines ++ line ∷ [];
    effects = r.effects ++ es;
    split = r.split ∙ ap (λ (t : List ℕ). r.taken ++ t) s.split ∙ sym (append_assoc r.taken s.part more);
    count = s.count ∙ omega (arith, r.count, length-append r.taken s.part);
    are = r.are ∙ ap (λ (t : List (List ℕ)). r.lines ++ t) next ∙ sym (append_assoc r.lines (line ∷ []) (lines_of (ahead new_reader more)));
    whole = λ going after. elim s.answers.1 [
      | inl was ↦ whole_after r.taken reader.left s.part line new_reader.left r.lines after (r.whole (s.going going)) s.answers.0 was
      | inr last ↦ let ended : new_reader.ended ≡ true = last.3 in absurd (cc)
    ];
    end = λ ended. s.end r.end ended;
    front = (front_more r.taken left s.part line r.lines (lines_of (ahead new_reader more)) reader new_reader r.front s.answers next).0;
    answered = further step start state r.lines (line ∷ []) r.effects r.answered ∙ ap (prefixed r.effects) is;
    done = done ∙ ap (performed es) r.done ∙ sym (performed_append r.effects es old);
  }

  -- the input gave out
  pub cut_off : (old now : World) (state : A) (left more : List ℕ) (later : Option (List ℕ)) (r : Result Next ReadStop) (reader new_reader : LinesState)
      → Reached step start bytes (contents old) state reader left (contents now) → (s : Step r reader new_reader left more later) → Unfinished (reader.left ++ s.part) new_reader
      → (cut : CutOff step start bytes later old now) × (length cut.taken ≡ new_reader.taken)
  cut_off old now state left more later r reader new_reader at s cut = (
    record {
      taken = at.taken ++ s.part;
      left = more;
      split = at.split ∙ ap (λ (t : List ℕ). at.taken ++ t) s.split ∙ sym (append_assoc at.taken s.part more);
      remains = s.told;
      effects = at.effects;
      state = state;
      answered = ap (λ (ls : List (List ℕ)). follow step ls (Continues [] start)) (at.whole (s.going cut.no_end) s.part ∙ ap (λ (t : List (List ℕ)). at.lines ++ t) (whole_none (reader.left ++ s.part) cut.no_line) ∙ append-nil at.lines) ∙ at.answered;
      done = at.done;
    },
    omega (arith, at.count, s.count, length-append at.taken s.part),
  )

-- a call on the reader, seen from a run whose input is told
pub record Met {A : Type 0} (step : A → List ℕ → Reply A) (start : A) (bytes : List ℕ) (r : Result Next ReadStop) (old : Contents) (state : A) (reader new_reader : LinesState) (later last : Option (List ℕ)) (now : Contents) : Type 0 where
  pub left : List ℕ
  pub more : List ℕ
  pub at : Reached step start bytes old state reader left now
  pub step_made : Step r reader new_reader left more later
  pub next : IsNextOf (lines_of (ahead reader left)) (lines_of (ahead new_reader more)) r
  pub seen : Seen (reader.left ++ step_made.part) last

-- what the contract of the reader says
abbrev pub Answer : Result Next ReadStop → LinesState → LinesState → Option (List ℕ) → Option (List ℕ) → Type 0
Answer r reader new_reader rest later = (bytes more : List ℕ) → rest ≡ Some bytes → later ≡ Some more → IsNextOf (lines_of (ahead reader bytes)) (lines_of (ahead new_reader more)) r

module _ {A : Type 0} (step : A → List ℕ → Reply A) (finish : A → Ending) (start : A) (bytes : List ℕ) where
  pub meet : (r : Result Next ReadStop) (input : Option (List ℕ)) (old : Contents) (state : A) (reader new_reader : LinesState) (rest later was last : Option (List ℕ)) (now : Contents)
      → Stands step start input old state reader rest now → Seen reader.left was → Reads r reader new_reader rest later was last → Answer r reader new_reader rest later → input ≡ Some bytes → Met step start bytes r old state reader new_reader later last now
  unfolding step_of
  meet r input old state reader new_reader rest later was last now s seen reads answer is =
      let at = s.told bytes is in
      let more = step_of r reader new_reader at.0 rest later reads at.1 in
      record { left = at.0; more = more.0; at = at.2; step_made = more.1; next = answer at.0 more.0 at.1 more.1.told; seen = seen_by reader.left reads.part was last seen reads.soon }

  line_mid : {last : Option (List ℕ)} (line : List ℕ) (old : Contents) (state : A) (reader new_reader : LinesState) (later : Option (List ℕ)) (now : Contents) → (m : Met step start bytes (Ok (Line line)) old state reader new_reader later last now) → Mid step start (lines_of bytes) old state (line ∷ lines_of (ahead new_reader m.more)) now
  line_mid line old state reader new_reader later now m = mid_of step finish start bytes old state reader m.left now (line ∷ lines_of (ahead new_reader m.more)) m.at m.next

  end_mid : {last : Option (List ℕ)} (old : Contents) (state : A) (reader new_reader : LinesState) (later : Option (List ℕ)) (now : Contents) → Met step start bytes (Ok End) old state reader new_reader later last now → Mid step start (lines_of bytes) old state [] now
  end_mid old state reader new_reader later now m = mid_of step finish start bytes old state reader m.left now [] m.at m.next

  idle : {last : Option (List ℕ)} (r : Result Next ReadStop) (old now : World) (state : A) (reader new_reader : LinesState) (later : Option (List ℕ)) → Met step start bytes r (contents old) state reader new_reader later last (contents now) → Partly (course step finish start (lines_of bytes)).effects (contents old) (contents now)
  idle r old now state reader new_reader later m =
      mid_idle step finish start (lines_of bytes) (contents old) state (lines_of (ahead reader m.left)) (contents now) (mid_of step finish start bytes (contents old) state reader m.left (contents now) (lines_of (ahead reader m.left)) m.at refl)

  -- nothing was done
  pub none_ran : (rest : Option (List ℕ)) (old : World) → Ran step finish start bytes rest old old (Err (halt.Stopped stop.NoMemory))
  none_ran rest old = nothing_yet (course step finish start (lines_of bytes)).effects (contents old) (contents old) refl

  -- the reader gave up
  pub gave_out : {last : Option (List ℕ)} (e : ReadStop) (old now : World) (state : A) (reader new_reader : LinesState) (later : Option (List ℕ))
      → Met step start bytes (Err e) (contents old) state reader new_reader later last (contents now) → Ran step finish start bytes later old now (Err (halt_of e))
  gave_out read.ReadFault old now state reader new_reader later m = (cut_off step finish start bytes old now state m.left m.more later (Err read.ReadFault) reader new_reader m.at m.step_made m.step_made.answers.0).0
  gave_out read.TooLong old now state reader new_reader later m =
      let cut = cut_off step finish start bytes old now state m.left m.more later (Err read.TooLong) reader new_reader m.at m.step_made m.step_made.answers.0 in
      (cut.0, cut.1 ∙ m.step_made.answers.1)
  gave_out read.NoMemory old now state reader new_reader later m = idle (Err read.NoMemory) old now state reader new_reader later m

  -- the answer of a line stopped
  pub line_stops : {last : Option (List ℕ)} (line : List ℕ) (old now new : World) (state self : A) (reader new_reader : LinesState) (later : Option (List ℕ)) (e : LineStop)
      → Met step start bytes (Ok (Line line)) (contents old) state reader new_reader later last (contents now) → Answered (step state line) now new self (Err e) → Ran step finish start bytes later old new (Err (halt_of_line e))
  line_stops line old now new state self reader new_reader later (line_stop.Stopped e) m h =
      mid_stop step finish start (lines_of bytes) (contents old) state line (lines_of (ahead new_reader m.more)) (contents now) (contents new) (line_mid line (contents old) state reader new_reader later (contents now) m) (stops (step state line) now new self (line_stop.Stopped e) h)
  line_stops line old now new state self reader new_reader later line_stop.DiskFault m h =
      let mid = line_mid line (contents old) state reader new_reader later (contents now) m in
      record { answered = mid.lines; line = line; more = lines_of (ahead new_reader m.more); are = mid.are; effects = mid.effects; state = state; goes = mid.answered; done = held_up (step state line) now new self h ∙ mid.done }

  -- it ended the run
  pub line_ends : {last : Option (List ℕ)} (line : List ℕ) (old now new : World) (state self : A) (reader new_reader : LinesState) (later : Option (List ℕ)) (v : Verdict)
      → Met step start bytes (Ok (Line line)) (contents old) state reader new_reader later last (contents now) → Answered (step state line) now new self (Ok (Some v)) → Ran step finish start bytes later old new (Ok v)
  line_ends line old now new state self reader new_reader later v m h =
      let did = halts (step state line) now new self v h in
      mid_halt step finish start (lines_of bytes) (contents old) state line (lines_of (ahead new_reader m.more)) (contents now) (contents new) did.0 v (line_mid line (contents old) state reader new_reader later (contents now) m) did.1 did.2

  -- the input ended, and all of it was read
  read_whole : (old : Contents) (state : A) (reader new_reader : LinesState) (later last : Option (List ℕ)) (now : Contents) (r : Result Next ReadStop) → Met step start bytes r old state reader new_reader later last now → IsWithinLimit new_reader → new_reader.ended ≡ true → IsReadWhole bytes later
  read_whole old state reader new_reader later last now r m within ended =
      let none : m.more ≡ [] = m.step_made.end m.at.end ended in
      let all : bytes ≡ m.at.taken ++ m.step_made.part = m.at.split ∙ ap (λ (t : List ℕ). m.at.taken ++ t) (m.step_made.split ∙ ap (λ (t : List ℕ). m.step_made.part ++ t) none ∙ append-nil m.step_made.part) in
      record { read = m.step_made.told ∙ ap Some none; few = omega (arith, ap length all, length-append m.at.taken m.step_made.part, m.at.count, m.step_made.count, within.ended ended) }

  ended_by : (line : List ℕ) (old : Contents) (state : A) (now : Contents) (reader new_reader : LinesState) (later last : Option (List ℕ))
      → Met step start bytes (Ok (Line line)) old state reader new_reader later last now → IsWithinLimit new_reader → (es : List Effect) (v : Verdict) → step state line ≡ Finishes es v → EndedByLine step start bytes later last
  ended_by line old state now reader new_reader later last m within es v ends =
      let f = front_more m.at.taken m.left m.step_made.part line m.at.lines (lines_of (ahead new_reader m.more)) reader new_reader m.at.front m.step_made.answers m.next in
      let behind = left_came (reader.left ++ m.step_made.part) line last new_reader m.seen m.step_made.answers in
      record {
        answered = f.0.bytes;
        piece = new_reader.left;
        left = m.more;
        split = m.at.split ∙ ap (λ (t : List ℕ). m.at.taken ++ t) m.step_made.split ∙ sym (append_assoc m.at.taken m.step_made.part m.more) ∙ ap (λ (t : List ℕ). t ++ m.more) f.0.seen;
        remains = m.step_made.told;
        within = omega (arith, ap length f.0.seen, length-append m.at.taken m.step_made.part, m.at.count, m.step_made.count, within.taken);
        whole = elim f.1 [ inl feed ↦ inl feed | inr over ↦ inr (read_whole old state reader new_reader later last now (Ok (Line line)) m within over.0) ];
        few = behind.0;
        one_read = behind.1;
        effects = m.at.effects ++ es;
        status = v;
        ends = ap (λ (ls : List (List ℕ)). follow step ls (Continues [] start)) (sym f.0.lines_are) ∙ further step start state m.at.lines (line ∷ []) m.at.effects m.at.answered ∙ ap (prefixed m.at.effects) ends;
      }

  pub line_ends_all : (line : List ℕ) (old now new : World) (state self : A) (reader new_reader : LinesState) (later last : Option (List ℕ)) (v : Verdict)
      → Met step start bytes (Ok (Line line)) (contents old) state reader new_reader later last (contents now) → IsWithinLimit new_reader → Answered (step state line) now new self (Ok (Some v)) → IsReadOut step start bytes later last
  line_ends_all line old now new state self reader new_reader later last v m within h =
      let did = halts (step state line) now new self v h in
      record {
        read = λ effects end goes.
            absurd (mid_no_more step start (lines_of bytes) (contents old) state line (lines_of (ahead new_reader m.more)) (contents now) did.0 effects v end (line_mid line (contents old) state reader new_reader later (contents now) m) did.1 goes);
        ended = λ effects status goes. ended_by line (contents old) state (contents now) reader new_reader later last m within did.0 v did.1;
      }

  -- the run goes on after it
  pub line_more : (input : Option (List ℕ)) (line : List ℕ) (old now new : World) (state self : A) (reader new_reader : LinesState) (rest later was last : Option (List ℕ))
      → Stands step start input (contents old) state reader rest (contents now) → Seen reader.left was → Reads (Ok (Line line)) reader new_reader rest later was last → Answer (Ok (Line line)) reader new_reader rest later → Answered (step state line) now new self (Ok None)
      → input ≡ Some bytes → (left : List ℕ) × (later ≡ Some left) × Reached step start bytes (contents old) self new_reader left (contents new)
  line_more input line old now new state self reader new_reader rest later was last s seen reads answer h is =
      let m = meet (Ok (Line line)) input (contents old) state reader new_reader rest later was last (contents now) s seen reads answer is in
      let did = goes (step state line) now new self h in
      (m.more, m.step_made.told, reached_more step finish start bytes (contents old) state line m.left m.more later reader new_reader (contents now) (contents new) self did.0 m.at m.step_made m.next did.1 did.2)

  -- the input ended
  pub end_ran : {last : Option (List ℕ)} (old now new : World) (state : A) (reader new_reader : LinesState) (later : Option (List ℕ)) (r : Result Verdict Stop)
      → Met step start bytes (Ok End) (contents old) state reader new_reader later last (contents now) → Ended (finish state) now new r → Ran step finish start bytes later old new (as_halt r)
  end_ran old now new state reader new_reader later (Ok v) m h = mid_end step finish start (lines_of bytes) old state now new (Ok v) (end_mid (contents old) state reader new_reader later (contents now) m) h
  end_ran old now new state reader new_reader later (Err e) m h = mid_end step finish start (lines_of bytes) old state now new (Err e) (end_mid (contents old) state reader new_reader later (contents now) m) h

  pub end_all : (old : Contents) (state : A) (reader new_reader : LinesState) (later last : Option (List ℕ)) (now : Contents) → Met step start bytes (Ok End) old state reader new_reader later last now → IsWithinLimit new_reader → IsReadOut step start bytes later last
  unfolding end_mid mid_of
  end_all old state reader new_reader later last now m within =
      let mid = end_mid old state reader new_reader later now m in
      let goes : follow step (lines_of bytes) (Continues [] start) ≡ Continues mid.effects state = ap (λ (ls : List (List ℕ)). follow step ls (Continues [] start)) (mid.are ∙ append-nil mid.lines) ∙ mid.answered in
      record { read = λ effects end ends. read_whole old state reader new_reader later last now (Ok End) m within m.step_made.answers.2; ended = λ effects status ends. absurd (cc) }

  took_little : (old now new : World) (state : A) (reader : LinesState) (left part more : List ℕ) (later last : Option (List ℕ)) (long : Bool) (es : List Effect) (r : Reached step start bytes (contents old) state reader left (contents now))
      → left ≡ part ++ more → later ≡ Some more → Seen (reader.left ++ part) last → IsDue long (r.taken ++ part) (reader.left ++ part) → (course step finish start (lines_of bytes)).effects ≡ r.effects ++ es → Partly es (contents now) (contents new)
      → TookLittle step finish start bytes later last old new long
  took_little old now new state reader left part more later last long es r split told s due all did = record {
    answered = r.front.bytes;
    line = s.line;
    piece = s.piece;
    left = more;
    split = r.split ∙ ap (λ (t : List ℕ). r.taken ++ t) split ∙ sym (append_assoc r.taken part more) ∙ ap (λ (t : List ℕ). t ++ more) taken_are;
    remains = told;
    one_line = s.one_line;
    few = s.few;
    one_read = s.one_read;
    due = subst (λ (t : List ℕ). IsDue long t (s.line ++ s.piece)) taken_are (subst (λ (u : List ℕ). IsDue long (r.taken ++ part) u) s.are due);
    effects = r.effects;
    later = es;
    state = state;
    goes = ap (λ (ls : List (List ℕ)). follow step ls (Continues [] start)) (sym r.front.lines_are) ∙ r.answered;
    all = all;
    did = subst (λ (c : Contents). Partly es c (contents new)) r.done did;
  }
    where
      taken_are : r.taken ++ part ≡ r.front.bytes ++ s.line ++ s.piece
      taken_are =
          ap (λ (t : List ℕ). t ++ part) r.front.seen
          ∙ append_assoc r.front.bytes reader.left part
          ∙ ap (λ (t : List ℕ). r.front.bytes ++ t) s.are
          ∙ sym (append_assoc r.front.bytes s.line s.piece)

  -- nothing was taken
  pub none_took : (rest last : Option (List ℕ)) (old : World) → rest ≡ Some bytes → TookLittle step finish start bytes rest last old old false
  none_took rest last old told = record {
    answered = [];
    line = [];
    piece = [];
    left = bytes;
    split = refl;
    remains = told;
    one_line = refl;
    few = omega arith;
    one_read = λ given gave. (given, sym (append-nil given));
    due = inl (omega arith);
    effects = [];
    later = (course step finish start (lines_of bytes)).effects;
    state = start;
    goes = refl;
    all = refl;
    did = nothing_yet (course step finish start (lines_of bytes)).effects (contents old) (contents old) refl;
  }

  -- how many bytes the reader took
  count_is : (r : Result Next ReadStop) (old : Contents) (state : A) (reader new_reader : LinesState) (later last : Option (List ℕ)) (now : Contents) → (m : Met step start bytes r old state reader new_reader later last now) → new_reader.taken ≡ length (m.at.taken ++ m.step_made.part)
  count_is r old state reader new_reader later last now m = omega (arith, m.at.count, m.step_made.count, length-append m.at.taken m.step_made.part)

  -- the reader gave up
  pub gave_out_took : (e : ReadStop) (old now : World) (state : A) (reader new_reader : LinesState) (later last : Option (List ℕ))
      → Met step start bytes (Err e) (contents old) state reader new_reader later last (contents now) → TookLittle step finish start bytes later last old now (is_too_long (halt_of e))
  unfolding mid_of
  gave_out_took e old now state reader new_reader later last m =
      let rest = course_goes_on step finish start (lines_of bytes) (contents old) state (lines_of (ahead reader m.left)) (contents now) (mid_of step finish start bytes (contents old) state reader m.left (contents now) (lines_of (ahead reader m.left)) m.at refl) in
      let due = due_by e (m.at.taken ++ m.step_made.part) (reader.left ++ m.step_made.part) new_reader m.step_made.answers (count_is (Err e) (contents old) state reader new_reader later last (contents now) m) in
      took_little old now now state reader m.left m.step_made.part m.more later last (is_too_long (halt_of e)) rest.0 m.at m.step_made.split m.step_made.told m.seen due rest.1 (nothing_yet rest.0 (contents now) (contents now) refl)

  -- the answer of a line stopped
  pub line_stops_took : (line : List ℕ) (old now new : World) (state self : A) (reader new_reader : LinesState) (later last : Option (List ℕ)) (e : LineStop)
      → Met step start bytes (Ok (Line line)) (contents old) state reader new_reader later last (contents now) → IsWithinLimit new_reader → Answered (step state line) now new self (Err e) → TookLittle step finish start bytes later last old new (is_too_long (halt_of_line e))
  unfolding line_mid mid_of
  line_stops_took line old now new state self reader new_reader later last e m within h =
      let mid = line_mid line (contents old) state reader new_reader later (contents now) m in
      let rest = line_goes_on step finish start (lines_of bytes) (contents old) state line (lines_of (ahead new_reader m.more)) (contents now) mid in
      let due = due_at_line e line (m.at.taken ++ m.step_made.part) (reader.left ++ m.step_made.part) new_reader m.step_made.answers within (count_is (Ok (Line line)) (contents old) state reader new_reader later last (contents now) m) in
      took_little old now new state reader m.left m.step_made.part m.more later last (is_too_long (halt_of_line e)) (effects_of (step state line) ++ rest.0) m.at m.step_made.split m.step_made.told
      (line_seen (reader.left ++ m.step_made.part) line last new_reader m.seen m.step_made.answers) due
      rest.1 (partly_more (effects_of (step state line)) rest.0 (contents now) (contents new) (stops (step state line) now new self e h))

  -- the end stopped
  pub end_took : (old now new : World) (state : A) (reader new_reader : LinesState) (later last : Option (List ℕ)) (e : Stop)
      → Met step start bytes (Ok End) (contents old) state reader new_reader later last (contents now) → IsWithinLimit new_reader → Ended (finish state) now new (Err e) → TookLittle step finish start bytes later last old new false
  unfolding end_mid mid_of
  end_took old now new state reader new_reader later last e m within h =
      let mid = end_mid (contents old) state reader new_reader later (contents now) m in
      took_little old now new state reader m.left m.step_made.part m.more later last false (finish state).effects m.at m.step_made.split m.step_made.told m.seen
      (inl (omega (arith, within.ended m.step_made.answers.2, count_is (Ok End) (contents old) state reader new_reader later last (contents now) m)))
      (ap (λ (x : Ending). x.effects) (mid_course step finish start (lines_of bytes) (contents old) state [] (contents now) mid)) h

pub line_stands : {A : Type 0} (step : A → List ℕ → Reply A) (finish : A → Ending) (start : A) (input : Option (List ℕ)) (line : List ℕ) (old now new : World) (state self : A) (reader new_reader : LinesState) (rest later was last : Option (List ℕ))
    → Stands step start input (contents old) state reader rest (contents now) → Seen reader.left was → Reads (Ok (Line line)) reader new_reader rest later was last → Answer (Ok (Line line)) reader new_reader rest later → Answered (step state line) now new self (Ok None)
    → Stands step start input (contents old) self new_reader later (contents new)
line_stands step finish start input line old now new state self reader new_reader rest later was last s seen reads answer h = record { told = λ bytes is. line_more step finish start bytes input line old now new state self reader new_reader rest later was last s seen reads answer h is }

-- an answer that is no line is the end
pub no_line : (next : Next) → ((line : List ℕ) → next ≡ Line line → ⊥) → next ≡ End
no_line (Line line) h = absurd (h line refl)
no_line End h = refl

-- fewer bytes are to be answered after a line
pub fewer : {was last : Option (List ℕ)} (line : List ℕ) (reader new_reader : LinesState) (rest later : Option (List ℕ)) → Reads (Ok (Line line)) reader new_reader rest later was last → IsWithinLimit new_reader → 4294967296 - new_reader.taken + length new_reader.left < 4294967296 - reader.taken + length reader.left
fewer line reader new_reader rest later reads within = elim reads.answers.1 [
  | inl whole ↦ omega (arith, reads.counted, within.taken, ap length whole, length-append reader.left reads.part, length-append line (10 ∷ new_reader.left))
  | inr last ↦ omega (arith, reads.counted, within.taken, ap length last.0, ap length last.2, length-append reader.left reads.part, some_length line last.1)
]
  where
    some_length : (xs : List ℕ) → (xs ≡ [] → ⊥) → 0 < length xs
    some_length [] h = absurd (h refl)
    some_length (x ∷ xs) h = omega arith
