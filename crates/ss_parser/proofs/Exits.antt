-- What the exits of a function owe.
use Rattle.std.proofs.Common.{List, Result, Ok, Err, Bool, true, false, inr}
use Rattle.ss_lexer.specs.Lexemes.{Piece}
use Rattle.ss_parser.specs.declared.fault.ParseStop.{ParseStop}
use Rattle.ss_parser.specs.declared.fault.ParseStop.TheVariants.{Unexpected, TooDeep, NoMemory}
use Rattle.ss_parser.specs.Phrases.{Phrase, ◌>>=◌}
use Rattle.ss_parser.specs.Parses.{Parses}

-- where a part stops, the whole stops
pub stops_with : {X Y A B : Type 0} (view : X → A) (view' : Y → B) (p : Phrase Piece A) (q : Phrase Piece B) (old mid new : List Piece) → ((deep : Bool) → p.stops deep mid new → q.stops deep old new) → (e : ParseStop) → Parses view p mid new (Err e) → Parses view' q old new (Err e)
stops_with view view' p q old mid new f Unexpected h = f false h
stops_with view view' p q old mid new f TooDeep h = f true h
stops_with view view' p q old mid new f NoMemory h = tt

-- one phrase is read, and what another answers behind it is answered
pub then_goes : {X A B : Type 0} (view : X → B) (p : Phrase Piece A) (f : A → Phrase Piece B) (old mid new : List Piece) (a : A) → p.reads old a mid → (r : Result X ParseStop) → Parses view (f a) mid new r → Parses view (p >>= f) old new r
then_goes view p f old mid new a h (Ok x) k = (a, mid, h, k)
then_goes view p f old mid new a h (Err Unexpected) k = inr (a, mid, h, k)
then_goes view p f old mid new a h (Err TooDeep) k = inr (a, mid, h, k)
then_goes view p f old mid new a h (Err NoMemory) k = tt

-- the same up to the end
