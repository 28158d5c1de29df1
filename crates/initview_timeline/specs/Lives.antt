-- The data of a timeline about an id: the lifetimes of its children, and the other marks about it.
use Rattle.std.specs.Prelude.{ℕ, Bool, true, false, filter, if◌then◌else◌, List, [], ◌∷◌, ◌++◌, Option, Some, None}
use Rattle.std.specs.List.{list_any}
use Rattle.std.specs.Option.{option_or}
use Rattle.init_words.specs.Ids.{same_id}
use Rattle.init_words.specs.declared.orders.SignalKind.TheVariants as sig
use Rattle.initview_timeline.specs.declared.marks.Shown.{Shown}
use Rattle.initview_timeline.specs.declared.marks.Shown.TheVariants.{Read, Entered, Settled, Born, NotBorn, Ended, Sent}
use Rattle.initview_timeline.specs.declared.marks.Shown.TheVariants.{Held}
use Rattle.initview_timeline.specs.declared.marks.TimelineMark.{TimelineMark}
use Rattle.initview_timeline.specs.declared.lives.Life.{Life}

-- the id that the event is about; none for a table or a stage
abbrev pub id_of : Shown → Option (List ℕ)
id_of Read = None
id_of (Entered stage) = None
id_of (Settled level) = None
id_of (Born id number) = Some id
id_of (NotBorn id) = Some id
id_of (Ended id number status) = Some id
id_of (Sent id signal) = Some id
id_of (Held id) = Some id

-- the two are the same id, or neither is an id; no id means the row for the stages
abbrev pub same_row : Option (List ℕ) → Option (List ℕ) → Bool
same_row None None = true
same_row (Some id) (Some other) = same_id id other
same_row _ _ = false

-- the ids, followed by the given one if it is not among them
abbrev pub with_id : List (List ℕ) → Option (List ℕ) → List (List ℕ)
with_id found None = found
with_id found (Some id) = if list_any (same_id id) found then found else found ++ id ∷ []

-- the ids, followed by the new ids in the marks, each once, in order
abbrev pub ids_from : List (List ℕ) → List TimelineMark → List (List ℕ)
ids_from found [] = found
ids_from found (mark ∷ marks) = ids_from (with_id found (id_of mark.what)) marks

-- the event belongs to the row for the id, or, if no id is given, to the row for the stages
abbrev pub is_for : Option (List ℕ) → Shown → Bool
is_for id what = same_row id (id_of what)

-- the marks that belong to a row
abbrev pub marks_for : Option (List ℕ) → List TimelineMark → List TimelineMark
marks_for id marks = filter (λ (mark : TimelineMark). is_for id mark.what) marks

-- a life after a mark about its id, which may record the first SIGTERM or the end
abbrev pub life_after : Life → ℕ → Shown → Life
life_after l time (Sent id sig.Term) =
    record { number = l.number; from = l.from; term = option_or l.term (Some time); end = l.end }
life_after l time (Ended id number status) =
    record {
      number = l.number;
      from = l.from;
      term = l.term;
      end = Some (record { status = Some status; time = time });
    }
life_after l time _ = l

-- the lives of an id's children after a mark about the id that belongs to the last life
abbrev pub last_after : List Life → ℕ → Shown → List Life
last_after [] time what = []
last_after (l ∷ []) time what = life_after l time what ∷ []
last_after (l ∷ m ∷ ls) time what = l ∷ last_after (m ∷ ls) time what

-- The lives of an id's children after a mark about the id: a birth begins a life, and any other mark changes the last
-- life, because no id has two unreaped children.
abbrev pub lives_after : List Life → ℕ → Shown → List Life
lives_after ls time (Born id number) = ls ++ record { number = number; from = time; term = None; end = None } ∷ []
lives_after ls time what = last_after ls time what

abbrev pub lives_from : List Life → List TimelineMark → List Life
lives_from ls [] = ls
lives_from ls (mark ∷ marks) = lives_from (lives_after ls mark.time mark.what) marks

-- the lives of an id's children, oldest first, given the marks about the id
abbrev pub lives_of : List TimelineMark → List Life
lives_of marks = lives_from [] marks
