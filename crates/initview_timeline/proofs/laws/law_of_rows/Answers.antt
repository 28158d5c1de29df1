use Rattle.initview_timeline.proofs.Words.{◌≡◌, ◌∙◌, refl, sym, ap, ℕ, ◌+◌, Bool, true, false, if◌then◌else◌, List, []}
use Rattle.initview_timeline.proofs.Words.{◌∷◌, ◌++◌, Option, Some, None, append_assoc, arith, filter, length, map}
use Rattle.initview_timeline.proofs.Words.{length-append, Life, Shown, TimelineMark, Piece, State, is_for, last_after}
use Rattle.initview_timeline.proofs.Words.{life_after, lives_after, lives_from, lives_of, marks_for, bars_of}
use Rattle.initview_timeline.proofs.Words.{has_failed, life_bars, mark_bars, mark_signs, marks_bars}
use Rattle.initview_timeline.proofs.Words.{marks_signs, next_begin, signs_of, stop_bar, Scene, due_bars}
use Rattle.initview_timeline.proofs.Words.{due_from, is_waited, of_stage, state_of}
use Rattle.std.proofs.lemmas.List.{append-nil, map-append}
use Rattle.init_words.specs.declared.orders.SignalKind.TheVariants as sig
use Rattle.initview_timeline.specs.declared.marks.Shown.TheVariants.{Read, Entered, Settled, Born, NotBorn, Ended, Sent}
use Rattle.initview_timeline.specs.declared.marks.Shown.TheVariants.{Held}
use Rattle.initview_timeline.specs.declared.rows.State.TheVariants as state
use Rattle.initview_timeline.specs.Laws.{birth_at, births, is_fault, life_from, lives_drawn, id_marks, says_fault}
use Rattle.initview_timeline.proofs.laws.law_of_rows.Goals as goal

abbrev key : Life → ℕ × ℕ
key l = (l.number, l.from)

drawn_behind : (ps qs : List Piece) → lives_drawn (ps ++ qs) ≡ lives_drawn ps ++ lives_drawn qs
drawn_behind [] qs = refl
drawn_behind (p ∷ ps) qs =
    ap (λ t. life_from p.from p.what ++ t) (drawn_behind ps qs)
    ∙ sym (append_assoc (life_from p.from p.what) (lives_drawn ps) (lives_drawn qs))

-- a life has one bar of a life, and a mark has none
no_stop : (last : ℕ) (l : Life) (term : Option ℕ) → lives_drawn (stop_bar last l term) ≡ []
no_stop last l None = refl
no_stop last l (Some term) = refl

one_life : (last : ℕ) (waited : Bool) (l : Life) → lives_drawn (life_bars last waited l) ≡ key l ∷ []
one_life last true l = ap (λ t. key l ∷ t) (no_stop last l l.term)
one_life last false l = ap (λ t. key l ∷ t) (no_stop last l l.term)

all_lives : (last : ℕ) (waited : Bool) (ls : List Life) → lives_drawn (bars_of last waited ls) ≡ map key ls
all_lives last waited [] = refl
all_lives last waited (l ∷ ls) =
    drawn_behind (life_bars last waited l) (bars_of last waited ls)
    ∙ ap (λ t. t ++ lives_drawn (bars_of last waited ls)) (one_life last waited l)
    ∙ ap (λ t. key l ∷ t) (all_lives last waited ls)

no_mark : (next time : ℕ) (what : Shown) → lives_drawn (mark_bars next time what) ≡ []
no_mark next time Read = refl
no_mark next time (Entered stage) = refl
no_mark next time (Settled level) = refl
no_mark next time (Born id number) = refl
no_mark next time (NotBorn id) = refl
no_mark next time (Ended id number status) = refl
no_mark next time (Sent id signal) = refl
no_mark next time (Held id) = refl

no_mark_if : (id_marks : Bool) (next time : ℕ) (what : Shown)
    → lives_drawn (if id_marks then mark_bars next time what else []) ≡ []
no_mark_if true next time what = no_mark next time what
no_mark_if false next time what = refl

no_marks : (last : ℕ) (id : Option (List ℕ)) (marks : List TimelineMark) → lives_drawn (marks_bars last id marks) ≡ []
no_marks last id [] = refl
no_marks last id (m ∷ later) =
    drawn_behind (if is_for id m.what then mark_bars (next_begin last id later) m.time m.what else [])
    (marks_bars last id later)
    ∙ ap (λ t. t ++ lives_drawn (marks_bars last id later))
    (no_mark_if (is_for id m.what) (next_begin last id later) m.time m.what)
    ∙ no_marks last id later

no_due_from : (end : ℕ) (marks : List TimelineMark) → lives_drawn (due_from end marks) ≡ []
no_due_from end [] = refl
no_due_from end (m ∷ marks) = refl

no_due : (end : State) (s : Scene) → lives_drawn (due_bars end s) ≡ []
no_due state.Due s = no_due_from s.end (of_stage s.marks s.marks)
no_due state.Runs s = refl
no_due state.Stopping s = refl
no_due state.Stopped s = refl
no_due (state.Ended status) s = refl
no_due state.Held s = refl

row_lives : (end : State) (s : Scene) (waited : Bool) (ls : List Life) (id : Option (List ℕ)) (marks : List
    TimelineMark) → lives_drawn (due_bars end s ++ (bars_of s.end waited ls ++ marks_bars s.end id marks)) ≡ map key ls
row_lives end s waited ls id marks =
    drawn_behind (due_bars end s) (bars_of s.end waited ls ++ marks_bars s.end id marks)
    ∙ ap (λ t. t ++ lives_drawn (bars_of s.end waited ls ++ marks_bars s.end id marks)) (no_due end s)
    ∙ drawn_behind (bars_of s.end waited ls) (marks_bars s.end id marks)
    ∙ ap (λ t. lives_drawn (bars_of s.end waited ls) ++ t) (no_marks s.end id marks)
    ∙ append-nil (lives_drawn (bars_of s.end waited ls)) ∙ all_lives s.end waited ls

-- each birth begins a life, and no other mark does
same_life : (l : Life) (time : ℕ) (what : Shown) → key (life_after l time what) ≡ key l
same_life l time Read = refl
same_life l time (Entered stage) = refl
same_life l time (Settled level) = refl
same_life l time (Born id number) = refl
same_life l time (NotBorn id) = refl
same_life l time (Ended id number status) = refl
same_life l time (Sent id sig.Term) = refl
same_life l time (Sent id sig.Kill) = refl
same_life l time (Held id) = refl

same_lives : (ls : List Life) (time : ℕ) (what : Shown) → map key (last_after ls time what) ≡ map key ls
same_lives [] time what = refl
same_lives (l ∷ []) time what = ap (λ k. k ∷ []) (same_life l time what)
same_lives (l ∷ m ∷ ls) time what = ap (λ t. key l ∷ t) (same_lives (m ∷ ls) time what)

no_more : (ls : List Life) (time : ℕ) (what : Shown) → map key (last_after ls time what) ≡ map key ls ++ []
no_more ls time what = same_lives ls time what ∙ sym (append-nil (map key ls))

one_more : (ls : List Life) (time : ℕ) (what : Shown)
    → map key (lives_after ls time what) ≡ map key ls ++ birth_at time what
one_more ls time Read = no_more ls time Read
one_more ls time (Entered stage) = no_more ls time (Entered stage)
one_more ls time (Settled level) = no_more ls time (Settled level)
one_more ls time (Born id number) =
    map-append key ls (record { number = number; from = time; term = None; end = None } ∷ [])
one_more ls time (NotBorn id) = no_more ls time (NotBorn id)
one_more ls time (Ended id number status) = no_more ls time (Ended id number status)
one_more ls time (Sent id signal) = no_more ls time (Sent id signal)
one_more ls time (Held id) = no_more ls time (Held id)

all_births : (ls : List Life) (marks : List TimelineMark) → map key (lives_from ls marks) ≡ map key ls ++ births marks
all_births ls [] = sym (append-nil (map key ls))
all_births ls (m ∷ marks) =
    all_births (lives_after ls m.time m.what) marks ∙ ap (λ t. t ++ births marks) (one_more ls m.time m.what)
    ∙ append_assoc (map key ls) (birth_at m.time m.what) (births marks)

pub returns-clause-lives : goal.returns-clause-lives
returns-clause-lives c = λ s id.
    row_lives (state_of s id (id_marks s id)) s (is_waited id s.entries) (lives_of (id_marks s id)) (Some id) s.marks
    ∙ all_births [] (id_marks s id)

-- a failed life has one sign, and so has each fault among the marks
count_more : (b : Bool) (p : Piece) (signs : List Piece) (n : ℕ) → length signs ≡ n
    → length ((if b then p ∷ [] else []) ++ signs) ≡ (if b then 1 + n else n)
count_more true p signs n e = grind (arith, e)
count_more false p signs n e = e

count_same : (b : Bool) (signs : List Piece) (n : ℕ) → length signs ≡ n → length ((if b then [] else []) ++ signs) ≡ n
count_same true signs n e = e
count_same false signs n e = e

kept_more : {X : Type 0} (b : Bool) (x : X) (xs : List X)
    → (if b then 1 + length xs else length xs) ≡ length (if b then x ∷ xs else xs)
kept_more true x xs = grind arith
kept_more false x xs = refl

life_faults : (last : ℕ) (ls : List Life) → length (signs_of last ls) ≡ length (filter has_failed ls)
life_faults last [] = refl
life_faults last (l ∷ ls) =
    count_more (has_failed l) _ (signs_of last ls) (length (filter has_failed ls)) (life_faults last ls)
    ∙ kept_more (has_failed l) l (filter has_failed ls)

-- the number of faults with one more mark
abbrev with_if : Bool → Bool → ℕ → ℕ
with_if id_marks fault n = if id_marks then (if fault then 1 + n else n) else n

same_if : (id_marks : Bool) (n m : ℕ) → m ≡ n → m ≡ with_if id_marks false n
same_if true n m e = e
same_if false n m e = e

one_mark : (id : List ℕ) (next time : ℕ) (what : Shown) (signs : List Piece) (n : ℕ) → length signs ≡ n
    → length ((if is_for (Some id) what then mark_signs next time what else []) ++ signs)
    ≡ with_if (is_for (Some id) what) (says_fault what) n
one_mark id next time Read signs n e = e
one_mark id next time (Entered stage) signs n e = e
one_mark id next time (Settled level) signs n e = e
one_mark id next time (Born i number) signs n e =
    same_if (is_for (Some id) (Born i number)) n _ (count_same (is_for (Some id) (Born i number)) signs n e)
one_mark id next time (NotBorn i) signs n e = count_more (is_for (Some id) (NotBorn i)) _ signs n e
one_mark id next time (Ended i number status) signs n e = same_if (is_for (Some id) (Ended i number status)) n _
    (count_same (is_for (Some id) (Ended i number status)) signs n e)
one_mark id next time (Sent i sig.Term) signs n e =
    same_if (is_for (Some id) (Sent i sig.Term)) n _ (count_same (is_for (Some id) (Sent i sig.Term)) signs n e)
one_mark id next time (Sent i sig.Kill) signs n e = count_more (is_for (Some id) (Sent i sig.Kill)) _ signs n e
one_mark id next time (Held i) signs n e =
    same_if (is_for (Some id) (Held i)) n _ (count_same (is_for (Some id) (Held i)) signs n e)

kept_fault : (id_marks : Bool) (m : TimelineMark) (ms : List TimelineMark)
    → with_if id_marks (is_fault m) (length (filter is_fault ms))
    ≡ length (filter is_fault (if id_marks then m ∷ ms else ms))
kept_fault true m ms = kept_more (is_fault m) m (filter is_fault ms)
kept_fault false m ms = refl

mark_faults : (last : ℕ) (id : List ℕ) (marks : List TimelineMark)
    → length (marks_signs last (Some id) marks) ≡ length (filter is_fault (marks_for (Some id) marks))
mark_faults last id [] = refl
mark_faults last id (m ∷ later) =
    one_mark id (next_begin last (Some id) later) m.time m.what (marks_signs last (Some id) later)
    (length (filter is_fault (marks_for (Some id) later))) (mark_faults last id later)
    ∙ kept_fault (is_for (Some id) m.what) m (marks_for (Some id) later)

pub returns-clause-faults : goal.returns-clause-faults
returns-clause-faults c = λ s id.
    length-append (signs_of s.end (lives_of (id_marks s id))) (marks_signs s.end (Some id) s.marks)
    ∙ ap (λ n. n + length (marks_signs s.end (Some id) s.marks)) (life_faults s.end (lives_of (id_marks s id)))
    ∙ ap (λ n. length (filter has_failed (lives_of (id_marks s id))) + n) (mark_faults s.end id s.marks)
