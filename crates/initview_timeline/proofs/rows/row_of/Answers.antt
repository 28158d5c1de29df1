use Rattle.initview_timeline.proofs.Words.{◌≡◌, ◌∙◌, ap, ℕ, Bool, List, [], ◌++◌, Some, append_assoc, Life}
use Rattle.initview_timeline.proofs.Words.{TimelineMark, Piece, State, lives_of, marks_for, Drawing, bars_of}
use Rattle.initview_timeline.proofs.Words.{marks_bars, marks_signs, signs_of, Scene, due_bars, is_waited, row_of}
use Rattle.initview_timeline.proofs.Words.{scene_of, shown_to, state_of}
use Rattle.initview_timeline.proofs.Parted.{own_same, bars_same, signs_same}
use Rattle.initview_timeline.specs.declared.rows.Row.{Row}
use Rattle.initview_timeline.proofs.rows.row_of.Goals as goal

behind : (xs ys zs one two three : List Piece) → one ≡ xs → two ≡ one ++ ys → three ≡ two ++ zs
    → three ≡ xs ++ (ys ++ zs)
behind xs ys zs one two three is so then =
    then ∙ ap (λ t. t ++ zs) (so ∙ ap (λ t. t ++ ys) is) ∙ append_assoc xs ys zs

-- the row with these parts
abbrev row_with : Scene → List ℕ → State → Bool → List Life → List Piece → List Piece → Row
row_with s id end waited lives bars signs = record {
  id = id;
  state = end;
  pieces = record {
    bars = due_bars end s ++ (bars_of s.end waited lives ++ bars);
    signs = signs_of s.end lives ++ signs;
  };
}

drawn : (id : List ℕ) (end : State) (pieces : Drawing) (bars signs : List Piece) → pieces.bars ≡ bars
    → pieces.signs ≡ signs → ◌≡◌ {A = Row} (record { id = id; state = end; pieces = pieces })
    (record { id = id; state = end; pieces = record { bars = bars; signs = signs } })
drawn id end pieces bars signs b s =
    ap (λ bs. record { id = id; state = end; pieces = record { bars = bs; signs = pieces.signs } }) b
    ∙ ap (λ ss. record { id = id; state = end; pieces = record { bars = bars; signs = ss } }) s

parts : (s : Scene) (id : List ℕ) (marks id_marks : List TimelineMark) (end : State) (waited : Bool) (lives : List Life)
    → shown_to id marks ≡ shown_to id s.marks → id_marks ≡ marks_for (Some id) marks → end ≡ state_of s id id_marks
    → waited ≡ is_waited id s.entries → lives ≡ lives_of id_marks → row_with s id end waited lives
    (marks_bars s.end (Some id) marks) (marks_signs s.end (Some id) marks) ≡ row_of s id
parts s id marks id_marks end waited lives shown marked ended waits lived =
    ap (λ bs. row_with s id end waited lives bs (marks_signs s.end (Some id) marks))
    (bars_same id marks s.marks shown s.end)
    ∙ ap (λ ss. row_with s id end waited lives bars ss) (signs_same id marks s.marks shown s.end)
    ∙ ap (λ w. row_with s id end w lives bars signs) waits
    ∙ ap (λ ls. row_with s id end (is_waited id s.entries) ls bars signs) (lived ∙ ap lives_of marks_are)
    ∙ ap (λ e. row_with s id e (is_waited id s.entries) (lives_of (marks_for (Some id) s.marks)) bars signs)
    (ended ∙ ap (λ o. state_of s id o) marks_are)
  where
    bars : List Piece
    bars = marks_bars s.end (Some id) s.marks

    signs : List Piece
    signs = marks_signs s.end (Some id) s.marks

    marks_are : id_marks ≡ marks_for (Some id) s.marks
    marks_are = marked ∙ own_same id marks s.marks shown

pub returns : goal.returns
returns c =
    let s = scene_of c.args.seen.now in
    let id = c.args.id in
    let marks = c.args.marks.now in
    let end = c.state_of-state.result in
    let lives = c.as_slice-3.result.now in
    drawn id end c.add_marks.new.self
    (due_bars end s ++ (bars_of s.end c.contains.result lives ++ marks_bars s.end (Some id) marks))
    (signs_of s.end lives ++ marks_signs s.end (Some id) marks)
    (behind (due_bars end s) (bars_of s.end c.contains.result lives) (marks_bars s.end (Some id) marks) _ _ _
    (c.in_ok-add_due.ensures.bars ∙ ap (λ (p : Drawing). p.bars ++ due_bars end s) c.new-pieces.ensures)
    c.in_ok-add_lives.ensures.bars c.in_ok-add_marks.ensures.bars)
    (behind [] (signs_of s.end lives) (marks_signs s.end (Some id) marks) _ _ _
    (c.in_ok-add_due.ensures.signs ∙ ap (λ (p : Drawing). p.signs) c.new-pieces.ensures)
    c.in_ok-add_lives.ensures.signs c.in_ok-add_marks.ensures.signs)
    ∙ parts s id marks c.in_ok-id_marks.id_marks.items end c.contains.result lives c.requires.shown
    c.in_ok-id_marks.ensures
    (c.state_of-state.ensures ∙ ap (λ o. state_of s id o) c.as_slice-2.ensures.value)
    (c.contains.ensures ∙ c.requires.common.waited id)
    (c.as_slice-3.ensures.value ∙ c.in_ok-lives.ensures ∙ ap lives_of c.as_slice.ensures.value)
