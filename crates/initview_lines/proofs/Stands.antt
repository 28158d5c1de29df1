-- What a view reports about a past.
use Rattle.initview_lines.proofs.CommonWords.{◌≡◌, refl, ap, ◌∙◌, ℕ, Bool, List, [], ◌∷◌, ◌++◌, Option, Level, Stage}
use Rattle.initview_lines.proofs.CommonWords.{Event, stage_of, grace_of, time_of, Row, row_of, is_announced}
use Rattle.initview_lines.proofs.CommonWords.{is_complete_now}
use Rattle.initview_lines.proofs.CommonWords.{asked_level, first_wish, Line, head_of, id_row, row_by}
use Rattle.std.proofs.lemmas.List.{append_assoc}
use Rattle.trace_view.specs.declared.wishes.Wish.{Wish}

-- a head followed by two lists of lines
pub whole : (head : Line) (entries ids zero one two three : List Line) → zero ≡ [] → one ≡ zero ++ head ∷ []
    → two ≡ one ++ entries → three ≡ two ++ ids → three ≡ head ∷ (entries ++ ids)
whole head entries ids zero one two three none a b c =
    c ∙ ap (λ t. t ++ ids) b ∙ append_assoc one entries ids
    ∙ ap (λ t. t ++ (entries ++ ids)) (a ∙ ap (λ t. t ++ head ∷ []) none)

pub row_is : (now grace : ℕ) (row : Row) (id : List ℕ) (past : List Event) → row ≡ row_of id past → now ≡ time_of past
    → grace ≡ grace_of past → row_by now grace id row ≡ id_row past id
row_is now grace row id past e1 e2 e3 = rw (e1, e2, e3) refl

pub head_is : (stage : Option Stage) (settled complete : Bool) (now grace : ℕ) (goal : Option Level)
    (wish : Option Wish) (past : List Event) → stage ≡ stage_of past → settled ≡ is_announced past
    → complete ≡ is_complete_now past → now ≡ time_of past
    → grace ≡ grace_of past → goal ≡ asked_level past → wish ≡ first_wish past
    → record {
      stage = stage;
      settled = settled;
      complete = complete;
      time = now;
      grace = grace;
      goal = goal;
      wish = wish;
    } ≡ head_of past
head_is stage settled complete now grace goal wish past e1 e2 e3 e4 e5 e6 e7 = rw (e1, e2, e3, e4, e5, e6, e7) refl
