use Rattle.initview_command.proofs.Words.{◌≡◌, ◌∙◌, ap, ℕ, Bool, List, Option, Event, SeenMarks, marks_of}
use Rattle.init_words.specs.declared.entries.Entry.{Entry}
use Rattle.init_words.specs.declared.stages.Stage.{Stage}
use Rattle.trace_events.specs.Past.{stage_of, table_of, time_of}
use Rattle.trace_events.specs.Due.{is_announced}
use Rattle.trace_view.specs.Rows.{is_complete_now}
use Rattle.initview_timeline.specs.declared.marks.TimelineMark.{TimelineMark}
use Rattle.initview_timeline.specs.Marks.{start_of}
use Rattle.initview_timeline.specs.Rows.{Scene, drawn_of}
use Rattle.initview_command.proofs.charting.seen_by.Goals as goal

scene_is : (entries : List Entry) (marks : List TimelineMark) (stage : Option Stage) (settled complete : Bool)
    (start : Option ℕ) (end : ℕ) (past : List Event) → entries ≡ table_of past → marks ≡ marks_of past
    → stage ≡ stage_of past → settled ≡ is_announced past → complete ≡ is_complete_now past
    → start ≡ start_of past → end ≡ time_of past
    → ◌≡◌ {A = Scene} (record {
      entries = entries;
      marks = marks;
      stage = stage;
      settled = settled;
      complete = complete;
      start = start;
      end = end;
    }) (drawn_of past)
scene_is entries marks stage settled complete start end past e1 e2 e3 e4 e5 e6 e7 =
    rw (e1, e2, e3, e4, e5, e6, e7)

pub returns : goal.returns
returns c = λ past seen marked.
    scene_is _ _ _ _ _ _ _ past (c.entries.ensures.value ∙ c.table.ensures.value past seen)
    (c.as_slice.ensures ∙ ap (λ (m : SeenMarks). m.marks) marked)
    (c.stage.ensures past seen) (c.is_settled.ensures past seen) (c.is_complete.ensures past seen)
    (c.start.ensures ∙ ap (λ (m : SeenMarks). m.start) marked) (c.time.ensures past seen)
