-- The state of a view of a trace, and the trace that it has seen.
use Rattle.std.specs.Prelude.{◌≡◌, ℕ, Bool, not, List, [], ◌∷◌, Option, Some, None}
use Rattle.trace_view.specs.Words.{Entry, Stage, entry_of, act_of, Event, Child, unreaped_children, kept_children}
use Rattle.trace_view.specs.Words.{may_live, Law, at}
use Rattle.trace_check.specs.Judging.{Judging, Judged, unjudged}
use Rattle.trace_events.specs.declared.call_sets.CallSet.{CallSet}
use Rattle.trace_view.specs.declared.wishes.Wishes.{Wishes}
use Rattle.trace_view.specs.declared.rows.Births.{Births}
use Rattle.trace_view.specs.declared.rows.Ending.{Ending}
use Rattle.trace_view.specs.Births.{births_of, early_children}
use Rattle.trace_view.specs.Calls.{calls_of}
use Rattle.trace_view.specs.Rows.{ended_of}
use Rattle.trace_view.specs.Wishes.{wishes_of}

-- the judge; the unreaped and the kept children, youngest first; the pending requests; the calls of entries; the births
-- of each id; the children born before the first level; and how and when each id last ended
pub record ViewState : Type 0 where
  pub judging : Judging
  pub unreaped : List Child
  pub kept : List Child
  pub wishes : Wishes
  pub calls : CallSet
  pub births : List (List ℕ × Births)
  pub early : List Child
  pub ends : List (List ℕ × Ending)

-- the state before the first happening
abbrev pub unviewed : ViewState
unviewed = record {
  judging = unjudged;
  unreaped = [];
  kept = [];
  wishes = wishes_of [];
  calls = calls_of [];
  births = [];
  early = [];
  ends = [];
}

-- the view has seen this past, newest happening first, and the past breaks no law
pub record Viewed (view : ViewState) (past : List Event) : Type 0 where
  pub judged : Judged view.judging past
  pub unreaped : view.unreaped ≡ unreaped_children past
  pub kept : view.kept ≡ kept_children past
  pub wishes : view.wishes ≡ wishes_of past
  pub calls : view.calls ≡ calls_of past
  pub births : (id : List ℕ) → at id view.births ≡ births_of id past
  pub early : view.early ≡ early_children past
  pub ends : (id : List ℕ) → at id view.ends ≡ ended_of id past

-- the view after a happening: if the happening breaks no law, the view has seen it too; otherwise the view is unchanged
abbrev pub ViewAfterHappening : Option Law → ViewState → ViewState → Event → Type 0
ViewAfterHappening None old new happening = (past : List Event) → Viewed old past → Viewed new (happening ∷ past)
ViewAfterHappening (Some law) old new happening = new ≡ old

-- the child that a birth adds, with the action that this table has for its id
abbrev pub newborn_in : List Entry → List ℕ → ℕ → Child
newborn_in table id number = record { id = id; number = number; act = act_of id table }

-- the child is excluded in this stage by this table
abbrev pub is_excluded_by : List Entry → Option Stage → Child → Bool
is_excluded_by table stage child = not (may_live (entry_of child.id table) child.act stage)
