-- What happens to an id after inittab was read, in terms of what a view keeps.
use Rattle.initview_lines.proofs.CommonWords.{◌≡◌, refl, sym, ◌∙◌, ap, ℕ, Bool, false, List, cond, Option, Some, None}
use Rattle.initview_lines.proofs.CommonWords.{option_map, option_map_or, Entry, entry_of, act_of, Event, table_of}
use Rattle.initview_lines.proofs.CommonWords.{Child, same_process, idle_entry, idle_change, stopped_change}
use Rattle.initview_lines.proofs.CommonWords.{kept_change, change_by, line_now}
use Rattle.init_words.specs.declared.actions.Act.{Act}
use Rattle.trace_events.specs.Wanted.{is_excluded}
use Rattle.trace_check.specs.Reading.{child_of}
use Rattle.trace_view.specs.Why.{number_of}
use Rattle.initview_lines.specs.declared.changes.Change.{Change}
use Rattle.initview_lines.specs.declared.changes.Change.TheVariants.{NotHere}
use Rattle.initview_lines.specs.declared.lines.Line.TheVariants as line

-- an entry that is found in the table
pub idle_found : (id : List ℕ) (past : List Event) (o : Option Entry) → entry_of id (table_of past) ≡ o
    → option_map_or (idle_entry past) o NotHere ≡ idle_change past id
idle_found id past o is = sym (ap (λ x. option_map_or (idle_entry past) x NotHere) is)

-- what happens to the child of an id
by_child : (past : List Event) (o : Option Child) (idle : Change) (same : Bool)
    → change_by (option_map number_of o) (option_map_or (is_excluded past) o false) idle same
    ≡ option_map_or (λ child. cond (is_excluded past child) (stopped_change idle) (kept_change same)) o idle
by_child past None idle same = refl
by_child past (Some child) idle same = refl

entries_same : (old : List Entry) (past : List Event) (id : List ℕ) (table : List Entry) (before after : Option Entry)
    (same : Bool) → before ≡ entry_of id old → after ≡ entry_of id table → table ≡ table_of past
    → same ≡ same_process before after → same ≡ same_process (entry_of id old) (entry_of id (table_of past))
entries_same old past id table before after same was is tables so = rw (so, was, is, tables) refl

pub line_is : (old : List Entry) (past : List Event) (id : List ℕ) (act : Option Act) (number shown : Option ℕ)
    (out : Bool) (idle change : Change) (table : List Entry) (before after : Option Entry) (same : Bool)
    → act ≡ act_of id (table_of past) → number ≡ option_map number_of (child_of id past)
    → shown ≡ option_map number_of (child_of id past)
    → out ≡ option_map_or (is_excluded past) (child_of id past) false → idle ≡ idle_change past id
    → before ≡ entry_of id old → after ≡ entry_of id table → table ≡ table_of past
    → same ≡ same_process before after → change ≡ change_by number out idle same
    → line.Change id act change shown ≡ line_now old past id
line_is old past id act number shown out idle change table before after same acts numbers shows outs idles was is
    tables so changes =
    let child : Option ℕ = option_map number_of (child_of id past) in
    let excluded : Bool = option_map_or (is_excluded past) (child_of id past) false in
    ap (λ x. line.Change id act x shown) changes
    ∙ ap (λ a. line.Change id a (change_by number out idle same) shown) acts
    ∙ ap (λ n. line.Change id (act_of id (table_of past)) (change_by n out idle same) shown) numbers
    ∙ ap (λ n. line.Change id (act_of id (table_of past)) (change_by child out idle same) n) shows
    ∙ ap (λ b. line.Change id (act_of id (table_of past)) (change_by child b idle same) child) outs
    ∙ ap (λ i. line.Change id (act_of id (table_of past)) (change_by child excluded i same) child) idles
    ∙ ap (λ b. line.Change id (act_of id (table_of past)) (change_by child excluded (idle_change past id) b) child)
    (entries_same old past id table before after same was is tables so)
    ∙ ap (λ x. line.Change id (act_of id (table_of past)) x child) (by_child past (child_of id past)
    (idle_change past id) (same_process (entry_of id old) (entry_of id (table_of past))))
