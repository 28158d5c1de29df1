-- Happenings in the form in which the definitions use them, with any allocator; and which of them are acts of the
-- system.
use Rattle.std.specs.Prelude.{ℕ, List, Option, Some, None}
use Rattle.trace_events.specs.Words.{Entry, Answer}
use Rattle.init_words.specs.declared.orders.Answer.TheVariants as answer
use Rattle.trace_events.specs.declared.happenings.Happening.{Happening}
use Rattle.trace_events.specs.declared.happenings.Happening.TheVariants.{Birth, NoBirth, Reaped, Still, NoLook, Hit}
use Rattle.trace_events.specs.declared.happenings.Happening.TheVariants.{Miss}

-- a happening whose table is a list of entries
abbrev pub Event : Type 0
Event = Happening (List Entry)

-- an act by which the system answers an order: the id that the order was about, and the answer
pub record SystemAct : Type 0 where
  pub id : List ℕ
  pub answer : Answer

-- an act on an order for the id, with this answer
abbrev pub act_on : List ℕ → Answer → Option SystemAct
act_on id given = Some (record { id = id; answer = given })

-- the act of the system that a happening records, if any; a death is not one, because it answers no order
abbrev pub act_in : Event → Option SystemAct
act_in (Birth id n) = act_on id (answer.Born n)
act_in (NoBirth id) = act_on id answer.NotBorn
act_in (Reaped id n status) = act_on id (answer.Ended status)
act_in (Still id) = act_on id answer.Alive
act_in (NoLook id) = act_on id answer.NoLook
act_in (Hit id) = act_on id answer.Hit
act_in (Miss id) = act_on id answer.Miss
act_in _ = None
