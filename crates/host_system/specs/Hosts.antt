-- The state of a host on the operating system.
use Rattle.std.specs.Prelude.{ℕ, Bool, true, false, List, Option}
use Rattle.init_words.specs.declared.orders.Answer.{Answer}
use Rattle.init_words.specs.declared.orders.Answer.TheVariants.{Born, NotBorn, Ended, Alive, NoLook, Hit, Miss}
use Rattle.host_calls.specs.declared.calls.Reply.{Reply}
use Rattle.host_calls.specs.declared.calls.Reply.TheVariants.{Now, Later}
use Rattle.host_calls.specs.Calls.{HostCall}
use Rattle.host_calls.specs.Held.{HeldChildren}
use Rattle.host_calls.specs.Settings.{HostSettings}
use Rattle.host_files.specs.Channels.{ChannelState}
use Rattle.host_system.specs.Delays.{DelayState}
use Rattle.host_system.specs.Systems.{SystemCall}

-- The state of a host:
-- - `faults`: the number of its calls that failed
-- - `strict`: init rejects an inittab with a faulty line
-- - `verbose`: the host reports the starts, ends and signals of children
-- - `inittab`: the path of its inittab
-- - `logs`: the folder for the logs, if the children's output goes to logs
-- - `groups`: each child has its own session, and signals go to its process group
-- - `delays`: the state on which the delays of starts depend
-- - `channel`: the request channel
-- - `held`: the children that it holds
-- - `calls`: the calls that it received, newest first
-- - `asked`: the calls that it made to the system, newest first
pub record HostState : Type 0 where
  pub faults : ℕ
  pub strict : Bool
  pub verbose : Bool
  pub inittab : List ℕ
  pub logs : Option (List ℕ)
  pub groups : Bool
  pub delays : DelayState
  pub channel : ChannelState
  pub held : HeldChildren
  pub calls : List HostCall
  pub asked : List SystemCall

-- the part of the state that no call changes
abbrev pub settings_of : HostState → HostSettings
settings_of host = record {
  inittab = host.inittab;
  logs = host.logs;
  groups = host.groups;
  respawn_delay = host.delays.longest;
  fresh = host.channel.fresh;
}

-- the answer is one that a start can have
abbrev pub is_start_answer : Answer → Bool
is_start_answer (Born number) = true
is_start_answer NotBorn = true
is_start_answer _ = false

-- the answer is one that a look can have
abbrev pub is_look_answer : Answer → Bool
is_look_answer (Ended status) = true
is_look_answer Alive = true
is_look_answer NoLook = true
is_look_answer _ = false

-- the answer is one that a signal can have
abbrev pub is_signal_answer : Answer → Bool
is_signal_answer Hit = true
is_signal_answer Miss = true
is_signal_answer _ = false

-- the host replied at once, with an answer of this kind
abbrev pub answers_with : (Answer → Bool) → Reply → Bool
answers_with kinds (Now answer) = kinds answer
answers_with kinds Later = false
