-- The answers after which a helper no longer watches exactly the children of the host.
use Rattle.std.specs.Prelude.{Bool, true, false}
use Rattle.init_words.specs.declared.orders.Answer.TheVariants.{Born, Ended}
use Rattle.host_calls.specs.declared.calls.Reply.{Reply}
use Rattle.host_calls.specs.declared.calls.Reply.TheVariants.{Now}

-- the reply is that a child was born or had ended
abbrev pub changes_children : Reply → Bool
changes_children (Now (Born number)) = true
changes_children (Now (Ended status)) = true
changes_children _ = false
