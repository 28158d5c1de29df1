-- Equality tests for orders, stages, power events and answers, and which kinds of order each answer fits.
use Rattle.std.specs.Prelude.{Bool, true, false}
use Rattle.init_words.specs.declared.orders.OrderKind.{OrderKind}
use Rattle.init_words.specs.declared.orders.OrderKind.TheVariants.{Start, Look, Term, Kill}
use Rattle.init_words.specs.declared.orders.Answer.{Answer}
use Rattle.init_words.specs.declared.orders.Answer.TheVariants.{Born, NotBorn, Ended, Alive, NoLook, Hit, Miss}
use Rattle.init_words.specs.declared.orders.PowerKind.{PowerKind}
use Rattle.init_words.specs.declared.orders.PowerKind.TheVariants as power
use Rattle.init_words.specs.declared.stages.Stage.{Stage}
use Rattle.init_words.specs.declared.stages.Stage.TheVariants as stage
use Rattle.init_words.specs.Levels.{same_level}

abbrev pub same_ask : OrderKind → OrderKind → Bool
same_ask Start Start = true
same_ask Look Look = true
same_ask Term Term = true
same_ask Kill Kill = true
same_ask _ _ = false

abbrev pub same_power : PowerKind → PowerKind → Bool
same_power power.Fail power.Fail = true
same_power power.FailNow power.FailNow = true
same_power power.Ok power.Ok = true
same_power _ _ = false

abbrev pub same_stage : Stage → Stage → Bool
same_stage stage.Sysinit stage.Sysinit = true
same_stage stage.Boot stage.Boot = true
same_stage (stage.Run k) (stage.Run l) = same_level k l
same_stage _ _ = false

-- the answer fits an order of this kind
abbrev pub answers : Answer → OrderKind → Bool
answers (Born n) Start = true
answers NotBorn Start = true
answers (Ended status) Look = true
answers Alive Look = true
answers NoLook Look = true
answers Hit Term = true
answers Hit Kill = true
answers Miss Term = true
answers Miss Kill = true
answers _ _ = false

-- the answer that a signal was sent
abbrev pub is_hit : Answer → Bool
is_hit Hit = true
is_hit _ = false

-- the answer that a signal could not be sent
abbrev pub is_miss : Answer → Bool
is_miss Miss = true
is_miss _ = false
