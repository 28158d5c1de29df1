use Rattle.level_core.proofs.Words.{◌≡◌, Option, Some, None, refl, arith, option_or, unwrap_or, default_level_of}
use Rattle.level_core.proofs.Words.{order_new, opening_level}
use Rattle.init_words.specs.declared.levels.Level.{Level}
use Rattle.init_words.specs.declared.levels.Level.TheVariants.{S}
use Rattle.level_core.proofs.Places.{none_behind}
use Rattle.level_core.proofs.Kept.{timely_opening}
use Rattle.level_core.proofs.state.CoreValues.new_by_state.Goals as goal

pub invariant_of-result : goal.invariant_of-result
invariant_of-result g c = rw (c.opening.ensures, c.in_ok-slots.ensures.records) (
  omega arith,
  timely_opening 0 c.args.table,
  order_new c.args.table,
  refl,
  rw c.all.ensures none_behind,
  λ i lt. absurd (omega arith),
)

level_is : (given default : Option Level) → unwrap_or (option_or given default) S ≡ opening_level given default
level_is (Some level) default = refl
level_is None (Some level) = refl
level_is None None = refl

pub returns-clause-state : goal.returns-clause-state
returns-clause-state g c = rw (
  c.in_ok-slots.ensures.records,
  c.opening.ensures,
  c.unwrap_or-level.ensures,
  c.or.ensures,
  c.default_level.ensures,
  level_is c.args.level (default_level_of c.args.table),
) refl
