-- The first step of a list of steps, part by part.
use Rattle.core_model.proofs.Words.{arith, Bool, true, false, ◌≡◌, List, [], ◌∷◌, ◌++◌, Option, Some, None, refl, cond}
use Rattle.core_model.proofs.Words.{Step, step_if, steps_if, or_else}

-- the first step, if there is one
abbrev pub head : List Step → Option Step
head [] = None
head (step ∷ steps) = Some step

pub head_append : (xs ys : List Step) → head (xs ++ ys) ≡ or_else (head xs) (head ys)
head_append xs ys = grind arith

pub head_step_if : (b : Bool) (step : Step) → head (step_if b step) ≡ cond b (Some step) None
head_step_if true step = refl
head_step_if false step = refl

pub head_steps_if : (b : Bool) (steps : List Step) → head (steps_if b steps) ≡ cond b (head steps) None
head_steps_if true steps = refl
head_steps_if false steps = refl
