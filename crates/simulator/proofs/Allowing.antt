-- The state objects exactly to the happenings that may not come.
use Rattle.simulator.proofs.Words.{◌≡◌, refl, sym, ◌∙◌, ap, ℕ, ◌==◌, Bool, true, false, not, ◌&&◌, List, ◌||◌, cond}
use Rattle.simulator.proofs.Words.{Option, Some, None, find, is_none, is_some, list_any, option_map, option_map_or}
use Rattle.simulator.proofs.Words.{Start, Look, Term, Kill, same_id, Birth, NoBirth, Death, Reaped, Still, NoLook, Hit}
use Rattle.simulator.proofs.Words.{Miss, Told, Goal, Event, Child, has_number, is_child, is_dead, is_living, undone_of}
use Rattle.simulator.proofs.Words.{unreaped_children, is_order, may_come, is_sound, same_id-is, and_three, any_same}
use Rattle.simulator.proofs.Words.{answered_untold, Objection, SystemState, order_in, answer_in, child_in, is_living_in}
use Rattle.simulator.proofs.Words.{is_dead_in, is_script, unless, objection_to, Follows, simulated_child_of, lone_any}
use Rattle.std.proofs.Math.Bool.{and_comm}
use Rattle.simulator.specs.declared.objections.Objection.TheVariants as why
use Rattle.init_words.proofs.Tests.{none_found}
use Rattle.simulator.proofs.Numbers.{one_number}

living : (number : ℕ) (past : List Event) (o : Option Child) → option_map_or (λ child. not (is_dead child.id number
    past)) o false ≡ option_map_or (λ child. not child.is_dead) (option_map (simulated_child_of number past) o) false
living number past None = refl
living number past (Some child) = refl

same_living : (goal : Goal) (past : List Event) (side : SystemState) → is_sound goal past ≡ true → Follows side past
    → (number : ℕ) → is_living_in number side ≡ is_living number past
same_living goal past side sound fits number =
    ap (λ o. option_map_or (λ child. not child.is_dead) o false) (fits.children number)
    ∙ sym (lone_any (has_number number) (λ child. not (is_dead child.id number past)) (unreaped_children past)
    (one_number goal past sound number) ∙ living number past (find (has_number number) (unreaped_children past)))

dead : (id : List ℕ) (number : ℕ) (past : List Event) (o : Option Child)
    → (option_map_or (λ child. same_id id child.id) o false && is_dead id number past) ≡ option_map_or
    (λ child. same_id id child.id && child.is_dead) (option_map (simulated_child_of number past) o) false
dead id number past None = refl
dead id number past (Some child) = at_id (same_id id child.id) refl where
  at_id : (b : Bool) → same_id id child.id ≡ b → (b && is_dead id number past) ≡ (b && is_dead child.id number past)
  at_id true same = ap (λ x. is_dead x number past) (same_id-is id child.id same)
  at_id false differ = refl

its_child : (goal : Goal) (past : List Event) → is_sound goal past ≡ true → (id : List ℕ) (number : ℕ)
    → list_any (is_child id number) (unreaped_children past)
    ≡ option_map_or (λ child. same_id id child.id) (find (has_number number) (unreaped_children past)) false
its_child goal past sound id number = any_same (is_child id number) (λ child. has_number number child && same_id id
    child.id) (λ child. and_comm (same_id id child.id) (number == child.number)) (unreaped_children past) ∙ lone_any
    (has_number number) (λ child. same_id id child.id) (unreaped_children past) (one_number goal past sound number)

same_dead : (goal : Goal) (past : List Event) (side : SystemState) → is_sound goal past ≡ true → Follows side past
    → (id : List ℕ) (number : ℕ)
    → is_dead_in id number side ≡ (list_any (is_child id number) (unreaped_children past) && is_dead id number past)
same_dead goal past side sound fits id number = ap (λ o. option_map_or (λ child. same_id id child.id && child.is_dead) o
    false) (fits.children number) ∙ sym (ap (λ b. b && is_dead id number past) (its_child goal past sound id number)
    ∙ dead id number past (find (has_number number) (unreaped_children past)))

unless_none : (holds : Bool) (given : Objection) → is_none (unless holds given) ≡ holds
unless_none true given = refl
unless_none false given = refl

two_none : (first second : Bool) (given other : Objection)
    → is_none (cond first (unless second given) (Some other)) ≡ (first && second)
two_none true second given other = unless_none second given
two_none false second given other = refl

-- the state has no objection exactly if the happening may come
pub none_may : (goal : Goal) (past : List Event) (side : SystemState) → is_sound goal past ≡ true → Follows side past
    → (happening : Event)
    → is_none (objection_to side happening) ≡ (is_script happening && may_come goal happening past)
none_may goal past side sound fits (Birth id number) =
    two_none (is_order Start (order_in id side)) (is_none (child_in number side)) (why.NumberTaken number)
    (why.NoStart id) ∙ rw (fits.orders id, fits.children number) (ap (λ b. is_order Start (undone_of id past) && b)
    (none_found (simulated_child_of number past) (has_number number) (unreaped_children past)))
none_may goal past side sound fits (NoBirth id) =
    unless_none (is_order Start (order_in id side)) (why.NoStart id) ∙ rw (fits.orders id) refl
none_may goal past side sound fits (Death number) =
    unless_none (is_living_in number side) (why.NoneLiving number) ∙ same_living goal past side sound fits number
none_may goal past side sound fits (Reaped id number status) = two_none (is_order Look (order_in id side))
    (is_dead_in id number side) (why.NoneDead id number) (why.NoLook id) ∙ rw (fits.orders id) (ap
    (λ b. is_order Look (undone_of id past) && b) (same_dead goal past side sound fits id number) ∙ and_three (is_order
    Look (undone_of id past)) (list_any (is_child id number) (unreaped_children past)) (is_dead id number past))
none_may goal past side sound fits (Still id) =
    unless_none (is_order Look (order_in id side)) (why.NoLook id) ∙ rw (fits.orders id) refl
none_may goal past side sound fits (NoLook id) =
    unless_none (is_order Look (order_in id side)) (why.NoLook id) ∙ rw (fits.orders id) refl
none_may goal past side sound fits (Hit id) = unless_none
    (is_order Term (order_in id side) || is_order Kill (order_in id side)) (why.NoSignal id) ∙ rw (fits.orders id) refl
none_may goal past side sound fits (Miss id) = unless_none
    (is_order Term (order_in id side) || is_order Kill (order_in id side)) (why.NoSignal id) ∙ rw (fits.orders id) refl
none_may goal past side sound fits (Told id) = unless_none (is_some (answer_in id side)) (why.NothingDone id)
    ∙ ap is_some (fits.answers id) ∙ answered_untold id past
none_may goal past side sound fits _ = refl
