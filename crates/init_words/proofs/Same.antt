-- The equality tests of ids, orders, levels, stages, marks and actions decide equality.
use Rattle.std.proofs.Common.{◌≡◌, refl, sym, ◌∙◌, ap, ℕ, true, false, List, Some, subst, eq-eqb, arith}
use Rattle.std.proofs.lemmas.Bool.{false≢true, false_from_ne_true, eqb-true}
use Rattle.std.proofs.lemmas.Option.{same_Some}
use Rattle.std.proofs.lemmas.Slice.Eq.{bytes_eq-Decides}
use Rattle.init_words.specs.declared.actions.Act.{Act}
use Rattle.init_words.specs.declared.levels.Level.{Level}
use Rattle.init_words.specs.declared.levels.Level.TheVariants.{L0, L1, L2, L3, L4, L5, L6, L7, L8, L9, S}
use Rattle.init_words.specs.declared.levels.Letter.TheVariants.{A, B, C}
use Rattle.init_words.specs.declared.levels.Mark.{Mark}
use Rattle.init_words.specs.declared.levels.Mark.TheVariants.{At, OnCall}
use Rattle.init_words.specs.declared.stages.Stage.{Stage}
use Rattle.init_words.specs.declared.stages.Stage.TheVariants as stage
use Rattle.init_words.specs.declared.orders.PowerKind.{PowerKind}
use Rattle.init_words.specs.declared.orders.PowerKind.TheVariants as power
use Rattle.init_words.specs.declared.orders.OrderKind.{OrderKind}
use Rattle.init_words.specs.declared.orders.OrderKind.TheVariants.{Start, Look, Term, Kill}
use Rattle.init_words.specs.Ids.{same_id}
use Rattle.init_words.specs.Actions.{act_number, same_act}
use Rattle.init_words.specs.Levels.{level_code, same_level, level_read, letter_code, mark_code, mark_read, same_mark}
use Rattle.init_words.specs.Orders.{same_ask, same_power, same_stage}
use Rattle.init_words.proofs.Tests.{same_tests, falsely}

-- ids
pub same_id-is : (a b : List ℕ) → same_id a b ≡ true → a ≡ b
same_id-is a b h = (bytes_eq-Decides a b).0 h

pub same_id-self : (a : List ℕ) → same_id a a ≡ true
same_id-self a = (bytes_eq-Decides a a).1 refl

pub same_id-flip : (a b : List ℕ) → same_id a b ≡ true → same_id b a ≡ true
same_id-flip a b h = (bytes_eq-Decides b a).1 (sym (same_id-is a b h))

pub same_id-sym : (a b : List ℕ) → same_id a b ≡ same_id b a
same_id-sym a b = same_tests (same_id a b) (same_id b a) (same_id-flip a b) (same_id-flip b a)

pub same_id-from : (a b : List ℕ) → a ≡ b → same_id a b ≡ true
same_id-from a b h = (bytes_eq-Decides a b).1 h

-- an id equal to the first of two different ids differs from the second
pub same_id-apart : (a b c : List ℕ) → same_id a b ≡ false → same_id a c ≡ true → same_id b c ≡ false
same_id-apart a b c differ same =
    falsely (same_id b c) (same_id a b) (λ h. same_id-from a b (same_id-is a c same ∙ sym (same_id-is b c h))) differ

-- orders, levels, stages, actions, power events
pub same_ask-is : (a b : OrderKind) → same_ask a b ≡ true → a ≡ b
same_ask-is Start Start h = refl
same_ask-is Look Look h = refl
same_ask-is Term Term h = refl
same_ask-is Kill Kill h = refl
same_ask-is _ _ h = absurd (false≢true h)

pub same_ask-self : (a : OrderKind) → same_ask a a ≡ true
same_ask-self Start = refl
same_ask-self Look = refl
same_ask-self Term = refl
same_ask-self Kill = refl

pub level_read-code : (l : Level) → level_read (level_code l) ≡ Some l
level_read-code L0 = refl
level_read-code L1 = refl
level_read-code L2 = refl
level_read-code L3 = refl
level_read-code L4 = refl
level_read-code L5 = refl
level_read-code L6 = refl
level_read-code L7 = refl
level_read-code L8 = refl
level_read-code L9 = refl
level_read-code S = refl

pub same_level-is : (k l : Level) → same_level k l ≡ true → k ≡ l
same_level-is k l h = same_Some k l
    (sym (level_read-code k) ∙ ap level_read (eqb-true (level_code k) (level_code l) h) ∙ level_read-code l)

pub same_stage-is : (k l : Stage) → same_stage k l ≡ true → k ≡ l
same_stage-is k l h = grind (arith, same_level-is)

pub same_act-self : (a : Act) → same_act a a ≡ true
same_act-self a = eq-eqb (act_number a) (act_number a) refl

pub same_level-self : (l : Level) → same_level l l ≡ true
same_level-self l = eq-eqb (level_code l) (level_code l) refl

pub same_stage-self : (now : Stage) → same_stage now now ≡ true
same_stage-self stage.Sysinit = refl
same_stage-self stage.Boot = refl
same_stage-self (stage.Run level) = same_level-self level

pub same_power-self : (kind : PowerKind) → same_power kind kind ≡ true
same_power-self power.Fail = refl
same_power-self power.FailNow = refl
same_power-self power.Ok = refl

-- reading the character of a mark gives the mark
pub mark_read-code : (m : Mark) → mark_read (mark_code m) ≡ Some m
mark_read-code (At L0) = refl
mark_read-code (At L1) = refl
mark_read-code (At L2) = refl
mark_read-code (At L3) = refl
mark_read-code (At L4) = refl
mark_read-code (At L5) = refl
mark_read-code (At L6) = refl
mark_read-code (At L7) = refl
mark_read-code (At L8) = refl
mark_read-code (At L9) = refl
mark_read-code (At S) = refl
mark_read-code (OnCall A) = refl
mark_read-code (OnCall B) = refl
mark_read-code (OnCall C) = refl

same_code : (a b : Mark) → same_mark a b ≡ true → mark_code a ≡ mark_code b
same_code (At k) (At l) is = eqb-true (level_code k) (level_code l) is
same_code (OnCall k) (OnCall l) is = eqb-true (letter_code k) (letter_code l) is
same_code (At k) (OnCall l) is = absurd (false≢true is)
same_code (OnCall k) (At l) is = absurd (false≢true is)

pub same_mark-is : (a b : Mark) → same_mark a b ≡ true → a ≡ b
same_mark-is a b is =
    let some : Some a ≡ Some b = sym (mark_read-code a) ∙ ap mark_read (same_code a b is) ∙ mark_read-code b in
    cc

pub same_mark-self : (a : Mark) → same_mark a a ≡ true
same_mark-self (At k) = eq-eqb (level_code k) (level_code k) refl
same_mark-self (OnCall k) = eq-eqb (letter_code k) (letter_code k) refl

pub same_mark-flip : (a b : Mark) → same_mark a b ≡ true → same_mark b a ≡ true
same_mark-flip a b is = subst (λ x. same_mark x a ≡ true) (same_mark-is a b is) (same_mark-self a)

pub same_mark-apart : (a b : Mark) → same_mark a b ≡ false → same_mark b a ≡ false
same_mark-apart a b other = false_from_ne_true (same_mark b a) (λ is. false≢true (sym other ∙ same_mark-flip b a is))
