-- The children that a host holds are those that the system was asked for: each wait and each signal is for one of them.
use Rattle.std.proofs.Common.{◌≡◌, refl, sym, ◌∙◌, ap, subst, ◌⊎◌, inl, inr, ℕ, Bool, true, false, not, ◌&&◌, ◌||◌}
use Rattle.std.proofs.Common.{◌==◌}
use Rattle.std.proofs.Common.{cond, List, [], ◌∷◌, ◌++◌, map, Option, Some, None, eq-eqb}
use Rattle.std.specs.List.{list_any}
use Rattle.std.proofs.lemmas.Bool.{false≢true, and_parts, and_from, or_left, or_right, eqb-true, false_from_ne_true}
use Rattle.std.proofs.lemmas.List.Folds.{list_any-append}
use Rattle.init_words.specs.declared.orders.Answer.{Answer}
use Rattle.init_words.specs.declared.orders.Answer.TheVariants as answer
use Rattle.init_words.specs.declared.orders.SignalKind.{SignalKind}
use Rattle.init_words.specs.Ids.{same_id}
use Rattle.init_words.proofs.Same.{same_id-is, same_id-self}
use Rattle.init_words.proofs.Tests.{any_filter, any_less, both_ways, or_either, passing}
use Rattle.host_calls.specs.declared.calls.Call.TheVariants.{Start, Look, Signal, Late, Clock, TakeBytes, ReadTables}
use Rattle.host_calls.specs.declared.calls.Call.TheVariants.{Carry, Announce, Pause}
use Rattle.host_calls.specs.declared.calls.Reply.TheVariants.{Now, Later}
use Rattle.host_calls.specs.Calls.{HostCall}
use Rattle.host_calls.specs.Held.{HeldChildren, CallChangesHeld, LookChangesHeld, StartChangesHeld, SignalChangesHeld}
use Rattle.host_calls.specs.Held.{holds_child, without_child}
use Rattle.host_calls.specs.Settings.{HostSettings}
use Rattle.host_system.specs.Asking.{AreSystemCallsFor, LookRequest, SendRequest, SignalRequest, SpawnRequests}
use Rattle.host_system.specs.Asking.{StartRequests}
use Rattle.host_system.specs.Delays.{start_delay}
use Rattle.host_system.specs.Asking.{WaitRequest, SystemCallsForCall, number_of}
use Rattle.host_system.specs.Systems.{SystemCall, Waited, look_answer, sent}
use Rattle.host_system.specs.Systems.SystemCall.{read_clock, read_file, run, send, send_group, spawn, try_wait}
use Rattle.initd_laws.specs.Signals.{is_live, keeps_to_children, numbers_are_new}

-- the id's child of the number is held
abbrev pub is_held : List ℕ → ℕ → HeldChildren → Bool
is_held id n held = list_any (λ child. same_id id child.0 && n == child.1) held

-- ---- lists of children

pub number_held : (id : List ℕ) (n : ℕ) (held : HeldChildren) → number_of id held ≡ Some n → is_held id n held ≡ true
number_held id n [] h = absurd (cc)
number_held id n (child ∷ held) h = by (same_id id child.0) h (λ more. number_held id n held more)
  where
    by : (b : Bool) → cond b (Some child.1) (number_of id held) ≡ Some n
        → (number_of id held ≡ Some n → is_held id n held ≡ true) → ((b && n == child.1) || is_held id n held) ≡ true
    by true is rest = let same : n ≡ child.1 = cc in or_left (n == child.1) (is_held id n held) (eq-eqb n child.1 same)
    by false is rest = rest is

pub held_append : (i : List ℕ) (m : ℕ) (held : HeldChildren) (id : List ℕ) (n : ℕ)
    → is_held i m (held ++ (id, n) ∷ []) ≡ true → (is_held i m held ≡ true) ⊎ (same_id i id ≡ true) × (m ≡ n)
held_append i m held id n h = or_either (is_held i m held) ((same_id i id && m == n) || false)
    (sym (list_any-append (λ child. same_id i child.0 && m == child.1) held ((id, n) ∷ [])) ∙ h)
    (λ old. inl old) (λ new. or_either (same_id i id && m == n) false new
    (λ is. let parts = and_parts (same_id i id) (m == n) is in inr (parts.0, eqb-true m n parts.1))
    (λ none. absurd (false≢true none)))

pub held_without : (i : List ℕ) (m : ℕ) (id : List ℕ) (held : HeldChildren) → is_held i m (without_child id held) ≡ true
    → (is_held i m held ≡ true) × (same_id i id ≡ false)
held_without i m id held h = (
  any_less (λ child. not (same_id id child.0) && (same_id i child.0 && m == child.1))
      (λ child. same_id i child.0 && m == child.1)
      (λ child both. (and_parts (not (same_id id child.0)) (same_id i child.0 && m == child.1) both).1) held is,
  false_from_ne_true (same_id i id) apart,
)
  where
    is : list_any (λ child. not (same_id id child.0) && (same_id i child.0 && m == child.1)) held ≡ true
    is = sym (any_filter (λ child. same_id i child.0 && m == child.1) (λ child. not (same_id id child.0)) held) ∙ h

    apart : {P : Type 0} → same_id i id ≡ true → P
    apart same =
        let found = passing (λ child. not (same_id id child.0) && (same_id i child.0 && m == child.1)) held is in
        let parts =
        and_parts (not (same_id id found.item.0)) (same_id i found.item.0 && m == found.item.1) found.passes in
        let own : same_id i found.item.0 ≡ true = (and_parts (same_id i found.item.0) (m == found.item.1) parts.1).0 in
        let one : same_id id found.item.0 ≡ true =
        subst (λ x. same_id x found.item.0 ≡ true) (same_id-is i id same) own in
        absurd (false≢true (sym (ap not one) ∙ parts.0))

-- ---- what is kept

pub child_held : (i : List ℕ) (m : ℕ) (held : HeldChildren) → is_held i m held ≡ true → holds_child i held ≡ true
child_held i m held there = any_less (λ child. same_id i child.0 && m == child.1) (λ child. same_id i child.0)
    (λ child both. (and_parts (same_id i child.0) (m == child.1) both).0) held there

-- each child that is held is live; no two have one number, and no two one id
pub record Children (held : HeldChildren) (asked : List SystemCall) : Type 0 where
  pub live : (id : List ℕ) (n : ℕ) → is_held id n held ≡ true → is_live n asked ≡ true
  pub apart : (i j : List ℕ) (n : ℕ) → is_held i n held ≡ true → is_held j n held ≡ true → i ≡ j
  pub one : (id : List ℕ) (m n : ℕ) → is_held id m held ≡ true → is_held id n held ≡ true → m ≡ n
  pub keeps : keeps_to_children asked ≡ true

-- what is no start and no end of a child
pub children_more : (held : HeldChildren) (old new : List SystemCall) → ((n : ℕ) → is_live n new ≡ is_live n old)
    → (keeps_to_children old ≡ true → keeps_to_children new ≡ true) → Children held old → Children held new
children_more held old new same keeps all = record {
  live = λ id n there. same n ∙ all.live id n there;
  apart = all.apart;
  one = all.one;
  keeps = keeps all.keeps;
}

born : (held : HeldChildren) (id : List ℕ) (n : ℕ) (words : List (List ℕ)) (old : List SystemCall)
    → numbers_are_new (spawn words (Some n) ∷ old) ≡ true → holds_child id held ≡ false → Children held old
    → Children (held ++ (id, n) ∷ []) (spawn words (Some n) ∷ old)
born held id n words old new none all = record {
  live = λ i m there. elim (held_append i m held id n there) [
    | inl was ↦ or_right (m == n) (is_live m old) (all.live i m was)
    | inr is ↦ or_left (m == n) (is_live m old) (eq-eqb m n is.1)
  ];
  apart = λ i j m one other. elim (held_append i m held id n one) [
    | inl was ↦ elim (held_append j m held id n other) [
      | inl too ↦ all.apart i j m was too
      | inr is ↦ clash (subst (λ x. is_live x old ≡ true) is.1 (all.live i m was))
    ]
    | inr is ↦ elim (held_append j m held id n other) [
      | inl was ↦ clash (subst (λ x. is_live x old ≡ true) is.1 (all.live j m was))
      | inr too ↦ same_id-is i id is.0 ∙ sym (same_id-is j id too.0)
    ]
  ];
  one = λ i l m first second. elim (held_append i l held id n first) [
    | inl was ↦ elim (held_append i m held id n second) [
      | inl too ↦ all.one i l m was too
      | inr is ↦ second_child i l was is.0
    ]
    | inr is ↦ elim (held_append i m held id n second) [
      | inl was ↦ second_child i m was is.0
      | inr too ↦ is.1 ∙ sym too.1
    ]
  ];
  keeps = all.keeps;
}
  where
    second_child : {P : Type 0} (i : List ℕ) (m : ℕ) → is_held i m held ≡ true → same_id i id ≡ true → P
    second_child i m there same = both_ways (holds_child id held)
        (subst (λ x. holds_child x held ≡ true) (same_id-is i id same) (child_held i m held there)) none

    clash : {P : Type 0} → is_live n old ≡ true → P
    clash lives = absurd (false≢true (sym (ap not lives)
        ∙ (and_parts (not (is_live n old)) (numbers_are_new old) new).0))

ended : (held : HeldChildren) (id : List ℕ) (n : ℕ) (status : _) (old : List SystemCall)
    → is_held id n held ≡ true → Children held old
    → Children (without_child id held) (try_wait n (Some (Some status)) ∷ old)
ended held id n status old there all = record {
  live = λ i m is. let was = held_without i m id held is in
      and_from (not (m == n)) (is_live m old) (other i m was.0 was.1) (all.live i m was.0);
  apart = λ i j m one two. all.apart i j m (held_without i m id held one).0 (held_without j m id held two).0;
  one = λ i l m first second.
      all.one i l m (held_without i l id held first).0 (held_without i m id held second).0;
  keeps = and_from (is_live n old) (keeps_to_children old) (all.live id n there) all.keeps;
}
  where
    other : (i : List ℕ) (m : ℕ) → is_held i m held ≡ true → same_id i id ≡ false → not (m == n) ≡ true
    other i m is differ = ap not (false_from_ne_true (m == n) (λ same. both_ways (same_id i id)
        (subst (λ x. same_id i x ≡ true)
        (all.apart i id n (subst (λ x. is_held i x held ≡ true) (eqb-true m n same) is) there)
        (same_id-self i)) differ))

abbrev is_ended : Answer → Bool
is_ended (answer.Ended status) = true
is_ended _ = false

-- a wait that brought no status
waited : (held : HeldChildren) (id : List ℕ) (n : ℕ) (old : List SystemCall) → is_held id n held ≡ true
    → (outcome : Waited) → is_ended (look_answer outcome) ≡ false → Children held old
    → Children held (try_wait n outcome ∷ old)
waited held id n old there None none all = children_more held old (try_wait n None ∷ old) (λ m. refl)
    (λ keeps. and_from (is_live n old) (keeps_to_children old) (all.live id n there) keeps) all
waited held id n old there (Some None) none all = children_more held old (try_wait n (Some None) ∷ old) (λ m. refl)
    (λ keeps. and_from (is_live n old) (keeps_to_children old) (all.live id n there) keeps) all
waited held id n old there (Some (Some status)) none all = absurd (false≢true (sym none))

-- a signal
sent_to : (held : HeldChildren) (id : List ℕ) (n : ℕ) (groups : Bool) (kind : SignalKind) (reached : Bool)
    (old : List SystemCall) → is_held id n held ≡ true → Children held old
    → Children held (sent groups kind n reached ∷ old)
sent_to held id n true kind reached old there all = children_more held old (send_group kind n reached ∷ old) (λ m. refl)
    (λ keeps. and_from (is_live n old) (keeps_to_children old) (all.live id n there) keeps) all
sent_to held id n false kind reached old there all = children_more held old (send kind n reached ∷ old) (λ m. refl)
    (λ keeps. and_from (is_live n old) (keeps_to_children old) (all.live id n there) keeps) all

-- ---- call by call

-- what was kept before, as far as the numbers were new
abbrev Before : HeldChildren → List SystemCall → Type 0
Before held old = numbers_are_new old ≡ true → Children held old

-- nothing changed of the children, and a call was asked that is about none, or none was
same_held : (held now : HeldChildren) (old new : List SystemCall) → now ≡ held
    → (numbers_are_new new ≡ true → Children held new) → numbers_are_new new ≡ true → Children now new
same_held held now old new is all numbers = subst (λ children. Children children new) (sym is) (all numbers)

same_asked : (held : HeldChildren) (old new : List SystemCall) → new ≡ old → Before held old
    → numbers_are_new new ≡ true → Children held new
same_asked held old new is all numbers =
    subst (Children held) (sym is) (all (subst (λ calls. numbers_are_new calls ≡ true) is numbers))

plain_asked : (held : HeldChildren) (call : SystemCall) (old new : List SystemCall) → new ≡ call ∷ old
    → (numbers_are_new (call ∷ old) ≡ numbers_are_new old) → (Children held old → Children held (call ∷ old))
    → Before held old → numbers_are_new new ≡ true → Children held new
plain_asked held call old new is free more all numbers = subst (Children held) (sym is)
    (more (all (sym free ∙ subst (λ calls. numbers_are_new calls ≡ true) is numbers)))

unborn : (held : HeldChildren) (words : List (List ℕ)) (old new : List SystemCall)
    → (new ≡ old) ⊎ (new ≡ spawn words None ∷ old) → Before held old → numbers_are_new new ≡ true → Children held new
unborn held words old new (inl is) all numbers = same_asked held old new is all numbers
unborn held words old new (inr is) all numbers = plain_asked held (spawn words None) old new is refl
    (children_more held old (spawn words None ∷ old) (λ m. refl) (λ keeps. keeps)) all numbers

started : (settings : HostSettings) (delay : ℕ) (held now : HeldChildren) (id command : List ℕ) (given : Answer)
    (old new : List SystemCall) → StartRequests settings.logs settings.groups delay id command given old new
    → StartChangesHeld held now id (Now given) → Before held old → numbers_are_new new ≡ true → Children now new
started settings delay held now id command (answer.Born n) old new (words, way, is) made all numbers =
    let new_numbers = subst (λ calls. numbers_are_new calls ≡ true) is numbers in
    subst (Children now) (sym is) (subst (λ children. Children children (spawn words (Some n) ∷ old)) (sym made.1)
    (born held id n words old new_numbers made.0
    (all (and_parts (not (is_live n old)) (numbers_are_new old) new_numbers).1)))
started settings delay held now id command answer.NotBorn old new (words, way, asks) made all numbers =
    same_held held now old new made (unborn held words old new asks all) numbers
started settings delay held now id command (answer.Ended status) old new (words, way, asks) made all numbers =
    same_held held now old new made (unborn held words old new asks all) numbers
started settings delay held now id command answer.Alive old new (words, way, asks) made all numbers =
    same_held held now old new made (unborn held words old new asks all) numbers
started settings delay held now id command answer.NoLook old new (words, way, asks) made all numbers =
    same_held held now old new made (unborn held words old new asks all) numbers
started settings delay held now id command answer.Hit old new (words, way, asks) made all numbers =
    same_held held now old new made (unborn held words old new asks all) numbers
started settings delay held now id command answer.Miss old new (words, way, asks) made all numbers =
    same_held held now old new made (unborn held words old new asks all) numbers

-- a look that brought no status
idle_look : (held : HeldChildren) (id : List ℕ) (given : Answer) (old new : List SystemCall)
    → LookRequest (number_of id held) given old new → is_ended given ≡ false → Before held old
    → numbers_are_new new ≡ true → Children held new
idle_look held id given old new (outcome, asks, is) none all numbers = by (number_of id held) refl asks
  where
    free : is_ended (look_answer outcome) ≡ false
    free = ap is_ended (sym is) ∙ none

    by : (c : Option ℕ) → number_of id held ≡ c → WaitRequest c outcome old new → Children held new
    by None own asked = same_asked held old new asked.0 all numbers
    by (Some n) own asked = plain_asked held (try_wait n outcome) old new asked (kept outcome free)
        (waited held id n old (number_held id n held own) outcome free) all numbers
      where
        kept : (o : Waited) → is_ended (look_answer o) ≡ false
            → numbers_are_new (try_wait n o ∷ old) ≡ numbers_are_new old
        kept o h = refl

-- a look that brought one
last_look : (held : HeldChildren) (id : List ℕ) (status : _) (old new : List SystemCall)
    → LookRequest (number_of id held) (answer.Ended status) old new → Before held old
    → numbers_are_new new ≡ true → Children (without_child id held) new
last_look held id status old new (outcome, asks, is) all numbers = by (number_of id held) outcome refl asks is
  where
    by : (c : Option ℕ) (o : Waited) → number_of id held ≡ c → WaitRequest c o old new
        → answer.Ended status ≡ look_answer o → Children (without_child id held) new
    by None None own asked h = absurd (cc)
    by None (Some None) own asked h = absurd (cc)
    by None (Some (Some ended)) own asked h = absurd (let none = asked.1 in cc)
    by (Some n) None own asked h = absurd (cc)
    by (Some n) (Some None) own asked h = absurd (cc)
    by (Some n) (Some (Some code)) own asked h = subst (Children (without_child id held)) (sym asked)
        (ended held id n code old (number_held id n held own)
        (all (subst (λ calls. numbers_are_new calls ≡ true) asked numbers)))

looked : (held now : HeldChildren) (id : List ℕ) (given : Answer) (old new : List SystemCall)
    → LookRequest (number_of id held) given old new → LookChangesHeld held now id (Now given) → Before held old
    → numbers_are_new new ≡ true → Children now new
looked held now id (answer.Ended status) old new asks made all numbers =
    subst (λ children. Children children new) (sym made.1) (last_look held id status old new asks all numbers)
looked held now id answer.Alive old new asks made all numbers =
    same_held held now old new made.1 (idle_look held id answer.Alive old new asks refl all) numbers
looked held now id answer.NoLook old new asks made all numbers =
    same_held held now old new made (idle_look held id answer.NoLook old new asks refl all) numbers
looked held now id (answer.Born n) old new asks made all numbers =
    same_held held now old new made (idle_look held id (answer.Born n) old new asks refl all) numbers
looked held now id answer.NotBorn old new asks made all numbers =
    same_held held now old new made (idle_look held id answer.NotBorn old new asks refl all) numbers
looked held now id answer.Hit old new asks made all numbers =
    same_held held now old new made (idle_look held id answer.Hit old new asks refl all) numbers
looked held now id answer.Miss old new asks made all numbers =
    same_held held now old new made (idle_look held id answer.Miss old new asks refl all) numbers

signalled : (settings : HostSettings) (held : HeldChildren) (id : List ℕ) (kind : SignalKind) (given : Answer)
    (old new : List SystemCall) → SignalRequest settings.groups (number_of id held) kind given old new
    → Before held old → numbers_are_new new ≡ true → Children held new
signalled settings held id kind given old new (reached, asks, is) all numbers = by (number_of id held) refl asks
  where
    free : (groups : Bool) (n : ℕ) → numbers_are_new (sent groups kind n reached ∷ old) ≡ numbers_are_new old
    free true n = refl
    free false n = refl

    by : (c : Option ℕ) → number_of id held ≡ c → SendRequest settings.groups c kind reached old new → Children held new
    by None own asked = same_asked held old new asked.0 all numbers
    by (Some n) own asked = plain_asked held (sent settings.groups kind n reached) old new asked
        (free settings.groups n)
        (sent_to held id n settings.groups kind reached old (number_held id n held own)) all numbers

-- a signal changes none of the children
pub unchanged : (held now : HeldChildren) (id : List ℕ) (given : Answer) → SignalChangesHeld held now id (Now given)
    → now ≡ held
unchanged held now id answer.Hit made = made.1
unchanged held now id answer.Miss made = made
unchanged held now id (answer.Born n) made = made
unchanged held now id answer.NotBorn made = made
unchanged held now id (answer.Ended status) made = made
unchanged held now id answer.Alive made = made
unchanged held now id answer.NoLook made = made

called : (settings : HostSettings) (call : HostCall) (done : List HostCall) (held now : HeldChildren)
    (old new : List SystemCall)
    → CallChangesHeld call held now → SystemCallsForCall settings call done held old new → Before held old
    → numbers_are_new new ≡ true → Children now new
called settings (Start id command (Now given)) done held now old new made asks all numbers =
    started settings
    (start_delay settings.respawn_delay id done) held now id command given old new asks made all numbers
called settings (Start id command Later) done held now old new made asks all numbers = absurd asks
called settings (Look id (Now given)) done held now old new made asks all numbers =
    looked held now id given old new asks made all numbers
called settings (Look id Later) done held now old new made asks all numbers = absurd asks
called settings (Signal id kind (Now given)) done held now old new made asks all numbers =
    same_held held now old new (unchanged held now id given made)
    (signalled settings held id kind given old new asks all) numbers
called settings (Signal id kind Later) done held now old new made asks all numbers = absurd asks
called settings (Clock time) done held now old new made asks all numbers = same_held held now old new made
    (plain_asked held (read_clock asks.0) old new asks.1 refl
    (children_more held old (read_clock asks.0 ∷ old) (λ m. refl) (λ keeps. keeps)) all) numbers
called settings (ReadTables parts) done held now old new made asks all numbers = same_held held now old new made
    (plain_asked held (read_file settings.inittab asks.0) old new asks.1 refl
    (children_more held old (read_file settings.inittab asks.0 ∷ old) (λ m. refl) (λ keeps. keeps)) all) numbers
called settings (Late late) done held now old new made asks all numbers =
    same_held held now old new made.1 (same_asked held old new asks all) numbers
called settings (TakeBytes room taken) done held now old new made asks all numbers =
    same_held held now old new made (same_asked held old new asks all) numbers
called settings (Carry text back) done held now old new made asks all numbers =
    same_held held now old new made (same_asked held old new asks all) numbers
called settings (Announce happening) done held now old new made asks all numbers =
    same_held held now old new made (same_asked held old new asks all) numbers
called settings Pause done held now old new made asks all numbers =
    same_held held now old new made (same_asked held old new asks all) numbers

-- the numbers before a call were new
pub numbers_before : (settings : HostSettings) (call : HostCall) (done : List HostCall) (held now : HeldChildren)
    (old new : List SystemCall)
    → CallChangesHeld call held now → SystemCallsForCall settings call done held old new → numbers_are_new new ≡ true
    → numbers_are_new old ≡ true
numbers_before settings (Start id command (Now given)) done held now old new made (words, way, asks) numbers =
    by given asks
  where
    unborn_before : (new ≡ old) ⊎ (new ≡ spawn words None ∷ old) → numbers_are_new old ≡ true
    unborn_before (inl is) = subst (λ calls. numbers_are_new calls ≡ true) is numbers
    unborn_before (inr is) = subst (λ calls. numbers_are_new calls ≡ true) is numbers

    by : (g : Answer) → SpawnRequests words g old new → numbers_are_new old ≡ true
    by (answer.Born n) is = (and_parts (not (is_live n old)) (numbers_are_new old)
        (subst (λ calls. numbers_are_new calls ≡ true) is numbers)).1
    by answer.NotBorn is = unborn_before is
    by (answer.Ended status) is = unborn_before is
    by answer.Alive is = unborn_before is
    by answer.NoLook is = unborn_before is
    by answer.Hit is = unborn_before is
    by answer.Miss is = unborn_before is
numbers_before settings (Start id command Later) done held now old new made asks numbers = absurd asks
numbers_before settings (Look id (Now given)) done held now old new made (outcome, asks, is) numbers =
    by (number_of id held) asks
  where
    by : (c : Option ℕ) → WaitRequest c outcome old new → numbers_are_new old ≡ true
    by None asked = subst (λ calls. numbers_are_new calls ≡ true) asked.0 numbers
    by (Some n) asked = subst (λ calls. numbers_are_new calls ≡ true) asked numbers
numbers_before settings (Look id Later) done held now old new made asks numbers = absurd asks
numbers_before settings (Signal id kind (Now given)) done held now old new made (reached, asks, is) numbers =
    by settings.groups (number_of id held) asks
  where
    by : (g : Bool) (c : Option ℕ) → SendRequest g c kind reached old new → numbers_are_new old ≡ true
    by g None asked = subst (λ calls. numbers_are_new calls ≡ true) asked.0 numbers
    by true (Some n) asked = subst (λ calls. numbers_are_new calls ≡ true) asked numbers
    by false (Some n) asked = subst (λ calls. numbers_are_new calls ≡ true) asked numbers
numbers_before settings (Signal id kind Later) done held now old new made asks numbers = absurd asks
numbers_before settings (Clock time) done held now old new made asks numbers =
    subst (λ calls. numbers_are_new calls ≡ true) asks.1 numbers
numbers_before settings (ReadTables parts) done held now old new made asks numbers =
    subst (λ calls. numbers_are_new calls ≡ true) asks.1 numbers
numbers_before settings (Late late) done held now old new made is numbers =
    subst (λ calls. numbers_are_new calls ≡ true) is numbers
numbers_before settings (TakeBytes room taken) done held now old new made is numbers =
    subst (λ calls. numbers_are_new calls ≡ true) is numbers
numbers_before settings (Carry text back) done held now old new made is numbers =
    subst (λ calls. numbers_are_new calls ≡ true) is numbers
numbers_before settings (Announce happening) done held now old new made is numbers =
    subst (λ calls. numbers_are_new calls ≡ true) is numbers
numbers_before settings Pause done held now old new made is numbers =
    subst (λ calls. numbers_are_new calls ≡ true) is numbers

helped : (helpers : List (List (List ℕ))) → keeps_to_children (map run helpers ++ []) ≡ true
helped [] = refl
helped (words ∷ helpers) = helped helpers

-- FIRST LAW
pub children_all : (settings : HostSettings) (calls : List HostCall) (held : HeldChildren) (asked : List SystemCall)
    → AreSystemCallsFor settings calls held asked → numbers_are_new asked ≡ true → Children held asked
children_all settings [] held asked (none, (helpers, is)) numbers = record {
  live = λ id n there. absurd (false≢true (subst (λ children. is_held id n children ≡ true) none there));
  apart = λ i j n one other. absurd (false≢true (subst (λ children. is_held i n children ≡ true) none one));
  one = λ i m n first second. absurd (false≢true (subst (λ children. is_held i m children ≡ true) none first));
  keeps = ap keeps_to_children is ∙ helped helpers;
}
children_all settings (call ∷ calls) held asked (before, between, were, made, asks) numbers =
    called settings call calls before held between asked made asks
    (λ h. children_all settings calls before between were h)
    numbers
