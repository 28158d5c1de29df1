-- The words of a happening's line are read as that happening, and what is read from words has these words.
use Rattle.trace_text.proofs.CommonWords.{arith, ◌≡◌, ℕ, ◌+◌, ◌^◌, Bool, true, false, cond, ◌&&◌, List, [], ◌∷◌, Option}
use Rattle.trace_text.proofs.CommonWords.{Some, None, refl, sym, ◌∙◌, codes, decimal, subst, lit<, and_parts, and_from}
use Rattle.trace_text.proofs.CommonWords.{decimal_digit, option_and_then_some, same_Some, option_map_some, cut}
use Rattle.trace_text.proofs.CommonWords.{pieces_of-cut, pieces_of-whole, number_read, decimal-number_read, Status}
use Rattle.trace_text.proofs.CommonWords.{Exit, Killed, Level, Letter, Stage, OrderKind, Start, Look, Term, Kill}
use Rattle.trace_text.proofs.CommonWords.{PowerKind, GRACE_LIMIT, is_id, id_read, same_id, same_id-is, Cause, NotRead}
use Rattle.trace_text.proofs.CommonWords.{Enter, Call, Power, Asked, Hold, Settle, Birth, NoBirth, Death, Reaped, Still}
use Rattle.trace_text.proofs.CommonWords.{NoLook, Hit, Miss, Told, Clock, Nudge, Got, Handed, Event, words_of}
use Rattle.trace_text.proofs.CommonWords.{level_word, letter_word, stage_word, order_word, power_word, cause_number}
use Rattle.trace_text.proofs.CommonWords.{status_words, got_words, handed_words, is_in_range, is_number, is_status}
use Rattle.trace_text.proofs.CommonWords.{is_request, is_hand_over, both, all_three, own_level, level_of_word}
use Rattle.trace_text.proofs.CommonWords.{letter_of_word, stage_of_word, order_of_word, power_of_word, cause_of_word}
use Rattle.trace_text.proofs.CommonWords.{seconds_of_word, child_of_word, code_of_word, one_read, about_read}
use Rattle.trace_text.proofs.CommonWords.{request_read, request_pair_read, handed_read, handed_pair_read, two_read}
use Rattle.trace_text.proofs.CommonWords.{three_read, level_wanted, four_read, five_read, words_read, words_in}
use Rattle.trace_text.proofs.CommonWords.{entries_brought}
use Rattle.init_words.specs.declared.stages.Stage.TheVariants as stage
use Rattle.init_words.specs.declared.orders.PowerKind.TheVariants as power
use Rattle.init_words.specs.Levels.{level_code}
use Rattle.initctl_frame.specs.declared.requests.HeardRequest.{HeardRequest as Request}
use Rattle.initctl_frame.specs.declared.requests.HeardRequest.TheVariants as got
use Rattle.initctl_frame.specs.declared.requests.Cause.TheVariants as cause
use Rattle.trace_events.specs.declared.happenings.Handed.{Handed as HandOver}
use Rattle.trace_events.specs.declared.happenings.Handed.TheVariants as handed

-- From what is read to its words.

-- a choice between two readings, by a test
pub choice : {X P : Type 0} (b : Bool) (one other : Option X) (x : X) → cond b one other ≡ Some x
    → (b ≡ true → one ≡ Some x → P) → (other ≡ Some x → P) → P
choice true one other x is here there = here refl is
choice false one other x is here there = there is

-- a choice between two readings, by the name that the word is
pub named : {X P : Type 0} (word name : List ℕ) (one other : Option X) (x : X)
    → cond (same_id word name) one other ≡ Some x → (word ≡ name → one ≡ Some x → P) → (other ≡ Some x → P) → P
named word name one other x is here there =
    choice (same_id word name) one other x is (λ same at. here (same_id-is word name same) at) there

pub nothing : {X P : Type 0} (x : X) → ◌≡◌ {A = Option X} None (Some x) → P
nothing x is = absurd (cc)

pub both_some : {X Y Z P : Type 0} (f : X → Y → Z) (o : Option X) (p : Option Y) (z : Z) → both f o p ≡ Some z
    → ((x : X) (y : Y) → o ≡ Some x → p ≡ Some y → f x y ≡ z → P) → P
both_some f None p z is next = absurd (cc)
both_some f (Some x) None z is next = absurd (cc)
both_some f (Some x) (Some y) z is next = next x y refl refl (cc)

all_three_some : {W X Y Z P : Type 0} (f : W → X → Y → Z) (o : Option W) (p : Option X) (q : Option Y) (z : Z)
    → all_three f o p q ≡ Some z → ((w : W) (x : X) (y : Y) → o ≡ Some w → p ≡ Some x → q ≡ Some y → f w x y ≡ z → P)
    → P
all_three_some f None p q z is next = absurd (cc)
all_three_some f (Some w) None q z is next = absurd (cc)
all_three_some f (Some w) (Some x) None z is next = absurd (cc)
all_three_some f (Some w) (Some x) (Some y) z is next = next w x y refl refl refl (cc)

-- an id that was read is the word
pub id_own : (word id : List ℕ) → id_read word ≡ Some id → (id ≡ word) × (is_id id ≡ true)
id_own word id is = choice (is_id word) (Some word) None id is (λ holds at. let same : word ≡ id = same_Some word id
    at in (sym same, subst (λ w. is_id w ≡ true) same holds)) (nothing id)

own_level_is : (code : ℕ) (o : Option Level) (level : Level) → own_level code o ≡ Some level → level_code level ≡ code
own_level_is code o level is = grind arith

pub level_own : (word : List ℕ) (level : Level) → level_of_word word ≡ Some level → level_word level ≡ word
level_own word level is = grind (arith, nothing, own_level_is)

pub letter_own : (word : List ℕ) (letter : Letter) → letter_of_word word ≡ Some letter → letter_word letter ≡ word
letter_own word letter is = grind arith

-- a constant that was read at its name prints as that name
pub at_name : {X : Type 0} (write : X → List ℕ) (word name : List ℕ) (k x : X) → write k ≡ name → word ≡ name
    → Some k ≡ Some x → write x ≡ word
at_name write word name k x own same is = let at : k ≡ x = same_Some k x is in
    subst (λ y. write y ≡ word) at (own ∙ sym same)

pub stage_own : (word : List ℕ) (now : Stage) → stage_of_word word ≡ Some now → stage_word now ≡ word
stage_own word now is =
    named word (codes "sysinit") _ _ now is
    (λ same at. at_name stage_word word (codes "sysinit") stage.Sysinit now refl same at) (λ is.
    named word (codes "boot") _ _ now is (λ same at. at_name stage_word word (codes "boot") stage.Boot now refl same at)
    (λ is.
    option_map_some stage.Run (level_of_word word) now is
    (λ level at same. subst (λ s. stage_word s ≡ word) same (level_own word level at))))

pub order_own : (word : List ℕ) (order : OrderKind) → order_of_word word ≡ Some order → order_word order ≡ word
order_own word order is =
    named word (codes "start") _ _ order is
    (λ same at. at_name order_word word (codes "start") Start order refl same at) (λ is.
    named word (codes "look") _ _ order is (λ same at. at_name order_word word (codes "look") Look order refl same at)
    (λ is.
    named word (codes "term") _ _ order is (λ same at. at_name order_word word (codes "term") Term order refl same at)
    (λ is.
    named word (codes "kill") _ _ order is (λ same at. at_name order_word word (codes "kill") Kill order refl same at)
    (nothing order))))

power_own : (word : List ℕ) (kind : PowerKind) → power_of_word word ≡ Some kind → power_word kind ≡ word
power_own word kind is =
    named word (codes "fail") _ _ kind is
    (λ same at. at_name power_word word (codes "fail") power.Fail kind refl same at) (λ is.
    named word (codes "failnow") _ _ kind is
    (λ same at. at_name power_word word (codes "failnow") power.FailNow kind refl same at) (λ is.
    named word (codes "ok") _ _ kind is (λ same at. at_name power_word word (codes "ok") power.Ok kind refl same at)
    (nothing kind)))

cause_word : Cause → List ℕ
cause_word why = decimal (cause_number why)

cause_own : (word : List ℕ) (why : Cause) → cause_of_word word ≡ Some why → decimal (cause_number why) ≡ word
unfolding cause_word
cause_own word why is =
    named word (codes "1") _ _ why is
    (λ same at. at_name cause_word word (codes "1") cause.Magic why (decimal_digit 1 (lit< tt)) same at) (λ is.
    named word (codes "2") _ _ why is
    (λ same at. at_name cause_word word (codes "2") cause.Unknown why (decimal_digit 2 (lit< tt)) same at) (λ is.
    named word (codes "3") _ _ why is
    (λ same at. at_name cause_word word (codes "3") cause.LeftOut why (decimal_digit 3 (lit< tt)) same at) (λ is.
    named word (codes "4") _ _ why is (λ same
    at. at_name cause_word word (codes "4") cause.Character why (decimal_digit 4 (lit< tt)) same at) (nothing why))))

-- the happening has these words and is in range
abbrev Read : Event → List (List ℕ) → Type 0
Read happening words = (words_of happening ≡ words) × (is_in_range happening ≡ true)

-- a happening of a name and an id
about : (word id : List ℕ) (given : List ℕ) (make : List ℕ → Event) (name : List ℕ) (h : Event)
    → ((i : List ℕ) → words_of (make i) ≡ name ∷ i ∷ []) → ((i : List ℕ) → is_in_range (make i) ≡ is_id i) → word ≡ name
    → id_read given ≡ Some id → Some (make id) ≡ Some h → Read h (word ∷ given ∷ [])
about word id given make name h spoken ranged same at is =
    let this : make id ≡ h = same_Some (make id) h is in
    let own = id_own given id at in
    subst (λ e. Read e (word ∷ given ∷ [])) this (spoken id ∙ rw (same, own.0) refl, ranged id ∙ own.1)

about_is : (word given id : List ℕ) (h : Event) → id_read given ≡ Some id → about_read word id ≡ Some h
    → Read h (word ∷ given ∷ [])
about_is word given id h at is =
    named word (codes "told") _ _ h is
    (λ same made. about word id given Told (codes "told") h (λ i. refl) (λ i. refl) same at made) (λ is.
    named word (codes "still") _ _ h is
    (λ same made. about word id given Still (codes "still") h (λ i. refl) (λ i. refl) same at made) (λ is.
    named word (codes "hold") _ _ h is
    (λ same made. about word id given Hold (codes "hold") h (λ i. refl) (λ i. refl) same at made) (λ is.
    named word (codes "nobirth") _ _ h is
    (λ same made. about word id given NoBirth (codes "nobirth") h (λ i. refl) (λ i. refl) same at made) (λ is.
    named word (codes "nolook") _ _ h is
    (λ same made. about word id given NoLook (codes "nolook") h (λ i. refl) (λ i. refl) same at made) (λ is.
    named word (codes "hit") _ _ h is
    (λ same made. about word id given Hit (codes "hit") h (λ i. refl) (λ i. refl) same at made) (λ is.
    named word (codes "miss") _ _ h is
    (λ same made. about word id given Miss (codes "miss") h (λ i. refl) (λ i. refl) same at made) (nothing h)))))))

request_is : (word : List ℕ) (request : Request) → request_read word ≡ Some request
    → (got_words request ≡ word ∷ []) × (is_request request ≡ true)
request_is word request is =
    named word (codes "reload") _ _ request is (λ same at. constant got.Reload (codes "reload") refl refl same at)
    (λ is.
    named word (codes "reexec") _ _ request is (λ same at. constant got.Reexec (codes "reexec") refl refl same at)
    (nothing request))
  where
    constant : (k : Request) (name : List ℕ) → got_words k ≡ name ∷ [] → is_request k ≡ true → word ≡ name
        → Some k ≡ Some request → (got_words request ≡ word ∷ []) × (is_request request ≡ true)
    constant k name spoken ranged same is = grind arith

request_pair_is : (word given : List ℕ) (request : Request) → request_pair_read word given ≡ Some request
    → (got_words request ≡ word ∷ given ∷ []) × (is_request request ≡ true)
request_pair_is word given request is =
    named word (codes "call") _ _ request is (λ same made. option_map_some got.Call (letter_of_word given) request made
    (λ letter at this. made_of (got.Call letter) this (rw (same, letter_own given letter at) refl, refl))) (λ is.
    named word (codes "power") _ _ request is (λ same made. option_map_some got.Power (power_of_word given) request made
    (λ kind at this. made_of (got.Power kind) this (rw (same, power_own given kind at) refl, refl))) (λ is.
    named word (codes "nothing") _ _ request is
    (λ same made. option_map_some got.Nothing (cause_of_word given) request made
    (λ why at this. made_of (got.Nothing why) this (rw (same, cause_own given why at) refl, refl))) (nothing request)))
  where
    made_of : (k : Request) → k ≡ request → (got_words k ≡ word ∷ given ∷ []) × (is_request k ≡ true)
        → (got_words request ≡ word ∷ given ∷ []) × (is_request request ≡ true)
    made_of k this own = subst (λ r. (got_words r ≡ word ∷ given ∷ []) × (is_request r ≡ true)) this own

handed_is : (word : List ℕ) (how : HandOver) → handed_read word ≡ Some how
    → (handed_words how ≡ word ∷ []) × (is_hand_over how ≡ true)
handed_is word how is =
    named word (codes "whole") _ _ how is (λ same at. constant handed.Whole (codes "whole") refl refl same at) (λ is.
    named word (codes "none") _ _ how is (λ same at. constant handed.Failed (codes "none") refl refl same at)
    (nothing how))
  where
    constant : (k : HandOver) (name : List ℕ) → handed_words k ≡ name ∷ [] → is_hand_over k ≡ true → word ≡ name
        → Some k ≡ Some how → (handed_words how ≡ word ∷ []) × (is_hand_over how ≡ true)
    constant k name spoken ranged same is = grind arith

handed_pair_is : (word given : List ℕ) (how : HandOver) → handed_pair_read word given ≡ Some how
    → (handed_words how ≡ word ∷ given ∷ []) × (is_hand_over how ≡ true)
handed_pair_is word given how is =
    named word (codes "cut") _ _ how is (λ same made. option_map_some handed.Cut (number_read (2 ^ 64) given) how made
    (λ n at this. made_of (handed.Cut n) this
    (rw (same, (decimal-number_read (2 ^ 64) given n at).0) refl, (decimal-number_read (2 ^ 64) given n at).1))) (λ is.
    named word (codes "older") _ _ how is (λ same made. option_map_some handed.Older
    (number_read (2 ^ 64) given) how made (λ n at this. made_of (handed.Older n) this
    (rw (same, (decimal-number_read (2 ^ 64) given n at).0) refl, (decimal-number_read (2 ^ 64) given n at).1)))
    (nothing how))
  where
    made_of : (k : HandOver) → k ≡ how → (handed_words k ≡ word ∷ given ∷ []) × (is_hand_over k ≡ true)
        → (handed_words how ≡ word ∷ given ∷ []) × (is_hand_over how ≡ true)
    made_of k this own = subst (λ r. (handed_words r ≡ word ∷ given ∷ []) × (is_hand_over r ≡ true)) this own

one_is : (word : List ℕ) (h : Event) → one_read word ≡ Some h → Read h (word ∷ [])
one_is word h is =
    named word (codes "nudge") _ _ h is
    (λ same made. subst (λ e. Read e (word ∷ [])) (same_Some Nudge h made) (rw same refl, refl)) (λ is.
    named word (codes "notread") _ _ h is
    (λ same made. subst (λ e. Read e (word ∷ [])) (same_Some NotRead h made) (rw same refl, refl)) (nothing h))

-- a happening that was built from what was read
made : (k h : Event) (words : List (List ℕ)) → k ≡ h → Read k words → Read h words
made k h words this own = subst (λ e. Read e words) this own

two_is : (word given : List ℕ) (h : Event) → two_read word given ≡ Some h → Read h (word ∷ given ∷ [])
two_is word given h is =
    named word (codes "clock") _ _ h is
    (λ same is. option_map_some Clock (number_read (2 ^ 64) given) h is (λ n at this. made (Clock n) h _ this
    (rw (same, (decimal-number_read (2 ^ 64) given n at).0) refl, (decimal-number_read (2 ^ 64) given n at).1))) (λ is.
    named word (codes "death") _ _ h is
    (λ same is. option_map_some Death (child_of_word given) h is (λ n at this. made (Death n) h _ this
    (rw (same, (decimal-number_read (2 ^ 32) given n at).0) refl, (decimal-number_read (2 ^ 32) given n at).1))) (λ is.
    named word (codes "settle") _ _ h is (λ same is. option_map_some Settle (level_of_word given) h is
    (λ level at this. made (Settle level) h _ this (rw (same, level_own given level at) refl, refl))) (λ is.
    named word (codes "call") _ _ h is (λ same is. option_map_some Call (letter_of_word given) h is
    (λ letter at this. made (Call letter) h _ this (rw (same, letter_own given letter at) refl, refl))) (λ is.
    named word (codes "power") _ _ h is (λ same is. option_map_some Power (power_of_word given) h is
    (λ kind at this. made (Power kind) h _ this (rw (same, power_own given kind at) refl, refl))) (λ is.
    named word (codes "got") _ _ h is (λ same is. option_map_some Got (request_read given) h is (λ request at this. made
    (Got request) h _ this (rw (same, (request_is given request at).0) refl, (request_is given request at).1))) (λ is.
    named word (codes "handed") _ _ h is (λ same is. option_map_some Handed (handed_read given) h is (λ how at this.
    made (Handed how) h _ this (rw (same, (handed_is given how at).0) refl, (handed_is given how at).1))) (λ is.
    option_and_then_some (about_read word) (id_read given) h is (λ id at more. about_is word given id h at more))))))))

three_is : (word first second : List ℕ) (h : Event) → three_read word first second ≡ Some h
    → Read h (word ∷ first ∷ second ∷ [])
three_is word first second h is =
    named word (codes "ask") _ _ h is (λ same is. both_some Asked (id_read first) (order_of_word second) h is
    (λ id order at of this. made (Asked id order) h _ this
    (rw (same, (id_own first id at).0, order_own second order of) refl, (id_own first id at).1))) (λ is.
    named word (codes "birth") _ _ h is (λ same is. both_some Birth (id_read first) (child_of_word second) h is
    (λ id n at of this. made (Birth id n) h _ this (
      rw (same, (id_own first id at).0, (decimal-number_read (2 ^ 32) second n of).0) refl,
      and_from _ _ (id_own first id at).1 (decimal-number_read (2 ^ 32) second n of).1,
    ))) (λ is.
    named word (codes "enter") _ _ h is (λ same is. both_some Enter (stage_of_word first) (seconds_of_word second) h is
    (λ now seconds at of this. made (Enter now seconds) h _ this (
      rw (same, stage_own first now at, (decimal-number_read (GRACE_LIMIT + 1) second seconds of).0) refl,
      (decimal-number_read (GRACE_LIMIT + 1) second seconds of).1,
    ))) (λ is.
    named word (codes "got") _ _ h is (λ same is. option_map_some Got (request_pair_read first second) h is
    (λ request at this. made (Got request) h _ this
    (rw (same, (request_pair_is first second request at).0) refl, (request_pair_is first second request at).1))) (λ is.
    named word (codes "handed") _ _ h is
    (λ same is. option_map_some Handed (handed_pair_read first second) h is (λ how at this. made (Handed how) h _ this
    (rw (same, (handed_pair_is first second how at).0) refl, (handed_pair_is first second how at).1))) (nothing h)))))

-- a choice by the names that two words are
two_named : {X P : Type 0} (word name other second : List ℕ) (one rest : Option X) (x : X)
    → cond (same_id word name && same_id other second) one rest ≡ Some x
    → (word ≡ name → other ≡ second → one ≡ Some x → P) → (rest ≡ Some x → P) → P
two_named word name other second one rest x is here there = choice (same_id word name && same_id other second) one rest
    x is (λ holds at. let parts = and_parts (same_id word name) (same_id other second) holds in
    here (same_id-is word name parts.0) (same_id-is other second parts.1) at) there

reaped_is : (word first second : List ℕ) (o : Option Status) (status : Status) (more : List (List ℕ)) (id : List ℕ)
    (n : ℕ) → word ≡ codes "reaped" → id_read first ≡ Some id → child_of_word second ≡ Some n
    → status_words status ≡ more → is_status status ≡ true → Read (Reaped id n status) (word ∷ first ∷ second ∷ more)
reaped_is word first second o status more id n same at of spoken ranged =
    let own = id_own first id at in
    let number = decimal-number_read (2 ^ 32) second n of in (
      rw (same, own.0, number.0, spoken) refl,
      and_from (is_id id && is_number n) (is_status status) (and_from (is_id id) (is_number n) own.1 number.1) ranged,
    )

four_is : (word first second third : List ℕ) (h : Event) → four_read word first second third ≡ Some h
    → Read h (word ∷ first ∷ second ∷ third ∷ [])
four_is word first second third h is =
    two_named word (codes "reaped") third (codes "killed") _ _ h is
    (λ same how is. all_three_some Reaped (id_read first) (child_of_word second) (Some Killed) h is
    (λ id n status at of was this. made (Reaped id n status) h _ this (killed status id n same how at of was))) (λ is.
    two_named word (codes "got") first (codes "level") _ _ h is (λ same what is. both_some level_wanted (level_of_word
    second) (seconds_of_word third) h is (λ level seconds at of this. made (Got (got.Level level seconds)) h _ this (
      rw (same, what, level_own second level at, (decimal-number_read (GRACE_LIMIT + 1) third seconds of).0) refl,
      (decimal-number_read (GRACE_LIMIT + 1) third seconds of).1,
    ))) (nothing h))
  where
    killed : (status : Status) (id : List ℕ) (n : ℕ) → word ≡ codes "reaped" → third ≡ codes "killed"
        → id_read first ≡ Some id → child_of_word second ≡ Some n → Some Killed ≡ Some status
        → Read (Reaped id n status) (word ∷ first ∷ second ∷ third ∷ [])
    killed status id n same how at of was =
        let this : Killed ≡ status = same_Some Killed status was in
        subst (λ s. Read (Reaped id n s) (word ∷ first ∷ second ∷ third ∷ [])) this
        (reaped_is word first second None Killed (third ∷ []) id n same at of (rw how refl) refl)

five_is : (word first second third fourth : List ℕ) (h : Event) → five_read word first second third fourth ≡ Some h
    → Read h (word ∷ first ∷ second ∷ third ∷ fourth ∷ [])
five_is word first second third fourth h is =
    two_named word (codes "reaped") third (codes "exit") _ _ h is
    (λ same how is. all_three_some Reaped (id_read first) (child_of_word second) (code_of_word fourth) h is (λ id n
    status at of was this. made (Reaped id n status) h _ this (ended status id n same how at of was))) (nothing h)
  where
    ended : (status : Status) (id : List ℕ) (n : ℕ) → word ≡ codes "reaped" → third ≡ codes "exit"
        → id_read first ≡ Some id → child_of_word second ≡ Some n → code_of_word fourth ≡ Some status
        → Read (Reaped id n status) (word ∷ first ∷ second ∷ third ∷ fourth ∷ [])
    ended status id n same how at of was =
        option_map_some Exit (number_read 256 fourth) status was (λ code read this.
        let own = decimal-number_read 256 fourth code read in
        subst (λ s. Read (Reaped id n s) (word ∷ first ∷ second ∷ third ∷ fourth ∷ [])) this (reaped_is word first
        second None (Exit code) (third ∷ fourth ∷ []) id n same at of (rw (how, own.0) refl) own.1))

-- what was read from words has these words
pub words_read-of : (words : List (List ℕ)) (h : Event) → words_read words ≡ Some h → Read h words
words_read-of [] h is = nothing h is
words_read-of (word ∷ []) h is = one_is word h is
words_read-of (word ∷ given ∷ []) h is = two_is word given h is
words_read-of (word ∷ first ∷ second ∷ []) h is = three_is word first second h is
words_read-of (word ∷ first ∷ second ∷ third ∷ []) h is = four_is word first second third h is
words_read-of (word ∷ first ∷ second ∷ third ∷ fourth ∷ []) h is = five_is word first second third fourth h is
words_read-of (word ∷ first ∷ second ∷ third ∷ fourth ∷ fifth ∷ words) h is = nothing h is

-- a line has at most five words, and a `use` line two
Headed : List (List ℕ) → Type 0
Headed words = (first : List ℕ) × (more : List (List ℕ)) × (words ≡ first ∷ more)

headed : (text : List ℕ) (o : Option (List ℕ × List ℕ)) → cut 32 text ≡ o → Headed (words_in text)
unfolding Headed
headed text None is = (text, [], pieces_of-whole 32 text is)
headed text (Some parts) is = (parts.0, words_in parts.1, pieces_of-cut 32 text parts.0 parts.1 is)

pub five_at_most : (word first second third fourth text : List ℕ)
    → words_read (word ∷ first ∷ second ∷ third ∷ fourth ∷ words_in text) ≡ None
unfolding Headed
five_at_most word first second third fourth text =
    let more = headed text (cut 32 text) refl in
    rw more.2 refl

pub two_at_most : (word count text : List ℕ) → entries_brought (word ∷ count ∷ words_in text) ≡ None
unfolding Headed
two_at_most word count text =
    let more = headed text (cut 32 text) refl in
    rw more.2 refl
