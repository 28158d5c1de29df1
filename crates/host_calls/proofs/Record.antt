-- The calls between two moments: one, none, and two stretches.
use Rattle.std.proofs.Common.{◌≡◌, refl, sym, ◌∙◌, ap, List, [], ◌∷◌, ◌++◌, append_assoc, Option, Some, None}
use Rattle.std.proofs.lemmas.Option.{none-some, same_Some}
use Rattle.host_calls.specs.Calls.{HostCall, AddsCall}
use Rattle.host_calls.specs.Record.{AreNewCalls, NewCallsSatisfy}

told_one : (old new : Option (List HostCall)) (call : HostCall) → AddsCall old new call
    → AreNewCalls old new (call ∷ [])
told_one old None call adds = tt
told_one old (Some all) call adds = (adds.0, adds.1, adds.2)

told_none : {T : Type 0} (now : Option (List T)) → AreNewCalls now now []
told_none None = tt
told_none (Some all) = (all, refl, refl)

-- an earlier stretch of calls, and a later one
told_then : {T : Type 0} (old mid new : Option (List T)) (xs ys : List T) → AreNewCalls old mid xs
    → AreNewCalls mid new ys → AreNewCalls old new (ys ++ xs)
told_then old mid None xs ys first second = tt
told_then old None (Some all) xs ys first second = absurd (none-some second.0 second.1)
told_then old (Some m) (Some all) xs ys first second =
    let same : m ≡ second.0 = same_Some m second.0 second.1 in
    let joined : all ≡ (ys ++ xs) ++ first.0 =
    second.2 ∙ ap (λ l. ys ++ l) (sym same ∙ first.2) ∙ sym (append_assoc ys xs first.0) in
    (first.0, first.1, joined)

pub NewCallsSatisfy-one : (old new : Option (List HostCall)) (call : HostCall) (P : List HostCall → Type 0)
    → AddsCall old new call → P (call ∷ []) → NewCallsSatisfy old new P
NewCallsSatisfy-one old new call P adds p = (call ∷ [], told_one old new call adds, p)

pub NewCallsSatisfy-none : {T : Type 0} (now : Option (List T)) (P : List T → Type 0) → P [] → NewCallsSatisfy now now P
NewCallsSatisfy-none now P p = ([], told_none now, p)

pub NewCallsSatisfy-map : {T : Type 0} (old new : Option (List T)) (P Q : List T → Type 0) → NewCallsSatisfy old new P
    → ((calls : List T) → P calls → Q calls) → NewCallsSatisfy old new Q
NewCallsSatisfy-map old new P Q since more = (since.0, since.1, more since.0 since.2)

pub NewCallsSatisfy-then : {T : Type 0} (old mid new : Option (List T)) (P Q R : List T → Type 0)
    → NewCallsSatisfy old mid P
    → NewCallsSatisfy mid new Q → ((xs ys : List T) → P xs → Q ys → R (ys ++ xs)) → NewCallsSatisfy old new R
NewCallsSatisfy-then old mid new P Q R first second both = (
  second.0 ++ first.0,
  told_then old mid new first.0 second.0 first.1 second.1,
  both first.0 second.0 first.2 second.2,
)
