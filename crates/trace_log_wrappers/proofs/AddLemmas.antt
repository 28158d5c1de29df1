-- How a log changes when happenings are passed on to it in two steps.
use Rattle.trace_log_wrappers.proofs.Words.{sym, ◌∙◌, ap, subst, List, ◌++◌, Ok, Err, OnOk, OnErr, append_assoc, Result}
use Rattle.trace_log_wrappers.proofs.Words.{Event, LogState, AddsHappenings, AddsFront, Grows}

pub adds_two : (old one two : LogState) (xs ys : List Event) → AddsHappenings old one xs → AddsHappenings one two ys
    → AddsHappenings old two (xs ++ ys)
adds_two old one two xs ys first second = λ before took.
    subst two.taken (append_assoc before xs ys) (second (before ++ xs) (first before took))

front_behind : (old one now : LogState) (xs zs : List Event) → AddsHappenings old one xs → AddsFront one now zs
    → AddsFront old now (xs ++ zs)
front_behind old one now xs zs first second = λ before took.
    let parts = second (before ++ xs) (first before took) in
    record {
      first = xs ++ parts.first;
      rest = parts.rest;
      all = append_assoc xs parts.first parts.rest ∙ ap (λ more. xs ++ more) parts.all;
      gained = subst now.taken (append_assoc before xs parts.first) parts.gained;
    }

pub front_err : {T E : Type 0} (r : Result T E) (old one now : LogState) (xs zs : List Event)
    → AddsHappenings old one xs → OnErr r (AddsFront one now zs) → OnErr r (AddsFront old now (xs ++ zs))
front_err (Ok x) old one now xs zs a h = tt
front_err (Err e) old one now xs zs a h = front_behind old one now xs zs a h

-- the same, on the condition that the happenings can occur in a trace
pub ranged_ok : {T E : Type 0} (r : Result T E) (Ranged : Type 0) (old one two : LogState) (xs ys : List Event)
    → AddsHappenings old one xs → OnOk r (Ranged → AddsHappenings one two ys)
    → OnOk r (Ranged → AddsHappenings old two (xs ++ ys))
ranged_ok (Ok x) Ranged old one two xs ys a h = λ ranged. adds_two old one two xs ys a (h ranged)
ranged_ok (Err e) Ranged old one two xs ys a h = tt

pub ranged_err : {T E : Type 0} (r : Result T E) (Ranged : Type 0) (old one now : LogState) (xs zs : List Event)
    → AddsHappenings old one xs → OnErr r (Ranged → AddsFront one now zs)
    → OnErr r (Ranged → AddsFront old now (xs ++ zs))
ranged_err (Ok x) Ranged old one now xs zs a h = tt
ranged_err (Err e) Ranged old one now xs zs a h = λ ranged. front_behind old one now xs zs a (h ranged)

pub early_err : {T E : Type 0} (r : Result T E) (Ranged : Type 0) (old now : LogState) (xs zs : List Event)
    → AddsFront old now xs → OnErr r (Ranged → AddsFront old now (xs ++ zs))
early_err (Ok x) Ranged old now xs zs h = tt
early_err (Err e) Ranged old now xs zs h = λ ranged before took.
    let parts = h before took in
    record {
      first = parts.first;
      rest = parts.rest ++ zs;
      all = sym (append_assoc parts.first parts.rest zs) ∙ ap (λ all. all ++ zs) parts.all;
      gained = parts.gained;
    }

pub grows : {T E : Type 0} (r : Result T E) (Ranged : Type 0) (old new : LogState) (more : List Event)
    → OnOk r (Ranged → AddsHappenings old new more) → OnErr r (Ranged → AddsFront old new more) → Ranged → Grows old new
grows (Ok x) Ranged old new more adds part ranged = λ before took. (more, adds ranged before took)
grows (Err e) Ranged old new more adds part ranged = λ before took. let parts = part ranged before took in
    (parts.first, parts.gained)
