use Rattle.initctl_frame.proofs.Words.{◌≡◌, ◌∙◌, ℕ, ◌+◌, ◌<◌, List, [], ◌∷◌, ◌++◌, length, take, drop, get_or, suc, ap}
use Rattle.initctl_frame.proofs.Words.{ap₂, subst, sym, arith, Option, append_assoc, length-append, length-drop}
use Rattle.initctl_frame.proofs.Words.{length-take, take_all, drop-cons, set-append_seam, slice_set, HeardRequest}
use Rattle.initctl_frame.proofs.Words.{StoresRequests, filled}
use Rattle.std.specs.Option.{option_to_list}
use Rattle.initctl_frame.proofs.pieces.put.Goals as goal

-- writing a request into the next place adds it to the requests
filled_next : (places gots : List HeardRequest) (got : HeardRequest) → length gots < length places
    → slice_set (filled places gots) (length gots) got ≡ filled places (gots ++ got ∷ [])
filled_next places gots got position =
    let size : length (gots ++ got ∷ []) ≡ suc (length gots) = omega (arith, length-append gots (got ∷ [])) in
    let before : filled places gots ≡ gots ++ get_or places (length gots) got ∷ drop (suc (length gots)) places =
    ap₂ (λ (xs ys : List HeardRequest). xs ++ ys) (take_all (length places) gots (omega arith))
    (drop-cons places (length gots) got position) in
    ap (λ (xs : List HeardRequest). slice_set xs (length gots) got) before
    ∙ set-append_seam gots (get_or places (length gots) got) (drop (suc (length gots)) places) got
    ∙ sym (append_assoc gots (got ∷ []) (drop (suc (length gots)) places))
    ∙ sym (ap₂ (λ (xs : List HeardRequest) (k : ℕ). xs ++ drop k places)
    (take_all (length places) (gots ++ got ∷ []) (omega arith)) size)

pub returns-in-Some-clause-fills : goal.returns-in-Some-clause-fills
returns-in-Some-clause-fills c = λ places gots fills.
    let room = ap length fills.in_front ∙ length-append (take (length places) gots) (drop (length gots) places) in
    let before = length-take (length places) gots in
    let behind = length-drop (length gots) places in
    let next : c.args.count ≡ length gots = omega (arith, fills.as_many) in
    let position : length gots < length places = omega (arith, fills.as_many) in
    let got = c.in-Some.got in
    subst (λ (told : Option HeardRequest). StoresRequests places (gots ++ option_to_list told) (c.args.count + 1)
    (slice_set c.args.room.now c.args.count got)) (sym c.in-Some.is)
    (record {
      as_many = omega (arith, length-append gots (got ∷ []));
      in_front = ap₂ (λ (xs : List HeardRequest) (k : ℕ). slice_set xs k got) fills.in_front next
          ∙ filled_next places gots got position;
    })
