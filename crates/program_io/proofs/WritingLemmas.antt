-- What several writes of one text have written.
use Rattle.std.proofs.Common.{◌≡◌, ◌++◌, ◌∙◌, ap, [], append-nil, append_assoc, Result, Ok, Err, OnOk, OnErr, ℕ, ◌+◌}
use Rattle.std.proofs.Common.{◌<◌, List, Option, length, take, drop, arith, sym, subst, take-append-drop, length-append}
use Rattle.std.proofs.Common.{length-drop, flat_map, get_or}
use Rattle.std.proofs.Math.Seq.{take-add}
use Rattle.std.proofs.lemmas.List.{at_drop_more}
use Rattle.std.proofs.lemmas.List.Concat.{flat_map-append}
use Rattle.std.proofs.KnownBytes.{Appends-trans}
use Rattle.std.specs.Io.KnownBytes.{Appends}
use Rattle.program_io.specs.Writing.{AppendsFront, AppendsPrefix}

-- if the first `done` bytes were written, and then the next `taken` ones, the first `done + taken` bytes were written
pub written_next : (old mid new : Option (List ℕ)) (text : List ℕ) (done taken : ℕ) → Appends old mid (take done text)
    → Appends mid new (take taken (drop done text)) → Appends old new (take (done + taken) text)
written_next old mid new text done taken before now =
    subst (Appends old new) (sym (take-add done taken text))
    (Appends-trans old mid new (take done text) (take taken (drop done text)) before now)

-- if not all bytes of the text were written, a proper prefix was written
pub AppendsFront-take : (old new : Option (List ℕ)) (text : List ℕ) (done : ℕ) → done < length text
    → Appends old new (take done text) → AppendsFront old new text
AppendsFront-take old new text done below written =
    (take done text, drop done text, take-append-drop done text, written, omega (arith, length-drop done text))

-- a proper prefix is a prefix
pub AppendsFront-prefix : (old new : Option (List ℕ)) (text : List ℕ) → AppendsFront old new text
    → AppendsPrefix old new text
AppendsFront-prefix old new text (front, rest, joined, written, some) = (front, rest, joined, written)

-- the whole text is a prefix of itself
pub AppendsPrefix-whole : (old new : Option (List ℕ)) (text : List ℕ) → Appends old new text
    → AppendsPrefix old new text
AppendsPrefix-whole old new text written = (text, [], append-nil text, written)

-- a prefix of the first part of a text is a prefix of the text
pub AppendsPrefix-first : (old new : Option (List ℕ)) (first rest : List ℕ) → AppendsPrefix old new first
    → AppendsPrefix old new (first ++ rest)
AppendsPrefix-first old new first rest (front, more, joined, written) =
    (front, more ++ rest, sym (append_assoc front more rest) ∙ ap (λ text. text ++ rest) joined, written)

-- the whole first part followed by a prefix of the rest is a prefix of the text
pub AppendsPrefix-then : (old mid new : Option (List ℕ)) (first rest : List ℕ) → Appends old mid first
    → AppendsPrefix mid new rest → AppendsPrefix old new (first ++ rest)
AppendsPrefix-then old mid new first rest whole (front, more, joined, written) = (
  first ++ front,
  more,
  append_assoc first front more ∙ ap (λ text. first ++ text) joined,
  Appends-trans old mid new first front whole written,
)

-- a write that wrote all of the text on success, and a proper prefix on an error, wrote a prefix of it
pub AppendsPrefix-of_write : {T E : Type 0} (ended : Result T E) (old new : Option (List ℕ)) (text : List ℕ)
    → OnOk ended (Appends old new text) → OnErr ended (AppendsFront old new text) → AppendsPrefix old new text
AppendsPrefix-of_write (Ok value) old new text ok err = AppendsPrefix-whole old new text ok
AppendsPrefix-of_write (Err error) old new text ok err = AppendsFront-prefix old new text err

-- what holds in any case holds after an error
pub on_err : {T E : Type 0} (ended : Result T E) (P : Type 0) → P → OnErr ended P
on_err (Ok value) P is = tt
on_err (Err error) P is = is

-- if the texts before one of several texts were written whole, and a proper prefix of that one, then a proper prefix of
-- all the texts was written
pub stops_within : {X : Type 0} (f : X → List ℕ) (texts : List X) (i : ℕ) (d : X) (old mid new : Option (List ℕ))
    → i < length texts
    → Appends old mid (flat_map f (take i texts)) → AppendsFront mid new (f (get_or texts i d))
    → AppendsFront old new (flat_map f texts)
stops_within f texts i d old mid new within whole (front, rest, joined, written, some) =
    let before = flat_map f (take i texts) in
    let after = flat_map f (drop (i + 1) texts) in
    let parts : flat_map f texts ≡ before ++ (f (get_or texts i d) ++ after) =
    ap (flat_map f) (sym (take-append-drop i texts)) ∙ flat_map-append f (take i texts) (drop i texts)
    ∙ ap (λ text. before ++ text) (at_drop_more (flat_map f) texts i d within) in (
      before ++ front,
      rest ++ after,
      rw (parts, ← joined) (simp append_assoc),
      Appends-trans old mid new before front whole written,
      omega (arith, length-append rest after, some),
    )
