-- A text that was carried before another one names an earlier generation, so it can be told apart when it comes back in
-- place of that one.
use Rattle.supervisor.proofs.EdgeWords.{◌≡◌, ◌≤◌, refl, sym, subst, ℕ, ◌+◌, Bool, true, false, not, List, [], ◌∷◌}
use Rattle.supervisor.proofs.EdgeWords.{length}
use Rattle.supervisor.proofs.EdgeWords.{Some, arith, list_any, false≢true, and_parts, or_left, or_right, same_id-is}
use Rattle.supervisor.proofs.EdgeWords.{or_either, Goal, state_of, V2, Start, Signal, Late, Clock, TakeBytes}
use Rattle.supervisor.proofs.EdgeWords.{ReadTables}
use Rattle.supervisor.proofs.EdgeWords.{Carry, Announce, Pause, HostCall, TextRead, Point, after, is_of_generation}
use Rattle.supervisor.proofs.EdgeWords.{point_after, same_text, AreTexts, IsStateText, are_carried, comes_back}
use Rattle.core_text.specs.Reading.{generation_of}
use Rattle.core_text.proofs.Prefixes.{generation_said}
use Rattle.host_calls.specs.declared.calls.Call.TheVariants.{Look}
use Rattle.supervisor.specs.Texts.{are_given_back, is_given_back, texts_in}
use Rattle.supervisor.proofs.Leading.{bytes_generation}

-- only the carrying of a text raises the generation
abbrev is_other : HostCall → Bool
is_other (Carry text back) = false
is_other _ = true

call_generation : (call : HostCall) (p : Point) → is_other call ≡ true → (after call p).generation ≡ p.generation
call_generation call p other = grind (arith, bytes_generation)

-- the text names a generation up to this one
record Names (generation : ℕ) (text : List ℕ) : Type 0 where
  named : ℕ
  is : generation_of text ≡ Some named
  within : named ≤ generation

names_of : (goal : Goal) (so_far : _) (generation : ℕ) (text : List ℕ) → IsStateText goal so_far generation text
    → Names generation text
names_of goal so_far generation text says = record {
  named = says.core.fields.generation;
  is = generation_said text (state_of says.core) (V2, says.says);
  within = omega (arith, says.own);
}

as_before : (goal : Goal) (call : HostCall) (calls : List HostCall) (p : Point) (bytes : List ℕ) → is_other call ≡ true
    → Names (point_after calls p).generation bytes → Names (point_after (call ∷ calls) p).generation bytes
as_before goal call calls p bytes other names =
    subst (λ n. Names n bytes) (sym (call_generation call (point_after calls p) other)) names

-- so does each text that was carried
older : (goal : Goal) (calls : List HostCall) (p : Point) (bytes : List ℕ) → AreTexts goal calls p → are_carried calls p
    ≡ true → list_any (same_text bytes) (texts_in calls) ≡ true → Names (point_after calls p).generation bytes
older goal [] p bytes texts carried there = absurd (false≢true there)
older goal (Carry text back ∷ calls) p bytes texts carried there =
    or_either (same_text bytes text) (list_any (same_text bytes) (texts_in calls)) there
    (λ same. subst (Names ((point_after calls p).generation + 1)) (sym (same_id-is bytes text same))
    (names_of goal (point_after calls p).past ((point_after calls p).generation + 1) text (texts.0 before)))
    (λ earlier. let names = older goal calls p bytes texts.1 before earlier in let bound : names.named ≤ (point_after
    calls p).generation = names.within in record { named = names.named; is = names.is; within = omega (arith, bound) })
  where
    before : are_carried calls p ≡ true
    before = (and_parts (comes_back ((point_after calls p).generation + 1) text back) (are_carried calls p) carried).1
older goal (Start id command reply ∷ calls) p bytes texts carried there =
    as_before goal (Start id command reply) calls p bytes refl (older goal calls p bytes texts carried there)
older goal (Look id reply ∷ calls) p bytes texts carried there =
    as_before goal (Look id reply) calls p bytes refl (older goal calls p bytes texts carried there)
older goal (Signal id sent reply ∷ calls) p bytes texts carried there =
    as_before goal (Signal id sent reply) calls p bytes refl (older goal calls p bytes texts carried there)
older goal (Late late ∷ calls) p bytes texts carried there =
    as_before goal (Late late) calls p bytes refl (older goal calls p bytes texts carried there)
older goal (Clock time ∷ calls) p bytes texts carried there =
    as_before goal (Clock time) calls p bytes refl (older goal calls p bytes texts carried there)
older goal (TakeBytes room taken ∷ calls) p bytes texts carried there =
    as_before goal (TakeBytes room taken) calls p bytes refl (older goal calls p bytes texts carried there)
older goal (ReadTables parts ∷ calls) p bytes texts carried there =
    as_before goal (ReadTables parts) calls p bytes refl (older goal calls p bytes texts carried there)
older goal (Announce happening ∷ calls) p bytes texts carried there =
    as_before goal (Announce happening) calls p bytes refl (older goal calls p bytes texts carried there)
older goal (Pause ∷ calls) p bytes texts carried there =
    as_before goal (Pause) calls p bytes refl (older goal calls p bytes texts carried there)

-- so it can be told apart from a text of the next generation
told : (generation : ℕ) (bytes : List ℕ) → Names generation bytes → not (is_of_generation (generation + 1) bytes) ≡ true
told generation bytes names = grind arith

given_back : (goal : Goal) (calls : List HostCall) (p : Point) (text : List ℕ) (back : TextRead) → AreTexts goal calls p
    → are_carried calls p ≡ true → is_given_back (texts_in calls) text back ≡ true
    → comes_back ((point_after calls p).generation + 1) text back ≡ true
given_back goal calls p text back texts carried given = grind (arith, or_either, or_left, or_right, told, older)

-- texts that were given back came back in a permitted way
pub given_carried : (goal : Goal) (calls : List HostCall) (p : Point) → AreTexts goal calls p
    → are_given_back calls ≡ true → are_carried calls p ≡ true
given_carried goal [] p texts given = grind (arith, given_back)
given_carried goal (happening ∷ calls) p texts given = grind (arith, given_carried goal calls p, given_back)

-- each text that was carried is of the next generation
pub generation_counted : (calls : List HostCall) (p : Point)
    → (point_after calls p).generation ≡ p.generation + length (texts_in calls)
generation_counted [] p = grind (arith, call_generation)
generation_counted (happening ∷ calls) p = grind (arith, generation_counted calls p, call_generation)
