-- Lemmas on adding lines to a report, one after another.
use Rattle.rclinks_command.proofs.Words.{◌≡◌, inl, inr, ℕ, ◌+◌, ◌<◌, Bool, true, false, not, ◌&&◌, List, [], ◌∷◌, ◌++◌}
use Rattle.rclinks_command.proofs.Words.{refl, sym, ap, ◌∙◌, append_assoc, flat_map, subst, arith, length, get_or, take}
use Rattle.rclinks_command.proofs.Words.{drop, map, codes, map-append, take-append-drop, KnownTexts, ScriptText}
use Rattle.rclinks_command.proofs.Words.{true≢false, Reads, has_faults, file_status, ReportsFile}
use Rattle.rclinks_command.proofs.Words.{ReportsWhy, TellsFiles, TellsLines, TellsOne, ReportsWarning, FileFault}
use Rattle.std.proofs.Common.{append-nil}
use Rattle.std.specs.Borrow.{Bor}
use Rattle.std.proofs.lemmas.List.{drop_more}
use Rattle.std.proofs.lemmas.Grind.{flat_map-append}
use Rattle.rclinks_command.specs.Reports.{line_of}
use Rattle.rclinks_command.proofs.ReadingLemmas.{all_scripts, nil_is_no_cons}

-- lines followed by others
pub tells-then : (word : List ℕ) (old mid new : List ℕ) → TellsLines word old mid → TellsLines word mid new
    → TellsLines word old new
tells-then word old mid new (lines, first) (others, then) = (
  lines ++ others,
  then ∙ ap (λ text. text ++ flat_map (line_of word) others) first
      ∙ append_assoc old (flat_map (line_of word) lines) (flat_map (line_of word) others)
      ∙ ap (λ text. old ++ text) (sym (flat_map-append (line_of word) lines others)),
)

pub tells_none : (word : List ℕ) (old : List ℕ) → TellsLines word old old
tells_none word old = ([], sym (append-nil old))

-- one more line
pub tells_more : (word rest : List ℕ) (old mid new : List ℕ) → TellsLines word old mid → new ≡ mid ++ line_of word rest
    → TellsLines word old new
tells_more word rest old mid new first then = tells-then word old mid new first
    (rest ∷ [], then ∙ ap (λ text. mid ++ text) (sym (append-nil (line_of word rest))))

-- warnings followed by the reason
pub warned_why : (word rest : List ℕ) (old mid new : List ℕ) → ReportsWarning old mid → ReportsWhy word rest mid new
    → ReportsWhy word rest old new
warned_why word rest old mid new first then =
    (then.0, tells-then (codes "warning: ") old mid then.0 first then.1, then.2)

-- the file after those that are scripts is rejected, which is reported
pub told_file : (text_at : KnownTexts) (words : List (Bor (List ℕ))) (n : ℕ) (d : Bor (List ℕ))
    (scripts : List ScriptText) (before after : List FileFault) (a b c : List ℕ)
    → n < length words → Reads text_at (map (λ w. w.now) (take n words)) scripts before
    → (before ≡ []) × ReportsWarning a b → TellsOne text_at (get_or words n d).now before after b c → (after ≡ [] → ⊥)
    → TellsFiles text_at (map (λ w. w.now) words) after a c
told_file text_at words n d scripts before after a b c within read so_far one some = elim one [
  | inl good ↦ absurd (some (good.0 ∙ so_far.0))
  | inr bad ↦ inr (
    bad.0,
    bad.1 ∙ ap (λ fs. fs ++ bad.0 ∷ []) so_far.0,
    λ status. (
      map (λ w. w.now) (take n words),
      map (λ w. w.now) (drop (n + 1) words),
      (get_or words n d).now,
      sym (ap (map (λ (w : Bor (List ℕ)). w.now)) (take-append-drop n words))
          ∙ map-append (λ w. w.now) (take n words) (drop n words)
          ∙ ap (λ ws. map (λ w. w.now) (take n words) ++ map (λ w. w.now) ws) (drop_more words n d within),
      (
        scripts,
        all_scripts text_at (map (λ w. w.now) (take n words)) scripts
            (subst (λ fs. Reads text_at (map (λ w. w.now) (take n words)) scripts fs) so_far.0 read),
      ),
      bad.0,
      bad.2,
      status,
      warned_why (codes "bad header: ") (get_or words n d).now a b c so_far.1 (bad.3 status),
    ),
  )
]

-- one more file is a script
pub warned_on : (text_at : KnownTexts) (path : List ℕ) (before after : List FileFault) (a b c : List ℕ)
    → (before ≡ []) × ReportsWarning a b → TellsOne text_at path before after b c → after ≡ []
    → (after ≡ []) × ReportsWarning a c
warned_on text_at path before after a b c so_far one none = elim one [
  | inl good ↦ (none, tells-then (codes "warning: ") a b c so_far.1 good.1)
  | inr bad ↦ absurd (append_some before bad.0 (sym bad.1 ∙ none))
]
  where
    append_some : {X : Type 0} (xs : List X) (x : X) → xs ++ x ∷ [] ≡ [] → ⊥
    append_some [] x is = let lengths = ap length is in absurd (omega (arith, lengths))
    append_some (y ∷ xs) x is = let lengths = ap length is in absurd (omega (arith, lengths))

-- if all files are scripts, warnings were added
pub warned_told : (text_at : KnownTexts) (paths : List (List ℕ)) (faults : List FileFault) (old new : List ℕ)
    → TellsFiles text_at paths faults old new → faults ≡ [] → ReportsWarning old new
warned_told text_at paths faults old new tells none = elim tells [
  | inl good ↦ good.1
  | inr bad ↦ absurd (nil_is_no_cons bad.0 [] (sym none ∙ bad.1))
]

-- the first fault was reported
pub refused_told : (text_at : KnownTexts) (paths : List (List ℕ)) (faults more : List FileFault) (fault : FileFault)
    (old new : List ℕ) → TellsFiles text_at paths faults old new → faults ≡ fault ∷ more → file_status fault ≡ 1
    → ReportsFile text_at paths old new
refused_told text_at paths faults more fault old new tells first status = elim tells [
  | inl good ↦ absurd (nil_is_no_cons fault more (sym good.0 ∙ first))
  | inr bad ↦ bad.2 (ap file_status (sym (ap (λ fs. get_or fs 0 fault) (sym first ∙ bad.1))) ∙ status)
]

-- if nothing is read after these faults, there are some
pub over_parts : (keeps_going : Bool) (faults : List FileFault) → (not keeps_going && has_faults faults) ≡ true
    → (keeps_going ≡ false) × (faults ≡ [] → ⊥)
over_parts true faults is = absurd (true≢false (sym is))
over_parts false [] is = absurd (true≢false (sym is))
over_parts false (found ∷ faults) is = (refl, λ none. nil_is_no_cons found faults (sym none))

pub not_over : (keeps_going : Bool) (faults : List FileFault) → (not keeps_going && has_faults faults) ≡ false
    → keeps_going ≡ false → faults ≡ []
not_over true faults is plain = absurd (true≢false plain)
not_over false [] is plain = refl
not_over false (found ∷ faults) is plain = absurd (true≢false is)
