-- Lemmas on reading the scripts at paths.
use Rattle.rclinks_command.proofs.Words.{◌≡◌, ◌⊎◌, inl, inr, ℕ, suc, Bool, true, List, [], ◌∷◌, ◌++◌, length, slice_get}
use Rattle.rclinks_command.proofs.Words.{unwrap_or, None, Some, refl, ap, sym, subst, ◌∙◌, append_assoc, arith, map}
use Rattle.rclinks_command.proofs.Words.{get_or, take, ◌+◌, ◌<◌, both_ways, map-append, KnownTexts, ScriptText}
use Rattle.rclinks_command.proofs.Words.{HasRefused, AreScripts, IsNoScriptAt, IsScriptAt, file_status, Reads, ReadsOne}
use Rattle.rclinks_command.proofs.Words.{ReadsTo, FileFault}
use Rattle.std.proofs.Common.{append-nil}
use Rattle.std.specs.Borrow.{Bor}
use Rattle.std.proofs.lemmas.List.{take_more}
use Rattle.std.proofs.lemmas.Option.{none-some}

pub nil_is_no_cons : {X : Type 0} (x : X) (xs : List X) → [] ≡ x ∷ xs → ⊥
nil_is_no_cons x xs is = let lengths : 0 ≡ suc (length xs) = ap length is in absurd (omega (arith, lengths))

-- if no file has a fault, all paths yield scripts
pub all_scripts : (text_at : KnownTexts) (paths : List (List ℕ)) (scripts : List ScriptText)
    → Reads text_at paths scripts [] → AreScripts text_at paths scripts
all_scripts text_at [] scripts read = subst (λ ss. AreScripts text_at [] ss) (sym read.0) tt
all_scripts text_at (path ∷ paths) scripts read = elim read [
  | inl one ↦ subst (λ ss. AreScripts text_at (path ∷ paths) ss) (sym one.2)
      (one.3, all_scripts text_at paths one.1 one.4)
  | inr bad ↦ absurd (nil_is_no_cons bad.0 bad.1 bad.2)
]

-- if no file has a fault, or the run continues after faults, all paths were read
pub all_read : (keeps_going : Bool) (text_at : KnownTexts) (paths : List (List ℕ)) (scripts : List ScriptText)
    (faults : List FileFault)
    → ReadsTo keeps_going text_at paths scripts faults → (keeps_going ≡ true) ⊎ (faults ≡ [])
    → Reads text_at paths scripts faults
all_read keeps_going text_at paths scripts faults reads whole = elim reads.4 [
  | inl none ↦ subst (λ ps. Reads text_at ps scripts faults)
      (sym (reads.2 ∙ ap (λ l. reads.0 ++ l) none ∙ append-nil reads.0)) reads.3
  | inr part ↦ absurd (elim whole [ inl on ↦ both_ways keeps_going part.0 on | inr none ↦ part.1 none ])
]

-- the first fault is that of the first file that is not a script
pub first_fault : (text_at : KnownTexts) (paths : List (List ℕ)) (scripts : List ScriptText) (found : FileFault)
    (faults : List FileFault)
    → Reads text_at paths scripts (found ∷ faults)
    → (before later : List (List ℕ)) × (path : List ℕ) × (paths ≡ before ++ path ∷ later)
    × ((firsts : List ScriptText) × AreScripts text_at before firsts) × IsNoScriptAt text_at path found
first_fault text_at [] scripts found faults read = absurd (nil_is_no_cons found faults (sym read.1))
first_fault text_at (path ∷ paths) scripts found faults read = elim read [
  | inl one ↦ (let more = first_fault text_at paths one.1 found faults one.4 in
      (path ∷ more.0, more.1, more.2, ap (λ ps. path ∷ ps) more.3, (one.0 ∷ more.4.0, (one.3, more.4.1)), more.5))
  | inr bad ↦ (
    [],
    paths,
    path,
    refl,
    ([], tt),
    subst (λ f. IsNoScriptAt text_at path f) (sym (ap (λ fs. get_or fs 0 found) bad.2)) bad.3,
  )
]

-- one more path yields a script, or a fault
push_script : (text_at : KnownTexts) (paths : List (List ℕ)) (scripts : List ScriptText) (faults : List FileFault)
    (path : List ℕ) (s : ScriptText)
    → Reads text_at paths scripts faults → IsScriptAt text_at path s
    → Reads text_at (paths ++ path ∷ []) (scripts ++ s ∷ []) faults
push_script text_at [] scripts faults path s read is = inl (s, [], ap (λ ss. ss ++ s ∷ []) read.0, is, (refl, read.1))
push_script text_at (first ∷ paths) scripts faults path s read is = elim read [
  | inl one ↦ inl (
    one.0,
    one.1 ++ s ∷ [],
    ap (λ ss. ss ++ s ∷ []) one.2,
    one.3,
    push_script text_at paths one.1 faults path s one.4 is,
  )
  | inr bad ↦ inr (bad.0, bad.1, bad.2, bad.3, push_script text_at paths scripts bad.1 path s bad.4 is)
]

push_fault : (text_at : KnownTexts) (paths : List (List ℕ)) (scripts : List ScriptText) (faults : List FileFault)
    (path : List ℕ) (found : FileFault)
    → Reads text_at paths scripts faults → IsNoScriptAt text_at path found
    → Reads text_at (paths ++ path ∷ []) scripts (faults ++ found ∷ [])
push_fault text_at [] scripts faults path found read is =
    inr (found, [], ap (λ fs. fs ++ found ∷ []) read.1, is, (read.0, refl))
push_fault text_at (first ∷ paths) scripts faults path found read is = elim read [
  | inl one ↦ inl (one.0, one.1, one.2, one.3, push_fault text_at paths one.1 faults path found one.4 is)
  | inr bad ↦ inr (
    bad.0,
    bad.1 ++ found ∷ [],
    ap (λ fs. fs ++ found ∷ []) bad.2,
    bad.3,
    push_fault text_at paths scripts bad.1 path found bad.4 is,
  )
]

pub reads_push : (text_at : KnownTexts) (paths : List (List ℕ)) (path : List ℕ) (old new : List ScriptText)
    (before after : List FileFault)
    → Reads text_at paths old before → ReadsOne text_at path old new before after
    → Reads text_at (paths ++ path ∷ []) new after
reads_push text_at paths path old new before after read one = elim one [
  | inl good ↦ rw (good.2, good.3) (push_script text_at paths old before path good.0 read good.1)
  | inr bad ↦ rw (bad.2, bad.3) (push_fault text_at paths old before path bad.0 read bad.1)
]

-- the next path yields a script, or a fault
pub reads_next : (text_at : KnownTexts) (words : List (Bor (List ℕ))) (n : ℕ) (d : Bor (List ℕ))
    (old new : List ScriptText) (before after : List FileFault)
    → n < length words → Reads text_at (map (λ w. w.now) (take n words)) old before
    → ReadsOne text_at (get_or words n d).now old new before after
    → Reads text_at (map (λ w. w.now) (take (n + 1) words)) new after
reads_next text_at words n d old new before after within read one =
    let next = ap (map (λ (w : Bor (List ℕ)). w.now)) (take_more words n d within)
    ∙ map-append (λ w. w.now) (take n words) (get_or words n d ∷ []) in
    subst (λ ps. Reads text_at ps new after) (sym next)
    (reads_push text_at (map (λ w. w.now) (take n words)) (get_or words n d).now old new before after read one)

-- a run is refused for the file with the first fault
pub refused_first : (text_at : KnownTexts) (paths read later : List (List ℕ)) (scripts : List ScriptText)
    (faults more : List FileFault) (found : FileFault)
    → paths ≡ read ++ later → Reads text_at read scripts faults → faults ≡ found ∷ more → file_status found ≡ 1
    → HasRefused text_at paths
refused_first text_at paths read later scripts faults more found is reads first status =
    let at = first_fault text_at read scripts found more (subst (λ fs. Reads text_at read scripts fs) first reads) in (
      at.0,
      at.1 ++ later,
      at.2,
      is ∙ ap (λ ps. ps ++ later) at.3 ∙ append_assoc at.0 (at.2 ∷ at.1) later,
      at.4,
      found,
      at.5,
      status,
    )

-- if there is no first fault, there is none
pub none_first : (faults : List FileFault) → None ≡ slice_get faults 0 → faults ≡ []
none_first [] is = refl
none_first (found ∷ faults) is = absurd (none-some found is)

-- this fault is the first one
pub some_first : (faults : List FileFault) (found : FileFault) → Some found ≡ slice_get faults 0
    → (more : List FileFault) × (faults ≡ found ∷ more)
some_first [] found is = absurd (none-some found (sym is))
some_first (other ∷ faults) found is = (faults, ap (λ f. f ∷ faults) (sym (ap (λ o. unwrap_or o found) is)))
