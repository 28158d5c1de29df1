-- What was read of a channel's file that only grew.
use Rattle.std.proofs.Common.{◌≡◌, ◌⊎◌, ◌≤◌, refl, sym, ap, ◌∙◌, subst, inl, inr, ℕ, ◌+◌, ◌-◌, ◌%◌, ◌==◌, nat_lt, Bool}
use Rattle.std.proofs.Common.{true, false, ◌&&◌, ◌||◌, not, if◌then◌else◌, List, [], ◌∷◌, ◌++◌, length, take, drop}
use Rattle.std.proofs.Common.{Option, Some, None}
use Rattle.std.proofs.Common.{arith, append_assoc, append-nil, take-append-drop, length-append}
use Rattle.std.specs.Option.{option_map_or}
use Rattle.std.proofs.lemmas.Bool.{eq-eqb, le-ltb}
use Rattle.std.proofs.lemmas.List.{drop_at, length-take-le}
use Rattle.std.proofs.lemmas.Bool.{true≢false}
use Rattle.host_files.specs.declared.channel_files.FoundFile.{FoundFile}
use Rattle.host_files.specs.declared.channel_progress.Progress.{Progress}
use Rattle.host_files.specs.Channels.{ChannelCall, ReadsConsecutively, begun, bytes_read, first_offset, is_another}
use Rattle.host_files.specs.Channels.{is_replaced}
use Rattle.host_files.specs.Channels.{moved}
use Rattle.host_files.specs.Channels.{progress_of}
use Rattle.host_files.specs.Channels.{progress_after, whole_length}
use Rattle.host_files.specs.Channels.ChannelCall.{found, read}
use Rattle.host_files.specs.Grown.{AreOfFile}

-- the position is in the text, after a prefix of whole requests that was skipped, and the bytes that were read
record Stands (device number : ℕ) (text : List ℕ) (progress : Progress) (bytes : List ℕ) : Type 0 where
  there : progress.missing ≡ false
  known : (progress.file ≡ None) ⊎ (progress.file ≡ Some (device, number))
  front : List ℕ
  behind : List ℕ
  parts : front ++ (bytes ++ behind) ≡ text
  whole : length front % 384 ≡ 0
  heard : progress.heard ≡ length front + length bytes
  unbegun : progress.begun ≡ false → bytes ≡ []

abbrev differs : Progress → FoundFile → ℕ × ℕ → Bool
differs progress at known = progress.missing || not (known.0 == at.device && known.1 == at.number)

is_same : (progress : Progress) (at : FoundFile) (device number : ℕ) → progress.missing ≡ false
    → (progress.file ≡ None) ⊎ (progress.file ≡ Some (device, number))
    → at.device ≡ device → at.number ≡ number → is_another progress at ≡ false
is_same progress at device number there (inl none) same is =
    ap (λ file. option_map_or (differs progress at) file false) none
is_same progress at device number there (inr some) same is =
    ap (λ file. option_map_or (differs progress at) file false) some
    ∙ rw (there, eq-eqb device at.device (sym same), eq-eqb number at.number (sym is)) refl

-- a look that finds the file leaves the position unchanged
still : (progress : Progress) (at : FoundFile) (device number : ℕ) (text bytes : List ℕ)
    → Stands device number text progress bytes → at.device ≡ device → at.number ≡ number → progress.heard ≤ at.length
    → Stands device number text (moved (Some at) progress) bytes
still progress at device number text bytes stands same is below =
    let anew : is_replaced progress at ≡ false =
    rw
    (is_same progress at device number stands.there stands.known same is, le-ltb at.length progress.heard below) refl in
    record {
      there = refl;
      known = inr (ap (λ d. Some (d, at.number)) same ∙ ap (λ n. Some (device, n)) is);
      front = stands.front;
      behind = stands.behind;
      parts = stands.parts;
      whole = stands.whole;
      heard = ap (λ b. if b then 0 else progress.heard) anew ∙ stands.heard;
      unbegun = stands.unbegun;
    }

first_below : (fresh : Bool) (at : FoundFile) → first_offset fresh (Some at) ≤ at.length
first_below true at = omega (arith)
first_below false at = omega (arith)

first_whole : (fresh : Bool) (at : FoundFile) → first_offset fresh (Some at) % 384 ≡ 0
first_whole true at = omega (arith)
first_whole false at = refl

-- after the first look, and after each later one, the position is in the text
looked : (fresh : Bool) (progress : Progress) (at : FoundFile) (device number : ℕ) (text bytes : List ℕ) (b : Bool)
    → progress.begun ≡ b → Stands device number text progress bytes → at.device ≡ device → at.number ≡ number
    → at.length ≤ length text → progress.heard ≤ at.length
    → Stands device number text (progress_after fresh (Some at) progress) bytes
looked fresh progress at device number text bytes true is stands same so within below =
    let before : begun fresh (Some at) progress ≡ progress =
    ap (λ b. if b then progress else record progress { begun = true; heard = first_offset fresh (Some at) }) is in
    subst (λ (p : Progress). Stands device number text (moved (Some at) p) bytes) (sym before)
    (still progress at device number text bytes stands same so below)
looked fresh progress at device number text bytes false is stands same so within below =
    let first = first_offset fresh (Some at) in
    let new : Progress = record progress { begun = true; heard = first } in
    let before : begun fresh (Some at) progress ≡ new = ap (λ b. if b then progress else new) is in
    let most : first ≤ length text = omega (arith, first_below fresh at, within) in
    let long = length-take-le first text most in
    let begins : Stands device number text new [] = record {
      there = stands.there;
      known = stands.known;
      front = take first text;
      behind = drop first text;
      parts = take-append-drop first text;
      whole = ap (λ n. n % 384) long ∙ first_whole fresh at;
      heard = omega (arith, long);
      unbegun = λ not_begun. absurd (true≢false not_begun);
    } in
    subst (λ bs. Stands device number text (progress_after fresh (Some at) progress) bs) (sym (stands.unbegun is))
    (subst (λ (p : Progress). Stands device number text (moved (Some at) p) []) (sym before)
    (still new at device number text [] begins same so (first_below fresh at)))

-- the same after a request is read
gone_on : (progress : Progress) (device number position : ℕ) (text bytes block : List ℕ)
    → Stands device number text progress bytes → progress.begun ≡ true → position ≡ progress.heard
    → block ≡ take 384 (drop position text) → length block ≡ 384
    → Stands device number text (record progress { heard = progress.heard + 384 }) (bytes ++ block)
gone_on progress device number position text bytes block stands begun at same long =
    let ahead : drop position text ≡ stands.behind =
    ap (λ t. drop position t) (sym stands.parts ∙ sym (append_assoc stands.front bytes stands.behind))
    ∙ drop_at (stands.front ++ bytes) stands.behind position
    (length-append stands.front bytes ∙ sym (at ∙ stands.heard)) in
    let next : block ++ drop 384 stands.behind ≡ stands.behind =
    ap (λ b. b ++ drop 384 stands.behind) (same ∙ ap (take 384) ahead) ∙ take-append-drop 384 stands.behind in
    record {
      there = stands.there;
      known = stands.known;
      front = stands.front;
      behind = drop 384 stands.behind;
      parts = ap (λ rest. stands.front ++ rest)
          (append_assoc bytes block (drop 384 stands.behind) ∙ ap (λ rest. bytes ++ rest) next) ∙ stands.parts;
      whole = stands.whole;
      heard = omega (arith, stands.heard, length-append bytes block, long);
      unbegun = λ not_begun. absurd (true≢false (sym begun ∙ not_begun));
    }

stands : (device number : ℕ) (text : List ℕ) (fresh : Bool) (told : List ChannelCall) → ReadsConsecutively fresh told
    → AreOfFile device number text fresh told → Stands device number text (progress_of fresh told) (bytes_read told)
stands device number text fresh [] on of = record {
  there = refl;
  known = inl refl;
  front = [];
  behind = text;
  parts = refl;
  whole = refl;
  heard = refl;
  unbegun = λ _. refl;
}
stands device number text fresh (found file ∷ told) on ((at, is, same, so, within, below), of) =
    subst (λ f. Stands device number text (progress_after fresh f (progress_of fresh told)) (bytes_read told)) (sym is)
    (looked fresh (progress_of fresh told) at device number text (bytes_read told) (progress_of fresh told).begun refl
    (stands device number text fresh told on of) same so within below)
stands device number text fresh (read position block ∷ told) (at, long, on) (begun, same, of) =
    gone_on (progress_of fresh told) device number position text (bytes_read told) block
    (stands device number text fresh told on of) begun at same long

-- if the whole text was read, the bytes that were read are all of it after a prefix of whole requests
pub all_read : (device number : ℕ) (text : List ℕ) (fresh : Bool) (told : List ChannelCall)
    → ReadsConsecutively fresh told
    → AreOfFile device number text fresh told → (progress_of fresh told).heard ≡ length text
    → (front : List ℕ) × (front ++ bytes_read told ≡ text) × (length front % 384 ≡ 0)
all_read device number text fresh told on of all =
    let all_stands = stands device number text fresh told on of in
    let bytes = bytes_read told in
    let none : length all_stands.behind ≡ 0 = omega (
      arith,
      all_stands.heard,
      all,
      ap length all_stands.parts,
      length-append all_stands.front (bytes ++ all_stands.behind),
      length-append bytes all_stands.behind,
    ) in (
      all_stands.front,
      ap (λ rest. all_stands.front ++ rest)
          (sym (append-nil bytes) ∙ ap (λ rest. bytes ++ rest) (sym (none_of all_stands.behind none)))
          ∙ all_stands.parts,
      all_stands.whole,
    )
  where
    none_of : (xs : List ℕ) → length xs ≡ 0 → xs ≡ []
    none_of [] h = refl
    none_of (x ∷ xs) h = absurd (omega (arith, h))
