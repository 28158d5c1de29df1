-- What a channel reads and hands on.
use Rattle.std.proofs.Common.{◌≡◌, sym, ◌∙◌, ap, subst, ◌≤◌, ℕ, ◌+◌, List, [], ◌∷◌, ◌++◌, length, drop, Bool}
use Rattle.std.proofs.lemmas.List.{drop_all}
use Rattle.program_io.specs.declared.channel_files.TheConstants.{REQUEST}
use Rattle.host_files.specs.declared.channel_progress.Progress.{Progress}
use Rattle.host_files.specs.Channels.{ChannelCall, ChannelState, HandedBytes, ReadsConsecutively, bytes_read}
use Rattle.host_files.specs.Channels.{progress_of}
use Rattle.host_files.specs.Channels.ChannelCall.{read}

abbrev pub Stands : Bool → Progress → List ChannelCall → Type 0
Stands fresh progress told = ReadsConsecutively fresh told × (progress ≡ progress_of fresh told)

-- the position moved to this byte
abbrev pub heard_to : Progress → ℕ → Progress
heard_to progress end = record { begun = progress.begun; heard = end; missing = progress.missing; file = progress.file }

-- reading a whole request at the position keeps the channel's invariant
pub read_on : (fresh : Bool) (told new : List ChannelCall) (progress : Progress) (block : List ℕ) (end : ℕ)
    → Stands fresh progress told → new ≡ read progress.heard block ∷ told → length block ≡ REQUEST
    → end ≡ progress.heard + REQUEST → Stands fresh (heard_to progress end) new
read_on fresh told new progress block end (are, at) reads long adds =
    subst (Stands fresh (heard_to progress end)) (sym reads) (
      (ap (λ (p : Progress). p.heard) at, long, are),
      ap (heard_to progress) adds ∙ ap (λ (p : Progress). heard_to p (p.heard + REQUEST)) at,
    )

-- if a reading fails while nothing is left to hand on, nothing is left afterwards, whatever its buffer contains
pub still_none : (old : ChannelState) (h : ℕ) (request again : List ℕ) (told new : List ChannelCall)
    → drop h request ≡ old.rest → length again ≤ h → bytes_read told ≡ bytes_read old.told → new ≡ told
    → old.rest ≡ [] → (handed : List ℕ) → HandedBytes old handed → handed ++ drop h again ≡ bytes_read new
still_none old h request again told new rest past same is none handed was =
    ap (λ xs. handed ++ xs) (drop_all h again past ∙ sym none) ∙ was ∙ sym same ∙ ap bytes_read (sym is)
