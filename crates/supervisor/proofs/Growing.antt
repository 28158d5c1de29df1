-- A log that only takes more: for one happening, for none, and for two parts, whatever a host answers.
use Rattle.supervisor.proofs.EdgeWords.{arith, ◌≡◌, refl, sym, ◌∙◌, subst, true, false, [], ◌++◌, append-nil}
use Rattle.supervisor.proofs.EdgeWords.{append_assoc}
use Rattle.supervisor.proofs.EdgeWords.{Result, Ok, Err, OnOk, OnErr, false≢true, PartialBlock, Event, is_in_range}
use Rattle.supervisor.proofs.EdgeWords.{is_short}
use Rattle.supervisor.proofs.EdgeWords.{CoreState, LogFault, LogState, AcceptsHappening, Stays, Grows}
use Rattle.supervisor.proofs.EdgeWords.{ExtendsLogFromCore}
use Rattle.supervisor.proofs.EdgeWords.{ExtendsLogFromReader}
use Rattle.core_text.specs.Range.{has_short_seconds}

pub Grows-none : (log : LogState) → Grows log log
Grows-none log = record {
  told = λ before taken. ([], subst log.taken (sym (append-nil before)) taken, λ h. refl);
  stays = λ h. h;
}

pub Grows-then : (old mid new : LogState) → Grows old mid → Grows mid new → Grows old new
Grows-then old mid new first second = record {
  told = λ before taken.
      let one = first.told before taken in
      let two = second.told (before ++ one.0) one.1 in (
        one.0 ++ two.0,
        subst new.taken (append_assoc before one.0 two.0) two.1,
        λ failed. (λ i. one.2 failed i ++ two.2 (first.stays failed) i),
      );
  stays = λ h. second.stays (first.stays h);
}

-- a log that had not failed was given a happening
pub Grows-handed : (old new : LogState) (happening : Event) (result : Result (Unit {0}) LogFault) → old.failed ≡ false
    → (is_short happening ≡ true → is_in_range happening ≡ true)
    → OnOk result (is_in_range happening ≡ true → AcceptsHappening old new happening)
    → OnErr result (is_in_range happening ≡ true → Stays old new) → is_short happening ≡ true → Grows old new
Grows-handed old new happening (Ok tt) works ranged gains stays short = grind arith
Grows-handed old new happening (Err fault) works ranged gains stays short = record {
  told = λ before taken. ([], subst new.taken (sym (append-nil before)) (stays (ranged short) before taken), λ h. refl);
  stays = λ h. absurd (false≢true (sym works ∙ h));
}

-- Together with a core.

pub ExtendsLogFromCore-none : (c : CoreState) (log : LogState) → ExtendsLogFromCore c c log log
ExtendsLogFromCore-none c log short = (short, Grows-none log)

pub ExtendsLogFromCore-then : (c mid new : CoreState) (l₀ l₁ l₂ : LogState) → ExtendsLogFromCore c mid l₀ l₁
    → ExtendsLogFromCore mid new l₁ l₂ → ExtendsLogFromCore c new l₀ l₂
ExtendsLogFromCore-then c mid new l₀ l₁ l₂ first second short =
    let one = first short in
    let two = second one.0 in
    (two.0, Grows-then l₀ l₁ l₂ one.1 two.1)

-- the core changes, and the log takes something
pub ExtendsLogFromCore-one : (c new : CoreState) (l₀ l₁ : LogState)
    → (has_short_seconds c ≡ true → has_short_seconds new ≡ true) → Grows l₀ l₁ → ExtendsLogFromCore c new l₀ l₁
ExtendsLogFromCore-one c new l₀ l₁ lasts grows short = (lasts short, grows)

-- the log takes something first
pub ExtendsLogFromCore-behind : (c new : CoreState) (l₀ l₁ l₂ : LogState) → Grows l₀ l₁ → ExtendsLogFromCore c new l₁ l₂
    → ExtendsLogFromCore c new l₀ l₂
ExtendsLogFromCore-behind c new l₀ l₁ l₂ first second =
    ExtendsLogFromCore-then c c new l₀ l₁ l₂ (ExtendsLogFromCore-one c c l₀ l₁ (λ short. short) first) second

-- a call in between, which left the log unchanged
pub ExtendsLogFromCore-call : {L : Type 0} (state : L → LogState) (c new : CoreState) (l₀ l₂ : LogState)
    (asked made : L)
    → made ≡ asked → Grows l₀ (state asked) → ExtendsLogFromCore c new (state made) l₂ → ExtendsLogFromCore c new l₀ l₂
ExtendsLogFromCore-call state c new l₀ l₂ asked made same first second =
    ExtendsLogFromCore-behind c new l₀ (state asked) l₂ first
    (subst (λ l. ExtendsLogFromCore c new (state l) l₂) same second)

-- Together with a reader of requests.

pub ExtendsLogFromReader-none : (c : CoreState) (blocks : PartialBlock) (log : LogState)
    → ExtendsLogFromReader c c blocks blocks log log
ExtendsLogFromReader-none c blocks log read = (read, ExtendsLogFromCore-none c log)

pub ExtendsLogFromReader-then : (c mid new : CoreState) (b₀ b₁ b₂ : PartialBlock) (l₀ l₁ l₂ : LogState)
    → ExtendsLogFromReader c mid b₀ b₁ l₀ l₁ → ExtendsLogFromReader mid new b₁ b₂ l₁ l₂
    → ExtendsLogFromReader c new b₀ b₂ l₀ l₂
ExtendsLogFromReader-then c mid new b₀ b₁ b₂ l₀ l₁ l₂ first second read =
    let one = first read in
    let two = second one.0 in
    (two.0, ExtendsLogFromCore-then c mid new l₀ l₁ l₂ one.1 two.1)
