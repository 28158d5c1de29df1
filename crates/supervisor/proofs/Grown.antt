-- What the parts of a turn do to a log that only takes more, whatever is answered.
use Rattle.supervisor.proofs.Words.{arith, ◌≡◌, ◌<◌, ℕ, true, ◌&&◌, List, [], ◌++◌, Option, list_all, option_to_list}
use Rattle.supervisor.proofs.Words.{HeardRequest, PartialBlock, ReaderAfter, requests_in_blocks, Step, is_request}
use Rattle.supervisor.proofs.Words.{decide, state_of, CoreState}
use Rattle.supervisor.proofs.Words.{after_step, are_fields, has_short_seconds, is_goal, is_stage, passes, IsTextOf}
use Rattle.supervisor.proofs.Words.{LogState, ExtendsLogFromCore, ExtendsLogFromReader, HasReadSomeBytes}
use Rattle.supervisor.proofs.Words.{ExtendsLogFromCore-then, Point, bytes_after}
use Rattle.supervisor.proofs.Words.{piece_fed, is_short_step}
use Rattle.core_model.specs.declared.parts.CoreFields.{CoreFields}
use Rattle.reexec_state.proofs.Lasting.{step_lasts}
use Rattle.core_text.proofs.Bodies.{state_parts}

-- ---- requests

-- a reader of requests that has read some bytes has read more after a piece, and the request that it returns has at
-- most 3,600 seconds
pub piece_reads : (old new : PartialBlock) (part : List ℕ) (given : Option HeardRequest) → old.count < 384
    → ((bytes : List ℕ) → ReaderAfter old bytes → ReaderAfter new (bytes ++ part))
    → ((bytes : List ℕ) → ReaderAfter old bytes
    → requests_in_blocks (bytes ++ part) ≡ requests_in_blocks bytes ++ option_to_list given)
    → HasReadSomeBytes old → HasReadSomeBytes new × (list_all is_request (option_to_list given) ≡ true)
piece_reads old new part given some fed gots read =
    let p : Point = record { over = read.0; lates = 0; generation = 0; past = [] } in
    let reads = piece_fed old new part given p some read.1 fed gots in
    (((bytes_after part p).over, reads.0), reads.2)

-- ---- steps

-- if the seconds of the core after a step are at most 3,600, so are those of the step
short_made : (made : Step) (c : CoreState) → has_short_seconds (after_step made c) ≡ true → is_short_step made ≡ true
short_made made c short = grind arith

-- the seconds of a step that the core returns are at most 3,600 if those of the core are
pub decide_short : (c : CoreState) → has_short_seconds c ≡ true → is_short_step (decide c) ≡ true
decide_short c short = short_made (decide c) c (step_lasts c short)

-- ---- re-executions

fields_short : (h : CoreFields) → are_fields h ≡ true
    → (is_stage h.stage h.grace && is_goal h.goal && passes is_goal h.level_wish) ≡ true
fields_short h are = grind arith

-- the seconds of a core whose state is a text are at most 3,600
pub text_short : (c : CoreState) (text : List ℕ) → IsTextOf text (state_of c) → has_short_seconds c ≡ true
text_short c text says = fields_short c.fields (state_parts says.0 (state_of c) says.1.0).fields

-- ---- turns

pub turn_grows : (l₀ l₁ l₂ l₃ l₄ : LogState) (c₀ c₁ c₂ c₃ c₄ : CoreState) (b₀ b₁ : PartialBlock)
    → ExtendsLogFromCore c₀ c₁ l₀ l₁
    → ExtendsLogFromReader c₁ c₂ b₀ b₁ l₁ l₂ → ExtendsLogFromCore c₂ c₃ l₂ l₃ → ExtendsLogFromCore c₃ c₄ l₃ l₄
    → ExtendsLogFromReader c₀ c₄ b₀ b₁ l₀ l₄
turn_grows l₀ l₁ l₂ l₃ l₄ c₀ c₁ c₂ c₃ c₄ b₀ b₁ clock takes lates steps read =
    let heard = takes read in (
      heard.0,
      ExtendsLogFromCore-then c₀ c₁ c₄ l₀ l₁ l₄ clock
          (ExtendsLogFromCore-then c₁ c₂ c₄ l₁ l₂ l₄ heard.1 (ExtendsLogFromCore-then c₂ c₃ c₄ l₂ l₃ l₄ lates steps)),
    )
