-- The outcome of a state text that is carried.
use Rattle.supervisor.proofs.Words.{◌≡◌, refl, sym, ap, ◌∙◌, subst, ℕ, Bool, true, false, ◌==◌, ◌||◌, not, nat_lt, List}
use Rattle.supervisor.proofs.Words.{[], ◌∷◌, ◌++◌, length, drop, append-nil, Option, Some, Ok, arith, length-append}
use Rattle.supervisor.proofs.Words.{starts_with, option_map_or, false≢true, and_from, and_parts, eq-eqb, eqb-true}
use Rattle.supervisor.proofs.Words.{ltb-true, same_Some, same_id-self, Event, FitsExtendedTrace, ForAllFittedTraces}
use Rattle.supervisor.proofs.Words.{SavedState}
use Rattle.supervisor.proofs.Words.{state_of, IsFit, CoreState, after_handed_on, V2, IsCut, IsOther, IsTextIn, IsTextOf}
use Rattle.supervisor.proofs.Words.{generation_said, LogState, AddsStamped, KeptAt, Made, kept_led, kept_still, Goal}
use Rattle.supervisor.proofs.Words.{Point, Announce, Carry, TextRead, past_of, came_cut, carrying, is_of_generation}
use Rattle.supervisor.proofs.Words.{is_outcome, same_text, TookFirstDueStep, CallsLead, Logs, Tracks, comes_back}
use Rattle.supervisor.proofs.Words.{HandedOn}
use Rattle.supervisor.proofs.Words.{CallsLead-carried, HandOverYields, IsStep, MakesOver, AnnouncesRefusal}
use Rattle.std.proofs.lemmas.Bool.Decides.{Decides-eqb}
use Rattle.std.proofs.lemmas.Slice.Eq.{starts_is}
use Rattle.trace_events.specs.declared.happenings.Handed.{Handed as HandOver}
use Rattle.trace_events.specs.declared.happenings.Handed.TheVariants as handed
use Rattle.trace_events.specs.declared.happenings.Happening.TheVariants as past
use Rattle.trace_events.specs.declared.steps.Step.TheVariants as step
use Rattle.core_text.specs.Range as range
use Rattle.core_text.specs.Reading.{generation_of}
use Rattle.core_text.proofs.Ends.{no_prefix, whole_ends}
use Rattle.supervisor.proofs.Parts.{MadeCallsLead-one, MadeCallsLead-two}

-- ---- what came back was taken over

-- the text of a state names the generation of the state
names_own : (back : List ℕ) (other : SavedState) (generation : ℕ) → IsTextOf back other
    → other.fields.generation ≡ generation → is_of_generation generation back ≡ true
names_own back other generation said own =
    ap (λ o. option_map_or (λ g. g == generation) o false) (generation_said back other said)
    ∙ eq-eqb other.fields.generation generation own

begins : (text back : List ℕ) → starts_with ◌==◌ text back ≡ true → text ≡ back ++ drop (length back) text
begins text back h = (starts_is Decides-eqb text back _ refl).0 h

-- a text that is taken over came back unchanged, so init's core is unchanged
pub taken_back : (old next : CoreState) (text back : List ℕ) → IsTextOf text (state_of old) → IsFit old
    → comes_back old.fields.generation text (Ok back) ≡ true → IsTextOf back (state_of next)
    → next.fields.generation ≡ old.fields.generation → ((core : CoreState) → IsFit core → IsTextOf back (state_of core)
    → core.fields.generation ≡ old.fields.generation → next ≡ core) → (next ≡ old) × (same_text text back ≡ true)
taken_back old next text back says fit comes said own only = by (starts_with ◌==◌ text back) refl comes
  where
    whole : starts_with ◌==◌ text back ≡ true → (next ≡ old) × (same_text text back ≡ true)
    whole starts =
        let parts : text ≡ back ++ drop (length back) text = begins text back starts in
        let none : drop (length back) text ≡ [] = no_prefix (state_of next) (state_of old) back
        (drop (length back) text) said (subst (λ t. IsTextOf t (state_of old)) parts says) in
        let same : text ≡ back = parts ∙ ap (λ l. back ++ l) none ∙ append-nil back in (
          only old fit (subst (λ t. IsTextOf t (state_of old)) same says) refl,
          subst (λ t. same_text text t ≡ true) same (same_id-self text),
        )

    by : (b : Bool) → starts_with ◌==◌ text back ≡ b → (b || not (is_of_generation old.fields.generation back)) ≡ true
        → (next ≡ old) × (same_text text back ≡ true)
    by true starts h = whole starts
    by false starts h =
        absurd (false≢true (ap not (sym (names_own back (state_of next) old.fields.generation said own)) ∙ h))

-- ---- what came back was rejected

-- a text that was not rejected as cut is no proper prefix of the state's text
pub failed_said : (text back : List ℕ) (state : SavedState) → IsTextOf text state → (IsCut back → ⊥)
    → is_outcome handed.Failed text (Ok back) ≡ true
failed_said text back state says never = by (came_cut text (Ok back)) refl
  where
    by : (b : Bool) → came_cut text (Ok back) ≡ b → not b ≡ true
    by true cut =
        let parts = and_parts (starts_with ◌==◌ text back) (nat_lt (length back) (length text)) cut in
        let whole : text ≡ back ++ drop (length back) text = begins text back parts.0 in
        let less = ltb-true (length back) (length text) parts.1 in
        absurd (never (λ is. omega (
          arith,
          less,
          ap length whole,
          length-append back (drop (length back) text),
          ap length (whole_ends text back (drop (length back) text) state says (sym whole) is),
        )))
    by false cut = refl

pub older_said : (text back : List ℕ) (own g : ℕ) → generation_of text ≡ Some own → generation_of back ≡ Some g
    → IsOther back own → is_outcome (handed.Older g) text (Ok back) ≡ true
older_said text back own g says names other = and_from (is_of_generation g back) (not (is_of_generation g text))
    (ap (λ o. option_map_or (λ n. n == g) o false) names ∙ eq-eqb g g refl)
    (ap not (ap (λ o. option_map_or (λ n. n == g) o false) says) ∙ apart (own == g) refl)
  where
    is : other.state.fields.generation ≡ g
    is = same_Some other.state.fields.generation g (sym (generation_said back other.state other.says) ∙ names)

    apart : (b : Bool) → (own == g) ≡ b → not b ≡ true
    apart true same = absurd (other.other (is ∙ sym (eqb-true own g same)))
    apart false differ = refl

-- ---- the calls of a hand-over

-- the state was handed over as a text, the text was carried, and the outcome was announced unless it was taken over
pub MadeCallsLead-carried : {L : Type 0} (state : L → LogState) (old mid new : Option (List (Made L))) (l₀ l₁ : L)
    (c next behind : CoreState) (how : HandOver) (text : List ℕ) (back : TextRead)
    → AddsStamped old mid (Carry text back) l₀ → AnnouncesRefusal how mid new l₁
    → next ≡ after_handed_on c
    → ForAllFittedTraces c
    (λ goal so_far. (h : HandOver) → FitsExtendedTrace c next goal so_far (past.Handed h ∷ so_far))
    → (range.has_short_seconds c ≡ true → IsTextIn V2 text (state_of next) × IsFit next)
    → HandOverYields how text back next behind
    → ((so_far : List Event) → Logs (state l₀) (state l₁) so_far (past.Handed how ∷ so_far))
    → MakesOver state old new (state l₀) (state l₁) IsStep (TookFirstDueStep (Tracks c) step.Reexec) (Tracks behind)
MadeCallsLead-carried {L = L} state old mid new l₀ l₁ c next behind how text back adds says is fits said comes took =
    by how adds says leads
  where
    before : Goal → Point → Type 0
    before = TookFirstDueStep (Tracks c) step.Reexec

    handed_on : HandedOn c next text
    handed_on = record {
      fits = fits;
      own = ap (λ (s : CoreState). s.fields.generation) is;
      short = ap range.has_short_seconds is;
      says = said;
    }

    leads : CallsLead before (Tracks behind) (state l₀) (state l₁) (carrying how text back)
    leads = CallsLead-carried c next behind (state l₀) (state l₁) how text back handed_on comes took

    carried : KeptAt past_of before (state l₀) (state l₀) (Carry text back) []
    carried = kept_still before (state l₀) (Carry text back) (λ so_far. refl)

    refused : (h : HandOver) → IsStep (Announce (past.Handed h) ∷ Carry text back ∷ [])
        → AddsStamped old mid (Carry text back) l₀ → AddsStamped mid new (Announce (past.Handed h)) l₁
        → CallsLead before (Tracks behind) (state l₀) (state l₁) (Announce (past.Handed h) ∷ Carry text back ∷ [])
        → MakesOver state old new (state l₀) (state l₁) IsStep before (Tracks behind)
    refused h shape first second goes =
        MadeCallsLead-two state old mid new (state l₀) (state l₁) l₀ l₁ (Carry text back)
        (Announce (past.Handed h)) IsStep before (Tracks behind) refl first second shape goes carried
        (kept_led before (Tracks behind) (state l₀) (state l₁) (past.Handed h) (Carry text back ∷ []) goes)

    by : (h : HandOver) → AddsStamped old mid (Carry text back) l₀ → AnnouncesRefusal h mid new l₁
        → CallsLead before (Tracks behind) (state l₀) (state l₁) (carrying h text back)
        → MakesOver state old new (state l₀) (state l₁) IsStep before (Tracks behind)
    by handed.Whole first none goes =
        MadeCallsLead-one state old new (state l₀) (state l₁) l₀ (Carry text back) IsStep before
        (Tracks behind) (subst (λ t. AddsStamped old t (Carry text back) l₀) (sym none) first) refl goes carried
    by (handed.Cut bytes) first second goes = refused (handed.Cut bytes) refl first second goes
    by (handed.Older generation) first second goes = refused (handed.Older generation) refl first second goes
    by handed.Failed first second goes = refused handed.Failed refl first second goes
