use Rattle.core_text.proofs.CommonWords.{rules, ◌≡◌, ◌≢◌, ◌<◌, ◌^◌, Some, None, Err, length, subst, sym, ap, ◌∙◌, arith}
use Rattle.core_text.proofs.CommonWords.{common_steps, newlines, end_line_read, end_split, SavedState, Refused}
use Rattle.core_text.specs.declared.state_fault.StateFault.TheVariants.{Cut}
use Rattle.core_text.proofs.Bodies.{err_kept, match_kept}
use Rattle.core_text.proofs.Taken.{body_never, body_of, body_refused, cut_refused, end_refused, no_split, only_one}
use Rattle.core_text.proofs.Taken.{other_body, says_of, whole_of}
use Rattle.core_text.proofs.reading.read_state.Goals as goal

pub returns-in_err-body-clause-only : goal.returns-in_err-body-clause-only
returns-in_err-body-clause-only g c =
    let fits : length c.args.text.now < 2 ^ 64 = grind (arith, common_steps) in
    let none : end_split c.args.text.now ≡ None = search rules in
    λ state says same. absurd (no_split state c.args.text.now says fits none)

pub returns-in_err-body-clause-refused : goal.returns-in_err-body-clause-refused
returns-in_err-body-clause-refused g c =
    let none : end_split c.args.text.now ≡ None = search rules in
    let cut : c.in_err-body.field-0.0 ≡ Cut = search rules in
    err_kept c.from_residual.result c.in_err-body.field-0.0 _ c.from_residual.ensures.1
    (subst (λ why. Refused c.args.text.now c.args.generation why) (sym cut) (cut_refused c.args.text.now none))

pub returns-in_err-body-clause-version : goal.returns-in_err-body-clause-version
returns-in_err-body-clause-version g c other =
    let none : end_split c.args.text.now ≡ None = search rules in
    absurd (cut_refused c.args.text.now none other.0)

pub returns-in_err-parts-clause-only : goal.returns-in_err-parts-clause-only
returns-in_err-parts-clause-only g c =
    let fits : length c.args.text.now < 2 ^ 64 = grind (arith, common_steps) in
    let at : end_split c.args.text.now ≡ Some (c.in_ok-body.body.now, c.in_ok-body.last.now) = search rules in
    λ state says same.
    match_kept c.from_residual-in_err-parts.result c.in_err-parts.field-0.0 _ _ c.from_residual-in_err-parts.ensures.1
    (body_never c.args.text.now c.in_ok-body.body.now c.in_ok-body.last.now state c.in_err-parts.field-0.0 fits
    at says c.in_err-parts.ensures.err)

pub returns-in_err-parts-clause-refused : goal.returns-in_err-parts-clause-refused
returns-in_err-parts-clause-refused g c =
    let fits : length c.args.text.now < 2 ^ 64 = grind (arith, common_steps) in
    let at : end_split c.args.text.now ≡ Some (c.in_ok-body.body.now, c.in_ok-body.last.now) = search rules in
    err_kept c.from_residual-in_err-parts.result c.in_err-parts.field-0.0 _ c.from_residual-in_err-parts.ensures.1
    (body_refused c.args.text.now c.in_ok-body.body.now c.in_ok-body.last.now c.args.generation c.in_err-parts.field-0.0
    fits at c.in_err-parts.ensures.err)

pub returns-in_err-parts-clause-cut : goal.returns-in_err-parts-clause-cut
returns-in_err-parts-clause-cut g c cut =
    let at : end_split c.args.text.now ≡ Some (c.in_ok-body.body.now, c.in_ok-body.last.now) = search rules in
    absurd (cut (whole_of c.args.text.now c.in_ok-body.body.now c.in_ok-body.last.now at))

pub returns-in_err-parts-clause-version : goal.returns-in_err-parts-clause-version
returns-in_err-parts-clause-version g c other =
    let at : end_split c.args.text.now ≡ Some (c.in_ok-body.body.now, c.in_ok-body.last.now) = search rules in
    let why : c.from_residual-in_err-parts.result ≡ Err c.in_err-parts.field-0.0 =
    search (rules, c.from_residual-in_err-parts.ensures) in
    why
    ∙ c.in_err-parts.ensures.version (other_body c.args.text.now c.in_ok-body.body.now c.in_ok-body.last.now at other)

pub returns-then-not-counts-clause-only : goal.returns-then-not-counts-clause-only
returns-then-not-counts-clause-only g c =
    let fits : length c.args.text.now < 2 ^ 64 = grind (arith, common_steps) in
    let at : end_split c.args.text.now ≡ Some (c.in_ok-body.body.now, c.in_ok-body.last.now) = search rules in
    let other : end_line_read c.in_ok-body.last.now ≢ Some (newlines c.in_ok-body.body.now) = search rules in
    λ state says same. absurd
    (other (body_of state c.args.text.now c.in_ok-body.body.now c.in_ok-body.last.now says fits at).1)

pub returns-then-not-counts-clause-refused : goal.returns-then-not-counts-clause-refused
returns-then-not-counts-clause-refused g c =
    let fits : length c.args.text.now < 2 ^ 64 = grind (arith, common_steps) in
    let at : end_split c.args.text.now ≡ Some (c.in_ok-body.body.now, c.in_ok-body.last.now) = search rules in
    let other : end_line_read c.in_ok-body.last.now ≢ Some (newlines c.in_ok-body.body.now) = search rules in
    end_refused c.args.text.now c.in_ok-body.body.now c.in_ok-body.last.now c.in_ok-parts.parts fits
    at c.in_ok-parts.ensures.ok other

pub returns-then-not-counts-clause-cut : goal.returns-then-not-counts-clause-cut
returns-then-not-counts-clause-cut g c cut =
    let at : end_split c.args.text.now ≡ Some (c.in_ok-body.body.now, c.in_ok-body.last.now) = search rules in
    absurd (cut (whole_of c.args.text.now c.in_ok-body.body.now c.in_ok-body.last.now at))

pub returns-then-not-counts-clause-version : goal.returns-then-not-counts-clause-version
returns-then-not-counts-clause-version g c other =
    let at : end_split c.args.text.now ≡ Some (c.in_ok-body.body.now, c.in_ok-body.last.now) = search rules in
    let never =
    c.in_ok-parts.ensures.version (other_body c.args.text.now c.in_ok-body.body.now c.in_ok-body.last.now at other) in
    absurd (cc)

pub returns-then-parts-generation-clause-only : goal.returns-then-parts-generation-clause-only
returns-then-parts-generation-clause-only g c =
    let fits : length c.args.text.now < 2 ^ 64 = grind (arith, common_steps) in
    let at : end_split c.args.text.now ≡ Some (c.in_ok-body.body.now, c.in_ok-body.last.now) = search rules in
    let other : c.in_ok-parts.parts.fields.generation ≢ c.args.generation = search rules in
    λ state says same. absurd
    (other (ap (λ (s : SavedState). s.fields.generation) (only_one c.args.text.now c.in_ok-body.body.now
    c.in_ok-body.last.now c.in_ok-parts.parts state fits at c.in_ok-parts.ensures.ok says) ∙ same))

pub returns-then-parts-generation-clause-refused : goal.returns-then-parts-generation-clause-refused
returns-then-parts-generation-clause-refused g c =
    let at : end_split c.args.text.now ≡ Some (c.in_ok-body.body.now, c.in_ok-body.last.now) = search rules in
    let end : end_line_read c.in_ok-body.last.now ≡ Some (newlines c.in_ok-body.body.now) = search rules in
    let other : c.in_ok-parts.parts.fields.generation ≢ c.args.generation = search rules in
    record {
      state = c.in_ok-parts.parts;
      says = says_of c.in_ok-parts.parts c.args.text.now c.in_ok-body.body.now c.in_ok-body.last.now
          at c.in_ok-parts.ensures.ok end;
      other = other;
    }

pub returns-then-parts-generation-clause-cut : goal.returns-then-parts-generation-clause-cut
returns-then-parts-generation-clause-cut g c cut =
    let at : end_split c.args.text.now ≡ Some (c.in_ok-body.body.now, c.in_ok-body.last.now) = search rules in
    absurd (cut (whole_of c.args.text.now c.in_ok-body.body.now c.in_ok-body.last.now at))

pub returns-then-parts-generation-clause-version : goal.returns-then-parts-generation-clause-version
returns-then-parts-generation-clause-version g c other =
    let at : end_split c.args.text.now ≡ Some (c.in_ok-body.body.now, c.in_ok-body.last.now) = search rules in
    let never =
    c.in_ok-parts.ensures.version (other_body c.args.text.now c.in_ok-body.body.now c.in_ok-body.last.now at other) in
    absurd (cc)

pub returns-clause-read : goal.returns-clause-read
returns-clause-read g c =
    let at : end_split c.args.text.now ≡ Some (c.in_ok-body.body.now, c.in_ok-body.last.now) = search rules in
    let end : end_line_read c.in_ok-body.last.now ≡ Some (newlines c.in_ok-body.body.now) = search rules in
    says_of c.in_ok-parts.parts c.args.text.now c.in_ok-body.body.now c.in_ok-body.last.now
    at c.in_ok-parts.ensures.ok end

pub returns-clause-only : goal.returns-clause-only
returns-clause-only g c =
    let fits : length c.args.text.now < 2 ^ 64 = grind (arith, common_steps) in
    let at : end_split c.args.text.now ≡ Some (c.in_ok-body.body.now, c.in_ok-body.last.now) = search rules in
    λ state says same. only_one c.args.text.now c.in_ok-body.body.now c.in_ok-body.last.now c.in_ok-parts.parts state
    fits at c.in_ok-parts.ensures.ok says

pub returns-clause-cut : goal.returns-clause-cut
returns-clause-cut g c cut =
    let at : end_split c.args.text.now ≡ Some (c.in_ok-body.body.now, c.in_ok-body.last.now) = search rules in
    absurd (cut (whole_of c.args.text.now c.in_ok-body.body.now c.in_ok-body.last.now at))

pub returns-clause-version : goal.returns-clause-version
returns-clause-version g c other =
    let at : end_split c.args.text.now ≡ Some (c.in_ok-body.body.now, c.in_ok-body.last.now) = search rules in
    let never =
    c.in_ok-parts.ensures.version (other_body c.args.text.now c.in_ok-body.body.now c.in_ok-body.last.now at other) in
    absurd (cc)
